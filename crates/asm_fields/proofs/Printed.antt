-- Words, instructions and operands that were printed are read again.
use Rattle.std.proofs.Common.{◌≡◌, ℕ, suc, ◌+◌, ◌*◌, ◌<◌, ◌≤◌, Bool, true, false, List, [], ◌∷◌, ◌++◌, map}
use Rattle.std.proofs.Common.{length, Some, Ok, refl, sym, ap, ◌∙◌, subst, append-nil, arith, lit<, lit≤}
use Rattle.std.proofs.Common.{le-leb, rules}
use Rattle.std.specs.Prelude.{ℤ, pos, negsuc, nat_le, FitsSigned, if◌then◌else◌, not, ◌&&◌}
use Rattle.std.specs.Int.{w32, w64}
use Rattle.std.specs.List.{list_all, flat_map, join_with_byte, AllByRecursion}
use Rattle.std.specs.Fmt.{decimal, signed_decimal}
use Rattle.std.proofs.lemmas.Bool.{and_parts, leb-true}
use Rattle.std.proofs.lemmas.Bool.Decides.{nat_tests}
use Rattle.std.proofs.lemmas.Fmt.{length-decimal-le}
use Rattle.text_scan.specs.Bytes.{is_name_start, is_name_byte}
use Rattle.text_scan.specs.Tokens.{first_of}
use Rattle.text_scan.specs.Grammar.{IsName}
use Rattle.text_scan.proofs.Offers.{Form, InNumbers, name_form, sign_form, integer_forms, IsField, IsPrinted}
use Rattle.text_scan.proofs.Offers.{widened, rest_all, printed, name_field, directive_field, number_field}
use Rattle.text_scan.proofs.Offers.{integer_field}
use Rattle.cap_words.specs.declared.Perm.{Perm}
use Rattle.cap_words.specs.declared.Perm.TheVariants.{No, R as ReadOnly, Rw, Rx, Rwx}
use Rattle.cap_words.specs.declared.Lin.{Lin}
use Rattle.cap_words.specs.declared.Lin.TheVariants.{Normal, Linear}
use Rattle.cap_words.specs.declared.CapFields.{CapFields}
use Rattle.cap_words.specs.declared.SealFields.{SealFields}
use Rattle.cap_words.specs.declared.Word.TheVariants as word
use Rattle.cap_words.specs.Text.{perm_name, lin_name, named, perm_named, lin_named}
use Rattle.cap_words.specs.Face.{CapInOrder}
use Rattle.lcm_isa.specs.declared.Reg.{Reg}
use Rattle.lcm_isa.specs.declared.Reg.TheVariants.{Pc, Rcode, Rdata, Stk, Dat, T1, T2, C1, C2, A0, A1, A2}
use Rattle.lcm_isa.specs.declared.Reg.TheVariants.{A3, G0, G1, G2}
use Rattle.lcm_isa.specs.declared.Operand.{Operand}
use Rattle.lcm_isa.specs.declared.Operand.TheVariants.{R, Imm}
use Rattle.lcm_isa.specs.declared.Instr.{Instr}
use Rattle.lcm_isa.specs.declared.Instr.TheVariants.{Fail, Halt, Jmp, Jnz, Gettype, Geta, Getb, Gete, Getp}
use Rattle.lcm_isa.specs.declared.Instr.TheVariants.{Getlin, Move, Store, Load, Cca, Restrict, Lt, Plus}
use Rattle.lcm_isa.specs.declared.Instr.TheVariants.{Minus, Seta2b, Xjmp, Cseal, Split, Splice}
use Rattle.lcm_isa.specs.Numbers.{IsInstr, IsOperand, all_with}
use Rattle.lcm_isa.specs.Texts.{reg_name, mnemonic_of, operand_text, operands_of, instr_text}
use Rattle.lcm_isa.proofs.Offers.{few}
use Rattle.cap_words.specs.Names.{is_name, is_name_byte as is_file_name_byte, is_digit as is_file_digit}
use Rattle.component_file.specs.declared.component.Kind.{Kind}
use Rattle.component_file.specs.declared.component.Kind.TheVariants as kind
use Rattle.asm_fields.specs.declared.fault.AsmFault.TheVariants as fault
use Rattle.asm_fields.specs.declared.directives.WordKind.TheVariants as word_kind
use Rattle.asm_fields.specs.declared.directives.ItemKind.TheVariants as item
use Rattle.asm_fields.specs.declared.directives.Directive.{Directive}
use Rattle.asm_fields.specs.declared.directives.Directive.TheVariants as directive
use Rattle.asm_fields.specs.Directives.{directive_name}
use Rattle.readers.specs.Readers.{◌>>=◌, done}
use Rattle.asm_fields.specs.Fields.{natural_at, Lexeme, is_sign, is_name_token, sign_at, proper_name_from}
use Rattle.asm_fields.specs.Fields.{percent}
use Rattle.cap_words.proofs.Offers.{perm_again, lin_again}
use Rattle.asm_fields.specs.Names.{reg_named, ownership, shared_named, kind_name}
use Rattle.asm_fields.specs.Words.{i64_at, cap_at, seals_at, word_behind, word_line}
use Rattle.asm_fields.specs.Instrs.{i32_at, Plain, Code, Data, reg_at, plain_at, last_at, last_if, reg_if}
use Rattle.asm_fields.specs.Instrs.{shape_of, row_named, operands_at}
use Rattle.asm_fields.specs.Operands.{address_at, stretch_at, Number, offset_at, shared_at}
use Rattle.asm_fields.proofs.Again.{Alike, Again, Whole, Within, at_front, left, again_then, again_last}
use Rattle.asm_fields.proofs.Again.{again_done, again_some, again_placed, again_meant, again_no_sign}
use Rattle.asm_fields.proofs.Again.{again_integer, again_natural, whole_then, whole_end, whole_of, whole_line}

-- ---- names

byte_is : (b : ℕ) → is_file_name_byte b ≡ true → is_name_byte b ≡ true
byte_is b h = grind (arith, nat_tests)

bytes_are : (name : List ℕ) → list_all is_file_name_byte name ≡ true → list_all is_name_byte name ≡ true
bytes_are [] h = refl
bytes_are (b ∷ bs) h =
    let p = and_parts (is_file_name_byte b) (list_all is_file_name_byte bs) h in
    let one = byte_is b p.0 in
    let others = bytes_are bs p.1 in
    rw (one, others) refl

start_is : (b : ℕ) → not (is_file_digit b) ≡ true → is_file_name_byte b ≡ true → is_name_start b ≡ true
start_is b h k = grind (arith, nat_tests)

-- a name as components have them
pub record IsProper (name : List ℕ) : Type 0 where
  pub is : IsName name
  pub short : length name ≤ 31

pub proper : (name : List ℕ) → is_name name ≡ true → IsProper name
unfolding is_name
proper [] h = absurd cc
proper (b ∷ bs) h =
    let p = and_parts (nat_le 1 (length (b ∷ bs)) && nat_le (length (b ∷ bs)) 31 && not (is_file_digit b))
    (list_all is_file_name_byte (b ∷ bs)) h in
    let q = and_parts (nat_le 1 (length (b ∷ bs)) && nat_le (length (b ∷ bs)) 31)
    (not (is_file_digit b)) p.0 in
    let r = and_parts (nat_le 1 (length (b ∷ bs))) (nat_le (length (b ∷ bs)) 31) q.0 in
    let first = and_parts (is_file_name_byte b) (list_all is_file_name_byte bs) p.1 in
    record {
      is = record { some = omega arith; start = start_is b q.1 first.0; bytes = bytes_are (b ∷ bs) p.1 };
      short = leb-true (length (b ∷ bs)) 31 r.1;
    }

pub proper_field : (name : List ℕ) → is_name name ≡ true → IsField 31 name (name_form name ∷ [])
proper_field name h = let p = proper name h in name_field 31 name p.is p.short

a_name : (most : ℕ) (name : List ℕ) → 0 < length name → is_name_start (first_of name) ≡ true
    → list_all is_name_byte name ≡ true → length name ≤ most → IsField most name (name_form name ∷ [])
a_name most name a b c d = name_field most name (record { some = a; start = b; bytes = c }) d

pub perm_field : (x : Perm) → IsField 3 (perm_name x) (name_form (perm_name x) ∷ [])
perm_field No = a_name 3 _ (lit< tt) refl refl (lit≤ tt)
perm_field ReadOnly = a_name 3 _ (lit< tt) refl refl (lit≤ tt)
perm_field Rw = a_name 3 _ (lit< tt) refl refl (lit≤ tt)
perm_field Rx = a_name 3 _ (lit< tt) refl refl (lit≤ tt)
perm_field Rwx = a_name 3 _ (lit< tt) refl refl (lit≤ tt)

pub lin_field : (x : Lin) → IsField 3 (lin_name x) (name_form (lin_name x) ∷ [])
lin_field Normal = a_name 3 _ (lit< tt) refl refl (lit≤ tt)
lin_field Linear = a_name 3 _ (lit< tt) refl refl (lit≤ tt)

pub reg_field : (x : Reg) → IsField 5 (reg_name x) (name_form (reg_name x) ∷ [])
reg_field Pc = a_name 5 _ (lit< tt) refl refl (lit≤ tt)
reg_field Rcode = a_name 5 _ (lit< tt) refl refl (lit≤ tt)
reg_field Rdata = a_name 5 _ (lit< tt) refl refl (lit≤ tt)
reg_field Stk = a_name 5 _ (lit< tt) refl refl (lit≤ tt)
reg_field Dat = a_name 5 _ (lit< tt) refl refl (lit≤ tt)
reg_field T1 = a_name 5 _ (lit< tt) refl refl (lit≤ tt)
reg_field T2 = a_name 5 _ (lit< tt) refl refl (lit≤ tt)
reg_field C1 = a_name 5 _ (lit< tt) refl refl (lit≤ tt)
reg_field C2 = a_name 5 _ (lit< tt) refl refl (lit≤ tt)
reg_field A0 = a_name 5 _ (lit< tt) refl refl (lit≤ tt)
reg_field A1 = a_name 5 _ (lit< tt) refl refl (lit≤ tt)
reg_field A2 = a_name 5 _ (lit< tt) refl refl (lit≤ tt)
reg_field A3 = a_name 5 _ (lit< tt) refl refl (lit≤ tt)
reg_field G0 = a_name 5 _ (lit< tt) refl refl (lit≤ tt)
reg_field G1 = a_name 5 _ (lit< tt) refl refl (lit≤ tt)
reg_field G2 = a_name 5 _ (lit< tt) refl refl (lit≤ tt)

pub mnemonic_field : (x : Instr) → IsField 8 (mnemonic_of x) (name_form (mnemonic_of x) ∷ [])
mnemonic_field Fail = a_name 8 _ (lit< tt) refl refl (lit≤ tt)
mnemonic_field Halt = a_name 8 _ (lit< tt) refl refl (lit≤ tt)
mnemonic_field (Jmp a) = a_name 8 _ (lit< tt) refl refl (lit≤ tt)
mnemonic_field (Jnz a b) = a_name 8 _ (lit< tt) refl refl (lit≤ tt)
mnemonic_field (Gettype a b) = a_name 8 _ (lit< tt) refl refl (lit≤ tt)
mnemonic_field (Geta a b) = a_name 8 _ (lit< tt) refl refl (lit≤ tt)
mnemonic_field (Getb a b) = a_name 8 _ (lit< tt) refl refl (lit≤ tt)
mnemonic_field (Gete a b) = a_name 8 _ (lit< tt) refl refl (lit≤ tt)
mnemonic_field (Getp a b) = a_name 8 _ (lit< tt) refl refl (lit≤ tt)
mnemonic_field (Getlin a b) = a_name 8 _ (lit< tt) refl refl (lit≤ tt)
mnemonic_field (Move a n) = a_name 8 _ (lit< tt) refl refl (lit≤ tt)
mnemonic_field (Store a b) = a_name 8 _ (lit< tt) refl refl (lit≤ tt)
mnemonic_field (Load a b) = a_name 8 _ (lit< tt) refl refl (lit≤ tt)
mnemonic_field (Cca a n) = a_name 8 _ (lit< tt) refl refl (lit≤ tt)
mnemonic_field (Restrict a n) = a_name 8 _ (lit< tt) refl refl (lit≤ tt)
mnemonic_field (Lt a b n) = a_name 8 _ (lit< tt) refl refl (lit≤ tt)
mnemonic_field (Plus a b n) = a_name 8 _ (lit< tt) refl refl (lit≤ tt)
mnemonic_field (Minus a b n) = a_name 8 _ (lit< tt) refl refl (lit≤ tt)
mnemonic_field (Seta2b a) = a_name 8 _ (lit< tt) refl refl (lit≤ tt)
mnemonic_field (Xjmp a b) = a_name 8 _ (lit< tt) refl refl (lit≤ tt)
mnemonic_field (Cseal a b) = a_name 8 _ (lit< tt) refl refl (lit≤ tt)
mnemonic_field (Split a b c n) = a_name 8 _ (lit< tt) refl refl (lit≤ tt)
mnemonic_field (Splice a b c) = a_name 8 _ (lit< tt) refl refl (lit≤ tt)

pub shared_field : (x : Bool) → IsField 6 (ownership x) (name_form (ownership x) ∷ [])
shared_field true = a_name 6 _ (lit< tt) refl refl (lit≤ tt)
shared_field false = a_name 6 _ (lit< tt) refl refl (lit≤ tt)

pub kind_field : (x : Kind) → IsField 4 (kind_name x) (name_form (kind_name x) ∷ [])
kind_field kind.Any = a_name 4 _ (lit< tt) refl refl (lit≤ tt)
kind_field kind.Int = a_name 4 _ (lit< tt) refl refl (lit≤ tt)
kind_field kind.DataCap = a_name 4 _ (lit< tt) refl refl (lit≤ tt)
kind_field kind.Stk = a_name 4 _ (lit< tt) refl refl (lit≤ tt)
kind_field (kind.Pc offset) = a_name 4 _ (lit< tt) refl refl (lit≤ tt)
kind_field kind.Top = a_name 4 _ (lit< tt) refl refl (lit≤ tt)

reg_again : (x : Reg) → reg_named (reg_name x) ≡ Some x
reg_again Pc = refl
reg_again Rcode = refl
reg_again Rdata = refl
reg_again Stk = refl
reg_again Dat = refl
reg_again T1 = refl
reg_again T2 = refl
reg_again C1 = refl
reg_again C2 = refl
reg_again A0 = refl
reg_again A1 = refl
reg_again A2 = refl
reg_again A3 = refl
reg_again G0 = refl
reg_again G1 = refl
reg_again G2 = refl

shared_again : (x : Bool) → shared_named (ownership x) ≡ Some x
shared_again true = refl
shared_again false = refl

-- ---- directives

a_directive : (name : List ℕ) → 0 < length name → is_name_start (first_of name) ≡ true
    → list_all is_name_byte name ≡ true → length name ≤ 7
    → IsField 8 (46 ∷ name) (sign_form 46 ∷ name_form name ∷ [])
a_directive name a b c d = directive_field 7 name (record { some = a; start = b; bytes = c }) d

pub directive_is_field : (d : Directive) → IsField 8 (46 ∷ directive_name d)
    (sign_form 46 ∷ name_form (directive_name d) ∷ [])
directive_is_field (directive.Of item.Name) = a_directive _ (lit< tt) refl refl (lit≤ tt)
directive_is_field (directive.Of item.Stack) = a_directive _ (lit< tt) refl refl (lit≤ tt)
directive_is_field (directive.Of item.Closure) = a_directive _ (lit< tt) refl refl (lit≤ tt)
directive_is_field (directive.Of item.Movable) = a_directive _ (lit< tt) refl refl (lit≤ tt)
directive_is_field (directive.Of item.Seals) = a_directive _ (lit< tt) refl refl (lit≤ tt)
directive_is_field (directive.Of item.Linear) = a_directive _ (lit< tt) refl refl (lit≤ tt)
directive_is_field (directive.Of item.Code) = a_directive _ (lit< tt) refl refl (lit≤ tt)
directive_is_field (directive.Of item.Data) = a_directive _ (lit< tt) refl refl (lit≤ tt)
directive_is_field (directive.Of item.Import) = a_directive _ (lit< tt) refl refl (lit≤ tt)
directive_is_field (directive.Of item.Export) = a_directive _ (lit< tt) refl refl (lit≤ tt)
directive_is_field (directive.Of item.Site) = a_directive _ (lit< tt) refl refl (lit≤ tt)
directive_is_field (directive.Of item.Fail) = a_directive _ (lit< tt) refl refl (lit≤ tt)
directive_is_field (directive.Of item.Literal) = a_directive _ (lit< tt) refl refl (lit≤ tt)
directive_is_field (directive.Of item.Row) = a_directive _ (lit< tt) refl refl (lit≤ tt)
directive_is_field (directive.Word word_kind.Int) = a_directive _ (lit< tt) refl refl (lit≤ tt)
directive_is_field (directive.Word word_kind.Cap) = a_directive _ (lit< tt) refl refl (lit≤ tt)
directive_is_field (directive.Word word_kind.Seal) = a_directive _ (lit< tt) refl refl (lit≤ tt)

-- ---- numbers

natural_within : (low high n : ℕ) → low ≤ n → n ≤ high → Within (pos low) (pos high) (pos n)
natural_within low high n l h = let a = le-leb low n l in let b = le-leb n high h in rw (a, b) refl

i64_within : (z : ℤ) → FitsSigned w64 z → Within (negsuc 9223372036854775807) (pos 9223372036854775807) z
i64_within (pos n) h = let b = le-leb n 9223372036854775807 (omega (arith, h)) in rw b refl
i64_within (negsuc n) h = let b = le-leb n 9223372036854775807 (omega (arith, h)) in rw b refl

i64_in_numbers : (z : ℤ) → FitsSigned w64 z → InNumbers z
i64_in_numbers (pos n) h = omega (arith, h)
i64_in_numbers (negsuc n) h = omega (arith, h)

i32_within : (z : ℤ) → FitsSigned w32 z → Within (negsuc 2147483647) (pos 2147483647) z
i32_within (pos n) h = let b = le-leb n 2147483647 (omega (arith, h)) in rw b refl
i32_within (negsuc n) h = let b = le-leb n 2147483647 (omega (arith, h)) in rw b refl

i32_in_numbers : (z : ℤ) → FitsSigned w32 z → InNumbers z
i32_in_numbers (pos n) h = omega (arith, h)
i32_in_numbers (negsuc n) h = omega (arith, h)

-- an address, a count or an offset
pub place_field : (n : ℕ) → n ≤ 1048575 → IsField 7 (decimal n) (integer_forms (pos n))
place_field n h = number_field 7 n (omega (arith, h))
    (length-decimal-le 7 n (lit< tt) (omega (arith, h)) (omega (arith, h)))

pub offset_field : (n : ℕ) → n ≤ 65535 → IsField 5 (decimal n) (integer_forms (pos n))
offset_field n h = number_field 5 n (omega (arith, h))
    (length-decimal-le 5 n (lit< tt) (omega (arith, h)) (omega (arith, h)))

i64_length : (z : ℤ) → FitsSigned w64 z → length (signed_decimal z) ≤ 20
i64_length (pos n) h = let l : length (decimal n) ≤ 20 = length-decimal-le 20 n (lit< tt)
    (omega (arith, h)) (omega (arith, h)) in l
i64_length (negsuc n) h = let l : length (decimal (suc n)) ≤ 19 = length-decimal-le 19 (suc n) (lit< tt)
    (omega (arith, h)) (omega (arith, h)) in omega (arith, l)

pub i64_field : (z : ℤ) → FitsSigned w64 z → IsField 20 (signed_decimal z) (integer_forms z)
i64_field z h = integer_field 20 z (i64_in_numbers z h) (i64_length z h)

i32_length : (z : ℤ) → FitsSigned w32 z → length (signed_decimal z) ≤ 11
i32_length (pos n) h = let l : length (decimal n) ≤ 11 = length-decimal-le 11 n (lit< tt)
    (omega (arith, h)) (omega (arith, h)) in l
i32_length (negsuc n) h = let l : length (decimal (suc n)) ≤ 10 = length-decimal-le 10 (suc n) (lit< tt)
    (omega (arith, h)) (omega (arith, h)) in omega (arith, l)

i32_field : (z : ℤ) → FitsSigned w32 z → IsField 11 (signed_decimal z) (integer_forms z)
i32_field z h = integer_field 11 z (i32_in_numbers z h) (i32_length z h)

-- ---- words

-- PERM LIN BASE END ADDR
abbrev pub cap_forms : CapFields → List Form
cap_forms c = name_form (perm_name c.perm) ∷ name_form
    (lin_name c.lin)
    ∷ (integer_forms (pos c.base) ++ (integer_forms (pos c.end) ++ (integer_forms c.addr ++ [])))

-- BASE END CUR
abbrev pub seals_forms : SealFields → List Form
seals_forms s = integer_forms (pos s.base) ++ (integer_forms (pos s.end) ++ (integer_forms s.cur ++ []))

cap_at_again : (c : CapFields) → CapInOrder c → FitsSigned w64 c.addr → Again (cap_forms c) c cap_at
unfolding cap_at
cap_at_again c h k =
    again_then (name_form (perm_name c.perm) ∷ []) _ c.perm c _ _
    (again_meant perm_named (perm_name c.perm) c.perm (perm_again c.perm))
    (again_then (name_form (lin_name c.lin) ∷ []) _ c.lin c _ _
    (again_meant lin_named (lin_name c.lin) c.lin (lin_again c.lin))
    (again_then _ _ c.base c _ _
    (again_natural 0 1048575 c.base
    (natural_within 0 1048575 c.base (omega arith) (omega (arith, h.0, h.1))))
    (again_then _ _ c.end c _ _
    (again_natural c.base 1048575 c.end (natural_within c.base 1048575 c.end h.0 h.1))
    (again_then _ _ c.addr c _ _ (again_integer _ _ c.addr (i64_within c.addr k))
    (again_done c)))))

seals_at_again : (s : SealFields) → s.base ≤ s.end → s.end ≤ 1048575 → FitsSigned w64 s.cur
    → Again (seals_forms s) s seals_at
unfolding seals_at
seals_at_again s h i k =
    again_then _ _ s.base s _ _
    (again_natural 0 1048575 s.base
    (natural_within 0 1048575 s.base (omega arith) (omega (arith, h, i))))
    (again_then _ _ s.end s _ _
    (again_natural s.base 1048575 s.end (natural_within s.base 1048575 s.end h i))
    (again_then _ _ s.cur s _ _ (again_integer _ _ s.cur (i64_within s.cur k))
    (again_done s)))

pub int_again : (n : ℤ) → FitsSigned w64 n → Whole (integer_forms n) (word.Int n) (word_line word_kind.Int)
unfolding word_line
int_again n h = whole_line (integer_forms n) (word.Int n) (word_behind word_kind.Int)
    (again_last (integer_forms n) n i64_at word.Int (again_integer _ _ n (i64_within n h)))

pub cap_again : (c : CapFields) → CapInOrder c → FitsSigned w64 c.addr → Whole (cap_forms c) (word.Mem c)
    (word_line word_kind.Cap)
unfolding word_line
cap_again c h k = whole_line (cap_forms c) (word.Mem c) (word_behind word_kind.Cap)
    (again_last (cap_forms c) c cap_at word.Mem (cap_at_again c h k))

pub seals_again : (s : SealFields) → s.base ≤ s.end → s.end ≤ 1048575 → FitsSigned w64 s.cur
    → Whole (seals_forms s) (word.Seal s) (word_line word_kind.Seal)
unfolding word_line
seals_again s h i k = whole_line (seals_forms s) (word.Seal s) (word_behind word_kind.Seal)
    (again_last (seals_forms s) s seals_at word.Seal (seals_at_again s h i k))

-- ---- operands of items

pub address_again : (n : ℕ) → n ≤ 1048575 → Again (integer_forms (pos n)) n address_at
address_again n h = again_natural 0 1048575 n (natural_within 0 1048575 n (omega arith) h)

pub stretch_again : (base count : ℕ) → base ≤ 1048575 → 1 ≤ count → count ≤ 65536
    → Again (integer_forms (pos base) ++ (integer_forms (pos count) ++ []))
    (record { base = base; count = count }) stretch_at
unfolding stretch_at
stretch_again base count h i j =
    again_then _ _ base (record { base = base; count = count }) _ _ (address_again base h)
    (again_then _ _ count (record { base = base; count = count }) _ _
    (again_natural 1 65536 count (natural_within 1 65536 count i j))
    (again_done (record { base = base; count = count })))

offset_is : (n : ℕ) → Again (integer_forms (pos n)) (Number n)
    (natural_at 0 65535 >>= λ n. done (Number n)) → (ls rest : List Lexeme) (end : ℕ)
    → Alike (integer_forms (pos n)) ls
    → offset_at (at_front ls rest end) ≡ Ok (Number n, left rest end)
unfolding offset_at
offset_is n one [] rest end h = absurd h
offset_is n one (l ∷ ls) rest end h =
    let kind : is_name_token (Some l.kind) ≡ false = ap (λ k. is_name_token (Some k)) h.0 in
    rw kind (one.read (l ∷ ls) rest end h)

pub offset_again : (n : ℕ) → n ≤ 65535 → Again (integer_forms (pos n)) (Number n) offset_at
offset_again n h =
    record {
      read =
          offset_is n
          (again_last (integer_forms (pos n)) n (natural_at 0 65535) Number
          (again_natural 0 65535 n (natural_within 0 65535 n (omega arith) h)));
    }

pub shared_at_again : (shared : Bool) → Again (name_form (ownership shared) ∷ []) shared shared_at
shared_at_again shared = again_meant shared_named (ownership shared) shared (shared_again shared)

-- ---- instructions

abbrev pub operand_forms : Operand → List Form
operand_forms (R r) = name_form (reg_name r) ∷ []
operand_forms (Imm z) = integer_forms z

abbrev reg_form : Reg → List Form
reg_form r = name_form (reg_name r) ∷ []

reg_at_again : (r : Reg) → Again (reg_form r) r reg_at
reg_at_again r = again_meant reg_named (reg_name r) r (reg_again r)

-- which operand stands next shows at the kind of its first token
plain_name : (g : Form) (gs : List Form) (o : Operand) (b : Bool) → is_name_token (Some g.kind) ≡ b
    → Again (g ∷ gs) o (if b then (reg_at >>= λ r. done (R r)) else (i32_at >>= λ n. done (Imm n)))
    → (ls rest : List Lexeme) (end : ℕ) → Alike (g ∷ gs) ls → plain_at (at_front ls rest end) ≡ Ok
    (o, left rest end)
unfolding plain_at
plain_name g gs o b is one [] rest end h = absurd h
plain_name g gs o b is one (l ∷ ls) rest end h =
    let kind : is_name_token (Some l.kind) ≡ b = ap (λ k. is_name_token (Some k)) h.0 ∙ is in
    rw kind (one.read (l ∷ ls) rest end h)

again_plain : (o : Operand) → IsOperand o → Again (operand_forms o) o plain_at
again_plain (R r) h =
    record {
      read = plain_name (name_form (reg_name r)) [] (R r) true refl
          (again_last (reg_form r) r reg_at R (reg_at_again r));
    }
again_plain (Imm (pos n)) h =
    record {
      read = plain_name _ [] (Imm (pos n)) false refl
          (again_last (integer_forms (pos n)) (pos n) i32_at Imm
          (again_integer _ _ (pos n) (i32_within (pos n) h)));
    }
again_plain (Imm (negsuc n)) h =
    record {
      read = plain_name _ _ (Imm (negsuc n)) false refl
          (again_last (integer_forms (negsuc n)) (negsuc n) i32_at Imm
          (again_integer _ _ (negsuc n) (i32_within (negsuc n) h)));
    }

-- neither `@` nor `%` begins what is printed
no_label : (g : Form) (gs : List Form) (o : Operand) → is_sign 64 (Some g.kind) ≡ false
    → is_sign 37 (Some g.kind) ≡ false → Again (g ∷ gs) o plain_at → Again (g ∷ gs) (Plain o) last_at
unfolding last_at
no_label g gs o at percent one = again_placed (g ∷ gs) (Plain o)
    (λ at. sign_at 64 >>= λ code. if code then (proper_name_from at >>= λ name. done (Code at name)) else
    (sign_at 37 >>= λ data_label. if data_label then (proper_name_from at >>= λ name. done (Data at name))
    else (plain_at >>= λ o. done (Plain o)))) (λ place.
    again_no_sign 64 g gs (Plain o) _ at
    (again_no_sign 37 g gs (Plain o) _ percent (again_last (g ∷ gs) o plain_at Plain one)))

again_operand : (o : Operand) → IsOperand o → Again (operand_forms o) (Plain o) last_at
again_operand (R r) h = no_label _ _ (R r) refl refl (again_plain (R r) h)
again_operand (Imm (pos n)) h = no_label _ _ (Imm (pos n)) refl refl (again_plain (Imm (pos n)) h)
again_operand (Imm (negsuc n)) h = no_label _ _ (Imm (negsuc n)) refl refl (again_plain (Imm (negsuc n)) h)

-- an operand that an instruction may have
abbrev picked : Bool → Reg → Reg
picked wanted r = if wanted then r else Pc

abbrev picked_last : Bool → Operand → Operand
picked_last wanted n = if wanted then n else Imm (pos 0)

abbrev reg_forms : Bool → Reg → List Form
reg_forms wanted r = if wanted then reg_form r else []

abbrev last_forms : Bool → Operand → List Form
last_forms wanted n = if wanted then operand_forms n else []

again_reg_if : (wanted : Bool) (r : Reg) → Again (reg_forms wanted r) (picked wanted r) (reg_if wanted)
again_reg_if true r = reg_at_again r
again_reg_if false r = again_done Pc

again_last_if : (wanted : Bool) (n : Operand) → IsOperand n → Again (last_forms wanted n)
    (Plain (picked_last wanted n)) (last_if wanted)
again_last_if true n h = again_operand n h
again_last_if false n h = again_done (Plain (Imm (pos 0)))

operands_whole : (at : ℕ) (name : List ℕ) (k : ℕ) (l : Bool) (a b c : Reg) (n : Operand) (i : Instr)
    → IsOperand n
    → named mnemonic_of (all_with (picked (nat_le 1 k) a) (picked (nat_le 2 k) b) (picked (nat_le 3 k) c)
    (picked_last l n)) name ≡ Some i
    → Whole
    (reg_forms
    (nat_le 1 k) a
    ++ (reg_forms (nat_le 2 k) b ++ (reg_forms (nat_le 3 k) c ++ (last_forms l n ++ []))))
    (i, Plain (picked_last l n)) (operands_at at name (record { regs = k; last = l }))
unfolding operands_at
operands_whole at name k l a b c n i h is =
    whole_then _ _ (picked (nat_le 1 k) a) (i, Plain (picked_last l n)) _ _ (again_reg_if (nat_le 1 k) a)
    (whole_then _ _ (picked (nat_le 2 k) b) (i, Plain (picked_last l n)) _ _ (again_reg_if (nat_le 2 k) b)
    (whole_then _ _ (picked (nat_le 3 k) c) (i, Plain (picked_last l n)) _ _ (again_reg_if (nat_le 3 k) c)
    (whole_then _ _ (Plain (picked_last l n)) (i, Plain (picked_last l n)) _ _ (again_last_if l n h)
    (whole_end (i, Plain (picked_last l n)) _
    (whole_then [] [] i (i, Plain (picked_last l n)) _ _ (again_some (fault.Unknown at) _ i is)
    (whole_of [] (i, Plain (picked_last l n)) _ (again_done (i, Plain (picked_last l n)))))))))

-- an instruction without a last operand has none
abbrev no_last : Operand
no_last = Imm (pos 0)

no_last_fits : IsOperand no_last
no_last_fits = search rules

-- the last operand, or 0 where there is none
abbrev pub last_of : Instr → Operand
last_of Fail = no_last
last_of Halt = no_last
last_of (Jmp a) = no_last
last_of (Jnz a b) = no_last
last_of (Gettype a b) = no_last
last_of (Geta a b) = no_last
last_of (Getb a b) = no_last
last_of (Gete a b) = no_last
last_of (Getp a b) = no_last
last_of (Getlin a b) = no_last
last_of (Move a n) = n
last_of (Store a b) = no_last
last_of (Load a b) = no_last
last_of (Cca a n) = n
last_of (Restrict a n) = n
last_of (Lt a b n) = n
last_of (Plus a b n) = n
last_of (Minus a b n) = n
last_of (Seta2b a) = no_last
last_of (Xjmp a b) = no_last
last_of (Cseal a b) = no_last
last_of (Split a b c n) = n
last_of (Splice a b c) = no_last

-- the operands of an instruction of this name are read again as the instruction, by the shape of its row in
-- the table
pub record InstrAgain (i : Instr) : Type 0 where
  pub row : Instr
  pub known : row_named (mnemonic_of i) ≡ Some row
  pub operands : (at : ℕ) → Whole (flat_map operand_forms (operands_of i)) (i, Plain (last_of i))
      (operands_at at (mnemonic_of i) (shape_of row))

-- an instruction of a row that has so many registers, and the last operand or not
row_again : (row i : Instr) (k : ℕ) (l : Bool) (a b c : Reg) (n : Operand) → IsOperand n
    → row_named (mnemonic_of i) ≡ Some row → shape_of row ≡ record { regs = k; last = l }
    → named mnemonic_of (all_with (picked (nat_le 1 k) a) (picked (nat_le 2 k) b) (picked (nat_le 3 k) c)
    (picked_last l n)) (mnemonic_of i) ≡ Some i
    → flat_map operand_forms (operands_of i) ≡ reg_forms
    (nat_le 1 k) a
    ++ (reg_forms (nat_le 2 k) b ++ (reg_forms (nat_le 3 k) c ++ (last_forms l n ++ [])))
    → last_of i ≡ picked_last l n
    → InstrAgain i
row_again row i k l a b c n h known shape is forms last = record {
  row = row;
  known = known;
  operands = λ at.
      subst
      (λ o. Whole (flat_map operand_forms (operands_of i)) (i, Plain o)
      (operands_at at (mnemonic_of i) (shape_of row))) (sym last)
      (subst (λ fs. Whole fs (i, Plain (picked_last l n)) (operands_at at (mnemonic_of i) (shape_of row)))
      (sym forms)
      (subst
      (λ s.
      Whole
      (reg_forms
      (nat_le 1 k) a
      ++ (reg_forms (nat_le 2 k) b ++ (reg_forms (nat_le 3 k) c ++ (last_forms l n ++ []))))
      (i, Plain (picked_last l n)) (operands_at at (mnemonic_of i) s)) (sym shape)
      (operands_whole at (mnemonic_of i) k l a b c n i h is)));
}

pub instr_again : (i : Instr) → IsInstr i → InstrAgain i
unfolding all_with
instr_again Fail h = row_again Fail Fail 0 false Pc Pc Pc no_last no_last_fits refl refl refl refl refl
instr_again Halt h = row_again Halt Halt 0 false Pc Pc Pc no_last no_last_fits refl refl refl refl refl
instr_again (Jmp a) h = row_again (Jmp Pc) (Jmp a) 1 false a Pc Pc no_last no_last_fits refl refl refl refl
    refl
instr_again (Jnz a b) h = row_again (Jnz Pc Pc) (Jnz a b) 2 false a b Pc no_last no_last_fits refl refl
    refl refl refl
instr_again (Gettype a b) h = row_again (Gettype Pc Pc) (Gettype a b) 2 false a b Pc no_last no_last_fits
    refl refl refl refl refl
instr_again (Geta a b) h = row_again (Geta Pc Pc) (Geta a b) 2 false a b Pc no_last no_last_fits refl refl
    refl refl refl
instr_again (Getb a b) h = row_again (Getb Pc Pc) (Getb a b) 2 false a b Pc no_last no_last_fits refl refl
    refl refl refl
instr_again (Gete a b) h = row_again (Gete Pc Pc) (Gete a b) 2 false a b Pc no_last no_last_fits refl refl
    refl refl refl
instr_again (Getp a b) h = row_again (Getp Pc Pc) (Getp a b) 2 false a b Pc no_last no_last_fits refl refl
    refl refl refl
instr_again (Getlin a b) h = row_again (Getlin Pc Pc) (Getlin a b) 2 false a b Pc no_last no_last_fits refl
    refl refl refl refl
instr_again (Move a n) h = row_again (Move Pc no_last) (Move a n) 1 true a Pc Pc n h refl refl refl refl
    refl
instr_again (Store a b) h = row_again (Store Pc Pc) (Store a b) 2 false a b Pc no_last no_last_fits refl
    refl refl refl refl
instr_again (Load a b) h = row_again (Load Pc Pc) (Load a b) 2 false a b Pc no_last no_last_fits refl refl
    refl refl refl
instr_again (Cca a n) h = row_again (Cca Pc no_last) (Cca a n) 1 true a Pc Pc n h refl refl refl refl refl
instr_again (Restrict a n) h = row_again (Restrict Pc no_last) (Restrict a n) 1 true a Pc Pc n h refl refl
    refl refl refl
instr_again (Lt a b n) h = row_again (Lt Pc Pc no_last) (Lt a b n) 2 true a b Pc n h refl refl refl refl
    refl
instr_again (Plus a b n) h = row_again (Plus Pc Pc no_last) (Plus a b n) 2 true a b Pc n h refl refl refl
    refl refl
instr_again (Minus a b n) h = row_again (Minus Pc Pc no_last)
    (Minus a b n) 2 true a b Pc n h refl refl refl refl refl
instr_again (Seta2b a) h = row_again (Seta2b Pc) (Seta2b a) 1 false a Pc Pc no_last no_last_fits refl refl
    refl refl refl
instr_again (Xjmp a b) h = row_again (Xjmp Pc Pc) (Xjmp a b) 2 false a b Pc no_last no_last_fits refl refl
    refl refl refl
instr_again (Cseal a b) h = row_again (Cseal Pc Pc) (Cseal a b) 2 false a b Pc no_last no_last_fits refl
    refl refl refl refl
instr_again (Split a b c n) h = row_again (Split Pc Pc Pc no_last)
    (Split a b c n) 3 true a b c n h refl refl refl refl refl
instr_again (Splice a b c) h = row_again (Splice Pc Pc Pc)
    (Splice a b c) 3 false a b c no_last no_last_fits refl refl refl refl refl

operand_field : (o : Operand) → IsOperand o → IsField 11 (operand_text o) (operand_forms o)
operand_field (R r) h = widened 5 11 _ _ (lit≤ tt) (reg_field r)
operand_field (Imm z) h = i32_field z h

operands_fit : (i : Instr) → IsInstr i → AllByRecursion IsOperand (operands_of i)
operands_fit Fail h = tt
operands_fit Halt h = tt
operands_fit (Jmp a) h = (tt, tt)
operands_fit (Jnz a b) h = (tt, (tt, tt))
operands_fit (Gettype a b) h = (tt, (tt, tt))
operands_fit (Geta a b) h = (tt, (tt, tt))
operands_fit (Getb a b) h = (tt, (tt, tt))
operands_fit (Gete a b) h = (tt, (tt, tt))
operands_fit (Getp a b) h = (tt, (tt, tt))
operands_fit (Getlin a b) h = (tt, (tt, tt))
operands_fit (Move a n) h = (tt, (h, tt))
operands_fit (Store a b) h = (tt, (tt, tt))
operands_fit (Load a b) h = (tt, (tt, tt))
operands_fit (Cca a n) h = (tt, (h, tt))
operands_fit (Restrict a n) h = (tt, (h, tt))
operands_fit (Lt a b n) h = (tt, (tt, (h, tt)))
operands_fit (Plus a b n) h = (tt, (tt, (h, tt)))
operands_fit (Minus a b n) h = (tt, (tt, (h, tt)))
operands_fit (Seta2b a) h = (tt, tt)
operands_fit (Xjmp a b) h = (tt, (tt, tt))
operands_fit (Cseal a b) h = (tt, (tt, tt))
operands_fit (Split a b c n) h = (tt, (tt, (tt, (h, tt))))
operands_fit (Splice a b c) h = (tt, (tt, (tt, tt)))

operands_are_fields : (os : List Operand) → AllByRecursion IsOperand os
    → AllByRecursion (λ o. IsField 11 (operand_text o) (operand_forms o)) os
operands_are_fields [] h = tt
operands_are_fields (o ∷ os) h = (operand_field o h.0, operands_are_fields os h.1)

abbrev pub instr_forms : Instr → List Form
instr_forms i = name_form (mnemonic_of i) ∷ flat_map operand_forms (operands_of i)

joined : (m : List ℕ) (os : List Operand) → join_with_byte 32 (m ∷ map operand_text os) ≡ m ++ flat_map
    (λ o. 32 ∷ operand_text o) os
joined m [] = sym (append-nil m)
joined m (o ∷ os) = ap (λ t. m ++ (32 ∷ t)) (joined (operand_text o) os)

text_joined : (i : Instr) → instr_text i ≡ mnemonic_of i ++ flat_map (λ o. 32 ∷ operand_text o)
    (operands_of i)
unfolding instr_text
text_joined i = joined (mnemonic_of i) (operands_of i)

pub instr_printed : (i : Instr) → IsInstr i → IsPrinted 56 (instr_text i) (instr_forms i)
instr_printed i h =
    let p = printed 8 ((1 + 11) * length (operands_of i)) _ _ _ _ (mnemonic_field i)
    (rest_all 11 operand_text operand_forms (operands_of i)
    (operands_are_fields (operands_of i) (operands_fit i h))) in
    subst (λ t. IsPrinted 56 t (instr_forms i)) (sym (text_joined i))
    (record {
      short = omega (arith, p.short, few i);
      in_line = p.in_line;
      tokens = p.tokens;
      shown = p.shown;
    })
