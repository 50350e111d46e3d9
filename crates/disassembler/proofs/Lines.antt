-- Each line of a component's text, and the draft that it makes.
use Rattle.std.proofs.Common.{◌≡◌, ℕ, ◌+◌, ◌<◌, ◌≤◌, Bool, true, false, List, [], ◌∷◌, ◌++◌, length, Option}
use Rattle.std.proofs.Common.{Some, None, refl, sym, subst, append-nil, arith, lit≤}
use Rattle.std.specs.Prelude.{ℤ, pos, ◌==◌, nat_lt, nat_le, not, ◌&&◌, ◌||◌, decimal, FitsSigned}
use Rattle.std.specs.Int.{w64}
use Rattle.std.specs.Fmt.{signed_decimal}
use Rattle.std.proofs.lemmas.Bool.Decides.{nat_tests}
use Rattle.text_scan.proofs.Offers.{Form, name_form, sign_form, integer_forms, IsField, IsRest, rest_none}
use Rattle.text_scan.proofs.Offers.{rest_more}
use Rattle.cap_words.specs.Text.{perm_name, lin_name, newline}
use Rattle.cap_words.specs.declared.Word.{Word}
use Rattle.cap_words.specs.declared.Word.TheVariants.{Int, Mem, Seal, Sealed}
use Rattle.cap_words.specs.WordBytes.{WordFits, IsUnsealed}
use Rattle.lcm_isa.specs.declared.Instr.{Instr}
use Rattle.lcm_isa.specs.Numbers.{decode_of}
use Rattle.lcm_isa.proofs.Offers.{number_of-decode_of, decode_of-fits}
use Rattle.assembler.specs.declared.labels.Section.{Section}
use Rattle.assembler.specs.declared.labels.Section.TheVariants as section
use Rattle.asm_fields.specs.declared.directives.ItemKind.{ItemKind}
use Rattle.asm_fields.specs.declared.directives.ItemKind.TheVariants as item
use Rattle.asm_fields.specs.declared.directives.WordKind.{WordKind}
use Rattle.asm_fields.specs.declared.directives.WordKind.TheVariants as word_kind
use Rattle.asm_fields.specs.declared.directives.Directive.TheVariants as directive
use Rattle.asm_fields.specs.Directives.{directive_name}
use Rattle.asm_fields.specs.Words.{word_line as word_reader}
use Rattle.asm_fields.proofs.Offers.{Again, Whole, directive_is_field, perm_field, lin_field, place_field}
use Rattle.asm_fields.proofs.Offers.{i64_field, cap_forms, seals_forms, int_again, cap_again, seals_again}
use Rattle.asm_fields.proofs.Offers.{instr_forms, instr_printed}
use Rattle.assembler.specs.declared.header.TextHeader.{TextHeader}
use Rattle.assembler.specs.Order.{rank, rank_of, repeats, furthest, may_follow, section_of}
use Rattle.assembler.specs.Tables.{Tables}
use Rattle.assembler.specs.Draft.{Draft, has_word_room, with_word, may_end, may_end_in}
use Rattle.assembler.specs.Operands.{operands_in}
use Rattle.assembler.specs.Lines.{may_stand}
use Rattle.assembler.proofs.Offers.{instr_line_again, word_line_again, item_line_again, offset_forms}
use Rattle.disassembler.specs.Disassembled.{item_line, word_line, code_line, integer_line}
use Rattle.disassembler.proofs.Leads.{Leads, leads_line, leads_fields}

-- what lines without labels have made
abbrev pub so_far : Option ItemKind → TextHeader → List Word → List Word → Tables → Draft
so_far last h code words t = record {
  last = last;
  header = h;
  labels = [];
  references = [];
  code = code;
  data_words = words;
  tables = t;
}

-- ---- operands

pub one_operand : (n : ℕ) (a : List ℕ) (fs : List Form) → IsField n a fs
    → IsRest (1 + n + 0) (32 ∷ (a ++ [])) (fs ++ [])
one_operand n a fs one = rest_more n 0 a [] fs [] one rest_none

pub leads_item : (i : ItemKind) (m : ℕ) (operands : List ℕ) (gs : List Form) (d new : Draft)
    → IsRest m operands gs → m ≤ 504 → may_stand false i d ≡ true
    → ((at : ℕ) → Again gs new (operands_in at i (record d { last = Some i })))
    → Leads 1 (46 ∷ directive_name (directive.Of i) ++ (operands ++ newline)) d new
leads_item i m operands gs d new rest le may one =
    leads_fields 8 m (46 ∷ directive_name (directive.Of i)) operands (sign_form 46)
    (name_form (directive_name (directive.Of i)) ∷ []) gs d new
    (directive_is_field (directive.Of i)) rest (omega arith) (item_line_again i gs new d may one)

-- an item that is one place
pub leads_place : (i : ItemKind) (n : ℕ) (d new : Draft) → n ≤ 1048575 → may_stand false i d ≡ true
    → ((at : ℕ) → Again (offset_forms n) new (operands_in at i (record d { last = Some i })))
    → Leads 1 (item_line i (decimal n ∷ [])) d new
leads_place i n d new h may one = leads_item i 8 (32 ∷ (decimal n ++ [])) (offset_forms n) d new
    (one_operand 7 (decimal n) (integer_forms (pos n)) (place_field n h)) (lit≤ tt) may one

-- ---- words

leads_word : (k : WordKind) (m : ℕ) (operands : List ℕ) (gs : List Form) (w : Word) (s : Section)
    (d : Draft) → IsRest m operands gs → m ≤ 504 → section_of d.last ≡ Some s → has_word_room s d ≡ true
    → Whole gs w (word_reader k)
    → Leads 1 (46 ∷ directive_name (directive.Word k) ++ (operands ++ newline)) d (with_word s w d)
leads_word k m operands gs w s d rest le is room one =
    leads_fields 8 m (46 ∷ directive_name (directive.Word k)) operands (sign_form 46)
    (name_form (directive_name (directive.Word k)) ∷ []) gs d (with_word s w d)
    (directive_is_field (directive.Word k)) rest (omega arith) (word_line_again k gs w s d is room one)

-- a word by its directive
pub word_leads : (w : Word) (s : Section) (d : Draft) → WordFits w → IsUnsealed w
    → section_of d.last ≡ Some s → has_word_room s d ≡ true → Leads 1 (word_line w) d (with_word s w d)
word_leads (Int n) s d fits plain is room =
    leads_word word_kind.Int 21 (32 ∷ (signed_decimal n ++ [])) (integer_forms n ++ []) (Int n) s d
    (one_operand 20 (signed_decimal n) (integer_forms n) (i64_field n fits)) (lit≤ tt) is room
    (subst (λ l. Whole l (Int n) (word_reader word_kind.Int)) (sym (append-nil (integer_forms n)))
    (int_again n fits))
word_leads (Mem c) s d fits plain is room =
    leads_word word_kind.Cap _ _ (cap_forms c) (Mem c) s d
    (rest_more 3 _ (perm_name c.perm) _ (name_form (perm_name c.perm) ∷ []) _ (perm_field c.perm)
    (rest_more 3 _ (lin_name c.lin) _ (name_form (lin_name c.lin) ∷ []) _ (lin_field c.lin)
    (rest_more 7 _ (decimal c.base) _ (integer_forms (pos c.base)) _
    (place_field c.base (omega (arith, fits.0.0, fits.0.1)))
    (rest_more 7 _ (decimal c.end) _ (integer_forms (pos c.end)) _ (place_field c.end fits.0.1)
    (one_operand 20 (signed_decimal c.addr) (integer_forms c.addr) (i64_field c.addr fits.1))))))
    (lit≤ tt) is room (cap_again c fits.0 fits.1)
word_leads (Seal c) s d fits plain is room =
    leads_word word_kind.Seal _ _ (seals_forms c) (Seal c) s d
    (rest_more 7 _ (decimal c.base) _ (integer_forms (pos c.base)) _
    (place_field c.base (omega (arith, fits.0.0, fits.0.1)))
    (rest_more 7 _ (decimal c.end) _ (integer_forms (pos c.end)) _ (place_field c.end fits.0.1)
    (one_operand 20 (signed_decimal c.cur) (integer_forms c.cur) (i64_field c.cur fits.1))))
    (lit≤ tt) is room (seals_again c fits.0.0 fits.0.1 fits.1)
word_leads (Sealed seal content) s d fits plain is room = absurd plain

-- an integer of the code, as the instruction that it is or by its directive
integer_leads : (n : ℤ) (o : Option Instr) (h : TextHeader) (code words : List Word) (t : Tables)
    → decode_of n ≡ o → FitsSigned w64 n → nat_lt (length code) 65536 ≡ true
    → Leads 1 (integer_line n o) (so_far (Some item.Code) h code words t)
    (so_far (Some item.Code) h (code ++ Int n ∷ []) words t)
integer_leads n (Some i) h code words t is fits room =
    let d = so_far (Some item.Code) h code words t in
    subst
    (λ z. Leads 1 (integer_line n (Some i)) d (so_far (Some item.Code) h (code ++ Int z ∷ []) words t))
    (sym (number_of-decode_of n i is))
    (leads_line 56 _ (instr_forms i) d _ (instr_printed i (decode_of-fits n i is)) (lit≤ tt) (omega arith)
    (instr_line_again i d (decode_of-fits n i is) room))
integer_leads n None h code words t is fits room = word_leads (Int n) section.Code
    (so_far (Some item.Code) h code words t) fits tt refl room

pub code_leads : (w : Word) (h : TextHeader) (code words : List Word) (t : Tables) → WordFits w → IsUnsealed w
    → nat_lt (length code) 65536 ≡ true
    → Leads 1 (code_line w) (so_far (Some item.Code) h code words t)
    (so_far (Some item.Code) h (code ++ w ∷ []) words t)
code_leads (Int n) h code words t fits plain room = integer_leads n
    (decode_of n) h code words t refl fits room
code_leads (Mem c) h code words t fits plain room = word_leads (Mem c) section.Code
    (so_far (Some item.Code) h code words t) fits plain refl room
code_leads (Seal c) h code words t fits plain room = word_leads (Seal c) section.Code
    (so_far (Some item.Code) h code words t) fits plain refl room
code_leads (Sealed seal content) h code words t fits plain room = absurd plain

-- ---- the order of items

-- after `.data`
pub in_tables : (n m : ℕ) (b : Bool) → rank item.Data ≤ n → n < m → m ≤ rank item.Row
    → ((nat_lt n m || ((m == n) && b)) && nat_le m (furthest n)) ≡ true
in_tables n m b low lt high = grind (arith, nat_tests)

ends_in : (s : Option Section) (d : Draft) → not (length d.code == 0) ≡ true
    → not (length d.data_words == 0) ≡ true → may_end_in s d ≡ true
ends_in None d code words = refl
ends_in (Some section.Code) d code words = code
ends_in (Some section.Data) d code words = words

pub some_words : (n : ℕ) → 1 ≤ n → not (n == 0) ≡ true
some_words n h = grind (arith, nat_tests)

-- a section with words may end
pub ends : (last : Option ItemKind) (h : TextHeader) (code words : List Word) (t : Tables) → 1 ≤ length code
    → 1 ≤ length words → may_end (so_far last h code words t) ≡ true
ends last h code words t c w = ends_in (section_of last) (so_far last h code words t)
    (some_words (length code) c) (some_words (length words) w)

-- the last item, where items of one kind stand after another
abbrev pub last_in : {A : Type 0} → ItemKind → Option ItemKind → List A → Option ItemKind
last_in i last [] = last
last_in i last (x ∷ xs) = Some i

pub last_behind : {A : Type 0} (i : ItemKind) (last : Option ItemKind) (xs : List A) (x : A)
    → last_in i last (xs ++ x ∷ []) ≡ Some i
last_behind i last [] x = refl
last_behind i last (y ∷ xs) x = refl

-- one more item of a table may stand there
pub follows : {A : Type 0} (i : ItemKind) (last : Option ItemKind) (xs : List A)
    → rank item.Data ≤ rank_of last
    → rank_of last < rank i
    → rank i ≤ rank item.Row → may_follow (Some i) i ≡ true → may_follow (last_in i last xs) i ≡ true
follows i last [] low lt high again = in_tables (rank_of last) (rank i) (repeats i) low lt high
follows i last (x ∷ xs) low lt high again = again

pub all_three : (a b c : Bool) → a ≡ true → b ≡ true → c ≡ true → (not false && a && b && c) ≡ true
all_three a b c p q r = rw (p, q, r) refl
