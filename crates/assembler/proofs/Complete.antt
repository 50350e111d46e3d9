-- What lines make is a component.
use Rattle.std.proofs.Common.{◌≡◌, ℕ, ◌+◌, ◌-◌, ◌<◌, ◌≤◌, zero, suc, Bool, true, false, cond, List, [], ◌∷◌}
use Rattle.std.proofs.Common.{length, Option, Some, None, Result, Ok, Err, refl, sym, ap, ◌∙◌, subst, arith}
use Rattle.std.specs.Prelude.{ℤ, pos, negsuc, IfSome, slice_get, ◌&&◌, FitsSigned, option_map}
use Rattle.std.specs.Int.{w32}
use Rattle.std.proofs.lemmas.Bool.Decides.{nat_tests}
use Rattle.std.proofs.lemmas.Bool.{and_parts}
use Rattle.text_scan.specs.declared.token.Token.{Token}
use Rattle.text_scan.specs.Tokens.{scanned}
use Rattle.cap_words.specs.declared.Word.{Word}
use Rattle.cap_words.specs.declared.Word.TheVariants.{Int, Mem, Seal, Sealed}
use Rattle.lcm_isa.specs.declared.Operand.TheVariants.{R, Imm}
use Rattle.lcm_isa.specs.declared.Instr.{Instr}
use Rattle.lcm_isa.specs.declared.Instr.TheVariants.{Fail, Halt, Jmp, Jnz, Gettype, Geta, Getb, Gete, Getp}
use Rattle.lcm_isa.specs.declared.Instr.TheVariants.{Getlin, Move, Store, Load, Cca, Restrict, Lt, Plus}
use Rattle.lcm_isa.specs.declared.Instr.TheVariants.{Minus, Seta2b, Xjmp, Cseal, Split, Splice}
use Rattle.lcm_isa.specs.Numbers.{IsInstr}
use Rattle.lcm_isa.proofs.Offers.{decode_of-fits}
use Rattle.component_file.specs.declared.component.ComponentFields.{ComponentFields}
use Rattle.component_file.specs.Limits.{Each, IsComponent}
use Rattle.assembler.specs.declared.labels.Section.{Section}
use Rattle.assembler.specs.declared.labels.Section.TheVariants.{Code, Data}
use Rattle.assembler.specs.declared.labels.Label.{Label}
use Rattle.assembler.specs.Labels.{AreWithin, label_of, is_in, offset_in}
use Rattle.assembler.specs.Patch.{with_immediate, instr_in, with_instr_at}
use Rattle.assembler.specs.References.{Reference, value_of, word_resolved, resolved, IsReady, AreReady}
use Rattle.assembler.specs.References.{behind}
use Rattle.assembler.proofs.LabelTables.{within}
use Rattle.assembler.proofs.Resolved.{first_of, last, rest_ready, word_len, as_many}
use Rattle.asm_fields.specs.declared.fault.AsmFault.{AsmFault}
use Rattle.asm_fields.specs.declared.fault.AsmFault.TheVariants.{LabelMissing}
use Rattle.asm_fields.specs.Fault.{of_scan}
use Rattle.asm_fields.specs.declared.directives.ItemKind.TheVariants as item
use Rattle.assembler.specs.Order.{rank, rank_of, reaches_data}
use Rattle.assembler.specs.Draft.{Draft, nothing, may_end}
use Rattle.assembler.specs.Whole.{drafted, ended_all, draft_of_text}
use Rattle.assembler.specs.Assembled.{assembled, none_missing, in_order, component_of, finished}
use Rattle.readers.specs.Readers.{told_by}
use Rattle.readers.specs.Results.{◌>>=◌}
use Rattle.readers.proofs.Offers.{told_ok}
use Rattle.assembler.proofs.Chains.{each_set}
use Rattle.assembler.proofs.Words.{IsPartWord, instr_fits}
use Rattle.assembler.proofs.Kept.{IsDraft, word_within}
use Rattle.assembler.proofs.Drafts.{drafted_is, ended_some}

-- ---- the words that waited

other_fits : (z : ℤ) → FitsSigned w32 z → (i : Instr) → IsInstr i → IsInstr (with_immediate z i)
other_fits z fits Fail h = h
other_fits z fits Halt h = h
other_fits z fits (Jmp a) h = h
other_fits z fits (Jnz a b) h = h
other_fits z fits (Gettype a b) h = h
other_fits z fits (Geta a b) h = h
other_fits z fits (Getb a b) h = h
other_fits z fits (Gete a b) h = h
other_fits z fits (Getp a b) h = h
other_fits z fits (Getlin a b) h = h
other_fits z fits (Move a (R r)) h = h
other_fits z fits (Move a (Imm n)) h = fits
other_fits z fits (Store a b) h = h
other_fits z fits (Load a b) h = h
other_fits z fits (Cca a (R r)) h = h
other_fits z fits (Cca a (Imm n)) h = fits
other_fits z fits (Restrict a (R r)) h = h
other_fits z fits (Restrict a (Imm n)) h = fits
other_fits z fits (Lt a b (R r)) h = h
other_fits z fits (Lt a b (Imm n)) h = fits
other_fits z fits (Plus a b (R r)) h = h
other_fits z fits (Plus a b (Imm n)) h = fits
other_fits z fits (Minus a b (R r)) h = h
other_fits z fits (Minus a b (Imm n)) h = fits
other_fits z fits (Seta2b a) h = h
other_fits z fits (Xjmp a b) h = h
other_fits z fits (Cseal a b) h = h
other_fits z fits (Split a b c (R r)) h = h
other_fits z fits (Split a b c (Imm n)) h = fits
other_fits z fits (Splice a b c) h = h

put_fits : (code : List Word) (at : ℕ) (z : ℤ) → FitsSigned w32 z → (o : Option Word)
    → Each IsPartWord code
    → Each IsPartWord (with_instr_at code at (option_map (with_immediate z) (instr_in o)))
put_fits code at z fits None each = each
put_fits code at z fits (Some (Mem c)) each = each
put_fits code at z fits (Some (Seal s)) each = each
put_fits code at z fits (Some (Sealed s c)) each = each
put_fits code at z fits (Some (Int n)) each = by_instr (instr_in (Some (Int n)))
    (λ i h. decode_of-fits n i h)
  where
    by_instr : (o : Option Instr) → ((i : Instr) → o ≡ Some i → IsInstr i)
        → Each IsPartWord (with_instr_at code at (option_map (with_immediate z) o))
    by_instr None is = each
    by_instr (Some i) is = each_set IsPartWord None code at _ each
        (instr_fits (with_immediate z i) (other_fits z fits i (is i refl)))

by_side : (b : Bool) (x y : ℕ) → x < 2147483648 → y < 2147483648
    → FitsSigned w32 (cond b (negsuc x) (pos y))
by_side true x y lt _ = record { sfits = lt }
by_side false x y _ lt = record { sfits = lt }

value_fits : (word : ℕ) (section : Section) (offset : ℕ) → word < 65536 → offset < 65536
    → FitsSigned w32 (value_of word section offset)
value_fits zero Code offset w o = record { sfits = omega (arith, o) }
value_fits (suc n) Code offset w o = by_side _ (suc n - suc (offset + 1)) (offset + 1 - suc n)
    (omega (arith, w)) (omega (arith, o))
value_fits word Data offset w o = record { sfits = omega (arith, o) }

resolved_fits : (word : Option ℕ) (section : Section) (offset : ℕ) (code : List Word) → IsReady code word
    → length code ≤ 65536 → offset < 65536 → Each IsPartWord code
    → Each IsPartWord (word_resolved word section offset code)
resolved_fits None section offset code ready few o each = each
resolved_fits (Some word) section offset code ready few o each =
    let w = word_within code word ready in
    put_fits code word (value_of word section offset)
    (value_fits word section offset (omega (arith, w, few)) o) (slice_get code word) each

if_within : (b : Bool) (n m : ℕ) → n < 65536 → cond b (Some n) None ≡ Some m → m < 65536
if_within true n m lt h = let e : n ≡ m = cc in omega (arith, lt, e)
if_within false n m lt h = absurd cc

some_within : (section : Section) (o : Option Label) (n : ℕ) → IfSome o (λ l. l.offset < 65536)
    → offset_in section o ≡ Some n → n < 65536
some_within section None n h is = absurd cc
some_within section (Some l) n h is = if_within (is_in section l) l.offset n h is

code_fits : (labels : List (List ℕ × Label)) (low : ℕ) (references : List Reference) (code new : List Word)
    → AreWithin labels → AreReady low code references → length code ≤ 65536
    → Each IsPartWord code → resolved labels references code ≡ Ok new → Each IsPartWord new
code_fits labels low [] code new wi ready few each h = subst (Each IsPartWord)
    (sym (last labels code new h)) each
code_fits labels low (r ∷ references) code new wi ready few each h =
    let p = first_of labels r references code new h in
    let o : p.0 < 65536 = some_within r.section (label_of r.name labels) p.0
    (within r.name labels wi) p.1 in
    let len = word_len r.word r.section p.0 code in
    code_fits labels (behind low r.word) references (word_resolved r.word r.section p.0 code) new wi
    (rest_ready low code r references p.0 ready)
    (omega (arith, len, few)) (resolved_fits r.word r.section p.0 code ready.1 few o each) p.2

-- ---- the component

bound : {A B : Type 0} (r : Result A AsmFault) (f : A → Result B AsmFault) (y : B) → (r >>= f) ≡ Ok y
    → (x : A) × (r ≡ Ok x) × (f x ≡ Ok y)
bound (Ok x) f y h = (x, refl, h)
bound (Err e) f y h = absurd cc

none_out : (o : Option ℕ) (x : Unit {0}) → in_order o ≡ Ok x → o ≡ None
none_out None x h = refl
none_out (Some at) x h = absurd cc

ok_value : ComponentFields → Result ComponentFields AsmFault → ComponentFields
ok_value d (Ok c) = c
ok_value d (Err e) = d

ok_same : (c d : ComponentFields) → (r : Result ComponentFields AsmFault) → r ≡ Ok c → r ≡ Ok d → c ≡ d
unfolding ok_value
ok_same c d r h k = ap (ok_value c) (sym h ∙ k)

-- a whole draft, which may end
abbrev pub MayEnd : Draft → Type 0
MayEnd d = IsDraft d × (reaches_data d.last ≡ true) × (may_end d ≡ true)

pub complete : (d : Draft) (c : ComponentFields) → MayEnd d → finished d ≡ Ok c → IsComponent c
unfolding finished
complete d c m h =
    let k = m.0 in
    let p = bound (none_missing d)
    (λ code. in_order d.tables.out_of_order >>= λ _. Ok (component_of d code)) c h in
    let code = p.0 in
    let q = bound (in_order d.tables.out_of_order) (λ _. Ok (component_of d code)) c p.2 in
    let made : component_of d code ≡ c = ok_same (component_of d code) c
    (Ok (component_of d code)) refl q.2 in
    let found : resolved d.labels d.references d.code ≡ Ok code = told_ok (λ m. LabelMissing m.at)
    (resolved d.labels d.references d.code) code p.1 in
    let le : rank item.Data ≤ rank_of d.last = grind (arith, nat_tests, m.1) in
    let some = ended_some d k le m.2 in
    let many = as_many d.labels d.references d.code code found in
    let ordered = k.tables.ordered (none_out d.tables.out_of_order q.0 q.1) in
    let few = k.words.code_fits.0 in
    let first = some.0 in
    let whole : IsComponent (component_of d code) = record {
      name = k.came.name_came (omega (arith, le));
      stack_base = k.header.stack_base;
      closure = k.header.closure;
      seals = k.header.seals;
      linear = k.header.linear;
      code_base = k.header.code_base;
      code = (
        (omega (arith, many, first), omega (arith, many, few)),
        code_fits d.labels 0 d.references d.code code k.words.labels_within k.words.ready few
            k.words.code_fits.1 found,
      );
      data_base = k.header.data_base;
      data_words = ((some.1, k.words.data_fits.0), k.words.data_fits.1);
      imports = (k.tables.imports, ordered.0);
      exports = (k.tables.exports, ordered.1);
      sites = (k.tables.sites, ordered.2);
      fail_at = k.tables.fail_at;
      literal_at = k.tables.literal_at;
      rows = (k.tables.rows, ordered.3);
    } in
    subst IsComponent made whole

may_go : (b : Bool) (d e : Draft) (fault : AsmFault) → cond b (Ok d) (Err fault) ≡ Ok e
    → (b ≡ true) × (d ≡ e)
may_go true d e fault h = (refl, cc)
may_go false d e fault h = absurd cc

ended_gives : (r : Result Draft AsmFault) (end : ℕ) (e : Draft) → ended_all end r ≡ Ok e
    → (r ≡ Ok e) × (reaches_data e.last ≡ true) × (may_end e ≡ true)
ended_gives (Err x) end e h = absurd cc
ended_gives (Ok d) end e h =
    let p = may_go (reaches_data d.last && may_end d) d e _ h in
    let q = and_parts (reaches_data d.last) (may_end d) p.0 in
    let P : Draft → Type 0 = λ x. (reaches_data x.last ≡ true) × (may_end x ≡ true) in
    let t : P e = subst P p.1 (q.0, q.1) in
    (ap Ok p.1, t.0, t.1)

pub whole_draft : (text : List ℕ) (tokens : List Token) (e : Draft) → draft_of_text text tokens ≡ Ok e
    → MayEnd e
unfolding draft_of_text
whole_draft text tokens e h =
    let p = ended_gives (drafted nothing _) (length text) e h in
    (drafted_is e _ p.0, p.1, p.2)

pub spelled_fits : (text : List ℕ) (c : ComponentFields) → assembled text ≡ Ok c → IsComponent c
unfolding assembled
spelled_fits text c h =
    let p = bound (told_by of_scan (scanned text))
    (λ tokens. draft_of_text text tokens >>= λ draft. finished draft) c h in
    let q = bound (draft_of_text text p.0) (λ draft. finished draft) c p.2 in
    complete q.0 c (whole_draft text p.0 q.0 q.1) q.2
