-- Printed lines are read again.
use Rattle.std.proofs.Common.{◌≡◌, ℕ, ◌≤◌, true, false, List, [], ◌∷◌, ◌++◌, drop, length, Option, Some}
use Rattle.std.proofs.Common.{None, refl, sym, ap, ◌∙◌, subst}
use Rattle.std.specs.Prelude.{pos, negsuc, ◌&&◌, codes}
use Rattle.std.specs.List.{flat_map, AllByRecursion}
use Rattle.text_scan.specs.declared.token.TokenKind.{TokenKind}
use Rattle.text_scan.proofs.Offers.{Form, name_form, sign_form, integer_forms}
use Rattle.cap_words.specs.declared.Word.{Word}
use Rattle.lcm_isa.specs.declared.Operand.{Operand}
use Rattle.lcm_isa.specs.declared.Operand.TheVariants.{R, Imm}
use Rattle.lcm_isa.specs.declared.Instr.{Instr}
use Rattle.lcm_isa.specs.Numbers.{IsInstr}
use Rattle.lcm_isa.specs.Texts.{mnemonic_of, operands_of}
use Rattle.component_file.specs.declared.component.Kind.{Kind}
use Rattle.component_file.specs.declared.component.Kind.TheVariants as kind
use Rattle.component_file.specs.declared.component.Import.{Import}
use Rattle.component_file.specs.declared.component.Export.{Export}
use Rattle.component_file.specs.declared.component.KindRow.{KindRow}
use Rattle.cap_words.specs.Names.{is_name}
use Rattle.component_file.specs.Limits.{KindFits}
use Rattle.assembler.specs.declared.labels.Section.{Section as SectionOf}
use Rattle.assembler.specs.declared.labels.Section.TheVariants.{Code, Data}
use Rattle.asm_fields.specs.declared.fault.AsmFault.TheVariants.{Unknown, Section}
use Rattle.asm_fields.specs.declared.directives.ItemKind.{ItemKind}
use Rattle.asm_fields.specs.declared.directives.ItemKind.TheVariants as item
use Rattle.asm_fields.specs.declared.directives.WordKind.{WordKind}
use Rattle.asm_fields.specs.declared.directives.WordKind.TheVariants as word_kind
use Rattle.asm_fields.specs.declared.directives.Directive.{Directive}
use Rattle.asm_fields.specs.declared.directives.Directive.TheVariants as directive
use Rattle.readers.specs.Readers.{◌>>=◌, done, unless_none, holds}
use Rattle.asm_fields.specs.Fields.{Lexeme, kind_next, is_name_token, is_sign, is_labelled, name_or}
use Rattle.asm_fields.specs.Fields.{name_at, proper_name_at, colon}
use Rattle.asm_fields.specs.Directives.{directive_name, directive_named}
use Rattle.asm_fields.specs.Names.{kind_name, kind_named, ownership}
use Rattle.asm_fields.specs.Words.{word_line}
use Rattle.asm_fields.specs.Instrs.{Plain, row_named, shape_of, operands_at}
use Rattle.asm_fields.specs.Operands.{address_at, stretch_at, Number, offset_at, kind_at, kind_behind}
use Rattle.asm_fields.specs.Operands.{Plain as PlainKind, Pc as PcKind}
use Rattle.asm_fields.proofs.Offers.{Alike, Again, Whole, left, again_then, again_last, again_done}
use Rattle.asm_fields.proofs.Offers.{again_some, again_holds, again_sign, again_name_or, again_name}
use Rattle.asm_fields.proofs.Offers.{again_proper, again_meant, whole_then, whole_placed, whole_last}
use Rattle.asm_fields.proofs.Offers.{whole_line, operand_forms, last_of, instr_again, instr_forms}
use Rattle.asm_fields.proofs.Offers.{address_again, stretch_again, offset_again, shared_at_again}
use Rattle.assembler.specs.Order.{section_of}
use Rattle.assembler.specs.Tables.{Tables, with_import, with_export, with_site, with_row}
use Rattle.assembler.specs.Draft.{Draft, has_word_room, with_word, with_instr, with_header, with_tables}
use Rattle.assembler.specs.Operands.{offset_operand, kind_in, kind_found, kinds_in, import_in, export_in}
use Rattle.assembler.specs.Operands.{site_in, fail_in, literal_in, row_in, operands_in, seals_of}
use Rattle.assembler.specs.Lines.{is_code, instr_in, word_in, may_stand, item_in, directive_from, directed}
use Rattle.assembler.specs.Lines.{directive_in, behind_label, line_in}

-- ---- what a line begins with

abbrev kind_of : List Form → Option TokenKind
kind_of [] = None
kind_of (f ∷ fs) = Some f.kind

kind_alike : (fs : List Form) (ls : List Lexeme) → Alike fs ls → kind_next ls ≡ kind_of fs
kind_alike [] [] h = refl
kind_alike [] (l ∷ ls) h = absurd h
kind_alike (f ∷ fs) [] h = absurd h
kind_alike (f ∷ fs) (l ∷ ls) h = ap Some h.0

next_alike : (fs : List Form) (ls : List Lexeme) → Alike fs ls → kind_next (drop 1 ls) ≡ kind_of (drop 1 fs)
next_alike [] [] h = refl
next_alike [] (l ∷ ls) h = absurd h
next_alike (f ∷ fs) [] h = absurd h
next_alike (f ∷ fs) (l ∷ ls) h = kind_alike fs ls h.2

-- no label begins the line
abbrev IsFree : List Form → Type 0
IsFree fs = (is_name_token (kind_of fs) && is_sign colon (kind_of (drop 1 fs))) ≡ false

free_line : (fs : List Form) (ls : List Lexeme) (end : ℕ) → IsFree fs → Alike fs ls
    → is_labelled (left ls end) ≡ false
free_line fs ls end free h = ap (λ k. is_name_token k && is_sign colon (kind_next (drop 1 ls)))
    (kind_alike fs ls h) ∙ ap (λ k. is_name_token (kind_of fs) && is_sign colon k) (next_alike fs ls h)
    ∙ free

free_again : (fs : List Form) (new d : Draft) → IsFree fs → Whole fs new (behind_label false d)
    → Whole fs new (line_in d)
unfolding line_in
free_again fs new d free one = record {
  read = λ ls end h. let is = free_line fs ls end free h in
      rw is (one.read ls end h);
}

-- ---- instructions

no_colon : (os : List Operand) → is_sign colon (kind_of (flat_map operand_forms os)) ≡ false
no_colon [] = refl
no_colon (R r ∷ os) = refl
no_colon (Imm (pos n) ∷ os) = refl
no_colon (Imm (negsuc n) ∷ os) = refl

instr_in_again : (i : Instr) (d : Draft) → IsInstr i
    → (is_code (section_of d.last) && has_word_room Code d) ≡ true
    → Whole (instr_forms i) (with_instr i (Plain (last_of i)) d) (instr_in d)
unfolding instr_in
instr_in_again i d h may =
    let again = instr_again i h in
    let new = with_instr i (Plain (last_of i)) d in
    whole_placed _ _ (λ at. name_at >>= λ name. unless_none (Unknown at) (row_named name) >>= λ row.
    holds (is_code (section_of d.last) && has_word_room Code d) (Section at) >>= λ _.
    operands_at at name (shape_of row) >>= λ x. done (with_instr x.0 x.1 d)) (λ at.
    whole_then (name_form (mnemonic_of i) ∷ []) (flat_map operand_forms (operands_of i))
    (mnemonic_of i) new _ _ (again_name (mnemonic_of i))
    (whole_then [] (flat_map operand_forms (operands_of i)) again.row new _ _
    (again_some (Unknown at) _ again.row again.known)
    (whole_then [] (flat_map operand_forms (operands_of i)) tt new _ _ (again_holds _ (Section at) may)
    (whole_last (flat_map operand_forms (operands_of i)) (i, Plain (last_of i)) _
    (λ x. with_instr x.0 x.1 d) (again.operands at)))))

named_line : (name : List ℕ) (fs : List Form) (new d : Draft) → Whole (name_form name ∷ fs) new
    (instr_in d) → Whole (name_form name ∷ fs) new (behind_label false d)
unfolding behind_label
named_line name fs new d one =
    record {
      read = λ ls end h. let is = ap is_name_token (kind_alike (name_form name ∷ fs) ls h) in
          rw is (one.read ls end h);
    }

pub instr_line_again : (i : Instr) (d : Draft) → IsInstr i
    → (is_code (section_of d.last) && has_word_room Code d) ≡ true
    → Whole (instr_forms i) (with_instr i (Plain (last_of i)) d) (line_in d)
instr_line_again i d h may = free_again (instr_forms i) _ d (no_colon (operands_of i))
    (named_line (mnemonic_of i) _ _ d (instr_in_again i d h may))

-- ---- directives

known : (d : Directive) → directive_named (directive_name d) ≡ Some d
known (directive.Of item.Name) = refl
known (directive.Of item.Stack) = refl
known (directive.Of item.Closure) = refl
known (directive.Of item.Movable) = refl
known (directive.Of item.Seals) = refl
known (directive.Of item.Linear) = refl
known (directive.Of item.Code) = refl
known (directive.Of item.Data) = refl
known (directive.Of item.Import) = refl
known (directive.Of item.Export) = refl
known (directive.Of item.Site) = refl
known (directive.Of item.Fail) = refl
known (directive.Of item.Literal) = refl
known (directive.Of item.Row) = refl
known (directive.Word word_kind.Int) = refl
known (directive.Word word_kind.Cap) = refl
known (directive.Word word_kind.Seal) = refl

abbrev pub directive_forms : Directive → List Form → List Form
directive_forms d fs = sign_form 46 ∷ name_form (directive_name d) ∷ fs

directive_again : (at : ℕ) (d : Directive) → Again (directive_forms d []) d (directive_from at)
unfolding directive_from
directive_again at d =
    again_then (sign_form 46 ∷ []) (name_form (directive_name d) ∷ []) true d _ _ (again_sign 46 (46 ∷ []))
    (again_then [] (name_form (directive_name d) ∷ []) tt d (holds true (Unknown at))
    (λ _. name_or (Unknown at) >>= λ name. unless_none (Unknown at) (directive_named name))
    (again_holds true (Unknown at) refl)
    (again_then (name_form (directive_name d) ∷ []) [] (directive_name d) d (name_or (Unknown at))
    (λ name. unless_none (Unknown at) (directive_named name))
    (again_name_or (Unknown at) (directive_name d))
    (again_some (Unknown at) (directive_named (directive_name d)) d (known d))))

directive_in_again : (d : Directive) (fs : List Form) (new old : Draft)
    → ((at : ℕ) → Whole fs new (directed at false d old)) → Whole (directive_forms d fs) new
    (directive_in false old)
unfolding directive_in
directive_in_again d fs new old one = whole_placed _ _
    (λ at. directive_from at >>= λ d. directed at false d old) (λ at.
    whole_then (directive_forms d []) fs d new _ _ (directive_again at d) (one at))

signed_line : (d : Directive) (fs : List Form) (new old : Draft) → Whole (directive_forms d fs) new
    (directive_in false old) → Whole (directive_forms d fs) new (behind_label false old)
unfolding behind_label
signed_line d fs new old one =
    record {
      read = λ ls end h. let is = ap is_name_token (kind_alike (directive_forms d fs) ls h) in
          rw is (one.read ls end h);
    }

directive_line_again : (d : Directive) (fs : List Form) (new old : Draft)
    → ((at : ℕ) → Whole fs new (directed at false d old)) → Whole (directive_forms d fs) new (line_in old)
directive_line_again d fs new old one = free_again (directive_forms d fs) new old refl
    (signed_line d fs new old (directive_in_again d fs new old one))

-- ---- words

word_in_again : (at : ℕ) (kind : WordKind) (fs : List Form) (w : Word) (section : SectionOf) (d : Draft)
    → section_of d.last ≡ Some section → has_word_room section d ≡ true → Whole fs w (word_line kind)
    → Whole fs (with_word section w d) (word_in at kind d)
unfolding word_in
word_in_again at kind fs w section d is room one =
    whole_then [] fs section (with_word section w d) _ _
    (again_some (Section at) (section_of d.last) section is)
    (whole_then [] fs tt (with_word section w d) _ _ (again_holds _ (Section at) room)
    (whole_last fs w (word_line kind) (λ w. with_word section w d) one))

pub word_line_again : (kind : WordKind) (fs : List Form) (w : Word) (section : SectionOf) (d : Draft)
    → section_of d.last ≡ Some section → has_word_room section d ≡ true → Whole fs w (word_line kind)
    → Whole (directive_forms (directive.Word kind) fs) (with_word section w d) (line_in d)
word_line_again kind fs w section d is room one = directive_line_again (directive.Word kind) fs _ d
    (λ at. word_in_again at kind fs w section d is room one)

-- ---- items

item_in_again : (at : ℕ) (i : ItemKind) (fs : List Form) (new d : Draft) → may_stand false i d ≡ true
    → Again fs new (operands_in at i (record d { last = Some i })) → Whole fs new (item_in at false i d)
unfolding item_in
item_in_again at i fs new d may one =
    whole_then [] fs tt new _ _ (again_holds _ (Section at) may)
    (whole_line fs new (operands_in at i (record d { last = Some i })) one)

pub item_line_again : (i : ItemKind) (fs : List Form) (new d : Draft) → may_stand false i d ≡ true
    → ((at : ℕ) → Again fs new (operands_in at i (record d { last = Some i })))
    → Whole (directive_forms (directive.Of i) fs) new (line_in d)
item_line_again i fs new d may one = directive_line_again (directive.Of i) fs new d
    (λ at. item_in_again at i fs new d may (one at))

-- ---- operands of items

pub offset_in_again : (section : SectionOf) (n : ℕ) (d : Draft) → n ≤ 65535 → Again (integer_forms (pos n))
    (n, d) (offset_operand section d)
unfolding offset_operand
offset_in_again section n d h = again_then (integer_forms (pos n)) [] (Number n) (n, d) _ _
    (offset_again n h) (again_done (n, d))

-- PART NAME SLOT
abbrev pub import_forms : Import → List Form
import_forms i = name_form i.part ∷ name_form i.name ∷ (integer_forms (pos i.slot) ++ [])

pub import_again : (at : ℕ) (i : Import) (d : Draft) (t : Tables) → is_name i.part ≡ true
    → is_name i.name ≡ true → i.slot ≤ 65535 → with_import at i d.tables ≡ t
    → Again (import_forms i) (with_tables t d) (operands_in at item.Import d)
unfolding import_in
import_again at i d t part name slot is =
    again_then (name_form i.part ∷ []) _ i.part (with_tables t d) _ _ (again_proper i.part part)
    (again_then (name_form i.name ∷ []) _ i.name (with_tables t d) _ _ (again_proper i.name name)
    (again_then (integer_forms (pos i.slot)) [] (i.slot, d) (with_tables t d) _ _
    (offset_in_again Data i.slot d slot)
    (subst (λ u. Again [] (with_tables u d) (done (with_tables (with_import at i d.tables) d))) is
    (again_done (with_tables (with_import at i d.tables) d)))))

-- NAME OFF shared, or NAME OFF own
abbrev pub export_forms : Export → List Form
export_forms e = name_form e.name ∷ (integer_forms (pos e.offset) ++ (name_form (ownership e.shared) ∷ []))

pub export_again : (at : ℕ) (e : Export) (d : Draft) (t : Tables) → is_name e.name ≡ true
    → e.offset ≤ 65535 → with_export at e d.tables ≡ t
    → Again (export_forms e) (with_tables t d) (operands_in at item.Export d)
unfolding export_in
export_again at e d t name offset is =
    again_then (name_form e.name ∷ []) _ e.name (with_tables t d) _ _ (again_proper e.name name)
    (again_then (integer_forms (pos e.offset)) _ (e.offset, d) (with_tables t d) _ _
    (offset_in_again Code e.offset d offset)
    (again_then (name_form (ownership e.shared) ∷ []) [] e.shared (with_tables t d) _ _
    (shared_at_again e.shared)
    (subst (λ u. Again [] (with_tables u d) (done (with_tables (with_export at e d.tables) d))) is
    (again_done (with_tables (with_export at e d.tables) d)))))

abbrev pub offset_forms : ℕ → List Form
offset_forms n = integer_forms (pos n) ++ []

pub site_again : (at n : ℕ) (d : Draft) (t : Tables) → n ≤ 65535 → with_site at n d.tables ≡ t
    → Again (offset_forms n) (with_tables t d) (operands_in at item.Site d)
unfolding site_in
site_again at n d t h is =
    again_then (integer_forms (pos n)) [] (n, d) (with_tables t d) _ _ (offset_in_again Code n d h)
    (subst (λ u. Again [] (with_tables u d) (done (with_tables (with_site at n d.tables) d))) is
    (again_done (with_tables (with_site at n d.tables) d)))

pub fail_again : (at n : ℕ) (d : Draft) → n ≤ 65535
    → Again (offset_forms n) (with_tables (record d.tables { fail_at = Some n }) d)
    (operands_in at item.Fail d)
unfolding fail_in
fail_again at n d h = again_then (integer_forms (pos n)) [] (n, d) _ _ _ (offset_in_again Code n d h)
    (again_done (with_tables (record d.tables { fail_at = Some n }) d))

pub literal_again : (at n : ℕ) (d : Draft) → n ≤ 65535
    → Again (offset_forms n) (with_tables (record d.tables { literal_at = Some n }) d)
    (operands_in at item.Literal d)
unfolding literal_in
literal_again at n d h = again_then (integer_forms (pos n)) [] (n, d) _ _ _ (offset_in_again Code n d h)
    (again_done (with_tables (record d.tables { literal_at = Some n }) d))

-- ---- rows

-- the name of a kind, and the offset after `pc`
abbrev pub kind_forms : Kind → List Form
kind_forms (kind.Pc offset) = name_form (kind_name (kind.Pc offset)) ∷ integer_forms (pos offset)
kind_forms k = name_form (kind_name k) ∷ []

plain_again : (k : Kind) (name : List ℕ) → kind_named name ≡ Some k → kind_behind k ≡ done (PlainKind k)
    → Again (name_form name ∷ []) (PlainKind k) kind_at
unfolding kind_at
plain_again k name is plain =
    again_then (name_form name ∷ []) [] k (PlainKind k) _ _ (again_meant kind_named name k is)
    (subst (λ r. Again [] (PlainKind k) r) (sym plain) (again_done (PlainKind k)))

code_again : (offset : ℕ) → offset ≤ 65535 → Again (kind_forms (kind.Pc offset))
    (PcKind (Number offset)) kind_at
unfolding kind_at
code_again offset h =
    again_then (name_form (codes "pc") ∷ []) (integer_forms (pos offset)) (kind.Pc 0)
    (PcKind (Number offset)) _ _ (again_meant kind_named (codes "pc") (kind.Pc 0) refl)
    (again_last (integer_forms (pos offset)) (Number offset) offset_at PcKind (offset_again offset h))

kind_again : (k : Kind) (d : Draft) → KindFits k → Again (kind_forms k) (k, d) (kind_in d)
unfolding kind_in
kind_again kind.Any d h = again_last (kind_forms kind.Any) (PlainKind kind.Any) kind_at
    (λ k. kind_found k d) (plain_again kind.Any _ refl refl)
kind_again kind.Int d h = again_last (kind_forms kind.Int) (PlainKind kind.Int) kind_at
    (λ k. kind_found k d) (plain_again kind.Int _ refl refl)
kind_again kind.DataCap d h = again_last (kind_forms kind.DataCap) (PlainKind kind.DataCap) kind_at
    (λ k. kind_found k d) (plain_again kind.DataCap _ refl refl)
kind_again kind.Stk d h = again_last (kind_forms kind.Stk) (PlainKind kind.Stk) kind_at
    (λ k. kind_found k d) (plain_again kind.Stk _ refl refl)
kind_again (kind.Pc offset) d h = again_last (kind_forms (kind.Pc offset)) (PcKind (Number offset)) kind_at
    (λ k. kind_found k d) (code_again offset h)
kind_again kind.Top d h = again_last (kind_forms kind.Top) (PlainKind kind.Top) kind_at
    (λ k. kind_found k d) (plain_again kind.Top _ refl refl)

kinds_again : (ks : List Kind) (d : Draft) → AllByRecursion KindFits ks → Again (flat_map kind_forms ks)
    (ks, d) (kinds_in (length ks) d)
unfolding kinds_in
kinds_again [] d h = again_done ([], d)
kinds_again (k ∷ ks) d h =
    again_then (kind_forms k) (flat_map kind_forms ks) (k, d) (k ∷ ks, d) _ _ (kind_again k d h.0)
    (again_last (flat_map kind_forms ks) (ks, d) (kinds_in (length ks) d)
    (λ others. (k ∷ others.0, others.1)) (kinds_again ks d h.1))

-- OFF, and the kinds of the registers 1 to 15
abbrev pub row_forms : KindRow → List Form
row_forms r = integer_forms (pos r.offset) ++ (flat_map kind_forms r.kinds ++ [])

pub row_again : (at : ℕ) (r : KindRow) (d : Draft) (t : Tables) → r.offset ≤ 65535 → length r.kinds ≡ 15
    → AllByRecursion KindFits r.kinds → with_row at r d.tables ≡ t
    → Again (row_forms r) (with_tables t d) (operands_in at item.Row d)
unfolding row_in
row_again at r d t offset many kinds is =
    again_then (integer_forms (pos r.offset)) _ (r.offset, d) (with_tables t d) _ _
    (offset_in_again Code r.offset d offset)
    (again_then (flat_map kind_forms r.kinds) [] (r.kinds, d) (with_tables t d) _ _
    (subst (λ n. Again (flat_map kind_forms r.kinds) (r.kinds, d) (kinds_in n d)) many
    (kinds_again r.kinds d kinds))
    (subst (λ u. Again [] (with_tables u d) (done (with_tables (with_row at r d.tables) d))) is
    (again_done (with_tables (with_row at r d.tables) d))))

-- ---- the header

-- BASE COUNT
abbrev pub stretch_forms : ℕ → ℕ → List Form
stretch_forms base count = integer_forms (pos base) ++ (integer_forms (pos count) ++ [])

pub name_again : (at : ℕ) (name : List ℕ) (d : Draft) → is_name name ≡ true → Again (name_form name ∷ [])
    (with_header (record d.header { name = name }) d) (operands_in at item.Name d)
name_again at name d h = again_last (name_form name ∷ []) name proper_name_at
    (λ name. with_header (record d.header { name = name }) d) (again_proper name h)

pub stack_again : (at n : ℕ) (d : Draft) → n ≤ 1048575
    → Again (offset_forms n) (with_header (record d.header { stack_base = n }) d)
    (operands_in at item.Stack d)
stack_again at n d h = again_last (offset_forms n) n address_at
    (λ n. with_header (record d.header { stack_base = n }) d) (address_again n h)

pub closure_again : (at n : ℕ) (d : Draft) → n ≤ 1048575
    → Again (offset_forms n) (with_header (record d.header { closure = n }) d)
    (operands_in at item.Closure d)
closure_again at n d h = again_last (offset_forms n) n address_at
    (λ n. with_header (record d.header { closure = n }) d) (address_again n h)

pub code_base_again : (at n : ℕ) (d : Draft) → n ≤ 1048575
    → Again (offset_forms n) (with_header (record d.header { code_base = n }) d)
    (operands_in at item.Code d)
code_base_again at n d h = again_last (offset_forms n) n address_at
    (λ n. with_header (record d.header { code_base = n }) d) (address_again n h)

pub data_base_again : (at n : ℕ) (d : Draft) → n ≤ 1048575
    → Again (offset_forms n) (with_header (record d.header { data_base = n }) d)
    (operands_in at item.Data d)
data_base_again at n d h = again_last (offset_forms n) n address_at
    (λ n. with_header (record d.header { data_base = n }) d) (address_again n h)

pub movable_again : (at : ℕ) (d : Draft) → Again [] (with_header (record d.header { movable = true }) d)
    (operands_in at item.Movable d)
movable_again at d = again_done (with_header (record d.header { movable = true }) d)

pub seals_again : (at base count : ℕ) (d : Draft) → base ≤ 1048575 → 1 ≤ count → count ≤ 65536
    → Again (stretch_forms base count)
    (with_header (record d.header { seals = record { base = base; count = count } }) d)
    (operands_in at item.Seals d)
seals_again at base count d h i j = again_last (stretch_forms base count)
    (record { base = base; count = count }) stretch_at
    (λ a. with_header (record d.header { seals = seals_of a }) d) (stretch_again base count h i j)

pub linear_again : (at base count : ℕ) (d : Draft) → base ≤ 1048575 → 1 ≤ count → count ≤ 65536
    → Again (stretch_forms base count)
    (with_header (record d.header { linear = record { base = base; count = count } }) d)
    (operands_in at item.Linear d)
linear_again at base count d h i j = again_last (stretch_forms base count)
    (record { base = base; count = count }) stretch_at
    (λ a. with_header (record d.header { linear = a }) d) (stretch_again base count h i j)
