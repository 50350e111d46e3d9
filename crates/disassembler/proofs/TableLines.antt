-- The lines of tables, and the drafts that they make.
use Rattle.std.proofs.Common.{◌≡◌, ℕ, ◌+◌, ◌*◌, ◌<◌, ◌≤◌, Bool, true, false, List, [], ◌∷◌, ◌++◌, length}
use Rattle.std.proofs.Common.{Option, Some, None, refl, sym, ap, ◌∙◌, subst, append-nil, arith}
use Rattle.std.proofs.Common.{length-append, lit≤}
use Rattle.std.specs.Prelude.{pos, nat_lt, decimal, IfSome}
use Rattle.std.specs.List.{flat_map, AllByRecursion}
use Rattle.std.proofs.lemmas.Bool.{lt-ltb}
use Rattle.text_scan.proofs.Offers.{Form, name_form, integer_forms, IsRest, rest_none, rest_more}
use Rattle.cap_words.specs.declared.Word.{Word}
use Rattle.component_file.specs.declared.component.Kind.{Kind}
use Rattle.component_file.specs.declared.component.Kind.TheVariants as kind
use Rattle.component_file.specs.declared.component.Import.{Import}
use Rattle.component_file.specs.declared.component.Export.{Export}
use Rattle.component_file.specs.declared.component.KindRow.{KindRow}
use Rattle.component_file.specs.Limits.{Chain, ImportFits, ExportFits, SiteFits, KindRowFits, KindFits}
use Rattle.asm_fields.specs.declared.directives.ItemKind.{ItemKind}
use Rattle.asm_fields.specs.declared.directives.ItemKind.TheVariants as item
use Rattle.asm_fields.specs.Names.{kind_name, ownership}
use Rattle.asm_fields.proofs.Offers.{proper_field, shared_field, kind_field, offset_field}
use Rattle.assembler.specs.declared.header.TextHeader.{TextHeader}
use Rattle.assembler.specs.Order.{rank, rank_of, may_follow}
use Rattle.assembler.specs.Tables.{Tables, last_of as last_item, first_out_of_order, has_room}
use Rattle.assembler.specs.Draft.{may_end}
use Rattle.assembler.specs.Lines.{may_stand}
use Rattle.assembler.proofs.Offers.{offset_forms, import_forms, export_forms, kind_forms, row_forms}
use Rattle.assembler.proofs.Offers.{import_again, export_again, site_again, fail_again, literal_again}
use Rattle.assembler.proofs.Offers.{row_again}
use Rattle.assembler.proofs.Offers.{item_in_chain}
use Rattle.cap_words.specs.Text.{field_text}
use Rattle.disassembler.specs.Disassembled.{optional_line, import_line, export_line}
use Rattle.disassembler.specs.Disassembled.{site_line, kind_fields, row_line}
use Rattle.disassembler.proofs.Leads.{Leads, leads_optional, leads_all}
use Rattle.disassembler.proofs.Lines.{so_far, one_operand, leads_item, ends, last_in, last_behind, follows}
use Rattle.disassembler.proofs.Lines.{in_tables, all_three}

-- the tables, with no item out of order
abbrev pub tables : List Import → List Export → List ℕ → Option ℕ → Option ℕ → List KindRow → Tables
tables is es ss f l rs = record {
  imports = is;
  exports = es;
  sites = ss;
  fail_at = f;
  literal_at = l;
  rows = rs;
  out_of_order = None;
}

-- code and data have words
pub record HasWords (code words : List Word) : Type 0 where
  pub in_code : 1 ≤ length code
  pub in_data : 1 ≤ length words

-- one more item has room after some of them
pub fewer : {A : Type 0} (most : ℕ) (xs before : List A) (x : A) (after : List A) → length xs ≤ most
    → xs ≡ before ++ x ∷ after → nat_lt (length before) most ≡ true
fewer most xs before x after few is =
    let all : length xs ≡ length before + length (x ∷ after) = ap length is
    ∙ length-append before (x ∷ after) in
    lt-ltb (length before) most (omega (arith, all, few))

-- an item of a table may stand after those before it
stands : {A : Type 0} (i : ItemKind) (last : Option ItemKind) (h : TextHeader) (code words : List Word)
    (t : Tables)
    (before : List A) → HasWords code words → rank item.Data ≤ rank_of last → rank_of last < rank i
    → rank i ≤ rank item.Row
    → may_follow (Some i) i ≡ true → has_room i t ≡ true
    → may_stand false i (so_far (last_in i last before) h code words t) ≡ true
stands i last h code words t before some low lt high again room =
    all_three (may_follow (last_in i last before) i)
    (may_end (so_far (last_in i last before) h code words t)) (has_room i t)
    (follows i last before low lt high again)
    (ends (last_in i last before) h code words t some.in_code some.in_data) room

-- lists of items, each in its line, make a table
table : {A : Type 0} (i : ItemKind) (t : A → List ℕ) (T : List A → Tables) (most : ℕ)
    (P : Option A → A → Type 0) (last : Option ItemKind) (h : TextHeader) (code words : List Word)
    (xs : List A)
    → length xs ≤ most → Chain P None xs
    → ((before : List A) (x : A) → nat_lt (length before) most ≡ true → P (last_item before) x
    → Leads 1 (t x) (so_far (last_in i last before) h code words (T before))
    (so_far (Some i) h code words (T (before ++ x ∷ []))))
    → Leads (length xs) (flat_map t xs) (so_far last h code words (T []))
    (so_far (last_in i last xs) h code words (T xs))
table i t T most P last h code words xs few chain step =
    leads_all t (λ xs. so_far (last_in i last xs) h code words (T xs)) xs (λ before x after is.
    subst (λ o. Leads 1 (t x) (so_far (last_in i last before) h code words (T before))
    (so_far o h code words (T (before ++ x ∷ [])))) (sym (last_behind i last before x))
    (step before x (fewer most xs before x after few is)
    (item_in_chain P before x after (subst (Chain P None) is chain))))

-- no item is out of order
still : (b : Bool) (at : ℕ) → b ≡ true → first_out_of_order None b at ≡ None
still true at h = refl
still false at h = absurd cc

-- ---- imports

pub imports_lead : (last : Option ItemKind) (h : TextHeader) (code words : List Word) (is : List Import)
    → HasWords code words → rank item.Data ≤ rank_of last
    → rank_of last < rank item.Import → length is ≤ 1024 → Chain ImportFits None is
    → Leads (length is) (flat_map import_line is) (so_far last h code words (tables [] [] [] None None []))
    (so_far (last_in item.Import last is) h code words (tables is [] [] None None []))
imports_lead last h code words is some low lt few chain =
    table item.Import import_line (λ is. tables is [] [] None None []) 1024 ImportFits last h code words is
    few chain (λ before i room fits.
    leads_item item.Import _ _ (import_forms i)
    (so_far (last_in item.Import last before) h code words (tables before [] [] None None []))
    (so_far (Some item.Import) h code words (tables (before ++ i ∷ []) [] [] None None []))
    (rest_more 31 _ i.part _ (name_form i.part ∷ []) _ (proper_field i.part fits.0)
    (rest_more 31 _ i.name _ (name_form i.name ∷ []) _ (proper_field i.name fits.1)
    (one_operand 5 (decimal i.slot) (integer_forms (pos i.slot)) (offset_field i.slot fits.2)))) (lit≤ tt)
    (stands item.Import last h code words (tables before [] [] None None []) before some low lt
    (lit≤ tt) refl room)
    (λ at. import_again at i (so_far (Some item.Import) h code words (tables before [] [] None None []))
    (tables (before ++ i ∷ []) [] [] None None []) fits.0 fits.1 fits.2
    (ap (λ o. record (tables (before ++ i ∷ []) [] [] None None []) { out_of_order = o })
    (still _ at fits.3))))

-- ---- exports

pub exports_lead : (last : Option ItemKind) (h : TextHeader) (code words : List Word) (is : List Import)
    (es : List Export) → HasWords code words → rank item.Data ≤ rank_of last
    → rank_of last < rank item.Export → length es ≤ 1024 → Chain ExportFits None es
    → Leads (length es) (flat_map export_line es) (so_far last h code words (tables is [] [] None None []))
    (so_far (last_in item.Export last es) h code words (tables is es [] None None []))
exports_lead last h code words is es some low lt few chain =
    table item.Export export_line (λ es. tables is es [] None None []) 1024 ExportFits last h code words es
    few chain (λ before e room fits.
    leads_item item.Export _ _ (export_forms e)
    (so_far (last_in item.Export last before) h code words (tables is before [] None None []))
    (so_far (Some item.Export) h code words (tables is (before ++ e ∷ []) [] None None []))
    (rest_more 31 _ e.name _ (name_form e.name ∷ []) _ (proper_field e.name fits.0)
    (rest_more 5 _ (decimal e.offset) _ (integer_forms (pos e.offset)) _ (offset_field e.offset fits.2)
    (one_operand 6 (ownership e.shared) (name_form (ownership e.shared) ∷ []) (shared_field e.shared))))
    (lit≤ tt)
    (stands item.Export last h code words (tables is before [] None None []) before some low lt
    (lit≤ tt) refl room)
    (λ at. export_again at e (so_far (Some item.Export) h code words (tables is before [] None None []))
    (tables is (before ++ e ∷ []) [] None None []) fits.0 fits.2
    (ap (λ o. record (tables is (before ++ e ∷ []) [] None None []) { out_of_order = o })
    (still _ at fits.1))))

-- ---- sites

pub sites_lead : (last : Option ItemKind) (h : TextHeader) (code words : List Word) (is : List Import)
    (es : List Export) (ss : List ℕ) → HasWords code words → rank item.Data ≤ rank_of last
    → rank_of last < rank item.Site → length ss ≤ 4096 → Chain SiteFits None ss
    → Leads (length ss) (flat_map site_line ss) (so_far last h code words (tables is es [] None None []))
    (so_far (last_in item.Site last ss) h code words (tables is es ss None None []))
sites_lead last h code words is es ss some low lt few chain =
    table item.Site site_line (λ ss. tables is es ss None None []) 4096 SiteFits last h code words ss few
    chain (λ before s room fits.
    leads_item item.Site _ _ (offset_forms s)
    (so_far (last_in item.Site last before) h code words (tables is es before None None []))
    (so_far (Some item.Site) h code words (tables is es (before ++ s ∷ []) None None []))
    (one_operand 5 (decimal s) (integer_forms (pos s)) (offset_field s fits.0)) (lit≤ tt)
    (stands item.Site last h code words (tables is es before None None []) before some low lt
    (lit≤ tt) refl room)
    (λ at. site_again at s (so_far (Some item.Site) h code words (tables is es before None None []))
    (tables is es (before ++ s ∷ []) None None []) fits.0
    (ap (λ o. record (tables is es (before ++ s ∷ []) None None []) { out_of_order = o })
    (still _ at fits.1))))

-- ---- two offsets

abbrev pub last_some : ItemKind → Option ItemKind → Option ℕ → Option ItemKind
last_some i last None = last
last_some i last (Some n) = Some i

pub fail_leads : (last : Option ItemKind) (h : TextHeader) (code words : List Word) (is : List Import)
    (es : List Export) (ss : List ℕ) (f : Option ℕ) → HasWords code words → rank item.Data ≤ rank_of last
    → rank_of last < rank item.Fail → IfSome f (λ o. o ≤ 65535)
    → Leads 1 (optional_line item.Fail f) (so_far last h code words (tables is es ss None None []))
    (so_far (last_some item.Fail last f) h code words (tables is es ss f None []))
fail_leads last h code words is es ss None some low lt fits = leads_optional
    (so_far last h code words (tables is es ss None None []))
fail_leads last h code words is es ss (Some n) some low lt fits =
    leads_item item.Fail _ _ (offset_forms n) (so_far last h code words (tables is es ss None None []))
    (so_far (Some item.Fail) h code words (tables is es ss (Some n) None []))
    (one_operand 5 (decimal n) (integer_forms (pos n)) (offset_field n fits)) (lit≤ tt)
    (all_three (may_follow last item.Fail) _ true
    (in_tables (rank_of last) (rank item.Fail) false low lt (lit≤ tt))
    (ends last h code words (tables is es ss None None []) some.in_code some.in_data) refl)
    (λ at. fail_again at n (so_far (Some item.Fail) h code words (tables is es ss None None [])) fits)

pub literal_leads : (last : Option ItemKind) (h : TextHeader) (code words : List Word) (is : List Import)
    (es : List Export) (ss : List ℕ) (f l : Option ℕ) → HasWords code words → rank item.Data ≤ rank_of last
    → rank_of last < rank item.Literal → IfSome l (λ o. o ≤ 65535)
    → Leads 1 (optional_line item.Literal l) (so_far last h code words (tables is es ss f None []))
    (so_far (last_some item.Literal last l) h code words (tables is es ss f l []))
literal_leads last h code words is es ss f None some low lt fits = leads_optional
    (so_far last h code words (tables is es ss f None []))
literal_leads last h code words is es ss f (Some n) some low lt fits =
    leads_item item.Literal _ _ (offset_forms n) (so_far last h code words (tables is es ss f None []))
    (so_far (Some item.Literal) h code words (tables is es ss f (Some n) []))
    (one_operand 5 (decimal n) (integer_forms (pos n)) (offset_field n fits)) (lit≤ tt)
    (all_three (may_follow last item.Literal) _ true
    (in_tables (rank_of last) (rank item.Literal) false low lt (lit≤ tt))
    (ends last h code words (tables is es ss f None []) some.in_code some.in_data) refl)
    (λ at. literal_again at n (so_far (Some item.Literal) h code words (tables is es ss f None [])) fits)

-- ---- rows

wider : (n m : ℕ) (text : List ℕ) (forms : List Form) → n ≤ m → IsRest n text forms → IsRest m text forms
wider n m text forms le r = record {
  short = omega (arith, r.short);
  in_line = r.in_line;
  tokens = r.tokens;
  stops = r.stops;
  shown = r.shown;
}

abbrev kinds_text : List Kind → List ℕ
kinds_text ks = flat_map field_text (flat_map kind_fields ks)

-- one more kind, which is its name
named_rest : (k : Kind) (ks : List Kind) → IsRest (11 * length ks) (kinds_text ks) (flat_map kind_forms ks)
    → IsRest (11 * length (k ∷ ks)) (32 ∷ (kind_name k ++ kinds_text ks))
    (name_form (kind_name k) ∷ flat_map kind_forms ks)
named_rest k ks others = wider (1 + 4 + 11 * length ks) (11 * length (k ∷ ks)) _ _ (omega arith)
    (rest_more 4 (11 * length ks) (kind_name k) (kinds_text ks) (name_form (kind_name k) ∷ [])
    (flat_map kind_forms ks) (kind_field k) others)

kinds_rest : (ks : List Kind) → AllByRecursion KindFits ks → IsRest (11 * length ks) (kinds_text ks)
    (flat_map kind_forms ks)
kinds_rest [] h = wider 0 (11 * 0) [] [] (omega arith) rest_none
kinds_rest (kind.Any ∷ ks) h = named_rest kind.Any ks (kinds_rest ks h.1)
kinds_rest (kind.Int ∷ ks) h = named_rest kind.Int ks (kinds_rest ks h.1)
kinds_rest (kind.DataCap ∷ ks) h = named_rest kind.DataCap ks (kinds_rest ks h.1)
kinds_rest (kind.Stk ∷ ks) h = named_rest kind.Stk ks (kinds_rest ks h.1)
kinds_rest (kind.Top ∷ ks) h = named_rest kind.Top ks (kinds_rest ks h.1)
kinds_rest (kind.Pc offset ∷ ks) h =
    wider (1 + 4 + (1 + 5 + 11 * length ks)) (11 * length (kind.Pc offset ∷ ks)) _ _ (omega arith)
    (rest_more 4 (1 + 5 + 11 * length ks) (kind_name (kind.Pc offset))
    (32 ∷ (decimal offset ++ kinds_text ks)) (name_form (kind_name (kind.Pc offset)) ∷ [])
    (integer_forms (pos offset) ++ flat_map kind_forms ks) (kind_field (kind.Pc offset))
    (rest_more 5 (11 * length ks) (decimal offset) (kinds_text ks) (integer_forms (pos offset))
    (flat_map kind_forms ks) (offset_field offset h.0) (kinds_rest ks h.1)))

all_of : (before : Option Kind) (ks : List Kind) → Chain (λ _. KindFits) before ks
    → AllByRecursion KindFits ks
all_of before [] h = tt
all_of before (k ∷ ks) h = (h.0, all_of (Some k) ks h.1)

row_rest : (r : KindRow) → r.offset ≤ 65535 → length r.kinds ≡ 15 → AllByRecursion KindFits r.kinds
    → IsRest 171 (flat_map field_text (decimal r.offset ∷ flat_map kind_fields r.kinds)) (row_forms r)
row_rest r offset many kinds =
    let all = subst (λ fs. IsRest (11 * length r.kinds) (kinds_text r.kinds) fs)
    (sym (append-nil (flat_map kind_forms r.kinds))) (kinds_rest r.kinds kinds) in
    wider (1 + 5 + 11 * length r.kinds) 171 _ _ (omega arith)
    (rest_more 5 (11 * length r.kinds) (decimal r.offset) (kinds_text r.kinds)
    (integer_forms (pos r.offset)) (flat_map kind_forms r.kinds ++ [])
    (offset_field r.offset offset) all)

pub rows_lead : (last : Option ItemKind) (h : TextHeader) (code words : List Word) (is : List Import)
    (es : List Export) (ss : List ℕ) (f l : Option ℕ) (rs : List KindRow) → HasWords code words
    → rank item.Data ≤ rank_of last
    → rank_of last < rank item.Row → length rs ≤ 65536 → Chain KindRowFits None rs
    → Leads (length rs) (flat_map row_line rs) (so_far last h code words (tables is es ss f l []))
    (so_far (last_in item.Row last rs) h code words (tables is es ss f l rs))
rows_lead last h code words is es ss f l rs some low lt few chain =
    table item.Row row_line (λ rs. tables is es ss f l rs) 65536 KindRowFits last h code words rs few chain
    (λ before r room fits.
    leads_item item.Row 171 _ (row_forms r)
    (so_far (last_in item.Row last before) h code words (tables is es ss f l before))
    (so_far (Some item.Row) h code words (tables is es ss f l (before ++ r ∷ [])))
    (row_rest r fits.0 fits.2.0 (all_of None r.kinds fits.2.1)) (lit≤ tt)
    (stands item.Row last h code words (tables is es ss f l before) before some low lt (lit≤ tt) refl room)
    (λ at. row_again at r (so_far (Some item.Row) h code words (tables is es ss f l before))
    (tables is es ss f l (before ++ r ∷ [])) fits.0 fits.2.0 (all_of None r.kinds fits.2.1)
    (ap (λ o. record (tables is es ss f l (before ++ r ∷ [])) { out_of_order = o }) (still _ at fits.1))))
