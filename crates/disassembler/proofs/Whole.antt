-- What is written from a component is read as that component.
use Rattle.std.proofs.Common.{◌≡◌, ℕ, zero, suc, ◌+◌, ◌^◌, ◌<◌, ◌≤◌, true, false, cond, List, [], ◌∷◌, ◌++◌}
use Rattle.std.proofs.Common.{map, length, Option, Some, None, Ok, refl, sym, ap, ◌∙◌, subst, append-nil}
use Rattle.std.proofs.Common.{arith, lit≤, lit<}
use Rattle.std.specs.Prelude.{Bool, pos, ◌==◌, nat_lt, nat_le, not, ◌&&◌, decimal}
use Rattle.std.specs.List.{flat_map}
use Rattle.std.proofs.lemmas.Bool.{le-leb, ne_eqb}
use Rattle.text_scan.specs.Tokens.{scanned}
use Rattle.text_scan.proofs.Offers.{name_form, integer_forms, rest_none, rest_more}
use Rattle.cap_words.specs.Stretch.{Stretch}
use Rattle.cap_words.specs.declared.Word.{Word}
use Rattle.cap_words.specs.WordBytes.{WordFits, IsUnsealed}
use Rattle.component_file.specs.declared.component.Area.{Area}
use Rattle.component_file.specs.declared.component.ComponentFields.{ComponentFields}
use Rattle.cap_words.specs.Names.{is_name}
use Rattle.component_file.specs.Limits.{Chain, WordsFit, StretchFits, IsComponent}
use Rattle.assembler.specs.declared.labels.Section.TheVariants as section
use Rattle.assembler.specs.References.{resolved}
use Rattle.asm_fields.specs.declared.directives.ItemKind.{ItemKind}
use Rattle.asm_fields.specs.declared.directives.ItemKind.TheVariants as item
use Rattle.asm_fields.specs.Fields.{seen}
use Rattle.asm_fields.proofs.Offers.{Again, proper_field, place_field}
use Rattle.assembler.specs.declared.header.TextHeader.{TextHeader}
use Rattle.assembler.specs.Order.{rank, rank_of, reaches_data}
use Rattle.assembler.specs.Tables.{no_tables}
use Rattle.assembler.specs.Draft.{Draft, nothing, may_end}
use Rattle.assembler.specs.Operands.{operands_in}
use Rattle.assembler.specs.Lines.{may_stand}
use Rattle.assembler.specs.Whole.{drafted, lines_of, ended, ended_all, draft_of_text}
use Rattle.assembler.proofs.Offers.{stretch_forms, name_again, stack_again, closure_again, movable_again}
use Rattle.assembler.proofs.Offers.{seals_again, linear_again, code_base_again, data_base_again}
use Rattle.assembler.specs.Assembled.{finished, assembled}
use Rattle.assembler.proofs.Offers.{IsPartWord, item_in_chain}
use Rattle.disassembler.specs.Disassembled.{item_line, flag_line, stretch_line, code_line, word_line}
use Rattle.disassembler.specs.Disassembled.{disassembled}
use Rattle.disassembler.proofs.Leads.{Goes, Leads, leads_none, leads_optional, leads_then, leads_all}
use Rattle.disassembler.proofs.Leads.{goes_nowhere}
use Rattle.disassembler.proofs.Lines.{so_far, one_operand, leads_item, leads_place, word_leads, code_leads}
use Rattle.disassembler.proofs.Lines.{some_words, ends, last_in, all_three}
use Rattle.disassembler.proofs.TableLines.{tables, HasWords, fewer, last_some, imports_lead, exports_lead}
use Rattle.disassembler.proofs.TableLines.{sites_lead, fail_leads, literal_leads, rows_lead}

-- ---- the header

abbrev header : List ℕ → ℕ → ℕ → Bool → Stretch → Area → ℕ → ℕ → TextHeader
header name stack closure movable seals linear code words =
    record {
      name = name;
      stack_base = stack;
      closure = closure;
      movable = movable;
      seals = seals;
      linear = linear;
      code_base = code;
      data_base = words;
    }

abbrev no_seals : Stretch
no_seals = record { base = 0; count = 0 }

abbrev no_area : Area
no_area = record { base = 0; count = 0 }

name_leads : (name : List ℕ) → is_name name ≡ true → Leads 1 (item_line item.Name (name ∷ [])) nothing
    (so_far (Some item.Name) (header name 0 0 false no_seals no_area 0 0) [] [] no_tables)
name_leads name h =
    leads_item item.Name _ _ (name_form name ∷ []) nothing
    (so_far (Some item.Name) (header name 0 0 false no_seals no_area 0 0) [] [] no_tables)
    (one_operand 31 name (name_form name ∷ []) (proper_field name h)) (lit≤ tt) refl
    (λ at. name_again at name (record nothing { last = Some item.Name }) h)

-- the last item after `.closure`, and after `.movable` where it stands
abbrev at_closure : Bool → Option ItemKind
at_closure false = Some item.Closure
at_closure true = Some item.Movable

movable_leads : (name : List ℕ) (stack closure : ℕ) (movable : Bool)
    → Leads 1 (flag_line item.Movable movable)
    (so_far (Some item.Closure) (header name stack closure false no_seals no_area 0 0) [] [] no_tables)
    (so_far (at_closure movable) (header name stack closure movable no_seals no_area 0 0) [] [] no_tables)
movable_leads name stack closure false =
    leads_optional
    (so_far (Some item.Closure) (header name stack closure false no_seals no_area 0 0) [] [] no_tables)
movable_leads name stack closure true =
    let d = so_far (Some item.Closure) (header name stack closure false no_seals no_area 0 0) [] []
    no_tables in
    leads_item item.Movable 0 [] [] d _ rest_none (lit≤ tt) refl
    (λ at. movable_again at (record d { last = Some item.Movable }))

-- the last item, where one that counts something may stand after another
abbrev last_counted : ItemKind → Option ItemKind → ℕ → Option ItemKind
last_counted i last zero = last
last_counted i last (suc n) = Some i

counted : (n : ℕ) → (suc n == 0) ≡ false
counted n = ne_eqb (suc n) 0 (λ e. omega (arith, e))

-- a range of which something is counted
stretch_leads : (i : ItemKind) (base n : ℕ) (d new : Draft) → StretchFits base (suc n)
    → may_stand false i d ≡ true
    → ((at : ℕ) → base ≤ 1048575 → 1 ≤ suc n → suc n ≤ 65536 → Again (stretch_forms base (suc n)) new
    (operands_in at i (record d { last = Some i }))) → Leads 1 (stretch_line i base (suc n)) d new
stretch_leads i base n d new fits may one =
    let low : base ≤ 1048575 = subst (λ b. base ≤ cond b 0 1048575) (counted n) fits.1 in
    let high : suc n ≤ 65536 = fits.0 in
    subst (λ b. Leads 1 (cond b [] (item_line i (decimal base ∷ decimal (suc n) ∷ []))) d new)
    (sym (counted n))
    (leads_item i _ _ (stretch_forms base (suc n)) d new
    (rest_more 7 _ (decimal base) _ (integer_forms (pos base)) _ (place_field base low)
    (one_operand 7 (decimal (suc n)) (integer_forms (pos (suc n)))
    (place_field (suc n) (omega arith)))) (lit≤ tt) may
    (λ at. one at low (omega arith) high))

seals_stand : (h : TextHeader) (movable : Bool)
    → may_stand false item.Seals (so_far (at_closure movable) h [] [] no_tables) ≡ true
seals_stand h false = refl
seals_stand h true = refl

seals_lead : (name : List ℕ) (stack closure : ℕ) (movable : Bool) (base count : ℕ) → StretchFits base count
    → Leads 1 (stretch_line item.Seals base count)
    (so_far (at_closure movable) (header name stack closure movable no_seals no_area 0 0) [] []
    no_tables)
    (so_far (last_counted item.Seals (at_closure movable) count)
    (header name stack closure movable (record { base = base; count = count }) no_area 0 0) [] []
    no_tables)
seals_lead name stack closure movable base zero fits =
    let d = so_far (at_closure movable) (header name stack closure movable no_seals no_area 0 0) [] []
    no_tables in
    let none : 0 ≡ base = omega (arith, fits.1) in
    subst
    (λ b.
    Leads 1 [] d
    (so_far (at_closure movable)
    (header name stack closure movable (record { base = b; count = 0 }) no_area 0 0) [] [] no_tables))
    none (leads_optional d)
seals_lead name stack closure movable base (suc n) fits =
    let d = so_far (at_closure movable) (header name stack closure movable no_seals no_area 0 0) [] []
    no_tables in
    stretch_leads item.Seals base n d _ fits (seals_stand d.header movable)
    (λ at. seals_again at base (suc n) (record d { last = Some item.Seals }))

linear_stands : (h : TextHeader) (movable : Bool) (seals : ℕ) → may_stand false item.Linear
    (so_far (last_counted item.Seals (at_closure movable) seals) h [] [] no_tables) ≡ true
linear_stands h false zero = refl
linear_stands h true zero = refl
linear_stands h movable (suc n) = refl

linear_leads : (name : List ℕ) (stack closure : ℕ) (movable : Bool) (s : Stretch) (base count : ℕ)
    → StretchFits base count
    → Leads 1 (stretch_line item.Linear base count)
    (so_far (last_counted item.Seals (at_closure movable) s.count)
    (header name stack closure movable s no_area 0 0) [] [] no_tables)
    (so_far (last_counted item.Linear (last_counted item.Seals (at_closure movable) s.count) count)
    (header name stack closure movable s (record { base = base; count = count }) 0 0) [] [] no_tables)
linear_leads name stack closure movable s base zero fits =
    let last = last_counted item.Seals (at_closure movable) s.count in
    let d = so_far last (header name stack closure movable s no_area 0 0) [] [] no_tables in
    let none : 0 ≡ base = omega (arith, fits.1) in
    subst
    (λ b.
    Leads 1 [] d
    (so_far last (header name stack closure movable s (record { base = b; count = 0 }) 0 0) [] []
    no_tables)) none (leads_optional d)
linear_leads name stack closure movable s base (suc n) fits =
    let d = so_far (last_counted item.Seals (at_closure movable) s.count)
    (header name stack closure movable s no_area 0 0) [] [] no_tables in
    stretch_leads item.Linear base n d _ fits
    (linear_stands (header name stack closure movable s no_area 0 0) movable s.count)
    (λ at. linear_again at base (suc n) (record d { last = Some item.Linear }))

code_stands : (h : TextHeader) (movable : Bool) (seals linear : ℕ)
    → may_stand false item.Code
    (so_far (last_counted item.Linear (last_counted item.Seals (at_closure movable) seals) linear) h [] []
    no_tables) ≡ true
code_stands h false zero zero = refl
code_stands h true zero zero = refl
code_stands h movable (suc n) zero = refl
code_stands h movable seals (suc n) = refl

-- ---- code and data

words_lead : (t : Word → List ℕ) (D : List Word → Draft) (ws : List Word) → WordsFit ws
    → ((w : Word) (before : List Word) → WordFits w → IsUnsealed w → nat_lt (length before) 65536 ≡ true
    → Leads 1 (t w) (D before) (D (before ++ w ∷ [])))
    → Leads (length ws) (flat_map t ws) (D []) (D ws)
words_lead t D ws fit step = leads_all t D ws (λ before w after is.
    let each : IsPartWord w = item_in_chain (λ _. IsPartWord) before w after
    (subst (Chain (λ _. IsPartWord) None) is fit.1) in
    step w before each.0 each.1 (fewer 65536 ws before w after fit.0.1 is))

-- ---- the tables' order

-- the last item that came is at least `.data` and before another
pub record IsPast (m : ℕ) (last : Option ItemKind) : Type 0 where
  pub low : rank item.Data ≤ rank_of last
  pub high : rank_of last < m

past_in : {A : Type 0} (i : ItemKind) (last : Option ItemKind) (xs : List A) → rank item.Data ≤ rank i
    → IsPast (rank i) last → IsPast (1 + rank i) (last_in i last xs)
past_in i last [] low p = record { low = p.low; high = omega (arith, p.high) }
past_in i last (x ∷ xs) low p = record { low = low; high = omega arith }

past_some : (i : ItemKind) (last : Option ItemKind) (o : Option ℕ) → rank item.Data ≤ rank i
    → IsPast (rank i) last
    → IsPast (1 + rank i) (last_some i last o)
past_some i last None low p = record { low = p.low; high = omega (arith, p.high) }
past_some i last (Some n) low p = record { low = low; high = omega arith }

-- ---- the whole text

abbrev header_of : ComponentFields → TextHeader
header_of c = header c.name c.stack_base c.closure c.movable c.seals c.linear c.code_base c.data_base

-- the last item after each table
abbrev at_imports : ComponentFields → Option ItemKind
at_imports c = last_in item.Import (Some item.Data) c.imports

abbrev at_exports : ComponentFields → Option ItemKind
at_exports c = last_in item.Export (at_imports c) c.exports

abbrev at_sites : ComponentFields → Option ItemKind
at_sites c = last_in item.Site (at_exports c) c.sites

abbrev at_fail : ComponentFields → Option ItemKind
at_fail c = last_some item.Fail (at_sites c) c.fail_at

abbrev at_literal : ComponentFields → Option ItemKind
at_literal c = last_some item.Literal (at_fail c) c.literal_at

abbrev at_rows : ComponentFields → Option ItemKind
at_rows c = last_in item.Row (at_literal c) c.rows

past_data : IsPast (rank item.Import) (Some item.Data)
past_data = record { low = lit≤ tt; high = lit< tt }

past_imports : (c : ComponentFields) → IsPast (rank item.Export) (at_imports c)
past_imports c = past_in item.Import (Some item.Data) c.imports (lit≤ tt) past_data

past_exports : (c : ComponentFields) → IsPast (rank item.Site) (at_exports c)
past_exports c = past_in item.Export (at_imports c) c.exports (lit≤ tt) (past_imports c)

past_sites : (c : ComponentFields) → IsPast (rank item.Fail) (at_sites c)
past_sites c = past_in item.Site (at_exports c) c.sites (lit≤ tt) (past_exports c)

past_fail : (c : ComponentFields) → IsPast (rank item.Literal) (at_fail c)
past_fail c = past_some item.Fail (at_sites c) c.fail_at (lit≤ tt) (past_sites c)

past_literal : (c : ComponentFields) → IsPast (rank item.Row) (at_literal c)
past_literal c = past_some item.Literal (at_fail c) c.literal_at (lit≤ tt) (past_fail c)

past_rows : (c : ComponentFields) → IsPast (1 + rank item.Row) (at_rows c)
past_rows c = past_in item.Row (at_literal c) c.rows (lit≤ tt) (past_literal c)

abbrev draft_of : ComponentFields → Draft
draft_of c = so_far (at_rows c) (header_of c) c.code c.data_words
    (tables c.imports c.exports c.sites c.fail_at c.literal_at c.rows)

abbrev line_count : ComponentFields → ℕ
line_count c =
    1 + (1 + (1 + (1 + (1 + (1 + (1 + (length c.code + (1 + (length c.data_words + (length c.imports
    + (length c.exports + (length c.sites + (1 + (1 + (length c.rows + 0)))))))))))))))

text_leads : (c : ComponentFields) → IsComponent c → Leads (line_count c) (disassembled c) nothing
    (draft_of c)
unfolding disassembled
text_leads c fits =
    let some : HasWords c.code c.data_words =
    record { in_code = fits.code.0.0; in_data = fits.data_words.0.0 } in
    let h = header_of c in
    let h1 = header c.name 0 0 false no_seals no_area 0 0 in
    let h2 = header c.name c.stack_base 0 false no_seals no_area 0 0 in
    let h3 = header c.name c.stack_base c.closure false no_seals no_area 0 0 in
    let h5 = header c.name c.stack_base c.closure c.movable c.seals c.linear 0 0 in
    let h6 = header c.name c.stack_base c.closure c.movable c.seals c.linear c.code_base 0 in
    let l4 = last_counted item.Seals (at_closure c.movable) c.seals.count in
    let l5 = last_counted item.Linear l4 c.linear.count in
    leads_then 1 _ _ _ nothing (so_far (Some item.Name) h1 [] [] no_tables) (draft_of c)
    (name_leads c.name fits.name)
    (leads_then 1 _ _ _ _ (so_far (Some item.Stack) h2 [] [] no_tables) (draft_of c)
    (leads_place item.Stack c.stack_base (so_far (Some item.Name) h1 [] [] no_tables) _ fits.stack_base
    refl
    (λ at. stack_again at c.stack_base (so_far (Some item.Stack) h1 [] [] no_tables) fits.stack_base))
    (leads_then 1 _ _ _ _ (so_far (Some item.Closure) h3 [] [] no_tables) (draft_of c)
    (leads_place item.Closure c.closure (so_far (Some item.Stack) h2 [] [] no_tables) _ fits.closure refl
    (λ at. closure_again at c.closure (so_far (Some item.Closure) h2 [] [] no_tables) fits.closure))
    (leads_then 1 _ _ _ _ _ (draft_of c) (movable_leads c.name c.stack_base c.closure c.movable)
    (leads_then 1 _ _ _ _ _ (draft_of c)
    (seals_lead c.name c.stack_base c.closure c.movable c.seals.base c.seals.count fits.seals)
    (leads_then 1 _ _ _ _ (so_far l5 h5 [] [] no_tables) (draft_of c)
    (linear_leads c.name c.stack_base c.closure c.movable c.seals c.linear.base c.linear.count
    fits.linear)
    (leads_then 1 _ _ _ _ (so_far (Some item.Code) h6 [] [] no_tables) (draft_of c)
    (leads_place item.Code c.code_base (so_far l5 h5 [] [] no_tables) _ fits.code_base
    (code_stands h5 c.movable c.seals.count c.linear.count)
    (λ at. code_base_again at c.code_base (so_far (Some item.Code) h5 [] [] no_tables) fits.code_base))
    (leads_then (length c.code) _ _ _ _ (so_far (Some item.Code) h6 c.code [] no_tables) (draft_of c)
    (words_lead code_line (λ ws. so_far (Some item.Code) h6 ws [] no_tables) c.code fits.code
    (λ w before a b room. code_leads w h6 before [] no_tables a b room))
    (leads_then 1 _ _ _ _ (so_far (Some item.Data) h c.code [] no_tables) (draft_of c)
    (leads_place item.Data c.data_base (so_far (Some item.Code) h6 c.code [] no_tables) _ fits.data_base
    (all_three true (not (length c.code == 0)) true refl (some_words (length c.code) some.in_code) refl)
    (λ at. data_base_again at c.data_base (so_far (Some item.Data) h6 c.code [] no_tables) fits.data_base))
    (leads_then (length c.data_words) _ _ _ _ (so_far (Some item.Data) h c.code c.data_words no_tables)
    (draft_of c)
    (words_lead word_line (λ ws. so_far (Some item.Data) h c.code ws no_tables) c.data_words
    fits.data_words
    (λ w before a b room. word_leads w section.Data (so_far (Some item.Data) h c.code before no_tables)
    a b refl room))
    (leads_then (length c.imports) _ _ _ _
    (so_far (at_imports c) h c.code c.data_words (tables c.imports [] [] None None [])) (draft_of c)
    (imports_lead (Some item.Data) h c.code c.data_words c.imports some past_data.low past_data.high
    fits.imports.0 fits.imports.1)
    (leads_then (length c.exports) _ _ _ _
    (so_far (at_exports c) h c.code c.data_words (tables c.imports c.exports [] None None []))
    (draft_of c)
    (exports_lead (at_imports c) h c.code c.data_words c.imports c.exports some (past_imports c).low
    (past_imports c).high fits.exports.0 fits.exports.1)
    (leads_then (length c.sites) _ _ _ _
    (so_far (at_sites c) h c.code c.data_words (tables c.imports c.exports c.sites None None []))
    (draft_of c)
    (sites_lead (at_exports c) h c.code c.data_words c.imports c.exports c.sites some (past_exports c).low
    (past_exports c).high fits.sites.0 fits.sites.1)
    (leads_then 1 _ _ _ _
    (so_far (at_fail c) h c.code c.data_words (tables c.imports c.exports c.sites c.fail_at None []))
    (draft_of c)
    (fail_leads (at_sites c) h c.code c.data_words c.imports c.exports c.sites c.fail_at some
    (past_sites c).low (past_sites c).high fits.fail_at)
    (leads_then 1 _ _ _ _
    (so_far (at_literal c) h c.code c.data_words
    (tables c.imports c.exports c.sites c.fail_at c.literal_at [])) (draft_of c)
    (literal_leads (at_fail c) h c.code c.data_words c.imports c.exports c.sites c.fail_at c.literal_at
    some (past_fail c).low (past_fail c).high fits.literal_at)
    (leads_then (length c.rows) 0 _ _ _ (draft_of c) (draft_of c)
    (rows_lead (at_literal c) h c.code c.data_words c.imports c.exports c.sites c.fail_at c.literal_at
    c.rows some (past_literal c).low (past_literal c).high fits.rows.0 fits.rows.1)
    (leads_none (draft_of c)))))))))))))))))

-- so it can be assembled
pub text_length : (c : ComponentFields) → IsComponent c → length (disassembled c) < 2 ^ 32
text_length c fits = omega (
  arith,
  (text_leads c fits).short,
  fits.code.0.1,
  fits.data_words.0.1,
  fits.imports.0,
  fits.exports.0,
  fits.sites.0,
  fits.rows.0,
)

-- ---- the passes

read_whole : (c : ComponentFields) → IsComponent c → Goes (disassembled c) (length (disassembled c)) 1 0
    (disassembled c) nothing (draft_of c)
read_whole c fits =
    let text = disassembled c in
    let goes : Goes text (length text) 1 0 (text ++ []) nothing (draft_of c) =
    (text_leads c fits).leads text [] (length text) 1 0 (draft_of c) (sym (append-nil text))
    (λ next. goes_nowhere text (length text) next (0 + length text) (draft_of c)) in
    subst (λ t. Goes text (length text) 1 0 t nothing (draft_of c)) (append-nil text) goes

far_enough : (n : ℕ) → rank item.Data ≤ n → nat_le (rank item.Data) n ≡ true
far_enough n le = le-leb (rank item.Data) n le

may_be_last : (c : ComponentFields) → IsComponent c → (reaches_data (at_rows c) && may_end (draft_of c))
    ≡ true
may_be_last c fits =
    let far = far_enough (rank_of (at_rows c)) (past_rows c).low in
    let may = ends (at_rows c) (header_of c) c.code c.data_words
    (tables c.imports c.exports c.sites c.fail_at c.literal_at c.rows) fits.code.0.0
    fits.data_words.0.0 in
    rw (far, may) refl

no_fault : (c : ComponentFields) → finished (draft_of c) ≡ Ok c
unfolding finished resolved
no_fault c = refl

ended_well : (end : ℕ) (d : Draft) → (reaches_data d.last && may_end d) ≡ true → ended end d ≡ Ok d
ended_well end d h = rw h refl

pub assembled_again : (c : ComponentFields) → IsComponent c → assembled (disassembled c) ≡ Ok c
unfolding assembled scanned draft_of_text
assembled_again c fits =
    let goes = read_whole c fits in
    let draft : ended_all (length (disassembled c))
    (drafted nothing (lines_of (map (seen (disassembled c)) goes.tokens) (length (disassembled c))))
    ≡ Ok (draft_of c) =
    ap (ended_all (length (disassembled c))) goes.made ∙ ended_well (length (disassembled c)) (draft_of c)
    (may_be_last c fits) in
    rw (goes.read, draft) (no_fault c)
