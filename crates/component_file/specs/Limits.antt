-- What a component is: the limits of its numbers, and the order of its lists.
use Rattle.std.specs.Prelude.{◌≡◌, ℕ, ◌≤◌, ◌==◌, nat_lt, Bool, true, IsTrue, List, [], ◌∷◌, length}
use Rattle.std.specs.Prelude.{Option, Some, None, option_map, IfSome, if◌then◌else◌}
use Rattle.std.specs.Ordering.{is_lt, nat_cmp}
use Rattle.std.specs.Cmp.Lexicographic.{slice_cmp}
use Rattle.cap_words.specs.declared.TheConstants.{LAST_PLACE, LONGEST_STRETCH}
use Rattle.cap_words.specs.declared.Word.{Word}
use Rattle.cap_words.specs.WordBytes.{WordFits, IsUnsealed}
use Rattle.cap_words.specs.Names.{is_name}
use Rattle.component_file.specs.declared.TheConstants.{LAST_OFFSET, MOST_WORDS}
use Rattle.component_file.specs.declared.TheConstants.{MOST_IMPORTS, MOST_EXPORTS, MOST_SITES, MOST_ROWS}
use Rattle.component_file.specs.declared.component.Kind.{Kind}
use Rattle.component_file.specs.declared.component.Kind.TheVariants.{Pc}
use Rattle.component_file.specs.declared.component.Import.{Import}
use Rattle.component_file.specs.declared.component.Export.{Export}
use Rattle.component_file.specs.declared.component.KindRow.{KindRow}
use Rattle.component_file.specs.declared.component.ComponentFields.{ComponentFields}

-- ---- lists

-- nothing stands before the first
abbrev pub ascends : {A : Type 0} → (A → A → Bool) → Option A → A → Bool
ascends less None x = true
ascends less (Some before) x = less before x

abbrev pub name_lt : List ℕ → List ℕ → Bool
name_lt a b = is_lt (slice_cmp nat_cmp a b)

-- each item stands rightly after the one before it
abbrev pub Chain : {A : Type 0} → (Option A → A → Type 0) → Option A → List A → Type 0
Chain P before [] = Unit {0}
Chain P before (x ∷ xs) = P before x × Chain P (Some x) xs

-- items whose order is free
abbrev pub Each : {A : Type 0} → (A → Type 0) → List A → Type 0
Each P items = Chain (λ _. P) None items

abbrev pub ImportFits : Option Import → Import → Type 0
ImportFits before i =
    IsTrue (is_name i.part) × IsTrue (is_name i.name)
    × (i.slot ≤ LAST_OFFSET) × IsTrue (ascends nat_lt (option_map (λ b. b.slot) before) i.slot)

abbrev pub ExportFits : Option Export → Export → Type 0
ExportFits before e =
    IsTrue (is_name e.name) × IsTrue (ascends name_lt (option_map (λ b. b.name) before) e.name)
    × (e.offset ≤ LAST_OFFSET)

abbrev pub SiteFits : Option ℕ → ℕ → Type 0
SiteFits before site = (site ≤ LAST_OFFSET) × IsTrue (ascends nat_lt before site)

abbrev pub KindFits : Kind → Type 0
KindFits (Pc offset) = offset ≤ LAST_OFFSET
KindFits _ = Unit {0}

-- the kinds of the registers 1 to 15
abbrev pub KindRowFits : Option KindRow → KindRow → Type 0
KindRowFits before r =
    (r.offset ≤ LAST_OFFSET) × IsTrue (ascends nat_lt (option_map (λ b. b.offset) before) r.offset)
    × ((length r.kinds ≡ 15) × Each KindFits r.kinds)

-- ---- the component

-- where there is nothing, its base is 0
abbrev pub last_base : ℕ → ℕ
last_base count = if count == 0 then 0 else LAST_PLACE

abbrev pub StretchFits : ℕ → ℕ → Type 0
StretchFits base count = (count ≤ LONGEST_STRETCH) × (base ≤ last_base count)

-- words of code or data: at least one, and none sealed
abbrev pub WordsFit : List Word → Type 0
WordsFit words =
    ((1 ≤ length words) × (length words ≤ MOST_WORDS)) × Each (λ w. WordFits w × IsUnsealed w) words

pub record IsComponent (c : ComponentFields) : Type 0 where
  pub name : IsTrue (is_name c.name)
  pub stack_base : c.stack_base ≤ LAST_PLACE
  pub closure : c.closure ≤ LAST_PLACE
  pub seals : StretchFits c.seals.base c.seals.count
  pub linear : StretchFits c.linear.base c.linear.count
  pub code_base : c.code_base ≤ LAST_PLACE
  pub code : WordsFit c.code
  pub data_base : c.data_base ≤ LAST_PLACE
  pub data_words : WordsFit c.data_words
  pub imports : (length c.imports ≤ MOST_IMPORTS) × Chain ImportFits None c.imports
  pub exports : (length c.exports ≤ MOST_EXPORTS) × Chain ExportFits None c.exports
  pub sites : (length c.sites ≤ MOST_SITES) × Chain SiteFits None c.sites
  pub fail_at : IfSome c.fail_at (λ o. o ≤ LAST_OFFSET)
  pub literal_at : IfSome c.literal_at (λ o. o ≤ LAST_OFFSET)
  pub rows : (length c.rows ≤ MOST_ROWS) × Chain KindRowFits None c.rows
