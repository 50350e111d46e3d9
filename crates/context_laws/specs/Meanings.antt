-- Sources that mean the same, and that no code outside can tell them apart.
use Rattle.std.specs.Prelude.{◌≡◌, ℕ, ◌==◌, false, List, [], ◌∷◌, ◌++◌, find, Option, Some, None}
use Rattle.std.specs.Prelude.{if◌then◌else◌}
use Rattle.std.specs.List.{Contains}
use Rattle.component_file.specs.declared.component.Import.{Import}
use Rattle.component_file.specs.declared.component.Export.{Export}
use Rattle.linked_starts.specs.Parts.{PartSeen}
use Rattle.linked_starts.specs.Start.{Exported, imported}
use Rattle.trusted_border.specs.declared.layout.Layout.{Layout}
use Rattle.trusted_border.specs.declared.layout.SiteCode.{SiteCode}
use Rattle.trusted_border.specs.Layout.{site_code}
use Rattle.overlay_machine.specs.Link.{Link, IsUntrusted}
use Rattle.overlay_machine.specs.State.{OState}
use Rattle.overlay_machine.specs.Step.{Ending, goes, halts, fails, overlay_step}
use Rattle.overlay_machine.specs.Events.{step_event}
use Rattle.run_lines.specs.Layout.{layout, part_name, site_of}
use Rattle.run_lines.specs.Views.{flat_view}
use Rattle.template_runs.specs.Runs.{is_inside}
use Rattle.source_events.specs.declared.Item.{Item}
use Rattle.same_meanings.specs.Observed.{CallNames, Naming, AreOneToOne, swapped, SameFeed, TellsAsMuch}
use Rattle.same_meanings.specs.Observed.{MeanTheSame}
use Rattle.source_laws.specs.Trace.{event_items}
use Rattle.source_starts.specs.Links.{Linking, overlay_link, first_state}
use Rattle.source_starts.specs.Sources.{LinkedSources, world_of}
use Rattle.lockstep.specs.Related.{SameNames, Calls}
use Rattle.lockstep.specs.Lockstep.{Round, Path, SameCrossing, InStep}
use Rattle.context_laws.specs.Sources.{NamesOf, Beside, SameImported, IsFirstRound}

-- ---- names of exports and sites

abbrev pub export_name : Option Export → List ℕ
export_name None = []
export_name (Some e) = e.name

-- what lines call an export: the first one at its offset
abbrev pub told_name : Exported → List ℕ
told_name x = export_name (find (λ e. e.offset == x.export.offset) x.part.component.exports)

-- the name of the call of a site
abbrev pub site_name : Naming → Layout → ℕ → List ℕ × ℕ
site_name name l i = name (part_name l (site_of l i).part) (site_of l i).index

abbrev pub IsSameSite : CallNames → Layout → Layout → ℕ → ℕ → Type 0
IsSameSite calls l m i j = site_name calls.one l i ≡ site_name calls.other m j

-- What stands for each other has one name: exports of trusted parts by the names of part and export, sites by
-- the names of calls.
pub record GoByNames (calls : CallNames) {g h : Link} (names : SameNames g h) : Type 0 where
  pub exports : (i : Import) (x y : Exported) → imported g.parts i ≡ Some x → imported h.parts i ≡ Some y
      → SameImported names (Some x) (Some y)
  pub twins : (x y : Exported) → Contains names.twins (x, y)
      → (x.part.component.name ≡ y.part.component.name) × (told_name x ≡ told_name y)
  pub sites : (i j : ℕ) → Contains names.sites (i, j) → IsSameSite calls g.layout h.layout i j
  pub all_sites : (i j : ℕ) (s u : SiteCode) → site_code g.layout i ≡ Some s → site_code h.layout j ≡ Some u
      → IsSameSite calls g.layout h.layout i j → Contains names.sites (i, j)

-- ---- the law

-- the item of a step by which code outside comes in
abbrev pub item_by : Layout → OState → Ending → List Item
item_by l p (goes q) = if is_inside l q then event_items l (flat_view l q) (step_event l p q) else []
item_by l p halts = []
item_by l p fails = []

-- the items of rounds, and of the step after them if it comes in too
abbrev pub items_in : Layout → List Round → OState → List Item
items_in l [] q = item_by l q (overlay_step l q)
items_in l (r ∷ rs) q = event_items l (flat_view l r.entered) (step_event l r.before r.entered)
    ++ items_in l rs q

-- from two points on: whatever code outside does in the run of the one link, it does in that of the other,
-- step by step; as often it comes in and is let go, with the same items, and it ends alike
abbrev pub GoesInStep : CallNames → {g h : Link} → SameNames g h → Calls → OState → OState → Type 0
GoesInStep calls {g} {h} names cs p p' =
    (n : ℕ) (q : OState) (as_ : List Round) → Path g.layout n p as_ q
    → (q' : OState) × (bs : List Round) × Path h.layout n p' bs q' × InStep g h names cs as_ bs q q'
    × SameFeed calls (items_in g.layout as_ q) (items_in h.layout bs q')

-- Whether code outside or trusted code runs first is the same in both. Where code outside does, it does the
-- same from the start on. Where trusted code does, and in the one lets go for the first time, so it does in
-- the other, with the same shown; and from there on code outside does the same.
pub record DoesTheSameBy (calls : CallNames) (a b : Linking) (names : NamesOf a b) : Type 0 where
  pub first : is_inside (layout a.start) (first_state a) ≡ is_inside (layout b.start) (first_state b)
  pub begins : is_inside (layout a.start) (first_state a) ≡ false
      → GoesInStep calls names [] (first_state a) (first_state b)
  pub lets_go : (r : Round) → IsFirstRound a.start r → (t : Round) × IsFirstRound b.start t × (cs : Calls)
      × SameCrossing (overlay_link a) (overlay_link b) names [] r t cs
      × GoesInStep calls names cs r.after t.after

-- Sources of which the second tell as much as the first, linked beside each other: whatever code outside does
-- beside the first, it does beside the second, for any choice of which exports and sites stand for each
-- other, as long as those do that have one name.
abbrev pub SameMeaningsGoInStep : Type 0
SameMeaningsGoInStep =
    (calls : CallNames) (a b : LinkedSources) → Beside a.link b.link
    → (names : NamesOf a.link b.link) → GoByNames calls names
    → TellsAsMuch calls (world_of a) (world_of b) a.size → DoesTheSameBy calls a.link b.link names

-- there are names by which they do
abbrev pub DoesTheSame : CallNames → Linking → Linking → Type 0
DoesTheSame calls a b = (names : NamesOf a b) × GoByNames calls names × DoesTheSameBy calls a b names

-- So no code outside can tell them apart, where there is any: a part is untrusted.
abbrev pub SameMeaningsAreNotToldApart : Type 0
SameMeaningsAreNotToldApart =
    (calls : CallNames) → AreOneToOne calls → (a b : LinkedSources) → Beside a.link b.link
    → (p : PartSeen) → IsUntrusted (overlay_link a.link) p
    → MeanTheSame calls (world_of a) (world_of b) a.size
    → DoesTheSame calls a.link b.link × DoesTheSame (swapped calls) b.link a.link
