-- Linked sources in lockstep.
use Rattle.std.specs.Prelude.{◌≡◌, ◌⊎◌, ◌↔◌, ℕ, false, List, [], Option, Some, None}
use Rattle.std.specs.List.{Contains}
use Rattle.component_file.specs.declared.component.Import.{Import}
use Rattle.lcm_machine.specs.Cells.{cell}
use Rattle.linked_starts.specs.Parts.{PartSeen}
use Rattle.linked_starts.specs.Start.{Exported, main_of, imported}
use Rattle.linked_starts.specs.Started.{StartSeen}
use Rattle.overlay_machine.specs.State.{OState}
use Rattle.overlay_machine.specs.Step.{goes, overlay_step}
use Rattle.overlay_machine.specs.Starting.{overlay_at}
use Rattle.overlay_machine.specs.Link.{Link, IsUntrusted}
use Rattle.run_lines.specs.Layout.{layout}
use Rattle.run_lines.specs.Cuts.{Matched}
use Rattle.template_runs.specs.Runs.{is_inside}
use Rattle.template_runs.specs.Public.{IsFreeAt}
use Rattle.source_laws.specs.Secrets.{Until}
use Rattle.source_starts.specs.Links.{Linking, overlay_link, first_state}
use Rattle.source_starts.specs.Sources.{LinkedStart, LinkedSources}
use Rattle.lockstep.specs.Related.{SameNames, Calls, SameWord, CellPair, Alike}
use Rattle.lockstep.specs.Lockstep.{Round, Path, SameCrossing, SameWiped, SameObserved, InStep, AreBelow}
use Rattle.lockstep.specs.Lockstep.{OutsideInStep}
use Rattle.lockstep.specs.Contexts.{AreNotToldApart}

abbrev pub NamesOf : Linking → Linking → Type 0
NamesOf a b = SameNames (overlay_link a) (overlay_link b)

-- Of two links of sources: as long as the same is observed of their rounds, code outside makes the same
-- steps.
abbrev pub SourcesInStep : Type 0
SourcesInStep =
    (a b : LinkedSources) (names : NamesOf a.link b.link)
    → OutsideInStep (overlay_link a.link) (overlay_link b.link) names (first_state a.link)
    (first_state b.link)

-- And of two lists of sources of which the same is observed on each feed, no code outside can tell them
-- apart.
abbrev pub SourcesAgainstContexts : Type 0 → Type 0 → Type 0
SourcesAgainstContexts I O =
    (a b : LinkedSources) (names : NamesOf a.link b.link)
    → AreNotToldApart I O (overlay_link a.link) (overlay_link b.link) names (first_state a.link)
    (first_state b.link)

-- ---- starts

-- they are alike to code outside
abbrev pub BeginAlike : (a b : Linking) → NamesOf a b → Type 0
BeginAlike a b names =
    Alike (overlay_link a) (overlay_link b) names [] (first_state a) (first_state b)
    × AreBelow [] (first_state a) (first_state b)

-- they have one main
abbrev pub SameMain : Linking → Linking → Type 0
SameMain a b = main_of (overlay_link a).parts ≡ main_of (overlay_link b).parts

-- Starts with the same main are alike to code outside where their cells are.
abbrev pub StartsAlike : Type 0
StartsAlike =
    (a b : LinkedStart) → a.size ≡ b.size → (names : NamesOf a.link b.link) → SameMain a.link b.link
    → ((x : ℕ) → IsFreeAt (overlay_link a.link) x
    → CellPair (SameWord (overlay_link a.link) (overlay_link b.link) names [])
    (IsFreeAt (overlay_link a.link)) (cell (first_state a.link).maps.cells x)
    (cell (first_state b.link).maps.cells x))
    → BeginAlike a.link b.link names

-- ---- where their cells are

-- Links beside each other: the same untrusted parts stand in both, at the same addresses. Nothing is said of
-- the trusted ones.
abbrev pub AreBeside : Link → Link → Type 0
AreBeside g h = (p : PartSeen) → IsUntrusted g p ↔ IsUntrusted h p

-- and with one size of the stack
pub record Beside (a b : Linking) : Type 0 where
  pub one_size : a.size ≡ b.size
  pub same_parts : AreBeside (overlay_link a) (overlay_link b)

-- an import names the same export of an untrusted part in both, or twins, or nothing
abbrev pub SameImported : {g h : Link} → SameNames g h → Option Exported → Option Exported → Type 0
SameImported names None None = Unit {0}
SameImported names None (Some y) = ⊥
SameImported names (Some x) None = ⊥
SameImported names (Some x) (Some y) = ((x ≡ y) × (x.part.trusted ≡ false)) ⊎ Contains names.twins (x, y)

-- so does each import of an untrusted part
abbrev pub ImportTheSame : {g h : Link} → SameNames g h → Type 0
ImportTheSame {g} {h} names =
    (p : PartSeen) (i : Import) → IsUntrusted g p → Contains p.component.imports i
    → SameImported names (imported g.parts i) (imported h.parts i)

-- Starts of links beside each other with the same main are alike to code outside.
abbrev pub PlacedStartsAlike : Type 0
PlacedStartsAlike =
    (a b : LinkedStart) → Beside a.link b.link → (names : NamesOf a.link b.link) → ImportTheSame names
    → SameMain a.link b.link → BeginAlike a.link b.link names

-- ---- where main is trusted

-- from the start on trusted code has control, and then lets go for the first time
pub record IsFirstRound (s : StartSeen) (r : Round) : Type 0 where
  pub begins : r.before ≡ (overlay_at s).state
  pub until : Until (layout s) r.before r.last
  pub lets : overlay_step (layout s) r.last ≡ goes r.after
  pub gone : is_inside (layout s) r.after ≡ false

-- Where sources let go for the first time with the same observed, code outside comes to run in states that
-- are alike to it.
abbrev pub FirstArrivalsAlike : Type 0
FirstArrivalsAlike =
    (a b : LinkedSources) (names : NamesOf a.link b.link)
    → AreBeside (overlay_link a.link) (overlay_link b.link) → ImportTheSame names
    → (r t : Round) → IsFirstRound a.start r → IsFirstRound b.start t → (cs : Calls)
    → SameCrossing (overlay_link a.link) (overlay_link b.link) names [] r t cs
    → SameWiped (overlay_link a.link) r t
    → Alike (overlay_link a.link) (overlay_link b.link) names cs r.after t.after
    × AreBelow cs r.after t.after
    × ((i : ℕ) × Matched a.start i r.after) × ((j : ℕ) × Matched b.start j t.after)

-- ---- whole runs

-- Two links of sources beside each other, where main is untrusted: from the start on code outside makes the
-- same steps, as long as the same is observed.
abbrev pub WholeRunsInStep : Type 0
WholeRunsInStep =
    (a b : LinkedSources) → Beside a.link b.link → (names : NamesOf a.link b.link) → ImportTheSame names
    → is_inside (layout a.start) (first_state a.link) ≡ false
    → (n : ℕ) (q q' : OState) (as_ bs : List Round) → Path (layout a.start) n (first_state a.link) as_ q
    → Path (layout b.start) n (first_state b.link) bs q'
    → SameObserved (overlay_link a.link) (overlay_link b.link) names [] as_ bs
    → InStep (overlay_link a.link) (overlay_link b.link) names [] as_ bs q q'
