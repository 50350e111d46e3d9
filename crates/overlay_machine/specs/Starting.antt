-- The overlay of a start, and what that of a linked start begins with and comes to.
use Rattle.std.specs.Prelude.{◌≡◌, ◌<◌, ℕ, true, false, List, [], length, map, None}
use Rattle.std.specs.Ordering.{nat_cmp}
use Rattle.std.specs.FinMap as finite
use Rattle.std.specs.List.{Contains}
use Rattle.cap_words.specs.declared.Word.{Word}
use Rattle.lcm_machine.specs.Maps.{State}
use Rattle.lcm_machine.specs.Row.{went}
use Rattle.linked_starts.specs.Parts.{PartSeen}
use Rattle.linked_starts.specs.Started.{StartSeen}
use Rattle.linked_starts.specs.LinkedStarts.{IsLinkedStart}
use Rattle.overlay_machine.specs.declared.words.OWord.TheVariants.{Plain}
use Rattle.overlay_machine.specs.State.{OState, Cells}
use Rattle.overlay_machine.specs.Copies.{plain_regs}
use Rattle.overlay_machine.specs.Seen.{OverlaySeen, IsOverlayOf}
use Rattle.overlay_machine.specs.Runs.{Reached, plain_run, RunsAgree}
use Rattle.overlay_machine.specs.Invariant.{Invariant}
use Rattle.overlay_machine.specs.Keeping.{link_of, HoldsFor}
use Rattle.overlay_machine.specs.Privacy.{FramesArePrivate}

-- ---- the overlay of a start, as a value

-- cells of plain words as those of an overlay
unfoldable pub plain_cells : finite.FinMap nat_cmp Word → Cells
plain_cells m = finite.from_entries (map (λ e. (e.0, Plain e.1)) (finite.entries m))

-- the start's registers and cells, and no frames
abbrev pub overlay_at : StartSeen → OverlaySeen
overlay_at s =
    let t = s.state.maps in
    record {
      layout = record { sites = s.sites; owners = s.owners; stack = s.stack };
      state = record {
        maps = record { regs = plain_regs t.regs; cells = plain_cells t.cells; spans = t.spans };
        frames = [];
        calls = 0;
      };
      weight = 0;
      end = None;
    }

-- ---- of linked parts

-- of whatever parts it is the start: they are linked in the overlay's layout, and the invariant holds of the
-- overlay and the start's own registers and cells
abbrev pub Begins : StartSeen → OverlaySeen → Type 0
Begins s o = (parts : List PartSeen) (size : ℕ) → IsLinkedStart parts size s
    → HoldsFor parts size o s.state.maps

abbrev pub StartsBegin : Type 0
StartsBegin = (s : StartSeen) (o : OverlaySeen) → IsOverlayOf s o → Begins s o

-- the plain run from a linked start and the run of its overlay agree; and at each matched point the invariant
-- holds, and from there on the frames of the calls that are open are private
pub record AgreesFromStart (parts : List PartSeen) (size : ℕ) (s : StartSeen) : Type 0 where
  pub runs : RunsAgree (overlay_at s).layout (overlay_at s).state s.state.maps
  pub matched : (j : ℕ) (p : OState) → Reached (overlay_at s).layout (overlay_at s).state j p
      → (u : State Word) × (plain_run j s.state.maps ≡ went u)
      × Invariant (link_of parts size (overlay_at s)) p u
      × FramesArePrivate (link_of parts size (overlay_at s)) p u

-- a start of a trusted part with a site and an export, and of one that isn't trusted, and its overlay
pub record StartThere : Type 0 where
  pub parts : List PartSeen
  pub size : ℕ
  pub start : StartSeen
  pub linked : IsLinkedStart parts size start
  pub overlay : OverlaySeen
  pub over : IsOverlayOf start overlay
  pub caller : PartSeen
  pub caller_in : Contains parts caller
  pub trusted : caller.trusted ≡ true
  pub calls : 0 < length caller.component.sites
  pub entered : 0 < length caller.component.exports
  pub other : PartSeen
  pub other_in : Contains parts other
  pub untrusted : other.trusted ≡ false
