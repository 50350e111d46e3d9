-- Steps of trusted code, and what is wanted of the runs that they are the first of.
use Rattle.std.specs.Prelude.{◌≡◌, ℕ, ◌+◌, ◌≤◌, ℤ, true, Option, None}
use Rattle.cap_words.specs.declared.Word.TheVariants.{Int}
use Rattle.lcm_isa.specs.declared.Reg.TheVariants.{A0}
use Rattle.trusted_border.specs.declared.layout.Layout.{Layout}
use Rattle.trusted_border.specs.declared.events.Event.{Event}
use Rattle.lcm_machine.specs.Cells.{set_cell}
use Rattle.overlay_machine.specs.declared.words.OWord.{OWord}
use Rattle.overlay_machine.specs.State.{OState}
use Rattle.overlay_machine.specs.Step.{goes, halts, fails, overlay_step, weight_of}
use Rattle.overlay_machine.specs.Events.{step_event}
use Rattle.run_lines.specs.Views.{flat_view}
pub use Rattle.run_lines.specs.Cuts.{is_inside}

-- a step of trusted code goes on, with this weight and this event
pub record Makes (l : Layout) (n : ℕ) (e : Option Event) (o q : OState) : Type 0 where
  pub inside : is_inside l o ≡ true
  pub goes_on : overlay_step l o ≡ goes q
  pub weight : weight_of l o ≡ n
  pub event : step_event l o q ≡ e

-- a stretch sets at most one cell, at an address at which the run may
pub data Sets (May : ℕ → Type 0) (o q : OState) : Type 0 where
  no_cell : q.maps.cells ≡ o.maps.cells → Sets May o q
  one_cell : (a : ℕ) (x : OWord) → May a → q.maps.cells ≡ set_cell o.maps.cells a x → Sets May o q

-- What is wanted of runs: a property of states under a credit. It holds with more credit, and before a step
-- without an event if it holds after it with the step's weight less, where the step sets no cell but those
-- that it may.
pub record RunsOn (l : Layout) : Type 1 where
  pub Good : ℕ → OState → Type 0
  pub spend : (b c : ℕ) (o : OState) → b ≤ c → Good b o → Good c o
  pub May : ℕ → Type 0
  pub go_on : (n c : ℕ) (o q : OState) → Makes l n None o q → is_inside l q ≡ true → Sets May o q → Good c q
      → Good (n + c) o

-- and it holds where a step fails that the credit pays
pub record Failing (l : Layout) : Type 1 where
  pub runs : RunsOn l
  pub stop : (c : ℕ) (o : OState) → is_inside l o ≡ true → overlay_step l o ≡ fails → weight_of l o ≤ c
      → runs.Good c o

-- or where one halts with this value
pub record Halting (l : Layout) (v : ℤ) : Type 1 where
  pub runs : RunsOn l
  pub halt : (c : ℕ) (o : OState) → is_inside l o ≡ true → overlay_step l o ≡ halts → weight_of l o ≤ c
      → (flat_view l o).reg A0 ≡ Int v → runs.Good c o
