-- Two states that are the same but for the words of some cells, and steps and runs that touch none of these.
use Rattle.std.specs.Prelude.{◌≡◌, ℕ, Bool, IsTrue, IsSome}
use Rattle.cap_words.specs.declared.Word.{Word}
use Rattle.lcm_machine.specs.Maps.{State}
use Rattle.lcm_machine.specs.Cells.{cell}
use Rattle.lcm_machine.specs.Row.{Outcome, went, halted, failed, step_of}
use Rattle.lcm_machine.specs.Runs.{run_of}
use Rattle.lcm_machine.specs.Touched.{Touches, Untouched}

-- the same registers and spans, and the same cells at all addresses but those that are set apart
pub record SameBut {W : Type 0} (apart : ℕ → Type 0) (s t : State W) : Type 0 where
  pub regs : t.regs ≡ s.regs
  pub cells : (a : ℕ) → ¬ (apart a) → cell t.cells a ≡ cell s.cells a
  pub spans : t.spans ≡ s.spans

-- the cells that are set apart are as they were
abbrev pub Keeps : {W : Type 0} → (ℕ → Type 0) → State W → State W → Type 0
Keeps apart s t = (a : ℕ) → apart a → cell t.cells a ≡ cell s.cells a

-- of the addresses that are set apart the second state has no cell that the first lacks
abbrev pub HasNoMore : {W : Type 0} → (ℕ → Type 0) → State W → State W → Type 0
HasNoMore apart s t = (a : ℕ) → apart a → IsSome (cell t.cells a) → IsSome (cell s.cells a)

-- two outcomes from such states: the same end, or again such states, with the cells set apart as they were
abbrev pub EndsAlike : {W : Type 0} → (ℕ → Type 0) → State W → State W → Outcome W → Outcome W → Type 0
EndsAlike apart s t (went u) (went v) = SameBut apart u v × Keeps apart s u × Keeps apart t v
EndsAlike apart s t halted halted = Unit {0}
EndsAlike apart s t (failed c at) (failed d to) = (c ≡ d) × (at ≡ to)
EndsAlike apart s t _ _ = ⊥

-- a step of the first state that touches none of these cells ends the same with other words in them, or
-- without them
abbrev pub StepsAreBlind : {W : Type 0} → (W → Word) → (Word → W) → Type 0
StepsAreBlind {W} look plain =
    (test : ℕ → Bool) (s t : State W)
    → let apart : ℕ → Type 0 = λ a. IsTrue (test a) in
    SameBut apart s t → HasNoMore apart s t → ((a : ℕ) → apart a → ¬ (Touches look s a))
    → EndsAlike apart s t (step_of look plain s) (step_of look plain t)

-- neither does a run of which no step touches one
abbrev pub RunsAreBlind : {W : Type 0} → (W → Word) → (Word → W) → Type 0
RunsAreBlind {W} look plain =
    (test : ℕ → Bool) (n : ℕ) (s t : State W)
    → let apart : ℕ → Type 0 = λ a. IsTrue (test a) in
    SameBut apart s t → HasNoMore apart s t → ((a : ℕ) → apart a → Untouched look plain a n s)
    → EndsAlike apart s t (run_of look plain n s) (run_of look plain n t)
