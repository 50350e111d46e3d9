-- Instructions without a line: all but an `xjmp` and the last word of a site. Runs of them.
use Rattle.std.proofs.Common.{◌≡◌, ℕ, zero, suc, ◌+◌, ◌-◌, ℤ, Bool, [], ◌++◌, Some, None, refl, ap, ◌∙◌}
use Rattle.std.proofs.Common.{arith}
use Rattle.cap_words.specs.declared.Word.{Word}
use Rattle.cap_words.specs.declared.Face.TheVariants.{Number}
use Rattle.lcm_isa.specs.declared.Reg.TheVariants.{Pc}
use Rattle.lcm_machine.specs.declared.Step.{Step}
use Rattle.lcm_machine.specs.declared.Step.TheVariants.{Went, Halted, Failed}
use Rattle.lcm_machine.specs.declared.End.{End}
use Rattle.lcm_machine.specs.declared.End.TheVariants.{Halted as AtHalt, Failed as AtFailure}
use Rattle.lcm_machine.specs.Maps.{State}
use Rattle.lcm_machine.specs.Cells.{cell}
use Rattle.lcm_machine.specs.Row.{Outcome, went, halted, failed, faces, look_face, jump_at, step_of}
use Rattle.lcm_machine.specs.Run.{Run, moved, next_state, answer}
use Rattle.lcm_machine.specs.Runs.{and_then, run_of}
use Rattle.call_sequence.specs.declared.TheConstants.{SITE_WORDS}
use Rattle.trusted_border.specs.declared.layout.Layout.{Layout}
use Rattle.run_lines.specs.declared.note.Note.{Note}
use Rattle.run_lines.specs.declared.note.Note.TheVariants.{Nothing}
use Rattle.run_lines.specs.Layout.{site_word}
use Rattle.run_lines.specs.Views.{View, view_of}
use Rattle.run_lines.specs.Events.{noted, noted_by, note_last, event_after, inward_after}
use Rattle.run_lines.specs.Lines.{lines_for}
use Rattle.run_lines.specs.Runs.{Watched, if_went, watched, watched_next, line_next, lines_of}
use Rattle.run_lines.proofs.Offers.{lines_split}

abbrev pub id : Word → Word
id w = w

-- the word of a number in a cell
abbrev pub Num : State Word → ℕ → ℤ → Type 0
Num s q z = look_face id (cell s.cells q) ≡ Some (Number z)

-- a plain run that stands at a state
abbrev pub at_state : State Word → ℕ → Bool → Watched
at_state t n inward = record { run = record { maps = t; count = n; end = None }; inward = inward }

-- ---- one instruction

-- it is no `xjmp`, and doesn't end a site
abbrev pub IsQuiet : Layout → State Word → Type 0
IsQuiet l s = (jump_at id s ≡ None) × (site_word l (SITE_WORDS - 1) (faces id s Pc) ≡ None)

pub noted_quiet : (l : Layout) (s : State Word) → IsQuiet l s → noted l s ≡ Nothing
unfolding noted
noted_quiet l s q = ap (noted_by l s) q.0 ∙ ap note_last q.1

no_event : (l : Layout) (inward : Bool) (v : View) (a : Step)
    → if_went a (event_after l Nothing inward v) None ≡ None
unfolding event_after
no_event l inward v Went = refl
no_event l inward v Halted = refl
no_event l inward v (Failed c at) = refl

pub quiet_line : (l : Layout) (s : State Word) (n : ℕ) (inward : Bool) → IsQuiet l s
    → line_next l (at_state s n inward) ≡ []
unfolding line_next
quiet_line l s n inward q =
    let next : Run = next_state (at_state s n inward).run in
    ap (λ k. lines_for l (view_of next.maps)
    (if_went (answer next) (event_after l k inward (view_of next.maps)) None)) (noted_quiet l s q)
    ∙ ap (lines_for l (view_of next.maps)) (no_event l inward (view_of next.maps) (answer next))

steps_to : (s t : State Word) (n : ℕ) (inward : Bool) → step_of id id s ≡ went t
    → next_state (at_state s n inward).run ≡ (at_state t (n + 1) inward).run
unfolding next_state
steps_to s t n inward e = ap (λ r. moved r (at_state s n inward).run) e

-- whether the last `xjmp` that went stood in trusted code stays after a quiet one
pub quiet_next : (l : Layout) (s t : State Word) (n : ℕ) (inward : Bool) → IsQuiet l s
    → step_of id id s ≡ went t → watched_next l (at_state s n inward) ≡ at_state t (n + 1) inward
quiet_next l s t n inward q e =
    ap (λ (r : Run). let w : Watched =
    record { run = r; inward = if_went (answer r) (inward_after (noted l s) inward) inward } in w)
    (steps_to s t n inward e)
    ∙ ap (λ (k : Note). let w : Watched =
    record { run = (at_state t (n + 1) inward).run; inward = inward_after k inward } in w)
    (noted_quiet l s q)

-- ---- a machine that has ended

abbrev pub over : State Word → ℕ → End → Bool → Watched
over s c e inward = record { run = record { maps = s; count = c; end = Some e }; inward = inward }

pub over_next : (l : Layout) (s : State Word) (c : ℕ) (e : End) (inward : Bool)
    → watched_next l (over s c e inward) ≡ over s c e inward
unfolding next_state
over_next l s c AtHalt inward = refl
over_next l s c (AtFailure f a) inward = refl

pub over_line : (l : Layout) (s : State Word) (c : ℕ) (e : End) (inward : Bool)
    → line_next l (over s c e inward) ≡ []
unfolding line_next next_state
over_line l s c AtHalt inward = refl
over_line l s c (AtFailure f a) inward = refl

over_watched : (l : Layout) (s : State Word) (c : ℕ) (e : End) (inward : Bool) (k : ℕ)
    → watched l (over s c e inward) k ≡ over s c e inward
over_watched l s c e inward zero = refl
over_watched l s c e inward (suc k) =
    ap (watched_next l) (over_watched l s c e inward k) ∙ over_next l s c e inward

over_lines : (l : Layout) (s : State Word) (c : ℕ) (e : End) (inward : Bool) (k : ℕ)
    → lines_of l (over s c e inward) k ≡ []
over_lines l s c e inward zero = refl
over_lines l s c e inward (suc k) =
    ap (λ y. y ++ line_next l (watched l (over s c e inward) k)) (over_lines l s c e inward k)
    ∙ ap (line_next l) (over_watched l s c e inward k) ∙ over_line l s c e inward

-- ---- one step in front

abbrev pub IsEnd : Outcome Word → Type 0
IsEnd (went s) = ⊥
IsEnd halted = Unit {0}
IsEnd (failed c at) = Unit {0}

pub one_more : (l : Layout) (w : Watched) (k : ℕ)
    → lines_of l w (suc k) ≡ line_next l w ++ lines_of l (watched_next l w) k
one_more l w k = (let e : suc k ≡ 1 + k = omega arith in ap (lines_of l w) e ∙ lines_split l w 1 k)

ended_by : (l : Layout) (s : State Word) (c : ℕ) (inward : Bool) (k : ℕ) (r : Outcome Word)
    → step_of id id s ≡ r → IsEnd r → lines_of l (at_state s c inward) (suc k) ≡ []
unfolding line_next next_state
ended_by l s c inward k (went u) e h = absurd h
ended_by l s c inward k halted e h =
    one_more l (at_state s c inward) k ∙ rw e (over_lines l s (c + 1) AtHalt inward k)
ended_by l s c inward k (failed f a) e h =
    one_more l (at_state s c inward) k ∙ rw e (over_lines l s (c + 1) (AtFailure f a) inward k)

-- a step that ends the machine has no line, nor has what comes after it
pub stop_lines : (l : Layout) (s : State Word) (c : ℕ) (inward : Bool) → IsEnd (step_of id id s) → (k : ℕ)
    → lines_of l (at_state s c inward) k ≡ []
stop_lines l s c inward h zero = refl
stop_lines l s c inward h (suc k) = ended_by l s c inward k (step_of id id s) refl h

-- ---- calm runs

-- of n instructions each that goes is quiet
abbrev pub Calm : Layout → ℕ → State Word → Type 0
Calm l zero s = Unit {0}
Calm l (suc n) s = (s' : State Word) → step_of id id s ≡ went s' → IsQuiet l s × Calm l n s'

quiet_more : (l : Layout) (s s' : State Word) (c : ℕ) (inward : Bool) (k : ℕ) → IsQuiet l s
    → step_of id id s ≡ went s'
    → lines_of l (at_state s c inward) (suc k) ≡ lines_of l (at_state s' (c + 1) inward) k
quiet_more l s s' c inward k q e =
    one_more l (at_state s c inward) k
    ∙ ap (λ y. y ++ lines_of l (watched_next l (at_state s c inward)) k) (quiet_line l s c inward q)
    ∙ ap (λ w. lines_of l w k) (quiet_next l s s' c inward q e)

-- the lines of a calm run that went, and of more
pub calm_then : (l : Layout) (n k : ℕ) (s u : State Word) (c : ℕ) (inward : Bool) → Calm l n s
    → run_of id id n s ≡ went u
    → lines_of l (at_state s c inward) (n + k) ≡ lines_of l (at_state u (c + n) inward) k
unfolding run_of
calm_then l zero k s u c inward h e =
    (let q : s ≡ u = cc in let z : 0 + k ≡ k = omega arith in let y : c ≡ c + 0 = omega arith in
    ap (lines_of l (at_state s c inward)) z ∙ ap (λ v. lines_of l (at_state v c inward) k) q
    ∙ ap (λ d. lines_of l (at_state u d inward) k) y)
calm_then l (suc n) k s u c inward h e =
    by_step (step_of id id s) refl e (λ s' m g. calm_then l n k s' u (c + 1) inward m g)
  where
    by_step : (r : Outcome Word) → step_of id id s ≡ r → and_then r (run_of id id n) ≡ went u
        → ((s' : State Word) → Calm l n s' → run_of id id n s' ≡ went u
        → lines_of l (at_state s' (c + 1) inward) (n + k) ≡ lines_of l (at_state u (c + 1 + n) inward) k)
        → lines_of l (at_state s c inward) (suc n + k) ≡ lines_of l (at_state u (c + suc n) inward) k
    by_step halted m g more = cc
    by_step (failed f a) m g more = cc
    by_step (went s') m g more =
        (let q = h s' m in let z : suc n + k ≡ suc (n + k) = omega arith in let y : c + 1 + n ≡ c + suc n =
        omega arith in
        ap (lines_of l (at_state s c inward)) z ∙ quiet_more l s s' c inward (n + k) q.0 m
        ∙ more s' q.1 g ∙ ap (λ d. lines_of l (at_state u d inward) k) y)
