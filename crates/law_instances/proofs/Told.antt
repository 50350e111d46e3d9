-- The lines of steps of which so much is known: of steps by the table, and of stretches without a line.
use Rattle.std.proofs.Common.{◌≡◌, ℕ, zero, suc, ◌+◌, ◌≤◌, Bool, true, false, List, [], ◌++◌, Option, Some}
use Rattle.std.proofs.Common.{None, refl, ap, ◌∙◌, subst, arith, append-nil}
use Rattle.std.specs.Prelude.{◌&&◌, if◌then◌else◌, option_and_then}
use Rattle.std.proofs.lemmas.Bool.{and_parts}
use Rattle.lcm_machine.specs.declared.cells.Span.{Span}
use Rattle.trusted_border.specs.declared.layout.Layout.{Layout}
use Rattle.overlay_machine.specs.declared.words.OWord.{OWord}
use Rattle.overlay_machine.specs.declared.cases.Case.{Case}
use Rattle.overlay_machine.specs.declared.cases.Case.TheVariants.{Other}
use Rattle.overlay_machine.specs.declared.notes.StepNote.{StepNote}
use Rattle.overlay_machine.specs.declared.notes.StepNote.TheVariants.{Nothing}
use Rattle.overlay_machine.specs.State.{OpenFrame, OState, Cells}
use Rattle.overlay_machine.specs.Step.{goes, overlay_step, weight_by, weight_of}
use Rattle.overlay_machine.specs.Events.{event_after}
use Rattle.run_lines.specs.Lines.{Line, lines_for}
use Rattle.run_lines.specs.Told.{Told, and_then, step_lines}
use Rattle.run_lines.specs.Views.{flat_view}
use Rattle.known_steps.specs.Known.{Known, AreIn, Partly, knows, case_by, at_pc, known_step}
use Rattle.known_steps.proofs.Offers.{with_cells, whole, case_known, step_known, jump_note, jump_event}

-- one more step, of so much weight, with these lines
pub next_told : {l : Layout} {o : OState} {j : ℕ} {ls : List Line} {p q : OState} (n : ℕ) (ms : List Line)
    → Told l o j ls p → overlay_step l p ≡ goes q → weight_of l p ≡ n → step_lines l p q ≡ ms
    → Told l o (j + n) (ls ++ ms) q
next_told {l} {o} {j} {ls} {p} {q} n ms t e w is =
    subst (λ (xs : List Line). Told l o (j + n) (ls ++ xs) q) is
    (subst (λ (k : ℕ). Told l o (j + k) (ls ++ step_lines l p q) q) w (and_then t e))

-- what an answer says that was given under a condition
given : {A : Type 0} (b : Bool) (o : Option A) (x : A) → (if b then o else None) ≡ Some x
    → (b ≡ true) × (o ≡ Some x)
given true o x e = (refl, e)
given false o x e = let bad : None ≡ Some x = e in absurd cc

passed_on : {A B : Type 0} (f : A → Option B) (o : Option A) (y : B) → option_and_then f o ≡ Some y
    → (x : A) × (o ≡ Some x) × (f x ≡ Some y)
passed_on f None y e = absurd cc
passed_on f (Some x) y e = (x, refl, e)

-- by the table, with nothing noted
abbrev is_quiet : Case → StepNote → Bool
is_quiet Other Nothing = true
is_quiet _ _ = false

quiet_is : (c : Case) (x : StepNote) → is_quiet c x ≡ true → (c ≡ Other) × (x ≡ Nothing)
quiet_is Other Nothing e = (refl, refl)
quiet_is _ _ e = absurd cc

module _ (k : Known) (spans : List Span) (l : Layout) (fs : List OpenFrame) (n : ℕ) where
  abbrev pub at : Partly → Cells → OState
  at s m = whole k spans l fs n s m

  weight_known : (s : Partly) (m : Cells) → AreIn k s.changes m → knows k s (at_pc k s) ≡ true
      → case_by k l s ≡ Other → weight_of l (at s m) ≡ 1
  unfolding weight_of
  weight_known s m h there case =
      ap (weight_by (with_cells k spans s m)) (case_known k spans l s m h there ∙ case)

  -- a step by the table, and the lines of what was noted
  pub table_told : {o : OState} {j : ℕ} {ls : List Line} (ms : List Line) (s t : Partly) (m : Cells)
      → AreIn k s.changes m → knows k s (at_pc k s) ≡ true → case_by k l s ≡ Other → known_step k l s ≡ Some t
      → ((m' : Cells)
      → lines_for l (flat_view l (at t m')) (event_after l (jump_note k spans l fs n s) (at t m')) ≡ ms)
      → Told l o j ls (at s m) → (m' : Cells) × AreIn k t.changes m' × Told l o (j + 1) (ls ++ ms) (at t m')
  table_told ms s t m h there case step lines told =
      let c = step_known k spans l fs n s t m h step in (
        c.0,
        c.1,
        next_told 1 ms told c.2 (weight_known s m h there case)
            (ap (lines_for l (flat_view l (at t c.0)))
            (jump_event k spans l fs n s m (at t c.0) h there case) ∙ lines c.0),
      )

  -- so many steps without a line, before and after each of which pc's word passes a test
  unfoldable pub quiet_run : (OWord → Bool) → ℕ → Partly → Option Partly
  quiet_run test zero s = if test s.regs.pc then Some s else None
  quiet_run test (suc i) s =
      if test s.regs.pc && (knows k s (at_pc k s) && is_quiet (case_by k l s) (jump_note k spans l fs n s))
      then option_and_then (quiet_run test i) (known_step k l s) else None

  -- the overlay after so many instructions and these lines, with a pc that passes
  abbrev pub Passes : (OWord → Bool) → OState → ℕ → List Line → Type 0
  Passes test o j ls =
      (p : OState) × Told l o j ls p × (test p.maps.regs.pc ≡ true)

  pub quiet_told : (test : OWord → Bool) {o : OState} {ls : List Line} (i j : ℕ) (s t : Partly) (m : Cells)
      → AreIn k s.changes m → quiet_run test i s ≡ Some t → Told l o j ls (at s m)
      → ((d : ℕ) → d ≤ i → Passes test o (j + d) ls)
      × ((m' : Cells) × AreIn k t.changes m' × Told l o (j + i) ls (at t m'))
  unfolding quiet_run
  quiet_told test {o} {ls} zero j s t m h e told =
      let c = given (test s.regs.pc) (Some s) t e in
      let same : s ≡ t = (let x = c.1 in cc) in
      let none : j ≡ j + 0 = omega arith in
      let here : Told l o (j + 0) ls (at s m) = subst (λ (x : ℕ). Told l o x ls (at s m)) none told in (
        λ d le. (let z : 0 ≡ d = omega (arith, le) in
            (at s m, subst (λ x. Told l o (j + x) ls (at s m)) z here, c.0)),
        subst (λ x. (m' : Cells) × AreIn k x.changes m' × Told l o (j + 0) ls (at x m')) same (m, h, here),
      )
  quiet_told test {o} {ls} (suc i) j s t m h e told =
      let c = given (test s.regs.pc && (knows k s (at_pc k s) && is_quiet (case_by k l s) (jump_note k spans l
      fs n s))) (option_and_then (quiet_run test i) (known_step k l s)) t e in
      let passes = and_parts (test s.regs.pc) _ c.0 in
      let both = and_parts (knows k s (at_pc k s)) _ passes.1 in
      let quiet = quiet_is (case_by k l s) (jump_note k spans l fs n s) both.1 in
      let x = passed_on (quiet_run test i) (known_step k l s) t c.1 in
      let first = table_told [] s x.0 m h both.0 quiet.0 x.1
      (λ m'. ap (λ y. lines_for l (flat_view l (at x.0 m')) (event_after l y (at x.0 m'))) quiet.1) told in
      let next : Told l o (j + 1) ls (at x.0 first.0) =
      subst (λ (xs : List Line). Told l o (j + 1) xs (at x.0 first.0)) (append-nil ls) first.2 in
      let rest = quiet_told test i (j + 1) x.0 t first.0 first.1 x.2 next in (
        each (at s m) told passes.0 rest.0,
        (
          rest.1.0,
          rest.1.1,
          (let z : j + 1 + i ≡ j + suc i = omega arith in
              subst (λ (x : ℕ). Told l o x ls (at t rest.1.0)) z rest.1.2),
        ),
      )
    where
      each : {o : OState} {ls : List Line} {i j : ℕ} (p : OState)
          → Told l o j ls p → test p.maps.regs.pc ≡ true
          → ((d : ℕ) → d ≤ i → Passes test o (j + 1 + d) ls) → (d : ℕ) → d ≤ suc i → Passes test o (j + d) ls
      each {o} {ls} {i} {j} p here passes more zero le =
          (let z : j ≡ j + 0 = omega arith in
          (p, subst (λ (x : ℕ). Told l o x ls p) z here, passes))
      each {o} {ls} {i} {j} p here passes more (suc d) le =
          (let z : j + 1 + d ≡ j + suc d = omega arith in
          subst (λ (x : ℕ). Passes test o x ls) z (more d (omega (arith, le))))
