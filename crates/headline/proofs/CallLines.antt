-- Each call line among the lines of steps is the only line of one of them.
use Rattle.std.proofs.Common.{◌≡◌, ◌⊎◌, inl, inr, ℕ, ◌+◌, ◌≤◌, Bool, List, [], ◌∷◌, ◌++◌, refl, sym, ap, ◌∙◌}
use Rattle.std.proofs.Common.{arith, subst}
use Rattle.std.proofs.lemmas.List.{append-nil}
use Rattle.cap_words.specs.declared.Word.{Word}
use Rattle.trusted_border.specs.declared.layout.Layout.{Layout}
use Rattle.overlay_machine.specs.State.{OState}
use Rattle.overlay_machine.specs.Step.{goes, overlay_step, weight_of}
use Rattle.overlay_machine.specs.Events.{step_event}
use Rattle.run_lines.specs.Views.{flat_view}
use Rattle.run_lines.specs.Lines.{Args, Line, call}
use Rattle.run_lines.specs.Told.{Told, none_yet, and_then, step_lines}
use Rattle.run_lines.specs.StepLines.{AreOfStep, none_told, one_told, pass_told}
use Rattle.run_lines.proofs.Offers.{steps_tell_so}

-- an item of two lists, one after the other, is of the first, or of the second
abbrev IsOfEither : {A : Type 0} → List A → List A → List A → A → List A → Type 0
IsOfEither {A} xs ys before x after =
    ((more : List A) × (xs ≡ before ++ x ∷ more))
    ⊎ ((mid : List A) × (before ≡ xs ++ mid) × (ys ≡ mid ++ x ∷ after))

of_either : {A : Type 0} (xs ys before : List A) (x : A) (after : List A)
    → xs ++ ys ≡ before ++ x ∷ after → IsOfEither xs ys before x after
of_either [] ys before x after e = inr (before, refl, e)
of_either (y ∷ xs) ys [] x after e = inl (xs, (let h : y ≡ x = cc in ap (λ k. k ∷ xs) h))
of_either {A} (y ∷ xs) ys (b ∷ before) x after e =
    let h : y ≡ b = cc in
    let t : xs ++ ys ≡ before ++ x ∷ after = cc in
    elim (of_either xs ys before x after t) as (λ _. IsOfEither (y ∷ xs) ys (b ∷ before) x after) [
      | inl k ↦ inl (k.0, (let same : xs ≡ before ++ x ∷ k.0 = k.1 in cc))
      | inr k ↦ inr (k.0, (let same : before ≡ xs ++ k.0 = k.1 in cc), k.2)
    ]

-- a step has no other line beside a call line
alone_in_step : (inward : Bool) (part : List ℕ) (site base last : ℕ) (args : Args) (words : List Word)
    (ls mid after : List Line)
    → AreOfStep ls → ls ≡ mid ++ call inward part site base last args words ∷ after
    → (mid ≡ []) × (ls ≡ call inward part site base last args words ∷ [])
alone_in_step inward part site base last args words _ [] after none_told e = absurd cc
alone_in_step inward part site base last args words _ (x ∷ xs) after none_told e = absurd cc
alone_in_step inward part site base last args words _ [] after (one_told h) e = (refl, cc)
alone_in_step inward part site base last args words _ (x ∷ []) after (one_told h) e = absurd cc
alone_in_step inward part site base last args words _ (x ∷ y ∷ xs) after (one_told h) e = absurd cc
alone_in_step inward part site base last args words _ [] after pass_told e = absurd cc
alone_in_step inward part site base last args words _ (x ∷ []) after pass_told e = absurd cc
alone_in_step inward part site base last args words _ (x ∷ y ∷ []) after pass_told e = absurd cc
alone_in_step inward part site base last args words _ (x ∷ y ∷ z ∷ xs) after pass_told e = absurd cc

-- the step that tells a line and nothing else, after others
pub record OneTells (l : Layout) (o : OState) (n : ℕ) (before : List Line) (line : Line) : Type 0 where
  pub at : ℕ
  pub caller : OState
  pub called : OState
  pub told : Told l o at before caller
  pub moved : overlay_step l caller ≡ goes called
  pub within : at + weight_of l caller ≤ n
  pub only : step_lines l caller called ≡ line ∷ []

module _ (l : Layout) (o : OState) (inward : Bool) (part : List ℕ) (site base last : ℕ) (args : Args)
    (words : List Word) where
  pub one_tells : (n : ℕ) (ls before after : List Line) (p : OState) → Told l o n ls p
      → ls ≡ before ++ call inward part site base last args words ∷ after
      → OneTells l o n before (call inward part site base last args words)
  one_tells _ _ [] after _ none_yet e = absurd cc
  one_tells _ _ (x ∷ before) after _ none_yet e = absurd cc
  one_tells _ _ before after q (and_then {j = j} {ls = ls} {p = p} told moved) e =
      let line = call inward part site base last args words in
      elim (of_either ls (step_lines l p q) before line after e)
      as (λ _. OneTells l o (j + weight_of l p) before line) [
        | inl k ↦ (let one = one_tells j ls before k.0 p told k.1 in record {
          at = one.at;
          caller = one.caller;
          called = one.called;
          told = one.told;
          moved = one.moved;
          within = (let le = one.within in omega (arith, le));
          only = one.only;
        })
        | inr k ↦
            (let a = alone_in_step inward part site base last args words (step_lines l p q)
            k.0 after (steps_tell_so l (flat_view l q) (step_event l p q)) k.2 in record {
              at = j;
              caller = p;
              called = q;
              told = subst (λ xs. Told l o j xs p) (sym (k.1 ∙ ap (λ mid. ls ++ mid) a.0 ∙ append-nil ls))
                  told;
              moved = moved;
              within = omega arith;
              only = a.1;
            })
      ]
