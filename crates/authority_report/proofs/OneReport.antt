-- There is one report of a part, and one text of a start.
use Rattle.std.proofs.Common.{◌≡◌, ◌⊎◌, inl, inr, ◌↔◌, ℕ, ◌+◌, Bool, true, false, List, [], ◌++◌, refl, sym}
use Rattle.std.proofs.Common.{ap, subst, ◌∙◌, arith}
use Rattle.std.specs.Prelude.{Some}
use Rattle.cap_words.specs.Stretch.{Stretch}
use Rattle.linked_starts.specs.declared.owners.Owner.{Owner}
use Rattle.linked_starts.specs.Started.{StartSeen}
use Rattle.authority_report.specs.declared.spans.ReachSpan.{ReachSpan}
use Rattle.authority_report.proofs.OneSet.{one_spans}
use Rattle.authority_report.specs.declared.reach.Reach.{Reach}
use Rattle.authority_report.specs.Report.{owner_of_part, IsReport}
use Rattle.authority_report.specs.Text.{part_text, TextOf, none, next}
use Rattle.authority_report.specs.One.{ReportsAreOne, TextsAreOne}
use Rattle.authority_report.proofs.Ranges.{one_ranges}

same_test : {P : Type 0} (b c : Bool) → ((b ≡ true) ↔ P) → ((c ≡ true) ↔ P) → b ≡ c
same_test true c h k = sym (k.1 (h.0 refl))
same_test false true h k = h.1 (k.0 refl)
same_test false false h k = refl

pub one_report : ReportsAreOne
one_report m o r q h k =
    let spans : r.spans ≡ q.spans = one_spans r.spans q.spans h.spans k.spans
    (λ a. same_test _ _ (h.just.read a) (k.just.read a))
    (λ a. same_test _ _ (h.just.write a) (k.just.write a))
    (λ a. same_test _ _ (h.just.run a) (k.just.run a)) in
    let seals : r.seals ≡ q.seals = one_ranges r.seals q.seals h.seals k.seals
    (λ n. same_test _ _ (h.just.seal n) (k.just.seal n)) in
    ap (λ (x : List ReachSpan). record { spans = x; seals = r.seals }) spans
    ∙ ap (λ (x : List Stretch). record { spans = q.spans; seals = x }) seals

-- how a text came
record Came (s : StartSeen) (n : ℕ) (t : List ℕ) : Type 0 where
  part : ℕ
  text : List ℕ
  owner : Owner
  reach : Reach
  before : TextOf s part text
  its : owner_of_part s.owners part ≡ Some owner
  report : IsReport s.state.maps owner reach
  number : n ≡ part + 1
  is : t ≡ text ++ part_text owner reach

came : (s : StartSeen) (n : ℕ) (t : List ℕ) → TextOf s n t → ((n ≡ 0) × (t ≡ [])) ⊎ Came s n t
came s _ _ none = inl (refl, refl)
came s _ _ (next part text o r before its report) =
    inr (record {
      part = part;
      text = text;
      owner = o;
      reach = r;
      before = before;
      its = its;
      report = report;
      number = refl;
      is = refl;
    })

one_text_of : (s : StartSeen) (n : ℕ) (t u : List ℕ) → TextOf s n t → TextOf s n u → t ≡ u
one_text_of s _ _ u none h = elim (came s 0 u h) as (λ _. [] ≡ u) [
  | inl k ↦ sym k.1
  | inr k ↦ absurd (let e = k.number in omega (arith, e))
]
one_text_of s _ _ u (next part text o r before its report) h =
    elim (came s (part + 1) u h) as (λ _. (text ++ part_text o r) ≡ u) [
      | inl k ↦ absurd (let e = k.0 in omega (arith, e))
      | inr k ↦ (
          let e = k.number in
          let same : k.part ≡ part = omega (arith, e) in
          let others : text ≡ k.text = one_text_of s part text k.text before
          (subst (λ n. TextOf s n k.text) same k.before) in
          let found : Some k.owner ≡ Some o = sym k.its ∙ ap (owner_of_part s.owners) same ∙ its in
          let owner : k.owner ≡ o = cc in
          let reach : r ≡ k.reach = one_report s.state.maps o r k.reach report
          (subst (λ x. IsReport s.state.maps x k.reach) owner k.report) in
          ap (λ t. t ++ part_text o r) others ∙ ap (λ x. k.text ++ part_text o x) reach
          ∙ ap (λ x. k.text ++ part_text x k.reach) (sym owner) ∙ sym k.is
          )
    ]

pub one_text : TextsAreOne
one_text s t u h k = one_text_of s _ t u h k
