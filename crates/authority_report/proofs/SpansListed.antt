-- One span more is listed.
use Rattle.std.proofs.Common.{◌≡◌, ◌≢◌, ℕ, ◌+◌, ◌<◌, ◌≤◌, Bool, true, false, ◌&&◌, ◌||◌, List, [], ◌∷◌}
use Rattle.std.proofs.Common.{◌++◌, get_or, refl, sym, ap, ◌∙◌, arith, inl, inr}
use Rattle.std.specs.Prelude.{nat_le, nat_lt}
use Rattle.std.specs.List.{All}
use Rattle.std.proofs.lemmas.Bool.{cases_lt, lt-ltb, le-leb, le-ltb, lt-leb}
use Rattle.std.proofs.Math.Bool.{or-false, and-false}
use Rattle.std.proofs.lemmas.List.Folds.{list_any-append}
use Rattle.std.proofs.lemmas.List.Elements.{All-push}
use Rattle.std.proofs.lemmas.List.Quantifiers.{all_pairs_push}
use Rattle.cap_words.specs.declared.TheConstants.{LAST_PLACE}
use Rattle.authority_report.specs.declared.spans.Rights.{Rights}
use Rattle.authority_report.specs.declared.spans.ReachSpan.{ReachSpan}
use Rattle.authority_report.specs.Has.{has}
use Rattle.authority_report.specs.Spans.{rights_of, allows, span_has, any_right, IsSpan, Before}
use Rattle.authority_report.specs.Listed.{rights_in, Ended, Listed}
use Rattle.authority_report.proofs.Ends.{up_to, behind}

module _ (right : Rights → Bool) (h : ℕ → Bool) (at end : ℕ) (f : Rights) (some : at ≤ end) where
  abbrev mine : ReachSpan
  mine = record { base = at; end = end; read = f.read; write = f.write; run = f.run }

  -- the new span by itself
  alone : (a : ℕ) → ((a : ℕ) → at ≤ a → a ≤ end → right f ≡ h a)
      → (((nat_lt a at && h a) || ((right f && (nat_le at a && nat_le a end)) || false)))
      ≡ (nat_lt a (end + 1) && h a)
  alone a same = elim (cases_lt a at) as (λ _.
      (((nat_lt a at && h a) || ((right f && (nat_le at a && nat_le a end)) || false)))
      ≡ (nat_lt a (end + 1) && h a)) [
        | inl lt ↦ (
            rw (lt-ltb a at lt, lt-leb at a lt, up_to a end (omega (arith, lt, some)))
            (rw (and-false (right f)) (or-false (h a)))
            )
        | inr ge ↦
            elim (cases_lt end a) as (λ _.
            (((nat_lt a at && h a) || ((right f && (nat_le at a && nat_le a end)) || false)))
            ≡ (nat_lt a (end + 1) && h a)) [
              | inl past ↦ rw (le-ltb a at ge, le-leb at a ge, lt-leb a end past, behind a end past)
                  (rw (and-false (right f)) refl)
              | inr in_span ↦ rw (
                le-ltb a at ge,
                le-leb at a ge,
                le-leb a end in_span,
                up_to a end in_span,
                same a ge in_span,
              ) (both (h a))
            ]
      ]
    where
      both : (b : Bool) → (false || ((b && true) || false)) ≡ (true && b)
      both true = refl
      both false = refl

  pushed_is : (spans : List ReachSpan) → ((a : ℕ) → at ≤ a → a ≤ end → right f ≡ h a)
      → ((a : ℕ) → allows right spans a ≡ (nat_lt a at && h a)) → (a : ℕ)
      → allows right (spans ++ mine ∷ []) a ≡ (nat_lt a (end + 1) && h a)
  pushed_is spans same is a = rw (list_any-append (λ r. right (rights_of r) && span_has r a) spans
      (mine ∷ []))
      (rw (is a) (alone a same))

  skipped_is : (spans : List ReachSpan) → right f ≡ false → ((a : ℕ) → at ≤ a → a ≤ end → right f ≡ h a)
      → ((a : ℕ) → allows right spans a ≡ (nat_lt a at && h a)) → (a : ℕ)
      → allows right spans a ≡ (nat_lt a (end + 1) && h a)
  skipped_is spans none same is a = is a ∙ sym
      (elim (cases_lt a at) as (λ _. (nat_lt a (end + 1) && h a) ≡ (nat_lt a at && h a)) [
        | inl lt ↦ rw (lt-ltb a at lt, up_to a end (omega (arith, lt, some))) refl
        | inr ge ↦ elim (cases_lt end a) as (λ _. (nat_lt a (end + 1) && h a) ≡ (nat_lt a at && h a)) [
          | inl past ↦ rw (le-ltb a at ge, behind a end past) refl
          | inr in_span ↦ (let e : h a ≡ false = sym (same a ge in_span) ∙ none in
              rw (le-ltb a at ge, up_to a end in_span, e) refl)
        ]
      ])

any_false : (f : Rights) → any_right f ≡ false → (f.read ≡ false) × (f.write ≡ false) × (f.run ≡ false)
any_false f e = by f.read f.write f.run e
  where
    by : (a b c : Bool) → (a || (b || c)) ≡ false → (a ≡ false) × (b ≡ false) × (c ≡ false)
    by true b c e = absurd cc
    by false true c e = absurd cc
    by false false true e = absurd cc
    by false false false e = (refl, refl, refl)

module _ (read write run : List ℕ) (at end : ℕ) (f : Rights) (spans : List ReachSpan) (some : at ≤ end)
    (inside : end ≤ LAST_PLACE)
    (here : f ≡ rights_in read write run at)
    (same : (a : ℕ) → at ≤ a → a ≤ end → f ≡ rights_in read write run a)
    (maximal : end < LAST_PLACE → f ≢ rights_in read write run (end + 1))
    (listed : Listed read write run at spans) where
  later : (r : ReachSpan) → Ended read write run at r → Ended read write run (end + 1) r
  later r e = let b = e.before in record {
    before = omega (arith, b, some);
    other = λ j l. absurd (omega (arith, b, some, j));
  }

  later_all : All (Ended read write run at) spans → All (Ended read write run (end + 1)) spans
  later_all h k d l = later (get_or spans k d) (h k d l)

  pub push : any_right f ≡ true → Listed read write run (end + 1)
      (spans ++ record { base = at; end = end; read = f.read; write = f.write; run = f.run } ∷ [])
  push any = record {
    tidy = record {
      each = All-push IsSpan spans _ listed.tidy.each (record { some = some; inside = inside; right = any });
      apart = all_pairs_push Before spans _ listed.tidy.apart (λ k d l.
          let e = listed.ended k d l in
          record {
            below = e.before;
            maximal =
                λ j same_rights. e.other j (omega (arith, some, inside)) (same_rights ∙ here);
          });
    };
    ended = All-push (Ended read write run (end + 1)) spans _ (later_all listed.ended)
        (record { before = omega arith; other = λ j l. maximal (omega (arith, l)) });
    read_is = pushed_is (λ f. f.read) (has read) at end f some spans
        (λ a l h. ap (λ (x : Rights). x.read) (same a l h)) listed.read_is;
    write_is = pushed_is (λ f. f.write) (has write) at end f some spans
        (λ a l h. ap (λ (x : Rights). x.write) (same a l h)) listed.write_is;
    run_is = pushed_is (λ f. f.run) (has run) at end f some spans
        (λ a l h. ap (λ (x : Rights). x.run) (same a l h)) listed.run_is;
  }

  pub skip : any_right f ≡ false → Listed read write run (end + 1) spans
  skip any = let none = any_false f any in record {
    tidy = listed.tidy;
    ended = later_all listed.ended;
    read_is = skipped_is (λ f. f.read) (has read) at end f some spans none.0
        (λ a l h. ap (λ (x : Rights). x.read) (same a l h)) listed.read_is;
    write_is = skipped_is (λ f. f.write) (has write) at end f some spans none.1
        (λ a l h. ap (λ (x : Rights). x.write) (same a l h)) listed.write_is;
    run_is = skipped_is (λ f. f.run) (has run) at end f some spans none.2
        (λ a l h. ap (λ (x : Rights). x.run) (same a l h)) listed.run_is;
  }

-- past the last place nothing is in a set
pub all_listed : (next : List ℕ) (b : ℕ → Bool) (at : ℕ) → ((a : ℕ) → LAST_PLACE < a → has next a ≡ false)
    → LAST_PLACE < at → ((a : ℕ) → b a ≡ (nat_lt a at && has next a)) → (a : ℕ) → b a ≡ has next a
all_listed next b at past high is a = is a
    ∙ elim (cases_lt a at) as (λ _. (nat_lt a at && has next a) ≡ has next a) [
      | inl in_all ↦ rw (lt-ltb a at in_all) refl
      | inr out ↦ rw (le-ltb a at out, past a (omega (arith, out, high))) refl
    ]
