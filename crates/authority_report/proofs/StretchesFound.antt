-- One stretch more is found.
use Rattle.std.proofs.Common.{◌≡◌, ◌≢◌, ℕ, ◌+◌, ◌<◌, ◌≤◌, Bool, true, false, ◌&&◌, ◌||◌, List, [], ◌∷◌}
use Rattle.std.proofs.Common.{◌++◌, get_or, refl, sym, ◌∙◌, arith, inl, inr}
use Rattle.std.specs.Prelude.{nat_le, nat_lt}
use Rattle.std.specs.List.{All}
use Rattle.std.proofs.lemmas.Bool.{cases_lt, lt-ltb, le-leb, le-ltb, lt-leb}
use Rattle.std.proofs.Math.Bool.{or-false}
use Rattle.std.proofs.lemmas.List.Folds.{list_any-append}
use Rattle.std.proofs.lemmas.List.Elements.{All-push}
use Rattle.std.proofs.lemmas.List.Quantifiers.{all_pairs_push}
use Rattle.cap_words.specs.declared.TheConstants.{LAST_PLACE}
use Rattle.authority_report.specs.declared.set.Stretch.{Stretch}
use Rattle.authority_report.specs.Has.{has}
use Rattle.authority_report.specs.Stretches.{IsStretch, EndedBefore, Found}
use Rattle.authority_report.proofs.Ends.{up_to, behind}

not_true : (b : Bool) → true ≢ b → b ≡ false
not_true true h = absurd (h refl)
not_true false h = refl

module _ (set : List ℕ) (at end : ℕ) (list : List Stretch) (some : at ≤ end) (inside : end ≤ LAST_PLACE)
    (found : Found set at list) where
  later : (s : Stretch) → EndedBefore set at s → EndedBefore set (end + 1) s
  later s e = let b = e.before in record {
    before = omega (arith, b, some);
    other = λ j l. absurd (omega (arith, b, some, j));
  }

  later_all : All (EndedBefore set at) list → All (EndedBefore set (end + 1)) list
  later_all h k d l = later (get_or list k d) (h k d l)

  module _ (same : (a : ℕ) → at ≤ a → a ≤ end → true ≡ has set a) where
    abbrev mine : Stretch
    mine = record { base = at; end = end }

    alone : (a : ℕ) → ((nat_lt a at && has set a) || ((nat_le at a && nat_le a end) || false))
        ≡ (nat_lt a (end + 1) && has set a)
    alone a =
        elim (cases_lt a at) as (λ _. ((nat_lt a at && has set a) || ((nat_le at a && nat_le a end) || false))
        ≡ (nat_lt a (end + 1) && has set a)) [
          | inl lt ↦ rw (lt-ltb a at lt, lt-leb at a lt, up_to a end (omega (arith, lt, some)))
              (or-false (has set a))
          | inr ge ↦
              elim (cases_lt end a) as (λ _. ((nat_lt a at && has set a)
              || ((nat_le at a && nat_le a end) || false)) ≡ (nat_lt a (end + 1) && has set a)) [
                | inl past ↦ rw (
                  le-ltb a at ge,
                  le-leb at a ge,
                  lt-leb a end past,
                  behind a end past,
                ) refl
                | inr in_it ↦ rw (le-ltb a at ge, le-leb at a ge, le-leb a end in_it, up_to a end in_it)
                    (same a ge in_it)
              ]
        ]

    pub push : (end < LAST_PLACE → true ≢ has set (end + 1)) → Found set (end + 1) (list ++ mine ∷ [])
    push maximal = record {
      apart = record {
        each = All-push IsStretch list mine found.apart.each (record { some = some; inside = inside });
        apart = all_pairs_push (λ s t. s.end + 1 < t.base) list mine found.apart.apart
            (λ k d l. gap (get_or list k d) (found.closed k d l));
      };
      closed = All-push (EndedBefore set (end + 1)) list mine (later_all found.closed)
          (record {
            before = omega arith;
            other =
                λ j l. not_true (has set (end + 1)) (maximal (omega (arith, l)));
          });
      are = λ a. list_any-append (λ s. nat_le s.base a && nat_le a s.end) list (mine ∷ [])
          ∙ rw (found.are a) (alone a);
    }
      where
        gap : (s : Stretch) → EndedBefore set at s → s.end + 1 < at
        gap s e = let b = e.before in elim (cases_lt (s.end + 1) at) as (λ _. s.end + 1 < at) [
          | inl lt ↦ lt
          | inr ge ↦ absurd (let no = e.other (omega (arith, b, ge)) (omega (arith, some, inside)) in
              let yes = same at (omega arith) some in let f : true ≡ false = yes ∙ no in cc)
        ]

  pub skip : ((a : ℕ) → at ≤ a → a ≤ end → false ≡ has set a) → Found set (end + 1) list
  skip same = record {
    apart = found.apart;
    closed = later_all found.closed;
    are = λ a. found.are a
        ∙ sym (elim (cases_lt a at) as (λ _. (nat_lt a (end + 1) && has set a) ≡ (nat_lt a at && has set a)) [
          | inl lt ↦ rw (lt-ltb a at lt, up_to a end (omega (arith, lt, some))) refl
          | inr ge ↦
              elim (cases_lt end a) as (λ _. (nat_lt a (end + 1) && has set a) ≡ (nat_lt a at && has set a)) [
                | inl past ↦ rw (le-ltb a at ge, behind a end past) refl
                | inr in_it ↦ rw (le-ltb a at ge, up_to a end in_it) (sym (same a ge in_it))
              ]
        ]);
  }
