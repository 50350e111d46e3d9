-- A reader that passes limits over reads what the other reads, and expects what the other expects.
use Rattle.std.proofs.Common.{◌≡◌, Bool, true, false, ℕ, zero, suc, ◌≤◌, arith, inl, inr}
use Rattle.std.proofs.Common.{◌∷◌, Option, Some, None, Result, Ok, Err, refl, sym, ap, ◌∙◌}
use Rattle.std.proofs.lemmas.Bool.{cases_Bool}
use Rattle.readers.specs.Readers.{goes_on, ◌>>=◌, done, holds}
use Rattle.phrases.specs.Phrase.{Meaning}
use Rattle.phrases.specs.Reading.{Input, Tells, Reader, next_means, behind, going, case_next, is_there, many}
use Rattle.phrases.proofs.Readers.{Distinct, goes_on_ok, goes_on_err}
use Rattle.phrases.proofs.Repeats.{more_behind, other_fault, many_stop, many_out, many_go}

pub record Looser {L F A : Type 0} (tells : Tells L F) (r r' : Reader L F A) : Type 0 where
  pub reads : (i : Input L) (y : A × Input L) → r i ≡ Ok y → r' i ≡ Ok y
  pub expects : (i : Input L) (at : ℕ) → r i ≡ Err (tells.expected at) → r' i ≡ Err (tells.expected at)

module _ {L F : Type 0} {tells : Tells L F} where
  pub loose_same : {A : Type 0} (r : Reader L F A) → Looser tells r r
  loose_same r = record { reads = λ i y e. e; expects = λ i at e. e }

  pub loose_then : {A B : Type 0} {r r' : Reader L F A} {f f' : A → Reader L F B} → Looser tells r r'
      → ((a : A) → Looser tells (f a) (f' a)) → Looser tells (r >>= f) (r' >>= f')
  loose_then {r = r} {f = f} {f' = f'} one two = record {
    reads = λ i y e.
        let x = goes_on_ok (r i) f y e in
        ap (λ q. goes_on q f') (one.reads i x.0 x.1) ∙ (two x.0.0).reads x.0.1 y x.2;
    expects = λ i at e. elim (goes_on_err (r i) f (tells.expected at) e) [
      | inl h ↦ ap (λ q. goes_on q f') (one.expects i at h)
      | inr x ↦ ap (λ q. goes_on q f') (one.reads i x.0 x.1) ∙ (two x.0.0).expects x.0.1 at x.2
    ];
  }

  going_loose : {A B : Type 0} (o : Option A) {f f' : A → Reader L F B} {r r' : Reader L F B}
      → ((a : A) → Looser tells (f a) (f' a)) → Looser tells r r' → Looser tells (going o f r) (going o f' r')
  going_loose None two other = record {
    reads = λ i y e. other.reads i y e;
    expects = λ i at e.
        other.expects i at e;
  }
  going_loose (Some a) two other = record {
    reads = λ i y e. (two a).reads (behind i) y e;
    expects =
        λ i at e. (two a).expects (behind i) at e;
  }

  pub loose_case : {A B : Type 0} (m : Meaning L A) {f f' : A → Reader L F B} {r r' : Reader L F B}
      → ((a : A) → Looser tells (f a) (f' a)) → Looser tells r r' → Looser tells (case_next m f r)
      (case_next m f' r')
  unfolding case_next
  loose_case m two other = record {
    reads = λ i y e. (going_loose (next_means m i) two other).reads i y e;
    expects = λ i at e. (going_loose (next_means m i) two other).expects i at e;
  }

  by_test : {B : Type 0} (f f' : Unit {0} → Reader L F B) (b' : Bool) (fault fault' : F) → b' ≡ true
      → ((u : Unit {0}) → Looser tells (f u) (f' u)) → Looser tells (holds true fault >>= f)
      (holds b' fault' >>= f')
  by_test f f' true fault fault' up more = more tt
  by_test f f' false fault fault' up more = absurd cc

  -- a test that may be passed over
  pub loose_holds : {B : Type 0} (f f' : Unit {0} → Reader L F B) (b b' : Bool) (fault fault' : F)
      → ((at : ℕ) → fault ≡ tells.expected at → ⊥) → (b ≡ true → b' ≡ true) → (b ≡ true → (u : Unit {0})
      → Looser tells (f u) (f' u)) → Looser tells (holds b fault >>= f) (holds b' fault' >>= f')
  loose_holds f f' true b' fault fault' never up more = by_test f f' b' fault fault' (up refl) (more refl)
  loose_holds f f' false b' fault fault' never up more = record {
    reads = λ i y e. absurd cc;
    expects = λ i at e. absurd (never at (let same : fault ≡ tells.expected at = cc in same));
  }

module _ {L F : Type 0} {tells : Tells L F} (distinct : Distinct tells) where
  bad_ok : {A : Type 0} (at : ℕ) (y : A × Input L) → (let r : Result (A × Input L) F =
      Err (tells.too_many at) in r) ≡ Ok y → ⊥
  bad_ok at y e = absurd cc

  -- more items may be read
  module _ {S A B : Type 0} (begins : Meaning L B) (next : S → A → S) {r r' : S → Reader L F A}
      (items : (s : S) → Looser tells (r s) (r' s)) where
    loose_more : (n k : ℕ) → ((s : S) → Looser tells (many tells n begins next r s)
        (many tells k begins next r' s)) → (s : S) → Looser tells (many tells (suc n) begins next r s)
        (many tells (suc k) begins next r' s)
    unfolding more_behind
    loose_more n k before s =
        let step = loose_then (items s) (λ x. loose_then (before (next s x)) (λ xs.
        loose_same (done (x ∷ xs)))) in
        record {
          reads = λ i y e. elim (cases_Bool (is_there (next_means begins i))) [
            | inl there ↦ many_go tells begins next r' k s i there
                ∙ step.reads i y (sym (many_go tells begins next r n s i there) ∙ e)
            | inr none ↦ many_stop tells begins next r' (suc k) s i none
                ∙ sym (many_stop tells begins next r (suc n) s i none) ∙ e
          ];
          expects = λ i at e. elim (cases_Bool (is_there (next_means begins i))) [
            | inl there ↦ many_go tells begins next r' k s i there
                ∙ step.expects i at (sym (many_go tells begins next r n s i there) ∙ e)
            | inr none ↦ many_stop tells begins next r' (suc k) s i none
                ∙ sym (many_stop tells begins next r (suc n) s i none) ∙ e
          ];
        }

    pub loose_many : (n k : ℕ) → n ≤ k → (s : S) → Looser tells (many tells n begins next r s)
        (many tells k begins next r' s)
    loose_many zero k le s = record {
      reads = λ i y e. elim (cases_Bool (is_there (next_means begins i))) [
        | inl there ↦ absurd (bad_ok _ _ (sym (many_out tells begins next r s i there) ∙ e))
        | inr none ↦ many_stop tells begins next r' k s i none
            ∙ sym (many_stop tells begins next r zero s i none) ∙ e
      ];
      expects = λ i at e. elim (cases_Bool (is_there (next_means begins i))) [
        | inl there ↦ absurd (other_fault distinct _ _ (sym (many_out tells begins next r s i there) ∙ e))
        | inr none ↦ many_stop tells begins next r' k s i none
            ∙ sym (many_stop tells begins next r zero s i none) ∙ e
      ];
    }
    loose_many (suc n) zero le s = absurd (omega (arith, le))
    loose_many (suc n) (suc k) le s = loose_more n k (λ t. loose_many n k (omega (arith, le)) t) s
