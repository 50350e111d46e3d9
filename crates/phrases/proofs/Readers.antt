-- Readers that read just what a phrase spells, put together as readers and phrases are.
use Rattle.std.proofs.Common.{◌≡◌, Bool, true, false, ℕ, suc, ◌+◌, ◌≤◌, inl, inr, ◌⊎◌, List, []}
use Rattle.std.proofs.Common.{◌∷◌, ◌++◌, length, Option, Some, None, Result, Ok, Err, refl, sym, ap, subst}
use Rattle.std.proofs.Common.{◌∙◌, append_assoc, arith, length-append}
use Rattle.std.specs.Prelude.{IsTrue}
use Rattle.readers.specs.Readers.{goes_on, ◌>>=◌, done, holds}
use Rattle.phrases.specs.Phrase as phrases
use Rattle.phrases.specs.Phrase.{Meaning, Phrase, then, only, where_true, ◌or◌}
use Rattle.phrases.specs.Reading.{Input, Tells, place_in, Reader, first, meant_in}
use Rattle.phrases.specs.Reading.{next_means, place, going, case_next, expected, one}

-- faults that tell places apart, and that one item was too many from what was not expected
pub record Distinct {L F : Type 0} (tells : Tells L F) : Type 0 where
  pub once : (m n : ℕ) → tells.expected m ≡ tells.expected n → m ≡ n
  pub apart : (m n : ℕ) → tells.too_many m ≡ tells.expected n → ⊥

abbrev pub at_end : {L : Type 0} → List L → ℕ → Input L
at_end rest end = record { rest = rest; end = end }

abbrev pub Any : {L : Type 0} → List L → Type 0
Any k = Unit {0}

-- tokens were taken from the front, and would be where another token list begins alike after them
pub record Took {L F A : Type 0} (P P' : Phrase L A) (r : Reader L F A) (i : Input L) (x : A)
    (j : Input L) : Type 0 where
  pub tokens : List L
  pub parts : i.rest ≡ tokens ++ j.rest
  pub ends : i.end ≡ j.end
  pub spelled : P tokens x
  pub loose : P' tokens x
  pub same : (k : List L) (end : ℕ) → first j.rest ≡ first k → r (at_end (tokens ++ k) end)
      ≡ Ok (x, at_end k end)

-- after these tokens, with which a text can begin, the next one was not expected, whatever is after it
pub record Failed {L F A : Type 0} (tells : Tells L F) (P' : Phrase L A) (r : Reader L F A) (i : Input L)
    (at : ℕ) : Type 0 where
  pub tokens : List L
  pub rest : List L
  pub parts : i.rest ≡ tokens ++ rest
  pub there : at ≡ place_in tells rest i.end
  pub viable : (more : List L) × (x : A) × P' (tokens ++ more) x
  pub same : (k : List L) (end : ℕ) → first rest ≡ first k → r (at_end (tokens ++ k) end)
      ≡ Err (tells.expected (place_in tells k end))

-- The reader reads what P spells, where Stop holds of what follows. P' is P with limits passed over.
pub record Reads {L F A : Type 0} (tells : Tells L F) (fuel : ℕ) (P P' : Phrase L A) (Stop : List L → Type 0)
    (r : Reader L F A) : Type 0 where
  pub again : (tokens : List L) (x : A) (k : List L) (end : ℕ) → length tokens ≤ fuel → P tokens x → Stop k
      → r (at_end (tokens ++ k) end) ≡ Ok (x, at_end k end)
  pub takes : (i : Input L) (x : A) (j : Input L) → r i ≡ Ok (x, j) → Took P P' r i x j
  pub fails : (i : Input L) (at : ℕ) → r i ≡ Err (tells.expected at) → Failed tells P' r i at
  pub some : (tokens : List L) × (x : A) × P' tokens x

module _ {L : Type 0} where
  -- tokens, and others after them, taken from the front
  pub joined : {l j : List L} (s t k : List L) → l ≡ s ++ j → j ≡ t ++ k → l ≡ (s ++ t) ++ k
  joined s t k e f = e ∙ ap (λ j. s ++ j) f ∙ sym (append_assoc s t k)

  pub first_behind : (s j k : List L) → first j ≡ first k → first (s ++ j) ≡ first (s ++ k)
  first_behind [] j k e = e
  first_behind (t ∷ s) j k e = refl

  -- what the next token means, and the rest
  by_option : {A : Type 0} (m : Meaning L A) (t : L) (k : List L) (o : Option A) → m t ≡ o
      → ((u : L) × (a : A) × (l : List L) × (t ∷ k ≡ u ∷ l) × (m u ≡ Some a)) ⊎ (m t ≡ None)
  by_option m t k None e = inr e
  by_option m t k (Some a) e = inl (t, a, k, refl, e)

  by_tokens : {A : Type 0} (m : Meaning L A) (rest : List L) → ((t : L) × (a : A) × (k : List L)
      × (rest ≡ t ∷ k) × (m t ≡ Some a)) ⊎ (meant_in m rest ≡ None)
  by_tokens m [] = inr refl
  by_tokens m (t ∷ k) = by_option m t k (m t) refl

  option_meaning : {A : Type 0} → Meaning L A → Option L → Option A
  option_meaning m None = None
  option_meaning m (Some t) = m t

  of_first : {A : Type 0} (m : Meaning L A) (l : List L) → meant_in m l ≡ option_meaning m (first l)
  unfolding option_meaning
  of_first m [] = refl
  of_first m (t ∷ l) = refl

  pub meant_alike : {A : Type 0} (m : Meaning L A) (j k : List L) → first j ≡ first k → meant_in m j
      ≡ meant_in m k
  meant_alike m j k e = of_first m j ∙ ap (option_meaning m) e ∙ sym (of_first m k)

module _ {L F : Type 0} where
  pub goes_on_ok : {A B : Type 0} (r : Result (A × Input L) F) (f : A → Reader L F B) (y : B × Input L)
      → goes_on r f ≡ Ok y → (x : A × Input L) × (r ≡ Ok x) × (f x.0 x.1 ≡ Ok y)
  goes_on_ok (Ok x) f y e = (x, refl, e)
  goes_on_ok (Err d) f y e = absurd cc

  pub goes_on_err : {A B : Type 0} (r : Result (A × Input L) F) (f : A → Reader L F B) (e : F) → goes_on r f
      ≡ Err e → (r ≡ Err e) ⊎ ((x : A × Input L) × (r ≡ Ok x) × (f x.0 x.1 ≡ Err e))
  goes_on_err (Ok x) f d e = inr (x, refl, e)
  goes_on_err (Err d) f c e = inl cc

  pub ok_value : {A : Type 0} (x y : A) (i j : Input L) (e : (let r : Result (A × Input L) F = Ok (x, i) in
      r) ≡ Ok (y, j)) → (x ≡ y) × (i ≡ j)
  ok_value x y i j e =
      let both : (x, i) ≡ (y, j) = cc in
      (ap (λ (p : _ × Input L). p.0) both, ap (λ (p : _ × Input L). p.1) both)

  -- the tokens are none, or one and others, and what the next one means
  pub case_some : {A B : Type 0} (m : Meaning L A) (f : A → Reader L F B) (r : Reader L F B) (t : L) (a : A)
      (k : List L) (end : ℕ) → m t ≡ Some a → case_next m f r (at_end (t ∷ k) end) ≡ f a (at_end k end)
  unfolding case_next
  case_some m f r t a k end e = ap (λ o. going o f r (at_end (t ∷ k) end)) e

  pub case_none : {A B : Type 0} (m : Meaning L A) (f : A → Reader L F B) (r : Reader L F B) (i : Input L)
      → next_means m i ≡ None → case_next m f r i ≡ r i
  unfolding case_next
  case_none m f r i e = ap (λ o. going o f r i) e

  pub cases_next : {A B : Type 0} (m : Meaning L A) (f : A → Reader L F B) (r : Reader L F B) (i : Input L)
      → ((t : L) × (a : A) × (k : List L) × (i.rest ≡ t ∷ k) × (m t ≡ Some a)
      × (case_next m f r i ≡ f a (at_end k i.end))) ⊎ ((next_means m i ≡ None) × (case_next m f r i ≡ r i))
  cases_next m f r i = elim (by_tokens m i.rest) [
    | inl (t, a, k, is, means) ↦ inl (
      t,
      a,
      k,
      is,
      means,
      ap (λ l. case_next m f r (at_end l i.end)) is ∙ case_some m f r t a k i.end means,
    )
    | inr none ↦ inr (none, case_none m f r i none)
  ]

module _ {L F : Type 0} (tells : Tells L F) where
  not_ok : {A : Type 0} (i : Input L) (x : A) (j : Input L) → expected tells i ≡ Ok (x, j) → ⊥
  not_ok i x j e = absurd cc

  -- the token that is read
  pub one_read : {A : Type 0} (m : Meaning L A) (i : Input L) (x : A) (j : Input L)
      → one tells m i ≡ Ok (x, j) → (t : L) × (i.rest ≡ t ∷ j.rest) × (i.end ≡ j.end) × (m t ≡ Some x)
  unfolding one
  one_read m i x j e = elim (cases_next m done (expected tells) i) [
    | inl (t, a, k, is, means, here) ↦
        let both = ok_value a x (at_end k i.end) j (sym here ∙ e) in (
          t,
          is ∙ ap (λ (o : Input L). t ∷ o.rest) both.1,
          ap (λ (o : Input L). o.end) both.1,
          means ∙ ap (λ z. Some z) both.0,
        )
    | inr (none, here) ↦ absurd (not_ok i x j (sym here ∙ e))
  ]

not_true : IsTrue false → ⊥
not_true h = absurd cc

module _ {L F : Type 0} {tells : Tells L F} where
  pub reads_then : {A B : Type 0} {fuel : ℕ} {P P' : Phrase L A} {Q Q' : A → Phrase L B} {S T : List L
      → Type 0} {r : Reader L F A} {f : A → Reader L F B}
      → Reads tells fuel P P' S r → ((a : A) → Reads tells fuel (Q a) (Q' a) T (f a))
      → ((a : A) (t : List L) (y : B) (k : List L) → Q a t y → T k → S (t ++ k))
      → Reads tells fuel (then P Q) (then P' Q') T (r >>= f)
  reads_then {P = P} {P' = P'} {Q = Q} {Q' = Q'} {r = r} {f = f} one two ahead = record {
    some =
        let v = one.some in
        let w = (two v.1).some in
        (v.0 ++ w.0, w.1, (v.1, v.0, w.0, refl, v.2, w.2));
    again = λ tokens y k end len (a, s, t, e, p, q) stop.
        let near : tokens ++ k ≡ s ++ (t ++ k) = ap (λ l. l ++ k) e ∙ append_assoc s t k in
        let short : length tokens ≡ length s + length t = ap length e ∙ length-append s t in
        let g = one.again s a (t ++ k) end (omega (arith, len, short)) p (ahead a t y k q stop) in
        let h = (two a).again t y k end (omega (arith, len, short)) q stop in
        ap (λ l. goes_on (r (at_end l end)) f) near ∙ ap (λ o. goes_on o f) g ∙ h;
    takes = λ i y j e.
        let x = goes_on_ok (r i) f (y, j) e in
        let a = one.takes i x.0.0 x.0.1 x.1 in
        let b = (two x.0.0).takes x.0.1 y j x.2 in
        record {
          tokens = a.tokens ++ b.tokens;
          parts = joined a.tokens b.tokens j.rest a.parts b.parts;
          ends = a.ends ∙ b.ends;
          spelled = (x.0.0, a.tokens, b.tokens, refl, a.spelled, b.spelled);
          loose = (x.0.0, a.tokens, b.tokens, refl, a.loose, b.loose);
          same = λ k end h.
              let alike = ap first b.parts ∙ first_behind b.tokens j.rest k h in
              ap (λ l. goes_on (r (at_end l end)) f) (append_assoc a.tokens b.tokens k)
              ∙ ap (λ o. goes_on o f) (a.same (b.tokens ++ k) end alike) ∙ b.same k end h;
        };
    fails = λ i at e. elim (goes_on_err (r i) f (tells.expected at) e) [
      | inl h ↦
          let a = one.fails i at h in
          let v = a.viable in
          let w = (two v.1).some in
          record {
            tokens = a.tokens;
            rest = a.rest;
            parts = a.parts;
            there = a.there;
            viable = (
              v.0 ++ w.0,
              w.1,
              (
                v.1,
                a.tokens ++ v.0,
                w.0,
                sym (append_assoc a.tokens v.0 w.0),
                v.2,
                w.2,
              ),
            );
            same = λ k end g. ap (λ o. goes_on o f) (a.same k end g);
          }
      | inr x ↦
          let a = one.takes i x.0.0 x.0.1 x.1 in
          let b = (two x.0.0).fails x.0.1 at x.2 in
          let v = b.viable in
          record {
            tokens = a.tokens ++ b.tokens;
            rest = b.rest;
            parts = joined a.tokens b.tokens b.rest a.parts b.parts;
            there = b.there ∙ ap (λ n. place_in tells b.rest n) (sym a.ends);
            viable = (
              v.0,
              v.1,
              (
                x.0.0,
                a.tokens,
                b.tokens ++ v.0,
                append_assoc a.tokens b.tokens v.0,
                a.loose,
                v.2,
              ),
            );
            same = λ k end h.
                let alike = ap first b.parts ∙ first_behind b.tokens b.rest k h in
                ap (λ l. goes_on (r (at_end l end)) f) (append_assoc a.tokens b.tokens k)
                ∙ ap (λ o. goes_on o f) (a.same (b.tokens ++ k) end alike) ∙ b.same k end h;
          }
    ];
  }

  -- what follows doesn't matter to the first of two
  pub reads_next : {A B : Type 0} {fuel : ℕ} {P P' : Phrase L A} {Q Q' : A → Phrase L B} {T : List L
      → Type 0} {r : Reader L F A} {f : A → Reader L F B}
      → Reads tells fuel P P' Any r → ((a : A) → Reads tells fuel (Q a) (Q' a) T (f a))
      → Reads tells fuel (then P Q) (then P' Q') T (r >>= f)
  reads_next one two = reads_then one two (λ a t y k q s. tt)

  pub reads_done : {A : Type 0} {fuel : ℕ} (x : A) → Reads tells fuel (only x) (only x) Any (done x)
  reads_done x = record {
    some = ([], x, (refl, refl));
    again = λ tokens y k end len (none, is) stop.
        ap (λ l. Ok (x, at_end (l ++ k) end)) none ∙ ap (λ z. Ok (z, at_end k end)) is;
    takes = λ i y j e.
        let both = ok_value x y i j e in
        record {
          tokens = [];
          parts = ap (λ (o : Input L). o.rest) both.1;
          ends = ap (λ (o : Input L). o.end) both.1;
          spelled = (refl, both.0);
          loose = (refl, both.0);
          same = λ k end h. ap (λ z. Ok (z, at_end k end)) both.0;
        };
    fails = λ i at e. absurd cc;
  }

  pub reads_case : {A B : Type 0} {fuel : ℕ} {m : Meaning L A} {Q Q' : A → Phrase L B} {R R' : Phrase L B}
      {S : List L → Type 0} {f : A → Reader L F B} {r : Reader L F B}
      → ((a : A) → Reads tells fuel (Q a) (Q' a) S (f a)) → Reads tells fuel R R' S r
      → ((t : List L) (y : B) (k : List L) → R t y → S k → meant_in m (t ++ k) ≡ None)
      → Reads tells fuel (then (phrases.one m) Q or R) (then (phrases.one m) Q' or R') S (case_next m f r)
  reads_case {m = m} {Q = Q} {Q' = Q'} {R = R} {R' = R'} {S = S} {f = f} {r = r} two other apart = record {
    some = let v = other.some in (v.0, v.1, inr v.2);
    again = λ tokens y k end len. elim [
      | inl x ↦ λ stop.
          let (a, s, t, e, (u, is, means), q) = x in
          let whole : tokens ≡ u ∷ t = e ∙ ap (λ l. l ++ t) is in
          let short : length tokens ≡ suc (length t) = ap length whole in
          ap (λ l. case_next m f r (at_end (l ++ k) end)) whole ∙ case_some m f r u a (t ++ k) end means
          ∙ (two a).again t y k end (omega (arith, len, short)) q stop
      | inr x ↦ λ stop.
          case_none m f r (at_end (tokens ++ k) end) (apart tokens y k x stop)
          ∙ other.again tokens y k end len x stop
    ];
    takes = λ i y j e. elim (cases_next m f r i) [
      | inl (t, a, k, is, means, here) ↦
          let b = (two a).takes (at_end k i.end) y j (sym here ∙ e) in
          record {
            tokens = t ∷ b.tokens;
            parts = is ∙ ap (λ l. t ∷ l) b.parts;
            ends = b.ends;
            spelled = inl (a, t ∷ [], b.tokens, refl, (t, refl, means), b.spelled);
            loose = inl (a, t ∷ [], b.tokens, refl, (t, refl, means), b.loose);
            same = λ l end h. case_some m f r t a (b.tokens ++ l) end means ∙ b.same l end h;
          }
      | inr (none, here) ↦
          let b = other.takes i y j (sym here ∙ e) in
          record {
            tokens = b.tokens;
            parts = b.parts;
            ends = b.ends;
            spelled = inr b.spelled;
            loose = inr b.loose;
            same = λ l end h.
                let alike = ap first b.parts ∙ first_behind b.tokens j.rest l h in
                case_none m f r (at_end (b.tokens ++ l) end)
                (sym (meant_alike m i.rest (b.tokens ++ l) alike) ∙ none) ∙ b.same l end h;
          }
    ];
    fails = λ i at e. elim (cases_next m f r i) [
      | inl (t, a, k, is, means, here) ↦
          let b = (two a).fails (at_end k i.end) at (sym here ∙ e) in
          let v = b.viable in
          record {
            tokens = t ∷ b.tokens;
            rest = b.rest;
            parts = is ∙ ap (λ l. t ∷ l) b.parts;
            there = b.there;
            viable = (v.0, v.1, inl (a, t ∷ [], b.tokens ++ v.0, refl, (t, refl, means), v.2));
            same = λ l end h. case_some m f r t a (b.tokens ++ l) end means ∙ b.same l end h;
          }
      | inr (none, here) ↦
          let b = other.fails i at (sym here ∙ e) in
          let v = b.viable in
          record {
            tokens = b.tokens;
            rest = b.rest;
            parts = b.parts;
            there = b.there;
            viable = (v.0, v.1, inr v.2);
            same = λ l end h.
                let alike = ap first b.parts ∙ first_behind b.tokens b.rest l h in
                case_none m f r (at_end (b.tokens ++ l) end)
                (sym (meant_alike m i.rest (b.tokens ++ l) alike) ∙ none) ∙ b.same l end h;
          }
    ];
  }

  -- the same in other words
  pub reads_as : {A : Type 0} {fuel : ℕ} {P P' Q Q' : Phrase L A} {S T : List L → Type 0} {r : Reader L F A}
      → Reads tells fuel P P' S r → ((l : List L) (x : A) → Q l x → P l x) → ((l : List L) (x : A) → P l x
      → Q l x)
      → ((l : List L) (x : A) → P' l x → Q' l x) → ((k : List L) → T k → S k) → Reads tells fuel Q Q' T r
  reads_as h back there loose stop = record {
    some = let v = h.some in (v.0, v.1, loose v.0 v.1 v.2);
    again = λ tokens x k end len q s. h.again tokens x k end len (back tokens x q) (stop k s);
    takes = λ i x j e.
        let b = h.takes i x j e in
        record {
          tokens = b.tokens;
          parts = b.parts;
          ends = b.ends;
          spelled = there b.tokens x b.spelled;
          loose = loose b.tokens x b.loose;
          same = b.same;
        };
    fails = λ i at e.
        let b = h.fails i at e in
        let v = b.viable in
        record {
          tokens = b.tokens;
          rest = b.rest;
          parts = b.parts;
          there = b.there;
          viable = (v.0, v.1, loose (b.tokens ++ v.0) v.1 v.2);
          same = b.same;
        };
  }

  -- a test before what follows; where limits are passed over it holds
  pub reads_holds : {B : Type 0} {fuel : ℕ} {Q Q' : Unit {0} → Phrase L B} {S : List L → Type 0}
      (f : Unit {0} → Reader L F B) (b b' : Bool) (fault : F)
      → ((at : ℕ) → fault ≡ tells.expected at → ⊥) → IsTrue b'
      → Reads tells fuel (Q tt) (Q' tt) S (f tt)
      → Reads tells fuel (then (where_true b) Q) (then (where_true b') Q') S (holds b fault >>= f)
  reads_holds f false b' fault never up more = record {
    some = let v = more.some in (v.0, v.1, (tt, [], v.0, refl, (refl, up), v.2));
    again = λ tokens y k end len (a, s, t, e, p, q) stop. absurd (not_true p.1);
    takes = λ i y j e. absurd cc;
    fails = λ i at e. absurd (never at (let same : fault ≡ tells.expected at = cc in same));
  }
  reads_holds {Q = Q} f true b' fault never up more =
      reads_as more
      (λ l y (a, s, k, e, p, q). let same : l ≡ k = e ∙ ap (λ o. o ++ k) p.0 in
      subst (λ o. Q tt o y) (sym same) q) (λ l y q. (tt, [], l, refl, (refl, refl), q))
      (λ l y q. (tt, [], l, refl, (refl, up), q)) (λ k s. s)

  -- the same before fewer tokens
  pub reads_before : {A : Type 0} {fuel : ℕ} {P P' : Phrase L A} {S T : List L → Type 0} {r : Reader L F A}
      → Reads tells fuel P P' S r → ((k : List L) → T k → S k) → Reads tells fuel P P' T r
  reads_before h stop = reads_as h (λ l x p. p) (λ l x p. p) (λ l x p. p) stop

module _ {L F : Type 0} {tells : Tells L F} (distinct : Distinct tells) where
  not_err : {A : Type 0} (x : A) (j : Input L) (at : ℕ) → (let r : Result (A × Input L) F = Ok (x, j) in r)
      ≡ Err (tells.expected at) → ⊥
  not_err x j at e = absurd cc

  same_place : {A : Type 0} (i : Input L) (at : ℕ) → (let r : Result (A × Input L) F =
      Err (tells.expected (place tells i)) in r) ≡ Err (tells.expected at) → place tells i ≡ at
  same_place i at e =
      let same : tells.expected (place tells i) ≡ tells.expected at = cc in
      distinct.once (place tells i) at same

  -- a token, of which there is one
  pub reads_one : {A : Type 0} {fuel : ℕ} (m : Meaning L A) (t : L) (a : A) → m t ≡ Some a
      → Reads tells fuel (phrases.one m) (phrases.one m) Any (one tells m)
  unfolding one
  reads_one m t a example = record {
    some = (t ∷ [], a, (t, refl, example));
    again = λ tokens x k end len (u, is, means) stop.
        ap (λ l. case_next m done (expected tells) (at_end (l ++ k) end)) is
        ∙ case_some m done (expected tells) u x k end means;
    takes = λ i x j e.
        let (u, is, ends, means) = one_read tells m i x j e in
        record {
          tokens = u ∷ [];
          parts = is;
          ends = ends;
          spelled = (u, refl, means);
          loose = (u, refl, means);
          same = λ l end h. case_some m done (expected tells) u x l end means;
        };
    fails = λ i at e. elim (cases_next m done (expected tells) i) [
      | inl (u, b, k, is, means, here) ↦ absurd (not_err b (at_end k i.end) at (sym here ∙ e))
      | inr (none, here) ↦
          record {
            tokens = [];
            rest = i.rest;
            parts = refl;
            there = sym (same_place i at (sym here ∙ e));
            viable = (t ∷ [], a, (t, refl, example));
            same = λ l end h. case_none m done (expected tells) (at_end l end)
                (sym (meant_alike m i.rest l h) ∙ none);
          }
    ];
  }

  -- what nothing spells, where a text could go on
  pub reads_none : {A : Type 0} {fuel : ℕ} {P' : Phrase L A} → ((tokens : List L) × (x : A) × P' tokens x)
      → Reads tells fuel phrases.nothing P' Any (expected tells)
  reads_none some = record {
    some = some;
    again = λ tokens x k end len p stop. absurd p;
    takes = λ i x j e. absurd (not_ok tells i x j e);
    fails = λ i at e. record {
      tokens = [];
      rest = i.rest;
      parts = refl;
      there = sym (same_place i at e);
      viable = some;
      same = λ k end h. refl;
    };
  }
