-- Where the faults of a reader stand: after tokens with which a text can begin, or at such a token.
use Rattle.std.proofs.Common.{◌≡◌, Bool, true, false, ℕ, zero, suc, ◌+◌, ◌≤◌, inl, inr, ◌⊎◌, List, []}
use Rattle.std.proofs.Common.{◌∷◌, ◌++◌, length, Option, Some, Result, Ok, Err, refl, sym, ap, subst}
use Rattle.std.proofs.Common.{◌∙◌, append_assoc, arith, length-append, append-nil}
use Rattle.std.specs.Prelude.{IsTrue}
use Rattle.std.proofs.lemmas.Bool.{cases_Bool}
use Rattle.readers.specs.Readers.{◌>>=◌, done, holds}
use Rattle.phrases.specs.Phrase as phrases
use Rattle.phrases.specs.Phrase.{Meaning, Phrase, then, only, where_true, ◌or◌}
use Rattle.phrases.specs.Reading.{Input, Tells, Reader}
use Rattle.phrases.specs.Reading.{next_means, place, case_next, expected, one, is_there, many}
use Rattle.phrases.proofs.Readers.{at_end, goes_on_ok, goes_on_err, ok_value, cases_next, joined, one_read}
use Rattle.phrases.proofs.Repeats.{Begins, Ends, ok_not_err, err_not_ok, many_stop, many_out}
use Rattle.phrases.proofs.Repeats.{many_go, many_round, more_behind, many_worse}

-- the place is that of a token, up to which the tokens begin what the phrase spells
pub record Within {L F A : Type 0} (tells : Tells L F) (P' : Phrase L A) (i : Input L) (at : ℕ) : Type 0 where
  pub tokens : List L
  pub token : L
  pub rest : List L
  pub parts : i.rest ≡ tokens ++ token ∷ rest
  pub there : at ≡ tells.at token
  pub viable : (more : List L) × (x : A) × P' (tokens ++ token ∷ more) x

-- The fault is that a token was not expected, or that of a limit; then it stands at a known place, or at
-- such a token of the input.
abbrev pub Blamed : {L F A : Type 0} (tells : Tells L F) → (F → Option ℕ) → (ℕ → Type 0) → Phrase L A
    → Input L → F → Type 0
Blamed tells limit Known P' i e =
    ((at : ℕ) × (e ≡ tells.expected at))
    ⊎ ((at : ℕ) × (limit e ≡ Some at) × (Known at ⊎ Within tells P' i at))

-- what is read was spelled, limits passed over
pub record Taken {L A : Type 0} (P' : Phrase L A) (i : Input L) (x : A) (j : Input L) : Type 0 where
  pub tokens : List L
  pub parts : i.rest ≡ tokens ++ j.rest
  pub loose : P' tokens x

-- the faults of the reader are blamed on places, the known ones included
pub record Blames {L F A : Type 0} (tells : Tells L F) (limit : F → Option ℕ) (fuel : ℕ) (Known : ℕ → Type 0)
    (P' : Phrase L A) (r : Reader L F A) : Type 0 where
  pub some : (tokens : List L) × (x : A) × P' tokens x
  pub takes : (i : Input L) (x : A) (j : Input L) → r i ≡ Ok (x, j) → Taken P' i x j
  pub blames : (i : Input L) (e : F) → length i.rest ≤ fuel → r i ≡ Err e → Blamed tells limit Known P' i e

-- what it reads is one token, and its place is that of the token
abbrev pub IsToken : {L F A : Type 0} (tells : Tells L F) → Phrase L A → Reader L F A → (A → ℕ) → Type 0
IsToken {L = L} tells P' r placed = (i : Input L) (x : _) (j : Input L) → r i ≡ Ok (x, j) → (t : L)
    × (i.rest ≡ t ∷ j.rest) × P' (t ∷ []) x × (placed x ≡ tells.at t)

shorter : {L : Type 0} (l s k : List L) (fuel : ℕ) → l ≡ s ++ k → length l ≤ fuel → length k ≤ fuel
shorter l s k fuel e le =
    let same : length l ≡ length s + length k = ap length e ∙ length-append s k in
    omega (arith, le, same)

module _ {L F : Type 0} {tells : Tells L F} where
  -- after tokens with which what one phrase spells is what another spells
  within_behind : {A B : Type 0} {P' : Phrase L A} {Q' : Phrase L B} (s : List L) (i j : Input L) (at : ℕ)
      → i.rest ≡ s ++ j.rest → Within tells P' j at
      → ((l : List L) (x : A) → P' l x → (y : B) × Q' (s ++ l) y) → Within tells Q' i at
  within_behind {Q' = Q'} s i j at is w into =
      let v = w.viable in
      let y = into (w.tokens ++ w.token ∷ v.0) v.1 v.2 in
      record {
        tokens = s ++ w.tokens;
        token = w.token;
        rest = w.rest;
        parts = joined s w.tokens (w.token ∷ w.rest) is w.parts;
        there = w.there;
        viable = (
          v.0,
          y.0,
          subst (λ l. Q' l y.0) (sym (append_assoc s w.tokens (w.token ∷ v.0))) y.1,
        );
      }

module _ {L F : Type 0} {tells : Tells L F} (limit : F → Option ℕ) where
  -- the places that one reader blames are blamed by another
  blamed_as : {A B : Type 0} {K K' : ℕ → Type 0} {P' : Phrase L A} {Q' : Phrase L B} (i j : Input L) (e : F)
      → Blamed tells limit K P' j e → ((at : ℕ) → K at → K' at ⊎ Within tells Q' i at)
      → ((at : ℕ) → Within tells P' j at → Within tells Q' i at) → Blamed tells limit K' Q' i e
  blamed_as i j e h known within = elim h [
    | inl g ↦ inl g
    | inr (at, is, where_) ↦ inr (
      at,
      is,
      (elim where_ [ inl k ↦ known at k | inr w ↦ inr (within at w) ]),
    )
  ]

  blamed_first : {A B : Type 0} {K : ℕ → Type 0} {P' : Phrase L A} {Q' : A → Phrase L B} (more : (a : A)
      → (tokens : List L) × (y : B) × Q' a tokens y) (i : Input L) (e : F) → Blamed tells limit K P' i e
      → Blamed tells limit K (then P' Q') i e
  blamed_first more i e h = blamed_as i i e h (λ at k. inl k) (λ at w.
      let v = w.viable in
      let u = more v.1 in
      record {
        tokens = w.tokens;
        token = w.token;
        rest = w.rest;
        parts = w.parts;
        there = w.there;
        viable = (
          v.0 ++ u.0,
          u.1,
          (
            v.1,
            w.tokens ++ w.token ∷ v.0,
            u.0,
            sym (append_assoc w.tokens (w.token ∷ v.0) u.0),
            v.2,
            u.2,
          ),
        );
      })

module _ {L : Type 0} where
  none_left : {B : Type 0} (m : Meaning L B) (l : List L) → Begins m l → length l ≤ 0 → ⊥
  none_left m [] b le = absurd cc
  none_left m (t ∷ l) b le = absurd (omega (arith, le))

  fewer : (l s k : List L) (n : ℕ) → l ≡ s ++ k → 1 ≤ length s → length l ≤ suc n → length k ≤ n
  fewer l s k n e some le =
      let same : length l ≡ length s + length k = ap length e ∙ length-append s k in
      omega (arith, some, le, same)

  taken_then : {A B : Type 0} {P' : Phrase L A} {Q' : A → Phrase L B} (i : Input L) (x : A) (j : Input L)
      (y : B) (k : Input L) → Taken P' i x j → Taken (Q' x) j y k → Taken (then P' Q') i y k
  taken_then i x j y k a b = record {
    tokens = a.tokens ++ b.tokens;
    parts = joined a.tokens b.tokens k.rest a.parts b.parts;
    loose = (x, a.tokens, b.tokens, refl, a.loose, b.loose);
  }

module _ {L F : Type 0} (tells : Tells L F) where
  at_place : {A : Type 0} (i : Input L) (e : F) → (let r : Result (A × Input L) F =
      Err (tells.expected (place tells i)) in r) ≡ Err e → e ≡ tells.expected (place tells i)
  at_place i e h = let same : tells.expected (place tells i) ≡ e = cc in sym same

  -- a token of this meaning is one token
  pub is_token : {A : Type 0} (m : Meaning L A) (placed : A → ℕ) → ((t : L) (a : A) → m t ≡ Some a → placed a
      ≡ tells.at t) → IsToken tells (phrases.one m) (one tells m) placed
  is_token m placed places i x j e =
      let (t, is, ends, means) = one_read tells m i x j e in
      (t, is, (t, refl, means), places t x means)

  tested : {A : Type 0} (b : Bool) (fault : F) (x y : A) (i j : Input L) → (let r : Reader L F A =
      holds b fault >>= λ _. done x in r i) ≡ Ok (y, j) → (x ≡ y) × (i ≡ j)
  tested true fault x y i j e = ok_value x y i j e
  tested false fault x y i j e = absurd (err_not_ok (y, j) fault e)

  -- a token and a test
  pub is_tested : {A : Type 0} {P' : Phrase L A} {r : Reader L F A} (placed : A → ℕ) (b : A → Bool)
      (fault : A → F) → IsToken tells P' r placed
      → IsToken tells (then P' (λ x. then (where_true true) (λ _. only x))) (r >>= λ x.
      holds (b x) (fault x) >>= λ _. done x) placed
  is_tested {r = r} placed b fault one i x j e =
      let y = goes_on_ok (r i) (λ z. holds (b z) (fault z) >>= λ _. done z) (x, j) e in
      let same = tested (b y.0.0) (fault y.0.0) y.0.0 x y.0.1 j y.2 in
      let (t, is, p, place) = one i y.0.0 y.0.1 y.1 in (
        t,
        is ∙ ap (λ (o : Input L). t ∷ o.rest) same.1,
        (
          y.0.0,
          t ∷ [],
          [],
          refl,
          p,
          (tt, [], [], refl, (refl, refl), (refl, same.0)),
        ),
        ap placed (sym same.0) ∙ place,
      )

module _ {L F : Type 0} {tells : Tells L F} {limit : F → Option ℕ} {fuel : ℕ} where
  -- what is after may blame places that are known there alone, if they are places of what was read
  blames_behind : {A B : Type 0} {K : ℕ → Type 0} {P' : Phrase L A} {Q' : A → Phrase L B} {r : Reader L F A}
      {f : A → Reader L F B} (Known : A → ℕ → Type 0)
      → ((i : Input L) (x : A) (j : Input L) → r i ≡ Ok (x, j) → (at : ℕ) → Known x at
      → K at ⊎ Within tells (then P' Q') i at)
      → Blames tells limit fuel K P' r → ((a : A) → Blames tells limit fuel (Known a) (Q' a) (f a))
      → Blames tells limit fuel K (then P' Q') (r >>= f)
  blames_behind {r = r} {f = f} Known known one two = record {
    some =
        let v = one.some in
        let w = (two v.1).some in
        (v.0 ++ w.0, w.1, (v.1, v.0, w.0, refl, v.2, w.2));
    takes = λ i y j e.
        let x = goes_on_ok (r i) f (y, j) e in
        taken_then i x.0.0 x.0.1 y j (one.takes i x.0.0 x.0.1 x.1) ((two x.0.0).takes x.0.1 y j x.2);
    blames = λ i e len h. elim (goes_on_err (r i) f e h) [
      | inl g ↦ blamed_first limit (λ a. (two a).some) i e (one.blames i e len g)
      | inr x ↦
          let a = one.takes i x.0.0 x.0.1 x.1 in
          let short = shorter i.rest a.tokens x.0.1.rest fuel a.parts len in
          blamed_as limit i x.0.1 e ((two x.0.0).blames x.0.1 e short x.2) (known i x.0.0 x.0.1 x.1)
          (λ at w. within_behind a.tokens i x.0.1 at a.parts w (λ l y q.
          (y, (x.0.0, a.tokens, l, refl, a.loose, q))))
    ];
  }

  pub blames_then : {A B : Type 0} {K : ℕ → Type 0} {P' : Phrase L A} {Q' : A
      → Phrase L B} {r : Reader L F A} {f : A → Reader L F B}
      → Blames tells limit fuel K P' r → ((a : A) → Blames tells limit fuel K (Q' a) (f a))
      → Blames tells limit fuel K (then P' Q') (r >>= f)
  blames_then {K = K} one two = blames_behind (λ a. K) (λ i x j e at k. inl k) one two

  -- what is after a token may blame that token
  pub blames_token : {A B : Type 0} {K : ℕ → Type 0} {P' : Phrase L A} {Q' : A
      → Phrase L B} {r : Reader L F A} {f : A → Reader L F B} (placed : A → ℕ)
      → IsToken tells P' r placed → Blames tells limit fuel K P' r
      → ((a : A) → Blames tells limit fuel (λ n. K n ⊎ (n ≡ placed a)) (Q' a) (f a))
      → Blames tells limit fuel K (then P' Q') (r >>= f)
  blames_token {K = K} {P' = P'} {Q' = Q'} placed token one two =
      blames_behind (λ a n. K n ⊎ (n ≡ placed a)) (λ i x j e at. elim [
        | inl k ↦ inl k
        | inr here ↦ inr (at_token i x j at (token i x j e) here)
      ]) one two
    where
      at_token : (i : Input L) (x : _) (j : Input L) (at : ℕ) → (t : L) × (i.rest ≡ t ∷ j.rest)
          × P' (t ∷ []) x × (placed x ≡ tells.at t) → at ≡ placed x → Within tells (then P' Q') i at
      at_token i x j at (t, is, p, place) here =
          let w = (two x).some in
          record {
            tokens = [];
            token = t;
            rest = j.rest;
            parts = is;
            there = here ∙ place;
            viable = (w.0, w.1, (x, t ∷ [], w.0, refl, p, w.2));
          }

  pub blames_done : {A : Type 0} {K : ℕ → Type 0} (x : A) → Blames tells limit fuel K (only x) (done x)
  blames_done x = record {
    some = ([], x, (refl, refl));
    takes = λ i y j e.
        let both = ok_value x y i j e in
        record { tokens = []; parts = ap (λ (o : Input L). o.rest) both.1; loose = (refl, both.0) };
    blames = λ i e len h. absurd (ok_not_err (x, i) e h);
  }

  -- nothing is read, where a text could go on
  pub blames_none : {A : Type 0} {K : ℕ → Type 0} {P' : Phrase L A} → ((tokens : List L) × (x : A)
      × P' tokens x) → Blames tells limit fuel K P' (expected tells)
  blames_none some = record {
    some = some;
    takes = λ i x j e. absurd (err_not_ok (x, j) (tells.expected (place tells i)) e);
    blames = λ i e len h. inl (
      place tells i,
      (let same : tells.expected (place tells i) ≡ e = cc in
          sym same),
    );
  }

  -- the same with more places known
  pub blames_known : {A : Type 0} {K K' : ℕ → Type 0} {P' : Phrase L A} {r : Reader L F A}
      → ((n : ℕ) → K n → K' n) → Blames tells limit fuel K P' r → Blames tells limit fuel K' P' r
  blames_known more h = record {
    some = h.some;
    takes = λ i x j e. h.takes i x j e;
    blames = λ i e len g. blamed_as limit i i e (h.blames i e len g) (λ at k. inl (more at k)) (λ at w. w);
  }

  pub blames_as : {A : Type 0} {K : ℕ → Type 0} {P' Q' : Phrase L A} {r : Reader L F A}
      → ((l : List L) (x : A) → P' l x → Q' l x) → Blames tells limit fuel K P' r
      → Blames tells limit fuel K Q' r
  blames_as into h = record {
    some = let v = h.some in (v.0, v.1, into v.0 v.1 v.2);
    takes = λ i x j e.
        let a = h.takes i x j e in
        record { tokens = a.tokens; parts = a.parts; loose = into a.tokens x a.loose };
    blames = λ i e len g. blamed_as limit i i e (h.blames i e len g) (λ at k. inl k) (λ at w.
        within_behind [] i i at refl w (λ l x p. (x, into l x p)));
  }

  -- the same with its value seen by f
  pub blames_map : {A B : Type 0} {K : ℕ → Type 0} {P' : Phrase L A} {r : Reader L F A} (f : A → B)
      → Blames tells limit fuel K P' r → Blames tells limit fuel K (then P' (λ a. only (f a))) (r >>= λ a.
      done (f a))
  blames_map f h = blames_then h (λ a. blames_done (f a))

  -- a test before what follows, told at a known place; where limits are passed over it holds
  pub blames_holds : {B : Type 0} {K : ℕ → Type 0} {Q' : Unit {0} → Phrase L B} (f : Unit {0} → Reader L F B)
      (b b' : Bool) (fault : F) (at : ℕ)
      → limit fault ≡ Some at → K at → IsTrue b' → Blames tells limit fuel K (Q' tt) (f tt)
      → Blames tells limit fuel K (then (where_true b') Q') (holds b fault >>= f)
  blames_holds f false b' fault at is known up more = record {
    some = let v = more.some in (v.0, v.1, (tt, [], v.0, refl, (refl, up), v.2));
    takes = λ i y j e. absurd (err_not_ok (y, j) fault e);
    blames = λ i e len h.
        let same : fault ≡ e = cc in
        inr (at, ap limit (sym same) ∙ is, inl known);
  }
  blames_holds f true b' fault at is known up more =
      blames_as (λ l y q. (tt, [], l, refl, (refl, up), q)) more

  -- a token, of which there is one
  pub blames_one : {A : Type 0} {K : ℕ → Type 0} (m : Meaning L A) (t : L) (a : A) → m t ≡ Some a
      → Blames tells limit fuel K (phrases.one m) (one tells m)
  unfolding one
  blames_one m t a example = record {
    some = (t ∷ [], a, (t, refl, example));
    takes = λ i x j e.
        let (u, is, ends, means) = one_read tells m i x j e in
        record { tokens = u ∷ []; parts = is; loose = (u, refl, means) };
    blames = λ i e len h. elim (cases_next m done (expected tells) i) [
      | inl (u, b, k, is, means, here) ↦ absurd (ok_not_err (b, at_end k i.end) e (sym here ∙ h))
      | inr (none, here) ↦ inl (place tells i, at_place tells i e (sym here ∙ h))
    ];
  }

  -- a choice by the next token, which what is after it may blame
  blames_choice : {A B : Type 0} {K : ℕ → Type 0} {m : Meaning L A} {Q' : A → Phrase L B} {R' : Phrase L B}
      {f : A → Reader L F B} {r : Reader L F B} (Here : A → ℕ → Type 0)
      → ((t : L) (a : A) → m t ≡ Some a → (n : ℕ) → Here a n → n ≡ tells.at t)
      → ((a : A) → Blames tells limit fuel (λ n. K n ⊎ Here a n) (Q' a) (f a))
      → Blames tells limit fuel K R' r
      → Blames tells limit fuel K (then (phrases.one m) Q' or R') (case_next m f r)
  blames_choice {K = K} {m = m} {Q' = Q'} {R' = R'} {f = f} {r = r} Here places two other = record {
    some = let v = other.some in (v.0, v.1, inr v.2);
    takes = λ i y j e. elim (cases_next m f r i) [
      | inl (t, a, k, is, means, here) ↦
          let b = (two a).takes (at_end k i.end) y j (sym here ∙ e) in
          record {
            tokens = t ∷ b.tokens;
            parts = is ∙ ap (λ l. t ∷ l) b.parts;
            loose = inl (a, t ∷ [], b.tokens, refl, (t, refl, means), b.loose);
          }
      | inr (none, here) ↦
          let b = other.takes i y j (sym here ∙ e) in
          record { tokens = b.tokens; parts = b.parts; loose = inr b.loose }
    ];
    blames = λ i e len h. elim (cases_next m f r i) [
      | inl (t, a, k, is, means, here) ↦
          let short = shorter i.rest (t ∷ []) k fuel is len in
          let other = (two a).blames (at_end k i.end) e short (sym here ∙ h) in
          blamed_as limit i (at_end k i.end) e other (λ at. elim [
            | inl n ↦ inl n
            | inr n ↦
                let w = (two a).some in
                inr (record {
                  tokens = [];
                  token = t;
                  rest = k;
                  parts = is;
                  there = places t a means at n;
                  viable = (w.0, w.1, inl (a, t ∷ [], w.0, refl, (t, refl, means), w.2));
                })
          ]) (λ at w. within_behind (t ∷ []) i (at_end k i.end) at is w (λ l y q.
          (y, inl (a, t ∷ [], l, refl, (t, refl, means), q))))
      | inr (none, here) ↦ blamed_as limit i i e (other.blames i e len (sym here ∙ h)) (λ at k. inl k)
          (λ at w. within_behind [] i i at refl w (λ l x p. (x, inr p)))
    ];
  }

  pub blames_case : {A B : Type 0} {K : ℕ → Type 0} {m : Meaning L A} {Q' : A → Phrase L B} {R' : Phrase L B}
      {f : A → Reader L F B} {r : Reader L F B} (placed : A → ℕ)
      → ((t : L) (a : A) → m t ≡ Some a → placed a ≡ tells.at t)
      → ((a : A) → Blames tells limit fuel (λ n. K n ⊎ (n ≡ placed a)) (Q' a) (f a))
      → Blames tells limit fuel K R' r
      → Blames tells limit fuel K (then (phrases.one m) Q' or R') (case_next m f r)
  blames_case placed places two other = blames_choice (λ a n. n ≡ placed a) (λ t a means n here. here
      ∙ places t a means) two other

  -- a choice that nothing blames
  pub blames_either : {A B : Type 0} {K : ℕ → Type 0} {m : Meaning L A} {Q' : A
      → Phrase L B} {R' : Phrase L B} {f : A → Reader L F B} {r : Reader L F B}
      → ((a : A) → Blames tells limit fuel K (Q' a) (f a)) → Blames tells limit fuel K R' r
      → Blames tells limit fuel K (then (phrases.one m) Q' or R') (case_next m f r)
  blames_either two other = blames_choice (λ a n. ⊥) (λ t a means n here. absurd here) (λ a.
      blames_known (λ n k. inl k) (two a)) other

  -- ---- any number of items

  module _ {S A B : Type 0} {K : ℕ → Type 0} (begins : Meaning L B) (next : S → A → S) (r : S
      → Reader L F A) {p' : S → Phrase L A}
      (items : (s : S) → Blames tells limit fuel K (p' s) (r s))
      (full : (s : S) (t : List L) (x : A) → p' s t x → 1 ≤ length t) where
    at_stop : (n : ℕ) (s : S) (i : Input L) (xs : List A) (j : Input L) → Ends begins i.rest
        → many tells n begins next r s i ≡ Ok (xs, j) → Taken (phrases.many next p' s) i xs j
    at_stop n s i xs j none e =
        let both = ok_value [] xs i j (sym (many_stop tells begins next r n s i none) ∙ e) in
        record {
          tokens = [];
          parts = ap (λ (o : Input L). o.rest) both.1;
          loose = subst (λ ys. phrases.many next p' s [] ys) both.0 refl;
        }

    taken_more : (s : S) (i : Input L) (x : A) (j : Input L) (xs : List A) (k : Input L) → Taken (p' s) i x j
        → Taken (phrases.many next p' (next s x)) j xs k → Taken (phrases.many next p' s) i (x ∷ xs) k
    taken_more s i x j xs k a b = record {
      tokens = a.tokens ++ b.tokens;
      parts = joined a.tokens b.tokens k.rest a.parts b.parts;
      loose = (a.tokens, b.tokens, refl, a.loose, b.loose);
    }

    many_takes : (n : ℕ) (s : S) (i : Input L) (xs : List A) (j : Input L) → many tells n begins next r s i
        ≡ Ok (xs, j) → Taken (phrases.many next p' s) i xs j
    many_takes zero s i xs j e = elim (cases_Bool (is_there (next_means begins i))) [
      | inl there ↦ absurd (err_not_ok _ _ (sym (many_out tells begins next r s i there) ∙ e))
      | inr none ↦ at_stop zero s i xs j none e
    ]
    many_takes (suc n) s i xs j e = elim (cases_Bool (is_there (next_means begins i))) [
      | inl there ↦
          let (x, l, ys, one, others, whole) = many_round tells begins next r n s i xs j there e in
          subst (λ zs. Taken (phrases.many next p' s) i zs j) whole
          (taken_more s i x l ys j ((items s).takes i x l one) (many_takes n (next s x) l ys j others))
      | inr none ↦ at_stop (suc n) s i xs j none e
    ]

    many_blames : (n : ℕ) (s : S) (i : Input L) (e : F) → length i.rest ≤ fuel → length i.rest ≤ n
        → many tells n begins next r s i ≡ Err e → Blamed tells limit K (phrases.many next p' s) i e
    many_blames zero s i e len fits h = elim (cases_Bool (is_there (next_means begins i))) [
      | inl there ↦ absurd (none_left begins i.rest there fits)
      | inr none ↦ absurd (ok_not_err _ _ (sym (many_stop tells begins next r zero s i none) ∙ h))
    ]
    many_blames (suc n) s i e len fits h = elim (cases_Bool (is_there (next_means begins i))) [
      | inl there ↦ elim (goes_on_err (r s i) (more_behind tells begins next r n s) e
          (sym (many_go tells begins next r n s i there) ∙ h)) [
            | inl g ↦ blamed_as limit i i e ((items s).blames i e len g) (λ at k. inl k)
                (λ at w. within_behind [] i i at refl w (λ l x q.
                (x ∷ [], (l, [], sym (append-nil l), q, refl))))
            | inr x ↦
                let a = (items s).takes i x.0.0 x.0.1 x.1 in
                let some = full s a.tokens x.0.0 a.loose in
                let others = many_blames n (next s x.0.0) x.0.1 e
                (shorter i.rest a.tokens x.0.1.rest fuel a.parts len)
                (fewer i.rest a.tokens x.0.1.rest n a.parts some fits)
                (many_worse tells begins next r n s x.0.0 x.0.1 e x.2) in
                blamed_as limit i x.0.1 e others (λ at k. inl k)
                (λ at w. within_behind a.tokens i x.0.1 at a.parts w (λ l xs q.
                (x.0.0 ∷ xs, (a.tokens, l, refl, a.loose, q))))
          ]
      | inr none ↦ absurd (ok_not_err _ _ (sym (many_stop tells begins next r (suc n) s i none) ∙ h))
    ]

    pub blames_many : (n : ℕ) (s : S) → fuel ≤ n → Blames tells limit fuel K (phrases.many next p' s)
        (many tells n begins next r s)
    blames_many n s enough = record {
      some = ([], [], refl);
      takes = λ i xs j e. many_takes n s i xs j e;
      blames = λ i e len h. many_blames n s i e len (omega (arith, len, enough)) h;
    }
