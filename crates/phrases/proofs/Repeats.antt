-- Readers of any number of items.
use Rattle.std.proofs.Common.{◌≡◌, true, false, cond, ℕ, zero, suc, ◌+◌, ◌≤◌, inl, inr, List, []}
use Rattle.std.proofs.Common.{◌∷◌, ◌++◌, length, Result, Ok, Err, refl, sym, ap, subst}
use Rattle.std.proofs.Common.{◌∙◌, append_assoc, arith, length-append, append-nil}
use Rattle.std.proofs.lemmas.Bool.{cases_Bool}
use Rattle.readers.specs.Readers.{goes_on, ◌>>=◌, done}
use Rattle.phrases.specs.Phrase as phrases
use Rattle.phrases.specs.Phrase.{Meaning, Phrase}
use Rattle.phrases.specs.Reading.{Input, Tells, place_in, Reader, first, meant_in, next_means, place}
use Rattle.phrases.specs.Reading.{is_there, many}
use Rattle.phrases.proofs.Readers.{Distinct, at_end, Took, Failed, Reads, goes_on_ok, goes_on_err, ok_value}
use Rattle.phrases.proofs.Readers.{first_behind, joined, meant_alike}

module _ {L : Type 0} where
  -- the next token begins an item
  abbrev pub Begins : {B : Type 0} → Meaning L B → List L → Type 0
  Begins m k = is_there (meant_in m k) ≡ true

  abbrev pub Ends : {B : Type 0} → Meaning L B → List L → Type 0
  Ends m k = is_there (meant_in m k) ≡ false

  begins_alike : {B : Type 0} (m : Meaning L B) (j k : List L) → first j ≡ first k → is_there (meant_in m k)
      ≡ is_there (meant_in m j)
  begins_alike m j k e = ap is_there (sym (meant_alike m j k e))

  some_tokens : {B : Type 0} (m : Meaning L B) (t : List L) → Begins m (t ++ []) → 1 ≤ length t
  some_tokens m [] e = absurd cc
  some_tokens m (u ∷ t) e = omega arith

module _ {L F : Type 0} where
  pub ok_not_err : {A : Type 0} (x : A × Input L) (e : F) → (let r : Result (A × Input L) F = Ok x in r)
      ≡ Err e → ⊥
  ok_not_err x e h = absurd cc

  pub err_not_ok : {A : Type 0} (x : A × Input L) (e : F) → (let r : Result (A × Input L) F = Err e in r)
      ≡ Ok x → ⊥
  err_not_ok x e h = absurd cc

module _ {L F : Type 0} (tells : Tells L F) {S A B : Type 0} (begins : Meaning L B) (next : S → A → S) (r : S
    → Reader L F A) where
  pub many_stop : (n : ℕ) (s : S) (i : Input L) → Ends begins i.rest → many tells n begins next r s i
      ≡ Ok ([], i)
  unfolding many
  many_stop zero s i e = ap (λ b. cond b (Err (tells.too_many (place tells i))) (Ok ([], i))) e
  many_stop (suc n) s i e = ap (λ b. cond b ((r s >>= λ x. many tells n begins next r (next s x) >>= λ xs.
      done (x ∷ xs)) i) (Ok ([], i))) e

  pub many_out : (s : S) (i : Input L) → Begins begins i.rest → many tells zero begins next r s i
      ≡ Err (tells.too_many (place tells i))
  unfolding many
  many_out s i e = ap (λ b. cond b (Err (tells.too_many (place tells i))) (Ok ([], i))) e

  unfoldable pub more_behind : ℕ → S → A → Reader L F (List A)
  more_behind n s x = many tells n begins next r (next s x) >>= λ xs. done (x ∷ xs)

  pub many_go : (n : ℕ) (s : S) (i : Input L) → Begins begins i.rest → many tells (suc n) begins next r s i
      ≡ goes_on (r s i) (more_behind n s)
  unfolding many more_behind
  many_go n s i e = ap (λ b. cond b ((r s >>= λ x. many tells n begins next r (next s x) >>= λ xs.
      done (x ∷ xs)) i) (Ok ([], i))) e

  pub many_more : (n : ℕ) (s : S) (x : A) (xs : List A) (i j : Input L) → many tells n begins next r
      (next s x) i ≡ Ok (xs, j) → more_behind n s x i ≡ Ok (x ∷ xs, j)
  unfolding more_behind
  many_more n s x xs i j e = ap (λ q. goes_on q (λ ys. done (x ∷ ys))) e

  many_less : (n : ℕ) (s : S) (x : A) (ys : List A) (i j : Input L) → more_behind n s x i ≡ Ok (ys, j)
      → (xs : List A) × (many tells n begins next r (next s x) i ≡ Ok (xs, j)) × (x ∷ xs ≡ ys)
  unfolding more_behind
  many_less n s x ys i j e =
      let y = goes_on_ok (many tells n begins next r (next s x) i) (λ xs. done (x ∷ xs)) (ys, j) e in
      let v = ok_value (x ∷ y.0.0) ys y.0.1 j y.2 in
      (y.0.0, y.1 ∙ ap (λ k. Ok (y.0.0, k)) v.1, v.0)

  -- an item was read, and others after it
  pub many_round : (n : ℕ) (s : S) (i : Input L) (xs : List A) (j : Input L) → Begins begins i.rest
      → many tells (suc n) begins next r s i ≡ Ok (xs, j)
      → (x : A) × (k : Input L) × (ys : List A) × (r s i ≡ Ok (x, k))
      × (many tells n begins next r (next s x) k ≡ Ok (ys, j)) × (x ∷ ys ≡ xs)
  many_round n s i xs j there e =
      let x = goes_on_ok (r s i) (more_behind n s) (xs, j) (sym (many_go n s i there) ∙ e) in
      let y = many_less n s x.0.0 xs x.0.1 j x.2 in
      (x.0.0, x.0.1, y.0, x.1, y.1, y.2)

  pub many_worse : (n : ℕ) (s : S) (x : A) (i : Input L) (e : F) → more_behind n s x i ≡ Err e
      → many tells n begins next r (next s x) i ≡ Err e
  unfolding more_behind
  many_worse n s x i e h = elim (goes_on_err (many tells n begins next r (next s x) i) (λ xs.
      done (x ∷ xs)) e h) [
        | inl g ↦ g
        | inr y ↦ absurd (ok_not_err _ _ y.2)
      ]

  pub many_bad : (n : ℕ) (s : S) (x : A) (i : Input L) (e : F) → many tells n begins next r (next s x) i
      ≡ Err e → more_behind n s x i ≡ Err e
  unfolding more_behind
  many_bad n s x i e h = ap (λ q. goes_on q (λ ys. done (x ∷ ys))) h

module _ {L F : Type 0} {tells : Tells L F} (distinct : Distinct tells) where
  pub other_fault : {A : Type 0} (at n : ℕ) → (let r : Result (A × Input L) F = Err (tells.too_many at) in r)
      ≡ Err (tells.expected n) → ⊥
  other_fault at n h =
      let same : tells.too_many at ≡ tells.expected n = cc in
      distinct.apart at n same

  module _ {S A B : Type 0} (begins : Meaning L B) (next : S → A → S) (r : S → Reader L F A) {fuel : ℕ}
      {p p' : S → Phrase L A} {Item Stop : List L → Type 0}
      (items : (s : S) → Reads tells fuel (p s) (p' s) Item (r s))
      (starts : (s : S) (t : List L) (x : A) (k : List L) → p s t x → Begins begins (t ++ k))
      (goes : (k : List L) → Begins begins k → Item k)
      (stops : (k : List L) → Stop k → Item k)
      (ends : (k : List L) → Stop k → Ends begins k) where
    item_ahead : (s : S) (t : List L) (xs : List A) (k : List L) → phrases.many next p s t xs → Stop k
        → Item (t ++ k)
    item_ahead s t [] k e stop = subst (λ l. Item (l ++ k)) (sym e) (stops k stop)
    item_ahead s t (x ∷ xs) k (f, o, e, q, more) stop =
        let whole : f ++ (o ++ k) ≡ t ++ k = sym (append_assoc f o k) ∙ ap (λ l. l ++ k) (sym e) in
        subst Item whole (goes (f ++ (o ++ k)) (starts s f x (o ++ k) q))

    many_again : (n : ℕ) (s : S) (tokens : List L) (xs : List A) (k : List L) (end : ℕ)
        → length tokens ≤ fuel → length tokens ≤ n → phrases.many next p s tokens xs → Stop k
        → many tells n begins next r s (at_end (tokens ++ k) end) ≡ Ok (xs, at_end k end)
    many_again n s tokens [] k end len fits e stop =
        ap (λ l. many tells n begins next r s (at_end (l ++ k) end)) e ∙ many_stop tells begins next r n s
        (at_end k end) (ends k stop)
    many_again zero s tokens (x ∷ xs) k end len fits (f, o, e, q, more) stop =
        let some = some_tokens begins f (starts s f x [] q) in
        let short : length tokens ≡ length f + length o = ap length e ∙ length-append f o in
        absurd (omega (arith, some, short, fits))
    many_again (suc n) s tokens (x ∷ xs) k end len fits (f, o, e, q, more) stop =
        let some = some_tokens begins f (starts s f x [] q) in
        let short : length tokens ≡ length f + length o = ap length e ∙ length-append f o in
        let near : tokens ++ k ≡ f ++ (o ++ k) = ap (λ l. l ++ k) e ∙ append_assoc f o k in
        let one = (items s).again f x (o ++ k) end (omega (arith, len, short)) q
        (item_ahead (next s x) o xs k more stop) in
        let others = many_again n (next s x) o xs k end (omega (arith, len, short))
        (omega (arith, some, short, fits)) more stop in
        ap (λ l. many tells (suc n) begins next r s (at_end l end)) near
        ∙ many_go tells begins next r n s (at_end (f ++ (o ++ k)) end) (starts s f x (o ++ k) q)
        ∙ ap (λ z. goes_on z (more_behind tells begins next r n s)) one
        ∙ many_more tells begins next r n s x xs (at_end (o ++ k) end) (at_end k end) others

    none_taken : (n : ℕ) (s : S) (i : Input L) (xs : List A) (j : Input L) → Ends begins i.rest
        → many tells n begins next r s i ≡ Ok (xs, j) → Took (phrases.many next p s) (phrases.many next p' s)
        (many tells n begins next r s) i xs j
    none_taken n s i xs j none e =
        let both = ok_value [] xs i j (sym (many_stop tells begins next r n s i none) ∙ e) in
        let rests = ap (λ (o : Input L). o.rest) both.1 in
        record {
          tokens = [];
          parts = rests;
          ends = ap (λ (o : Input L). o.end) both.1;
          spelled = subst (λ ys. phrases.many next p s [] ys) both.0 refl;
          loose = subst (λ ys. phrases.many next p' s [] ys) both.0 refl;
          same = λ k end h.
              many_stop tells begins next r n s (at_end k end) (begins_alike begins j.rest k h
              ∙ ap (λ l. is_there (meant_in begins l)) (sym rests) ∙ none)
              ∙ ap (λ ys. Ok (ys, at_end k end)) both.0;
        }

    many_takes : (n : ℕ) (s : S) (i : Input L) (xs : List A) (j : Input L) → many tells n begins next r s i
        ≡ Ok (xs, j) → Took (phrases.many next p s) (phrases.many next p' s) (many tells n begins next r s) i
        xs j
    many_takes zero s i xs j e = elim (cases_Bool (is_there (next_means begins i))) [
      | inl there ↦ absurd (err_not_ok _ _ (sym (many_out tells begins next r s i there) ∙ e))
      | inr none ↦ none_taken zero s i xs j none e
    ]
    many_takes (suc n) s i xs j e = elim (cases_Bool (is_there (next_means begins i))) [
      | inl there ↦
          let (x, l, ys, one, others, whole) = many_round tells begins next r n s i xs j there e in
          let a = (items s).takes i x l one in
          let b = many_takes n (next s x) l ys j others in
          record {
            tokens = a.tokens ++ b.tokens;
            parts = joined a.tokens b.tokens j.rest a.parts b.parts;
            ends = a.ends ∙ b.ends;
            spelled = subst (λ zs. phrases.many next p s (a.tokens ++ b.tokens) zs) whole (
              a.tokens,
              b.tokens,
              refl,
              a.spelled,
              b.spelled,
            );
            loose = subst (λ zs. phrases.many next p' s (a.tokens ++ b.tokens) zs) whole (
              a.tokens,
              b.tokens,
              refl,
              a.loose,
              b.loose,
            );
            same = λ k end h.
                let alike = ap first b.parts ∙ first_behind b.tokens j.rest k h in
                ap (λ l. many tells (suc n) begins next r s (at_end l end)) (append_assoc a.tokens b.tokens k)
                ∙ many_go tells begins next r n s (at_end (a.tokens ++ (b.tokens ++ k)) end)
                (starts s a.tokens x (b.tokens ++ k) a.spelled)
                ∙ ap (λ z. goes_on z (more_behind tells begins next r n s)) (a.same (b.tokens ++ k) end alike)
                ∙ many_more tells begins next r n s x ys (at_end (b.tokens ++ k) end) (at_end k end)
                (b.same k end h)
                ∙ ap (λ zs. Ok (zs, at_end k end)) whole;
          }
      | inr none ↦ none_taken (suc n) s i xs j none e
    ]

    none_fails : (n : ℕ) (s : S) (i : Input L) (at : ℕ) → Ends begins i.rest → many tells n begins next r s i
        ≡ Err (tells.expected at) → ⊥
    none_fails n s i at none e = ok_not_err _ _ (sym (many_stop tells begins next r n s i none) ∙ e)

    many_fails : (n : ℕ) (s : S) (i : Input L) (at : ℕ) → many tells n begins next r s i
        ≡ Err (tells.expected at) → Failed tells (phrases.many next p' s) (many tells n begins next r s) i at
    many_fails zero s i at e = elim (cases_Bool (is_there (next_means begins i))) [
      | inl there ↦ absurd (other_fault _ _ (sym (many_out tells begins next r s i there) ∙ e))
      | inr none ↦ absurd (none_fails zero s i at none e)
    ]
    many_fails (suc n) s i at e = elim (cases_Bool (is_there (next_means begins i))) [
      | inl there ↦ elim (goes_on_err (r s i) (more_behind tells begins next r n s) (tells.expected at)
          (sym (many_go tells begins next r n s i there) ∙ e)) [
            | inl h ↦
                let a = (items s).fails i at h in
                let v = a.viable in
                record {
                  tokens = a.tokens;
                  rest = a.rest;
                  parts = a.parts;
                  there = a.there;
                  viable = (
                    v.0,
                    v.1 ∷ [],
                    (
                      a.tokens ++ v.0,
                      [],
                      sym (append-nil (a.tokens ++ v.0)),
                      v.2,
                      refl,
                    ),
                  );
                  same = λ k end g.
                      let alike = ap first a.parts ∙ first_behind a.tokens a.rest k g in
                      many_go tells begins next r n s (at_end (a.tokens ++ k) end) (begins_alike begins i.rest
                      (a.tokens ++ k) alike ∙ there)
                      ∙ ap (λ z. goes_on z (more_behind tells begins next r n s)) (a.same k end g);
                }
            | inr x ↦
                let a = (items s).takes i x.0.0 x.0.1 x.1 in
                let b = many_fails n (next s x.0.0) x.0.1 at (many_worse tells begins next r n s x.0.0 x.0.1
                (tells.expected at) x.2) in
                let v = b.viable in
                record {
                  tokens = a.tokens ++ b.tokens;
                  rest = b.rest;
                  parts = joined a.tokens b.tokens b.rest a.parts b.parts;
                  there = b.there ∙ ap (λ m. place_in tells b.rest m) (sym a.ends);
                  viable = (
                    v.0,
                    x.0.0 ∷ v.1,
                    (
                      a.tokens,
                      b.tokens ++ v.0,
                      append_assoc a.tokens b.tokens v.0,
                      a.loose,
                      v.2,
                    ),
                  );
                  same = λ k end h.
                      let alike = ap first b.parts ∙ first_behind b.tokens b.rest k h in
                      ap (λ l. many tells (suc n) begins next r s (at_end l end))
                      (append_assoc a.tokens b.tokens k)
                      ∙ many_go tells begins next r n s (at_end (a.tokens ++ (b.tokens ++ k)) end)
                      (starts s a.tokens x.0.0 (b.tokens ++ k) a.spelled)
                      ∙ ap (λ z. goes_on z (more_behind tells begins next r n s))
                      (a.same (b.tokens ++ k) end alike)
                      ∙ many_bad tells begins next r n s x.0.0 (at_end (b.tokens ++ k) end)
                      (tells.expected (place_in tells k end)) (b.same k end h);
                }
          ]
      | inr none ↦ absurd (none_fails (suc n) s i at none e)
    ]

    pub reads_many : (n : ℕ) (s : S) → fuel ≤ n → Reads tells fuel (phrases.many next p s)
        (phrases.many next p' s) Stop (many tells n begins next r s)
    reads_many n s enough = record {
      some = ([], [], refl);
      again = λ tokens xs k end len q stop. many_again n s tokens xs k end len (omega (arith, len, enough)) q
          stop;
      takes = λ i xs j e. many_takes n s i xs j e;
      fails = λ i at e. many_fails n s i at e;
    }
