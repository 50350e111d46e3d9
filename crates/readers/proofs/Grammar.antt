-- Readers that take just what a spelling has, put together from readers of its parts. What is read from is
-- Good, and so is what is left of it: bytes, say, are all below 256.
use Rattle.std.proofs.Common.{◌≡◌, Bool, true, false, cond, ℕ, ◌+◌, ◌-◌, ◌<◌, ◌≤◌, take, inl, inr}
use Rattle.std.proofs.Common.{List, [], ◌++◌, length, Option, Some, None, Result, Ok, Err}
use Rattle.std.proofs.Common.{refl, sym, ap, subst, ◌∙◌, append_assoc, arith, length-append, append-nil}
use Rattle.std.specs.Prelude.{IsTrue}
use Rattle.std.proofs.lemmas.Bool.{cases_lt}
use Rattle.std.proofs.lemmas.List.{take-append-le}
use Rattle.std.proofs.Math.Seq.{take-append-add}
use Rattle.readers.specs.Readers.{Reader, goes_on, ◌>>=◌, done, unless_none, holds, given, told_by, telling}
use Rattle.readers.specs.Places.{Ahead, here}
use Rattle.readers.proofs.Faults.{told_ok}

-- a text was taken from the front
pub record Took {S : Type 0} (Good : List S → Type 0) (i : Ahead S) (text : List S)
    (j : Ahead S) : Type 0 where
  pub parts : i.rest ≡ text ++ j.rest
  pub at : j.at ≡ i.at + length text
  pub good : Good j.rest

-- after a text
abbrev pub after : {S : Type 0} → ℕ → List S → List S → Ahead S
after at text rest = record { at = at + length text; rest = rest }

abbrev pub before : {S : Type 0} → ℕ → List S → List S → Ahead S
before at text rest = record { at = at; rest = text ++ rest }

-- the answer to a text of which only the first n are there: the field that isn't whole is short
pub record IsCut {S F A : Type 0} (short : ℕ → F) (at n : ℕ) (answer : Result (A × Ahead S) F) : Type 0 where
  pub inside : ℕ
  pub within : inside ≤ n
  pub is : answer ≡ Err (short (at + inside))

-- Of a value of which K is known the reader reads the text. What it reads has P and is spelled so,
-- and what has P and is spelled so it reads, whatever follows. Where the text is cut, it is short.
pub record Reads {S F A : Type 0} (Good : List S → Type 0) (short : ℕ → F) (K P : A → Type 0)
    (text : A → List S) (r : Reader (Ahead S) F A) : Type 0 where
  pub takes : (i : Ahead S) (x : A) (j : Ahead S) → Good i.rest → r i ≡ Ok (x, j)
      → K x × P x × Took Good i (text x) j
  pub again : (x : A) (at : ℕ) (rest : List S) → K x → P x
      → r (before at (text x) rest) ≡ Ok (x, after at (text x) rest)
  pub cut : (x : A) (at n : ℕ) → K x → P x → n < length (text x)
      → IsCut short at n (r (record { at = at; rest = take n (text x) }))

-- the whole of a value
abbrev pub All : {A : Type 0} → A → Type 0
All x = Unit {0}

-- a read that went well went well before
pub goes_on_ok : {I F A B : Type 0} (r : Result (A × I) F) (f : A → Reader I F B) (y : B × I)
    → goes_on r f ≡ Ok y → (x : A × I) × (r ≡ Ok x) × (f x.0 x.1 ≡ Ok y)
goes_on_ok (Ok x) f y e = (x, refl, e)
goes_on_ok (Err d) f y e = absurd cc

pub ok_value : {I F A : Type 0} (x y : A) (i j : I)
    (e : (let r : Result (A × I) F = Ok (x, i) in r) ≡ Ok (y, j)) → (x ≡ y) × (i ≡ j)
ok_value x y i j e =
    let both : (x, i) ≡ (y, j) = cc in
    (ap (λ (p : _ × _). p.0) both, ap (λ (p : _ × _). p.1) both)

pub some_ok : {I F A : Type 0} (fault : F) (o : Option A) (i : I) (y : A) (j : I)
    → unless_none fault o i ≡ Ok (y, j) → (o ≡ Some y) × (i ≡ j)
some_ok fault None i y j e = absurd cc
some_ok fault (Some x) i y j e = let both = ok_value x y i j e in (ap Some both.0, both.1)

pub given_ok : {I F A : Type 0} (r : Result A F) (i j : I) (x : A) → given r i ≡ Ok (x, j)
    → (r ≡ Ok x) × (i ≡ j)
given_ok (Ok y) i j x e = let both = ok_value y x i j e in (ap Ok both.0, both.1)
given_ok (Err e) i j x h = absurd cc

holds_ok : {I F B : Type 0} (b : Bool) (fault : F) (f : Unit {0} → Reader I F B) (i : I)
    (y : B × I) → goes_on (holds b fault i) f ≡ Ok y → (b ≡ true) × (f tt i ≡ Ok y)
holds_ok true fault f i y e = (refl, e)
holds_ok false fault f i y e = absurd cc

-- ---- pieces of texts

module _ {S : Type 0} {Good : List S → Type 0} where
  pub took_nothing : (i : Ahead S) → Good i.rest → Took Good i [] i
  took_nothing i good = record { parts = refl; at = omega arith; good = good }

  pub took_then : (i j k : Ahead S) (s t : List S) → Took Good i s j → Took Good j t k
      → Took Good i (s ++ t) k
  took_then i j k s t p q = record {
    parts = p.parts ∙ ap (λ (x : List S). s ++ x) q.parts ∙ sym (append_assoc s t k.rest);
    at = omega (arith, p.at, q.at, length-append s t);
    good = q.good;
  }

-- a fault ends the reading
pub cut_goes_on : {S F A B : Type 0} {short : ℕ → F} {at n : ℕ} {answer : Result (A × Ahead S) F}
    (f : A → Reader (Ahead S) F B) → IsCut short at n answer → IsCut short at n (goes_on answer f)
cut_goes_on f c = record { inside = c.inside; within = c.within; is = ap (λ q. goes_on q f) c.is }

-- two texts one after the other, where the first may tell what the second is
pub cut_then : {S F A B : Type 0} {short : ℕ → F} (r : Reader (Ahead S) F A) (f : A → Reader (Ahead S) F B)
    (a : A) (s t : List S)
    (at n : ℕ) → (n < length s → IsCut short at n (r (record { at = at; rest = take n s })))
    → ((rest : List S) → r (before at s rest) ≡ Ok (a, after at s rest))
    → ((k : ℕ) → k < length t → IsCut short (at + length s) k
    (f a (record { at = at + length s; rest = take k t })))
    → n < length (s ++ t) → IsCut short at n (goes_on (r (record { at = at; rest = take n (s ++ t) })) f)
cut_then {short = short} r f a s t at n first again second lt =
    elim (cases_lt n (length s)) [
      | inl less ↦
          subst (λ l. IsCut short at n (goes_on (r (record { at = at; rest = l })) f))
          (sym (take-append-le n s t (omega arith))) (cut_goes_on f (first less))
      | inr more ↦
          let k = n - length s in
          let text : take n (s ++ t) ≡ s ++ take k t =
          ap (λ m. take m (s ++ t)) (let m : n ≡ length s + k = omega arith in m)
          ∙ take-append-add s t k in
          let two = second k (omega (arith, length-append s t)) in
          record {
            inside = length s + two.inside;
            within = omega (arith, two.within);
            is = ap (λ l. goes_on (r (record { at = at; rest = l })) f) text
                ∙ ap (λ q. goes_on q f) (again (take k t)) ∙ two.is ∙ ap (λ m. Err (short m)) (omega arith);
          }
    ]

pub again_then : {S F A B : Type 0} (r : Reader (Ahead S) F A) (f : A → Reader (Ahead S) F B) (a : A) (b : B)
    (s t : List S) (at : ℕ) (rest : List S) → r (before at s (t ++ rest)) ≡ Ok (a, after at s (t ++ rest))
    → f a (before (at + length s) t rest) ≡ Ok (b, after (at + length s) t rest)
    → goes_on (r (before at (s ++ t) rest)) f ≡ Ok (b, after at (s ++ t) rest)
again_then r f a b s t at rest one two =
    let near : before at (s ++ t) rest ≡ before at s (t ++ rest) =
    ap (λ l. record { at = at; rest = l }) (append_assoc s t rest) in
    let there : after (at + length s) t rest ≡ after at (s ++ t) rest =
    ap (λ n. record { at = n; rest = rest }) (omega (arith, length-append s t)) in
    ap (λ i. goes_on (r i) f) near ∙ ap (λ q. goes_on q f) one ∙ two ∙ ap (λ j. Ok (b, j)) there

-- ---- ways to join readers

module _ {S F : Type 0} {Good : List S → Type 0} {short : ℕ → F} where
  -- a field, and then what is left of the value
  pub reads_then : {A B : Type 0} {K : B → Type 0} {PA : A → Type 0} {P : B → Type 0} {s : A → List S}
      {t : B → List S} (field : B → A) (r : Reader (Ahead S) F A) (f : A → Reader (Ahead S) F B)
      → Reads Good short All PA s r → ((a : A) → PA a → Reads Good short (λ c. K c × (field c ≡ a)) P t (f a))
      → Reads Good short K (λ c. PA (field c) × P c) (λ c. s (field c) ++ t c) (r >>= f)
  reads_then {PA = PA} {s = s} {t = t} field r f first second = record {
    takes = λ i c k good e.
        let x = goes_on_ok (r i) f (c, k) e in
        let a = first.takes i x.0.0 x.0.1 good x.1 in
        let b = (second x.0.0 a.1).takes x.0.1 c k a.2.good x.2 in
        let is : x.0.0 ≡ field c = sym b.0.1 in
        let took = took_then i x.0.1 k (s x.0.0) (t c) a.2 b.2 in
        (b.0.0, (subst PA is a.1, b.1), subst (λ v. Took Good i (s v ++ t c) k) is took);
    again = λ c at rest known fits.
        again_then r f (field c) c (s (field c)) (t c) at rest
        (first.again (field c) at (t c ++ rest) tt fits.0)
        ((second (field c) fits.0).again c (at + length (s (field c))) rest (known, refl) fits.1);
    cut = λ c at n known fits lt.
        cut_then r f (field c) (s (field c)) (t c) at n (λ less. first.cut (field c) at n tt fits.0 less)
        (λ rest. first.again (field c) at rest tt fits.0)
        (λ k less. (second (field c) fits.0).cut c (at + length (s (field c))) k (known, refl) fits.1 less)
        lt;
  }

  -- all of it is known
  pub reads_done : {A : Type 0} {K : A → Type 0} (x : A) → ((c : A) → K c → c ≡ x) → K x
      → Reads Good short K All (λ c. []) (done x)
  reads_done {K = K} x is known = record {
    takes = λ i c j good e.
        let both = ok_value x c i j e in
        (subst K both.0 known, tt, subst (λ k. Took Good i [] k) both.1 (took_nothing i good));
    again = λ c at rest k fits.
        ap (λ j. Ok (x, j)) (ap (λ n. record { at = n; rest = rest }) (omega arith))
        ∙ ap (λ y. Ok (y, after at [] rest)) (sym (is c k));
    cut = λ c at n k fits lt. absurd (omega arith);
  }

  -- the same in other words
  pub reads_as : {A : Type 0} {K P Q : A → Type 0} {t : A → List S} (r : Reader (Ahead S) F A)
      → Reads Good short K P t r → ((x : A) → K x → P x → Q x) → ((x : A) → K x → Q x → P x)
      → Reads Good short K Q t r
  reads_as r h there back = record {
    takes = λ i x j good e. let g = h.takes i x j good e in (g.0, there x g.0 g.1, g.2);
    again = λ x at rest k q. h.again x at rest k (back x k q);
    cut = λ x at n k q. h.cut x at n k (back x k q);
  }

  -- the same where nothing else is known
  pub reads_known : {A : Type 0} {K P : A → Type 0} {t : A → List S} {r : Reader (Ahead S) F A}
      → Reads Good short K P t r → Reads Good short (λ x. All x × K x) P t r
  reads_known h = record {
    takes = λ i x j good e. let g = h.takes i x j good e in ((tt, g.0), g.1, g.2);
    again = λ x at rest k p. h.again x at rest k.1 p;
    cut = λ x at n k p. h.cut x at n k.1 p;
  }

  -- what has to be known, as part of what is read
  pub reads_learned : {A : Type 0} {K P : A → Type 0} {t : A → List S} {r : Reader (Ahead S) F A}
      → Reads Good short (λ x. All x × K x) P t r → Reads Good short All (λ x. K x × P x) t r
  reads_learned h = record {
    takes = λ i x j good e. let g = h.takes i x j good e in (tt, (g.0.1, g.1), g.2);
    again = λ x at rest k p. h.again x at rest (tt, p.0) p.1;
    cut = λ x at n k p. h.cut x at n (tt, p.0) p.1;
  }

  -- the same with another name of the text
  pub reads_text : {A : Type 0} {K P : A → Type 0} {t u : A → List S} (r : Reader (Ahead S) F A)
      → ((x : A) → K x → t x ≡ u x) → Reads Good short K P t r → Reads Good short K P u r
  reads_text r same h = record {
    takes = λ i x j good e.
        let g = h.takes i x j good e in
        (g.0, g.1, subst (λ l. Took Good i l j) (same x g.0) g.2);
    again = λ x at rest k p.
        subst (λ l. r (before at l rest) ≡ Ok (x, after at l rest)) (same x k) (h.again x at rest k p);
    cut = λ x at n k p.
        subst (λ l. n < length l → IsCut short at n (r (record { at = at; rest = take n l }))) (same x k)
        (h.cut x at n k p);
  }

  -- the last field
  pub reads_last : {A B : Type 0} {K : B → Type 0} {PA : A → Type 0} {s : A → List S} (field : B → A)
      (r : Reader (Ahead S) F A) (made : A → B) → Reads Good short All PA s r
      → ((c : B) → K c → made (field c) ≡ c) → ((a : A) → PA a → K (made a) × (field (made a) ≡ a))
      → Reads Good short K (λ c. PA (field c)) (λ c. s (field c)) (r >>= λ a. done (made a))
  reads_last {s = s} field r made first is known =
      reads_as (r >>= λ a. done (made a))
      (reads_text (r >>= λ a. done (made a)) (λ c k. append-nil (s (field c)))
      (reads_then field r (λ a. done (made a)) first
      (λ a p. reads_done (made a) (λ c k. sym (is c k.0) ∙ ap made k.1) (known a p))))
      (λ c k p. p.0) (λ c k p. (p, tt))

  -- a reader that is told its place
  pub reads_placed : {A : Type 0} {K P : A → Type 0} {t : A → List S} (r : ℕ → Reader (Ahead S) F A)
      → ((at : ℕ) → Reads Good short K P t (r at)) → Reads Good short K P t (here >>= r)
  reads_placed r h = record {
    takes = λ i x j good e. (h i.at).takes i x j good e;
    again = λ x at rest k p. (h at).again x at rest k p;
    cut = λ x at n k p. (h at).cut x at n k p;
  }

  -- a value that is one case of another type
  pub reads_case : {A B : Type 0} {J P : A → Type 0} {K Q : B → Type 0} {s : A → List S} {t : B → List S}
      (r : Reader (Ahead S) F A) (made : A → B) → Reads Good short J P s r
      → ((a : A) → J a → P a → K (made a) × Q (made a) × (t (made a) ≡ s a))
      → ((b : B) → K b → Q b → (a : A) × (made a ≡ b) × J a × P a)
      → Reads Good short K Q t (r >>= λ a. done (made a))
  reads_case {K = K} {Q = Q} {s = s} {t = t} r made h there back = record {
    takes = λ i b j good e.
        let x = goes_on_ok (r i) (λ a. done (made a)) (b, j) e in
        let g = h.takes i x.0.0 x.0.1 good x.1 in
        let v = ok_value (made x.0.0) b x.0.1 j x.2 in
        let q = there x.0.0 g.0 g.1 in
        let took : Took Good i (t (made x.0.0)) x.0.1 = subst (λ l. Took Good i l x.0.1) (sym q.2) g.2 in
        subst (λ c. K c × Q c × Took Good i (t c) j) v.0
        (q.0, q.1, subst (λ k. Took Good i (t (made x.0.0)) k) v.1 took);
    again = λ b at rest k q.
        let a = back b k q in
        let g = there a.0 a.2 a.3 in
        let R = r >>= λ a. done (made a) in
        let read : R (before at (s a.0) rest) ≡ Ok (made a.0, after at (s a.0) rest) =
        ap (λ o. goes_on o (λ a. done (made a))) (h.again a.0 at rest a.2 a.3) in
        subst (λ c. R (before at (t c) rest) ≡ Ok (c, after at (t c) rest)) a.1
        (subst (λ l. R (before at l rest) ≡ Ok (made a.0, after at l rest)) (sym g.2) read);
    cut = λ b at n k q.
        let a = back b k q in
        let g = there a.0 a.2 a.3 in
        let R = r >>= λ a. done (made a) in
        let one : n < length (s a.0) → IsCut short at n (R (record { at = at; rest = take n (s a.0) })) =
        λ lt. cut_goes_on (λ a. done (made a)) (h.cut a.0 at n a.2 a.3 lt) in
        subst (λ c. n < length (t c) → IsCut short at n (R (record { at = at; rest = take n (t c) }))) a.1
        (subst (λ l. n < length l → IsCut short at n (R (record { at = at; rest = take n l })))
        (sym g.2) one);
  }

  -- a choice by a test
  pub reads_if : {A : Type 0} {K P : A → Type 0} {t : A → List S} (b : Bool) (r s : Reader (Ahead S) F A)
      → (b ≡ true → Reads Good short K P t r) → (b ≡ false → Reads Good short K P t s)
      → Reads Good short K P t (cond b r s)
  reads_if true r s h g = h refl
  reads_if false r s h g = g refl

  -- what nothing spells
  pub reads_none : {A : Type 0} {K P : A → Type 0} {t : A → List S} (fault : F) → ((x : A) → K x → ⊥)
      → Reads Good short K P t (λ i. Err fault)
  reads_none fault never = record {
    takes = λ i x j good e. absurd cc;
    again = λ x at rest k p. absurd (never x k);
    cut = λ x at n k p lt. absurd (never x k);
  }

  -- ---- with nothing read

  -- a test of what is read
  pub reads_holds : {B : Type 0} {K P : B → Type 0} {t : B → List S} (b : Bool) (fault : F) (test : B → Bool)
      (f : Unit {0} → Reader (Ahead S) F B) → ((c : B) → K c → test c ≡ b) → Reads Good short K P t (f tt)
      → Reads Good short K (λ c. IsTrue (test c) × P c) t (holds b fault >>= f)
  reads_holds b fault test f is h = record {
    takes = λ i c j good e.
        let x = holds_ok b fault f i (c, j) e in
        let g = h.takes i c j good x.1 in
        (g.0, (is c g.0 ∙ x.0, g.1), g.2);
    again = λ c at rest k p. let passed : b ≡ true = sym (is c k) ∙ p.0 in
        rw passed (h.again c at rest k p.1);
    cut = λ c at n k p lt. let passed : b ≡ true = sym (is c k) ∙ p.0 in rw passed (h.cut c at n k p.1 lt);
  }

  -- a test that tells what is read
  pub reads_tells : {B : Type 0} {K P : B → Type 0} {E : Type 0} {t : B → List S} (b : Bool) (fault : F)
      (f : Unit {0} → Reader (Ahead S) F B) → (b ≡ true → E) → (E → b ≡ true) → Reads Good short K P t (f tt)
      → Reads Good short (λ c. K c × E) P t (holds b fault >>= f)
  reads_tells b fault f tells told h = record {
    takes = λ i c j good e.
        let x = holds_ok b fault f i (c, j) e in
        let g = h.takes i c j good x.1 in
        ((g.0, tells x.0), g.1, g.2);
    again = λ c at rest k p. let passed : b ≡ true = told k.1 in rw passed (h.again c at rest k.0 p);
    cut = λ c at n k p lt. let passed : b ≡ true = told k.1 in rw passed (h.cut c at n k.0 p lt);
  }

  -- what was read, as what it means
  pub reads_meaning : {A B : Type 0} {K : B → Type 0} (meaning : A → Option B) (stands : B → A) (fault : F)
      (a : A)
      → ((a : A) (b : B) → meaning a ≡ Some b → stands b ≡ a) → ((b : B) → meaning (stands b) ≡ Some b)
      → ((b : B) → stands b ≡ a → K b) → ((b : B) → K b → stands b ≡ a)
      → Reads Good short K All (λ b. []) (unless_none fault (meaning a))
  reads_meaning meaning stands fault a there back known_of of_known = record {
    takes = λ i b j good e.
        let v = some_ok fault (meaning a) i b j e in
        (known_of b (there a b v.0), tt, subst (λ k. Took Good i [] k) v.1 (took_nothing i good));
    again = λ b at rest k fits.
        let is : meaning a ≡ Some b = ap meaning (sym (of_known b k)) ∙ back b in
        ap (λ o. unless_none fault o (before at [] rest)) is
        ∙ ap (λ n. Ok (b, record { at = n; rest = rest })) (let e : at ≡ at + 0 = omega arith in e);
    cut = λ b at n k fits lt. absurd (omega arith);
  }

-- ---- faults of another layer

pub reads_telling : {S E F A : Type 0} {Good : List S → Type 0} {early : ℕ → E} {short : ℕ → F} {K P : A
    → Type 0}
    {t : A → List S} (told : E → F) (r : Reader (Ahead S) E A) → ((n : ℕ) → told (early n) ≡ short n)
    → Reads Good early K P t r → Reads Good short K P t (telling told r)
unfolding telling
reads_telling told r same h = record {
  takes = λ i x j good e. h.takes i x j good (told_ok told (r i) (x, j) e);
  again = λ x at rest k p. ap (told_by told) (h.again x at rest k p);
  cut = λ x at n k p lt.
      let c = h.cut x at n k p lt in
      record {
        inside = c.inside;
        within = c.within;
        is = ap (told_by told) c.is ∙ ap Err (same (at + c.inside));
      };
}

-- ---- spellings

module _ {S F A : Type 0} {Good : List S → Type 0} {short : ℕ → F} {P : A → Type 0} {t : A → List S}
    {r : Reader (Ahead S) F A} (h : Reads Good short All P t r) where
  -- a text is of one value, and none begins another
  pub one_spelling : (x y : A) (u v : List S) → P x → P y → t x ++ u ≡ t y ++ v → (x ≡ y) × (u ≡ v)
  one_spelling x y u v p q e =
      let first = h.again x 0 u tt p in
      let second = h.again y 0 v tt q in
      let there = ap (λ l. r (record { at = 0; rest = l })) e in
      let both = ok_value x y (after 0 (t x) u) (after 0 (t y) v) (sym first ∙ there ∙ second) in
      (both.0, ap (λ (i : Ahead S). i.rest) both.1)

  -- the same of texts that spell values
  pub one_text : (x y : A) (a b u v : List S) → P x × (a ≡ t x) → P y × (b ≡ t y) → a ++ u ≡ b ++ v
      → (x ≡ y) × (a ≡ b) × (u ≡ v)
  one_text x y a b u v p q e =
      let same : t x ++ u ≡ t y ++ v = ap (λ l. l ++ u) (sym p.1) ∙ e ∙ ap (λ l. l ++ v) q.1 in
      let is = one_spelling x y u v p.0 q.0 same in
      (is.0, p.1 ∙ ap t is.0 ∙ sym q.1, is.1)
