-- Which module is which trusted part, and how the modules' names lead to it.
use Rattle.std.proofs.Common.{◌≡◌, ◌≢◌, inl, inr, ℕ, zero, suc, ◌+◌, ◌<◌, Bool, true, false, List, [], ◌∷◌}
use Rattle.std.proofs.Common.{length, map, filter, cond, not, Option, Some, None, refl, sym, ap, ◌∙◌, subst}
use Rattle.std.proofs.Common.{arith, lt-ltb}
use Rattle.std.specs.Prelude.{slice_get, position, take, option_map, nat_lt}
use Rattle.std.proofs.lemmas.Bool.Decides.{nat_tests}
use Rattle.std.specs.List.{position_or_len}
use Rattle.std.specs.Str.{bytes_eq}
use Rattle.std.proofs.lemmas.Slice.Eq.{bytes_eq-Decides}
use Rattle.std.proofs.lemmas.Bool.{cases_lt}
use Rattle.std.proofs.lemmas.Option.{slice_get_within, slice_get-map}
use Rattle.linked_starts.specs.Parts.{PartSeen}
use Rattle.linked_starts.specs.Pairs.{NoneIsBroken, at_each, passes, never}
use Rattle.linked_starts.specs.Links.{rules_l, l3}
use Rattle.linked_starts.specs.Start.{same_name}
use Rattle.linked_starts.specs.Standing.{placed, placed_from, placed_part, past, settled, move_of}
use Rattle.linked_starts.proofs.Offers.{in_part, slice_get-take, taken}
use Rattle.proc_language.specs.declared.module.ModuleFields.{ModuleFields}
use Rattle.proc_program.specs.declared.program.Program.{Program}
use Rattle.proc_program.specs.Lower.{part_of}
use Rattle.proc_templates.specs.Compiled.{compiled}
use Rattle.proc_semantics.specs.Values as meaning
use Rattle.source_starts.specs.Sources.{trusted_parts}
use Rattle.source_starts.proofs.Alike.{IsPlaced, placed_at}

-- ---- names

pub names_same : (a : List ℕ) → bytes_eq a a ≡ true
names_same a = (bytes_eq-Decides a a).1 refl

pub same_names : (a b : List ℕ) → bytes_eq a b ≡ true → a ≡ b
same_names a b = (bytes_eq-Decides a b).0

pub differ_back : (a b : List ℕ) → bytes_eq a b ≡ false → bytes_eq b a ≡ false
differ_back a b e = by (bytes_eq b a) refl
  where
    by : (t : Bool) → bytes_eq b a ≡ t → t ≡ false
    by false h = refl
    by true h =
        let s = same_names b a h in
        let k : bytes_eq a b ≡ true = (bytes_eq-Decides a b).1 (sym s) in
        let bad : true ≡ false = sym k ∙ e in cc

-- ---- positions

-- the first that passes
pub position_at : {A : Type 0} (test : A → Bool) (xs : List A) (i : ℕ) (x : A) → slice_get xs i ≡ Some x
    → test x ≡ true → ((k : ℕ) (y : A) → k < i → slice_get xs k ≡ Some y → test y ≡ false)
    → position test xs ≡ Some i
position_at test xs i x at t before =
    let e = places xs i at before in
    let lt = slice_get_within xs i x at in
    let l = lt-ltb i (length xs) lt in
    rw (e, l) refl
  where
    places : (xs : List _) (i : ℕ) → slice_get xs i ≡ Some x
        → ((k : ℕ) (y : _) → k < i → slice_get xs k ≡ Some y → test y ≡ false) → position_or_len test xs ≡ i
    places [] i at before = absurd (let z : None ≡ Some x = at in cc)
    places (y ∷ ys) zero at before =
        let s : y ≡ x = cc in
        ap (λ b. cond (not b) (1 + position_or_len test ys) 0) (ap test s ∙ t)
    places (y ∷ ys) (suc i) at before =
        let f = before 0 y (omega arith) refl in
        let r = places ys i at (λ k z lt g. before (suc k) z (omega (arith, lt)) g) in
        ap (λ b. cond (not b) (1 + position_or_len test ys) 0) f ∙ omega (arith, r)

-- none passes
pub position_none : {A : Type 0} (test : A → Bool) (xs : List A)
    → ((k : ℕ) (y : A) → slice_get xs k ≡ Some y → test y ≡ false) → position test xs ≡ None
position_none test xs none =
    let e = places xs none in
    let l : (nat_lt (length xs) (length xs)) ≡ false = not_below (length xs) in
    rw (e, l) refl
  where
    places : (xs : List _) → ((k : ℕ) (y : _) → slice_get xs k ≡ Some y → test y ≡ false)
        → position_or_len test xs ≡ length xs
    places [] none = refl
    places (y ∷ ys) none =
        let r = places ys (λ k z g. none (suc k) z g) in
        ap (λ b. cond (not b) (1 + position_or_len test ys) 0) (none 0 y refl) ∙ omega (arith, r)

    not_below : (n : ℕ) → nat_lt n n ≡ false
    not_below n = grind (arith, nat_tests)

-- ---- trusted parts among all parts

filter_at : {A : Type 0} (test : A → Bool) (xs : List A) (j : ℕ) (x : A)
    → slice_get (filter test xs) j ≡ Some x
    → (n : ℕ) × (slice_get xs n ≡ Some x) × (test x ≡ true)
filter_at test [] j x e = absurd (let z : None ≡ Some x = e in cc)
filter_at test (y ∷ ys) j x e = by (test y) refl j e (λ i f. filter_at test ys i x f)
  where
    by : (b : Bool) → test y ≡ b → (j : ℕ)
        → slice_get (cond b (y ∷ filter test ys) (filter test ys)) j ≡ Some x
        → ((i : ℕ) → slice_get (filter test ys) i ≡ Some x
        → (n : ℕ) × (slice_get ys n ≡ Some x) × (test x ≡ true))
        → (n : ℕ) × (slice_get (y ∷ ys) n ≡ Some x) × (test x ≡ true)
    by true t zero e more = (0, e, (let s : y ≡ x = cc in subst (λ z. test z ≡ true) s t))
    by true t (suc j) e more = let r = more j e in (suc r.0, r.1, r.2)
    by false t j e more = let r = more j e in (suc r.0, r.1, r.2)

filter_has : {A : Type 0} (test : A → Bool) (xs : List A) (n : ℕ) (x : A) → slice_get xs n ≡ Some x
    → test x ≡ true → (j : ℕ) × (slice_get (filter test xs) j ≡ Some x)
filter_has test [] n x e t = absurd (let z : None ≡ Some x = e in cc)
filter_has test (y ∷ ys) zero x e t =
    let s : y ≡ x = cc in
    (0, ap (λ b. slice_get (cond b (y ∷ filter test ys) (filter test ys)) 0) (ap test s ∙ t) ∙ ap Some s)
filter_has test (y ∷ ys) (suc n) x e t = by (test y) (filter_has test ys n x e t)
  where
    by : (b : Bool) → (j : ℕ) × (slice_get (filter test ys) j ≡ Some x)
        → (j : ℕ) × (slice_get (cond b (y ∷ filter test ys) (filter test ys)) j ≡ Some x)
    by true r = (suc r.0, r.1)
    by false r = r

-- a name for each part, and no name twice
abbrev pub NamesApart : List PartSeen → Type 0
NamesApart parts =
    (k n : ℕ) (p q : PartSeen) → k < n → slice_get parts k ≡ Some p → slice_get parts n ≡ Some q
    → same_name q.component.name p.component.name ≡ false

pub names_apart : (parts : List PartSeen) (size : ℕ) → NoneIsBroken (rules_l parts size) → NamesApart parts
unfolding l3
names_apart parts size h k n p q lt at_p at_q =
    let wn = slice_get_within parts n q at_q in
    let got = slice_get-take parts n k lt ∙ at_p in
    let len = taken n parts (omega (arith, wn)) in
    sym (ap (passes (λ x. same_name q.component.name x.component.name)) got)
    ∙ in_part parts (λ i r. at_each (take i parts) (λ x. same_name r.component.name x.component.name)) never n
    q k at_q
    (λ b. h 3 n k (l3 parts) refl (wn, b)) (omega (arith, lt, len))

trusted_apart : (parts : List PartSeen) → NamesApart parts → (i j : ℕ) (p q : PartSeen) → i < j
    → slice_get (trusted_parts parts) i ≡ Some p → slice_get (trusted_parts parts) j ≡ Some q
    → same_name q.component.name p.component.name ≡ false
trusted_apart [] apart i j p q lt at_p at_q = absurd (let z : None ≡ Some p = at_p in cc)
trusted_apart (x ∷ parts) apart i j p q lt at_p at_q =
    by x.trusted i j lt at_p at_q (λ k n l a b. trusted_apart parts tail k n p q l a b)
  where
    tail : NamesApart parts
    tail k n p q lt a b = apart (suc k) (suc n) p q (omega (arith, lt)) a b

    by : (b : Bool) → (i j : ℕ) → i < j
        → slice_get (cond b (x ∷ trusted_parts parts) (trusted_parts parts)) i ≡ Some p
        → slice_get (cond b (x ∷ trusted_parts parts) (trusted_parts parts)) j ≡ Some q
        → ((k n : ℕ) → k < n → slice_get (trusted_parts parts) k ≡ Some p
        → slice_get (trusted_parts parts) n ≡ Some q → same_name q.component.name p.component.name ≡ false)
        → same_name q.component.name p.component.name ≡ false
    by true zero zero lt a b more = absurd (omega (arith, lt))
    by true zero (suc j) lt a b more =
        let r = filter_at (λ (y : PartSeen). y.trusted) parts j q b in
        apart 0 (suc r.0) p q (omega arith) a r.1
    by true (suc i) zero lt a b more = absurd (omega (arith, lt))
    by true (suc i) (suc j) lt a b more = more i j (omega (arith, lt)) a b
    by false i j lt a b more = more i j lt a b

-- ---- the modules beside the trusted parts

abbrev pub Aligned : List ModuleFields → List PartSeen → Type 0
Aligned [] [] = Unit {0}
Aligned [] (p ∷ ps) = ⊥
Aligned (m ∷ ms) [] = ⊥
Aligned (m ∷ ms) (p ∷ ps) = IsPlaced (part_of m) p.component × Aligned ms ps

-- the parts where they stand
settled_ones : (parts : List PartSeen) (modules : List ModuleFields) (f : _)
    → map (λ (p : PartSeen). p.component) (trusted_parts parts) ≡ map compiled modules
    → Aligned modules (trusted_parts (placed_from f parts))
settled_ones [] [] f e = tt
settled_ones [] (m ∷ ms) f e = cc
settled_ones (p ∷ ps) modules f e = by p.trusted modules e (λ ms g. settled_ones ps ms (past f p) g)
  where
    first : (m : ModuleFields) → p.component ≡ compiled m → IsPlaced (part_of m) (settled f p.component)
    first m e = subst (λ c. IsPlaced (part_of m) (settled f c)) (sym e)
        (placed_at (move_of f (compiled m)) (part_of m))

    by : (b : Bool) (modules : List ModuleFields)
        → map (λ (p : PartSeen). p.component) (cond b (p ∷ trusted_parts ps) (trusted_parts ps)) ≡ map
        compiled modules
        → ((ms : List ModuleFields) → map (λ (x : PartSeen). x.component) (trusted_parts ps) ≡ map compiled ms
        → Aligned ms (trusted_parts (placed_from (past f p) ps)))
        → Aligned modules (cond b (placed_part f p ∷ trusted_parts (placed_from (past f p) ps))
        (trusted_parts (placed_from (past f p) ps)))
    by true [] e more = cc
    by true (m ∷ ms) e more =
        let x : p.component ≡ compiled m = cc in
        let y : map (λ (p : PartSeen). p.component) (trusted_parts ps) ≡ map compiled ms = cc in
        (first m x, more ms y)
    by false ms e more = more ms e

pub aligned : (parts : List PartSeen) (size : ℕ) (modules : List ModuleFields)
    → map (λ (p : PartSeen). p.component) (trusted_parts parts) ≡ map compiled modules
    → Aligned modules (trusted_parts (placed parts size))
aligned parts size modules e = settled_ones parts modules _ e

-- ---- homes

-- a module of an index is a trusted part of a number
pub record Home (modules : List ModuleFields) (parts : List PartSeen) (i : ℕ) (p : PartSeen) : Type 0 where
  pub source : ModuleFields
  pub source_is : slice_get modules i ≡ Some source
  pub place : slice_get (trusted_parts parts) i ≡ Some p
  pub number : ℕ
  pub number_is : slice_get parts number ≡ Some p
  pub trusted : p.trusted ≡ true
  pub placed : IsPlaced (part_of source) p.component

module _ (modules : List ModuleFields) (parts : List PartSeen) (is : Aligned modules (trusted_parts parts))
  where
    at_place : (ms : List ModuleFields) (ps : List PartSeen) → Aligned ms ps → (i : ℕ) (p : PartSeen)
        → slice_get ps i ≡ Some p → (m : ModuleFields) × (slice_get ms i ≡ Some m)
        × IsPlaced (part_of m) p.component
    at_place [] [] a i p e = absurd (let z : None ≡ Some p = e in cc)
    at_place [] (x ∷ ps) a i p e = absurd a
    at_place (m ∷ ms) [] a i p e = absurd a
    at_place (m ∷ ms) (x ∷ ps) a zero p e =
        let s : x ≡ p = cc in (m, refl, subst (λ (y : PartSeen). IsPlaced (part_of m) y.component) s a.0)
    at_place (m ∷ ms) (x ∷ ps) a (suc i) p e = at_place ms ps a.1 i p e

    at_module : (ms : List ModuleFields) (ps : List PartSeen) → Aligned ms ps → (i : ℕ) (m : ModuleFields)
        → slice_get ms i ≡ Some m → (p : PartSeen) × (slice_get ps i ≡ Some p)
    at_module [] ps a i m e = absurd (let z : None ≡ Some m = e in cc)
    at_module (x ∷ ms) [] a i m e = absurd a
    at_module (x ∷ ms) (p ∷ ps) a zero m e = (p, refl)
    at_module (x ∷ ms) (p ∷ ps) a (suc i) m e = at_module ms ps a.1 i m e

    home_at : (i : ℕ) (p : PartSeen) → slice_get (trusted_parts parts) i ≡ Some p → Home modules parts i p
    home_at i p e =
        let m = at_place modules (trusted_parts parts) is i p e in
        let n = filter_at (λ (x : PartSeen). x.trusted) parts i p e in
        record {
          source = m.0;
          source_is = m.1;
          place = e;
          number = n.0;
          number_is = n.1;
          trusted = n.2;
          placed = m.2;
        }

    -- the home of a trusted part, and the part of a module
    pub home_of : (n : ℕ) (p : PartSeen) → slice_get parts n ≡ Some p → p.trusted ≡ true
        → (i : ℕ) × Home modules parts i p
    home_of n p at trusted =
        let i = filter_has (λ (x : PartSeen). x.trusted) parts n p at trusted in (i.0, home_at i.0 p i.1)

    pub part_of_home : (i : ℕ) (m : ModuleFields) → slice_get modules i ≡ Some m
        → (p : PartSeen) × Home modules parts i p
    part_of_home i m e = let p = at_module modules (trusted_parts parts) is i m e in (p.0, home_at i p.0 p.1)

    module _ (apart : NamesApart parts) where
      -- a module's name leads to it
      pub found_home : (i : ℕ) (p : PartSeen) (h : Home modules parts i p) (name : List ℕ)
          → name ≡ p.component.name → position (meaning.is_named name) (map part_of modules) ≡ Some i
      found_home i p h name e =
          position_at (meaning.is_named name) (map part_of modules) i (part_of h.source)
          (slice_get-map part_of modules i ∙ ap (option_map part_of) h.source_is)
          (ap (λ a. bytes_eq a (part_of h.source).name) e
          ∙ ap (bytes_eq p.component.name) (sym h.placed.name) ∙ names_same p.component.name)
          before
        where
          before : (k : ℕ) (u : Program) → k < i → slice_get (map part_of modules) k ≡ Some u
              → meaning.is_named name u ≡ false
          before k u lt at = by (slice_get modules k) refl (sym (slice_get-map part_of modules k) ∙ at)
            where
              by : (o : Option ModuleFields) → slice_get modules k ≡ o
                  → option_map part_of o ≡ Some u → meaning.is_named name u ≡ false
              by None e' g = cc
              by (Some m) e' g =
                  let s : part_of m ≡ u = cc in
                  let q = part_of_home k m e' in
                  let same : q.1.source ≡ m =
                  (let z : Some q.1.source ≡ Some m = sym q.1.source_is ∙ e' in cc) in
                  let nm : q.0.component.name ≡ u.name = q.1.placed.name
                  ∙ ap (λ (x : ModuleFields). (part_of x).name) same ∙ ap (λ (x : Program). x.name) s in
                  let d = trusted_apart parts apart k i q.0 p lt q.1.place h.place in
                  ap (λ a. bytes_eq a u.name) e ∙ ap (bytes_eq p.component.name) (sym nm) ∙ d

      -- and no name of an untrusted part leads to one
      pub found_none : (n : ℕ) (p : PartSeen) (name : List ℕ) → slice_get parts n ≡ Some p → p.trusted ≡ false
          → name ≡ p.component.name → position (meaning.is_named name) (map part_of modules) ≡ None
      found_none n p name at untrusted e = position_none (meaning.is_named name) (map part_of modules)
          (λ k u here.
          by k u (slice_get modules k) refl (sym (slice_get-map part_of modules k) ∙ here))
        where
          apart_both : (k j : ℕ) (x y : PartSeen) → k ≢ j → slice_get parts k ≡ Some x
              → slice_get parts j ≡ Some y
              → bytes_eq x.component.name y.component.name ≡ false
          apart_both k j x y ne a b =
              elim (cases_lt k j) as (λ _. bytes_eq x.component.name y.component.name ≡ false) [
                | inl lt ↦ differ_back y.component.name x.component.name (apart k j x y lt a b)
                | inr ge ↦ apart j k y x (omega (arith, ge, ne)) b a
              ]

          by : (k : ℕ) (u : Program) (o : Option ModuleFields) → slice_get modules k ≡ o
              → option_map part_of o ≡ Some u → meaning.is_named name u ≡ false
          by k u None e' g = cc
          by k u (Some m) e' g =
              let s : part_of m ≡ u = cc in
              let q = part_of_home k m e' in
              let same : q.1.source ≡ m = (let z : Some q.1.source ≡ Some m = sym q.1.source_is ∙ e' in cc) in
              let nm : q.0.component.name ≡ u.name = q.1.placed.name
              ∙ ap (λ (x : ModuleFields). (part_of x).name) same ∙ ap (λ (x : Program). x.name) s in
              let ne : n ≢ q.1.number = λ z. (
              let w : Some p ≡ Some q.0 = sym at ∙ ap (slice_get parts) z ∙ q.1.number_is in
              let v : p ≡ q.0 = cc in
              let bad : false ≡ true = sym untrusted ∙ ap (λ (x : PartSeen). x.trusted) v ∙ q.1.trusted in
              cc) in
              ap (λ a. bytes_eq a u.name) e ∙ ap (bytes_eq p.component.name) (sym nm)
              ∙ apart_both n q.1.number p q.0 ne at q.1.number_is

-- a part is one module's
pub one_home : (modules : List ModuleFields) (parts : List PartSeen) → NamesApart parts
    → (i j : ℕ) (p : PartSeen)
    → Home modules parts i p → Home modules parts j p → i ≡ j
one_home modules parts apart i j p h k = elim (cases_lt i j) as (λ _. i ≡ j) [
  | inl lt ↦ absurd (
      let d = trusted_apart parts apart i j p p lt h.place k.place in
      let bad : true ≡ false = sym (names_same p.component.name) ∙ d in cc)
  | inr ge ↦ elim (cases_lt j i) as (λ _. i ≡ j) [
    | inl lt ↦ absurd (
        let d = trusted_apart parts apart j i p p lt k.place h.place in
        let bad : true ≡ false = sym (names_same p.component.name) ∙ d in cc)
    | inr le ↦ omega (arith, ge, le)
  ]
]

pub one_place : (modules : List ModuleFields) (parts : List PartSeen) (i : ℕ) (p q : PartSeen)
    → Home modules parts i p → Home modules parts i q → p ≡ q
one_place modules parts i p q h k = let s : Some p ≡ Some q = sym h.place ∙ k.place in cc
