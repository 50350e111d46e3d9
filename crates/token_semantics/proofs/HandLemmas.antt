-- Hands, and the sets of full tokens that they are.
use Rattle.std.proofs.Common.{◌≡◌, refl, sym, ◌∙◌, ap, ℕ, zero, suc, ◌+◌, ◌<◌, ◌≤◌, nat_lt, arith, Bool, true}
use Rattle.std.proofs.Common.{false, ◌&&◌, not, if◌then◌else◌, List, [], ◌∷◌, ◌++◌, append_assoc, length, map}
use Rattle.std.proofs.Common.{replicate, Option, Some, None, slice_set, slice_index_or}
use Rattle.std.proofs.lemmas.Bool.Decides.{nat_tests}
use Rattle.std.specs.Prelude.{is_some}
use Rattle.std.specs.List.{list_all}
use Rattle.proc_language.specs.declared.tree.Name.{Name}
use Rattle.proc_names.specs.Names.{same}
use Rattle.token_language.specs.declared.module.TokenParam.{TokenParam}
use Rattle.token_language.specs.declared.module.TokenParam.TheVariants as param
use Rattle.token_language.specs.Tokens.{param_tokens}
use Rattle.token_check.specs.Tokens.{Full, is_full, is_clear, place_among, token_at, params_full}
use Rattle.token_semantics.specs.Hands.{handed, one, count}

abbrev pub Holds : Type 0
Holds = List (Option ℕ)

abbrev pub full_of : Holds → Full
full_of holds = map is_some holds

-- how often a number is held
abbrev pub held : ℕ → Holds → ℕ
held n [] = 0
held n (None ∷ holds) = held n holds
held n (Some m ∷ holds) = one n m + held n holds

abbrev at : Holds → ℕ → Option ℕ
at holds i = slice_index_or holds i None

-- a set has places after those of the tokens
pub look : (holds : Holds) (rest : Full) (i : ℕ) → i < length holds
    → is_full (full_of holds ++ rest) i ≡ is_some (at holds i)
look [] rest i h = absurd (omega (arith, h))
look (x ∷ holds) rest zero h = refl
look (x ∷ holds) rest (suc i) h = look holds rest i (omega (arith, h))

pub put_full : (holds : Holds) (rest : Full) (i : ℕ) (x : Option ℕ) → i < length holds
    → slice_set (full_of holds ++ rest) i (is_some x) ≡ full_of (slice_set holds i x) ++ rest
put_full [] rest i x h = absurd (omega (arith, h))
put_full (y ∷ holds) rest zero x h = refl
put_full (y ∷ holds) rest (suc i) x h =
    ap (λ full. is_some y ∷ full) (put_full holds rest i x (omega (arith, h)))

pub put_length : (holds : Holds) (i : ℕ) (x : Option ℕ) → length (slice_set holds i x) ≡ length holds
put_length [] i x = refl
put_length (h ∷ holds) zero x = refl
put_length (h ∷ holds) (suc i) x = ap suc (put_length holds i x)

-- ---- how often a number is among some, and in hands

pub count_append : (n : ℕ) (xs ys : List ℕ) → count n (xs ++ ys) ≡ count n xs + count n ys
count_append n [] ys = omega arith
count_append n (m ∷ xs) ys = let e = count_append n xs ys in omega (arith, e)

pub made_held : (n m : ℕ) (holds : Holds) (i : ℕ) → i < length holds → at holds i ≡ None
    → held n (slice_set holds i (Some m)) ≡ held n holds + one n m
made_held n m [] i below h = absurd (omega (arith, below))
made_held n m (None ∷ holds) zero below h = omega arith
made_held n m (Some k ∷ holds) zero below h = absurd (let e : Some k ≡ None = h in cc)
made_held n m (None ∷ holds) (suc i) below h = made_held n m holds i (omega (arith, below)) h
made_held n m (Some k ∷ holds) (suc i) below h =
    let e = made_held n m holds i (omega (arith, below)) h in omega (arith, e)

pub taken_held : (n m : ℕ) (holds : Holds) (i : ℕ) → at holds i ≡ Some m
    → held n (slice_set holds i None) + one n m ≡ held n holds
taken_held n m [] i h = absurd (let e : None ≡ Some m = h in cc)
taken_held n m (None ∷ holds) zero h = absurd (let e : None ≡ Some m = h in cc)
taken_held n m (Some k ∷ holds) zero h =
    let e : Some k ≡ Some m = h in let same : k ≡ m = cc in let f = ap (one n) same in omega (arith, f)
taken_held n m (None ∷ holds) (suc i) h = taken_held n m holds i h
taken_held n m (Some k ∷ holds) (suc i) h = let e = taken_held n m holds i h in omega (arith, e)

both : (a b : Bool) → (a && b) ≡ true → (a ≡ true) × (b ≡ true)
both true b h = (refl, h)
both false b h = absurd (let k : false ≡ true = h in cc)

pub none_held : (n : ℕ) (holds : Holds) (rest : Full) → is_clear (full_of holds ++ rest) ≡ true
    → held n holds ≡ 0
none_held n [] rest h = refl
none_held n (None ∷ holds) rest h = none_held n holds rest
    (both true (list_all not (full_of holds ++ rest)) h).1
none_held n (Some m ∷ holds) rest h =
    absurd (let k : false ≡ true = (both false (list_all not (full_of holds ++ rest)) h).0 in cc)

-- ---- a token of a procedure has one of its places

place_below : (ts : List Name) (x : Name) (n i : ℕ) → place_among ts x n ≡ Some i → i < n + length ts
place_below [] x n i h = absurd (let e : None ≡ Some i = h in cc)
place_below (y ∷ ts) x n i h = by (same y x) (place_below ts x (n + 1) i) h
  where
    by : (b : Bool) → (place_among ts x (n + 1) ≡ Some i → i < n + 1 + length ts)
        → (if b then Some n else place_among ts x (n + 1)) ≡ Some i → i < n + suc (length ts)
    by true rest e = let k : n ≡ i = cc in omega (arith, k)
    by false rest e = let k = rest e in omega (arith, k)

pub token_below : (ts : List Name) (x : Name) (i : ℕ) → token_at ts x ≡ Some i → i < length ts
token_below ts x i h = let k = place_below ts x 0 i h in omega (arith, k)

-- ---- how a procedure begins

empty_full : (r : ℕ) → full_of (replicate r None) ≡ replicate r false
empty_full zero = refl
empty_full (suc r) = ap (λ full. false ∷ full) (empty_full r)

empty_held : (n r : ℕ) → held n (replicate r None) ≡ 0
empty_held n zero = refl
empty_held n (suc r) = empty_held n r

pub handed_length : (ns : List ℕ) (holds : Holds) → length (handed ns holds) ≡ length holds
handed_length [] holds = refl
handed_length (n ∷ ns) [] = refl
handed_length (n ∷ ns) (h ∷ holds) = ap suc (handed_length ns holds)

pub empty_length : (r : ℕ) → length {A = Option ℕ} (replicate r None) ≡ r
empty_length zero = refl
empty_length (suc r) = ap suc (empty_length r)

pub handed_held : (n : ℕ) (ns : List ℕ) (r : ℕ) → length ns ≤ r
    → held n (handed ns (replicate r None)) ≡ count n ns
handed_held n [] r h = empty_held n r
handed_held n (m ∷ ns) zero h = absurd (omega (arith, h))
handed_held n (m ∷ ns) (suc r) h = ap (λ c. one n m + c) (handed_held n ns r (omega (arith, h)))

set_here : (a : Full) (x y : Bool) (b : Full) → slice_set (a ++ (x ∷ b)) (length a) y ≡ a ++ (y ∷ b)
set_here [] x y b = refl
set_here (c ∷ a) x y b = ap (λ s. c ∷ s) (set_here a x y b)

one_longer : (a : Full) (x : Bool) → length (a ++ (x ∷ [])) ≡ length a + 1
one_longer [] x = refl
one_longer (c ∷ a) x = let e = one_longer a x in omega (arith, e)

handed_places : (qs : List TokenParam) (a : Full) (ns : List ℕ) (r : ℕ) (rest : Full)
    → length ns ≡ length (param_tokens qs) → length ns ≤ r
    → params_full qs (length a) (a ++ (replicate r false ++ rest))
    ≡ a ++ (full_of (handed ns (replicate r None)) ++ rest)
handed_places [] a [] r rest e h = ap (λ s. a ++ (s ++ rest)) (sym (empty_full r))
handed_places [] a (n ∷ ns) r rest e h = absurd (omega (arith, e))
handed_places (param.Plain q ∷ qs) a ns r rest e h = handed_places qs a ns r rest e h
handed_places (param.Token x ∷ qs) a [] r rest e h = absurd (omega (arith, e))
handed_places (param.Token x ∷ qs) a (n ∷ ns) zero rest e h = absurd (omega (arith, h))
handed_places (param.Token x ∷ qs) a (n ∷ ns) (suc r) rest e h =
    let longer : Full = a ++ (true ∷ []) in
    let tail : Full = replicate r false ++ rest in
    ap (params_full qs (length a + 1)) (set_here a false true tail ∙ sym (append_assoc a (true ∷ []) tail))
    ∙ ap (λ i. params_full qs i (longer ++ tail)) (sym (one_longer a true))
    ∙ handed_places qs longer ns r rest (omega (arith, e)) (omega (arith, h))
    ∙ append_assoc a (true ∷ []) (full_of (handed ns (replicate r None)) ++ rest)

more_false : (r q : ℕ) → replicate r false ++ replicate q false ≡ replicate (r + q) false
more_false zero q = ap (λ n. replicate n false) (let e : q ≡ 0 + q = omega arith in e)
more_false (suc r) q =
    ap (λ s. false ∷ s) (more_false r q) ∙ ap (λ n. replicate n false)
    (let e : suc (r + q) ≡ suc r + q = omega arith in e)

-- of the places of sets, the first are those of the tokens, and the first of these are full
pub handed_full : (qs : List TokenParam) (ns : List ℕ) (r q : ℕ) → length ns ≡ length (param_tokens qs)
    → length ns ≤ r
    → full_of (handed ns (replicate r None)) ++ replicate q false ≡ params_full qs 0 (replicate (r + q) false)
handed_full qs ns r q e h =
    sym (handed_places qs [] ns r (replicate q false) e h) ∙ ap (params_full qs 0) (more_false r q)

-- ---- the next unused number

abbrev pub below : ℕ → ℕ → ℕ
below n k = if nat_lt n k then 1 else 0

pub below_next : (n k : ℕ) → below n (k + 1) ≡ below n k + one n k
below_next n k = grind (arith, nat_tests)

pub below_le : (n k : ℕ) → below n k ≤ 1
below_le n k = by (nat_lt n k)
  where
    by : (b : Bool) → (if b then 1 else 0) ≤ 1
    by true = omega arith
    by false = omega arith
