-- Frames in the two vectors.
use Rattle.std.proofs.Common.{◌≡◌, ◌≤◌, ◌<◌, ℕ, zero, suc, ◌+◌, ◌-◌, List, [], ◌∷◌, ◌++◌, take, drop}
use Rattle.std.proofs.Common.{length, refl, sym, ap, subst, ◌∙◌, arith, min, Option, Some, None, IsSome}
use Rattle.std.proofs.Common.{is_some, true, reverse, get_or, inl, inr}
use Rattle.std.proofs.lemmas.List.{drop-append-le, take-append-le, length-take, length-drop, take_all}
use Rattle.std.proofs.lemmas.List.{reverse-append, length-append, length-reverse, get_or-reverse}
use Rattle.std.proofs.lemmas.List.{get_or-take, get_or-drop}
use Rattle.std.proofs.lemmas.Bool.{cases_lt}
use Rattle.std.proofs.lemmas.Option.{slice_get_past, slice_get-get_or}
use Rattle.frame_region.specs.Frames.{sizes, with_item, IsNewestFull, IsNewestOpen, HasNewestItem}
use Rattle.frame_region.specs.Frames.{FrameSeen, item_of, head_of, item_there, item_at}
use Rattle.std.specs.Prelude.{slice_get}
use Rattle.frame_region.specs.declared.Slot.{Slot}
use Rattle.frame_region.specs.Slots.{stacked, Lie, Fill}

pub sizes-stacked : {H T : Type 0} (ss : List (Slot H)) (ts : List T) (top : ℕ) → Lie ss top
    → sizes (stacked ss ts) ≡ top
sizes-stacked [] ts top h = sym h
sizes-stacked (s ∷ ss) ts top h = let k = sizes-stacked ss ts s.start h.2 in omega (arith, k, h.0)

pub length-stacked : {H T : Type 0} (ss : List (Slot H)) (ts : List T) → length (stacked ss ts) ≡ length ss
length-stacked [] ts = refl
length-stacked (s ∷ ss) ts = ap suc (length-stacked ss ts)

pub length-lie : {H : Type 0} (ss : List (Slot H)) (top : ℕ) → Lie ss top → length ss ≤ top
length-lie [] top h = omega arith
length-lie (s ∷ ss) top h = let k = length-lie ss s.start h.2 in omega (arith, k, h.0, h.1)

-- how many items a frame has
items_length : {H T : Type 0} (s : Slot H) (ts : List T)
    → length (take s.size (drop s.start ts)) ≡ min s.size (length ts - s.start)
items_length s ts = length-take s.size (drop s.start ts) ∙ ap (min s.size) (length-drop s.start ts)

-- a frame that is full reaches up to the end
pub full-top : {H T : Type 0} (ss : List (Slot H)) (ts : List T) (top : ℕ) → Lie ss top
    → Fill ss top (length ts) → IsNewestFull (stacked ss ts) → length ts ≡ top
full-top [] ts top h f n = f ∙ sym h
full-top (s ∷ ss) ts top h f n = let k = items_length s ts in omega (arith, k, n, h.0, f.0, f.1)

-- frames that are full don't see a further item
pub stacked-below : {H T : Type 0} (ss : List (Slot H)) (ts : List T) (x : T) (top : ℕ) → Lie ss top
    → top ≤ length ts → stacked ss (ts ++ x ∷ []) ≡ stacked ss ts
stacked-below [] ts x top h k = refl
stacked-below (s ∷ ss) ts x top h k =
    let d = drop-append-le s.start ts (x ∷ []) (omega (arith, h.0, k)) in
    let l = length-drop s.start ts in
    let t = take-append-le s.size (drop s.start ts) (x ∷ []) (omega (arith, l, h.0, k)) in
    let r = stacked-below ss ts x s.start h.2 (omega (arith, h.0, k)) in
    rw (d, t, r) refl

pub stacked-item : {H T : Type 0} (ss : List (Slot H)) (ts : List T) (x : T) (top : ℕ) → Lie ss top
    → Fill ss top (length ts) → length ts < top → stacked ss (ts ++ x ∷ []) ≡ with_item (stacked ss ts) x
stacked-item [] ts x top h f k = refl
stacked-item (s ∷ ss) ts x top h f k =
    let d = drop-append-le s.start ts (x ∷ []) f.0 in
    let l = length-drop s.start ts in
    let a = length-append (drop s.start ts) (x ∷ []) in
    let t = take_all s.size (drop s.start ts ++ x ∷ []) (omega (arith, l, a, h.0, f.0, k)) in
    let u = take_all s.size (drop s.start ts) (omega (arith, l, h.0, f.0, k)) in
    let r = stacked-below ss ts x s.start h.2 f.0 in
    rw (d, t, u, r) refl

pub open-below : {H T : Type 0} (ss : List (Slot H)) (ts : List T) (top : ℕ) → Lie ss top
    → Fill ss top (length ts) → IsNewestOpen (stacked ss ts) → length ts < top
open-below [] ts top h f n = absurd n
open-below (s ∷ ss) ts top h f n = let k = items_length s ts in omega (arith, k, n, h.0, f.0, f.1)

-- the last of a list is the first of the list read backwards
pub last-first : {X : Type 0} (xs : List X) (i : ℕ) (x : X) → i + 1 ≡ length xs → x ≡ get_or xs i x
    → (ys : List X) × (reverse xs ≡ x ∷ ys)
last-first {X} xs i x n e = first (reverse xs) refl
  where
    zeroth : (d : X) → get_or (reverse xs) 0 d ≡ get_or xs i d
    zeroth d = get_or-reverse xs 0 d (omega (arith, n))
        ∙ ap (λ k. get_or xs k d) (let k : length xs - 1 - 0 ≡ i = omega (arith, n) in k)

    first : (zs : List X) → reverse xs ≡ zs → (ys : List X) × (reverse xs ≡ x ∷ ys)
    first [] z = absurd (let l = length-reverse xs in let k : length (reverse xs) ≡ 0 = ap length z in
        omega (arith, l, k, n))
    first (z ∷ zs) q = (zs, q ∙ ap (λ k. k ∷ zs) (sym (ap (λ l. get_or l 0 x) q) ∙ zeroth x ∙ sym e))

pub reverse-push : {X : Type 0} (xs : List X) (x : X) → reverse (xs ++ x ∷ []) ≡ x ∷ reverse xs
reverse-push xs x = reverse-append xs (x ∷ [])

no_some : {T : Type 0} {o : Option T} → o ≡ None → IsSome o → ⊥
no_some {T} e h = let k : is_some {T = T} None ≡ true = rw e at h in cc

-- the place of an item
pub item-place : {H T : Type 0} (ss : List (Slot H)) (s : Slot H) (ts : List T) (i : ℕ)
    → IsSome (item_of (stacked (s ∷ ss) ts) i) → s.start + i < length ts
item-place {H} {T} ss s ts i h = elim (cases_lt i (length (take s.size (drop s.start ts)))) [
  | inl lt ↦ (let k = items_length s ts in omega (arith, lt, k))
  | inr ge ↦ absurd (let e = slice_get_past (take s.size (drop s.start ts)) i ge in no_some e h)
]

pub item-is : {H T : Type 0} (ss : List (Slot H)) (s : Slot H) (ts : List T) (i : ℕ) (x : T)
    → IsSome (item_of (stacked (s ∷ ss) ts) i) → x ≡ get_or ts (s.start + i) x
    → item_of (stacked (s ∷ ss) ts) i ≡ Some x
item-is {H} {T} ss s ts i x h e = elim (cases_lt i (length (take s.size (drop s.start ts)))) [
  | inl lt ↦ slice_get-get_or (take s.size (drop s.start ts)) i x lt
      ∙ ap Some
      (let k = items_length s ts in get_or-take s.size (drop s.start ts) i x (omega (arith, lt, k))
      ∙ get_or-drop s.start ts i x ∙ sym e)
  | inr ge ↦ absurd (let e = slice_get_past (take s.size (drop s.start ts)) i ge in no_some e h)
]

pub head-is : {H T : Type 0} (ss : List (Slot H)) (ts : List T) (i : ℕ) (s : Slot H) → i < length ss
    → s ≡ get_or ss i s → head_of (stacked ss ts) i ≡ Some s.head
head-is [] ts i s h e = absurd (omega (arith, h))
head-is (t ∷ ss) ts zero s h e = ap (λ k. Some k.head) (sym e)
head-is (t ∷ ss) ts (suc i) s h e = head-is ss ts i s (omega (arith, h)) e

pub pushed : {H T : Type 0} (ss : List (Slot H)) (ts us : List T) (x : T) (top : ℕ) → us ≡ ts ++ x ∷ []
    → Lie ss top → Fill ss top (length ts) → IsNewestOpen (stacked ss ts)
    → stacked ss us ≡ with_item (stacked ss ts) x
pushed ss ts us x top e l f o = ap (stacked ss) e ∙ stacked-item ss ts x top l f
    (open-below ss ts top l f o)

pub popped : {H T : Type 0} (ss : List (Slot H)) (ts us : List T) (x : T) (top : ℕ) → ts ≡ us ++ x ∷ []
    → Lie ss top → Fill ss top (length ts) → HasNewestItem (stacked ss ts)
    → stacked ss ts ≡ with_item (stacked ss us) x
popped [] ts us x top e l f o = absurd o
popped (s ∷ ss) ts us x top e l f o =
    let n : length ts ≡ length us + 1 = ap length e ∙ length-append us (x ∷ []) in
    let k = items_length s ts in
    ap (stacked (s ∷ ss)) e ∙ stacked-item (s ∷ ss) us x top l
    (omega (arith, k, o, n), omega (arith, n, f.1)) (omega (arith, n, f.1))

-- one frame more
pub begun : {H T : Type 0} (ss : List (Slot H)) (ts : List T) (s : Slot H) (top : ℕ) → s.start ≡ length ts
    → 1 ≤ s.size → Lie ss top → Fill ss top (length ts) → IsNewestFull (stacked ss ts)
    → Lie (s ∷ ss) (top + s.size) × Fill (s ∷ ss) (top + s.size) (length ts)
begun ss ts s top e k l f n =
    let t = full-top ss ts top l f n in
    let st : s.start ≡ top = e ∙ t in
    ((ap (λ a. a + s.size) st, k, subst (Lie ss) (sym st) l), (omega (arith, e), omega (arith, t)))

-- where the newest frame has an item there is a frame
at_least : {H T : Type 0} (xs : List (Slot H)) (ts : List T) (i : ℕ)
    → IsSome (item_of (stacked (reverse xs) ts) i) → 0 < length xs
at_least {H} {T} xs ts i h = let l = length-reverse xs in let k = some (reverse xs) h in omega (arith, l, k)
  where
    some : (ss : List (Slot H)) → IsSome (item_of (stacked ss ts) i) → 0 < length ss
    some [] h = let k : is_some {T = T} None ≡ true = h in cc
    some (s ∷ ss) h = omega arith

-- and it has the last slot
pub newest-item : {H T : Type 0} (xs : List (Slot H)) (ts : List T) (i n : ℕ) (s : Slot H)
    → IsSome (item_of (stacked (reverse xs) ts) i) → n ≡ length xs → s ≡ get_or xs (n - 1) s
    → (ys : List (Slot H)) × (reverse xs ≡ s ∷ ys) × IsSome (item_of (stacked (s ∷ ys) ts) i)
newest-item xs ts i n s h e is =
    let some = at_least xs ts i h in
    let k = last-first xs (n - 1) s (omega (arith, some, e)) is in
    (k.0, k.1, rw k.1 at h)

-- an item of any frame
pub frame_there : {H T : Type 0} (fs : List (FrameSeen H T)) (k i : ℕ) → IsSome (item_at fs k i)
    → k < length fs
frame_there {H} {T} fs k i h = elim (cases_lt k (length fs)) [
  | inl lt ↦ lt
  | inr ge ↦ absurd (no_frame (slice_get fs k) (slice_get_past fs k ge) h)
]
  where
    no_frame : (o : Option (FrameSeen H T)) → o ≡ None → IsSome (item_there o i) → ⊥
    no_frame None e h = let k : is_some {T = T} None ≡ true = h in cc
    no_frame (Some f) e h = absurd cc

pub item_at-place : {H T : Type 0} (ss : List (Slot H)) (ts : List T) (k i : ℕ) (s : Slot H)
    → k < length ss → s ≡ get_or ss k s → IsSome (item_at (stacked ss ts) k i) → s.start + i < length ts
item_at-place [] ts k i s lt e h = absurd (omega (arith, lt))
item_at-place (t ∷ ss) ts zero i s lt e h = let p = item-place ss t ts i h in
    subst (λ r. r.start + i < length ts) (sym e) p
item_at-place (t ∷ ss) ts (suc k) i s lt e h = item_at-place ss ts k i s (omega (arith, lt)) e h

pub item_at-is : {H T : Type 0} (ss : List (Slot H)) (ts : List T) (k i : ℕ) (s : Slot H) (x : T)
    → k < length ss → s ≡ get_or ss k s → IsSome (item_at (stacked ss ts) k i)
    → x ≡ get_or ts (s.start + i) x → item_at (stacked ss ts) k i ≡ Some x
item_at-is [] ts k i s x lt e h g = absurd (omega (arith, lt))
item_at-is (t ∷ ss) ts zero i s x lt e h g = item-is ss t ts i x h
    (subst (λ r. x ≡ get_or ts (r.start + i) x) e g)
item_at-is (t ∷ ss) ts (suc k) i s x lt e h g = item_at-is ss ts k i s x (omega (arith, lt)) e h g
