-- Parts that are placed are parts, where there is room for them.
use Rattle.std.proofs.Common.{◌≡◌, ℕ, zero, suc, ◌+◌, ◌<◌, ◌≤◌, Bool, true, false, not, List, [], ◌∷◌, ◌++◌}
use Rattle.std.proofs.Common.{map, length, Option, Some, None, refl, sym, ap, subst, ◌∙◌, arith}
use Rattle.std.specs.Prelude.{slice_get, option_map, if◌then◌else◌, min, ◌&&◌}
use Rattle.std.proofs.lemmas.Bool.Decides.{nat_tests}
use Rattle.component_file.specs.declared.component.ComponentFields.{ComponentFields}
use Rattle.std.specs.List.{list_all}
use Rattle.std.proofs.lemmas.Bool.{false_from_ne_true}
use Rattle.cap_words.specs.declared.Word.{Word}
use Rattle.component_check.specs.Places.{Test, BrokenAt, FoundBy, each_of, first_of, first_place}
use Rattle.component_check.proofs.Offers.{first_below_is}
use Rattle.linked_starts.proofs.RuleLemmas.{told_in}
use Rattle.linked_starts.proofs.FirstIn.{first_in_is}
use Rattle.linked_starts.specs.declared.moving.Move.{Move}
use Rattle.linked_starts.specs.declared.moving.Free.{Free}
use Rattle.linked_starts.specs.Parts.{PartSeen, IsPart}
use Rattle.linked_starts.specs.Placing.{moved, moved_by, moved_word, points_in_range, base_or}
use Rattle.linked_starts.specs.Placing.{areas_end_late, seals_end_late, points_too_far}
use Rattle.linked_starts.specs.Standing.{move_to, move_of, settled, placed_part, past, placed_from}
use Rattle.linked_starts.specs.Pairs.{never, first_in}
use Rattle.linked_starts.specs.Links.{l10, lacks_room, room_test}
use Rattle.linked_starts.proofs.MovedRules.{Lowest}
use Rattle.linked_starts.proofs.MovedPart.{HasRoom, part_kept}

-- ---- the lowest numbers

least : (a b c n : ℕ) → (min a (min b (base_or a c n)) ≤ a) × (min a (min b (base_or a c n)) ≤ b)
    × (1 ≤ n → min a (min b (base_or a c n)) ≤ c)
least a b c zero = (omega arith, omega arith, λ some. absurd (omega (arith, some)))
least a b c (suc n) = (omega arith, omega arith, λ some. below a b c (suc n) some)
  where
    below : (a b c n : ℕ) → 1 ≤ n → min a (min b (base_or a c n)) ≤ c
    below a b c n some = grind (arith, nat_tests)

least_seal : (a b n : ℕ) → (min a (base_or a b n) ≤ a) × (1 ≤ n → min a (base_or a b n) ≤ b)
least_seal a b n = (omega arith, λ some. below a b n some)
  where
    below : (a b n : ℕ) → 1 ≤ n → min a (base_or a b n) ≤ b
    below a b n some = grind (arith, nat_tests)

pub lowest_of : (f : Free) (c : ComponentFields) → Lowest (move_to f c) c
lowest_of f c =
    let a = least c.code_base c.data_base c.linear.base c.linear.count in
    let s = least_seal c.closure c.seals.base c.seals.count in
    record { code = a.0; data_words = a.1; linear = a.2; closure = s.0; seals = s.1 }

-- ---- one part

has_room : (m : Move) (c : ComponentFields) → ((i : ℕ) → BrokenAt (lacks_room (moved m c)) i → ⊥)
    → HasRoom m c
has_room m c h = record {
  areas = false_from_ne_true _ (λ e. h 0 (omega arith, e));
  seals = false_from_ne_true _ (λ e. h 1 (omega arith, e));
  points = false_from_ne_true _ (λ e. h 2 (omega arith, e));
}

pub settled_part : (f : Free) (p : PartSeen) → IsPart p
    → ((i : ℕ) → BrokenAt (room_test (placed_part f p)) i → ⊥)
    → IsPart (placed_part f p)
settled_part f p is h = by_case p.component.movable refl
  where
    by_case : (b : Bool) → p.component.movable ≡ b → IsPart (placed_part f p)
    by_case false e =
        let same : settled f p.component ≡ p.component =
        ap (λ b. moved_by (if b then Some (move_to f p.component) else None) p.component) e in
        subst (λ c. IsPart (record { component = c; trusted = p.trusted })) (sym same) is
    by_case true e =
        let m = move_to f p.component in
        let same : settled f p.component ≡ moved m p.component =
        ap (λ b. moved_by (if b then Some m else None) p.component) e in
        let there : (i : ℕ) → BrokenAt (lacks_room (moved m p.component)) i
        → BrokenAt (room_test (placed_part f p)) i = λ i b.
        subst (λ c. BrokenAt (if c.movable then lacks_room c else never) i) (sym same)
        (subst (λ t. BrokenAt (if t then lacks_room (moved m p.component) else never) i) (sym e) b) in
        subst (λ c. IsPart (record { component = c; trusted = p.trusted })) (sym same)
        (part_kept p.component p.trusted is m (lowest_of f p.component)
        (has_room m p.component (λ i b. h i (there i b))))

-- ---- all of them

-- a part by its index, at what is free there
abbrev pub free_at : Free → List PartSeen → ℕ → Free
free_at f parts zero = f
free_at f [] (suc n) = f
free_at f (p ∷ ps) (suc n) = free_at (past f p) ps n

pub placed_at : (f : Free) (parts : List PartSeen) (k : ℕ) (p : PartSeen) → slice_get parts k ≡ Some p
    → slice_get (placed_from f parts) k ≡ Some (placed_part (free_at f parts k) p)
placed_at f [] k p e = absurd cc
placed_at f (q ∷ ps) zero p e = let same : q ≡ p = cc in ap (λ r. Some (placed_part f r)) same
placed_at f (q ∷ ps) (suc k) p e = placed_at (past f q) ps k p e

pub free_more : (f : Free) (parts : List PartSeen) (k : ℕ) (p : PartSeen) → slice_get parts k ≡ Some p
    → free_at f parts (k + 1) ≡ past (free_at f parts k) p
free_more f [] k p e = absurd cc
free_more f (q ∷ ps) zero p e = let same : q ≡ p = cc in ap (past f) same
free_more f (q ∷ ps) (suc k) p e =
    let further : suc k + 1 ≡ suc (k + 1) = omega arith in rw further (free_more (past f q) ps k p e)

pub as_many : (f : Free) (parts : List PartSeen) → length (placed_from f parts) ≡ length parts
as_many f [] = refl
as_many f (p ∷ ps) = ap suc (as_many (past f p) ps)

-- ---- the search for the first that has no room

pub room_at : (f : Free) (parts : List PartSeen) (i : ℕ) (p : PartSeen) {o : Option ℕ}
    → slice_get parts i ≡ Some p → o ≡ first_place (room_test (placed_part (free_at f parts i) p))
    → o ≡ first_place ((l10 (placed_from f parts)).within i)
unfolding l10
room_at f parts i p e h =
    told_in (λ j q. room_test q) never (placed_from f parts) i (placed_part (free_at f parts i) p)
    (placed_at f parts i p e) h

pub no_room : (f : Free) (parts : List PartSeen) (i place : ℕ) → i < length parts
    → Some place ≡ first_place ((l10 (placed_from f parts)).within i)
    → ((p : ℕ) → p < i → first_place ((l10 (placed_from f parts)).within p) ≡ None)
    → Some (record { part = i; place = place }) ≡ first_in (l10 (placed_from f parts))
unfolding l10
no_room f parts i place lt here before =
    let t = l10 (placed_from f parts) in
    first_in_is t {Says = λ p o. o ≡ first_place (t.within p)} {n = length (placed_from f parts)}
    (record { found = (rw (as_many f parts) lt, here, λ p below. sym (before p below)) }) refl
    (λ p u below s. s)

pub all_have_room : (f : Free) (parts : List PartSeen)
    → ((p : ℕ) → p < length parts → first_place ((l10 (placed_from f parts)).within p) ≡ None)
    → None ≡ first_in (l10 (placed_from f parts))
unfolding l10
all_have_room f parts none =
    let t = l10 (placed_from f parts) in
    first_in_is t {Says = λ p o. o ≡ first_place (t.within p)} {n = length (placed_from f parts)}
    (record { found = λ p lt. sym (none p (rw (← as_many f parts) lt)) }) refl (λ p u below s. s)

-- ---- the tests of one part

first_three : (a b c : Bool) → first_place (each_of (a ∷ b ∷ c ∷ [])) ≡
    (if a then Some 0 else if b then Some 1 else if c then Some 2 else None)
first_three true true true = refl
first_three true true false = refl
first_three true false true = refl
first_three true false false = refl
first_three false true true = refl
first_three false true false = refl
first_three false false true = refl
first_three false false false = refl

-- what is tested of a part that moves
pub room_of : (f : Free) (p : PartSeen) (m : Move) → move_of f p.component ≡ Some m
    → first_place (room_test (placed_part f p)) ≡
    (if areas_end_late (moved m p.component) then Some 0 else if seals_end_late
    (moved m p.component) then Some 1 else if points_too_far (moved m p.component) then Some 2 else None)
room_of f p m e = by_case p.component.movable refl
  where
    by_case : (b : Bool) → p.component.movable ≡ b
        → first_place (room_test (placed_part f p)) ≡
        (if areas_end_late (moved m p.component) then Some 0 else if seals_end_late
        (moved m p.component) then Some 1 else if points_too_far (moved m p.component) then Some 2 else None)
    by_case false g =
        let no : None ≡ Some m = sym (ap (λ b. if b then Some (move_to f p.component) else None) g) ∙ e in
        absurd cc
    by_case true g =
        let same : settled f p.component ≡ moved m p.component = ap (λ o. moved_by o p.component) e in
        ap (λ c. first_place (if c.movable then lacks_room c else never)) same
        ∙ ap (λ b. first_place (if b then lacks_room (moved m p.component) else never)) g
        ∙ first_three (areas_end_late (moved m p.component)) (seals_end_late (moved m p.component))
        (points_too_far (moved m p.component))

-- where nothing is told, it is a part there
pub told_part : (f : Free) (p : PartSeen) → IsPart p → first_place (room_test (placed_part f p)) ≡ None
    → IsPart (placed_part f p)
told_part f p is none = settled_part f p is (λ i b. nowhere (room_test (placed_part f p)) none i b)
  where
    by_first : (t : Test ℕ) (o : Option ℕ) → first_of t ≡ o → option_map t.place o ≡ None
        → FoundBy (λ i b. t.broken i ≡ b) t.count o → (i : ℕ) → BrokenAt t i → ⊥
    by_first t None e n found i b = let g : false ≡ true = sym (found i b.0) ∙ b.1 in cc
    by_first t (Some k) e n found i b = absurd cc

    nowhere : (t : Test ℕ) → first_place t ≡ None → (i : ℕ) → BrokenAt t i → ⊥
    nowhere t none i b = by_first t (first_of t) refl none (first_below_is t.broken t.count) i b

-- the words of a part, moved, are in range where those of its code and those of its data are
pub points_of : (m : Move) (c : ComponentFields) (a b : Bool)
    → a ≡ list_all (λ w. points_in_range (moved_word m w)) c.code
    → b ≡ list_all (λ w. points_in_range (moved_word m w)) c.data_words
    → points_too_far (moved m c) ≡ not (a && b)
points_of m c a b e f =
    ap not (both (map (moved_word m) c.code) (map (moved_word m) c.data_words)
    ∙ rw (each c.code, each c.data_words, ← e, ← f) refl)
  where
    both : (xs ys : List Word) → list_all points_in_range (xs ++ ys) ≡
        (list_all points_in_range xs && list_all points_in_range ys)
    both [] ys = refl
    both (x ∷ xs) ys =
        rw (both xs ys) (assoc (points_in_range x) (list_all points_in_range xs)
        (list_all points_in_range ys))
      where
        assoc : (a b c : Bool) → (a && (b && c)) ≡ ((a && b) && c)
        assoc true b c = refl
        assoc false b c = refl

    each : (ws : List Word) → list_all points_in_range (map (moved_word m) ws) ≡ list_all
        (λ w. points_in_range (moved_word m w)) ws
    each [] = refl
    each (w ∷ ws) = rw (each ws) refl

-- what is told of a part that moves, by the three tests, where the component is this
pub room_told : (f : Free) (p : PartSeen) (m : Move) (c : ComponentFields) (a s u : Bool) → c ≡ p.component
    → move_of f c ≡ Some m → a ≡ areas_end_late (moved m c) → s ≡ seals_end_late (moved m c)
    → u ≡ points_too_far (moved m c)
    → first_place (room_test (placed_part f p)) ≡
    (if a then Some 0 else if s then Some 1 else if u then Some 2 else None)
room_told f p m c a s u is = subst (λ c. move_of f c ≡ Some m → a ≡ areas_end_late (moved m c)
    → s ≡ seals_end_late (moved m c) → u ≡ points_too_far (moved m c)
    → first_place (room_test (placed_part f p)) ≡
    (if a then Some 0 else if s then Some 1 else if u then Some 2 else None))
    (sym is) (λ e ha hs hu. room_of f p m e ∙ rw (← ha, ← hs, ← hu) refl)
