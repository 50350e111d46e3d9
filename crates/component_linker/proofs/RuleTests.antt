-- What each of the rules L1 to L9 is within a part, and of all parts together.
use Rattle.std.proofs.Common.{◌≡◌, ℕ, ◌<◌, ◌⊎◌, inl, inr, Bool, not, List, [], length, take, Some, None, refl}
use Rattle.std.proofs.Common.{sym, ap, subst, ◌∙◌, arith}
use Rattle.std.specs.Prelude.{slice_get, slice_index_or, is_none, ◌+◌, ◌&&◌, ◌==◌, nat_le, nat_lt}
use Rattle.std.specs.Prelude.{if◌then◌else◌}
use Rattle.std.specs.List.{list_any}
use Rattle.std.proofs.lemmas.Option.{slice_get_past, slice_get_read, slice_get_within}
use Rattle.component_check.specs.Places.{Test, plainly, first_place}
use Rattle.cap_words.specs.declared.TheConstants.{LAST_PLACE}
use Rattle.component_file.specs.declared.TheConstants.{MOST_SITES}
use Rattle.linked_starts.specs.declared.TheConstants.{MOST_PARTS}
use Rattle.linked_starts.specs.Parts.{PartSeen}
use Rattle.linked_starts.specs.Start.{same_name, imported, is_main, stack_base_of}
use Rattle.linked_starts.specs.Regions.{stack_span, is_stack_size}
use Rattle.linked_starts.specs.Pairs.{never, once, passes, at_each}
use Rattle.linked_starts.specs.Links.{l1, l2, l3, l4, l5, l6, l7, l8, l9, near_before, part_spans}
use Rattle.linked_starts.specs.Links.{share_seals, is_private, has_main, are_few, sites_upto}
use Rattle.linked_starts.proofs.Offers.{taken, slice_get-take}
use Rattle.component_linker.specs.declared.rules.LinkRule.{LinkRule}
use Rattle.component_linker.specs.declared.rules.LinkRule.TheVariants.{L1, L2, L3, L4, L5, L6, L7, L8, L9}
use Rattle.component_linker.specs.LinkRules.{test_of}

-- ---- within a part

abbrev pub test_in : LinkRule → List PartSeen → ℕ → PartSeen → Test ℕ
test_in L1 parts i p =
    plainly 3 (λ k. near_before (take i parts) (take k (part_spans p)) (slice_index_or (part_spans p) k None))
test_in L2 parts i p = at_each (take i parts) (share_seals p)
test_in L3 parts i p = at_each (take i parts) (λ q. same_name p.component.name q.component.name)
test_in L4 parts i p = at_each p.component.imports (λ x. is_none (imported parts x))
test_in L5 parts i p = at_each p.component.imports (λ x. is_private p (imported parts x))
test_in L6 parts i p = at_each p.component.exports (λ e. is_main e && list_any has_main (take i parts))
test_in L7 parts i p = once (not (p.component.stack_base == stack_base_of parts)) p.component.stack_base
test_in L8 parts i p = never
test_in L9 parts i p =
    once (if are_few parts then nat_lt MOST_SITES (sites_upto parts i) else i == MOST_PARTS)
    (if are_few parts then sites_upto parts i else length parts)

pub test_in_is : (r : LinkRule) (parts : List PartSeen) (size i : ℕ) (p : PartSeen)
    → slice_get parts i ≡ Some p → (test_of r parts size).within i ≡ test_in r parts i p
unfolding l1 l2 l3 l4 l5 l6 l7 l8 l9
test_in_is L1 parts size i p is = rw is refl
test_in_is L2 parts size i p is = rw is refl
test_in_is L3 parts size i p is = rw is refl
test_in_is L4 parts size i p is = rw is refl
test_in_is L5 parts size i p is = rw is refl
test_in_is L6 parts size i p is = rw is refl
test_in_is L7 parts size i p is = rw is refl
test_in_is L8 parts size i p is = rw is refl
test_in_is L9 parts size i p is = rw is refl

-- what is said of the test within a part is said of the rule, whatever the stack's size

pub count_is : (r : LinkRule) (parts : List PartSeen) (i : ℕ) (p : PartSeen) (n : ℕ)
    → slice_get parts i ≡ Some p → n ≡ (test_in r parts i p).count
    → (size : ℕ) → n ≡ ((test_of r parts size).within i).count
count_is r parts i p n is e size = e ∙ ap (λ (t : Test ℕ). t.count) (sym (test_in_is r parts size i p is))

pub broken_is : (r : LinkRule) (parts : List PartSeen) (i : ℕ) (p : PartSeen) (k : ℕ) (b : Bool)
    → slice_get parts i ≡ Some p → b ≡ (test_in r parts i p).broken k
    → (size : ℕ) → b ≡ ((test_of r parts size).within i).broken k
broken_is r parts i p k b is e size =
    e ∙ ap (λ (t : Test ℕ). t.broken k) (sym (test_in_is r parts size i p is))

pub place_is : (r : LinkRule) (parts : List PartSeen) (i : ℕ) (p : PartSeen) (k n : ℕ)
    → slice_get parts i ≡ Some p → n ≡ (test_in r parts i p).place k
    → (size : ℕ) → n ≡ ((test_of r parts size).within i).place k
place_is r parts i p k n is e size =
    e ∙ ap (λ (t : Test ℕ). t.place k) (sym (test_in_is r parts size i p is))

pub tried_here : (self r : LinkRule) (parts : List PartSeen) (i : ℕ) (p : PartSeen) (k : ℕ) → self ≡ r
    → slice_get parts i ≡ Some p → k < ((test_of self parts 0).within i).count
    → k < (test_in r parts i p).count
tried_here self r parts i p k same is lt =
    subst (λ x. k < (test_in x parts i p).count) same
    (subst (λ (t : Test ℕ). k < t.count) (test_in_is self parts 0 i p is) lt)

-- of a rule that is one of two
pub either_is : {r a b : LinkRule} (P : LinkRule → Type 0) → (r ≡ a) ⊎ (r ≡ b) → P a → P b → P r
either_is P (inl e) x y = subst P (sym e) x
either_is P (inr e) x y = subst P (sym e) y

-- most rules tell a place by its index
pub index_told : (r : LinkRule) (parts : List PartSeen) (i : ℕ) (p : PartSeen) (k : ℕ) → (r ≡ L7 → ⊥)
    → (r ≡ L9 → ⊥) → k ≡ (test_in r parts i p).place k
index_told L1 parts i p k no7 no9 = refl
index_told L2 parts i p k no7 no9 = refl
index_told L3 parts i p k no7 no9 = refl
index_told L4 parts i p k no7 no9 = refl
index_told L5 parts i p k no7 no9 = refl
index_told L6 parts i p k no7 no9 = refl
index_told L7 parts i p k no7 no9 = absurd (no7 refl)
index_told L8 parts i p k no7 no9 = refl
index_told L9 parts i p k no7 no9 = absurd (no9 refl)

-- an item of a list that is read
pub item_told : {A : Type 0} (f : A → Bool) (xs ys : List A) (k : ℕ) (x : A) → xs ≡ ys → k < length xs
    → x ≡ slice_index_or xs k x → f x ≡ passes f (slice_get ys k)
item_told f xs ys k x same lt is =
    sym (ap (passes f) (slice_get_read xs (length xs) k x refl lt is))
    ∙ ap (λ l. passes f (slice_get l k)) same

-- an earlier part
pub earlier : (parts : List PartSeen) (i k : ℕ) (p : PartSeen) → slice_get parts i ≡ Some p
    → k < length (take i parts) → k < i
earlier parts i k p is lt =
    let n = taken i parts (let within = slice_get_within parts i p is in omega (arith, within)) in
    omega (arith, n, lt)

pub earlier_is : (parts : List PartSeen) (i k : ℕ) (p q : PartSeen) (f : PartSeen → Bool)
    → slice_get parts i ≡ Some p → k < length (take i parts) → slice_get parts k ≡ Some q
    → f q ≡ passes f (slice_get (take i parts) k)
earlier_is parts i k p q f is lt e =
    sym (ap (passes f) (slice_get-take parts i k (earlier parts i k p is lt) ∙ e))

pub in_parts : (parts : List PartSeen) (i k : ℕ) (p : PartSeen) → slice_get parts i ≡ Some p
    → k < length (take i parts) → k < length parts
in_parts parts i k p is lt =
    omega (arith, earlier parts i k p is lt, slice_get_within parts i p is)

-- ---- of all parts together

abbrev pub test_of_all : LinkRule → List PartSeen → ℕ → Test ℕ
test_of_all L1 parts size = once (near_before parts [] (stack_span parts size)) 0
test_of_all L2 parts size = never
test_of_all L3 parts size = never
test_of_all L4 parts size = never
test_of_all L5 parts size = never
test_of_all L6 parts size = once (not (list_any has_main parts)) 0
test_of_all L7 parts size = never
test_of_all L8 parts size =
    once (not (is_stack_size size && nat_le (stack_base_of parts + size) (LAST_PLACE + 1))) size
test_of_all L9 parts size = never

past : {A : Type 0} (xs : List A) → slice_get xs (length xs) ≡ None
past xs = slice_get_past xs (length xs) (omega arith)

pub test_of_all_is : (r : LinkRule) (parts : List PartSeen) (size : ℕ)
    → (test_of r parts size).within (length parts) ≡ test_of_all r parts size
unfolding l1 l2 l3 l4 l5 l6 l7 l8 l9
test_of_all_is L1 parts size = rw (past parts) refl
test_of_all_is L2 parts size = rw (past parts) refl
test_of_all_is L3 parts size = rw (past parts) refl
test_of_all_is L4 parts size = rw (past parts) refl
test_of_all_is L5 parts size = rw (past parts) refl
test_of_all_is L6 parts size = rw (past parts) refl
test_of_all_is L7 parts size = rw (past parts) refl
test_of_all_is L8 parts size = rw (past parts) refl
test_of_all_is L9 parts size = rw (past parts) refl

pub all_told : (self r : LinkRule) (parts : List PartSeen) (size : ℕ) → self ≡ r
    → first_place (test_of_all r parts size) ≡ first_place ((test_of self parts size).within (length parts))
all_told self r parts size same =
    ap first_place (sym (test_of_all_is self parts size ∙ ap (λ x. test_of_all x parts size) same))

-- most rules say nothing of all parts together
pub nothing_told : (r : LinkRule) (parts : List PartSeen) (size : ℕ) → (r ≡ L1 → ⊥) → (r ≡ L6 → ⊥)
    → (r ≡ L8 → ⊥) → None ≡ first_place ((test_of r parts size).within (length parts))
nothing_told L1 parts size no1 no6 no8 = absurd (no1 refl)
nothing_told L2 parts size no1 no6 no8 = all_told L2 L2 parts size refl
nothing_told L3 parts size no1 no6 no8 = all_told L3 L3 parts size refl
nothing_told L4 parts size no1 no6 no8 = all_told L4 L4 parts size refl
nothing_told L5 parts size no1 no6 no8 = all_told L5 L5 parts size refl
nothing_told L6 parts size no1 no6 no8 = absurd (no6 refl)
nothing_told L7 parts size no1 no6 no8 = all_told L7 L7 parts size refl
nothing_told L8 parts size no1 no6 no8 = absurd (no8 refl)
nothing_told L9 parts size no1 no6 no8 = all_told L9 L9 parts size refl
