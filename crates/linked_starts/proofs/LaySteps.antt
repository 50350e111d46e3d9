-- The steps in which the words of parts are laid.
use Rattle.std.proofs.Common.{◌≡◌, ℕ, ◌+◌, ◌-◌, ◌<◌, ◌≤◌, List, length, get_or, Option, Some, None, refl, sym}
use Rattle.std.proofs.Common.{ap, subst, ◌∙◌, arith, pos}
use Rattle.std.specs.Prelude.{slice_get, IsSome}
use Rattle.std.specs.Option.{option_or}
use Rattle.std.proofs.lemmas.Option.{slice_get-get_or}
use Rattle.cap_words.specs.declared.Word.{Word}
use Rattle.cap_words.specs.declared.Word.TheVariants.{Int}
use Rattle.component_file.specs.declared.component.Import.{Import}
use Rattle.lcm_machine.specs.Run.{Run}
use Rattle.linked_starts.specs.Parts.{PartSeen}
use Rattle.linked_starts.specs.Start.{first_given, Exported, imported, code_half, data_half, slot_word}
use Rattle.linked_starts.specs.Start.{data_word, from, part_word}
use Rattle.linked_starts.specs.Linked.{Kept, AreClosed, AreSeparate}
use Rattle.linked_starts.specs.Laying.{Lays, single}
use Rattle.linked_starts.proofs.Found.{imported_of, option_or_assoc}
use Rattle.linked_starts.proofs.Laid.{lays_as, lays_then, some_right}
use Rattle.linked_starts.proofs.PartWords.{from_yes, slots_upto, slots_more, slots_all, part_words}
use Rattle.linked_starts.proofs.PartWords.{parts_upto, parts_more, parts_all}

pub item_at : {X : Type 0} (xs ys : List X) (k : ℕ) (x : X) → ys ≡ xs → k < length ys → x ≡ get_or ys k x
    → slice_get xs k ≡ Some x
item_at xs ys k x same lt is = ap (λ zs. slice_get zs k) (sym same) ∙ slice_get-get_or ys k x lt
    ∙ ap Some (sym is)

pub not_none : {A : Type 0} (o : Option A) → IsSome o → o ≡ None → ⊥
not_none None h e = cc
not_none (Some x) h e = cc

pub with_some : {A : Type 0} (o : Option A) (P : Type 0) → IsSome o → ((x : A) → o ≡ Some x → P) → P
with_some None P h f = absurd cc
with_some (Some x) P h f = f x refl

some_left : (x y : Option Word) → IsSome x → IsSome (option_or x y)
some_left None y h = absurd cc
some_left (Some w) y h = refl

some_get : (ws : List Word) (o : ℕ) → o < length ws → IsSome (slice_get ws o)
some_get ws o lt = let e = slice_get-get_or ws o (Int (pos 0)) lt in rw e refl

-- each address of a part's data and code has a word
pub data_there : (parts : List PartSeen) (p : PartSeen) (a : ℕ) → p.component.data_base ≤ a
    → a < p.component.data_base + length p.component.data_words → IsSome (part_word parts a p)
unfolding part_word
data_there parts p a low high =
    let e = from_yes p.component.data_base (data_word parts p.component) a low in
    some_right (from p.component.code_base (slice_get p.component.code) a)
    (from p.component.data_base (data_word parts p.component) a)
    (rw e (some_right (first_given (slot_word parts (a - p.component.data_base)) p.component.imports)
    (slice_get p.component.data_words (a - p.component.data_base))
    (some_get p.component.data_words (a - p.component.data_base) (omega (arith, low, high)))))

pub code_there : (parts : List PartSeen) (p : PartSeen) (a : ℕ) → p.component.code_base ≤ a
    → a < p.component.code_base + length p.component.code → IsSome (part_word parts a p)
unfolding part_word
code_there parts p a low high =
    let e = from_yes p.component.code_base (slice_get p.component.code) a low in
    some_left (from p.component.code_base (slice_get p.component.code) a)
    (from p.component.data_base (data_word parts p.component) a)
    (rw e (some_get p.component.code (a - p.component.code_base) (omega (arith, low, high))))

-- ---- slots

-- the part of an import's entry is one of the parts
pub entry_kept : (parts : List PartSeen) (i : Import) (x : Exported) → AreClosed parts
    → imported parts i ≡ Some x → Kept x.part
entry_kept parts i x closed is = let k = imported_of parts i x is in closed.kept k.0 x.part k.1

pub slots_laid : (parts : List PartSeen) (p : PartSeen) (s t u : Run) (k base : ℕ) (i : Import) (x : Exported)
    → Kept p → slice_get p.component.imports k ≡ Some i → imported parts i ≡ Some x
    → base ≡ p.component.data_base
    → Lays (from p.component.data_base (slots_upto parts p.component.imports k)) s t
    → Lays (λ a. option_or (single (base + i.slot + 1) (data_half x) a)
    (single (base + i.slot) (code_half x) a)) t u
    → Lays (from p.component.data_base (slots_upto parts p.component.imports (k + 1))) s u
slots_laid parts p s t u k base i x kept at is same before two =
    let halves : ℕ → Option Word =
    λ a. option_or (single (p.component.data_base + i.slot + 1) (data_half x) a)
    (single (p.component.data_base + i.slot) (code_half x) a) in
    let two' : Lays halves t u =
    subst (λ b.
    Lays (λ a. option_or (single (b + i.slot + 1) (data_half x) a) (single (b + i.slot) (code_half x) a))
    t u) same two in
    lays_as (λ a. option_or (halves a)
    (from p.component.data_base (slots_upto parts p.component.imports k) a))
    (from p.component.data_base (slots_upto parts p.component.imports (k + 1))) s u
    (λ a. option_or_assoc (single (p.component.data_base + i.slot + 1) (data_half x) a)
    (single (p.component.data_base + i.slot) (code_half x) a)
    (from p.component.data_base (slots_upto parts p.component.imports k) a)
    ∙ slots_more parts p k i x kept at is p.component.data_base a)
    (lays_then (from p.component.data_base (slots_upto parts p.component.imports k)) halves s t u before two')

pub slots_end : (parts : List PartSeen) (p : PartSeen) (s t : Run) (k : ℕ) → k ≡ length p.component.imports
    → Lays (from p.component.data_base (slots_upto parts p.component.imports k)) s t
    → Lays (from p.component.data_base (λ o. first_given (slot_word parts o) p.component.imports)) s t
slots_end parts p s t k n h =
    lays_as (from p.component.data_base (slots_upto parts p.component.imports k))
    (from p.component.data_base (λ o. first_given (slot_word parts o) p.component.imports)) s t
    (λ a. ap (λ j. from p.component.data_base (slots_upto parts p.component.imports j) a) n
    ∙ slots_all parts p.component.imports p.component.data_base a) h

-- ---- a part

pub part_laid : (parts : List PartSeen) (p : PartSeen) (s t u v : Run) (db cb : ℕ) (dw cw : List Word)
    → db ≡ p.component.data_base → dw ≡ p.component.data_words → cb ≡ p.component.code_base
    → cw ≡ p.component.code
    → Lays (from db (slice_get dw)) s t
    → Lays (from p.component.data_base (λ o. first_given (slot_word parts o) p.component.imports)) t u
    → Lays (from cb (slice_get cw)) u v
    → Lays (λ a. part_word parts a p) s v
part_laid parts p s t u v db cb dw cw db_is dw_is cb_is cw_is words slots code =
    let words' : Lays (from p.component.data_base (slice_get p.component.data_words)) s t =
    subst (λ b. Lays (from b (slice_get p.component.data_words)) s t)
    db_is (subst (λ w. Lays (from db (slice_get w)) s t) dw_is words) in
    let code' : Lays (from p.component.code_base (slice_get p.component.code)) u v =
    subst (λ b. Lays (from b (slice_get p.component.code)) u v)
    cb_is (subst (λ w. Lays (from cb (slice_get w)) u v) cw_is code) in
    let f : ℕ → Option Word = from p.component.data_base (slice_get p.component.data_words) in
    let g : ℕ → Option Word =
    from p.component.data_base (λ o. first_given (slot_word parts o) p.component.imports) in
    let h : ℕ → Option Word = from p.component.code_base (slice_get p.component.code) in
    lays_as (λ a. option_or (h a) (option_or (g a) (f a))) (λ a. part_word parts a p) s v (part_words parts p)
    (lays_then (λ a. option_or (g a) (f a)) h s u v (lays_then f g s t u words' slots) code')

-- ---- parts

pub parts_laid : (parts : List PartSeen) (p : PartSeen) (s t u : Run) (k : ℕ) → AreSeparate parts
    → slice_get parts k ≡ Some p → Lays (parts_upto parts k) s t → Lays (λ a. part_word parts a p) t u
    → Lays (parts_upto parts (k + 1)) s u
parts_laid parts p s t u k separate at before this =
    lays_as (λ a. option_or (part_word parts a p) (parts_upto parts k a)) (parts_upto parts (k + 1))
    s u (parts_more parts k p separate at)
    (lays_then (parts_upto parts k) (λ a. part_word parts a p) s t u before this)

pub parts_end : (parts : List PartSeen) (s t : Run) (k : ℕ) → k ≡ length parts → Lays (parts_upto parts k) s t
    → Lays (λ a. first_given (part_word parts a) parts) s t
parts_end parts s t k n h =
    lays_as (parts_upto parts k) (λ a. first_given (part_word parts a) parts)
    s t (λ a. ap (λ j. parts_upto parts j a) n ∙ parts_all parts a) h
