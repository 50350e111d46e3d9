-- Lists that are read one item after another, each told the one before it, and lists that are written so.
use Rattle.std.proofs.Common.{◌≡◌, ℕ, zero, suc, ◌+◌, ◌-◌, ◌<◌, ◌≤◌, List, [], ◌∷◌, ◌++◌, length, Option}
use Rattle.std.proofs.Common.{Some, None, Result, Ok, refl, sym, ap, ◌∙◌, arith, length-append}
use Rattle.std.proofs.Common.{append-nil, append_assoc}
use Rattle.std.proofs.Math.ListN.{get_or}
use Rattle.std.proofs.Math.Seq.{take-suc}
use Rattle.std.proofs.lemmas.Grind.{flat_map-append}
use Rattle.std.specs.List.{flat_map}
use Rattle.std.specs.Prelude.{slice_get, take, set}
use Rattle.std.proofs.lemmas.List.{take_more_set, take_all}
use Rattle.readers.specs.Readers.{Reader, items_from}
use Rattle.readers.proofs.Offers.{with_front, read_one, read_all}
use Rattle.cap_words.specs.Reading.{Input}
use Rattle.component_file.specs.declared.fault.FileFault.{FileFault}
use Rattle.component_file.specs.Reading.{next_items}

-- the newest item
abbrev pub newest : {A : Type 0} → List A → Option A
newest items = slice_get items (length items - 1)

-- an item at each index within the list
pub inside : {A : Type 0} (items : List A) (i : ℕ) → i < length items → (x : A) × (slice_get items i ≡ Some x)
inside [] i lt = absurd (omega (arith, lt))
inside (x ∷ items) zero lt = (x, refl)
inside (x ∷ items) (suc i) lt = inside items i (omega (arith, lt))

pub get_pushed : {A : Type 0} (items : List A) (x : A) → slice_get (items ++ x ∷ []) (length items) ≡ Some x
get_pushed [] x = refl
get_pushed (y ∷ items) x = get_pushed items x

pub newest_push : {A : Type 0} (items : List A) (x : A) → newest (items ++ x ∷ []) ≡ Some x
newest_push items x =
    let len : length (items ++ x ∷ []) - 1 ≡ length items = omega (arith, length-append items (x ∷ [])) in
    ap (slice_get (items ++ x ∷ [])) len ∙ get_pushed items x

-- where the item before makes no difference
any_before : {A : Type 0} (r : Reader Input FileFault A) (n : ℕ) (before : Option A) (i : Input)
    → next_items (λ _. r) n before i ≡ next_items (λ _. r) n None i
unfolding items_from
any_before r zero before i = refl
any_before r (suc n) before i = refl

-- a list of so many places that is filled one place after another
pub read_place : {A : Type 0} (r : Reader Input FileFault A) (items : List A) (count i : ℕ)
    (bytes after : Input) (x : A)
    (total : Result (List A × Input) FileFault) → i < count → i < length items → r bytes ≡ Ok (x, after)
    → with_front (take i items) (next_items (λ _. r) (count - i) None bytes) ≡ total
    → with_front (take (i + 1) (set items i x)) (next_items (λ _. r) (count - (i + 1)) None after) ≡ total
read_place r items count i bytes after x total lt long read so_far =
    let one = read_one (λ _ y. Some y) (λ _. r) (take i items) None count i bytes after x total lt read
    so_far in
    rw (take_more_set items i x long, ← any_before r (count - (i + 1)) (Some x) after) one

pub read_places : {A : Type 0} (r : Reader Input FileFault A) (items : List A) (count i : ℕ) (bytes : Input)
    (total : Result (List A × Input) FileFault) → count ≤ i → length items ≡ count
    → with_front (take i items) (next_items (λ _. r) (count - i) None bytes) ≡ total
    → total ≡ Ok (items, bytes)
read_places r items count i bytes total le len so_far =
    read_all (λ _ y. Some y) (λ _. r) (take i items) None count i bytes total le so_far
    ∙ ap (λ l. Ok (l, bytes)) (take_all i items (omega (arith, len)))

-- ---- what is written of a list

-- one item more is written after those before it
pub one_more : {A : Type 0} (f : A → List ℕ) (text : List ℕ) (xs : List A) (i : ℕ) (x : A) → i < length xs
    → x ≡ get_or xs i x → (text ++ flat_map f (take i xs)) ++ f x ≡ text ++ flat_map f (take (i + 1) xs)
one_more f text xs i x lt is =
    let next : i + 1 ≡ suc i = omega arith in
    let more : flat_map f (take (i + 1) xs) ≡ flat_map f (take i xs) ++ f x =
    ap (λ n. flat_map f (take n xs)) next
    ∙ ap (flat_map f) (take-suc xs i x lt)
    ∙ flat_map-append f (take i xs) (get_or xs i x ∷ [])
    ∙ ap (λ l. flat_map f (take i xs) ++ l) (append-nil (f (get_or xs i x)) ∙ ap f (sym is)) in
    append_assoc text (flat_map f (take i xs)) (f x) ∙ ap (λ l. text ++ l) (sym more)
