-- What is written stands in the component that has it.
use Rattle.std.proofs.Common.{◌≡◌, ◌≢◌, ℕ, zero, suc, ◌+◌, ◌<◌, ◌≤◌, Bool, true, false, List, [], ◌∷◌, ◌++◌}
use Rattle.std.proofs.Common.{length, map, Some, None, refl, ap, ◌∙◌, arith, length-append, ne_eqb, eq-eqb}
use Rattle.std.specs.Prelude.{if◌then◌else◌, ◌||◌, ◌==◌, slice_get}
use Rattle.std.specs.List.{list_any}
use Rattle.cap_words.specs.declared.Word.{Word}
use Rattle.component_file.specs.declared.component.ComponentFields.{ComponentFields}
use Rattle.lcm_isa.specs.declared.Reg.TheVariants.{T2}
use Rattle.lcm_isa.specs.declared.Instr.{Instr}
use Rattle.call_sequence.specs.Sequences.{call_code, return_code, entry_code}
use Rattle.call_sequence.specs.Places.{begins_entry, begins_site, declared}
use Rattle.proc_templates.specs.Items.{is_last, Spot, Item, does, guards, goes, goes_if, finishes, label}
use Rattle.proc_templates.specs.Items.{site, entry, leaves, instrs, zero_of, Laid, word_of, with_label}
use Rattle.proc_templates.specs.Items.{sites_with, entries_with, labels_with, put, lay}
use Rattle.proc_templates.specs.Compiled.{label_row}
use Rattle.proc_templates.specs.Free.{behind, after}

abbrev pub has : List ℕ → ℕ → Bool
has xs x = list_any (λ y. y == x) xs

pub or_joined : (t a b : Bool) → (t || (a || b)) ≡ ((t || a) || b)
or_joined true a b = refl
or_joined false a b = refl

pub any-append : {A : Type 0} (p : A → Bool) (a b : List A)
    → list_any p (a ++ b) ≡ (list_any p a || list_any p b)
any-append p [] b = refl
any-append p (x ∷ a) b = ap (λ z. p x || z) (any-append p a b) ∙ or_joined (p x) (list_any p a) (list_any p b)

pub or_false : (b : Bool) → (b || false) ≡ b
or_false true = refl
or_false false = refl

pub or_true : (b : Bool) → (b || true) ≡ true
or_true true = refl
or_true false = refl

pub has_other : (xs : List ℕ) (o x : ℕ) → o ≢ x → has (xs ++ (o ∷ [])) x ≡ has xs x
has_other xs o x ne = any-append (λ y. y == x) xs (o ∷ [])
    ∙ (let e = ne_eqb o x ne in rw e (or_false (has xs x)))

pub has_it : (xs : List ℕ) (o : ℕ) → has (xs ++ (o ∷ [])) o ≡ true
has_it xs o = any-append (λ y. y == o) xs (o ∷ []) ∙ (let e = eq-eqb o o refl in rw e (or_true (has xs o)))

pub label_other : (xs : List ℕ) (o x : ℕ) → o ≢ x → has (with_label xs o) x ≡ has xs x
label_other xs o x ne = by (is_last xs o)
  where
    by : (b : Bool) → has (if b then xs else xs ++ (o ∷ [])) x ≡ has xs x
    by true = refl
    by false = has_other xs o x ne

last_has : (xs : List ℕ) (o : ℕ) → is_last xs o ≡ true → has xs o ≡ true
last_has [] o e = cc
last_has (x ∷ []) o e = or_false (x == o) ∙ e
last_has (x ∷ y ∷ ys) o e = let h = last_has (y ∷ ys) o e in rw h (or_true (x == o))

pub label_it : (xs : List ℕ) (o : ℕ) → has (with_label xs o) o ≡ true
label_it xs o = by (is_last xs o) refl
  where
    by : (b : Bool) → is_last xs o ≡ b → has (if b then xs else xs ++ (o ∷ [])) o ≡ true
    by true e = last_has xs o e
    by false e = has_it xs o

sites_other : (xs : List ℕ) (o : ℕ) (i : Item) (x : ℕ) → o ≢ x → has (sites_with xs o i) x ≡ has xs x
sites_other xs o site x ne = has_other xs o x ne
sites_other xs o i x ne = refl

entries_other : (xs : List ℕ) (o : ℕ) (i : Item) (x : ℕ) → o ≢ x → has (entries_with xs o i) x ≡ has xs x
entries_other xs o entry x ne = has_other xs o x ne
entries_other xs o i x ne = refl

labels_other : (xs : List ℕ) (o : ℕ) (i : Item) (x : ℕ) → o ≢ x → has (labels_with xs o i) x ≡ has xs x
labels_other xs o label x ne = label_other xs o x ne
labels_other xs o i x ne = refl

labels_more : (xs : List ℕ) (o : ℕ) (i : Item) (x : ℕ) → has xs x ≡ true → has (labels_with xs o i) x ≡ true
labels_more xs o label x h = by (is_last xs o)
  where
    by : (b : Bool) → has (if b then xs else xs ++ (o ∷ [])) x ≡ true
    by true = h
    by false = any-append (λ y. y == x) xs (o ∷ []) ∙ rw h refl
labels_more xs o i x h = h

-- ---- words

pub map-length : (is : List Instr) → length (map word_of is) ≡ length is
map-length [] = refl
map-length (i ∷ is) = ap suc (map-length is)

pub instrs-length : (spot : Spot) (o k : ℕ) (x : Item) → o + length (instrs spot o k x) ≡ behind o x
unfolding instrs call_code return_code entry_code
instrs-length spot o k (does i) = refl
instrs-length spot o k (guards is) = let e = length-append is (zero_of T2 ∷ []) in omega (arith, e)
instrs-length spot o k (goes far) = refl
instrs-length spot o k (goes_if far r) = refl
instrs-length spot o k finishes = refl
instrs-length spot o k label = omega arith
instrs-length spot o k site = refl
instrs-length spot o k entry = refl
instrs-length spot o k leaves = refl

pub put-length : (spot : Spot) (l : Laid) (x : Item) → length (put spot l x).code ≡ behind (length l.code) x
unfolding put
put-length spot l x =
    length-append l.code (map word_of (instrs spot (length l.code) (length l.sites) x))
    ∙ ap (λ n. length l.code + n) (map-length (instrs spot (length l.code) (length l.sites) x))
    ∙ instrs-length spot (length l.code) (length l.sites) x

pub get-left : {A : Type 0} (a b : List A) (j : ℕ) (w : A) → slice_get a j ≡ Some w
    → slice_get (a ++ b) j ≡ Some w
get-left [] b j w e = cc
get-left (x ∷ a) b zero w e = e
get-left (x ∷ a) b (suc j) w e = get-left a b j w e

pub get-right : {A : Type 0} (a b : List A) (j : ℕ) → slice_get (a ++ b) (length a + j) ≡ slice_get b j
get-right [] b j = let e : 0 + j ≡ j = omega arith in ap (slice_get b) e
get-right (x ∷ a) b j = let e : length (x ∷ a) + j ≡ suc (length a + j) = omega arith in
    ap (slice_get (x ∷ (a ++ b))) e ∙ get-right a b j

pub get-map : (is : List Instr) (j : ℕ) (i : Instr) → slice_get is j ≡ Some i
    → slice_get (map word_of is) j ≡ Some (word_of i)
get-map [] j i e = cc
get-map (x ∷ is) zero i e = let f : x ≡ i = cc in ap (λ z. Some (word_of z)) f
get-map (x ∷ is) (suc j) i e = get-map is j i e

-- ---- what is laid, and the component that has it

-- what is said of the offsets up to here is said for good
pub record Rest (l : Laid) (c : ComponentFields) : Type 0 where
  pub code : (j : ℕ) (w : Word) → slice_get l.code j ≡ Some w → slice_get c.code j ≡ Some w
  pub sites : (x : ℕ) → x < length l.code → begins_site c x ≡ has l.sites x
  pub entries : (x : ℕ) → x < length l.code → begins_entry c x ≡ has l.entries x
  pub labels : (x : ℕ) → x < length l.code → declared c x ≡ (if has l.labels x then Some label_row else None)
  pub marked : (x : ℕ) → has l.labels x ≡ true → declared c x ≡ Some label_row

-- nothing is said of offsets that come later
pub record Sound (l : Laid) : Type 0 where
  pub sites : (x : ℕ) → length l.code ≤ x → has l.sites x ≡ false
  pub entries : (x : ℕ) → length l.code ≤ x → has l.entries x ≡ false
  pub labels : (x : ℕ) → length l.code < x → has l.labels x ≡ false

pub behind-least : (o : ℕ) (x : Item) → o ≤ behind o x
behind-least o (does i) = omega arith
behind-least o (guards is) = omega arith
behind-least o (goes far) = omega arith
behind-least o (goes_if far r) = omega arith
behind-least o finishes = omega arith
behind-least o label = omega arith
behind-least o site = omega arith
behind-least o entry = omega arith
behind-least o leaves = omega arith

pub rest_back : (spot : Spot) (l : Laid) (x : Item) (c : ComponentFields) → Rest (put spot l x) c → Rest l c
unfolding put
rest_back spot l x c r =
    let o = length l.code in
    let n = put-length spot l x in
    let m = behind-least o x in
    record {
      code = λ j w e. r.code j w (get-left l.code _ j w e);
      sites = λ y lt. let ne : o ≢ y = omega (arith, lt) in r.sites y (omega (arith, lt, n, m))
          ∙ sites_other l.sites o x y ne;
      entries = λ y lt. let ne : o ≢ y = omega (arith, lt) in r.entries y (omega (arith, lt, n, m))
          ∙ entries_other l.entries o x y ne;
      labels = λ y lt. let ne : o ≢ y = omega (arith, lt) in r.labels y (omega (arith, lt, n, m))
          ∙ ap (λ b. if b then Some label_row else None) (labels_other l.labels o x y ne);
      marked = λ y h. r.marked y (labels_more l.labels o x y h);
    }

pub rest_lay : (spot : Spot) (xs : List Item) (l : Laid) (c : ComponentFields) → Rest (lay spot l xs) c
    → Rest l c
rest_lay spot [] l c r = r
rest_lay spot (x ∷ xs) l c r = rest_back spot l x c (rest_lay spot xs (put spot l x) c r)

site-far : (xs : List ℕ) (o : ℕ) (i : Item) (x : ℕ) → o ≤ x → behind o i ≤ x → has xs x ≡ false
    → has (sites_with xs o i) x ≡ false
site-far xs o site x le b h = has_other xs o x (omega (arith, b)) ∙ h
site-far xs o i x le b h = h

entry-far : (xs : List ℕ) (o : ℕ) (i : Item) (x : ℕ) → o ≤ x → behind o i ≤ x → has xs x ≡ false
    → has (entries_with xs o i) x ≡ false
entry-far xs o entry x le b h = has_other xs o x (omega (arith, b)) ∙ h
entry-far xs o i x le b h = h

label-far : (xs : List ℕ) (o : ℕ) (i : Item) (x : ℕ) → behind o i < x → has xs x ≡ false
    → has (labels_with xs o i) x ≡ false
label-far xs o label x b h = label_other xs o x (omega (arith, b)) ∙ h
label-far xs o i x b h = h

pub sound_put : (spot : Spot) (l : Laid) (x : Item) → Sound l → Sound (put spot l x)
unfolding put
sound_put spot l x s =
    let o = length l.code in
    let n = put-length spot l x in
    let m = behind-least o x in
    record {
      sites = λ y le. site-far l.sites o x y (omega (arith, le, n, m)) (omega (arith, le, n))
          (s.sites y (omega (arith, le, n, m)));
      entries = λ y le. entry-far l.entries o x y (omega (arith, le, n, m)) (omega (arith, le, n))
          (s.entries y (omega (arith, le, n, m)));
      labels = λ y lt. label-far l.labels o x y (omega (arith, lt, n)) (s.labels y (omega (arith, lt, n, m)));
    }

pub sound_lay : (spot : Spot) (xs : List Item) (l : Laid) → Sound l → Sound (lay spot l xs)
sound_lay spot [] l s = s
sound_lay spot (x ∷ xs) l s = sound_lay spot xs (put spot l x) (sound_put spot l x s)

pub lay-length : (spot : Spot) (xs : List Item) (l : Laid)
    → length (lay spot l xs).code ≡ after (length l.code) xs
lay-length spot [] l = refl
lay-length spot (x ∷ xs) l = lay-length spot xs (put spot l x) ∙ ap (λ n. after n xs) (put-length spot l x)
