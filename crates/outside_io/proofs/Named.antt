-- Files in a row, by their names: look-ups, and what is left without one of a name.
use Rattle.std.proofs.Common.{◌≡◌, ◌≢◌, ℕ, ◌+◌, ◌<◌, ◌≤◌, Bool, true, false, cond, List, [], ◌∷◌, ◌++◌}
use Rattle.std.proofs.Common.{length, Option, Some, None, refl, sym, ap, subst, ◌∙◌, arith, length-append}
use Rattle.std.specs.Prelude.{◌-◌, MatchOption, nat_le, nat_lt}
use Rattle.std.specs.Bool.{Decides}
use Rattle.std.proofs.lemmas.Bool.{false_from_ne_true, leb-true, le-leb, ltb-true}
use Rattle.std.proofs.lemmas.List.{append-nil}
use Rattle.std.proofs.lemmas.Grind.{flat_map-append}
use Rattle.std.proofs.lemmas.Slice.Eq.{bytes_eq-Decides}
use Rattle.outside_io.specs.declared.shelf.Place.{Place}
use Rattle.outside_io.specs.Shelf.{NamedFile, Shelved, text_of, laid, same_names, found, Differ, without}
use Rattle.outside_io.specs.Shelf.{replaced, FitIn, LiesAt}
use Rattle.outside_io.proofs.Held.{same_name-bytes_eq}

-- ---- the test of names

is_itself : (name : List ℕ) → same_names name name ≡ true
is_itself name = same_name-bytes_eq name name ∙ (bytes_eq-Decides name name).1 refl

is_another : (name other : List ℕ) → other ≢ name → same_names name other ≡ false
is_another name other differ =
    same_name-bytes_eq name other
    ∙ false_from_ne_true _ (λ same. differ ((bytes_eq-Decides other name).0 same))

same_of : (name other : List ℕ) → same_names name other ≡ true → other ≡ name
same_of name other e = (bytes_eq-Decides other name).0 (sym (same_name-bytes_eq name other) ∙ e)

pub differ_of : (name other : List ℕ) → same_names name other ≡ false → other ≢ name
differ_of name other e same =
    let no : true ≡ false = sym (is_itself name) ∙ ap (same_names name) (sym same) ∙ e in
    cc

none_first : {P : Type 0} {x : List ℕ} → Some x ≡ None → P
none_first some = absurd (let never : ⊥ = cc in never)

-- ---- none of the first is of a name

pub found-behind : (name : List ℕ) (xs ys : List NamedFile) → found name xs ≡ None
    → found name (xs ++ ys) ≡ found name ys
found-behind name [] ys none = refl
found-behind name (x ∷ xs) ys none =
    elim (same_names name x.0) as (λ b. cond b (Some x.1) (found name xs) ≡ None
    → cond b (Some x.1) (found name (xs ++ ys)) ≡ found name ys) [
      | true ↦ λ some. none_first some
      | false ↦ λ rest. found-behind name xs ys rest
    ] none

without-behind : (name : List ℕ) (xs ys : List NamedFile) → found name xs ≡ None
    → without name (xs ++ ys) ≡ xs ++ without name ys
without-behind name [] ys none = refl
without-behind name (x ∷ xs) ys none =
    elim (same_names name x.0) as (λ b. cond b (Some x.1) (found name xs) ≡ None
    → cond b (xs ++ ys) (x ∷ without name (xs ++ ys)) ≡ x ∷ xs ++ without name ys) [
      | true ↦ λ some. none_first some
      | false ↦ λ rest. ap (λ t. x ∷ t) (without-behind name xs ys rest)
    ] none

pub found-first : (name content : List ℕ) (xs ys : List NamedFile) → found name xs ≡ None
    → found name (xs ++ (name, content) ∷ ys) ≡ Some content
found-first name content xs ys none =
    found-behind name xs ((name, content) ∷ ys) none
    ∙ ap (λ b. cond b (Some content) (found name ys)) (is_itself name)

pub found-pushed : (name : List ℕ) (f : NamedFile) (xs : List NamedFile) → found name xs ≡ None
    → f.0 ≢ name → found name (xs ++ f ∷ []) ≡ None
found-pushed name f xs none differ =
    found-behind name xs (f ∷ []) none ∙ ap (λ b. cond b (Some f.1) None) (is_another name f.0 differ)

-- where no file has the name, there is none to take away
pub without-none : (name : List ℕ) (xs : List NamedFile) → found name xs ≡ None → without name xs ≡ xs
without-none name xs none =
    ap (without name) (sym (append-nil xs)) ∙ without-behind name xs [] none ∙ append-nil xs

-- without the file at a place there are those before it and those after it
pub without-there : (name : List ℕ) (fs : List NamedFile) (place : Place) → (there : LiesAt name fs place)
    → there.before ++ there.after ≡ without name fs
without-there name fs place there =
    let f : NamedFile = (name, there.content) in
    sym (without-behind name there.before (f ∷ there.after) there.first
    ∙ ap (λ (b : Bool). there.before ++ cond b there.after (f ∷ without name there.after)) (is_itself name))
    ∙ ap (without name) (sym there.are)

-- ---- files of different names

pub found-without_same : (name : List ℕ) (fs : List NamedFile) → Differ fs
    → found name (without name fs) ≡ None
found-without_same name [] differ = refl
found-without_same name (f ∷ fs) differ =
    elim (same_names name f.0) as (λ b. same_names name f.0 ≡ b
    → found name (cond b fs (f ∷ without name fs)) ≡ None) [
      | true ↦ λ e. ap (λ n. found n fs) (sym (same_of name f.0 e)) ∙ differ.0
      | false ↦ λ e. ap (λ b. cond b (Some f.1) (found name (without name fs))) e
          ∙ found-without_same name fs differ.1
    ] refl

pub found-without_other : (name q : List ℕ) (fs : List NamedFile) → name ≢ q
    → found q (without name fs) ≡ found q fs
found-without_other name q [] other = refl
found-without_other name q (f ∷ fs) other =
    elim (same_names name f.0) as (λ b. same_names name f.0 ≡ b
    → found q (cond b fs (f ∷ without name fs)) ≡ found q (f ∷ fs)) [
      | true ↦ λ e. ap (λ b. cond b (Some f.1) (found q fs))
          (sym (is_another q f.0 (λ same. other (sym (same_of name f.0 e) ∙ same))))
      | false ↦ λ e. ap (λ o. cond (same_names q f.0) (Some f.1) o) (found-without_other name q fs other)
    ] refl

Differ-without : (name : List ℕ) (fs : List NamedFile) → Differ fs → Differ (without name fs)
Differ-without name [] differ = tt
Differ-without name (f ∷ fs) differ =
    elim (same_names name f.0) as (λ b. same_names name f.0 ≡ b → Differ (cond b fs (f ∷ without name fs))) [
      | true ↦ λ e. differ.1
      | false ↦ λ e. (
        found-without_other name f.0 fs (λ same. differ_of name f.0 e (sym same)) ∙ differ.0,
        Differ-without name fs differ.1,
      )
    ] refl

Differ-push : (name content : List ℕ) (fs : List NamedFile) → Differ fs → found name fs ≡ None
    → Differ (fs ++ (name, content) ∷ [])
Differ-push name content [] differ none = (refl, tt)
Differ-push name content (f ∷ fs) differ none =
    elim (same_names name f.0) as (λ b. same_names name f.0 ≡ b → cond b (Some f.1) (found name fs) ≡ None
    → Differ (f ∷ fs ++ (name, content) ∷ [])) [
      | true ↦ λ e some. none_first some
      | false ↦ λ e rest. (
        found-pushed f.0 (name, content) fs differ.0 (λ same. differ_of name f.0 e (sym same)),
        Differ-push name content fs differ.1 rest,
      )
    ] refl none

pub Differ-replaced : (name content : List ℕ) (fs : List NamedFile) → Differ fs
    → Differ (replaced name content fs)
Differ-replaced name content fs differ =
    let left = Differ-without name fs differ in
    Differ-push name content (without name fs) left (found-without_same name fs differ)

-- ---- how much there is

pub length-laid : (f : NamedFile) (fs : List NamedFile)
    → length (laid (f ∷ fs)) ≡ length f.0 + length f.1 + length (laid fs)
length-laid f fs = simp length-append

length-laid-push : (fs : List NamedFile) (f : NamedFile)
    → length (laid (fs ++ f ∷ [])) ≡ length (laid fs) + (length f.0 + length f.1)
length-laid-push fs f = ap length (flat_map-append text_of fs (f ∷ [])) ∙ simp length-append (omega arith)

-- one file less, with its name and its content
abbrev IsLess : List ℕ → List NamedFile → List NamedFile → List ℕ → Type 0
IsLess name left fs content = (length left + 1 ≡ length fs)
    × (length (laid left) + (length name + length content) ≡ length (laid fs))

less_again : (name : List ℕ) (f : NamedFile) (fs left : List NamedFile) (o : Option (List ℕ))
    → MatchOption o (left ≡ fs) (IsLess name left fs)
    → MatchOption o (f ∷ left ≡ f ∷ fs) (IsLess name (f ∷ left) (f ∷ fs))
less_again name f fs left None same = ap (λ t. f ∷ t) same
less_again name f fs left (Some content) both =
    let fewer = both.0 in
    let less = both.1 in
    (omega arith, rw (length-laid f left, length-laid f fs) (omega arith))

less-without : (name : List ℕ) (fs : List NamedFile)
    → MatchOption (found name fs) (without name fs ≡ fs) (IsLess name (without name fs) fs)
less-without name [] = refl
less-without name (f ∷ fs) =
    let rest : List NamedFile = f ∷ without name fs in
    elim (same_names name f.0) as (λ b. same_names name f.0 ≡ b
    → MatchOption (cond b (Some f.1) (found name fs)) (cond b fs rest ≡ f ∷ fs)
    (IsLess name (cond b fs rest) (f ∷ fs))) [
      | true ↦ λ e. (
        omega arith,
        let same = ap length (same_of name f.0 e) in rw (length-laid f fs) (omega arith),
      )
      | false ↦ λ e. less_again name f fs (without name fs) (found name fs) (less-without name fs)
    ] refl

less-found : (name content : List ℕ) (fs : List NamedFile) → found name fs ≡ Some content
    → IsLess name (without name fs) fs content
less-found name content fs e =
    let left : List NamedFile = without name fs in
    subst (λ o. MatchOption o (left ≡ fs) (IsLess name left fs)) e (less-without name fs)

-- ---- whether a file fits

-- how many places there are left, and how much room
pub record IsLeft (s : Shelved) (places room : ℕ) : Type 0 where
  pub places_left : places + length s.files ≡ s.names
  pub room_left : room + length (laid s.files) ≡ s.room

pub is_left : (s : Shelved) (places room : ℕ) → places + length s.files ≡ s.names
    → room + length (laid s.files) ≡ s.room → IsLeft s places room
is_left s places room p r = record { places_left = p; room_left = r }

there_fits : (s : Shelved) (name content old : List ℕ) (places room : ℕ) → IsLeft s places room
    → found name s.files ≡ Some old → length content ≤ room + length old
    → FitIn s (replaced name content s.files)
there_fits s name content old places room left there short =
    let both = less-found name old s.files there in
    let fewer = both.0 in
    let less = both.1 in
    let count = left.places_left in
    let size = left.room_left in
    let more = length-laid-push (without name s.files) (name, content) in
    record { places = simp length-append (omega arith); bytes = omega arith }

fits_there_only : (s : Shelved) (name content old : List ℕ) (places room : ℕ) → IsLeft s places room
    → found name s.files ≡ Some old → FitIn s (replaced name content s.files)
    → length content ≤ room + length old
fits_there_only s name content old places room left there fits =
    let less = (less-found name old s.files there).1 in
    let size = left.room_left in
    let bytes = fits.bytes in
    let more = length-laid-push (without name s.files) (name, content) in
    omega arith

-- the test of a file whose name is there
pub fits_there : (s : Shelved) (name content old : List ℕ) (places room over : ℕ) → IsLeft s places room
    → Some old ≡ found name s.files → over ≡ length content - room
    → Decides (nat_le over (length old)) (FitIn s (replaced name content s.files))
fits_there s name content old places room over left there is =
    let is_there = sym there in (
      λ e. let less = leb-true _ _ e in there_fits s name content old places room left is_there (omega arith),
      λ fits.
          let less = fits_there_only s name content old places room left is_there fits in
          le-leb _ _ (omega arith),
    )

-- what a file whose name isn't there adds
record IsMore (s : Shelved) (name content : List ℕ) : Type 0 where
  count : length (replaced name content s.files) ≡ length s.files + 1
  size : length (laid (replaced name content s.files))
      ≡ length (laid s.files) + (length name + length content)

more-replaced : (s : Shelved) (name content : List ℕ) → found name s.files ≡ None → IsMore s name content
more-replaced s name content none =
    let f : NamedFile = (name, content) in
    let all : replaced name content s.files ≡ s.files ++ f ∷ [] =
    ap (λ (fs : List NamedFile). fs ++ f ∷ []) (without-none name s.files none) in
    record {
      count = ap (λ (fs : List NamedFile). length fs) all ∙ length-append s.files (f ∷ []);
      size = ap (λ (fs : List NamedFile). length (laid fs)) all ∙ length-laid-push s.files f;
    }

-- the test of a file whose name isn't there, where there is a place left
pub fits_new : (s : Shelved) (name content : List ℕ) (places room : ℕ) → IsLeft s places room
    → None ≡ found name s.files → 0 < places
    → Decides (nat_le (length name + length content) room) (FitIn s (replaced name content s.files))
fits_new s name content places room left none free =
    let more = more-replaced s name content (sym none) in
    let count = more.count in
    let size = more.size in
    let rest = left.places_left in
    let inside = left.room_left in (
      λ e. let short = leb-true _ _ e in record { places = omega arith; bytes = omega arith },
      λ fits. let bytes = fits.bytes in le-leb _ _ (omega arith),
    )

-- and where there is none
pub fits_nowhere : (s : Shelved) (name content : List ℕ) (places room : ℕ) → IsLeft s places room
    → None ≡ found name s.files → places ≤ 0
    → Decides (nat_lt 0 places) (FitIn s (replaced name content s.files))
fits_nowhere s name content places room left none full =
    let count = (more-replaced s name content (sym none)).count in
    let rest = left.places_left in (
      λ e. absurd (let free : 0 < places = ltb-true _ _ e in omega arith),
      λ fits. absurd (let places = fits.places in omega arith),
    )
