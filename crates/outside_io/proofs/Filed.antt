-- Files in a row, as a map of names: what it holds after one is put, and how much.
use Rattle.std.proofs.Common.{◌≡◌, ℕ, ◌+◌, Bool, true, false, cond, List, [], ◌∷◌, length, Option, Some, None}
use Rattle.std.proofs.Common.{refl, sym, ap, subst, ◌∙◌, arith}
use Rattle.std.specs.Prelude.{is_some, sum_by}
use Rattle.std.specs.Bool.{Decides}
use Rattle.std.specs.Ordering.{nat_cmp, is_eq}
use Rattle.std.specs.Cmp.Lexicographic.{slice_cmp, nat_list_cmp_total}
use Rattle.std.specs.declared.cmp.Ordering.TheVariants.{Less, Equal, Greater}
use Rattle.std.specs.FinMap as finite
use Rattle.std.specs.FinMap.Entries.{put, by_order}
use Rattle.std.proofs.lemmas.List.Sums.{sum_by-cons}
use Rattle.outside_io.specs.FileCounts.{FileCounts}
use Rattle.outside_io.specs.Memory.{FilesByName, HeldFiles, no_calls}
use Rattle.outside_io.specs.Shelf.{NamedFile, Shelved, laid, same_names, found, Differ, without}
use Rattle.outside_io.specs.Shelf.{replaced, FitIn}
use Rattle.outside_io.specs.SafeFiles.{SafeHeld, bytes_in, KeepsNumbers, held_of, holding}
use Rattle.outside_io.proofs.Named.{differ_of, found-without_same, found-without_other, Differ-replaced}
use Rattle.outside_io.proofs.Named.{length-laid}

abbrev map_of : List NamedFile → FilesByName
map_of fs = finite.from_entries fs

get-map_of : (fs : List NamedFile) (q : List ℕ) → finite.get (map_of fs) q ≡ found q fs
get-map_of fs q = finite.get-from_entries nat_list_cmp_total fs q

-- ---- a file put

others_same : (name content q : List ℕ) (fs : List NamedFile)
    → cond (same_names q name) (Some content) (found q (without name fs))
    ≡ cond (same_names q name) (Some content) (found q fs)
others_same name content q fs =
    elim (same_names q name) as (λ b. same_names q name ≡ b
    → cond b (Some content) (found q (without name fs)) ≡ cond b (Some content) (found q fs)) [
      | true ↦ λ e. refl
      | false ↦ λ e. found-without_other name q fs (differ_of q name e)
    ] refl

get-insert_in : (fs : List NamedFile) (name content q : List ℕ)
    → finite.get (finite.insert (map_of fs) name content) q
    ≡ cond (same_names q name) (Some content) (found q fs)
get-insert_in fs name content q =
    finite.get-insert nat_list_cmp_total (map_of fs) name content q
    ∙ ap (cond (same_names q name) (Some content)) (get-map_of fs q)

-- a file put among those in the row is one put in the map
map_of-replaced : (name content : List ℕ) (fs : List NamedFile) → Differ fs
    → map_of (replaced name content fs) ≡ finite.insert (map_of fs) name content
map_of-replaced name content fs differ =
    let alone = finite.slice_cmp-IsAntisymmetric finite.nat_cmp-IsAntisymmetric in
    let none = found-without_same name fs differ in
    finite.from_entries_push nat_list_cmp_total alone (without name fs) name content none
    ∙ finite.same_map nat_list_cmp_total alone _ _ (λ q. get-insert_in (without name fs) name content q
    ∙ others_same name content q fs ∙ sym (get-insert_in fs name content q))

-- ---- how much there is

len-map_of : (fs : List NamedFile) → Differ fs → finite.len (map_of fs) ≡ length fs
len-map_of [] differ = finite.len-empty (slice_cmp nat_cmp) (List ℕ)
len-map_of (f ∷ fs) differ =
    let m : FilesByName = map_of fs in
    let new : is_some (finite.get m f.0) ≡ false = ap is_some (get-map_of fs f.0 ∙ differ.0) in
    finite.len-insert nat_list_cmp_total m f.0 f.1
    ∙ ap (λ b. cond b (finite.len m) (finite.len m + 1)) new
    ∙ (let rest = len-map_of fs differ.1 in omega arith)

abbrev size_of : NamedFile → ℕ
size_of f = length f.0 + length f.1

abbrev put_in : List ℕ → List ℕ → List NamedFile → List NamedFile
put_in = put (slice_cmp nat_cmp)

sum_by-put_in : (name content : List ℕ) (es : List NamedFile) → found name es ≡ None
    → sum_by size_of (put_in name content es) ≡ sum_by size_of es + (length name + length content)
sum_by-put_in name content [] none = omega arith
sum_by-put_in name content (e ∷ es) none =
    let new : NamedFile = (name, content) in
    let cons = sum_by-cons size_of e es in
    elim (slice_cmp nat_cmp name e.0) as (λ r. cond (is_eq r) (Some e.1) (found name es) ≡ None
    → sum_by size_of (by_order r (new ∷ e ∷ es) ((e.0, content) ∷ es) (e ∷ put_in name content es))
    ≡ sum_by size_of (e ∷ es) + (length name + length content)) [
      | Less ↦ λ rest. sum_by-cons size_of new (e ∷ es) ∙ omega arith
      | Equal ↦ λ some. absurd (let never : ⊥ = cc in never)
      | Greater ↦ λ rest.
          let more = sum_by-put_in name content es rest in
          sum_by-cons size_of e (put_in name content es) ∙ omega arith
    ] none

bytes_in-insert : (files : FilesByName) (name content : List ℕ) → finite.get files name ≡ None
    → bytes_in (finite.insert files name content) ≡ bytes_in files + (length name + length content)
bytes_in-insert files name content none =
    ap (sum_by size_of) (finite.entries-insert nat_list_cmp_total files name content)
    ∙ sum_by-put_in name content (finite.entries files) (sym (finite.get-entries files name) ∙ none)

none_of_length : {es : List NamedFile} → length es ≡ 0 → es ≡ []
none_of_length {es = []} e = refl
none_of_length {es = e ∷ es} zero_length = absurd (omega arith)

bytes_in-map_of : (fs : List NamedFile) → Differ fs → bytes_in (map_of fs) ≡ length (laid fs)
bytes_in-map_of [] differ =
    let none = sym (finite.len-entries _) ∙ finite.len-empty (slice_cmp nat_cmp) (List ℕ) in
    ap (sum_by size_of) (none_of_length none)
bytes_in-map_of (f ∷ fs) differ =
    let rest = bytes_in-map_of fs differ.1 in
    let all = length-laid f fs in
    bytes_in-insert (map_of fs) f.0 f.1 (get-map_of fs f.0 ∙ differ.0) ∙ omega arith

-- ---- the two numbers

-- the map keeps within them where the row fits
keeps-replaced : (s : Shelved) (counts : FileCounts) (name content : List ℕ) → Differ s.files
    → FitIn s (replaced name content s.files) → KeepsNumbers (holding (held_of s counts) name content)
keeps-replaced s counts name content differ fits =
    let after = Differ-replaced name content s.files differ in
    let files = map_of-replaced name content s.files differ in
    let count = ap finite.len (sym files) ∙ len-map_of (replaced name content s.files) after in
    let size = ap bytes_in (sym files) ∙ bytes_in-map_of (replaced name content s.files) after in
    let places = fits.places in
    let bytes = fits.bytes in
    record { names = omega arith; room = omega arith }

-- and only there
fits-replaced : (s : Shelved) (counts : FileCounts) (name content : List ℕ) → Differ s.files
    → KeepsNumbers (holding (held_of s counts) name content) → FitIn s (replaced name content s.files)
fits-replaced s counts name content differ keeps =
    let after = Differ-replaced name content s.files differ in
    let files = map_of-replaced name content s.files differ in
    let count = ap finite.len (sym files) ∙ len-map_of (replaced name content s.files) after in
    let size = ap bytes_in (sym files) ∙ bytes_in-map_of (replaced name content s.files) after in
    let names = keeps.names in
    let room = keeps.room in
    record { places = omega arith; bytes = omega arith }

pub keeps_none : (s : Shelved) (counts : FileCounts) → s.files ≡ [] → KeepsNumbers (held_of s counts)
keeps_none s counts none = record {
  names = rw none (let zero_length = len-map_of [] tt in omega arith);
  room = rw none (let no_bytes = bytes_in-map_of [] tt in omega arith);
}

-- what the row told, as the map has it
pub keeps_as : (s : Shelved) (counts : FileCounts) (held : SafeHeld) (lent name content : List ℕ) (b : Bool)
    → held_of s counts ≡ held → lent ≡ name → Differ s.files
    → Decides b (FitIn s (replaced lent content s.files))
    → Decides b (KeepsNumbers (holding held name content))
keeps_as s counts held lent name content b is same differ told =
    let moved : holding (held_of s counts) lent content ≡ holding held name content =
    ap (λ (h : SafeHeld). holding h lent content) is ∙ ap (λ (n : List ℕ). holding held n content) same in (
      λ e. subst KeepsNumbers moved (keeps-replaced s counts lent content differ (told.0 e)),
      λ keeps. told.1 (fits-replaced s counts lent content differ (subst KeepsNumbers (sym moved) keeps)),
    )

pub held_after : (s new : Shelved) (counts : FileCounts) (held : SafeHeld) (lent name content : List ℕ)
    → held_of s counts ≡ held → lent ≡ name → Differ s.files
    → new ≡ record s { files = replaced lent content s.files }
    → held_of new counts ≡ holding held name content
held_after s new counts held lent name content is same differ is_put =
    ap (λ (n : Shelved). held_of n counts) is_put
    ∙ ap (λ (m : FilesByName). record (held_of s counts) { files = m })
    (map_of-replaced lent content s.files differ)
    ∙ ap (λ (h : SafeHeld). holding h lent content) is ∙ ap (λ (n : List ℕ). holding held n content) same

pub keeps_put : (s new : Shelved) (counts : FileCounts) (name content : List ℕ) → Differ s.files
    → FitIn s (replaced name content s.files) → new ≡ record s { files = replaced name content s.files }
    → KeepsNumbers (held_of new counts)
keeps_put s new counts name content differ fits is_put =
    let after = held_after s new counts (held_of s counts) name name content refl refl differ is_put in
    subst KeepsNumbers (sym after) (keeps-replaced s counts name content differ fits)

pub get_held : (s : Shelved) (counts : FileCounts) (held : SafeHeld) (lent name : List ℕ)
    (o : Option (List ℕ)) → held_of s counts ≡ held → lent ≡ name → o ≡ found lent s.files
    → finite.get held.files name ≡ o
get_held s counts held lent name o is same told =
    ap (λ (h : SafeHeld). finite.get h.files name) (sym is) ∙ get-map_of s.files name
    ∙ ap (λ (n : List ℕ). found n s.files) (sym same) ∙ sym told

-- as files in memory of which no call is set to fail
abbrev pub as_held : SafeHeld → HeldFiles
as_held held = record { files = held.files; calls = no_calls; counts = held.counts }
