-- Files that lie one after the other in reserved memory, and their lengths beside them.
use Rattle.std.specs.Prelude.{◌≡◌, ℕ, ◌+◌, ◌≤◌, List, [], ◌∷◌, ◌++◌, length, take, drop, map}
use Rattle.std.specs.Prelude.{Bool, Option, None, if◌then◌else◌}
use Rattle.std.specs.List.{flat_map}
use Rattle.std.specs.Ordering.{nat_cmp, eq_by_cmp}
use Rattle.std.specs.Cmp.Lexicographic.{slice_cmp}
use Rattle.std.specs.FinMap as finite
use Rattle.outside_io.specs.declared.shelf.FileLen.{FileLen}
use Rattle.outside_io.specs.declared.shelf.Place.{Place}

-- a file's name, and its bytes
abbrev pub NamedFile : Type 0
NamedFile = List ℕ × List ℕ

-- files in the order in which they lie, for how many of them there are places, and for how many bytes of
-- names and contents there is room
pub record Shelved : Type 0 where
  pub files : List NamedFile
  pub names : ℕ
  pub room : ℕ

-- ---- how they lie

-- a name, and its content after it
abbrev pub text_of : NamedFile → List ℕ
text_of f = f.0 ++ f.1

abbrev pub len_of : NamedFile → FileLen
len_of f = record { name = length f.0; content = length f.1 }

-- the bytes as they lie
abbrev pub laid : List NamedFile → List ℕ
laid files = flat_map text_of files

-- and their lengths
abbrev pub lens_of : List NamedFile → List FileLen
lens_of files = map len_of files

-- the files of these lengths that lie in the bytes
abbrev pub files_in : List FileLen → List ℕ → List NamedFile
files_in [] bytes = []
files_in (l ∷ ls) bytes =
    let rest = drop l.name bytes in
    (take l.name bytes, take l.content rest) ∷ files_in ls (drop l.content rest)

-- the lengths and the bytes are those of the files that lie there
pub record AreLaid (lens : List FileLen) (bytes : List ℕ) : Type 0 where
  pub lengths : lens_of (files_in lens bytes) ≡ lens
  pub texts : laid (files_in lens bytes) ≡ bytes

-- ---- names

abbrev pub same_names : List ℕ → List ℕ → Bool
same_names = eq_by_cmp (slice_cmp nat_cmp)

-- the content of the first file of this name
abbrev pub found : List ℕ → List NamedFile → Option (List ℕ)
found name files = finite.find (slice_cmp nat_cmp) name files

-- no two files have one name
abbrev pub Differ : List NamedFile → Type 0
Differ [] = Unit {0}
Differ (f ∷ fs) = (found f.0 fs ≡ None) × Differ fs

-- the files without the first one of this name
abbrev pub without : List ℕ → List NamedFile → List NamedFile
without name [] = []
without name (f ∷ fs) = if same_names name f.0 then fs else f ∷ without name fs

-- the files with one of this name and this content after the others, in place of the first one of the name
abbrev pub replaced : List ℕ → List ℕ → List NamedFile → List NamedFile
replaced name content files = without name files ++ (name, content) ∷ []

-- there are places and there is room for the files
pub record FitIn (shelf : Shelved) (files : List NamedFile) : Type 0 where
  pub places : length files ≤ shelf.names
  pub bytes : length (laid files) ≤ shelf.room

-- the first file of this name lies at this place
pub record LiesAt (name : List ℕ) (files : List NamedFile) (place : Place) : Type 0 where
  pub before : List NamedFile
  pub content : List ℕ
  pub after : List NamedFile
  pub are : files ≡ before ++ (name, content) ∷ after
  pub first : found name before ≡ None
  pub index : place.index ≡ length before
  pub start : place.start ≡ length (laid before)
  pub middle : place.middle ≡ place.start + length name
  pub stop : place.stop ≡ place.middle + length content
