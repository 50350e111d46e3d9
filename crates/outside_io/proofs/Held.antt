-- Files in memory: what a map of texts holds by name, before and after one is put.
use Rattle.std.proofs.Common.{◌≡◌, ◌≢◌, ℕ, ◌-◌, ◌<◌, Bool, true, false, cond, List, [], ◌∷◌, length, take}
use Rattle.std.proofs.Common.{drop, min, map, Option, Some, None, Result, Ok, Err, refl, sym, ap, subst, ◌∙◌}
use Rattle.std.proofs.Common.{arith, ⊎_elim, string_bytes}
use Rattle.std.specs.Prelude.{is_some, is_err, IsNone, IsTrue, OnOk, option_map, ◌↔◌, ◌⊎◌}
use Rattle.std.specs.Ordering.{nat_cmp, eq_by_cmp}
use Rattle.std.specs.Cmp.Lexicographic.{slice_cmp, nat_list_cmp_total}
use Rattle.std.specs.String.{string_cmp}
use Rattle.std.specs.Str.{bytes_eq}
use Rattle.std.specs.BTreeMap as tree
use Rattle.std.specs.Map.{lookup}
use Rattle.std.specs.FinMap as finite
use Rattle.std.specs.declared.alloc.Global.{Global}
use Rattle.std.specs.declared.string.String.{String}
use Rattle.std.specs.declared.vec.Vec.{Vec}
use Rattle.std.proofs.lemmas.Bool.{false_from_ne_true, false≢true}
use Rattle.std.proofs.lemmas.Cmp.{eq_by_cmp_equiv}
use Rattle.std.proofs.lemmas.Map.Text.{btree_map_updates_text, is_eq-slice_cmp}
use Rattle.std.proofs.lemmas.Slice.Eq.{bytes_eq-Decides}
use Rattle.outside_io.specs.FileCounts.{FileCounts, with_given, with_put, seen_with}
use Rattle.outside_io.specs.FilesSeen.{GivesPart, Puts}
use Rattle.outside_io.specs.Memory.{FilesByName, files_of, HeldFiles, CallNumbers, NextFails, file_named}
use Rattle.outside_io.specs.Memory.{seen_of_files}

-- the map in the code
abbrev TextMap : Type 0
TextMap = tree.BTreeMap (String Global) (Vec ℕ Global)

option_map-cond : {X Y : Type 0} (f : X → Y) (b : Bool) (x : X) (o : Option X)
    → option_map f (cond b (Some x) o) ≡ cond b (Some (f x)) (option_map f o)
option_map-cond f true x o = refl
option_map-cond f false x o = refl

-- the look-up of a name, in the files and in the map
find-map : (q : List ℕ) (es : List (String Global × Vec ℕ Global))
    → finite.find (slice_cmp nat_cmp) q (map (λ e. (string_bytes e.0, e.1.items)) es)
    ≡ option_map (λ v. v.items) (lookup (tree.is_at (λ k. slice_cmp nat_cmp q (string_bytes k))) es)
find-map q [] = refl
find-map q (e ∷ es) =
    ap (λ (o : Option (List ℕ)). cond (eq_by_cmp (slice_cmp nat_cmp) q (string_bytes e.0)) (Some e.1.items) o)
    (find-map q es) ∙ sym (option_map-cond (λ (v : Vec ℕ Global). v.items)
    (eq_by_cmp (slice_cmp nat_cmp) q (string_bytes e.0)) e.1 _)

pub get-files_of : (m : TextMap) (q : List ℕ)
    → finite.get (files_of m.entries) q ≡ option_map (λ v. v.items) (tree.get_by_text m q)
get-files_of m q = finite.get-from_entries nat_list_cmp_total _ q ∙ find-map q m.entries

pub same_name-bytes_eq : (q name : List ℕ) → eq_by_cmp (slice_cmp nat_cmp) q name ≡ bytes_eq name q
same_name-bytes_eq q name = (eq_by_cmp_equiv nat_list_cmp_total).symm q name ∙ is_eq-slice_cmp name q

get-insert_by_bytes : (files : FilesByName) (name bytes q : List ℕ)
    → finite.get (finite.insert files name bytes) q ≡ cond (bytes_eq name q) (Some bytes) (finite.get files q)
get-insert_by_bytes files name bytes q =
    finite.get-insert nat_list_cmp_total files name bytes q
    ∙ ap (λ (b : Bool). cond b (Some bytes) (finite.get files q)) (same_name-bytes_eq q name)

option_map-update : (b : Bool) (v : Vec ℕ Global) (o : Option (Vec ℕ Global))
    → option_map (λ v. v.items) (cond b (Some v) o) ≡ cond b (Some v.items) (option_map (λ v. v.items) o)
option_map-update b v o = option_map-cond (λ (v : Vec ℕ Global). v.items) b v o

-- an insert in the map is an insert among the files
pub files_of-insert : (old new : TextMap) (key : String Global) (content : Vec ℕ Global)
    → tree.UpdatesBy string_cmp (string_cmp key) old new (Some content)
    → files_of new.entries ≡ finite.insert (files_of old.entries) (string_bytes key) content.items
files_of-insert old new key content updates =
    finite.same_map nat_list_cmp_total (finite.slice_cmp-IsAntisymmetric finite.nat_cmp-IsAntisymmetric) _ _
    (λ q.
    get-files_of new q
    ∙ ap (λ (o : Option (Vec ℕ Global)). option_map (λ v. v.items) o)
    (btree_map_updates_text (string_bytes key) old new (Some content) updates q)
    ∙ option_map-update (bytes_eq (string_bytes key) q) content (tree.get_by_text old q)
    ∙ ap (λ (o : Option (List ℕ)). cond (bytes_eq (string_bytes key) q) (Some content.items) o)
    (sym (get-files_of old q))
    ∙ sym (get-insert_by_bytes (files_of old.entries) (string_bytes key) content.items q))

-- a file that the map has, by its name
pub file_named-there : (held : HeldFiles) (m : TextMap) (name : List ℕ) (file : Vec ℕ Global)
    → files_of m.entries ≡ held.files → Some file ≡ tree.get_by_text m name
    → file_named held name ≡ Some file.items
file_named-there held m name file same there =
    ap (λ (files : FilesByName). finite.get files name) (sym same) ∙ get-files_of m name
    ∙ ap (λ (o : Option (Vec ℕ Global)). option_map (λ v. v.items) o) (sym there)

-- and one that it hasn't
pub file_named-missing : (held : HeldFiles) (m : TextMap) (name : List ℕ) → files_of m.entries ≡ held.files
    → None ≡ tree.get_by_text m name → IsNone (file_named held name)
file_named-missing held m name same missing =
    ap is_some (ap (λ (files : FilesByName). finite.get files name) (sym same) ∙ get-files_of m name
    ∙ ap (λ (o : Option (Vec ℕ Global)). option_map (λ v. v.items) o) (sym missing))

pub get-insert_same : (files : FilesByName) (name bytes : List ℕ)
    → finite.get (finite.insert files name bytes) name ≡ Some bytes
get-insert_same files name bytes =
    get-insert_by_bytes files name bytes name
    ∙ ap (λ (b : Bool). cond b (Some bytes) (finite.get files name)) ((bytes_eq-Decides name name).1 refl)

pub get-insert_other : (files : FilesByName) (name bytes q : List ℕ) → q ≢ name
    → finite.get (finite.insert files name bytes) q ≡ finite.get files q
get-insert_other files name bytes q other =
    get-insert_by_bytes files name bytes q ∙ ap (λ (b : Bool). cond b (Some bytes) (finite.get files q))
    (false_from_ne_true _ (λ same. other (sym ((bytes_eq-Decides name q).0 same))))

-- a put that went, as the trait says it
pub Puts-insert : (old new : HeldFiles) (name bytes : List ℕ) → new.files ≡ finite.insert old.files name bytes
    → new.counts ≡ with_put old.counts → Puts (seen_of_files old) (seen_of_files new) name bytes
Puts-insert old new name bytes files counts = record {
  told = ap (λ (f : FilesByName). finite.get f name) files ∙ get-insert_same old.files name bytes;
  others = λ q other. ap (λ (f : FilesByName). finite.get f q) files
      ∙ get-insert_other old.files name bytes q other;
  stays = ap (λ (c : FileCounts). seen_with (Some (file_named new)) c) counts;
}

-- a read of a file that is there, as the trait says it
pub GivesPart-held : (old new : HeldFiles) (name file buffer : List ℕ) (at n : ℕ)
    → file_named old name ≡ Some file → 0 < length buffer → n ≡ min (length buffer) (length file - at)
    → take n buffer ≡ take n (drop at file) → new.files ≡ old.files → new.counts ≡ with_given old.counts n
    → GivesPart (seen_of_files old) (seen_of_files new) name at n buffer
GivesPart-held old new name file buffer at n there room count same files counts = record {
  fits = omega arith;
  told = rw there (record { within = omega arith; same = same; ended = λ none. omega arith });
  stays = ap (λ (f : FilesByName). seen_with (Some (finite.get f)) new.counts) files
      ∙ ap (λ (c : FileCounts). seen_with (Some (file_named old)) c) counts;
}

pub on_ok_not_err : {T E P : Type 0} (r : Result T E) → is_err r ≡ false → OnOk r P → P
on_ok_not_err (Ok x) ok h = h
on_ok_not_err (Err e) ok h = absurd (false≢true (sym ok))

-- a read that went: its call was not set, and its file is there
pub fails_nowhere : (is_set : Bool) (inside calls : CallNumbers) (found : Option (List ℕ)) (file : List ℕ)
    → inside ≡ calls → IsTrue is_set ↔ NextFails inside → is_set ≡ false → found ≡ Some file
    → (false ≡ true → NextFails calls ⊎ IsNone found) × (NextFails calls ⊎ IsNone found → false ≡ true)
fails_nowhere is_set inside calls found file same fails unset there = (
  λ e. absurd (false≢true e),
  ⊎_elim (λ next. sym unset ∙ fails.1 (subst NextFails (sym same) next))
      (λ none. absurd (false≢true (sym none ∙ ap is_some there))),
)

-- a read that failed, for one of the two causes
pub fails_here : {P : Type 0} → P → (true ≡ true → P) × (P → true ≡ true)
fails_here p = (λ _. p, λ _. refl)

-- a read that went, of a file that is there
pub fails_not : {found : Option (List ℕ)} {file : List ℕ} → found ≡ Some file
    → (false ≡ true → IsNone found) × (IsNone found → false ≡ true)
fails_not there = (λ e. absurd (false≢true e), λ none. absurd (false≢true (sym none ∙ ap is_some there)))

pub set_call : (is_set : Bool) (inside calls : CallNumbers) → inside ≡ calls
    → IsTrue is_set ↔ NextFails inside → is_set ≡ true → NextFails calls
set_call is_set inside calls same fails set = subst NextFails same (fails.0 set)
