-- Files that lie one after the other: what their lengths and their bytes say of them.
use Rattle.std.proofs.Common.{◌≡◌, ℕ, suc, ◌+◌, ◌-◌, ◌<◌, ◌≤◌, Bool, List, [], ◌∷◌, ◌++◌, length, get_or}
use Rattle.std.proofs.Common.{take, drop, Some, None, refl, sym, ap, subst, ◌∙◌, arith}
use Rattle.std.proofs.Common.{append_assoc, length-append, drop-cons}
use Rattle.std.specs.Prelude.{nat_eq}
use Rattle.std.specs.Bool.{Decides}
use Rattle.std.specs.List.{remove, remove_range}
use Rattle.std.specs.Cmp.Lexicographic.{pointwise}
use Rattle.std.proofs.Math.Seq.{take-append_seam, drop-append_seam, drop-append-add}
use Rattle.std.proofs.lemmas.Bool.Decides.{Decides-eqb}
use Rattle.std.proofs.lemmas.List.{map-append, append-nil, take-append-drop, take_more, get_or-map}
use Rattle.std.proofs.lemmas.List.{length-map, length-take-le}
use Rattle.std.proofs.lemmas.Grind.{flat_map-append}
use Rattle.std.proofs.lemmas.Slice.Eq.{slice_eq-Decides}
use Rattle.outside_io.specs.declared.shelf.FileLen.{FileLen}
use Rattle.outside_io.specs.declared.shelf.Place.{Place}
use Rattle.outside_io.specs.Shelf.{NamedFile, text_of, len_of, laid, lens_of, files_in, AreLaid}
use Rattle.outside_io.specs.Shelf.{found, LiesAt}
use Rattle.outside_io.proofs.Named.{found-pushed, found-first}

-- ---- lists

text_first : (name content after : List ℕ) → (name ++ content) ++ after ≡ name ++ (content ++ after)
text_first name content after = append_assoc name content after

-- what stands between a front and a back, and what is left without it
cut_out : (before inner after : List ℕ) (start stop : ℕ) → start ≡ length before
    → stop ≡ start + length inner → remove_range (before ++ (inner ++ after)) start stop ≡ before ++ after
cut_out before inner after start stop s e =
    let at : stop ≡ length before + length inner = omega arith in
    rw (
      at,
      s,
      take-append_seam before (inner ++ after),
      drop-append-add before (inner ++ after) (length inner),
      drop-append_seam inner after,
    ) refl

cut_one : {A : Type 0} (before after : List A) (x : A) (i : ℕ) → i ≡ length before
    → remove (before ++ x ∷ after) i ≡ before ++ after
cut_one {A = A} before after x i e =
    let next : suc i ≡ length (before ++ x ∷ []) = simp length-append (omega arith) in
    let all : List A = before ++ x ∷ after in
    let parted : all ≡ (before ++ x ∷ []) ++ after = sym (append_assoc before (x ∷ []) after) in
    ap (λ (n : ℕ). take n all ++ drop (suc i) all) e
    ∙ ap (λ (t : List A). t ++ drop (suc i) all) (take-append_seam before (x ∷ after))
    ∙ ap (λ (l : List A). before ++ drop (suc i) l) parted
    ∙ ap (λ (n : ℕ). before ++ drop n ((before ++ x ∷ []) ++ after)) next
    ∙ ap (λ (t : List A). before ++ t) (drop-append_seam (before ++ x ∷ []) after)

-- ---- the files of their lengths and bytes

first_of_all : (name content : List ℕ) (fs : List NamedFile) (rest : List ℕ) → files_in (lens_of fs) rest ≡ fs
    → files_in (lens_of ((name, content) ∷ fs)) ((name ++ content) ++ rest) ≡ (name, content) ∷ fs
first_of_all name content fs rest tail =
    rw (
      text_first name content rest,
      take-append_seam name (content ++ rest),
      drop-append_seam name (content ++ rest),
      take-append_seam content rest,
      drop-append_seam content rest,
      tail,
    ) refl

pub files_in-laid : (fs : List NamedFile) → files_in (lens_of fs) (laid fs) ≡ fs
files_in-laid [] = refl
files_in-laid (f ∷ fs) = first_of_all f.0 f.1 fs (laid fs) (files_in-laid fs)

-- the lengths and the bytes are those of some files
pub record Lie (fs : List NamedFile) (lens : List FileLen) (bytes : List ℕ) : Type 0 where
  pub lengths : lens ≡ lens_of fs
  pub texts : bytes ≡ laid fs

pub lie : (fs : List NamedFile) (lens : List FileLen) (bytes : List ℕ) → AreLaid lens bytes
    → files_in lens bytes ≡ fs → Lie fs lens bytes
lie fs lens bytes are same = record {
  lengths = sym are.lengths ∙ ap lens_of same;
  texts = sym are.texts ∙ ap laid same;
}

pub files_of : (fs : List NamedFile) (lens : List FileLen) (bytes : List ℕ) → Lie fs lens bytes
    → files_in lens bytes ≡ fs
files_of fs lens bytes they =
    ap (λ (ls : List FileLen). files_in ls bytes) they.lengths ∙ ap (files_in (lens_of fs)) they.texts
    ∙ files_in-laid fs

pub are_laid : (fs : List NamedFile) (lens : List FileLen) (bytes : List ℕ) → Lie fs lens bytes
    → AreLaid lens bytes
are_laid fs lens bytes they =
    let same = files_of fs lens bytes they in
    record { lengths = ap lens_of same ∙ sym they.lengths; texts = ap laid same ∙ sym they.texts }

-- one more file after the others
pub lie-push : (fs : List NamedFile) (lens new : List FileLen) (bytes mid end : List ℕ) (f : NamedFile)
    → Lie fs lens bytes → new ≡ lens ++ len_of f ∷ [] → mid ≡ bytes ++ f.0 → end ≡ mid ++ f.1
    → Lie (fs ++ f ∷ []) new end
lie-push fs lens new bytes mid end f they pushed first second = record {
  lengths = pushed ∙ ap (λ (ls : List FileLen). ls ++ len_of f ∷ []) they.lengths
      ∙ sym (map-append len_of fs (f ∷ []));
  texts = second ∙ ap (λ (b : List ℕ). b ++ f.1) first ∙ append_assoc bytes f.0 f.1
      ∙ ap (λ (b : List ℕ). b ++ text_of f) they.texts
      ∙ ap (λ (b : List ℕ). laid fs ++ b) (sym (append-nil (text_of f)))
      ∙ sym (flat_map-append text_of fs (f ∷ []));
}

laid_around : (before : List NamedFile) (f : NamedFile) (after : List NamedFile)
    → laid (before ++ f ∷ after) ≡ laid before ++ (text_of f ++ laid after)
laid_around before f after = flat_map-append text_of before (f ∷ after)

-- ---- the file at an index

-- the file at an index, between those before it and those after it
pub record Middle (fs : List NamedFile) (bytes : List ℕ) (i start : ℕ) (len : FileLen) : Type 0 where
  pub file : NamedFile
  pub are : fs ≡ take i fs ++ file ∷ drop (suc i) fs
  pub more : take (i + 1) fs ≡ take i fs ++ file ∷ []
  pub index : i ≡ length (take i fs)
  pub name : len.name ≡ length file.0
  pub content : len.content ≡ length file.1
  pub text : take len.name (drop start bytes) ≡ file.0
  pub within : start + (len.name + len.content) ≤ length bytes

name_at : (before name content after : List ℕ) (start n : ℕ) → start ≡ length before → n ≡ length name
    → take n (drop start (before ++ ((name ++ content) ++ after))) ≡ name
name_at before name content after start n s e =
    rw (s, e, drop-append_seam before ((name ++ content) ++ after), text_first name content after)
    (take-append_seam name (content ++ after))

length_within : (before name content after : List ℕ) → length before + (length name + length content)
    ≤ length (before ++ ((name ++ content) ++ after))
length_within before name content after = simp length-append (omega arith)

abbrev pub no_len : FileLen
no_len = record { name = 0; content = 0 }

pub middle_at : (fs : List NamedFile) (ls lens : List FileLen) (bytes : List ℕ) (i start : ℕ)
    → Lie fs lens bytes → ls ≡ lens → i < length ls → start ≡ length (laid (take i fs))
    → Middle fs bytes i start (get_or ls i no_len)
middle_at fs ls lens bytes i start they lent below at =
    let file : NamedFile = get_or fs i ([], []) in
    let back : List NamedFile = drop (suc i) fs in
    let lengths : ls ≡ lens_of fs = lent ∙ they.lengths in
    let size : length ls ≡ length fs = ap length lengths ∙ length-map fs len_of in
    let inside : i < length fs = omega arith in
    let are : fs ≡ take i fs ++ file ∷ back = sym (take-append-drop i fs)
    ∙ ap (λ (t : List NamedFile). take i fs ++ t) (drop-cons fs i ([], []) inside) in
    let text : bytes ≡ laid (take i fs) ++ (text_of file ++ laid back) =
    they.texts ∙ ap laid are ∙ laid_around (take i fs) file back in
    let len : get_or ls i no_len ≡ len_of file = ap (λ (l : List FileLen). get_or l i no_len) lengths
    ∙ get_or-map len_of fs i ([], []) no_len inside in
    let name = ap (λ (l : FileLen). l.name) len in
    let content = ap (λ (l : FileLen). l.content) len in
    record {
      file = file;
      are = are;
      more = take_more fs i ([], []) inside;
      index = sym (length-take-le i fs (omega arith));
      name = name;
      content = content;
      text = rw text (name_at (laid (take i fs)) file.0 file.1 (laid back) start _ at name);
      within = rw (text, at, name, content) (length_within (laid (take i fs)) file.0 file.1 (laid back));
    }

-- what `==` said of the name that lies at an index
pub is_named : (fs : List NamedFile) (bytes lent : List ℕ) (i start : ℕ) (len : FileLen) (name : List ℕ)
    (r : Bool) → r ≡ pointwise nat_eq (take (start + len.name - start) (drop start lent)) name
    → lent ≡ bytes → (there : Middle fs bytes i start len) → Decides r (there.file.0 ≡ name)
is_named fs bytes lent i start len name r is same there =
    let count : start + len.name - start ≡ len.name = omega arith in
    let text : take (start + len.name - start) (drop start lent) ≡ there.file.0 =
    ap (λ (n : ℕ). take n (drop start lent)) count
    ∙ ap (λ (b : List ℕ). take len.name (drop start b)) same ∙ there.text in
    subst (λ t. Decides r (t ≡ name)) text (slice_eq-Decides Decides-eqb _ name r is)

abbrev pub place_at : ℕ → ℕ → FileLen → Place
place_at i start len = record {
  index = i;
  start = start;
  middle = start + len.name;
  stop = start + len.name + len.content;
}

-- the name was found at an index
pub lies_here : (fs : List NamedFile) (bytes : List ℕ) (i start : ℕ) (len : FileLen) (name : List ℕ)
    → start ≡ length (laid (take i fs)) → found name (take i fs) ≡ None
    → (there : Middle fs bytes i start len) → there.file.0 ≡ name → LiesAt name fs (place_at i start len)
lies_here fs bytes i start len name at passed there same = record {
  before = take i fs;
  content = there.file.1;
  after = drop (suc i) fs;
  are = there.are ∙ ap (λ n. take i fs ++ (n, there.file.1) ∷ drop (suc i) fs) same;
  first = passed;
  index = there.index;
  start = at;
  middle = ap (λ n. start + n) (there.name ∙ ap length same);
  stop = ap (λ n. start + len.name + n) there.content;
}

-- the name wasn't found at an index
pub passed_here : (fs : List NamedFile) (bytes : List ℕ) (i start : ℕ) (len : FileLen) (name : List ℕ)
    → found name (take i fs) ≡ None → (there : Middle fs bytes i start len) → (there.file.0 ≡ name → ⊥)
    → found name (take (i + 1) fs) ≡ None
passed_here fs bytes i start len name passed there differ =
    ap (found name) there.more ∙ found-pushed name there.file (take i fs) passed differ

pub start_next : (fs : List NamedFile) (bytes : List ℕ) (i start : ℕ) (len : FileLen)
    → start ≡ length (laid (take i fs)) → (there : Middle fs bytes i start len)
    → start + len.name + len.content ≡ length (laid (take (i + 1) fs))
start_next fs bytes i start len at there =
    let more : laid (take (i + 1) fs) ≡ laid (take i fs) ++ (text_of there.file ++ []) =
    ap laid there.more ∙ laid_around (take i fs) there.file [] in
    let name = there.name in
    let content = there.content in
    rw more (simp length-append (omega arith))

-- ---- a file at its place

bytes_around : (fs : List NamedFile) (lens : List FileLen) (bytes name : List ℕ) (place : Place)
    → Lie fs lens bytes → (there : LiesAt name fs place)
    → bytes ≡ laid there.before ++ ((name ++ there.content) ++ laid there.after)
bytes_around fs lens bytes name place they there =
    they.texts ∙ ap laid there.are ∙ laid_around there.before (name, there.content) there.after

content_between : (before name content after : List ℕ) (start stop : ℕ) → start ≡ length before + length name
    → stop ≡ start + length content
    → take (stop - start) (drop start (before ++ ((name ++ content) ++ after))) ≡ content
content_between before name content after start stop s e =
    let count : stop - start ≡ length content = omega arith in
    rw (
      count,
      s,
      drop-append-add before ((name ++ content) ++ after) (length name),
      text_first name content after,
      drop-append_seam name (content ++ after),
    ) (take-append_seam content after)

-- the bytes between the ends of a content are the content
pub content_at : (fs : List NamedFile) (lens : List FileLen) (bytes lent name : List ℕ) (place : Place)
    → Lie fs lens bytes → lent ≡ bytes → LiesAt name fs place
    → Some (take (place.stop - place.middle) (drop place.middle lent)) ≡ found name fs
content_at fs lens bytes lent name place they is there =
    let front : List ℕ = laid there.before in
    let middle : place.middle ≡ length front + length name =
    there.middle ∙ ap (λ n. n + length name) there.start in
    ap Some (ap (λ (b : List ℕ). take (place.stop - place.middle) (drop place.middle b))
    (is ∙ bytes_around fs lens bytes name place they there)
    ∙ content_between front name there.content (laid there.after) place.middle place.stop middle there.stop)
    ∙ sym (found-first name there.content there.before there.after there.first)
    ∙ ap (found name) (sym there.are)

-- what lies without the file at a place
pub lie-cut : (fs : List NamedFile) (lens new : List FileLen) (bytes left name : List ℕ) (place : Place)
    → Lie fs lens bytes → (there : LiesAt name fs place) → new ≡ remove lens place.index
    → left ≡ remove_range bytes place.start place.stop → Lie (there.before ++ there.after) new left
lie-cut fs lens new bytes left name place they there is cut =
    let f : NamedFile = (name, there.content) in
    let front : List FileLen = lens_of there.before in
    let around : lens ≡ front ++ len_of f ∷ lens_of there.after =
    they.lengths ∙ ap lens_of there.are ∙ map-append len_of there.before (f ∷ there.after) in
    let index : place.index ≡ length front = there.index ∙ sym (length-map there.before len_of) in
    let middle = there.middle in
    let stop = there.stop in
    let size : place.stop ≡ place.start + length (text_of f) = simp length-append (omega arith) in
    record {
      lengths = is ∙ ap (λ (ls : List FileLen). remove ls place.index) around
          ∙ cut_one front (lens_of there.after) (len_of f) place.index index
          ∙ sym (map-append len_of there.before there.after);
      texts = cut ∙ ap (λ (b : List ℕ). remove_range b place.start place.stop)
          (bytes_around fs lens bytes name place they there)
          ∙ cut_out (laid there.before) (text_of f) (laid there.after) place.start place.stop there.start size
          ∙ sym (flat_map-append text_of there.before there.after);
    }
