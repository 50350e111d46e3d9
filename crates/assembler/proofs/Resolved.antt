-- Resolving references one after another.
use Rattle.std.proofs.Common.{◌≡◌, ◌≢◌, ℕ, ◌+◌, ◌<◌, ◌≤◌, zero, suc, List, [], ◌∷◌, ◌++◌, map, length, Option}
use Rattle.std.proofs.Common.{Some, None, Result, Ok, refl, sym, ap, ◌∙◌, subst, arith}
use Rattle.std.specs.Prelude.{ℤ, IsTrue, reverse, slice_get, slice_set, option_map}
use Rattle.std.proofs.lemmas.List.{reverse-append, reverse-reverse, length-set}
use Rattle.std.specs.List.{AllByRecursion}
use Rattle.indexmap.proofs.ReorderLemmas.{map-reverse}
use Rattle.cap_words.specs.declared.Word.{Word}
use Rattle.lcm_isa.specs.declared.Instr.{Instr}
use Rattle.assembler.specs.declared.labels.Section.{Section}
use Rattle.assembler.specs.declared.labels.Label.{Label}
use Rattle.assembler.specs.declared.references.MissingLabel.{MissingLabel}
use Rattle.assembler.specs.declared.references.Reference.{Reference as Held}
use Rattle.assembler.specs.Labels.{offset_of}
use Rattle.assembler.specs.Patch.{with_immediate, instr_in, some_immediate, with_instr_at, code_patched}
use Rattle.assembler.specs.References.{Reference, user_word, user_place, value_of, word_resolved, at_offset}
use Rattle.assembler.specs.References.{resolved}
use Rattle.assembler.specs.References.{IsReady, IsFrom, behind, AreReady, WordHas, HasOwn, WaitsForNone}

abbrev pub referring : Held → Reference
referring x =
    record { word = user_word x.user; at = user_place x.user; section = x.section; name = x.name.now }

-- ---- the list, last first

pub reversed_twice : (held : List Held) → reverse (map referring (reverse held)) ≡ map referring held
reversed_twice held = ap reverse (map-reverse referring held) ∙ reverse-reverse (map referring held)

map-snoc : (held : List Held) (x : Held)
    → map referring (held ++ x ∷ []) ≡ map referring held ++ referring x ∷ []
map-snoc [] x = refl
map-snoc (h ∷ held) x = ap (λ l. referring h ∷ l) (map-snoc held x)

pub last_is_next : (old new : List Held) (x : Held) → old ≡ new ++ x ∷ []
    → reverse (map referring old) ≡ referring x ∷ reverse (map referring new)
last_is_next old new x is =
    ap (λ l. reverse (map referring l)) is ∙ ap reverse (map-snoc new x)
    ∙ reverse-append (map referring new) (referring x ∷ [])

-- ---- a word is patched

get_other : {A : Type 0} (xs : List A) (i k : ℕ) (v : A) → k ≢ i
    → slice_get (slice_set xs i v) k ≡ slice_get xs k
get_other [] i k v other = refl
get_other (x ∷ xs) zero zero v other = absurd (other refl)
get_other (x ∷ xs) zero (suc k) v other = refl
get_other (x ∷ xs) (suc i) zero v other = refl
get_other (x ∷ xs) (suc i) (suc k) v other = get_other xs i k v (λ e. other (ap suc e))

put_other : (o : Option Instr) (code : List Word) (at k : ℕ) → k ≢ at
    → slice_get (with_instr_at code at o) k ≡ slice_get code k
put_other None code at k other = refl
put_other (Some i) code at k other = get_other code at k _ other

put_len : (o : Option Instr) (code : List Word) (at : ℕ) → length (with_instr_at code at o) ≡ length code
put_len None code at = refl
put_len (Some i) code at = length-set code at _

abbrev patch : List Word → ℕ → ℤ → Option Instr
patch code at z = option_map (with_immediate z) (instr_in (slice_get code at))

-- from an offset on, both have the same words
abbrev pub SameFrom : ℕ → List Word → List Word → Type 0
SameFrom low old new = (k : ℕ) → low ≤ k → slice_get new k ≡ slice_get old k

pub word_len : (word : Option ℕ) (section : Section) (offset : ℕ) (code : List Word)
    → length (word_resolved word section offset code) ≡ length code
word_len None section offset code = refl
word_len (Some word) section offset code = put_len (patch code word (value_of word section offset)) code word

word_same : (low : ℕ) (word : Option ℕ) (section : Section) (offset : ℕ) (code : List Word)
    → SameFrom (behind low word) code (word_resolved word section offset code)
word_same low None section offset code = λ k le. refl
word_same low (Some word) section offset code = λ k le.
    put_other (patch code word (value_of word section offset))
    code word k (λ e. let lt : word + 1 ≤ k = le in omega (arith, e, lt))

ready_word : (low : ℕ) (old new : List Word) (word : Option ℕ) → SameFrom low old new → IsFrom low word
    → IsReady old word → IsReady new word
ready_word low old new None same from ready = tt
ready_word low old new (Some word) same from ready =
    subst (λ w. IsTrue (some_immediate (instr_in w))) (sym (same word from)) ready

later : (low : ℕ) (word : Option ℕ) (k : ℕ) → IsFrom low word → behind low word ≤ k → low ≤ k
later low None k from le = le
later low (Some word) k from le = let lt : word + 1 ≤ k = le in omega (arith, from, lt)

ready_on : (low : ℕ) (old new : List Word) (references : List Reference) → SameFrom low old new
    → AreReady low old references → AreReady low new references
ready_on low old new [] same ready = tt
ready_on low old new (r ∷ references) same ready = (
  ready.0,
  ready_word low old new r.word same ready.0 ready.1,
  ready_on (behind low r.word) old new references (λ k le. same k (later low r.word k ready.0 le)) ready.2,
)

pub rest_ready : (low : ℕ) (code : List Word) (r : Reference) (references : List Reference) (offset : ℕ)
    → AreReady low code (r ∷ references)
    → AreReady (behind low r.word) (word_resolved r.word r.section offset code) references
rest_ready low code r references offset ready =
    ready_on (behind low r.word) code (word_resolved r.word r.section offset code)
    references (word_same low r.word r.section offset code) ready.2

pub one_resolved : (labels : List (List ℕ × Label)) (r : Reference) (references : List Reference)
    (code : List Word) (offset : ℕ)
    → Some offset ≡ offset_of r.section r.name labels
    → resolved labels references (word_resolved r.word r.section offset code)
    ≡ resolved labels (r ∷ references) code
unfolding resolved
one_resolved labels r references code offset is =
    ap (λ o. at_offset o r.at (λ n. resolved labels references (word_resolved r.word r.section n code))) is

-- ---- what each word has in the end

went_on : (o : Option ℕ) (at : ℕ) (f : ℕ → Result (List Word) MissingLabel) (new : List Word)
    → at_offset o at f ≡ Ok new
    → (offset : ℕ) × (o ≡ Some offset) × (f offset ≡ Ok new)
went_on (Some offset) at f new h = (offset, refl, h)
went_on None at f new h = absurd cc

-- a reference whose label is there, and then the others
pub first_of : (labels : List (List ℕ × Label)) (r : Reference) (references : List Reference)
    (code new : List Word) → resolved labels (r ∷ references) code ≡ Ok new
    → (offset : ℕ) × (offset_of r.section r.name labels ≡ Some offset)
    × (resolved labels references (word_resolved r.word r.section offset code) ≡ Ok new)
unfolding resolved
first_of labels r references code new h =
    went_on (offset_of r.section r.name labels)
    r.at (λ n. resolved labels references (word_resolved r.word r.section n code)) new h

pub last : (labels : List (List ℕ × Label)) (code new : List Word) → resolved labels [] code ≡ Ok new
    → new ≡ code
unfolding resolved
last labels code new h = cc

same_word : (word : Option ℕ) (section : Section) (offset : ℕ) (code : List Word) (k : ℕ) → word ≢ Some k
    → slice_get (word_resolved word section offset code) k ≡ slice_get code k
same_word None section offset code k other = refl
same_word (Some word) section offset code k other =
    put_other (patch code word (value_of word section offset)) code word k (λ e. other (ap Some (sym e)))

-- a word without a reference stays
pub others_stay : (labels : List (List ℕ × Label)) (references : List Reference) (code new : List Word)
    → resolved labels references code ≡ Ok new
    → (k : ℕ) → WaitsForNone k references → slice_get new k ≡ slice_get code k
others_stay labels [] code new h k none = ap (λ l. slice_get l k) (last labels code new h)
others_stay labels (r ∷ references) code new h k none =
    let p = first_of labels r references code new h in
    others_stay labels references _ new p.2 k none.1 ∙ same_word r.word r.section p.0 code k none.0

pub as_many : (labels : List (List ℕ × Label)) (references : List Reference) (code new : List Word)
    → resolved labels references code ≡ Ok new
    → length new ≡ length code
as_many labels [] code new h = ap length (last labels code new h)
as_many labels (r ∷ references) code new h =
    let p = first_of labels r references code new h in
    as_many labels references _ new p.2 ∙ word_len r.word r.section p.0 code

-- words below the first that waits have no reference
not_below : (low k : ℕ) (word : Option ℕ) → IsFrom low word → k < low → word ≢ Some k
not_below low k None from lt = λ e. absurd cc
not_below low k (Some word) from lt = λ e. let is : word ≡ k = cc in omega (arith, is, from, lt)

on_or_above : (low : ℕ) (word : Option ℕ) → IsFrom low word → low ≤ behind low word
on_or_above low None from = omega arith
on_or_above low (Some word) from = let le : low ≤ word = from in omega (arith, le)

below_wait_for_none : (low k : ℕ) (code : List Word) (references : List Reference)
    → AreReady low code references → k < low → WaitsForNone k references
below_wait_for_none low k code [] ready lt = tt
below_wait_for_none low k code (r ∷ references) ready lt = (
  not_below low k r.word ready.0 lt,
  below_wait_for_none (behind low r.word)
      k code references ready.2 (let le = on_or_above low r.word ready.0 in omega (arith, lt, le)),
)

-- what a word becomes depends on it alone
set_same : {A : Type 0} (xs ys : List A) (k : ℕ) (v : A) → slice_get xs k ≡ slice_get ys k
    → slice_get (slice_set xs k v) k ≡ slice_get (slice_set ys k v) k
set_same [] [] k v same = refl
set_same [] (y ∷ ys) zero v same = absurd cc
set_same [] (y ∷ ys) (suc k) v same = set_same [] ys k v same
set_same (x ∷ xs) [] zero v same = absurd cc
set_same (x ∷ xs) [] (suc k) v same = set_same xs [] k v same
set_same (x ∷ xs) (y ∷ ys) zero v same = refl
set_same (x ∷ xs) (y ∷ ys) (suc k) v same = set_same xs ys k v same

put_same : (o : Option Instr) (code old : List Word) (k : ℕ) → slice_get code k ≡ slice_get old k
    → slice_get (with_instr_at code k o) k ≡ slice_get (with_instr_at old k o) k
put_same None code old k same = same
put_same (Some i) code old k same = set_same code old k _ same

patch_same : (code old : List Word) (k : ℕ) (z : ℤ) → slice_get code k ≡ slice_get old k
    → slice_get (code_patched code k z) k ≡ slice_get (code_patched old k z) k
patch_same code old k z same =
    ap (λ w. slice_get (with_instr_at code k (option_map (with_immediate z) (instr_in w))) k) same
    ∙ put_same (patch old k z) code old k same

has_as_before : (low : ℕ) (old code new : List Word) (word : Option ℕ) (section : Section) (offset : ℕ)
    → SameFrom low old code → IsFrom low word
    → WordHas code new word section offset → WordHas old new word section offset
has_as_before low old code new None section offset same from has = tt
has_as_before low old code new (Some word) section offset same from has =
    has ∙ patch_same code old word (value_of word section offset) (same word from)

all_as_before : (labels : List (List ℕ × Label)) (low : ℕ) (old code new : List Word)
    (references : List Reference) → SameFrom low old code → AreReady low code references
    → AllByRecursion (HasOwn labels code new) references → AllByRecursion (HasOwn labels old new) references
all_as_before labels low old code new [] same ready all = tt
all_as_before labels low old code new (r ∷ references) same ready all =
    let own : HasOwn labels code new r = all.0 in (
      (own.0, own.1, has_as_before low old code new r.word r.section own.0 same ready.0 own.2),
      all_as_before labels (behind low r.word)
          old code new references (λ k le. same k (later low r.word k ready.0 le)) ready.2 all.1,
    )

first_has : (low : ℕ) (code new : List Word) (word : Option ℕ) (section : Section) (offset : ℕ)
    → ((k : ℕ) → k < behind low word → slice_get new k ≡ slice_get (word_resolved word section offset code) k)
    → WordHas code new word section offset
first_has low code new None section offset stays = tt
first_has low code new (Some word) section offset stays = stays word (omega arith)

pub each_has_its_own : (labels : List (List ℕ × Label)) (low : ℕ) (references : List Reference)
    (code new : List Word) → AreReady low code references
    → resolved labels references code ≡ Ok new → AllByRecursion (HasOwn labels code new) references
each_has_its_own labels low [] code new ready h = tt
each_has_its_own labels low (r ∷ references) code new ready h =
    let p = first_of labels r references code new h in
    let next = word_resolved r.word r.section p.0 code in
    let rest = rest_ready low code r references p.0 ready in
    let stays : (k : ℕ) → k < behind low r.word → slice_get new k ≡ slice_get next k =
    λ k lt. others_stay labels references next new p.2 k
    (below_wait_for_none (behind low r.word) k next references rest lt) in (
      (p.0, p.1, first_has low code new r.word r.section p.0 stays),
      all_as_before labels (behind low r.word)
          code next new references (word_same low r.word r.section p.0 code) rest
          (each_has_its_own labels (behind low r.word) references next new rest p.2),
    )

pub ends : (labels : List (List ℕ × Label)) (held : List Held) (code : List Word) → length held ≡ 0
    → resolved labels (reverse (map referring held)) code ≡ Ok code
unfolding resolved
ends labels [] code none = refl
ends labels (x ∷ held) code none = absurd (omega (arith, none))
