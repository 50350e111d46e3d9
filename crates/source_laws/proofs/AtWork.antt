-- A procedure at work: where its globals and pairs stand, and where it stands itself.
use Rattle.template_runs.proofs.Offers.{Owing, Placed, fits_small, mem_with, is_half}
use Rattle.std.proofs.Common.{◌≡◌, ℕ, ◌+◌, ◌<◌, ◌≤◌, ℤ, pos, List, length, Some, true, ◌*◌, None, Bool}
use Rattle.std.proofs.Common.{false, arith}
use Rattle.std.specs.Prelude.{slice_get}
use Rattle.cap_words.specs.declared.Word.TheVariants.{Int}
use Rattle.cap_words.specs.Linear.{is_linear}
use Rattle.lcm_isa.specs.declared.Instr.TheVariants.{Fail}
use Rattle.lcm_machine.specs.Table.{fits_64}
use Rattle.linked_starts.specs.Parts.{PartSeen}
use Rattle.overlay_machine.specs.declared.words.OWord.{OWord}
use Rattle.overlay_machine.specs.declared.words.OWord.TheVariants.{Plain}
use Rattle.overlay_machine.specs.Words.{look}
use Rattle.overlay_machine.specs.State.{OpenFrame}
use Rattle.overlay_machine.specs.Link.{Link, IsTrusted, ranges_of, data_region}
use Rattle.overlay_machine.specs.Linked.{IsLink}
use Rattle.source_laws.proofs.Refined.{World, Frame, pair_of}
use Rattle.proc_semantics.specs.Values.{Store, global_word, set_word}
use Rattle.proc_semantics.specs.declared.value.Pair.{Pair}
use Rattle.proc_semantics.specs.declared.value.Value.{Value}
use Rattle.proc_templates.specs.declared.FrameShape.{FrameShape as Shape}
use Rattle.source_laws.specs.Fits.{Kind, AsPair, AsRest}
use Rattle.proc_semantics.specs.Marked.{PairHalf, CodeHalf, DataHalf}
use Rattle.cap_words.specs.Face.{face_of}
use Rattle.cap_words.specs.Faces.{face_linear}
use Rattle.proc_program.specs.declared.program.Handle.TheVariants.{Own, Imported}
use Rattle.run_lines.specs.Feed.{integer_in}

-- the numbers up to an address of a part's data
pub data_fits : (g : Link) (linked : IsLink g) (p : PartSeen) → IsTrusted g p → (o a : ℕ)
    → o < length p.component.data_words → a ≤ p.component.data_base + o → fits_64 (pos a) ≡ true
data_fits g linked p ip o a lt le =
    let small = linked.small (data_region p) (linked.data_there p ip) in
    let high : p.component.data_base + o ≤ (ranges_of p).data_last = omega (arith, lt) in
    fits_small a (omega (arith, le, high, small))

-- how a part's globals stand in its data, before which the words of pairs stand
pub record Globals (StoreIs : Store → (ℕ → OWord) → Type 0) (p : PartSeen) (home pairs : ℕ) : Type 0 where
  pub count : ℕ
  pub room : pairs + count ≤ length p.component.data_words
  pub reads : (st : Store) (mem : ℕ → OWord) (o : ℕ) → StoreIs st mem → o < count
      → mem (p.component.data_base + (pairs + o)) ≡ Plain (Int (global_word st home o))
  pub fits : (st : Store) (mem : ℕ → OWord) (o : ℕ) → StoreIs st mem → o < count
      → fits_64 (global_word st home o) ≡ true
  pub sets : (st : Store) (mem : ℕ → OWord) (o : ℕ) (v : ℤ) → StoreIs st mem → o < count → fits_64 v ≡ true
      → StoreIs (set_word st home o v) (mem_with mem (p.component.data_base + (pairs + o)) (Plain (Int v)))

-- the words of a pair are no integers and not linear
pub record Half (x : OWord) : Type 0 where
  pub stays_whole : is_linear (look x) ≡ false
  pub stays_face : face_linear (face_of (look x)) ≡ false
  pub no_number : integer_in (look x) ≡ None
  pub sealed : is_half (look x) ≡ true

-- a pair stands in two words of the data of a part, where a relation says what two words are as a pair
pub record DataPair (p : PartSeen) (Rel : Pair → OWord → OWord → Type 0) (mem : ℕ → OWord) (at : ℕ)
    (pair : Pair) : Type 0 where
  pub first : OWord
  pub second : OWord
  pub inside : at + 1 < length p.component.data_words
  pub stands : mem (p.component.data_base + at) ≡ first
  pub stands_too : mem (p.component.data_base + (at + 1)) ≡ second
  pub is : Rel pair first second

-- two words that are a pair, and are those that its marks say
abbrev pub Slotted : (PairHalf → OWord) → (Pair → OWord → OWord → Type 0) → Pair → OWord → OWord → Type 0
Slotted m R r x y = R r x y × (Some (m CodeHalf) ≡ Some x) × (Some (m DataHalf) ≡ Some y)

module _ (world : World) (StoreIs : Store → (ℕ → OWord) → Type 0) (p : PartSeen) (home imports : ℕ)
    (IsCalled IsPair : Pair → OWord → OWord → Type 0) where
  -- how many imports and procedures a part has, and that their pairs stand in its data: each can be called,
  -- and those of imports and of shared procedures can be passed on
  pub record Pairs : Type 0 where
    pub imported : ℕ
    pub owned : ℕ
    pub shared : ℕ → Bool
    pub from_imports : (st : Store) (mem : ℕ → OWord) (k : ℕ) (env : List Value) → StoreIs st mem
        → k < imported
        → DataPair p (Slotted (world.marks.imported home k) IsPair) mem (2 * k)
        (pair_of world home env (Imported k))
    pub from_own : (st : Store) (mem : ℕ → OWord) (j : ℕ) (env : List Value) → StoreIs st mem → j < owned
        → DataPair p (Slotted (world.marks.own home j) IsCalled) mem (2 * (imports + j))
        (pair_of world home env (Own j))
    pub from_shared : (st : Store) (mem : ℕ → OWord) (j : ℕ) (env : List Value) → StoreIs st mem → j < owned
        → shared j ≡ true
        → DataPair p (Slotted (world.marks.own home j) IsPair) mem (2 * (imports + j))
        (pair_of world home env (Own j))

-- in which part and below which frames a procedure works; its own frame, its places and its globals
pub record Work (g : Link) (linked : IsLink g) (StoreIs : Store → (ℕ → OWord) → Type 0) : Type 0 where
  pub p : PartSeen
  pub ip : IsTrusted g p
  pub failing : Placed g linked p 0 Fail
  pub top : ℕ
  pub fs : List OpenFrame
  pub ow : Owing fs
  pub f : Frame
  pub s : Shape
  -- its body ends here
  pub end : ℕ
  pub end_in : end < length p.component.code
  pub kinds : List Kind
  pub rests : (i : ℕ) → slice_get kinds i ≡ Some AsPair → slice_get kinds (i + 1) ≡ Some AsRest
  pub temps : 2 + length kinds ≤ s.temps
  pub slots : s.temps ≤ s.words
  pub globals : Globals StoreIs p f.home s.pairs

-- among which modules it works, and its pairs
pub record AtWork : Type 1 where
  pub world : World
  pub g : Link
  pub linked : IsLink g
  pub StoreIs : Store → (ℕ → OWord) → Type 0
  pub work : Work g linked StoreIs
  open work use {p, f, s}
  -- when two words are a pair that may be passed on, and when one that may be called
  pub IsPair : Pair → OWord → OWord → Type 0
  pub IsCalled : Pair → OWord → OWord → Type 0
  pub forget : (r : Pair) (x y : OWord) → IsPair r x y → IsCalled r x y
  pub halves : (r : Pair) (x y : OWord) → IsCalled r x y → Half x × Half y
  pub pairs : Pairs world StoreIs p f.home s.imports IsCalled IsPair
