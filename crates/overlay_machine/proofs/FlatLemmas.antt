-- Flattened words of known kinds, code that stands in the flattened memory, and how an overlay step and a
-- plain run agree.
use Rattle.std.proofs.Common.{◌≡◌, ℕ, ◌+◌, pos, true, List, [], ◌∷◌, Some, None, refl, ap, ◌∙◌}
use Rattle.std.specs.Prelude.{Option}
use Rattle.cap_words.specs.declared.Word.{Word}
use Rattle.cap_words.specs.declared.Word.TheVariants.{Int, Mem, Seal, Sealed}
use Rattle.cap_words.specs.declared.Sealable.TheVariants.{Mem as MemIn, Seal as SealIn}
use Rattle.cap_words.specs.declared.CapFields.{CapFields}
use Rattle.cap_words.specs.declared.SealFields.{SealFields}
use Rattle.cap_words.specs.declared.Face.TheVariants.{Number, Memory}
use Rattle.cap_words.specs.Face.{face_of, opened_of}
use Rattle.lcm_isa.specs.declared.Instr.{Instr}
use Rattle.lcm_isa.specs.declared.Instr.TheVariants.{Fail}
use Rattle.lcm_isa.specs.Numbers.{number_of}
use Rattle.lcm_machine.specs.declared.Place.TheVariants.{Cell}
use Rattle.lcm_machine.specs.Maps.{State}
use Rattle.lcm_machine.specs.Cells.{cell}
use Rattle.lcm_machine.specs.Row.{look_face, Outcome, went, halted, failed}
use Rattle.lcm_machine.specs.Runs.{Stands}
use Rattle.lcm_machine.specs.Refusals.{HasFailed}
use Rattle.lcm_machine.specs.Mapped.{mapped_or, EndsMapped}
use Rattle.call_sequence.specs.Sequences.{call_code, return_code, entry_code}
use Rattle.call_sequence.specs.SequenceRuns.{HasCall, HasReturn, HasEntry, FailsAt}
use Rattle.trusted_border.specs.declared.layout.Layout.{Layout}
use Rattle.overlay_machine.specs.declared.words.OWord.{OWord}
use Rattle.overlay_machine.specs.declared.words.OWord.TheVariants.{Plain, RetCode, RetData}
use Rattle.overlay_machine.specs.Words.{look, is_plain}
use Rattle.overlay_machine.specs.State.{OpenFrame, OState, framed}
use Rattle.overlay_machine.specs.Step.{Ending, goes, fails, with_frames}
use Rattle.overlay_machine.specs.Flat.{flat, beside, IsFlat}
use Rattle.overlay_machine.specs.Agree.{FramesLook, Looks, EndsAgree}

-- a word that looks like a memory or seal capability is one, and flattens to it
pub flat-mem : (l : Layout) (fs : List OpenFrame) (w : OWord) (c : CapFields) → look w ≡ Mem c
    → flat l fs w ≡ Mem c
unfolding flat
flat-mem l fs (Plain w) c e = e
flat-mem l fs (RetCode i) c e = cc
flat-mem l fs (RetData k) c e = cc

pub flat-seal : (l : Layout) (fs : List OpenFrame) (w : OWord) (c : SealFields) → look w ≡ Seal c
    → flat l fs w ≡ Seal c
unfolding flat
flat-seal l fs (Plain w) c e = e
flat-seal l fs (RetCode i) c e = cc
flat-seal l fs (RetData k) c e = cc

pub flat-opened : (l : Layout) (fs : List OpenFrame) (w : OWord) → is_plain w ≡ true
    → opened_of (flat l fs w) ≡ opened_of (look w)
unfolding flat
flat-opened l fs (Plain w) e = refl
flat-opened l fs (RetCode i) e = cc
flat-opened l fs (RetData k) e = cc

pub flat-plain : (l : Layout) (fs : List OpenFrame) (x : Word) → flat l fs (Plain x) ≡ x
unfolding flat
flat-plain l fs x = refl

-- nothing lies beside where no frame has a word
pub beside-none : (l : Layout) (fs : List OpenFrame) (a : ℕ) → framed fs a ≡ None → beside l fs a ≡ None
unfolding beside
beside-none l fs a e = ap (λ x. mapped_or (flat l fs) x None) e

pub mem_of_face : (x : Word) (c : CapFields) → face_of x ≡ Memory c → x ≡ Mem c
mem_of_face (Mem b) c e = cc
mem_of_face (Int n) c e = cc
mem_of_face (Seal s) c e = cc
mem_of_face (Sealed q (MemIn b)) c e = cc
mem_of_face (Sealed q (SealIn b)) c e = cc

-- a cell that the overlay has is flattened in the plain state
mapped-some : {W V : Type 0} (f : W → V) (o : Option W) (x : Option V) (w : W) → o ≡ Some w
    → mapped_or f o x ≡ Some (f w)
mapped-some f o x w e = ap (λ p. mapped_or f p x) e

pub cell-flat : (l : Layout) (o : OState) (t : State Word) (a : ℕ) (w : OWord) → IsFlat l o t
    → cell o.maps.cells a ≡ Some w → cell t.cells a ≡ Some (flat l o.frames w)
cell-flat l o t a w m e =
    m.cells a ∙ mapped-some (flat l o.frames) (cell o.maps.cells a) (beside l o.frames a) w e

face-flat : (l : Layout) (o : OState) (t : State Word) (a z : ℕ) (c : Option OWord) → cell o.maps.cells a ≡ c
    → IsFlat l o t → Looks l o
    → look_face look c ≡ Some (Number (pos z)) → look_face (λ w. w) (cell t.cells a) ≡ Some (Number (pos z))
face-flat l o t a z None e m k h = cc
face-flat l o t a z (Some w) e m k h =
    ap (look_face (λ w. w)) (cell-flat l o t a w m e) ∙ ap Some (k.0 (Cell a) w e) ∙ h

-- code that stands in the overlay's memory stands in the plain one
pub Stands-flat : (l : Layout) (o : OState) (t : State Word) (at : ℕ) (is : List Instr) → IsFlat l o t
    → Looks l o → Stands look o.maps.cells at is → Stands (λ w. w) t.cells at is
Stands-flat l o t at [] m k h = tt
Stands-flat l o t at (i ∷ is) m k h = (
  face-flat l o t at (number_of i) (cell o.maps.cells at) refl m k h.0,
  Stands-flat l o t (at + 1)
      is m k h.1,
)

-- and so do sequences
module _ (l : Layout) (o : OState) (t : State Word) (m : IsFlat l o t) (k : Looks l o) where
  pub HasCall-flat : (base last at seal : ℕ) → HasCall look o.maps.cells base last at seal
      → HasCall (λ w. w) t.cells base last at seal
  HasCall-flat base last at seal h = record {
    offset = h.offset;
    literal = h.literal;
    number = h.number;
    at_is = h.at_is;
    code = Stands-flat l o t at (call_code h.literal h.offset h.number) m k h.code;
    ends = h.ends;
    small = h.small;
    literal_in = h.literal_in;
    word = flat l o.frames h.word;
    word_is = cell-flat l o t (base + h.literal) h.word m h.word_is;
    seals = h.seals;
    shows = flat-seal l o.frames h.word h.seals h.shows;
    first = h.first;
    seal_is = h.seal_is;
    seal_in = h.seal_in;
    small_seal = h.small_seal;
  }

  FailsAt-flat : (base last fail : ℕ) → FailsAt look o.maps.cells base last fail
      → FailsAt (λ w. w) t.cells base last fail
  FailsAt-flat base last fail h = (Stands-flat l o t (base + fail) (Fail ∷ []) m k h.0, h.1)

  pub HasReturn-flat : (base last at stack_base : ℕ) → HasReturn look o.maps.cells base last at stack_base
      → HasReturn (λ w. w) t.cells base last at stack_base
  HasReturn-flat base last at stack_base h = record {
    offset = h.offset;
    fail = h.fail;
    at_is = h.at_is;
    code = Stands-flat l o t at (return_code h.fail h.offset stack_base) m k h.code;
    ends = h.ends;
    small = h.small;
    fails = FailsAt-flat base last h.fail h.fails;
  }

  pub HasEntry-flat : (base last at stack_base : ℕ) → HasEntry look o.maps.cells base last at stack_base
      → HasEntry (λ w. w) t.cells base last at stack_base
  HasEntry-flat base last at stack_base h = record {
    offset = h.offset;
    fail = h.fail;
    at_is = h.at_is;
    code = Stands-flat l o t at (entry_code h.fail h.offset stack_base) m k h.code;
    ends = h.ends;
    small = h.small;
    fails = FailsAt-flat base last h.fail h.fails;
  }

-- ---- an overlay step and a plain run

-- a row, and the row of the flattened state
pub row_agrees : (l : Layout) (fs : List OpenFrame) (n : ℕ) → FramesLook l fs
    → (x : Outcome OWord) (y : Outcome Word) → EndsMapped look (λ w. w) (flat l fs) (beside l fs) x y
    → EndsAgree l (with_frames fs n x) y
row_agrees l fs n k (went s) (went t) h = (h.0, (h.1, k))
row_agrees l fs n k halted halted h = tt
row_agrees l fs n k (failed c at) (failed d to) h = tt
row_agrees l fs n k (went s) halted h = absurd h
row_agrees l fs n k (went s) (failed d to) h = absurd h
row_agrees l fs n k halted (went t) h = absurd h
row_agrees l fs n k halted (failed d to) h = absurd h
row_agrees l fs n k (failed c at) (went t) h = absurd h
row_agrees l fs n k (failed c at) halted h = absurd h

pub both_fail : (l : Layout) (e : Ending) (r : Outcome Word) → e ≡ fails → HasFailed r → EndsAgree l e r
both_fail l e (went s) h f = absurd f
both_fail l e halted h f = absurd f
both_fail l e (failed c at) h f = rw h tt

pub both_go : (l : Layout) (x : Ending) (r : Outcome Word) (o : OState) (t : State Word) → x ≡ goes o
    → r ≡ went t → IsFlat l o t → Looks l o → EndsAgree l x r
both_go l x r o t e q m k = rw (e, q) (m, k)
