-- When the newest frame goes, all words but its RetData stay safe.
use Rattle.std.proofs.Common.{◌≡◌, inl, inr, ℕ, zero, suc, ◌<◌, ◌≤◌, List, [], ◌∷◌, Option, Some, None, refl}
use Rattle.std.proofs.Common.{sym, ap, ◌∙◌, arith}
use Rattle.std.specs.Option.{option_or}
use Rattle.std.specs.List.{Contains}
use Rattle.cap_words.specs.declared.Word.TheVariants.{Int, Mem, Seal, Sealed}
use Rattle.cap_words.specs.declared.Sealable.TheVariants.{Mem as MemIn, Seal as SealIn}
use Rattle.cap_words.specs.declared.CapFields.{CapFields}
use Rattle.trusted_border.specs.declared.layout.Layout.{Layout}
use Rattle.overlay_machine.specs.declared.words.OWord.{OWord}
use Rattle.overlay_machine.specs.declared.words.OWord.TheVariants.{Plain, RetCode, RetData}
use Rattle.overlay_machine.specs.State.{OpenFrame, Cells, framed, frame_of, word_of}
use Rattle.overlay_machine.specs.Agree.{IsOther}
use Rattle.overlay_machine.specs.Link.{Link}
use Rattle.overlay_machine.specs.Safe.{IsSafeCap, IsSafe, IsMet}
use Rattle.overlay_machine.specs.Invariant.{FrameLies, FramesLie, FrameFits}
use Rattle.overlay_machine.proofs.invariant.FrameFacts.{frame_of-cons, lies_of, word_in_frame, below_all}

pub none_rest : (f : OpenFrame) (fs : List OpenFrame) (a : ℕ) → framed (f ∷ fs) a ≡ None → framed fs a ≡ None
none_rest f fs a e = by_word (word_of f a) e
  where
    by_word : (x : Option OWord) → option_or x (framed fs a) ≡ None → framed fs a ≡ None
    by_word None h = h
    by_word (Some w) h = cc

-- a frame's word lies in the frames at its address
pub framed_at : (l : Layout) (m : Cells) (n : ℕ) (fs : List OpenFrame) (h : OpenFrame) (a : ℕ) (w : OWord)
    → FramesLie l m n fs → Contains fs h → word_of h a ≡ Some w → framed fs a ≡ Some w
framed_at l m n [] h a w k c e = absurd (omega (arith, c.1))
framed_at l m n (f ∷ fs) h a w k (zero, lt, q) e =
    ap (λ x. option_or x (framed fs a)) (ap (λ x. word_of x a) q ∙ e)
framed_at l m n (f ∷ fs) h a w k (suc i, lt, q) e =
    let c : Contains fs h = (i, omega (arith, lt), q) in
    let r = word_in_frame l m h a w (lies_of l m f.call fs h k.3 c) e in
    let below = below_all l m n f fs h k c in
    let low = r.0 in
    ap (λ x. option_or x (framed fs a)) (past f (omega (arith, below, low)) k.0)
    ∙ framed_at l m f.call fs h a w k.3 c e
  where
    past : (f : OpenFrame) → f.end < a → FrameLies l m f → word_of f a ≡ None
    past f lt s = by_word (word_of f a) refl
      where
        by_word : (x : Option OWord) → word_of f a ≡ x → x ≡ None
        by_word None m = refl
        by_word (Some v) e = let r = word_in_frame l m f a v s e in let high =
            r.1 in absurd (omega (arith, lt, high))

module _ (g : Link) (f : OpenFrame) (fs : List OpenFrame) where
  cap_popped : (c : CapFields) → IsSafeCap g (f ∷ fs) c → IsSafeCap g fs c
  cap_popped c h =
      record {
        area = h.area;
        runs = h.runs;
        usable = h.usable;
        low = h.low;
        order = h.order;
        high =
            h.high;
        lin = h.lin;
        may = h.may;
        free = λ a low high. none_rest f fs a (h.free a low high);
      }

  pub met_popped : (w : OWord) → IsMet g (f ∷ fs) w → IsOther f.call w → IsMet g fs w
  met_popped (Plain w) h n = tt
  met_popped (RetCode i) h n = h
  met_popped (RetData k) h n =
      elim (frame_of-cons f fs k h.0 h.1) as (λ _. (x : OpenFrame) × (frame_of fs k ≡ Some x))
      [ inl q ↦ absurd (n (sym q.0)) | inr q ↦ (h.0, q.1) ]

  pub popped : (w : OWord) → IsSafe g (f ∷ fs) w → IsOther f.call w → IsSafe g fs w
  popped (Plain (Int z)) h n = tt
  popped (Plain (Mem c)) h n = cap_popped c h
  popped (Plain (Seal c)) h n = h
  popped (Plain (Sealed k (MemIn c))) (inl h) n = inl (h.0, cap_popped c h.1)
  popped (Plain (Sealed k (SealIn c))) (inl h) n = inl h
  popped (Plain (Sealed k x)) (inr h) n = inr h
  popped (RetCode i) h n = h
  popped (RetData k) h n = met_popped (RetData k) h n

  pub fits_popped : (h : OpenFrame) → ((a : ℕ) (w : OWord) → word_of h a ≡ Some w → IsOther f.call w)
      → FrameFits g (f ∷ fs) h → FrameFits g fs h
  fits_popped h others k = record {
    part = k.part;
    trusted = k.trusted;
    code = k.code;
    code_is = k.code_is;
    index = k.index;
    site = k.site;
    there = k.there;
    row = k.row;
    to = k.to;
    first = k.first;
    others = λ a w lt e. popped w (k.others a w lt e) (others a w e);
  }

pub frames_up : (l : Layout) (m : Cells) (n k : ℕ) (fs : List OpenFrame) → n ≤ k → FramesLie l m n fs
    → FramesLie l m k fs
frames_up l m n k [] le h = tt
frames_up l m n k (f ∷ fs) le h = (h.0, (let c = h.1 in omega (arith, c, le)), h.2, h.3)
