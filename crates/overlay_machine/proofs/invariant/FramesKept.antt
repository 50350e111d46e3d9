-- A call and a return keep the frames in order.
use Rattle.std.proofs.Common.{◌≡◌, inl, inr, ℕ, zero, suc, ◌+◌, ◌-◌, ◌<◌, ◌≤◌, true, List, [], ◌∷◌, length}
use Rattle.std.proofs.Common.{None, IsSome, is_some, refl, ap, sym, ◌∙◌, arith}
use Rattle.std.proofs.lemmas.Bool.{cases_lt}
use Rattle.lcm_machine.specs.Cells.{cell, words_from, without, put_back}
use Rattle.trusted_border.specs.declared.layout.Layout.{Layout}
use Rattle.overlay_machine.specs.declared.words.OWord.TheVariants.{Plain}
use Rattle.overlay_machine.specs.declared.words.OWord.{OWord}
use Rattle.overlay_machine.specs.State.{OpenFrame, OState, Cells}
use Rattle.overlay_machine.specs.Step.{new_frame}
use Rattle.overlay_machine.specs.Invariant.{FrameLies, LiesBelow, FramesLie}
use Rattle.lcm_machine.proofs.Offers.{cell-without_in}
use Rattle.overlay_machine.proofs.OutLemmas.{put_back-other, fewer-without}

pub length-words_from : (m : Cells) (a n : ℕ) → length (words_from Plain m a n) ≡ n
unfolding words_from
length-words_from m a zero = refl
length-words_from m a (suc n) = ap suc (length-words_from m (a + 1) n)

lies_in : (l : Layout) (m m' : Cells) (f : OpenFrame)
    → ((q : ℕ) → f.base ≤ q → q ≤ f.end → cell m q ≡ None → cell m' q ≡ None) → FrameLies l m f
    → FrameLies l m' f
lies_in l m m' f h s =
    record {
      above = s.above;
      order = s.order;
      within = s.within;
      words = s.words;
      gone =
          λ q low high. h q low high (s.gone q low high);
    }

-- frames from an address on
abbrev StartAt : ℕ → List OpenFrame → Type 0
StartAt a [] = Unit {0}
StartAt a (f ∷ fs) = a < f.base

next_at : (l : Layout) (m : Cells) (n a : ℕ) (f : OpenFrame) (fs : List OpenFrame) → a < f.base
    → FramesLie l m n (f ∷ fs) → StartAt a fs
next_at l m n a f [] h k = tt
next_at l m n a f (g ∷ gs) h k = let s = k.0 in let b : f.base ≤ f.end = s.order in let c =
    k.2 in omega (arith, h, b, c)

frames_in : (l : Layout) (m m' : Cells) (n a : ℕ) (fs : List OpenFrame) → StartAt a fs
    → ((q : ℕ) → a < q → cell m q ≡ None → cell m' q ≡ None) → FramesLie l m n fs → FramesLie l m' n fs
frames_in l m m' n a [] at h k = tt
frames_in l m m' n a (f ∷ fs) at h k = (
  lies_in l m m' f (λ q low high. h q (omega (arith, at, low)))
      k.0,
  k.1,
  k.2,
  frames_in l m m' f.call a fs (next_at l m n a f fs at k) h k.3,
)

-- a call
pub call_keeps : (l : Layout) (i a e : ℕ) (o : OState)
    → ((q : ℕ) → l.stack.base ≤ q → q ≤ e → IsSome (cell o.maps.cells q)) → l.stack.base < a → a ≤ e
    → e ≤ l.stack.end
    → FramesLie l o.maps.cells o.calls o.frames
    → FramesLie l (without o.maps.cells a e) (o.calls + 1) (new_frame i a e o ∷ o.frames)
call_keeps l i a e o there low high top k = (
  record {
    above = low;
    order = high;
    within = top;
    words = (let n = length-words_from o.maps.cells (a + 1) (e - a) in omega (arith, n, high));
    gone = λ q x y. cell-without_in o.maps.cells a e q x y;
  },
  omega arith,
  lies o.frames k,
  frames_in l o.maps.cells (without o.maps.cells a e) o.calls 0 o.frames (starts o.frames k)
      (λ q x h. fewer-without o.maps.cells a e q h) k,
)
  where
    starts : (fs : List OpenFrame) → FramesLie l o.maps.cells o.calls fs → StartAt 0 fs
    starts [] k = tt
    starts (f ∷ fs) k = let b : l.stack.base < f.base = (k.0).above in omega (arith, b)

    -- a frame whose first cell is gone doesn't begin among the cells that stk is over
    lies : (fs : List OpenFrame) → FramesLie l o.maps.cells o.calls fs → LiesBelow (new_frame i a e o) fs
    lies [] k = tt
    lies (f ∷ fs) k = elim (cases_lt e f.base) as (λ _. e < f.base) [
      | inl lt ↦ lt
      | inr ge ↦ (let b : l.stack.base < f.base = (k.0).above in
          let none = (k.0).gone f.base (omega arith) (k.0).order in
          let some : is_some (cell o.maps.cells f.base) ≡ true = there f.base (omega (arith, b)) ge in
          let bad : is_some {T = OWord} None ≡ true = sym (ap is_some none) ∙ some in cc)
    ]

-- a return
pub return_keeps : (l : Layout) (m : Cells) (n : ℕ) (f : OpenFrame) (fs : List OpenFrame) (ws : List OWord)
    → f.base + length ws ≡ f.end + 1 → FramesLie l m n (f ∷ fs) → FramesLie l (put_back m f.base ws) f.call fs
return_keeps l m n f fs ws e k =
    frames_in l m (put_back m f.base ws) f.call f.end fs (lower fs k.2)
    (λ q x h. put_back-other m f.base ws q (inr (omega (arith, x, e))) ∙ h) k.3
  where
    lower : (fs : List OpenFrame) → LiesBelow f fs → StartAt f.end fs
    lower [] h = tt
    lower (g ∷ gs) h = h
