-- The words of frames, the frame of a call, and words put back.
use Rattle.std.proofs.Common.{◌≡◌, ◌≢◌, inl, ℕ, zero, suc, ◌+◌, ◌-◌, ◌<◌, ◌≤◌, true, List, [], ◌∷◌, length}
use Rattle.std.proofs.Common.{Some, None, IsSome, is_some, refl, ap, sym, ◌∙◌, arith, lt-ltb, le-ltb, ne_eqb}
use Rattle.std.proofs.Common.{eq-eqb}
use Rattle.std.specs.Prelude.{slice_get, unwrap_or, Option}
use Rattle.cap_words.specs.Linear.{zero_word}
use Rattle.lcm_machine.specs.Cells.{cell, set_cell, all_there, words_from, put_back}
use Rattle.lcm_machine.specs.Mapped.{mapped_or}
use Rattle.lcm_machine.proofs.Offers.{cell-set_same}
use Rattle.trusted_border.specs.declared.layout.Layout.{Layout}
use Rattle.overlay_machine.specs.declared.words.OWord.{OWord}
use Rattle.overlay_machine.specs.declared.words.OWord.TheVariants.{Plain, RetCode, RetData}
use Rattle.overlay_machine.specs.State.{OpenFrame, Cells, word_of, frame_of}
use Rattle.overlay_machine.specs.Flat.{flat, flat_data}
use Rattle.overlay_machine.specs.Agree.{IsKnown, IsOther}
use Rattle.overlay_machine.proofs.OutLemmas.{put_back-other}

pub words_from-at : (m : Cells) (a n j : ℕ) → j < n
    → slice_get (words_from Plain m a n) j ≡ Some (unwrap_or (cell m (a + j)) (zero_word Plain))
unfolding words_from
words_from-at m a zero j h = absurd (omega arith)
words_from-at m a (suc n) zero h = let e : a ≡ a + 0 =
    omega arith in ap (λ k. Some (unwrap_or (cell m k) (zero_word Plain))) e
words_from-at m a (suc n) (suc j) h =
    let e : a + 1 + j ≡ a + suc j = omega arith in
    words_from-at m (a + 1) n j (omega arith) ∙ ap (λ k. Some (unwrap_or (cell m k) (zero_word Plain))) e

pub words_from-past : (m : Cells) (a n j : ℕ) → n ≤ j → slice_get (words_from Plain m a n) j ≡ None
unfolding words_from
words_from-past m a zero j h = refl
words_from-past m a (suc n) zero h = absurd (omega arith)
words_from-past m a (suc n) (suc j) h = words_from-past m (a + 1) n j (omega arith)

pub all_there-from : (m : Cells) (a n : ℕ) → ((q : ℕ) → a ≤ q → q < a + n → IsSome (cell m q))
    → all_there m a n ≡ true
unfolding all_there
all_there-from m a zero h = refl
all_there-from m a (suc n) h = let first : is_some (cell m a) ≡ true =
    h a (omega arith) (omega arith) in
    rw first (all_there-from m (a + 1) n (λ q low high. h q (omega arith) (omega arith)))

pub some_of : {W : Type 0} (o : Option W) (z : W) → IsSome o → o ≡ Some (unwrap_or o z)
some_of None z h = cc
some_of (Some w) z h = refl

pub word_of-below : (f : OpenFrame) (q : ℕ) → q < f.base → word_of f q ≡ None
unfolding word_of
word_of-below f q h = rw (lt-ltb q f.base h) refl

pub word_of-within : (f : OpenFrame) (q : ℕ) → f.base ≤ q → word_of f q ≡ slice_get f.words (q - f.base)
unfolding word_of
word_of-within f q h = rw (le-ltb q f.base h) refl

pub frame_of-later : (f : OpenFrame) (fs : List OpenFrame) (k : ℕ) → k ≢ f.call
    → frame_of (f ∷ fs) k ≡ frame_of fs k
unfolding frame_of
frame_of-later f fs k h = rw (ne_eqb f.call k (λ e. h (sym e))) refl

pub frame_of-newest : (f : OpenFrame) (fs : List OpenFrame) → frame_of (f ∷ fs) f.call ≡ Some f
unfolding frame_of
frame_of-newest f fs = rw (eq-eqb f.call f.call refl) refl

-- a frame that comes or goes changes no word but its own RetData
pub flat-other : (l : Layout) (f : OpenFrame) (fs : List OpenFrame) (w : OWord) → IsOther f.call w
    → flat l (f ∷ fs) w ≡ flat l fs w
unfolding flat
flat-other l f fs (Plain w) h = refl
flat-other l f fs (RetCode i) h = refl
flat-other l f fs (RetData k) h = ap (flat_data l) (frame_of-later f fs k h)

pub known-other : (n : ℕ) (w : OWord) → IsKnown n w → IsOther n w
known-other n (Plain w) h = tt
known-other n (RetCode i) h = tt
known-other n (RetData k) h = omega (arith, h)

pub mapped-same : {W V : Type 0} (f g : W → V) (o : Option W) (x y : Option V)
    → ((w : W) → o ≡ Some w → f w ≡ g w) → x ≡ y → mapped_or f o x ≡ mapped_or g o y
mapped-same f g None x y h e = e
mapped-same f g (Some w) x y h e = ap Some (h w refl)

pub put_back-in : (m : Cells) (a : ℕ) (ws : List OWord) (j : ℕ) → j < length ws
    → cell (put_back m a ws) (a + j) ≡ slice_get ws j
unfolding put_back
put_back-in m a [] j h = absurd (omega arith)
put_back-in m a (w ∷ ws) zero h = let e : a + 0 ≡ a =
    omega arith in
    rw e (put_back-other (set_cell m a w) (a + 1) ws a (inl (omega arith)) ∙ cell-set_same m a w)
put_back-in m a (w ∷ ws) (suc j) h = let e : a + suc j ≡ a + 1 + j =
    omega arith in rw e (put_back-in (set_cell m a w) (a + 1) ws j (omega arith))
