-- The word that a frame has at an address, found from the newest frame on.
use Rattle.std.proofs.Common.{◌≡◌, ◌≤◌, ◌<◌, ◌⊎◌, inl, inr, ℕ, zero, suc, ◌+◌, ◌-◌, List, [], ◌∷◌, length}
use Rattle.std.proofs.Common.{drop, refl, ap, subst, arith, Some, None, Option, IsSome, lt-ltb, le-ltb}
use Rattle.std.specs.Prelude.{slice_get}
use Rattle.std.specs.Option.{option_or}
use Rattle.std.proofs.lemmas.Option.{slice_get_past, slice_get-get_or}
use Rattle.lcm_machine.specs.declared.cells.Span.{Span}
use Rattle.cap_words.specs.Linear.{zero_word}
use Rattle.trusted_border.specs.declared.layout.Layout.{Layout}
use Rattle.frame_region.specs.Frames.{FrameSeen, head_of, item_at}
use Rattle.overlay_machine.specs.declared.words.OWord.{OWord}
use Rattle.overlay_machine.specs.declared.words.OWord.TheVariants.{Plain}
use Rattle.overlay_machine.specs.declared.frames.Frame.{Frame}
use Rattle.overlay_machine.specs.State.{word_of, framed}
use Rattle.overlay_machine.specs.Machine.{frame_seen, frames_of, AreWhole, AreFull}

abbrev Frames : Type 0
Frames = List (FrameSeen Frame OWord)

pub whole_full : (l : Layout) (ss : List Span) (fs : Frames) → AreWhole l ss fs → AreFull fs
whole_full l ss [] w = tt
whole_full l ss (f ∷ fs) w =
    (let a = w.0.words in let b = w.0.size in omega (arith, a, b), whole_full l ss fs w.1)

outside : (f : FrameSeen Frame OWord) (a : ℕ) → f.head.base + length f.items ≡ f.head.end + 1
    → (a < f.head.base) ⊎ (f.head.end < a) → word_of (frame_seen f) a ≡ None
unfolding word_of
outside f a full (inl low) = rw (lt-ltb a f.head.base low) refl
outside f a full (inr high) =
    rw (le-ltb a f.head.base (omega (arith, full, high)))
    (slice_get_past f.items (a - f.head.base) (omega (arith, full, high)))

inside : (f : FrameSeen Frame OWord) (a : ℕ) (w : OWord) → f.head.base ≤ a
    → slice_get f.items (a - f.head.base) ≡ Some w → word_of (frame_seen f) a ≡ Some w
unfolding word_of
inside f a w low e = rw (le-ltb a f.head.base low) e

-- a frame that doesn't have the address is passed
pub framed_step : (fs : Frames) (i a : ℕ) (h : Frame) → AreFull fs → head_of fs i ≡ Some h
    → (a < h.base) ⊎ (h.end < a) → framed (frames_of (drop i fs)) a ≡ framed (frames_of (drop (i + 1) fs)) a
framed_step [] i a h full e out = cc
framed_step (g ∷ fs) zero a h full e out =
    let same : h ≡ g.head = cc in
    ap (λ o. option_or o (framed (frames_of fs) a))
    (outside g a full.0 (subst (λ x. (a < x.base) ⊎ (x.end < a)) same out))
framed_step (g ∷ fs) (suc i) a h full e out = let n : suc i + 1 ≡ suc (i + 1) =
    omega arith in rw n (framed_step fs i a h full.1 e out)

-- one that has it has a word there
some_is : {A : Type 0} (o : Option A) (x : A) → o ≡ Some x → IsSome o
some_is o x e = rw e refl

pub item_there_is : (fs : Frames) (i a : ℕ) (h : Frame) → AreFull fs → head_of fs i ≡ Some h → h.base ≤ a
    → a ≤ h.end → IsSome (item_at fs i (a - h.base))
item_there_is [] i a h full e low high = cc
item_there_is (g ∷ fs) zero a h full e low high =
    let same : g.head ≡ h = cc in
    let n : a - h.base < length g.items =
    (let f = full.0 in let s : g.head.base ≡ h.base =
    ap (λ (x : Frame). x.base) same in let t : g.head.end ≡ h.end =
    ap (λ (x : Frame). x.end) same in omega (arith, f, s, t, low, high)) in
    some_is _ _ (slice_get-get_or g.items (a - h.base) (zero_word Plain) n)
item_there_is (g ∷ fs) (suc i) a h full e low high = item_there_is fs i a h full.1 e low high

pub framed_here : (fs : Frames) (i a : ℕ) (h : Frame) (w : OWord) → head_of fs i ≡ Some h → h.base ≤ a
    → item_at fs i (a - h.base) ≡ Some w → framed (frames_of (drop i fs)) a ≡ Some w
framed_here [] i a h w e low at = cc
framed_here (g ∷ fs) zero a h w e low at =
    let same : h ≡ g.head = cc in
    ap (λ o. option_or o (framed (frames_of fs) a))
    (inside g a w (subst (λ x. x.base ≤ a) same low)
    (subst (λ x. slice_get g.items (a - x.base) ≡ Some w) same at))
framed_here (g ∷ fs) (suc i) a h w e low at = framed_here fs i a h w e low at
