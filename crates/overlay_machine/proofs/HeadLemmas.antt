-- The frame of a call, found among the heads.
use Rattle.std.proofs.Common.{◌≡◌, ◌≤◌, ℕ, zero, suc, ◌+◌, Bool, true, false, List, [], ◌∷◌, length, drop}
use Rattle.std.proofs.Common.{refl, sym, ap, subst, ◌∙◌, arith, Some, None}
use Rattle.std.specs.Prelude.{find, option_map, ◌==◌, if◌then◌else◌}
use Rattle.cap_words.specs.Ranges.{IsRange}
use Rattle.lcm_machine.specs.declared.cells.Span.{Span}
use Rattle.trusted_border.specs.declared.layout.Layout.{Layout}
use Rattle.frame_region.specs.Frames.{FrameSeen, head_of}
use Rattle.overlay_machine.specs.declared.words.OWord.{OWord}
use Rattle.overlay_machine.specs.declared.frames.Frame.{Frame}
use Rattle.overlay_machine.specs.State.{frame_of}
use Rattle.overlay_machine.specs.Machine.{frames_of, head_with, AreWhole}
use Rattle.overlay_machine.specs.Events.{head_of as frame_head}

pub head_step : (p : Frame → Bool) (fs : List (FrameSeen Frame OWord)) (i : ℕ) (h : Frame)
    → head_of fs i ≡ Some h → p h ≡ false → head_with p (drop i fs) ≡ head_with p (drop (i + 1) fs)
head_step p [] i h e f = cc
head_step p (g ∷ fs) zero h e f = let same : g.head ≡ h = cc in rw (ap p same ∙ f) refl
head_step p (g ∷ fs) (suc i) h e f = let n : suc i + 1 ≡ suc (i + 1) =
    omega arith in rw n (head_step p fs i h e f)

pub head_here : (p : Frame → Bool) (fs : List (FrameSeen Frame OWord)) (i : ℕ) (h : Frame)
    → head_of fs i ≡ Some h → p h ≡ true → head_with p (drop i fs) ≡ Some h
head_here p [] i h e f = cc
head_here p (g ∷ fs) zero h e f = let same : g.head ≡ h = cc in rw (ap p same ∙ f) (ap Some same)
head_here p (g ∷ fs) (suc i) h e f = head_here p fs i h e f

pub head_end : (p : Frame → Bool) (fs : List (FrameSeen Frame OWord)) (i : ℕ) → length fs ≤ i
    → head_with p (drop i fs) ≡ None
head_end p [] zero h = refl
head_end p [] (suc i) h = refl
head_end p (g ∷ fs) zero h = absurd (omega (arith, h))
head_end p (g ∷ fs) (suc i) h = head_end p fs i (omega (arith, h))

pub heads_are : (k : ℕ) (fs : List (FrameSeen Frame OWord))
    → option_map frame_head (frame_of (frames_of fs) k) ≡ head_with (λ h. h.call == k) fs
unfolding frame_of
heads_are k [] = refl
heads_are k (f ∷ fs) = by (f.head.call == k) (heads_are k fs)
  where
    by : (b : Bool)
        → option_map frame_head (find (λ g. g.call == k) (frames_of fs)) ≡ head_with (λ h. h.call == k) fs
        → option_map frame_head
        (if b then Some
        (record {
          call = f.head.call;
          site = f.head.site;
          base = f.head.base;
          end = f.head.end;
          words =
              f.items;
        }) else find (λ g. g.call == k) (frames_of fs))
        ≡ (if b then Some f.head else head_with (λ h. h.call == k) fs)
    by true r = refl
    by false r = r

pub head_range : (l : Layout) (ss : List Span) (p : Frame → Bool) (fs : List (FrameSeen Frame OWord))
    (h : Frame) → AreWhole l ss fs → head_with p fs ≡ Some h → IsRange h.base h.end
head_range l ss p [] h w e = cc
head_range l ss p (f ∷ fs) h w e = by (p f.head) refl (head_range l ss p fs h w.1)
  where
    by : (b : Bool) → p f.head ≡ b → (head_with p fs ≡ Some h → IsRange h.base h.end) → IsRange h.base h.end
    by true t r =
        let k : head_with p (f ∷ fs) ≡ Some f.head = rw t refl in
        let same : f.head ≡ h = cc in
        let a = w.0.size in
        let b = w.0.some in
        subst (λ x. IsRange x.base x.end) same (omega (arith, a, b), w.0.last)
    by false t r = let k : head_with p (f ∷ fs) ≡ head_with p fs = rw t refl in r (sym k ∙ e)
