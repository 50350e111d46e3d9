-- The room is kept.
use Rattle.std.proofs.Common.{◌≡◌, ◌≤◌, ◌<◌, ℕ, ◌+◌, ◌-◌, List, [], ◌∷◌, length, refl, sym, ap, subst, arith}
use Rattle.std.proofs.Common.{Some, IsTrue}
use Rattle.trusted_border.specs.declared.layout.Layout.{Layout}
use Rattle.trusted_border.specs.declared.layout.SiteCode.{SiteCode}
use Rattle.overlay_machine.proofs.invariant.FramesKept.{length-words_from}
use Rattle.cap_words.specs.declared.CapFields.{CapFields}
use Rattle.cap_words.specs.Linear.{zero_word}
use Rattle.lcm_isa.specs.declared.Reg.{Reg}
use Rattle.lcm_isa.specs.declared.Reg.TheVariants.{C2}
use Rattle.lcm_machine.specs.declared.cells.Span.{Span}
use Rattle.lcm_machine.specs.declared.plan.Effect.{Effect}
use Rattle.lcm_machine.specs.Maps.{State}
use Rattle.lcm_machine.specs.Spans.{in_spans}
use Rattle.lcm_machine.specs.Touched.{SameCells}
use Rattle.lcm_machine.specs.Row.{perform}
use Rattle.frame_region.specs.Frames.{FrameSeen, RegionSeen, sizes, newest_head, older}
use Rattle.overlay_machine.specs.declared.words.OWord.{OWord}
use Rattle.overlay_machine.specs.declared.words.OWord.TheVariants.{Plain}
use Rattle.overlay_machine.specs.declared.frames.Frame.{Frame}
use Rattle.overlay_machine.specs.declared.machine.Machine.{Machine}
use Rattle.overlay_machine.specs.Words.{look}
use Rattle.overlay_machine.specs.State.{Cells}
use Rattle.lcm_machine.specs.Cells.{all_there, without, put_back}
use Rattle.overlay_machine.specs.Step.{rest_words}
use Rattle.overlay_machine.specs.Moves.{newest_items, IsNewest, opened}
use Rattle.overlay_machine.specs.Machine.{FitsRegion, AreWhole, AreOut, Fall, here, called, returned, jumping}
use Rattle.lcm_machine.specs.Plan.{IsJump}
use Rattle.overlay_machine.proofs.RoomLemmas.{here-without, here-put_back, here-same, here-most}
use Rattle.lcm_machine.proofs.Offers.{jump-cells}
use Rattle.overlay_machine.proofs.OutLemmas.{out-same, out-called, out-returned}

-- a call has room
pub fits-room : (l : Layout) (m : Machine) (at e : ℕ) → FitsRegion l m → l.stack.base < at → at ≤ e
    → e ≤ l.stack.end
    → IsTrue (all_there m.maps.cells at (e + 1 - at)) → sizes m.frames.frames + (e + 1 - at) ≤ m.frames.cells
fits-room l m at e f a b c t =
    let h = here-without m.maps.cells at e (l.stack.base + 1) (l.stack.end - l.stack.base) (omega (arith, a))
    b (omega (arith, c, a, b)) t in
    let k = f.kept in
    let r = f.cells in
    omega (arith, h, k, r)

pub fits-called : (l : Layout) (m : Machine) (i : ℕ) (s : SiteCode) (c : CapFields) (at : ℕ) (e : Effect)
    → FitsRegion l m → l.stack.base < at → at ≤ c.end
    → c.end ≤ l.stack.end → c.end ≤ 1048575
    → ((q : ℕ) → at ≤ q → q ≤ c.end → IsTrue (in_spans q m.maps.spans))
    → IsTrue (all_there m.maps.cells at (c.end + 1 - at)) → IsJump C2 e → FitsRegion l (called m i s c at e)
fits-called l m i s c at e f a b d last spanned t j =
    let q = jump-cells look Plain (jumping m i s c at) C2 e j in
    let h = here-without m.maps.cells at c.end (l.stack.base + 1) (l.stack.end - l.stack.base)
    (omega (arith, a)) b (omega (arith, a, b, d)) t in
    let k = f.kept in
    let same : here (perform look Plain (jumping m i s c at) e).cells (l.stack.base + 1)
    (l.stack.end - l.stack.base) ≡ here (without m.maps.cells at c.end) (l.stack.base + 1)
    (l.stack.end - l.stack.base)
    = ap (λ x. here x.cells (l.stack.base + 1) (l.stack.end - l.stack.base)) q in
    record {
      cells = f.cells;
      kept = omega (arith, h, k, same);
      whole = subst (λ x. AreWhole l x.spans (called m i s c at e).frames.frames) (sym q) (
        record {
          words = (let n = length-words_from m.maps.cells (at + 1) (c.end - at) in omega (arith, n, b));
          size = omega (arith, b);
          some = omega (arith, b);
          below = d;
          above = a;
          last = last;
          spanned = spanned;
        },
        f.whole,
      );
      out = subst (λ x. AreOut x.cells (called m i s c at e).frames.frames) (sym q)
          (out-called m.maps.cells m.frames.frames
          (opened m.maps (record { call = m.calls; site = i; base = at; end = c.end })) b t f.out);
      calls = (omega arith, f.calls);
    }

-- what a return needs
pub record NewestIs (l : Layout) (ss : List Span) (fs : List (FrameSeen Frame OWord))
    (h : Frame) : Type 0 where
  pub newest : IsNewest fs h
  pub last : h.end ≤ 1048575
  pub spanned : (q : ℕ) → h.base ≤ q → q ≤ h.end → IsTrue (in_spans q ss)

pub newest-whole : (l : Layout) (ss : List Span) (fs : List (FrameSeen Frame OWord)) (h : Frame)
    → AreWhole l ss fs → newest_head fs ≡ Some h → NewestIs l ss fs h
newest-whole l ss [] h w e = cc
newest-whole l ss (f ∷ fs) h w e =
    let same : f.head ≡ h = cc in
    let a = w.0.words in
    let b = w.0.size in
    let s = w.0.some in
    subst (NewestIs l ss (f ∷ fs)) same (record {
      newest = (omega (arith, a, b), omega (arith, b, s));
      last = w.0.last;
      spanned = w.0.spanned;
    })

put-length : (w : OWord) (is : List OWord) → 1 ≤ length is → length (w ∷ rest_words is) ≡ length is
put-length w [] h = absurd (omega (arith, h))
put-length w (x ∷ is) h = refl

kept-back : (l : Layout) (ss : List Span) (m : Cells) (fs : List (FrameSeen Frame OWord)) (base : ℕ) (k : ℕ)
    → AreWhole l ss fs → (h : Frame) → IsNewest fs h → here m (l.stack.base + 1) k + sizes fs ≤ k
    → here (put_back m base (zero_word Plain ∷ rest_words (newest_items fs))) (l.stack.base + 1)
    k + sizes (older fs) ≤ k
kept-back l ss m [] base k w h n p = absurd n
kept-back l ss m (f ∷ fs) base k w h n p =
    let r = here-put_back m base (zero_word Plain ∷ rest_words f.items) (l.stack.base + 1) k in
    let a = w.0.words in
    let s = w.0.some in
    let q = put-length (zero_word Plain) f.items (omega (arith, a, s)) in
    omega (arith, r, q, a, p)

older-whole : (l : Layout) (ss : List Span) (fs : List (FrameSeen Frame OWord)) → AreWhole l ss fs
    → AreWhole l ss (older fs)
older-whole l ss [] w = tt
older-whole l ss (f ∷ fs) w = w.1

back-length : (fs : List (FrameSeen Frame OWord)) (h : Frame) → IsNewest fs h
    → h.base + length (zero_word Plain ∷ rest_words (newest_items fs)) ≡ h.end + 1
back-length [] h n = absurd n
back-length (f ∷ fs) h n = let a = n.0 in let b = n.1 in let q =
    put-length (zero_word Plain) f.items (omega (arith, a, b)) in omega (arith, q, a, b)

older-fall : (n : ℕ) (fs : List (FrameSeen Frame OWord)) → Fall n fs → Fall n (older fs)
older-fall n [] h = tt
older-fall n (f ∷ []) h = tt
older-fall n (f ∷ g ∷ fs) h = let a = h.0 in let b = h.1.0 in (omega (arith, a, b), h.1.1)

pub fits-returned : (l : Layout) (m : Machine) (r2 : Reg) (s : SiteCode) (c : CapFields) (h : Frame)
    → FitsRegion l m → IsNewest m.frames.frames h
    → newest_head m.frames.frames ≡ Some h → FitsRegion l (returned m r2 s c h)
fits-returned l m r2 s c h f n e = record {
  cells = f.cells;
  kept = kept-back l m.maps.spans m.maps.cells m.frames.frames h.base (l.stack.end - l.stack.base)
      f.whole h n f.kept;
  whole = older-whole l m.maps.spans m.frames.frames f.whole;
  out = out-returned m.maps.cells m.frames.frames h
      (zero_word Plain ∷ rest_words (newest_items m.frames.frames)) e (back-length m.frames.frames h n) f.out;
  calls = older-fall m.calls m.frames.frames f.calls;
}

-- an ordinary step, and one that sets registers alone
pub fits-same : (l : Layout) (m : Machine) (t : State OWord) → FitsRegion l m → SameCells m.maps t
    → FitsRegion l (record m { maps = t })
unfolding SameCells
fits-same l m t f k =
    let h = here-same t.cells m.maps.cells (l.stack.base + 1) (l.stack.end - l.stack.base) k.1 in
    let p = f.kept in
    record {
      cells = f.cells;
      kept = omega (arith, h, p);
      whole = subst (λ x. AreWhole l x m.frames.frames) (sym k.0) f.whole;
      out = out-same m.maps.cells t.cells m.frames.frames k.1 f.out;
      calls = f.calls;
    }

pub fits_fresh : (l : Layout) (maps : State OWord) (region : RegionSeen Frame OWord) (calls : ℕ)
    → region.frames ≡ [] → l.stack.end - l.stack.base ≤ region.cells
    → FitsRegion l (record { maps = maps; frames = region; calls = calls })
fits_fresh l maps region calls e r =
    let h = here-most maps.cells (l.stack.base + 1) (l.stack.end - l.stack.base) in
    let made : List (FrameSeen Frame OWord) → RegionSeen Frame OWord =
    λ fs. record { frames = fs; cells = region.cells } in
    subst (λ fs. FitsRegion l (record { maps = maps; frames = made fs; calls = calls })) (sym e)
    (record { cells = r; kept = omega (arith, h); whole = tt; out = tt; calls = tt })
