-- Privacy told by marks: as long as no mark closes a frame, no plain instruction touches its range.
use Rattle.std.proofs.Common.{◌≡◌, ◌≢◌, ℕ, zero, suc, ◌+◌, ◌<◌, List, [], ◌∷◌, ◌++◌, length, Some, refl, sym}
use Rattle.std.proofs.Common.{ap, ◌∙◌, subst, arith}
use Rattle.cap_words.specs.declared.Word.{Word}
use Rattle.lcm_machine.specs.Maps.{State}
use Rattle.lcm_machine.specs.Row.{went}
use Rattle.trusted_border.specs.declared.layout.Layout.{Layout}
use Rattle.overlay_machine.specs.State.{OpenFrame, OState, Cells, frame_of}
use Rattle.overlay_machine.specs.Step.{goes, overlay_step, weight_of}
use Rattle.overlay_machine.specs.Runs.{begins, goes_on, plain_run}
use Rattle.overlay_machine.specs.Brackets.{FrameTold, Mark, opens, closes, frame_told, Depth}
use Rattle.overlay_machine.specs.Link.{Link}
use Rattle.overlay_machine.specs.Linked.{IsLink}
use Rattle.overlay_machine.specs.Invariant.{Invariant, FramesLie}
use Rattle.overlay_machine.specs.Privacy.{FramesArePrivate}
use Rattle.overlay_machine.proofs.BracketLemmas.{depth_split}
use Rattle.overlay_machine.proofs.Marks.{marks_of, Marked, none_yet, and_then, StaysPrivate, OpenedArePrivate}
use Rattle.overlay_machine.proofs.FrameWords.{frame_of-later, frame_of-newest}
use Rattle.overlay_machine.proofs.invariant.Bracketed.{Moves, stays, pushes, pops, step_moves, reached}
use Rattle.overlay_machine.proofs.invariant.Bracketed.{matched}
use Rattle.overlay_machine.proofs.invariant.FramePrivate.{frames_private}

-- ---- frames above others

abbrev Above : List OpenFrame → List OpenFrame → ℕ → Type 0
Above base now n = (newer : List OpenFrame) × (now ≡ newer ++ base) × (length newer ≡ n)

move_above : (l : Layout) (base before after : List OpenFrame) (ms : List (Mark FrameTold)) (d e : ℕ)
    → Above base before d → Moves l before after ms → Depth ms d e → Above base after e
move_above l base before after ms d e k (stays m a) h = let same : d ≡ e =
    subst (λ z. Depth z d e) m h in (k.0, a ∙ k.1, k.2 ∙ same)
move_above l base before after ms d e k (pushes f m a) h = let more : suc d ≡ e =
    subst (λ z. Depth z d e) m h in (f ∷ k.0, a ∙ ap (λ z. f ∷ z) k.1, ap suc k.2 ∙ more)
move_above l base before after ms d e k (pops f m a) h = by_depth d (subst (λ z. Depth z d e) m h) k.2
  where
    by_newer : (newer : List OpenFrame) (n : ℕ) → f ∷ after ≡ newer ++ base → length newer ≡ suc n → n ≡ e
        → Above base after e
    by_newer [] n q m s = absurd (omega (arith, m))
    by_newer (z ∷ zs) n q m s = (zs, (let w : after ≡ zs ++ base = cc in w), omega (arith, m, s))

    by_depth : (d : ℕ) → Depth (closes (frame_told l f after) ∷ []) d e → length k.0 ≡ d → Above base after e
    by_depth zero h m = absurd h
    by_depth (suc n) h m = by_newer k.0 n (sym a ∙ k.1) m h

-- the frame of a call among newer ones
call_below : (l : Layout) (m : Cells) (n : ℕ) (newer : List OpenFrame) (f : OpenFrame)
    (older : List OpenFrame) → FramesLie l m n (newer ++ f ∷ older) → f.call < n
call_below l m n [] f older k = k.1
call_below l m n (h ∷ hs) f older k = let a = call_below l m h.call hs f older k.3 in let b =
    k.1 in omega (arith, a, b)

frame_among : (l : Layout) (m : Cells) (n : ℕ) (newer : List OpenFrame) (f : OpenFrame)
    (older : List OpenFrame) → FramesLie l m n (newer ++ f ∷ older)
    → frame_of (newer ++ f ∷ older) f.call ≡ Some f
frame_among l m n [] f older k = frame_of-newest f older
frame_among l m n (h ∷ hs) f older k =
    let below = call_below l m h.call hs f older k.3 in
    let ne : f.call ≢ h.call = omega (arith, below) in
    frame_of-later h (hs ++ f ∷ older) f.call ne ∙ frame_among l m h.call hs f older k.3

module _ (g : Link) (linked : IsLink g) where
  abbrev L : Layout
  L = g.layout

  -- while marks close nothing that was open before, the frames of before stay
  frames_above : (o : OState) (t : State Word) → Invariant g o t → (j : ℕ) (ms : List (Mark FrameTold))
      (p : OState) → Marked L o j ms p → (e : ℕ) → Depth ms 0 e → Above o.frames p.frames e
  frames_above o t inv _ _ _ none_yet e h = ([], refl, h)
  frames_above o t inv _ _ q (and_then {j = j} {ms = ms} {p = p} r step) e h =
      let s = matched g linked o t inv j p (reached g linked o t inv j ms p r) in
      let s' = matched g linked o t inv (j + weight_of L p)
      q (goes_on (reached g linked o t inv j ms p r) step) in
      let k = depth_split ms (marks_of L p q) 0 e h in
      move_above L o.frames p.frames q.frames (marks_of L p q) k.0 e (frames_above o t inv j ms p r k.0 k.1)
      (step_moves g linked p s.0 s.2 q s'.0 s'.2 step) k.2

  module _ (p : OState) (t : State Word) (inv : Invariant g p t) (q : OState) (u : State Word)
      (inv' : Invariant g q u) (x : FrameTold) (step : overlay_step L p ≡ goes q)
      (line : marks_of L p q ≡ opens x ∷ []) where
    newest : (f : OpenFrame) × (q.frames ≡ f ∷ p.frames) × (frame_told L f p.frames ≡ x)
    newest = by_move (marks_of L p q) line (step_moves g linked p t inv q u inv' step)
      where
        by_move : (ms : List (Mark FrameTold)) → ms ≡ opens x ∷ [] → Moves L p.frames q.frames ms
            → (f : OpenFrame) × (q.frames ≡ f ∷ p.frames) × (frame_told L f p.frames ≡ x)
        by_move ms l (stays e a) = absurd (let bad : [] ≡ opens x ∷ [] = sym e ∙ l in cc)
        by_move ms l (pushes f e a) =
            (let m : opens (frame_told L f p.frames) ∷ [] ≡ opens x ∷ [] =
            sym e ∙ l in let w : frame_told L f p.frames ≡ x = cc in (f, a, w))
        by_move ms l (pops f e a) =
            absurd (let bad : closes (frame_told L f q.frames) ∷ [] ≡ opens x ∷ [] = sym e ∙ l in cc)

    abbrev f : OpenFrame
    f = newest.0

    base_is : f.base ≡ x.base
    base_is = ap (λ y. y.base) newest.2

    end_is : f.end ≡ x.end
    end_is = ap (λ y. y.end) newest.2

    open_now : frame_of q.frames f.call ≡ Some f
    open_now = ap (λ y. frame_of y f.call) newest.1 ∙ frame_of-newest f p.frames

    still : (j e : ℕ) (ms : List (Mark FrameTold)) (r : OState) → Marked L q j ms r → Depth ms 0 e
        → frame_of r.frames f.call ≡ Some f
    still j e ms r w h =
        let k = frames_above q u inv' j ms r w e h in
        let s = matched g linked q u inv' j r (reached g linked q u inv' j ms r w) in
        let a : r.frames ≡ k.0 ++ f ∷ p.frames = k.1 ∙ ap (λ y. k.0 ++ y) newest.1 in
        ap (λ y. frame_of y f.call) a
        ∙ frame_among L r.maps.cells r.calls k.0 f p.frames
        (subst (λ y. FramesLie L r.maps.cells r.calls y) a (s.2).frames)

    private : FramesArePrivate g q u
    private = frames_private g linked q u inv'

    pub stays_private : StaysPrivate L q u x
    stays_private = record {
      while_open =
          λ j e a ms r w h low high.
          private.while_open f.call f open_now j r (reached g linked q u inv' j ms r w) (still j e ms r w h) a
          (let b = base_is in omega (arith, b, low)) (let b = end_is in omega (arith, b, high));
      up_to_return =
          λ j e a ms r r1 r2 w h c low high. private.up_to_return f.call f open_now j r
          (reached g linked q u inv' j ms r w) (still j e ms r w h) r1 r2 c a
          (let b = base_is in omega (arith, b, low)) (let b = end_is in omega (arith, b, high));
    }

  pub opened_private : (p : OState) (t : State Word) → Invariant g p t → OpenedArePrivate L p t
  opened_private p t inv q u x step ran line =
      let s = matched g linked p t inv (0 + weight_of L p) q (goes_on begins step) in
      let z : 0 + weight_of L p ≡ weight_of L p = omega arith in
      let same : went s.0 ≡ went u = sym s.1 ∙ ap (λ n. plain_run n t) z ∙ ran in
      let w : s.0 ≡ u = cc in
      stays_private p t inv q u (subst (Invariant g q) w s.2) x step line
