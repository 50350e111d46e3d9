-- What is open after the lines of a run: ranges that lie apart, in which each address has a cell.
use Rattle.std.proofs.Common.{◌≡◌, ℕ, ◌<◌, ◌≤◌, List, [], ◌∷◌, ◌++◌, Option, Some, None, refl}
use Rattle.std.proofs.Common.{sym, ap, ◌∙◌, subst, arith, IsSome, is_some}
use Rattle.std.specs.List.{Contains}
use Rattle.lcm_machine.specs.Cells.{cell}
use Rattle.lcm_machine.specs.Mapped.{mapped_or}
use Rattle.lcm_machine.specs.Run.{plain, fresh}
use Rattle.lcm_machine.proofs.Offers.{plain_same, there_same}
use Rattle.linked_starts.specs.Parts.{PartSeen}
use Rattle.linked_starts.specs.Started.{StartSeen}
use Rattle.trusted_border.specs.declared.layout.Layout.{Layout}
use Rattle.overlay_machine.specs.State.{OpenFrame, OState, Cells, framed}
use Rattle.overlay_machine.specs.Flat.{IsFlat, flat, beside}
use Rattle.overlay_machine.specs.Runs.{RunsAgree}
use Rattle.overlay_machine.specs.Link.{Link}
use Rattle.overlay_machine.specs.Invariant.{FramesLie}
use Rattle.overlay_machine.specs.Keeping.{link_of, HoldsFor}
use Rattle.overlay_machine.specs.Starting.{overlay_at}
use Rattle.overlay_machine.proofs.Offers.{matched, lies_of, has_word, below_all, framed_at}
use Rattle.run_lines.specs.Layout.{layout}
use Rattle.run_lines.specs.Lines.{Line, call, ret, enter, pass, leave}
use Rattle.run_lines.specs.Runs.{written}
use Rattle.headline.specs.Brackets.{lines_told, LinesAreBracketed}
use Rattle.headline.specs.Alike.{LinesAgree}
use Rattle.headline.specs.OpenCalls.{LineTold, open_behind, after}
use Rattle.run_lines.specs.Cuts.{cut, cut_overlay}
use Rattle.headline.proofs.Agreeing.{HaltsAlone, agrees}
use Rattle.headline.proofs.privacy.OpenCalls.{open_are}
use Rattle.headline.proofs.privacy.FramesTold.{frame_of_call}

-- lines after others
pub open_then : (opened : List LineTold) (xs ys : List Line)
    → open_behind opened (xs ++ ys) ≡ open_behind (open_behind opened xs) ys
open_then opened [] ys = refl
open_then opened (call i p s b l args ws ∷ xs) ys = open_then _ xs ys
open_then [] (ret i p s b l z ws ∷ xs) ys = open_then [] xs ys
open_then (c ∷ opened) (ret i p s b l z ws ∷ xs) ys = open_then opened xs ys
open_then [] (enter p export stk args back ∷ xs) ys = open_then [] xs ys
open_then (c ∷ opened) (enter p export stk args back ∷ xs) ys = open_then (c ∷ opened) xs ys
open_then [] (pass p0 p1 p2 ∷ xs) ys = open_then [] xs ys
open_then (c ∷ opened) (pass p0 p1 p2 ∷ xs) ys = open_then (c ∷ opened) xs ys
open_then [] (leave p z ∷ xs) ys = open_then [] xs ys
open_then (c ∷ opened) (leave p z ∷ xs) ys = open_then (c ∷ opened) xs ys

-- each range lies below those of the older calls
abbrev pub LieApart : List LineTold → Type 0
LieApart [] = Unit {0}
LieApart (c ∷ cs) = ((d : LineTold) → Contains cs d → c.last < d.base) × LieApart cs

pub frames_lie_apart : (l : Layout) (m : Cells) (n : ℕ) (fs : List OpenFrame) → FramesLie l m n fs
    → LieApart (lines_told l fs)
frames_lie_apart l m n [] h = tt
frames_lie_apart l m n (f ∷ fs) h = (
  λ d k.
      (let told = frame_of_call l fs d k in
      let below = below_all l m n f fs told.0 h told.1 in
      let base = (told.2).base in omega (arith, below, base)),
  frames_lie_apart l m f.call fs h.3,
)

some_there : {W V : Type 0} (f : W → V) (o : Option W) (w : W) (q : Option V)
    → IsSome (mapped_or f o (mapped_or f (Some w) q))
some_there f None w q = refl
some_there f (Some v) w q = refl

module _ (parts : List PartSeen) (size : ℕ) (s : StartSeen)
    (h : HoldsFor parts size (overlay_at s) s.state.maps) (is : s.state ≡ fresh s.state.maps)
    (alone : HaltsAlone)
    (runs : RunsAgree (layout s) (overlay_at s).state s.state.maps)
    (agree : LinesAgree (layout s) (overlay_at s).state s.state.maps)
    (brackets : LinesAreBracketed (layout s) (overlay_at s).state) where
  abbrev g : Link
  g = link_of parts size (overlay_at s)

  -- the overlay at the last matched point
  abbrev LastPoint : ℕ → Type 0
  LastPoint n =
      (j : ℕ) × (p : OState) × (open_behind [] (written s n) ≡ lines_told (layout s) p.frames)
      × IsFlat (layout s) p (after s j) × FramesLie (layout s) p.maps.cells p.calls p.frames

  last_point : (n : ℕ) → (plain n s.state).end ≡ None → LastPoint n
  last_point n goes =
      let a = agrees s is alone runs in
      let k = a.goes n goes in
      let j = (cut s n).at in
      let p = cut_overlay s n in
      let at = matched g h.linked (overlay_at s).state s.state.maps h.holds j p k.0 in (
        j,
        p,
        open_are parts size s h is alone runs agree brackets n j p k.0 k.1 k.2,
        (a.matched j p k.0).1,
        (at.2).frames,
      )

  pub lie_apart : (n : ℕ) → (plain n s.state).end ≡ None → LieApart (open_behind [] (written s n))
  lie_apart n goes =
      let x = last_point n goes in
      subst (λ cs. LieApart cs) (sym x.2)
      (frames_lie_apart (layout s) (x.1).maps.cells (x.1).calls (x.1).frames x.4)

  same_there : (j : ℕ) (a : ℕ) → is_some (cell (after s j).cells a) ≡ is_some (cell s.state.maps.cells a)
  same_there j a = there_same s.state.maps (after s j) (plain_same j s.state) a

  -- each address of an open call's range has a cell
  pub cell_there : (n : ℕ) → (plain n s.state).end ≡ None → (c : LineTold) (a : ℕ)
      → Contains (open_behind [] (written s n)) c → c.base ≤ a → a ≤ c.last
      → IsSome (cell (after s n).cells a)
  unfolding beside
  cell_there n goes c a is_open low high =
      let x = last_point n goes in
      let l = layout s in
      let fs = (x.1).frames in
      let told = frame_of_call l fs c (subst (λ cs. Contains cs c) x.2 is_open) in
      let f = told.0 in
      let low_f : f.base ≤ a = (let e = (told.2).base in omega (arith, low, e)) in
      let high_f : a ≤ f.end = (let e = (told.2).last in omega (arith, high, e)) in
      let w = has_word l (x.1).maps.cells f a (lies_of l (x.1).maps.cells (x.1).calls fs f x.4 told.1) low_f
      high_f in
      let framed_is : framed fs a ≡ Some w.0 =
      framed_at l (x.1).maps.cells (x.1).calls fs f a w.0 x.4 told.1 w.1 in
      let flat_at : cell (after s x.0).cells a
      ≡ mapped_or (flat l fs) (cell (x.1).maps.cells a) (mapped_or (flat l fs) (framed fs a) None) =
      (x.3).cells a in
      same_there n a ∙ sym (same_there x.0 a)
      ∙ ap is_some
      (flat_at ∙ ap (λ o. mapped_or (flat l fs) (cell (x.1).maps.cells a) (mapped_or (flat l fs) o None))
      framed_is)
      ∙ some_there (flat l fs) (cell (x.1).maps.cells a) w.0 None
