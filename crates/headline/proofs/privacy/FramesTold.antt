-- A call that lines leave open is that of a frame; and the first address of the newest frame is in no other.
use Rattle.std.proofs.Common.{◌≡◌, ℕ, zero, suc, ◌≤◌, List, [], ◌∷◌, sym, ap, arith}
use Rattle.std.specs.List.{Contains}
use Rattle.trusted_border.specs.declared.layout.Layout.{Layout}
use Rattle.overlay_machine.specs.State.{OpenFrame, Cells}
use Rattle.overlay_machine.specs.Invariant.{FramesLie}
use Rattle.overlay_machine.proofs.Offers.{contains_first, contains_rest, below_all}
use Rattle.run_lines.specs.Layout.{part_name, site_of}
use Rattle.headline.specs.OpenCalls.{LineTold}
use Rattle.headline.specs.Brackets.{lines_told}

-- the part, site and range of a call are those of a frame
pub record IsCallOf (l : Layout) (f : OpenFrame) (c : LineTold) : Type 0 where
  pub part : part_name l (site_of l f.site).part ≡ c.part
  pub site : (site_of l f.site).index ≡ c.site
  pub base : f.base ≡ c.base
  pub last : f.end ≡ c.last

pub frame_of_call : (l : Layout) (fs : List OpenFrame) (c : LineTold) → Contains (lines_told l fs) c
    → (f : OpenFrame) × Contains fs f × IsCallOf l f c
frame_of_call l [] c (k, lt, e) = absurd (omega (arith, lt))
frame_of_call l (f ∷ fs) c (zero, lt, e) = (
  f,
  contains_first f fs,
  record {
    part = ap (λ y. y.part) e;
    site = ap (λ y. y.site) e;
    base = ap (λ y. y.base) e;
    last = ap (λ y. y.last) e;
  },
)
frame_of_call l (f ∷ fs) c (suc k, lt, e) =
    let r = frame_of_call l fs c (k, omega (arith, lt), e) in (r.0, contains_rest f r.0 fs r.1, r.2)

pub only_newest : (l : Layout) (m : Cells) (n : ℕ) (f : OpenFrame) (fs : List OpenFrame) (h : OpenFrame)
    → FramesLie l m n (f ∷ fs) → Contains (f ∷ fs) h → h.base ≤ f.base → h ≡ f
only_newest l m n f fs h lies (zero, lt, e) low = sym e
only_newest l m n f fs h lies (suc k, lt, e) low =
    let b = below_all l m n f fs h lies (k, omega (arith, lt), e) in
    let o = (lies.0).order in
    absurd (omega (arith, b, o, low))

-- a call at the newest frame is that frame's, in all that its line tells
pub newest_line : (l : Layout) (m : Cells) (n : ℕ) (f : OpenFrame) (fs : List OpenFrame) (c : LineTold)
    → FramesLie l m n (f ∷ fs) → Contains (lines_told l (f ∷ fs)) c → c.base ≤ f.base
    → lines_told l (f ∷ fs) ≡ c ∷ lines_told l fs
newest_line l m n f fs c lies (zero, lt, e) low = ap (λ (x : LineTold). x ∷ lines_told l fs) e
newest_line l m n f fs c lies (suc k, lt, e) low =
    let r = frame_of_call l fs c (k, omega (arith, lt), e) in
    let b = below_all l m n f fs r.0 lies r.1 in
    let o = (lies.0).order in
    let s = (r.2).base in
    absurd (omega (arith, b, o, low, s))
