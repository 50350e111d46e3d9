-- Frames and what their lines tell, sites by their numbers, and registers that hold safe words.
use Rattle.std.proofs.Common.{◌≡◌, ℕ, zero, suc, ◌≤◌, Bool, true, false, List, [], ◌∷◌, Option, Some, None}
use Rattle.std.proofs.Common.{refl, sym, ap, ◌∙◌, arith}
use Rattle.std.specs.Prelude.{slice_get, option_and_then, if◌then◌else◌, find, ◌==◌}
use Rattle.std.specs.List.{Contains}
use Rattle.cap_words.specs.declared.CapFields.{CapFields}
use Rattle.cap_words.specs.declared.Word.{Word}
use Rattle.cap_words.specs.Face.{face_of}
use Rattle.cap_words.specs.Faces.{target_of}
use Rattle.lcm_isa.specs.declared.Reg.{Reg}
use Rattle.lcm_machine.specs.declared.Place.TheVariants.{R}
use Rattle.lcm_machine.specs.Maps.{State}
use Rattle.lcm_machine.specs.Places.{reg}
use Rattle.lcm_machine.specs.Row.{faces}
use Rattle.linked_starts.specs.declared.owners.Owner.{Owner}
use Rattle.linked_starts.specs.declared.owners.Site.{Site}
use Rattle.trusted_border.specs.declared.layout.Layout.{Layout}
use Rattle.trusted_border.specs.declared.layout.SiteCode.{SiteCode}
use Rattle.trusted_border.specs.Layout.{is_code, with_code, code_in, site_code}
use Rattle.trusted_border.specs.Names.{site_or, site_of}
use Rattle.overlay_machine.specs.Words.{look}
use Rattle.overlay_machine.specs.State.{OpenFrame, OState, Cells, framed}
use Rattle.overlay_machine.specs.Brackets.{frame_told}
use Rattle.overlay_machine.specs.Link.{Link}
use Rattle.overlay_machine.specs.Linked.{IsLink}
use Rattle.overlay_machine.specs.Safe.{IsSafeCap, IsSafe}
use Rattle.overlay_machine.specs.Invariant.{FramesLie, Invariant}
use Rattle.overlay_machine.proofs.Offers.{below_all, contains_first, contains_rest, lies_of, has_word}
use Rattle.overlay_machine.proofs.Offers.{framed_at, looks, mem_of_face, mem_safe, target_bounds}
use Rattle.headline.specs.OpenCalls.{LineTold}
use Rattle.headline.specs.Brackets.{line_told, lines_told}
use Rattle.confinement.proofs.Jumping.{id}

-- ---- frames and lines

-- a call that lines leave open is that of a frame
frame_of_line : (l : Layout) (fs : List OpenFrame) (c : LineTold) → Contains (lines_told l fs) c
    → (f : OpenFrame) × Contains fs f × (f.base ≡ c.base) × (f.end ≡ c.last)
frame_of_line l [] c (k, lt, e) = absurd (omega (arith, lt))
frame_of_line l (f ∷ fs) c (zero, lt, e) =
    (f, contains_first f fs, ap (λ (y : LineTold). y.base) e, ap (λ (y : LineTold). y.last) e)
frame_of_line l (f ∷ fs) c (suc k, lt, e) =
    let r = frame_of_line l fs c (k, omega (arith, lt), e) in (r.0, contains_rest f r.0 fs r.1, r.2, r.3)

-- an address that is in no frame is in no range of a call that lines leave open
pub unopened : (l : Layout) (m : Cells) (n : ℕ) (fs : List OpenFrame) (a : ℕ) → FramesLie l m n fs
    → framed fs a ≡ None → (c : LineTold) → Contains (lines_told l fs) c → c.base ≤ a → a ≤ c.last → ⊥
unopened l m n fs a lies free c there low high =
    let f = frame_of_line l fs c there in
    let b = f.2 in
    let e = f.3 in
    let w = has_word l m f.0 a (lies_of l m n fs f.0 lies f.1) (omega (arith, low, b))
    (omega (arith, high, e)) in
    let bad : None ≡ Some w.0 = sym free ∙ framed_at l m n fs f.0 a w.0 lies f.1 w.1 in
    cc

-- the line of a frame, above some older ones
abbrev pub line_of : Layout → OpenFrame → List OpenFrame → LineTold
line_of l f older = line_told l (frame_told l f older)

-- the call of a frame is one that lines leave open, and the newest where the frame is
pub line_of_frame : (l : Layout) (m : Cells) (n : ℕ) (fs : List OpenFrame) (h : OpenFrame)
    → FramesLie l m n fs
    → Contains fs h
    → (older : List OpenFrame) × Contains (lines_told l fs) (line_of l h older)
    × ((rest : List OpenFrame) → fs ≡ h ∷ rest → lines_told l fs ≡ line_of l h older ∷ lines_told l rest)
line_of_frame l m n [] h lies (k, lt, e) = absurd (omega (arith, lt))
line_of_frame l m n (f ∷ fs) h lies (zero, lt, e) = (
  fs,
  (zero, omega arith, ap (λ y. line_of l y fs) e),
  λ rest q.
      (let tail : fs ≡ rest = cc in
      ap (λ y. line_of l y fs ∷ lines_told l fs) e ∙ ap (λ ys. line_of l h fs ∷ lines_told l ys) tail),
)
line_of_frame l m n (f ∷ fs) h lies (suc k, lt, e) =
    let below = below_all l m n f fs h lies (k, omega (arith, lt), e) in
    let order = (lies.0).order in
    let r = line_of_frame l m f.call fs h lies.3 (k, omega (arith, lt), e) in (
      r.0,
      later (line_of l f fs) (line_of l h r.0) (lines_told l fs) r.1,
      λ rest q.
          (let head : f ≡ h = cc in let base = ap (λ (y : OpenFrame). y.base) head in
          absurd (omega (arith, below, order, base))),
    )
  where
    later : (x y : LineTold) (ys : List LineTold) → Contains ys y → Contains (x ∷ ys) y
    later x y ys (i, less, is) = (suc i, omega (arith, less), is)

-- ---- sites

site_at : (l : Layout) (i : ℕ) (s : SiteCode) → site_code l i ≡ Some s
    → (x : Site) × (slice_get l.sites i ≡ Some x) × (x.at ≡ s.at)
unfolding site_code
site_at l i s e = by_site (slice_get l.sites i) refl e
  where
    by_code : (x : Site) (o : Owner) (b : Bool)
        → (if b then Some (record { seal = x.seal; base = o.code.base; end = o.code.end; at = x.at })
        else None)
        ≡ Some s
        → x.at ≡ s.at
    by_code x o true h =
        (let k : record { seal = x.seal; base = o.code.base; end = o.code.end; at = x.at } ≡ s = cc in
        ap (λ (y : SiteCode). y.at) k)
    by_code x o false h = cc

    by_owner : (x : Site) (r : Option Owner) → option_and_then (with_code x) r ≡ Some s → x.at ≡ s.at
    by_owner x None h = cc
    by_owner x (Some o) h = by_code x o (is_code o.code) h

    by_site : (r : Option Site) → slice_get l.sites i ≡ r → option_and_then (code_in l.owners) r ≡ Some s
        → (x : Site) × (slice_get l.sites i ≡ Some x) × (x.at ≡ s.at)
    by_site None q h = cc
    by_site (Some x) q h = (x, q, by_owner x (find (λ o. o.part == x.part) l.owners) h)

-- a site of a number is one of the layout's
pub site_there : (l : Layout) (i : ℕ) (s : SiteCode) → site_code l i ≡ Some s
    → (x : Site) × (slice_get l.sites i ≡ Some x) × (site_of l i ≡ x) × (x.at ≡ s.at)
unfolding site_of
site_there l i s e = let x = site_at l i s e in (x.0, x.1, ap site_or x.1, x.2)

-- ---- registers

-- an address to which a register leads that is safe is within a safe capability
pub held : (g : Link) (linked : IsLink g) (o : OState) (t : State Word) (inv : Invariant g o t) (r : Reg)
    → IsSafe g o.frames (reg o.maps.regs r) → (a : ℕ) → target_of (faces id t r) ≡ Some a
    → (c : CapFields) × IsSafeCap g o.frames c × (c.base ≤ a) × (a ≤ c.end)
unfolding faces
held g linked o t inv r safe a e =
    let w = reg o.maps.regs r in
    let face = ap face_of (inv.flat.regs r) ∙ (looks g linked o t inv).0 (R r) w refl in
    let b = target_bounds (face_of (look w)) a (ap target_of (sym face) ∙ e) in
    (b.0, mem_safe g o.frames w b.0 (mem_of_face (look w) b.0 b.1) safe, b.2, b.3)
