-- The range of each call that lines leave open has an address.
use Rattle.std.proofs.Common.{◌≡◌, ℕ, true, List, [], ◌∷◌, refl, ap}
use Rattle.std.specs.Prelude.{nat_le, filter}
use Rattle.std.proofs.lemmas.Bool.{le-leb}
use Rattle.trusted_border.specs.declared.layout.Layout.{Layout}
use Rattle.overlay_machine.specs.State.{OpenFrame, Cells}
use Rattle.overlay_machine.specs.Invariant.{FramesLie}
use Rattle.overlay_machine.specs.Brackets.{frame_told}
use Rattle.headline.specs.Brackets.{line_told, lines_told}
use Rattle.drawn_runs.proofs.Boxes.{has_range}

pub frames_have_ranges : (l : Layout) (m : Cells) (n : ℕ) (fs : List OpenFrame) → FramesLie l m n fs
    → filter has_range (lines_told l fs) ≡ lines_told l fs
frames_have_ranges l m n [] h = refl
frames_have_ranges l m n (f ∷ fs) h =
    let some : nat_le f.base f.end ≡ true = le-leb f.base f.end (h.0).order in
    let rest = frames_have_ranges l m f.call fs h.3 in
    rw some (ap (λ ts. line_told l (frame_told l f fs) ∷ ts) rest)
