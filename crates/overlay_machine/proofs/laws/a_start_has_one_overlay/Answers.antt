use Rattle.std.proofs.Common.{sym, subst}
use Rattle.overlay_machine.specs.Seen.{IsOverlayOf}
use Rattle.overlay_machine.proofs.starts.OneOverlay.{is_overlay, only_overlay}
use Rattle.overlay_machine.proofs.laws.a_start_has_one_overlay.Goals as goal

pub returns : goal.returns
returns c =
    λ parts size s is o.
    (only_overlay parts size s is o, λ e. subst (IsOverlayOf s) (sym e) (is_overlay parts size s is))
