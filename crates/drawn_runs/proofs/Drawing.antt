-- What is due of `draw` for a text that passes the audit.
use Rattle.std.proofs.Common.{◌≡◌, List, ℕ, Ok, Err, ap}
use Rattle.std.specs.Prelude.{if◌then◌else◌}
use Rattle.run_audit.specs.Audit.{audited}
use Rattle.run_picture.specs.declared.fault.DrawFault.TheVariants.{TooLong}
use Rattle.run_picture.specs.Picture.{picture, is_too_long, drawn_if, drawn}

pub passing_drawn : (text : List ℕ) → audited text ≡ Ok tt
    → drawn text ≡ (if is_too_long text then Err TooLong else Ok (picture text))
unfolding drawn
passing_drawn text h = ap (λ r. if is_too_long text then Err TooLong else drawn_if r text) h
