use Rattle.overlay_machine.proofs.Offers.{reached, matched, opened_private}
use Rattle.headline.proofs.LinesBracketed.{calls_private}
use Rattle.headline.proofs.laws.call_lines_are_private.Goals as goal

pub returns : goal.returns
returns c =
    λ g o t linked inv. calls_private g.layout o t
    (λ j ms p r. (let at = matched g linked o t inv j p (reached g linked o t inv j ms p r) in
    (at.0, at.1, opened_private g linked p at.0 at.2)))
