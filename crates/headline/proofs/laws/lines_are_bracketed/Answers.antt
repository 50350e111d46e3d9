use Rattle.overlay_machine.specs.Keeping.{link_of}
use Rattle.overlay_machine.proofs.Offers.{bracketed}
use Rattle.headline.proofs.LinesBracketed.{lines_bracketed, trace_bracketed}
use Rattle.headline.proofs.laws.lines_are_bracketed.Goals as goal

pub returns-clause-steps : goal.returns-clause-steps
returns-clause-steps c = λ g o t linked inv. lines_bracketed g.layout o (bracketed g linked o t inv)

pub returns-clause-traces : goal.returns-clause-traces
returns-clause-traces c =
    λ parts size o t h. trace_bracketed o
    (lines_bracketed o.layout o.state (bracketed (link_of parts size o) h.linked o.state t h.holds))
