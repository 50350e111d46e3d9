use Rattle.source_instance.proofs.Entering.{entered_there}
use Rattle.source_instance.proofs.laws.code_outside_enters.Goals as goal

pub returns : goal.returns
returns c = entered_there c.the_headline.ensures.holds c.start_lines_agree.ensures.agree
