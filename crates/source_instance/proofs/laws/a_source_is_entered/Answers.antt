use Rattle.source_instance.proofs.Run.{source_there}
use Rattle.source_instance.proofs.laws.a_source_is_entered.Goals as goal

pub returns : goal.returns
returns c =
    source_there c.the_headline.ensures.holds c.start_lines_agree.ensures.agree c.sources_mean.ensures
