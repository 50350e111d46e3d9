use Rattle.source_starts.proofs.RunMeaning.{run_means}
use Rattle.source_starts.proofs.laws.runs_mean.Goals as goal

pub returns : goal.returns
returns c =
    run_means c.the_headline.ensures.holds c.cuts_are_greatest.ensures.matched c.cuts_show.ensures
    c.sources_mean.ensures
