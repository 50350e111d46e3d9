use Rattle.source_starts.proofs.RunMeaning.{cuts_show}
use Rattle.source_starts.proofs.laws.cuts_show.Goals as goal

pub returns : goal.returns
returns c =
    cuts_show c.the_headline.ensures.holds c.lines_are_a_feed.ensures.outs c.lines_are_a_feed.ensures.items
    c.lines_are_a_feed.ensures.entries c.steps_tell_so.ensures.step c.cuts_are_greatest.ensures.steps
