use Rattle.context_laws.proofs.Ends.{end_alike as answer}
use Rattle.context_laws.proofs.laws.same_meanings_end_alike.Goals as goal

pub returns : goal.returns
returns c = answer c.starts_begin.ensures c.linked_starts_agree.ensures c.sources_leave_nothing.ensures
    c.sources_tell_words.ensures c.wiped_cells_are_told.ensures c.sources_mean.ensures
    c.the_headline.ensures.holds c.cuts_are_greatest.ensures.matched
