use Rattle.context_laws.proofs.Apart.{goes_in_step as answer}
use Rattle.context_laws.proofs.laws.same_meanings_go_in_step.Goals as goal

pub returns : goal.returns
returns c = answer c.starts_begin.ensures c.linked_starts_agree.ensures c.sources_leave_nothing.ensures
    c.sources_tell_words.ensures c.wiped_cells_are_told.ensures c.sources_mean.ensures
