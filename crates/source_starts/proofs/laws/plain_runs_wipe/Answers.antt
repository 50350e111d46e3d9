use Rattle.source_starts.proofs.PlainWiped.{start_wipes}
use Rattle.source_starts.proofs.laws.plain_runs_wipe.Goals as goal

pub returns : goal.returns
returns c =
    start_wipes c.starts_begin.ensures c.linked_starts_agree.ensures c.the_headline.ensures.holds
    c.wiped_cells_are_told.ensures
