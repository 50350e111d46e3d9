use Rattle.run_lines.proofs.FeedJoins.{outs_join, items_join, entries_are_items}
use Rattle.run_lines.proofs.laws.lines_are_a_feed.Goals as goal

pub returns-clause-outs : goal.returns-clause-outs
returns-clause-outs c = outs_join

pub returns-clause-items : goal.returns-clause-items
returns-clause-items c = items_join

pub returns-clause-entries : goal.returns-clause-entries
returns-clause-entries c = entries_are_items
