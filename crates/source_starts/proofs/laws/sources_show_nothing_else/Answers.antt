use Rattle.source_starts.proofs.laws.sources_show_nothing_else.Goals as goal

pub returns : goal.returns
returns c a = record {
  nothing_more = c.sources_leave_nothing.ensures a;
  plain_nothing_more = c.plain_runs_leave_nothing.ensures a;
  wiped = c.plain_runs_wipe.ensures a;
  words = c.sources_tell_words.ensures a;
  named = c.slots_are_named.ensures a;
  plain_words = c.plain_runs_tell_words.ensures a;
}
