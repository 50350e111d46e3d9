use Rattle.source_starts.proofs.PlainWords.{start_plain}
use Rattle.source_starts.proofs.laws.plain_runs_tell_words.Goals as goal

pub returns : goal.returns
returns c = start_plain c.the_headline.ensures.holds c.sources_tell_words.ensures
