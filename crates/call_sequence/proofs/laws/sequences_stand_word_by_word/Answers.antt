use Rattle.call_sequence.proofs.Words.{site_decides, entry_decides}
use Rattle.call_sequence.proofs.laws.sequences_stand_word_by_word.Goals as goal

pub returns-clause-sites : goal.returns-clause-sites
returns-clause-sites c = site_decides

pub returns-clause-entries : goal.returns-clause-entries
returns-clause-entries c = entry_decides
