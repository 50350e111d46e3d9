use Rattle.call_sequence.proofs.EntryLaws.{entry_runs, entry_fails}
use Rattle.call_sequence.proofs.SequenceWalks.{entry_words}
use Rattle.call_sequence.proofs.laws.entries_run.Goals as goal

pub returns-clause-stack : goal.returns-clause-stack
returns-clause-stack g c =
    entry_runs g.W.MachineWord.look g.W.MachineWord.plain g.met.W.MachineWord.looks_plain

pub returns-clause-others : goal.returns-clause-others
returns-clause-others g c =
    entry_fails g.W.MachineWord.look g.W.MachineWord.plain g.met.W.MachineWord.looks_plain

pub returns-clause-words : goal.returns-clause-words
returns-clause-words g c =
    entry_words g.W.MachineWord.look g.W.MachineWord.plain g.met.W.MachineWord.looks_plain
