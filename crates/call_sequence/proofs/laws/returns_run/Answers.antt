use Rattle.call_sequence.proofs.ReturnLaws.{return_runs, return_apart, return_off_base}
use Rattle.call_sequence.proofs.SequenceWalks.{return_words, joint_return_words}
use Rattle.call_sequence.proofs.laws.returns_run.Goals as goal

pub returns-clause-joint : goal.returns-clause-joint
returns-clause-joint g c =
    return_runs g.W.MachineWord.look g.W.MachineWord.plain g.met.W.MachineWord.looks_plain

pub returns-clause-apart : goal.returns-clause-apart
returns-clause-apart g c = return_apart g.W.MachineWord.look g.W.MachineWord.plain

pub returns-clause-off_base : goal.returns-clause-off_base
returns-clause-off_base g c =
    return_off_base g.W.MachineWord.look g.W.MachineWord.plain g.met.W.MachineWord.looks_plain

pub returns-clause-words : goal.returns-clause-words
returns-clause-words g c =
    return_words g.W.MachineWord.look g.W.MachineWord.plain g.met.W.MachineWord.looks_plain

pub returns-clause-joint_words : goal.returns-clause-joint_words
returns-clause-joint_words g c =
    joint_return_words g.W.MachineWord.look g.W.MachineWord.plain g.met.W.MachineWord.looks_plain
