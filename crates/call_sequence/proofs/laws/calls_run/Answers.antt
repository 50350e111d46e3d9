use Rattle.call_sequence.proofs.CallLaws.{call_runs, call_jumps, call_at_base, call_outside}
use Rattle.call_sequence.proofs.SequenceWalks.{call_words}
use Rattle.call_sequence.proofs.laws.calls_run.Goals as goal

pub returns-clause-above : goal.returns-clause-above
returns-clause-above g c =
    call_runs g.W.MachineWord.look g.W.MachineWord.plain g.met.W.MachineWord.looks_plain

pub returns-clause-jumps : goal.returns-clause-jumps
returns-clause-jumps g c =
    call_jumps g.W.MachineWord.look g.W.MachineWord.plain g.met.W.MachineWord.looks_plain

pub returns-clause-at_base : goal.returns-clause-at_base
returns-clause-at_base g c =
    call_at_base g.W.MachineWord.look g.W.MachineWord.plain g.met.W.MachineWord.looks_plain

pub returns-clause-outside : goal.returns-clause-outside
returns-clause-outside g c = call_outside g.W.MachineWord.look g.W.MachineWord.plain

pub returns-clause-words : goal.returns-clause-words
returns-clause-words g c =
    call_words g.W.MachineWord.look g.W.MachineWord.plain g.met.W.MachineWord.looks_plain
