use Rattle.std.proofs.Common.{rules}
use Rattle.lcm_machine.proofs.Onward.{fetched_goes_on}
use Rattle.lcm_machine.proofs.TouchLemmas.{row_same, row_untouched, same_as_is, untouched_as_is}
use Rattle.lcm_machine.proofs.HeldOnce.{row_stays, unchanged_stays}
use Rattle.lcm_machine.proofs.state.State.step.Goals as goal

pub returns-in-Err-clause-held_once : goal.returns-in-Err-clause-held_once
returns-in-Err-clause-held_once g c =
    rw c.fetch_on.ensures.same (unchanged_stays g.W.MachineWord.look c.args.self.now)

pub returns-in-Ok-clause-held_once : goal.returns-in-Ok-clause-held_once
returns-in-Ok-clause-held_once g c =
    row_stays g.W.MachineWord.look g.W.MachineWord.plain g.met.W.MachineWord.looks_plain c.args.self.now
    c.execute.new.self
    c.in-Ok.instr c.in-Ok.next c.execute.result c.in-Ok.ensures.is
    (rw c.fetch_on.ensures.same at c.execute.ensures)

pub returns-in-Err-clause-same_cells : goal.returns-in-Err-clause-same_cells
returns-in-Err-clause-same_cells g c = rw c.fetch_on.ensures.same (same_as_is c.args.self.now)

pub returns-in-Ok-clause-same_cells : goal.returns-in-Ok-clause-same_cells
returns-in-Ok-clause-same_cells g c =
    row_same g.W.MachineWord.look g.W.MachineWord.plain c.args.self.now c.execute.new.self
    c.in-Ok.instr c.in-Ok.next c.execute.result c.in-Ok.ensures.is
    (rw c.fetch_on.ensures.same at c.execute.ensures)

pub returns-in-Err-clause-untouched : goal.returns-in-Err-clause-untouched
returns-in-Err-clause-untouched g c =
    rw c.fetch_on.ensures.same (untouched_as_is g.W.MachineWord.look c.args.self.now)

pub returns-in-Ok-clause-untouched : goal.returns-in-Ok-clause-untouched
returns-in-Ok-clause-untouched g c =
    row_untouched g.W.MachineWord.look g.W.MachineWord.plain c.args.self.now c.execute.new.self
    c.in-Ok.instr c.in-Ok.next c.execute.result c.in-Ok.ensures.is
    (rw c.fetch_on.ensures.same at c.execute.ensures)

pub execute-requires : goal.execute-requires
execute-requires g c = (
  search rules,
  rw c.fetch_on.ensures.same
      (fetched_goes_on g.W.MachineWord.look g.W.MachineWord.plain c.args.self.now _ _ _ c.in-Ok.ensures.is),
)
