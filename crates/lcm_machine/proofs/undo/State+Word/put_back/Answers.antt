use Rattle.std.proofs.Common.{refl}
use Rattle.lcm_machine.proofs.undo.State+Word.put_back.Goals as goal

pub returns : goal.returns
returns c =
    rw (c.old_cell.ensures, c.old_reg-3.ensures, c.old_reg-2.ensures, c.old_reg.ensures, c.swap.ensures.now)
    refl
