use Rattle.std.proofs.Common.{length}
use Rattle.proc_compiler.proofs.exprs.+arg_registers.Given as goal

abbrev pub decreases-arg_registers : goal.decreases-arg_registers
decreases-arg_registers l = length l.args.now
