use Rattle.std.proofs.Common.{length}
use Rattle.proc_compiler.proofs.lists.+insert_exports.Given as goal

abbrev pub decreases-insert_exports : goal.decreases-insert_exports
decreases-insert_exports l = length l.procs.now
