use Rattle.std.proofs.Common.{◌*◌}
use Rattle.proc_templates.specs.Templates.{wipe}
use Rattle.proc_compiler.specs.Drafts.{Emits}
use Rattle.proc_compiler.proofs.draft.Draft.wipe.Given as goal

abbrev pub invariant-loop : goal.invariant-loop
invariant-loop l = Emits (wipe l.counter) (2 * l.counter) 0 l.fn.self l.self
