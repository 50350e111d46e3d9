use Rattle.std.proofs.Common.{◌*◌, replicate}
use Rattle.lcm_isa.specs.declared.Reg.TheVariants.{T1}
use Rattle.proc_templates.specs.Templates.{push}
use Rattle.proc_compiler.specs.Drafts.{Emits}
use Rattle.proc_compiler.proofs.draft.Draft.push_zeros.Given as goal

abbrev pub invariant-loop : goal.invariant-loop
invariant-loop l = Emits (push (replicate l.counter T1)) (2 * l.counter) 0 l.fn.self l.self
