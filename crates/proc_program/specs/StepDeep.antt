-- The parts of a statement are smaller than the whole.
use Rattle.std.specs.Prelude.{◌+◌, ◌≤◌, max, List, [], ◌∷◌}
use Rattle.std.proofs.Common.{arith}
use denote.Param.Weighed.{most}
use Rattle.proc_program.specs.declared.program.StatementKind.{StatementKind}
use Rattle.proc_program.specs.declared.program.StatementKind.TheVariants.{Set, SetAt, Do, If, While, Return}
use Rattle.proc_program.specs.declared.program.StatementKind.TheVariants.{Halt}
use Rattle.proc_program.specs.declared.program.Statement.TheDeep.{deep-StatementKind}
use Rattle.proc_program.specs.Program.{Statement, step_size, block_size}
use Rattle.proc_program.specs.StepView.{step_of, block_of}

steps_deep : (steps : List Statement) → most (λ s. step_size s + 1) steps ≤ block_size (block_of steps)
steps_deep [] = omega arith
steps_deep (s ∷ steps) = omega (arith, steps_deep steps)

pub depth_le-step_size : (kind : StatementKind) → max (deep-StatementKind kind) 0 ≤ step_size (step_of kind)
depth_le-step_size (Set x e) = omega arith
depth_le-step_size (SetAt a i e) = omega arith
depth_le-step_size (Do e) = omega arith
depth_le-step_size (If c a b) = omega (arith, steps_deep a, steps_deep b)
depth_le-step_size (While c b) = omega (arith, steps_deep b)
depth_le-step_size (Return e) = omega arith
depth_le-step_size (Halt e) = omega arith
