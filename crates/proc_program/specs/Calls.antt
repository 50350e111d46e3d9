-- How many calls a program has.
use Rattle.std.specs.Prelude.{ℕ, ◌+◌, sum_by}
use Rattle.proc_program.specs.declared.program.Procedure.{Procedure}
use Rattle.proc_program.specs.declared.program.Program.{Program}
use Rattle.proc_program.specs.Program.{Exp, Number, Load, Element, Call, Binary, Args, no_args, value, pass}
use Rattle.proc_program.specs.Program.{Statement, Set, SetAt, Do, If, While, Return, Halt}
use Rattle.proc_program.specs.Program.{Block, no_steps, step}
use Rattle.proc_program.specs.StepView.{block_of}

abbrev mutual
  pub calls : Exp → ℕ
  calls (Number n) = 0
  calls (Load x) = 0
  calls (Element r e) = calls e
  calls (Call site h xs) = args_calls xs + 1
  calls (Binary o a b) = calls a + calls b

  pub args_calls : Args → ℕ
  args_calls no_args = 0
  args_calls (value e xs) = calls e + args_calls xs
  args_calls (pass h xs) = args_calls xs

abbrev mutual
  pub step_calls : Statement → ℕ
  step_calls (Set x e) = calls e
  step_calls (SetAt r i e) = calls i + calls e
  step_calls (Do e) = calls e
  step_calls (If c a b) = calls c + (block_calls a + block_calls b)
  step_calls (While c b) = calls c + block_calls b
  step_calls (Return e) = calls e
  step_calls (Halt e) = calls e

  pub block_calls : Block → ℕ
  block_calls no_steps = 0
  block_calls (step s b) = step_calls s + block_calls b

abbrev pub procedure_calls : Procedure → ℕ
procedure_calls p = block_calls (block_of p.body)

abbrev pub part_calls : Program → ℕ
part_calls part = sum_by procedure_calls part.procs
