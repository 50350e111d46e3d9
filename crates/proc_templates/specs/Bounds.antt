-- Programs whose places are ones that instructions can name.
use Rattle.std.specs.Prelude.{◌+◌, ◌*◌, ◌≤◌}
use Rattle.cap_words.specs.declared.TheConstants.{LAST_PLACE}
use Rattle.proc_language.specs.declared.TheConstants.{LARGEST_LITERAL, MOST_REGISTERS}
use Rattle.proc_program.specs.declared.program.Location.{Location}
use Rattle.proc_program.specs.declared.program.Location.TheVariants.{Local, Global}
use Rattle.proc_program.specs.declared.program.Handle.{Handle}
use Rattle.proc_program.specs.declared.program.Handle.TheVariants.{Given, Own, Imported}
use Rattle.proc_program.specs.declared.program.Array.{Array}
use Rattle.proc_program.specs.Program.{Exp, Number, Load, Element, Call, Binary, Args, no_args, value, pass}
use Rattle.proc_program.specs.Program.{Statement, Set, SetAt, Do, If, While, Return, Halt}
use Rattle.proc_program.specs.Program.{Block, no_steps, step}
use Rattle.proc_program.specs.Limits.{arg_registers}
use Rattle.proc_templates.specs.declared.FrameShape.{FrameShape}

module _ (f : FrameShape) where
  abbrev pub PlaceBound : Location → Type 0
  PlaceBound (Local i) = i + 2 ≤ LAST_PLACE
  PlaceBound (Global o) = f.pairs + o ≤ LAST_PLACE

  abbrev pub RowBound : Array → Type 0
  RowBound r = (f.pairs + r.first ≤ LAST_PLACE) × (r.length ≤ LAST_PLACE)

  abbrev pub HandleBound : Handle → Type 0
  HandleBound (Given i) = i + 3 ≤ LAST_PLACE
  HandleBound (Own j) = 2 * (f.imports + j) + 1 ≤ LAST_PLACE
  HandleBound (Imported k) = 2 * k + 1 ≤ LAST_PLACE

  abbrev mutual
    pub ExpBound : Exp → Type 0
    ExpBound (Number n) = n ≤ LARGEST_LITERAL
    ExpBound (Load x) = PlaceBound x
    ExpBound (Element r e) = RowBound r × ExpBound e
    ExpBound (Call site h xs) = (arg_registers xs ≤ MOST_REGISTERS) × HandleBound h × ArgsBound xs
    ExpBound (Binary o a b) = ExpBound a × ExpBound b

    pub ArgsBound : Args → Type 0
    ArgsBound no_args = Unit {0}
    ArgsBound (value e xs) = ExpBound e × ArgsBound xs
    ArgsBound (pass h xs) = HandleBound h × ArgsBound xs

  abbrev mutual
    pub StepBound : Statement → Type 0
    StepBound (Set x e) = PlaceBound x × ExpBound e
    StepBound (SetAt r i e) = RowBound r × ExpBound i × ExpBound e
    StepBound (Do e) = ExpBound e
    StepBound (If c a b) = ExpBound c × BlockBound a × BlockBound b
    StepBound (While c b) = ExpBound c × BlockBound b
    StepBound (Return e) = ExpBound e
    StepBound (Halt e) = ExpBound e

    pub BlockBound : Block → Type 0
    BlockBound no_steps = Unit {0}
    BlockBound (step s b) = StepBound s × BlockBound b
