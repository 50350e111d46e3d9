-- Programs whose variables, temporaries, arrays and handles are there.
use Rattle.std.specs.Prelude.{◌≡◌, ℕ, ◌+◌, ◌<◌, ◌≤◌, pos, true, Bool, false, List, [], ◌∷◌, replicate}
use Rattle.std.specs.Prelude.{slice_get, Some}
use Rattle.lcm_machine.specs.Table.{fits_64}
use Rattle.proc_program.specs.declared.program.Handle.{Handle}
use Rattle.proc_program.specs.declared.program.Handle.TheVariants.{Given, Own, Imported}
use Rattle.proc_program.specs.declared.program.Location.{Location}
use Rattle.proc_program.specs.declared.program.Location.TheVariants.{Local, Global}
use Rattle.proc_program.specs.declared.program.Array.{Array}
use Rattle.proc_program.specs.Program.{Exp, Number, Load, Element, Call, Binary, Args, no_args, value, pass}
use Rattle.proc_program.specs.Program.{Statement, Set, SetAt, Do, If, While, Return, Halt}
use Rattle.proc_program.specs.Program.{Block, no_steps, step}
use Rattle.proc_program.specs.Limits.{arg_registers}

-- what a place of a procedure holds: a number, a pair, or the second half of the pair before it
pub data Kind : Type 0 where
  AsNumber : Kind
  AsPair : Kind
  AsRest : Kind

-- the places of parameters, by which of them are callbacks, and of so many locals
abbrev pub kinds_from : List Bool → ℕ → List Kind
kinds_from [] n = replicate n AsNumber
kinds_from (false ∷ bs) n = AsNumber ∷ kinds_from bs n
kinds_from (true ∷ bs) n = AsPair ∷ AsRest ∷ kinds_from bs n

-- with these kinds of places, so many words in the frame, of which temporaries begin at `temps`, so many
-- words of globals, imports, and own procedures, of which some are shared
module _ (kinds : List Kind) (words temps count imported owned : ℕ) (shared : ℕ → Bool) where
  abbrev pub PlaceInside : Location → Type 0
  PlaceInside (Local i) = slice_get kinds i ≡ Some AsNumber
  PlaceInside (Global d) = d < count

  abbrev pub RowInside : Array → Type 0
  RowInside r = r.first + r.length ≤ count

  abbrev pub HandleInside : Handle → Type 0
  HandleInside (Given i) = slice_get kinds i ≡ Some AsPair
  HandleInside (Own j) = j < owned
  HandleInside (Imported k) = k < imported

  -- a procedure that isn't shared can be called, and not passed on
  abbrev pub PassFits : Handle → Type 0
  PassFits (Given i) = slice_get kinds i ≡ Some AsPair
  PassFits (Own j) = (j < owned) × (shared j ≡ true)
  PassFits (Imported k) = k < imported

  abbrev mutual
    -- an expression whose first free slot is t
    pub ExpFits : ℕ → Exp → Type 0
    ExpFits t (Number v) = fits_64 (pos v) ≡ true
    ExpFits t (Load x) = PlaceInside x
    ExpFits t (Element r e) = RowInside r × ExpFits t e
    ExpFits t (Call n h xs) = HandleInside h × (arg_registers xs ≤ 4) × ArgsFit t 0 xs
    ExpFits t (Binary o a b) = (t < words) × ExpFits t a × ExpFits (t + 1) b

    pub ArgsFit : ℕ → ℕ → Args → Type 0
    ArgsFit t i no_args = Unit {0}
    ArgsFit t i (value e xs) = (t + i < words) × ExpFits (t + i) e × ArgsFit t (i + 1) xs
    ArgsFit t i (pass h xs) = PassFits h × ArgsFit t (i + 2) xs

  abbrev mutual
    pub StepFits : Statement → Type 0
    StepFits (Set x e) = PlaceInside x × ExpFits temps e
    StepFits (SetAt r i e) = RowInside r × (temps < words) × ExpFits temps i × ExpFits (temps + 1) e
    StepFits (Do e) = ExpFits temps e
    StepFits (If c a b) = ExpFits temps c × BlockFits a × BlockFits b
    StepFits (While c b) = ExpFits temps c × BlockFits b
    StepFits (Return e) = ExpFits temps e
    StepFits (Halt e) = ExpFits temps e

    pub BlockFits : Block → Type 0
    BlockFits no_steps = Unit {0}
    BlockFits (step s b) = StepFits s × BlockFits b
