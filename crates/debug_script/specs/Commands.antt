-- The commands of a script: how they are spelled, and which one a line spells.
use Rattle.std.specs.Prelude.{ℕ, ◌≤◌, ◌==◌, ◌++◌, not, List, codes, decimal, find, Option, Some, None}
use Rattle.std.specs.Prelude.{option_map}
use Rattle.std.specs.Str.{bytes_eq}
use Rattle.lcm_isa.specs.declared.Reg.{Reg}
use Rattle.lcm_isa.specs.Numbers.{all_regs}
use Rattle.lcm_isa.specs.Texts.{reg_name}
use Rattle.line_fields.specs.Options.{◌>>=◌, where_true}
use Rattle.line_fields.specs.Cuts.{behind}
use Rattle.line_fields.specs.Numbers.{number_in}
use Rattle.debug_script.specs.declared.command.DebugCommand.{DebugCommand}
use Rattle.debug_script.specs.declared.command.DebugCommand.TheVariants.{Forward, Back, StopAt, Clear, Cell}
use Rattle.debug_script.specs.declared.command.DebugCommand.TheVariants.{Register}
use Rattle.debug_script.specs.declared.TheConstants.{MOST_STEPS, LAST_ADDRESS}

-- ---- spelled

-- a command makes one step or more, up to the most, and an address is one of a machine
abbrev pub Fits : DebugCommand → Type 0
Fits (Forward n) = (1 ≤ n) × (n ≤ MOST_STEPS)
Fits (Back n) = (1 ≤ n) × (n ≤ MOST_STEPS)
Fits (StopAt a) = a ≤ LAST_ADDRESS
Fits (Clear a) = a ≤ LAST_ADDRESS
Fits (Cell a) = a ≤ LAST_ADDRESS
Fits (Register r) = Unit {0}

abbrev pub command_text : DebugCommand → List ℕ
command_text (Forward n) = codes "f " ++ decimal n
command_text (Back n) = codes "b " ++ decimal n
command_text (StopAt a) = codes "stop " ++ decimal a
command_text (Clear a) = codes "clear " ++ decimal a
command_text (Cell a) = codes "c " ++ decimal a
command_text (Register r) = codes "r " ++ reg_name r

-- ---- read

unfoldable pub steps_in : List ℕ → Option ℕ
steps_in text = do
  n ← number_in MOST_STEPS text
  where_true (not (n == 0)) n

abbrev pub address_in : List ℕ → Option ℕ
address_in text = number_in LAST_ADDRESS text

-- the register of this name
unfoldable pub register_in : List ℕ → Option Reg
register_in text = find (λ r. bytes_eq (reg_name r) text) all_regs

-- what stands after a front is the operand, where there is such a front; else something else is tried
abbrev pub with_operand : Option (List ℕ) → (List ℕ → Option DebugCommand) → Option DebugCommand
    → Option DebugCommand
with_operand None meant other = other
with_operand (Some operand) meant other = meant operand

-- the command that a line spells, without its newline
unfoldable pub command_in : List ℕ → Option DebugCommand
command_in line =
    with_operand (behind (codes "f ") line) (λ n. option_map Forward (steps_in n))
    (with_operand (behind (codes "b ") line) (λ n. option_map Back (steps_in n))
    (with_operand (behind (codes "stop ") line) (λ a. option_map StopAt (address_in a))
    (with_operand (behind (codes "clear ") line) (λ a. option_map Clear (address_in a))
    (with_operand (behind (codes "c ") line) (λ a. option_map Cell (address_in a))
    (with_operand (behind (codes "r ") line) (λ r. option_map Register (register_in r)) None)))))
