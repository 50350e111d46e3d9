-- What goes out, as lines tell it.
use Rattle.std.specs.Prelude.{◌≡◌, ℕ, ℤ, List, [], ◌∷◌, map, Option, Some, None}
use Rattle.source_events.specs.declared.OutArg.{OutArg}
use Rattle.source_events.specs.declared.OutArg.TheVariants.{Int, Half}
use Rattle.source_events.specs.declared.OutEvent.{OutEvent}
use Rattle.source_events.specs.declared.OutEvent.TheVariants.{CallOut, LeaveOut}

-- an integer, or any other word
abbrev pub out_arg : Option ℤ → OutArg
out_arg (Some z) = Int z
out_arg None = Half

-- a call, or a return, which hand-written code may make with any word
pub data OutLine : Type 0 where
  call_out : (part : List ℕ) (site : ℕ) (args : List OutArg) → OutLine
  leave_out : (part : List ℕ) (value : OutArg) → OutLine

-- what leaves the modules, as a line tells it
abbrev pub out_line : OutEvent → OutLine
out_line (CallOut part site args) = call_out part site args
out_line (LeaveOut part value) = leave_out part (Int value)

abbrev pub out_lines : List OutEvent → List OutLine
out_lines es = map out_line es

-- each procedure that leaves gives an integer
abbrev pub LeaveIntegers : List OutLine → Type 0
LeaveIntegers [] = Unit {0}
LeaveIntegers (call_out part site args ∷ es) = LeaveIntegers es
LeaveIntegers (leave_out part value ∷ es) = ((z : ℤ) × (value ≡ Int z)) × LeaveIntegers es
