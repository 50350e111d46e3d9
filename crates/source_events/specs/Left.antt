-- How many words of stack are handed over to a procedure that is entered.
use Rattle.std.specs.Prelude.{ℕ, ◌+◌, ◌-◌, Option, Some, None, if◌then◌else◌}
use Rattle.cap_words.specs.declared.CapFields.{CapFields}
use Rattle.cap_words.specs.declared.Word.{Word}
use Rattle.cap_words.specs.declared.Word.TheVariants.{Mem}
use Rattle.cap_words.specs.Stacks.{is_stack_from}

-- all of its range by the capability of the stack, and by no other
abbrev pub left_by : ℕ → CapFields → Option ℕ
left_by base c = if is_stack_from base c then Some (c.end + 1 - c.base) else None

-- every other word is refused as a stack
abbrev pub left_in : ℕ → Word → Option ℕ
left_in base (Mem c) = left_by base c
left_in base _ = None
