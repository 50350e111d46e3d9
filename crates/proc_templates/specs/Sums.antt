-- The words of a call in two parts: those that compute the values of its arguments, and the rest.
use Rattle.std.specs.Prelude.{ℕ, ◌+◌, ◌-◌}
use Rattle.call_sequence.specs.declared.TheConstants.{SITE_WORDS}
use Rattle.proc_program.specs.declared.program.Handle.{Handle}
use Rattle.proc_program.specs.Program.{Args, no_args, value, pass}
use Rattle.proc_program.specs.Limits.{arg_registers}
use Rattle.proc_templates.specs.Templates.{exp_words, pair_words}

abbrev pub values_words : Args → ℕ
values_words no_args = 0
values_words (value e xs) = exp_words e + (3 + values_words xs)
values_words (pass h xs) = values_words xs

abbrev pub loads_words : Args → ℕ
loads_words no_args = 0
loads_words (value e xs) = 3 + loads_words xs
loads_words (pass h xs) = pair_words h + loads_words xs

-- a call, once the values of its arguments stand in their slots
abbrev pub after_values : Handle → Args → ℕ
after_values h xs = loads_words xs + (4 - arg_registers xs) + pair_words h + (SITE_WORDS + 4)

abbrev pub call_words : Handle → Args → ℕ
call_words h xs = values_words xs + after_values h xs
