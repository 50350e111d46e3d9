-- Numbers among the words.
use Rattle.std.specs.Prelude.{ℕ, ◌&&◌, nat_le, nat_lt, length, Option, Some, None, option_and_then}
use Rattle.std.specs.Prelude.{if◌then◌else◌}
use Rattle.std.specs.Str.{all_ascii_digits}
use Rattle.std.specs.Str.Parse.{digits_value}
use Rattle.command_words.specs.Texts.{Text}
use Rattle.command_words.specs.declared.TheConstants.{MOST_STEPS, DEFAULT_STEPS, GREATEST_STACK}
use Rattle.command_words.specs.declared.TheConstants.{DEFAULT_STACK, GREATEST_SEED}

-- the number from `least` to `most` that decimal digits alone spell
unfoldable pub number_in : ℕ → ℕ → Text → Option ℕ
number_in least most word =
    let n = digits_value 10 word in
    if nat_lt 0 (length word) && (all_ascii_digits word && (nat_le least n && nat_le n most))
    then Some n else None

-- the number of an option, or one that stands where the option isn't used
abbrev pub number_or : ℕ → ℕ → ℕ → Option Text → Option ℕ
number_or least most otherwise None = Some otherwise
number_or least most otherwise (Some word) = number_in least most word

-- the numbers of `--steps`, `--stack` and `--seed`, of which the last must be used
abbrev pub steps_in : Option Text → Option ℕ
steps_in = number_or 1 MOST_STEPS DEFAULT_STEPS

abbrev pub size_in : Option Text → Option ℕ
size_in = number_or 0 GREATEST_STACK DEFAULT_STACK

abbrev pub seed_in : Option Text → Option ℕ
seed_in word = option_and_then (number_in 0 GREATEST_SEED) word
