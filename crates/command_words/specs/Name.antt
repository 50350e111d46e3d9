-- Names of files.
use Rattle.std.specs.Prelude.{Bool, ◌&&◌, not, nat_eq, nat_le, length, codes, Option, Some, None}
use Rattle.std.specs.Prelude.{option_and_then, if◌then◌else◌}
use Rattle.std.specs.List.{starts_with}
use Rattle.outside_io.specs.declared.outside.TheConstants.{LONGEST_NAME}
use Rattle.command_words.specs.Texts.{Text}

-- 1 to 255 bytes, of which the first isn't `-`
abbrev pub is_file_name : Text → Bool
is_file_name name =
    nat_le 1 (length name) && nat_le (length name) LONGEST_NAME
    && not (starts_with nat_eq name (codes "-"))

abbrev pub file_name_in : Text → Option Text
file_name_in word = if is_file_name word then Some word else None

-- the file that an option names, which must be used
abbrev pub file_of : Option Text → Option Text
file_of word = option_and_then file_name_in word
