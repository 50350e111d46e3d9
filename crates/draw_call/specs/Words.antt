-- The words as `clap` takes them: `--feed FILE --out FILE`.
use Rattle.std.specs.Prelude.{List, codes, true, Option, Some}
use Rattle.clap.specs.Words.{App, Row, Rule, first_of, new_app, new_rule, with_rule}
use Rattle.clap.specs.Simple.{on_top}
use Rattle.command_words.specs.Texts.{Text}
use Rattle.command_words.specs.Name.{file_of}
use Rattle.command_words.specs.Part.{◌>>=◌}
use Rattle.command_words.specs.Rows.{rows_by}
use Rattle.draw_call.specs.declared.words.DrawCall.{DrawCall}

-- `--name VALUE` or `--name=VALUE`, which must be used
abbrev pub required : Text → Rule
required name = record (new_rule name) { long = Some name; required = true }

-- the one simple command, of the words after the program's name
abbrev pub draw_line : App
draw_line =
    on_top (λ s. record s { no_binary_name = true })
    (with_rule (with_rule (new_app (codes "stk_draw")) (required (codes "feed"))) (required (codes "out")))

-- the names of the two files
abbrev pub call_of : List Row → Option DrawCall
call_of rows = do
  feed ← file_of (first_of (codes "feed") rows)
  out ← file_of (first_of (codes "out") rows)
  Some (record { feed = feed; out = out })

-- what the words ask for; none where the command line doesn't take them, or a name is no file's
abbrev pub call_in : List Text → Option DrawCall
call_in words = do
  rows ← rows_by draw_line words
  call_of rows
