-- The words as the command line's one simple command takes them.
use Rattle.std.specs.Prelude.{List, [], ◌∷◌, fold, codes, true, Option, Some, None, if◌then◌else◌}
use Rattle.clap.specs.Words.{App, Row, Rule, all_of, first_of, matches_of, takes, new_app, new_rule}
use Rattle.clap.specs.Words.{with_rule}
use Rattle.command_words.specs.Texts.{Text}
use Rattle.clap.specs.declared.builder.action.ArgAction.TheVariants.{Append}

-- `--name VALUE` or `--name=VALUE`
abbrev pub option : Text → Rule
option name = record (new_rule name) { long = Some name }

abbrev pub action_word : Rule
action_word = record (new_rule (codes "ACTION")) { required = true }

abbrev pub part_words : Rule
part_words = record (new_rule (codes "PARTS")) { action = Some Append }

abbrev pub rules : List Rule
rules = action_word ∷ option (codes "stack") ∷ option (codes "steps") ∷ option (codes "out")
    ∷ option (codes "feed") ∷ option (codes "seed") ∷ part_words ∷ []

-- ACTION, which is required, the options, and PARTS of any number
abbrev pub line : App
line = fold with_rule (new_app (codes "stk")) rules

-- the words under each name
pub record Taken : Type 0 where
  pub action : Option Text
  pub parts : Option (List Text)
  pub stack : Option Text
  pub steps : Option Text
  pub out : Option Text
  pub feed : Option Text
  pub seed : Option Text

abbrev pub taken_of : List Row → Taken
taken_of rows = record {
  action = first_of (codes "ACTION") rows;
  parts = all_of (codes "PARTS") rows;
  stack = first_of (codes "stack") rows;
  steps = first_of (codes "steps") rows;
  out = first_of (codes "out") rows;
  feed = first_of (codes "feed") rows;
  seed = first_of (codes "seed") rows;
}

-- the words with the program's name before them
abbrev pub named : List Text → List Text
named words = codes "stk" ∷ words

-- the matches, where the command line takes the words
abbrev pub rows : List Text → Option (List Row)
rows words = if takes line (named words) then Some (matches_of line (named words)) else None
