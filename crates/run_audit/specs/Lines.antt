-- The lines of a trace, read field by field.
use Rattle.std.specs.Prelude.{ℕ, ◌==◌, Bool, true, false, List, [], codes, not, ◌||◌}
use Rattle.std.specs.Prelude.{Option, Some, None, if◌then◌else◌, is_some}
use Rattle.std.specs.List.{list_all}
use Rattle.std.specs.Str.{bytes_eq}
use Rattle.cap_words.specs.Names.{is_name}
use Rattle.source_events.specs.Forms.{is_pair}
use Rattle.line_fields.specs.Options.{where_true}
use Rattle.line_fields.specs.Cuts.{behind}
use Rattle.line_fields.specs.Numbers.{number_in, natural_in, integer_in}
use Rattle.line_fields.specs.Words.{is_word}
use Rattle.line_fields.specs.Forms.{back_in, handed_in}
use Rattle.line_fields.specs.Fields.{Reader, ◌>>=◌, done, field, unless_none, meant, tested, whole, fields}
use Rattle.run_audit.specs.declared.TheConstants.{LAST_COUNT, LAST_CAUSE}
use Rattle.run_audit.specs.declared.line.Line.{Line}
use Rattle.run_audit.specs.declared.line.Line.TheVariants.{Call, Ret, Enter, Pass, Leave, End}
use Rattle.run_audit.specs.Told.{ToldSeen}

-- ---- single fields

-- in or out
abbrev pub is_direction : List ℕ → Bool
is_direction text = bytes_eq (codes "in") text || bytes_eq (codes "out") text

-- causes are numbered from 1
abbrev pub is_number_of_cause : Option ℕ → Bool
is_number_of_cause None = false
is_number_of_cause (Some n) = not (n == 0)

abbrev pub is_cause_behind : Option (List ℕ) → Bool
is_cause_behind None = false
is_cause_behind (Some number) = is_number_of_cause (number_in LAST_CAUSE number)

-- F1 to F14
unfoldable pub is_cause : List ℕ → Bool
is_cause text = is_cause_behind (behind (codes "F") text)

-- pc's address, or `-`
unfoldable pub is_address : List ℕ → Bool
is_address text = bytes_eq (codes "-") text || is_some (integer_in text)

-- ---- call and ret

-- a0 to a3 of a call, and a0 of a return
abbrev pub registers : Bool → Reader (List ℕ)
registers true = do
  a0 ← tested is_word
  a1 ← tested is_word
  a2 ← tested is_word
  tested is_word
registers false = tested is_word

-- all the fields that are left are words
unfoldable pub words_left : Reader (List (List ℕ))
words_left ts = unless_none (where_true (list_all is_word ts) ts) []

-- the last address, the registers, a colon and the words, behind these
unfoldable pub told_with : Bool → List ℕ → ℕ → ℕ → Reader ToldSeen
told_with is_call part site base = do
  last ← meant natural_in
  args ← registers is_call
  colon ← tested (bytes_eq (codes ":"))
  words ← words_left
  done (record { part = part; site = site; base = base; last = last; words = words })

-- what a call line, or a ret line, tells
unfoldable pub told : Bool → Reader ToldSeen
told is_call = do
  direction ← tested is_direction
  part ← tested is_name
  site ← meant natural_in
  base ← meant natural_in
  told_with is_call part site base

unfoldable pub call : Reader Line
call = do
  t ← told true
  done (Call t)

unfoldable pub ret : Reader Line
ret = do
  t ← told false
  done (Ret t)

-- ---- the other lines

unfoldable pub entered : Reader Line
entered = do
  part ← tested is_name
  export ← tested is_name
  stk ← tested is_word
  args ← registers true
  back ← meant back_in
  done Enter

unfoldable pub passed : Reader Line
passed = do
  p0 ← meant handed_in
  p1 ← meant handed_in
  p2 ← meant handed_in
  unless_none (where_true (is_pair p0 || is_pair p1 || is_pair p2) Pass)

unfoldable pub left : Reader Line
left = do
  part ← tested is_name
  a0 ← tested is_word
  done Leave

-- ---- end lines

unfoldable pub steps : Reader Line
steps = do
  name ← tested (bytes_eq (codes "steps"))
  count ← meant (number_in LAST_COUNT)
  done End

unfoldable pub halted : Reader Line
halted = do
  a0 ← tested is_word
  steps

unfoldable pub failed : Reader Line
failed = do
  pc ← tested is_address
  cause ← tested is_cause
  steps

unfoldable pub running : Reader Line
running = do
  pc ← tested is_address
  steps

-- ---- all of them

unfoldable pub line_named : List ℕ → Reader Line
line_named name =
    if bytes_eq (codes "call") name then call
    else if bytes_eq (codes "ret") name then ret
    else if bytes_eq (codes "enter") name then entered
    else if bytes_eq (codes "pass") name then passed
    else if bytes_eq (codes "leave") name then left
    else if bytes_eq (codes "halted") name then halted
    else if bytes_eq (codes "failed") name then failed
    else if bytes_eq (codes "running") name then running
    else λ ts. None

unfoldable pub one_line : Reader Line
one_line = field >>= line_named

unfoldable pub line_in : List ℕ → Option Line
line_in line = whole (one_line (fields line))

abbrev pub is_end : Line → Bool
is_end End = true
is_end (Call t) = false
is_end (Ret t) = false
is_end Enter = false
is_end Pass = false
is_end Leave = false
