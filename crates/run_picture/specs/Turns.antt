-- What the lines of a run change in a picture.
use Rattle.std.specs.Prelude.{ℕ, Bool, true, false, List, codes, Option, Some, None, option_and_then}
use Rattle.std.specs.Prelude.{if◌then◌else◌}
use Rattle.std.specs.Str.{bytes_eq}
use Rattle.cap_words.specs.declared.Perm.TheVariants.{No, R, Rw, Rx, Rwx}
use Rattle.cap_words.specs.declared.Perm.{Perm}
use Rattle.cap_words.specs.declared.Lin.{Lin}
use Rattle.cap_words.specs.declared.Lin.TheVariants.{Normal, Linear}
use Rattle.cap_words.specs.declared.Word.{Word}
use Rattle.cap_words.specs.declared.Word.TheVariants.{Int, Mem, Seal, Sealed}
use Rattle.line_fields.specs.Words.{word_in}
use Rattle.line_fields.specs.Numbers.{natural_in}
use Rattle.line_fields.specs.Fields.{Reader, ◌>>=◌, done, field, meant, fields}
use Rattle.run_picture.specs.declared.turn.Side.{Side}
use Rattle.run_picture.specs.declared.turn.Side.TheVariants.{Trusted, Outside}
use Rattle.run_picture.specs.declared.turn.Extent.{Extent}
use Rattle.run_picture.specs.declared.turn.Turn.{Turn}
use Rattle.run_picture.specs.declared.turn.Turn.TheVariants.{Call, Ret, Enter, Leave, Other}

-- `in`, or `out`
abbrev pub side_of : List ℕ → Side
side_of direction = if bytes_eq (codes "in") direction then Trusted else Outside

abbrev pub call_or_ret : Bool → Side → Extent → Turn
call_or_ret true side span = Call side span
call_or_ret false side span = Ret side span

-- of a call line, or a ret line
unfoldable pub spanned : Bool → Reader Turn
spanned is_call = do
  direction ← field
  part ← field
  site ← field
  base ← meant natural_in
  last ← meant natural_in
  done (call_or_ret is_call (side_of direction) (record { base = base; last = last }))

-- where a stack ends: a linear capability to read and write
abbrev pub rw_end : Perm → Lin → ℕ → Option ℕ
rw_end Rw Linear end = Some end
rw_end _ _ end = None

abbrev pub word_end : Word → Option ℕ
word_end (Mem c) = rw_end c.perm c.lin c.end
word_end _ = None

abbrev pub stack_end : List ℕ → Option ℕ
stack_end text = option_and_then word_end (word_in text)

unfoldable pub entered : Reader Turn
entered = do
  part ← field
  export ← field
  stk ← field
  done (Enter (stack_end stk))

unfoldable pub turn_named : List ℕ → Reader Turn
turn_named name =
    if bytes_eq (codes "call") name then spanned true
    else if bytes_eq (codes "ret") name then spanned false
    else if bytes_eq (codes "enter") name then entered
    else if bytes_eq (codes "leave") name then done Leave
    else λ ts. None

unfoldable pub one_turn : Reader Turn
one_turn = field >>= turn_named

abbrev pub turn_read : Option (Turn × List (List ℕ)) → Turn
turn_read None = Other
turn_read (Some read) = read.0

-- what a line changes
unfoldable pub turn_of : List ℕ → Turn
turn_of line = turn_read (one_turn (fields line))

-- who acts before such a line, and who after it
abbrev pub side_before : Turn → Side
side_before (Call side span) = Trusted
side_before (Ret side span) = side
side_before (Enter end) = Outside
side_before Leave = Trusted
side_before Other = Trusted

abbrev pub side_behind : Turn → Side
side_behind (Call side span) = side
side_behind (Ret side span) = Trusted
side_behind (Enter end) = Trusted
side_behind Leave = Outside
side_behind Other = Trusted
