-- The lines of a feed, read field by field.
use Rattle.std.specs.Prelude.{ℕ, Bool, true, false, List, codes, Option, Some, None, option_map}
use Rattle.std.specs.Str.{bytes_eq}
use Rattle.cap_words.specs.Names.{is_name}
use Rattle.line_fields.specs.Cuts.{behind}
use Rattle.line_fields.specs.Numbers.{natural_in}
use Rattle.line_fields.specs.Forms.{back_in, handed_in}
use Rattle.line_fields.specs.Fields.{Reader, ◌>>=◌, done, field, meant, tested, whole, fields}
use Rattle.line_fields.specs.declared.line.FeedLine.{FeedLine}
use Rattle.line_fields.specs.declared.line.FeedLine.TheVariants.{Enter, Ret, Pass, Other}
use Rattle.line_fields.specs.Seen.{EnterSeen, RetSeen, PassSeen}

-- what a line tells; the code's type and its variants are named in this crate alone
abbrev pub LineSeen : Type 0
LineSeen = FeedLine

abbrev pub enter_line : EnterSeen → LineSeen
enter_line = Enter

abbrev pub ret_line : RetSeen → LineSeen
ret_line = Ret

abbrev pub pass_line : PassSeen → LineSeen
pass_line = Pass

abbrev pub other_line : LineSeen
other_line = Other

-- PART EXPORT STK A0 A1 A2 A3 BACK, where any bytes do for a word
unfoldable pub entered : Reader EnterSeen
entered = do
  part ← tested is_name
  name ← tested is_name
  stk ← field
  a0 ← field
  a1 ← field
  a2 ← field
  a3 ← field
  back ← meant back_in
  done (record { part = part; name = name; stk = stk; a0 = a0; a1 = a1; a2 = a2; a3 = a3; back = back })

-- END A0 :, behind these
unfoldable pub answered_with : List ℕ → ℕ → ℕ → Reader RetSeen
answered_with part site base = do
  last ← meant natural_in
  a0 ← field
  colon ← tested (bytes_eq (codes ":"))
  done (record { part = part; site = site; base = base; a0 = a0 })

-- PART SITE BASE END A0 :
unfoldable pub answered : Reader RetSeen
answered = do
  part ← tested is_name
  site ← meant natural_in
  base ← meant natural_in
  answered_with part site base

-- P0 P1 P2
unfoldable pub passed : Reader PassSeen
passed = do
  p0 ← meant handed_in
  p1 ← meant handed_in
  p2 ← meant handed_in
  done (record { p0 = p0; p1 = p1; p2 = p2 })

-- any fields are left
abbrev pub begun : {A : Type 0} → Option (A × List (List ℕ)) → Option A
begun None = None
begun (Some x) = Some x.0

unfoldable pub enter_in : List ℕ → Option EnterSeen
enter_in rest = whole (entered (fields rest))

unfoldable pub ret_in : List ℕ → Option RetSeen
ret_in rest = begun (answered (fields rest))

unfoldable pub pass_in : List ℕ → Option PassSeen
pass_in rest = whole (passed (fields rest))

-- ---- lines by how they begin

-- only right after an `enter` line a `pass` line tells something
abbrev pub pass_seen : Bool → Option (List ℕ) → Option FeedLine
pass_seen true (Some rest) = option_map Pass (pass_in rest)
pass_seen false (Some rest) = Some Other
pass_seen entry None = Some Other

abbrev pub ret_seen : Bool → List ℕ → Option (List ℕ) → Option FeedLine
ret_seen entry line (Some rest) = option_map Ret (ret_in rest)
ret_seen entry line None = pass_seen entry (behind (codes "pass ") line)

abbrev pub enter_seen : Bool → List ℕ → Option (List ℕ) → Option FeedLine
enter_seen entry line (Some rest) = option_map Enter (enter_in rest)
enter_seen entry line None = ret_seen entry line (behind (codes "ret out ") line)

-- what a line tells, right after an `enter` line or not; None where it has not the form that it must have
unfoldable pub seen : Bool → List ℕ → Option FeedLine
seen entry line = enter_seen entry line (behind (codes "enter ") line)

abbrev pub is_enter : FeedLine → Bool
is_enter (Enter e) = true
is_enter (Ret r) = false
is_enter (Pass p) = false
is_enter Other = false
