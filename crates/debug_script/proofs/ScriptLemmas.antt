-- A script read line by line.
use Rattle.std.proofs.Common.{◌≡◌, ℕ, ◌+◌, ◌<◌, ◌≤◌, Bool, true, false, List, [], ◌∷◌, ◌++◌, length, Some}
use Rattle.std.proofs.Common.{None, Result, Ok, Err, refl, sym, ap, ◌∙◌, append_assoc, append-nil, arith}
use Rattle.std.proofs.Common.{cond}
use Rattle.std.specs.Prelude.{nat_le, ◌==◌}
use Rattle.std.proofs.lemmas.Bool.{leb-true}
use Rattle.std.proofs.lemmas.List.Splits.{length-slice_split}
use Rattle.line_fields.specs.Cuts.{cut, parts}
use Rattle.line_fields.specs.Fields.{lines}
use Rattle.line_fields.proofs.Offers.{parts_at, parts_none}
use Rattle.debug_script.specs.declared.command.DebugCommand.{DebugCommand}
use Rattle.debug_script.specs.declared.fault.ScriptFault.{ScriptFault}
use Rattle.debug_script.specs.declared.fault.ScriptFault.TheVariants.{Line}
use Rattle.debug_script.specs.declared.TheConstants.{MOST_LINES}
use Rattle.debug_script.specs.Commands.{command_in}
use Rattle.debug_script.specs.Script.{command_at, at_end, with_command, scripted_from, scripted}

pub lines_some : (text : List ℕ) → 0 < length (lines text)
unfolding parts
lines_some text = omega (arith, length-slice_split (λ b. b == 10) text)

pub not_last : (n : ℕ) (line : List ℕ) (ls : List (List ℕ)) → 0 < length ls
    → scripted_from n (line ∷ ls) ≡ with_command n (command_at n line) (scripted_from (n + 1) ls)
unfolding scripted_from
not_last n line [] h = absurd (omega (arith, h))
not_last n line (next ∷ rest) h = refl

pub only_last : (n : ℕ) (line : List ℕ) → scripted_from n (line ∷ []) ≡ at_end n line
unfolding scripted_from
only_last n line = refl

-- a line that ends in a newline
pub at_line : (n : ℕ) (text line back : List ℕ) → Some (line, back) ≡ cut 10 text
    → scripted_from n (lines text) ≡ with_command n (command_at n line) (scripted_from (n + 1) (lines back))
at_line n text line back h =
    ap (scripted_from n) (parts_at 10 text line back h) ∙ not_last n line (lines back) (lines_some back)

-- what stands after the last newline
pub at_last : (n : ℕ) (text : List ℕ) → None ≡ cut 10 text → scripted_from n (lines text) ≡ at_end n text
at_last n text h = ap (scripted_from n) (parts_none 10 text h) ∙ only_last n text

-- a command that stands in a line fits there
pub command_fits : (n : ℕ) (line : List ℕ) (c : DebugCommand) → command_at n line ≡ Some c
    → (n ≤ MOST_LINES) × (command_in line ≡ Some c)
command_fits n line c h = by_number (nat_le n MOST_LINES) refl h
  where
    by_number : (b : Bool) → nat_le n MOST_LINES ≡ b → cond b (command_in line) None ≡ Some c
        → (n ≤ MOST_LINES) × (command_in line ≡ Some c)
    by_number true e k = (leb-true n MOST_LINES e, k)
    by_number false e k = absurd cc

-- ---- the loop

-- after commands that are read already
abbrev pub behind_commands : List DebugCommand → Result (List DebugCommand) ScriptFault
    → Result (List DebugCommand) ScriptFault
behind_commands cs (Ok more) = Ok (cs ++ more)
behind_commands cs (Err e) = Err e

behind_none : (r : Result (List DebugCommand) ScriptFault) → behind_commands [] r ≡ r
behind_none (Ok more) = refl
behind_none (Err e) = refl

behind_one : (n : ℕ) (cs : List DebugCommand) (c : DebugCommand) (r : Result (List DebugCommand) ScriptFault)
    → behind_commands (cs ++ c ∷ []) r ≡ behind_commands cs (with_command n (Some c) r)
behind_one n cs c (Ok more) = ap Ok (append_assoc cs (c ∷ []) more)
behind_one n cs c (Err e) = refl

pub begins : (cs : List DebugCommand) (text : List ℕ) → cs ≡ []
    → behind_commands cs (scripted_from 1 (lines text)) ≡ scripted text
unfolding scripted
begins cs text none =
    ap (λ x. behind_commands x (scripted_from 1 (lines text))) none
    ∙ behind_none (scripted_from 1 (lines text))

module _ (cs : List DebugCommand) (n : ℕ) (text : List ℕ) where
  pub bad_line : (line back : List ℕ) → Some (line, back) ≡ cut 10 text → None ≡ command_at n line
      → behind_commands cs (scripted_from n (lines text)) ≡ Err (Line n)
  bad_line line back at none =
      ap (behind_commands cs) (at_line n text line back at
      ∙ ap (λ o. with_command n o (scripted_from (n + 1) (lines back))) (sym none))

  pub good_line : (more : List DebugCommand) (line back : List ℕ) (c : DebugCommand) → Some (line, back)
      ≡ cut 10 text
      → Some c ≡ command_at n line → more ≡ cs ++ c ∷ []
      → behind_commands more (scripted_from (n + 1) (lines back))
      ≡ behind_commands cs (scripted_from n (lines text))
  good_line more line back c at some grown =
      ap (λ x. behind_commands x (scripted_from (n + 1) (lines back))) grown
      ∙ behind_one n cs c (scripted_from (n + 1) (lines back))
      ∙ ap (λ o. behind_commands cs (with_command n o (scripted_from (n + 1) (lines back)))) some
      ∙ sym (ap (behind_commands cs) (at_line n text line back at))

  pub ends : None ≡ cut 10 text → text ≡ [] → behind_commands cs (scripted_from n (lines text)) ≡ Ok cs
  ends at none =
      ap (behind_commands cs) (at_last n text at ∙ ap (at_end n) none) ∙ ap Ok (append-nil cs)

some_end : (n : ℕ) (text : List ℕ) → 0 < length text → at_end n text ≡ Err (Line n)
some_end n [] h = absurd (omega (arith, h))
some_end n (b ∷ bs) h = refl

pub bad_end : (cs : List DebugCommand) (n : ℕ) (text : List ℕ) → None ≡ cut 10 text → 0 < length text
    → behind_commands cs (scripted_from n (lines text)) ≡ Err (Line n)
bad_end cs n text at some = ap (behind_commands cs) (at_last n text at ∙ some_end n text some)
