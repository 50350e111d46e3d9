-- What a debugger replies to commands.
use Rattle.std.specs.Prelude.{ℕ, ◌+◌, Bool, List, [], ◌∷◌, ◌++◌, codes, Option, Some, None, not}
use Rattle.std.specs.Prelude.{if◌then◌else◌}
use Rattle.std.specs.List.{concat}
use Rattle.std.specs.FinSet as set
use Rattle.cap_words.specs.declared.Word.{Word}
use Rattle.cap_words.specs.Text.{word_text_of}
use Rattle.lcm_isa.specs.declared.Reg.TheVariants.{Pc}
use Rattle.lcm_machine.specs.Places.{reg}
use Rattle.lcm_machine.specs.Cells.{cell}
use Rattle.lcm_machine.specs.Run.{Run}
use Rattle.run_lines.specs.EndLines.{pc_text, steps_text, end_line}
use Rattle.step_back.specs.declared.debugger.Stop.{Stop}
use Rattle.step_back.specs.declared.debugger.Stop.TheVariants.{Break, Ended, Spent}
use Rattle.step_back.specs.declared.debugger.TheConstants.{MOST_DEPTH}
use Rattle.step_back.specs.Seen.{Debugging}
use Rattle.step_back.specs.Debug.{debugging_from, go, go_back, is_full}
use Rattle.step_back.specs.Calls.{StopAt as SetStop, Clear as ClearStop, Go, GoBack, after_call}
use Rattle.debug_script.specs.declared.command.DebugCommand.{DebugCommand}
use Rattle.debug_script.specs.declared.command.DebugCommand.TheVariants.{Forward, Back, StopAt, Clear, Cell}
use Rattle.debug_script.specs.declared.command.DebugCommand.TheVariants.{Register}

-- ---- lines

-- a word, pc's address or `-`, and how many steps the machine made
abbrev pub place_text : List ℕ → Run → List ℕ
place_text word s = word ++ (codes " " ++ (pc_text (reg s.maps.regs Pc) ++ steps_text s.count))

-- where steps forward led: all were made, pc came to a breakpoint, or the machine has ended
abbrev pub reached_text : Stop → Run → List ℕ
reached_text Spent s = place_text (codes "at") s
reached_text Break s = place_text (codes "stop") s
reached_text (Ended step) s = end_line s

abbrev pub said : List ℕ → List ℕ
said word = word ++ codes "\n"

abbrev pub said_if : Bool → List ℕ → List ℕ
said_if is other = if is then said (codes "ok") else said other

abbrev pub word_line : Word → List ℕ
word_line w = word_text_of w ++ codes "\n"

abbrev pub cell_line : Option Word → List ℕ
cell_line None = said (codes "none")
cell_line (Some w) = word_line w

-- ---- commands

-- by how many steps a command may raise the count
abbrev pub steps_of : DebugCommand → ℕ
steps_of (Forward n) = n
steps_of (Back n) = 0
steps_of (StopAt a) = 0
steps_of (Clear a) = 0
steps_of (Cell a) = 0
steps_of (Register r) = 0

-- what a command makes of a debugger
abbrev pub after_command : DebugCommand → Debugging → Debugging
after_command (Forward n) d = after_call (Go n) d
after_command (Back n) d = after_call (GoBack n) d
after_command (StopAt a) d = after_call (SetStop a) d
after_command (Clear a) d = after_call (ClearStop a) d
after_command (Cell a) d = d
after_command (Register r) d = d

-- and what the debugger replies
abbrev pub reply : DebugCommand → Debugging → List ℕ
reply (Forward n) d = reached_text (go n d).0 (go n d).1.now
reply (Back n) d = place_text (codes "at") (go_back n d).now
reply (StopAt a) d = said_if (not (is_full d.stops a)) (codes "full")
reply (Clear a) d = said_if (set.contains d.stops a) (codes "none")
reply (Cell a) d = cell_line (cell d.now.maps.cells a)
reply (Register r) d = word_line (reg d.now.maps.regs r)

-- ---- scripts

abbrev pub steps_in : List DebugCommand → ℕ
steps_in [] = 0
steps_in (c ∷ cs) = steps_of c + steps_in cs

abbrev pub after_commands : List DebugCommand → Debugging → Debugging
after_commands [] d = d
after_commands (c ∷ cs) d = after_commands cs (after_command c d)

-- the replies one by one, each from where the commands before it led
abbrev pub replies : List DebugCommand → Debugging → List (List ℕ)
replies [] d = []
replies (c ∷ cs) d = reply c d ∷ replies cs (after_command c d)

-- of a debugger that begins in this state, with the greatest depth
abbrev pub debug_replies : Run → List DebugCommand → List (List ℕ)
debug_replies s cs = replies cs (debugging_from s MOST_DEPTH)

-- and the text of them all
abbrev pub debug_text : Run → List DebugCommand → List ℕ
debug_text s cs = concat (debug_replies s cs)
