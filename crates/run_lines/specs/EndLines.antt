-- The line that a run ends with.
use Rattle.std.specs.Prelude.{ℕ, ℤ, List, ◌++◌, codes, decimal, Option, Some, None}
use Rattle.std.specs.Fmt.{signed_decimal}
use Rattle.cap_words.specs.declared.Word.{Word}
use Rattle.cap_words.specs.declared.Word.TheVariants.{Mem}
use Rattle.cap_words.specs.Text.{word_text_of}
use Rattle.lcm_isa.specs.declared.Reg.TheVariants.{Pc, A0}
use Rattle.lcm_machine.specs.declared.FailCause.{FailCause}
use Rattle.lcm_machine.specs.declared.FailCause.TheVariants.{F1, F2, F3, F4, F5, F6, F7, F8, F9, F10, F11}
use Rattle.lcm_machine.specs.declared.FailCause.TheVariants.{F12, F13, F14}
use Rattle.lcm_machine.specs.declared.Step.{Step}
use Rattle.lcm_machine.specs.declared.Step.TheVariants.{Went, Halted, Failed}
use Rattle.lcm_machine.specs.Run.{Run, answer}
use Rattle.run_lines.specs.Views.{View, view_of}

abbrev pub cause_text : FailCause → List ℕ
cause_text F1 = codes "F1"
cause_text F2 = codes "F2"
cause_text F3 = codes "F3"
cause_text F4 = codes "F4"
cause_text F5 = codes "F5"
cause_text F6 = codes "F6"
cause_text F7 = codes "F7"
cause_text F8 = codes "F8"
cause_text F9 = codes "F9"
cause_text F10 = codes "F10"
cause_text F11 = codes "F11"
cause_text F12 = codes "F12"
cause_text F13 = codes "F13"
cause_text F14 = codes "F14"

-- pc's address, or `-` where pc holds no memory capability
abbrev pub pc_text : Word → List ℕ
pc_text (Mem c) = signed_decimal c.addr
pc_text _ = codes "-"

abbrev pub address_in : Word → Option ℤ
address_in (Mem c) = Some c.addr
address_in _ = None

abbrev pub steps_text : ℕ → List ℕ
steps_text n = codes " steps " ++ (decimal n ++ codes "\n")

-- with the word of a0
abbrev pub halted_text : View → ℕ → List ℕ
halted_text v n = codes "halted " ++ (word_text_of (v.reg A0) ++ steps_text n)

-- with pc's address
abbrev pub running_text : View → ℕ → List ℕ
running_text v n = codes "running " ++ (pc_text (v.reg Pc) ++ steps_text n)

-- a failure of the overlay has no cause
abbrev pub failed_text : View → ℕ → List ℕ
failed_text v n = codes "failed " ++ (pc_text (v.reg Pc) ++ steps_text n)

abbrev pub failed_by_text : View → FailCause → ℕ → List ℕ
failed_by_text v cause n =
    codes "failed " ++ (pc_text (v.reg Pc) ++ (codes " " ++ (cause_text cause ++ steps_text n)))

-- of a plain run: how many steps it made is the machine's count, the last one included
abbrev pub line_at : Step → Run → List ℕ
line_at Went r = running_text (view_of r.maps) r.count
line_at Halted r = halted_text (view_of r.maps) r.count
line_at (Failed cause at) r = failed_by_text (view_of r.maps) cause r.count

abbrev pub end_line : Run → List ℕ
end_line r = line_at (answer r) r
