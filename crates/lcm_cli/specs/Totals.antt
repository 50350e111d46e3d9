-- What is told of the run of a load that is generated.
use Rattle.std.specs.Prelude.{ℕ, List, ◌++◌, codes, decimal}
use Rattle.cap_words.specs.Text.{word_text_of}
use Rattle.lcm_isa.specs.declared.Reg.TheVariants.{A0}
use Rattle.lcm_machine.specs.declared.Step.{Step}
use Rattle.lcm_machine.specs.declared.Step.TheVariants.{Halted}
use Rattle.lcm_machine.specs.Places.{reg}
use Rattle.lcm_machine.specs.Run.{Run, plain, answer as last_step}
use Rattle.linked_starts.specs.Started.{StartSeen}
use Rattle.trace_tool.specs.Counts.{calls_of_run}
use Rattle.run_lines.specs.EndLines.{end_line}
use Rattle.link_tool.specs.declared.generated.load.Workload.{Workload}

-- the load's numbers, the word in a0 and how many calls there were
abbrev pub totals_line : Workload → ℕ → Run → List ℕ
totals_line load calls left =
    codes "generated n " ++ (decimal load.rounds ++ (codes " k " ++ (decimal load.added
    ++ (codes " value " ++ (word_text_of (reg left.maps.regs A0) ++ (codes " calls "
    ++ (decimal calls ++ codes "\n")))))))

-- of a run that halted; of another one its end line
abbrev pub totals_at : Step → Workload → ℕ → Run → List ℕ
totals_at Halted load calls left = totals_line load calls left
totals_at step load calls left = end_line left

abbrev pub totals_text : Workload → StartSeen → ℕ → List ℕ
totals_text load start steps =
    let left = plain steps start.state in totals_at (last_step left) load (calls_of_run start steps) left
