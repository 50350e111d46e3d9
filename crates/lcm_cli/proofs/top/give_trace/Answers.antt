use Rattle.std.proofs.Common.{◌≡◌, ℕ, Option, refl, ap, ◌∙◌}
use Rattle.outside_io.specs.FilesSeen.{FilesSeen}
use Rattle.outside_io.specs.SinkSeen.{SinkSeen}
use Rattle.lcm_machine.specs.Run.{Run as Machine}
use Rattle.overlay_machine.specs.Seen.{OverlaySeen}
use Rattle.run_lines.specs.declared.run.RunEnd.{RunEnd}
use Rattle.run_lines.specs.declared.run.RunEnd.TheVariants.{Halted, Failed, Running, WriteFault}
use Rattle.run_lines.specs.Traces.{TracesTo, Traces}
use Rattle.refusal_lines.specs.declared.status.Status.{Status}
use Rattle.command_words.specs.Answers.{GivesAnswer, whole, unwritten, outside}
use Rattle.lcm_cli.specs.Answers.{end_status, ran_overlay, stk}
use Rattle.lcm_cli.proofs.top.give_trace.Goals as goal

told : (limit : ℕ) (old : OverlaySeen) (sink : SinkSeen) (new : OverlaySeen) (after : SinkSeen) (end : RunEnd)
    (files : FilesSeen) (kept : Option Machine) (status : Status) → TracesTo limit old sink new after end
    → status ≡ end_status end
    → GivesAnswer stk (outside files sink kept) (ran_overlay old limit) status (outside files after kept)
told limit old sink new after end files kept status r s =
    whole (record { status_is = s ∙ ap end_status r.is; put = refl; written = r.text; kept_is = refl })

gives_trace : (limit : ℕ) (old : OverlaySeen) (sink : SinkSeen) (new : OverlaySeen) (after : SinkSeen)
    (end : RunEnd) (files : FilesSeen) (kept : Option Machine) (status : Status)
    → Traces limit old sink new after end → status ≡ end_status end
    → GivesAnswer stk (outside files sink kept) (ran_overlay old limit) status (outside files after kept)
gives_trace limit old sink new after Halted files kept status r s =
    told limit old sink new after Halted files kept status r s
gives_trace limit old sink new after Failed files kept status r s =
    told limit old sink new after Failed files kept status r s
gives_trace limit old sink new after Running files kept status r s =
    told limit old sink new after Running files kept status r s
gives_trace limit old sink new after WriteFault files kept status r s = unwritten refl r.text refl s

pub returns : goal.returns
returns g c = λ files kept. rw (← c.number.ensures.same)
    (gives_trace _ _ _ _ _ c.run_overlay.result files kept _ c.run_overlay.ensures.traces
    c.end_status.ensures)
