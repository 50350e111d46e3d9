use Rattle.std.proofs.Common.{ap, ap₂, ◌∙◌, true}
use Rattle.clap.specs.Words.{with_rule}
use Rattle.clap.specs.Simple.{app_of_fields, on_top}
use Rattle.draw_call.proofs.words.line.Goals as goal

pub returns : goal.returns
returns c =
    let feed = c.in_ok-arg.ensures.shape c.required.ensures.local
    ∙ ap₂ with_rule c.new.ensures.app c.required.ensures.rule in
    let both = c.in_ok-command.ensures.shape c.required-2.ensures.local
    ∙ ap₂ with_rule feed c.required-2.ensures.rule in
    ap app_of_fields c.no_binary_name.ensures ∙ ap (on_top (λ s. record s { no_binary_name = true })) both
