use Rattle.std.proofs.Common.{sym, ◌∙◌}
use Rattle.trace_tool.proofs.Between.{ahead_is}
use Rattle.trace_tool.proofs.gap.ahead.Goals as goal

pub returns-then-place-sites : goal.returns-then-place-sites
returns-then-place-sites c =
    c.last_word.ensures.is ∙ sym (ahead_is c.args.sites.now c.args.place _ c.if-place-sites.true)
