use Rattle.std.proofs.Common.{◌+◌, ◌<◌, sym, ap, ◌∙◌, arith}
use Rattle.trace_tool.proofs.Between.{behind_is}
use Rattle.trace_tool.proofs.gap.behind.Goals as goal

pub returns-else-place-eq0 : goal.returns-else-place-eq0
returns-else-place-eq0 c =
    let some : 0 < c.args.place = omega arith in
    ap (λ n. n + 1) c.last_word.ensures.is ∙ sym (behind_is c.args.sites.now c.args.place _ some c.requires)
