use Rattle.std.proofs.Common.{◌∙◌, ◌+◌, ◌++◌, sym, ap, drop}
use Rattle.proc_parse.specs.Texts.{proper}
use Rattle.proc_parse.proofs.Texts.{token_kept, token_left}
use Rattle.proc_parse.proofs.source.proper.Goals.{then-not-is_line_end+in_ok-push, else-not-is_line_end}
use Rattle.proc_parse.proofs.source.proper.Goals as goal

pub loop-token-preserved : goal.loop-token-preserved
loop-token-preserved c =
    let tokens = c.args.tokens.now in
    let i = c.loop-token.token-index in
    elim c.if-not-is_line_end.branch [
      | then-not-is_line_end+in_ok-push w ↦ rw w.kept-is (ap (λ l. l ++ proper (drop (i + 1) tokens))
          w.in_ok-push.ensures.items ∙ token_kept tokens c.loop-token.kept.items i _ c.loop-token-test.true
          c.loop-token.invariant (sym c.is_line_end.ensures ∙ w.if-not-is_line_end.true))
      | else-not-is_line_end w ↦ rw w.kept-is (token_left tokens c.loop-token.kept.items i _
          c.loop-token-test.true c.loop-token.invariant (sym c.is_line_end.ensures ∙
          w.if-not-is_line_end.false))
    ]
