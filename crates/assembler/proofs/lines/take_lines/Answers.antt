use Rattle.std.proofs.Common.{◌≡◌, ◌∙◌, [], ap, sym, subst, map, arith}
use Rattle.std.proofs.lemmas.Result.{err_from_is_err_and}
use Rattle.asm_fields.specs.Fields.{InText, seen}
use Rattle.assembler.proofs.LineLemmas.{InLine, newline_kept, push_kept, in_more, in_at, line_more}
use Rattle.assembler.proofs.LineLemmas.{newline_fails, end_taken}
use Rattle.assembler.proofs.lines.take_lines.Goals as goal
use Rattle.assembler.proofs.lines.take_lines.Goals.{then-is_newline+in_ok-take_line}
use Rattle.assembler.proofs.lines.take_lines.Goals.{else-is_newline+in_ok-push}

pub loop-token-preserved : goal.loop-token-preserved
loop-token-preserved c =
    let text = c.args.text.now in
    let tokens = c.args.tokens.now in
    let i = c.loop-token.token-index in
    let F = c.loop-token.line.items in
    let kept = c.loop-token.invariant in
    elim c.if-is_newline.branch [
      | then-is_newline+in_ok-take_line w ↦
          let none : c.if-is_newline.line.items ≡ [] = ap (λ v. v.items) w.line-is
          ∙ w.clear.ensures.items in
          let made = rw w.as_slice.ensures at w.in_ok-take_line.ensures in
          record {
            slices = subst (InText text) (sym none) tt;
            in_line = subst (λ l. InLine (map (seen text) l)) (sym none) tt;
            so_far = newline_kept text tokens i _ F _ _ _ _ _
                (omega arith) (sym c.is_newline.ensures ∙ w.if-is_newline.true) kept.in_line none
                w.draft-is made kept.so_far;
          }
      | else-is_newline+in_ok-push w ↦
          let more = ap (λ v. v.items) w.line-is ∙ w.in_ok-push.ensures.ok in
          record {
            slices = subst (InText text) (sym more)
                (in_more text F _ kept.slices (in_at text tokens i _ (omega arith) c.requires.slices));
            in_line = subst (λ l. InLine (map (seen text) l)) (sym more)
                (line_more text F _ kept.in_line (sym c.is_newline.ensures ∙ w.if-is_newline.false));
            so_far = push_kept text tokens i _ F _ _ _ _
                (omega arith) more w.draft-is kept.so_far;
          }
    ]

pub returns-in_err-take_line : goal.returns-in_err-take_line
returns-in_err-take_line c =
    let p = err_from_is_err_and c.from_residual.result c.from_residual.ensures.1 in
    rw (p.1, p.2)
    (newline_fails c.args.text.now c.args.tokens.now c.loop-token.token-index _ c.loop-token.line.items
    c.as_slice.result.now _ c.in_err-take_line.field-0.0 _ (omega arith)
    (sym c.is_newline.ensures ∙ c.if-is_newline.true) c.loop-token.invariant.in_line c.as_slice.ensures
    c.in_err-take_line.ensures c.loop-token.invariant.so_far)

pub returns : goal.returns
returns c =
    end_taken c.args.text.now c.args.tokens.now c.loop-token.line.items c.as_slice-2.result.now
    c.loop-token.token-index _ _ c.take_line-2.result _ (omega arith) c.loop-token.invariant.in_line
    c.as_slice-2.ensures c.take_line-2.ensures c.loop-token.invariant.so_far
