use Rattle.std.proofs.Common.{◌++◌, ap, ◌∙◌, arith}
use Rattle.std.proofs.lemmas.List.{take_all}
use Rattle.cap_words.specs.Text.{field_text}
use Rattle.proc_meaning.specs.Text.{out_arg_text, out_args_text}
use Rattle.proc_meaning.proofs.Lines.{text_more}
use Rattle.proc_meaning.proofs.text.push_args.Goals as goal

pub loop-arg-preserved : goal.loop-arg-preserved
loop-arg-preserved c =
    text_more (λ a. field_text (out_arg_text a)) c.args.args.now c.loop-arg.arg-index _ c.args.text.now.items
    _ _ (omega arith) c.loop-arg.invariant c.in_ok-push_arg.ensures

pub returns : goal.returns
returns c =
    c.loop-arg.invariant
    ∙ ap (λ args. c.args.text.now.items ++ out_args_text args) (take_all _ c.args.args.now (omega arith))
