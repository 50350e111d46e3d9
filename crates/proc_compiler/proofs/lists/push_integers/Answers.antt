use Rattle.std.proofs.Common.{rules, ◌++◌, pos, map, sym, ap, ◌∙◌}
use Rattle.std.proofs.lemmas.List.{append-nil, take_all}
use Rattle.proc_templates.specs.Compiled.{int_word}
use Rattle.proc_compiler.proofs.Pushes.{pushed_more}
use Rattle.proc_compiler.proofs.lists.push_integers.Goals as goal

pub loop-number-init : goal.loop-number-init
loop-number-init c = sym (append-nil c.args.words.now.items)

pub loop-number-preserved : goal.loop-number-preserved
loop-number-preserved c =
    pushed_more int_word c.args.numbers.now c.loop-number.number-index (pos 0) c.args.words.now.items _ _ _
    c.loop-number-test.true (search rules) c.loop-number.invariant c.in_ok-push.ensures.items

pub returns : goal.returns
returns c =
    c.loop-number.invariant
    ∙ ap (λ zs. c.args.words.now.items ++ map int_word zs)
    (take_all _ c.args.numbers.now c.loop-number-test.false)
