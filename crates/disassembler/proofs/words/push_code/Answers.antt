use Rattle.std.proofs.Common.{sym, ap, ◌∙◌, ◌++◌, append-nil}
use Rattle.std.specs.List.{flat_map}
use Rattle.std.proofs.lemmas.List.{take_all}
use Rattle.component_file.proofs.Offers.{one_more}
use Rattle.disassembler.specs.Disassembled.{code_line}
use Rattle.disassembler.proofs.words.push_code.Goals as goal

pub loop-word-init : goal.loop-word-init
loop-word-init c = sym (append-nil c.args.text.now.items)

pub loop-word-preserved : goal.loop-word-preserved
loop-word-preserved c = rw (c.in_ok-push_code_word.ensures, c.loop-word.invariant)
    (one_more code_line c.args.text.now.items c.args.code.now c.loop-word.word-index
    c.word-item.result c.loop-word-test.true c.word-item.is)

pub returns : goal.returns
returns c =
    c.loop-word.invariant
    ∙ ap (λ ws. c.args.text.now.items ++ flat_map code_line ws)
    (take_all c.loop-word.word-index c.args.code.now c.loop-word-test.false)
