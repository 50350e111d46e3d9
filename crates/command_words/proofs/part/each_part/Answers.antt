use Rattle.std.proofs.Common.{◌∙◌, ap, sym, drop, ◌+◌, rules, arith, length-append}
use Rattle.command_words.specs.Part.{parts_in}
use Rattle.command_words.specs.Texts.{texts_of}
use Rattle.command_words.proofs.PartLemmas.{behind, no_more_at, no_part_at, one_more_at}
use Rattle.command_words.proofs.part.each_part.Goals as goal

pub returns-in_default-clause-is : goal.returns-in_default-clause-is
returns-in_default-clause-is c =
    sym (c.loop-word.invariant.0 ∙ no_part_at _ _ _ _ c.loop-word-test.true (sym c.in_default.ensures))

pub loop-word-preserved : goal.loop-word-preserved
loop-word-preserved c = (
  c.loop-word.invariant.0 ∙ one_more_at _ c.in-Some.part _ _ _ c.loop-word-test.true (sym c.in-Some.ensures)
      ∙ ap (λ xs. behind xs (parts_in (texts_of (drop (c.loop-word.word-index + 1) c.args.words.now))))
      (sym c.in_ok-push.ensures.items),
  rw c.in_ok-push.ensures.items (grind (arith, length-append, c.loop-word.invariant.1)),
)

pub returns-clause-is : goal.returns-clause-is
returns-clause-is c =
    sym (c.loop-word.invariant.0 ∙ no_more_at _ c.args.words.now c.loop-word.word-index (search rules))
