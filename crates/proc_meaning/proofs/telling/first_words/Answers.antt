use Rattle.std.proofs.Common.{◌++◌, [], ◌∷◌, map, sym, ap, ap₂, ◌∙◌}
use Rattle.std.proofs.lemmas.List.{map_more, take_all}
use Rattle.proc_program.specs.declared.program.Program.{Program}
use Rattle.proc_meaning.proofs.telling.first_words.Goals as goal

pub loop-part-preserved : goal.loop-part-preserved
loop-part-preserved c =
    c.in_ok-push.ensures.items
    ∙ ap₂ (λ ws w. ws ++ w ∷ []) c.loop-part.invariant
    (c.in_ok-of.ensures ∙ c.as_slice.ensures ∙ ap (λ (u : Program). u.globals) c.part-item.is)
    ∙ sym (map_more (λ (u : Program). u.globals) c.args.world.now c.loop-part.part-index c.part-item.result
    c.loop-part-test.true)

pub returns : goal.returns
returns c =
    c.loop-part.invariant
    ∙ ap (map (λ (u : Program). u.globals)) (take_all _ c.args.world.now c.loop-part-test.false)
