use Rattle.std.proofs.Common.{◌++◌, replicate, pos, ap₂, ◌∙◌, arith}
use Rattle.std.proofs.lemmas.List.{take_all}
use Rattle.proc_semantics.specs.declared.value.Value.TheVariants.{Num}
use Rattle.proc_meaning.proofs.ends.add_locals.Goals as goal

pub returns : goal.returns
returns c =
    c.in_ok-resize.ensures.items
    ∙ ap₂ (λ xs n. xs ++ replicate n (Num (pos 0))) (take_all _ c.args.env.items (omega arith)) (omega arith)
