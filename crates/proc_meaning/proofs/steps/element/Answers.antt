use Rattle.std.proofs.Common.{rules, ◌≡◌, sym, ap, ◌∙◌, option_map, Some, w64, to_z, of_z}
use Rattle.proc_semantics.specs.Values.{global_word}
use Rattle.proc_semantics.specs.Meaning.{element_at}
use Rattle.proc_meaning.proofs.steps.element.Goals as goal

pub returns-in-Some : goal.returns-in-Some
returns-in-Some c =
    let home = c.args.run.now.frame.home in let st = c.args.store.now in let i = c.args.index in
    let z : to_z w64 (of_z w64 i) ≡ i = search rules in
    let zr : to_z w64 (of_z w64 c.word_at.result) ≡ c.word_at.result = search rules in
    ap Some (zr ∙ c.word_at.ensures)
    ∙ ap (option_map (global_word st home)) (sym (ap (element_at c.args.row) (sym z)
    ∙ sym c.element_at.ensures ∙ c.in-Some.is))

pub returns-in-None : goal.returns-in-None
returns-in-None c =
    let i = c.args.index in
    let z : to_z w64 (of_z w64 i) ≡ i = search rules in
    ap (option_map (global_word c.args.store.now c.args.run.now.frame.home))
    (sym (ap (element_at c.args.row) (sym z) ∙ sym c.element_at.ensures ∙ c.in-None.is))
