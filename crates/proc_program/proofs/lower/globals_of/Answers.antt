use Rattle.std.proofs.Common.{rules, ◌≡◌, ◌+◌, ◌++◌, drop, replicate, unwrap_or, pos, append_assoc, sym, ap}
use Rattle.std.proofs.Common.{ap₂, ◌∙◌, arith, w64, to_z, of_z}
use Rattle.std.proofs.lemmas.Grind.{common_steps}
use Rattle.std.proofs.lemmas.List.{take_all}
use Rattle.proc_language.proofs.Offers.{drop_item}
use Rattle.proc_program.specs.Lower.{words, globals_of}
use Rattle.proc_program.proofs.lower.globals_of.Goals as goal

pub loop-g-preserved : goal.loop-g-preserved
loop-g-preserved c =
    let gs = c.args.gs.now in let i = c.loop-g.g-index in let g = c.g-item.result in
    let items = c.loop-g.globals.items in let rest = globals_of (drop (i + 1) gs) in
    let z : to_z w64 (of_z w64 c.unwrap_or.result) ≡ c.unwrap_or.result = search rules in
    let grown : c.resize.new.self.items ≡ items ++ replicate (words g) (unwrap_or g.initial (pos 0)) =
    c.in_ok-resize.ensures.items
    ∙ ap₂ (λ xs n. xs ++ replicate n (to_z w64 (of_z w64 c.unwrap_or.result)))
    (take_all _ items (grind (arith, common_steps))) (grind (arith, common_steps))
    ∙ ap (λ v. items ++ replicate (words g) v) (z ∙ c.unwrap_or.ensures) in
    ap (λ xs. xs ++ rest) grown
    ∙ append_assoc items (replicate (words g) (unwrap_or g.initial (pos 0))) rest
    ∙ ap (λ gs. items ++ globals_of gs) (sym (drop_item gs i g c.loop-g-test.true c.g-item.is))
    ∙ c.loop-g.invariant
