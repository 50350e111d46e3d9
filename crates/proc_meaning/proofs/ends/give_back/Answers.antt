use Rattle.std.proofs.Common.{rules, ◌≡◌, ◌∷◌, sym, ap, ◌∙◌, reverse, w64, to_z, of_z}
use Rattle.proc_meaning.specs.Rest.{back}
use Rattle.proc_meaning.proofs.Works.{reversed}
use Rattle.proc_meaning.proofs.ends.give_back.Goals as goal

pub returns-in-Some-clause-same : goal.returns-in-Some-clause-same
returns-in-Some-clause-same c world st =
    let f = c.args.run.now.frame in let v = c.args.v in
    let items = c.pop.new.self.items in let w = c.in-Some.w in
    let z : to_z w64 (of_z w64 v) ≡ v = search rules in
    ap (λ l. back world l f v st) (reversed items c.args.work.now.items w c.in-Some.ensures.items)
    ∙ ap (λ x. back world (w ∷ reverse items) f x st) (sym z)
    ∙ c.back_of.ensures.same world items st
