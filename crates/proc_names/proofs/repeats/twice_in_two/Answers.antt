use Rattle.std.proofs.Common.{refl, ◌∙◌, ◌++◌, ap, ap₂, map, sym}
use Rattle.std.proofs.lemmas.List.{nil_from_length}
use Rattle.proc_names.specs.Faults.{first, earlier}
use Rattle.proc_names.specs.NameFaults.{again, twice}
use Rattle.proc_names.proofs.TwiceLemmas.{twice_step}
use Rattle.proc_names.proofs.repeats.twice_in_two.Goals as goal

pub loop-item-preserved : goal.loop-item-preserved
loop-item-preserved g c =
    let name_of = g.T.Named.name_of in let found = c.loop-item.found in
    let behind = map name_of c.in-Some.behind.now in
    let others = map g.U.Named.name_of c.args.others.now in
    ap (λ f. earlier f (first (twice (behind ++ others))))
    (c.earlier-found.ensures ∙ ap (earlier found) (c.earlier-here.ensures
    ∙ ap₂ earlier (c.again.ensures ∙ ap (λ x. first (again x behind)) c.name.ensures)
    (c.again-in-Some.ensures ∙ ap (λ x. first (again x others)) c.name-in-Some.ensures)))
    ∙ twice_step found (name_of c.in-Some.item.now) behind others
    ∙ ap (λ l. earlier found (first (twice (map name_of l ++ others)))) (sym c.in-Some.ensures.cases.0)
    ∙ c.loop-item.invariant

pub loop-item-init : goal.loop-item-init
loop-item-init g c = refl

pub returns : goal.returns
returns g c =
    let name_of = g.T.Named.name_of in let found = c.loop-item.found in
    let others = map g.U.Named.name_of c.args.others.now in
    c.earlier.ensures ∙ ap (earlier found) c.twice.ensures
    ∙ ap (λ l. earlier found (first (twice (map name_of l ++ others))))
    (sym (nil_from_length c.loop-item.rest.now c.in_default.ensures.cases))
    ∙ c.loop-item.invariant
