use Rattle.std.proofs.Common.{refl, ◌∙◌, ap, map, sym}
use Rattle.std.proofs.lemmas.List.{nil_from_length}
use Rattle.proc_names.specs.Faults.{first, earlier}
use Rattle.proc_names.specs.NameFaults.{again, twice}
use Rattle.proc_names.proofs.FirstLemmas.{earlier_none, first_step}
use Rattle.proc_names.proofs.repeats.twice.Goals as goal

pub loop-item-preserved : goal.loop-item-preserved
loop-item-preserved g c =
    let name_of = g.T.Named.name_of in let found = c.loop-item.found in
    let x = name_of c.in-Some.item.now in let behind = map name_of c.in-Some.behind.now in
    ap (λ f. earlier f (first (twice behind)))
    (c.earlier-found.ensures
    ∙ ap (earlier found) (c.again.ensures ∙ ap (λ x. first (again x behind)) c.name.ensures))
    ∙ first_step found (again x behind) (twice behind)
    ∙ ap (λ l. earlier found (first (twice (map name_of l)))) (sym c.in-Some.ensures.cases.0)
    ∙ c.loop-item.invariant

pub loop-item-init : goal.loop-item-init
loop-item-init g c = refl

pub returns : goal.returns
returns g c =
    let name_of = g.T.Named.name_of in let found = c.loop-item.found in
    sym (earlier_none found)
    ∙ ap (λ l. earlier found (first (twice (map name_of l))))
    (sym (nil_from_length c.loop-item.rest.now c.in_default.ensures.cases))
    ∙ c.loop-item.invariant
