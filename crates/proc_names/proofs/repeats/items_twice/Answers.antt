use Rattle.std.proofs.Common.{refl, ◌∙◌, ◌++◌, ap, ap₂, map, sym}
use Rattle.std.proofs.lemmas.List.{nil_from_length}
use Rattle.proc_language.specs.declared.module.Import.{Import}
use Rattle.proc_language.specs.declared.module.Global.{Global}
use Rattle.proc_names.specs.Faults.{first, earlier}
use Rattle.proc_names.specs.NameFaults.{again, twice}
use Rattle.proc_names.proofs.FirstLemmas.{first-append}
use Rattle.proc_names.proofs.TwiceLemmas.{again-append, twice_step}
use Rattle.proc_names.proofs.repeats.items_twice.Goals as goal

pub loop-item-preserved : goal.loop-item-preserved
loop-item-preserved g c =
    let found = c.loop-item.found in let x = c.in-Some.item.now.name in
    let behind = map (λ (i : Import). i.name) c.in-Some.behind.now in
    let globals = map (λ (y : Global). y.name) c.args.globals.now in
    let procs = map g.P.Named.name_of c.args.procs.now in
    ap (λ f. earlier f (first (twice (behind ++ (globals ++ procs)))))
    (c.earlier-found.ensures ∙ ap (earlier found) (c.earlier-here.ensures
    ∙ ap₂ earlier c.again.ensures
    (c.earlier.ensures ∙ ap₂ earlier c.again-in-Some.ensures c.again-in-Some-2.ensures
    ∙ sym (first-append (again x globals) (again x procs)) ∙ ap first (sym (again-append x globals procs)))))
    ∙ twice_step found x behind (globals ++ procs)
    ∙ ap (λ l. earlier found (first (twice (map (λ (i : Import). i.name) l ++ (globals ++ procs)))))
    (sym c.in-Some.ensures.cases.0)
    ∙ c.loop-item.invariant

pub loop-item-init : goal.loop-item-init
loop-item-init g c = refl

pub returns : goal.returns
returns g c =
    let found = c.loop-item.found in let globals = map (λ (y : Global). y.name) c.args.globals.now in
    let procs = map g.P.Named.name_of c.args.procs.now in
    c.earlier-2.ensures ∙ ap (earlier found) c.twice_in_two.ensures
    ∙ ap (λ l. earlier found (first (twice (map (λ (i : Import). i.name) l ++ (globals ++ procs)))))
    (sym (nil_from_length c.loop-item.rest.now c.in_default.ensures.cases))
    ∙ c.loop-item.invariant
