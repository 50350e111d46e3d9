use Rattle.std.proofs.Common.{refl, ◌∙◌, ap, List, map, not}
use Rattle.proc_names.specs.Faults.{first, unless}
use Rattle.proc_names.specs.NameFaults.{again}
use Rattle.proc_names.specs.Names.{same}
use Rattle.proc_language.specs.declared.tree.Name.{Name}
use Rattle.proc_names.specs.declared.fault.NameFault.{NameFault}
use Rattle.proc_names.specs.declared.fault.NameFault.TheVariants.{Twice}
use Rattle.proc_names.proofs.ItemFaults.{item_found}
use Rattle.proc_names.proofs.repeats.again.Goals as goal

pub loop-item-preserved : goal.loop-item-preserved
loop-item-preserved g c =
    let x = c.args.x.now in
    let name_of = g.T.Named.name_of in
    let here : Name → List NameFault = λ n. unless (not (same x n)) (Twice n.at) in
    item_found (λ ys. again x (map name_of ys)) (here (name_of c.item-item.result)) c.args.items.now
    c.loop-item.item-index c.item-item.result c.loop-item.found c.loop-item-test.true c.item-item.is refl
    c.earlier-found.ensures (c.met.ensures ∙ ap (λ n. first (here n)) c.name.ensures)
    c.loop-item.invariant
