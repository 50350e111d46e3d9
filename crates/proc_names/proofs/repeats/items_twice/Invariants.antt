use Rattle.std.proofs.Common.{◌≡◌, ◌++◌, map, length}
use Rattle.proc_names.specs.Faults.{first, earlier}
use Rattle.proc_names.specs.NameFaults.{twice, names_of_items}
use Rattle.proc_names.proofs.repeats.items_twice.Given as goal

abbrev pub invariant-loop-item : goal.invariant-loop-item
invariant-loop-item g l =
    let name_of = g.P.Named.name_of in
    let others = map (λ y. y.name) l.globals ++ map name_of l.procs in
    earlier l.found (first (twice (map (λ i. i.name) l.rest ++ others)))
    ≡ first (twice (names_of_items name_of l.fn.imports l.fn.globals l.fn.procs))

abbrev pub decreases-loop-item : goal.decreases-loop-item
decreases-loop-item g l = length l.rest
