use Rattle.std.proofs.Common.{refl}
use Rattle.token_language.specs.TokenFaults.{proc_faults, procs_faults}
use Rattle.proc_names.proofs.Offers.{item_found}
use Rattle.token_language.proofs.uses.procs_fault.Goals as goal

pub loop-p-preserved : goal.loop-p-preserved
loop-p-preserved c =
    let m = c.args.m.now in
    item_found (procs_faults m) (proc_faults m c.p-item.result) c.args.procs.now c.loop-p.p-index
    c.p-item.result c.loop-p.found c.loop-p-test.true c.p-item.is refl c.earlier-found.ensures
    c.proc_fault.ensures c.loop-p.invariant
