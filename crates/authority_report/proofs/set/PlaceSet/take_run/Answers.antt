use Rattle.std.proofs.Common.{length, sym, ap, ◌∙◌, subst, arith}
use Rattle.authority_report.specs.Has.{IsSet}
use Rattle.authority_report.proofs.Filled.{is_set, written}
use Rattle.authority_report.proofs.set.PlaceSet.take_run.Goals as goal

pub invariant_of-self : goal.invariant_of-self
invariant_of-self c =
    let seen = c.as_mut_slice.ensures.value in
    let len = c.as_mut_slice.ensures.len in
    let old : IsSet c.as_mut_slice.result.now = subst IsSet (sym seen) c.self.invariant in
    let kept = c.fill.auto.next in
    let size = old.size in
    let some = c.requires.some in
    let inside = c.requires.inside in
    let new = is_set c.as_mut_slice.result.now c.fill.new.next c.args.run.base c.args.run.end old
    kept some (omega (arith, size, inside)) c.fill.ensures in
    subst IsSet
    (sym (written c.self.inside.next.items c.fill.new.next c.self.inside.next.len (kept ∙ ap length seen)
    (sym (ap length seen) ∙ len))) new
