use Rattle.std.proofs.Common.{◌≡◌, ◌+◌, ◌-◌, ◌*◌, ◌≤◌, length}
use Rattle.proc_meaning.specs.Rest.{rest_now, size_of, more}
use Rattle.proc_meaning.proofs.telling.end_of.Given as goal

abbrev pub invariant-loop-next : goal.invariant-loop-next
invariant-loop-next l = (l.left ≤ l.fuel) ×
    (more l.events.items (l.fuel - l.left)
    (rest_now l.world l.now l.work.items l.run l.store.items l.left l.coming)
    ≡ more l.fn.events.items 0
    (rest_now l.world l.fn.first l.fn.work.items l.fn.run l.fn.store.items l.fuel l.feed))

abbrev pub decreases-loop-next : goal.decreases-loop-next
decreases-loop-next l = l.left * 8 + length l.coming * 8 + size_of l.now l.work.items
