use Rattle.std.proofs.Common.{◌+◌, ◌-◌, vec_len}
use Rattle.outside_io.proofs.Reading.{SoFar}
use Rattle.outside_io.proofs.whole.read_whole.Given as goal

abbrev pub invariant-loop-whole : goal.invariant-loop-whole
invariant-loop-whole g l =
    SoFar (g.F.Files.seen l.fn.files) l.name l.limit l.whole.items (g.F.Files.seen l.files)

-- each turn takes a byte or more, and at most `limit` of them
abbrev pub decreases-loop-whole : goal.decreases-loop-whole
decreases-loop-whole g l = l.limit + 1 - vec_len l.whole
