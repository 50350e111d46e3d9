use Rattle.std.proofs.Common.{◌≡◌, map, take}
use Rattle.authority_report.specs.SealRanges.{range_of}
use Rattle.authority_report.proofs.seals.ranges_of.Given as goal

abbrev pub invariant-loop-seals : goal.invariant-loop-seals
invariant-loop-seals l = l.ranges.items ≡ map range_of (take l.seals-index l.stretches)
