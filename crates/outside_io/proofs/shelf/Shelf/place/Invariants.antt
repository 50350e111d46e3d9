use Rattle.std.proofs.Common.{◌≡◌, length, take, None}
use Rattle.outside_io.specs.Shelf.{laid, found}
use Rattle.outside_io.proofs.shelf.Shelf.place.Given as goal

abbrev pub invariant-loop-index : goal.invariant-loop-index
invariant-loop-index l = record {
  start : l.start ≡ length (laid (take l.index l.self.files));
  passed : found l.name (take l.index l.self.files) ≡ None;
}
