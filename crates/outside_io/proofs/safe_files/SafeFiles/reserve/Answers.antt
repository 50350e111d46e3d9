use Rattle.std.proofs.Common.{ap}
use Rattle.outside_io.specs.Shelf.{Shelved}
use Rattle.outside_io.proofs.Filed.{keeps_none}
use Rattle.outside_io.proofs.safe_files.SafeFiles.reserve.Goals as goal

pub invariant_of-result : goal.invariant_of-result
invariant_of-result c = (keeps_none _ _ (ap (λ (s : Shelved). s.files) c.in_ok-reserve.ensures), tt)
