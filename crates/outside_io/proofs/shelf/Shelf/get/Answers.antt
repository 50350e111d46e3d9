use Rattle.std.proofs.Common.{ap}
use Rattle.outside_io.specs.Shelf.{Shelved}
use Rattle.outside_io.proofs.Lying.{lie, content_at}
use Rattle.outside_io.proofs.shelf.Shelf.get.Goals as goal

pub returns : goal.returns
returns c =
    let they = lie _ _ _ c.self.invariant (ap (λ (s : Shelved). s.files) c.self.view_is) in
    content_at _ _ _ _ _ _ they c.deref.ensures.value c.in_ok-place.ensures
