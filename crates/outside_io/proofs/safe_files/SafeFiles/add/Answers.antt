use Rattle.std.proofs.Common.{ap, sym, subst, refl}
use Rattle.outside_io.specs.Shelf.{Shelved, Differ}
use Rattle.outside_io.specs.SafeFiles.{KeptFiles}
use Rattle.outside_io.proofs.Named.{Differ-replaced}
use Rattle.outside_io.proofs.Filed.{keeps_as, keeps_put, held_after}
use Rattle.outside_io.proofs.safe_files.SafeFiles.add.Goals as goal

pub invariant_of-self : goal.invariant_of-self
invariant_of-self c =
    subst (λ (s : Shelved). Differ s.files) (sym c.put.ensures) (Differ-replaced _ _ _ c.self.invariant)

pub invariant_of-self-inside : goal.invariant_of-self-inside
invariant_of-self-inside c =
    (keeps_put _ _ _ _ _ c.self.invariant (c.if-not-fits.ensures.0 refl) c.put.ensures, tt)

pub returns-then-not-fits-clause-fits : goal.returns-then-not-fits-clause-fits
returns-then-not-fits-clause-fits c =
    let held = ap (λ (k : KeptFiles). k.held) c.self.view_is in
    keeps_as _ _ _ _ _ _ _ held c.as_bytes-name.ensures.value c.self.invariant c.if-not-fits.ensures

pub returns-clause-fits : goal.returns-clause-fits
returns-clause-fits c =
    let held = ap (λ (k : KeptFiles). k.held) c.self.view_is in
    keeps_as _ _ _ _ _ _ _ held c.as_bytes-name.ensures.value c.self.invariant c.if-not-fits.ensures

pub returns-clause-after : goal.returns-clause-after
returns-clause-after c =
    let held = ap (λ (k : KeptFiles). k.held) c.self.view_is in
    held_after _ _ _ _ _ _ _ held c.as_bytes-name.ensures.value c.self.invariant c.put.ensures
