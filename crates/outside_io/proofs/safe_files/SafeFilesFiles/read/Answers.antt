use Rattle.std.proofs.Common.{ap, arith, ◌∙◌}
use Rattle.std.specs.Prelude.{is_some}
use Rattle.outside_io.specs.SafeFiles.{KeptFiles, held_of}
use Rattle.outside_io.specs.FileCounts.{with_given}
use Rattle.outside_io.proofs.Held.{GivesPart-held, fails_here, fails_not}
use Rattle.outside_io.proofs.Filed.{as_held, get_held}
use Rattle.outside_io.proofs.safe_files.SafeFilesFiles.read.Goals as goal

pub returns-in-Some-clause-ok : goal.returns-in-Some-clause-ok
returns-in-Some-clause-ok c =
    let held = ap (λ (k : KeptFiles). k.held) c.self.view_is in
    let there = get_held _ _ _ _ _ _ held c.as_bytes.ensures.value c.in-Some.ensures in
    let part = c.copy_part-count.ensures in
    let count = c.copy_part-count.result in
    GivesPart-held (as_held c.args.self.now.held) (as_held (held_of c.self.inside.shelf c.gave.new.self))
    _ _ _ _ _ there (omega arith) part.count part.bytes (ap (λ (k : KeptFiles). k.held.files) c.self.view_is)
    (c.gave.ensures ∙ ap (λ (k : KeptFiles). with_given k.held.counts count) c.self.view_is)

pub returns-in-Some-clause-fails : goal.returns-in-Some-clause-fails
returns-in-Some-clause-fails c =
    let held = ap (λ (k : KeptFiles). k.held) c.self.view_is in
    fails_not (get_held _ _ _ _ _ _ held c.as_bytes.ensures.value c.in-Some.ensures)

pub returns-in-Some-clause-all : goal.returns-in-Some-clause-all
returns-in-Some-clause-all c =
    let held = ap (λ (k : KeptFiles). k.held) c.self.view_is in
    let there = get_held _ _ _ _ _ _ held c.as_bytes.ensures.value c.in-Some.ensures in
    rw there c.copy_part-count.ensures.count

pub returns-in-None-clause-fails : goal.returns-in-None-clause-fails
returns-in-None-clause-fails c =
    let held = ap (λ (k : KeptFiles). k.held) c.self.view_is in
    fails_here (ap is_some (get_held _ _ _ _ _ _ held c.as_bytes.ensures.value c.in-None.ensures))
