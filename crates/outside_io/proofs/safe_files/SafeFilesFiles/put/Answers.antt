use Rattle.std.proofs.Common.{ap, ◌∙◌}
use Rattle.outside_io.specs.FileCounts.{with_put}
use Rattle.outside_io.specs.SafeFiles.{SafeHeld, KeptFiles, held_of}
use Rattle.outside_io.proofs.Held.{Puts-insert}
use Rattle.outside_io.proofs.Filed.{as_held}
use Rattle.outside_io.proofs.safe_files.SafeFilesFiles.put.Goals as goal

pub returns-clause-ok : goal.returns-clause-ok
returns-clause-ok c =
    let added = ap (λ (k : KeptFiles). k.held) c.self.view_is ∙ c.if-not-add.ensures.after in
    Puts-insert (as_held c.args.self.now.held) (as_held (held_of c.self.inside.shelf c.was_put.new.self))
    c.args.name.now c.args.bytes.now (ap (λ (h : SafeHeld). h.files) added)
    (c.was_put.ensures ∙ ap (λ (h : SafeHeld). with_put h.counts) added)
