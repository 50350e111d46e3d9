use Rattle.std.proofs.Common.{ap, sym, ◌∙◌}
use Rattle.outside_io.specs.FileCounts.{with_put}
use Rattle.outside_io.specs.Memory.{HeldFiles, files_of}
use Rattle.std.specs.FinMap as finite
use Rattle.outside_io.proofs.Held.{Puts-insert, on_ok_not_err}
use Rattle.outside_io.proofs.memory.MemFilesFiles.put.Goals as goal

pub returns-clause-ok : goal.returns-clause-ok
returns-clause-ok c =
    let added = on_ok_not_err c.add.result (sym c.is_err.ensures.value ∙ c.if-is_err.false)
    c.add.ensures.ok in
    let after : HeldFiles = record {
      files = files_of c.self-3.inside.files.entries;
      calls = c.self-3.inside.calls;
      counts = c.was_put.new.self;
    } in
    Puts-insert c.args.self.now after c.args.name.now c.args.bytes.now
    (ap (λ (h : HeldFiles). h.files) (c.self-3.view_is ∙ added) ∙ ap
    (λ (h : HeldFiles). finite.insert h.files c.args.name.now c.args.bytes.now) c.self.view_is)
    (c.was_put.ensures ∙ ap (λ (h : HeldFiles). with_put h.counts) (c.self-3.view_is ∙ added)
    ∙ ap (λ (h : HeldFiles). with_put h.counts) c.self.view_is)
