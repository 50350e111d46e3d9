use Rattle.std.proofs.Common.{ap, ◌∙◌, arith, inl, inr}
use Rattle.outside_io.specs.Memory.{HeldFiles, files_of}
use Rattle.outside_io.specs.FileCounts.{with_given}
use Rattle.outside_io.proofs.Held.{GivesPart-held, file_named-there, file_named-missing, fails_nowhere}
use Rattle.outside_io.proofs.Held.{fails_here, set_call}
use Rattle.outside_io.proofs.memory.MemFilesFiles.read.Goals as goal
use Rattle.outside_io.proofs.memory.MemFilesFiles.read.Goals.{in_default-via-in-Some+else-not-is_set}
use Rattle.outside_io.proofs.memory.MemFilesFiles.read.Goals.{in_default-via-in_default}

pub returns-in-Some-clause-ok : goal.returns-in-Some-clause-ok
returns-in-Some-clause-ok c =
    let files = ap (λ (h : HeldFiles). h.files) c.self.view_is in
    let there = file_named-there c.args.self.now c.self.inside.files c.args.name.now c.in-Some.file.now files
    c.in-Some.ensures.value in
    let after : HeldFiles = record {
      files = files_of c.self.inside.files.entries;
      calls = c.begin-is_set.new.self;
      counts = c.gave.new.self;
    } in
    GivesPart-held c.args.self.now after c.args.name.now c.in-Some.file.now.items c.copy_part-count.new.buf
    c.args.at c.copy_part-count.result there (omega arith)
    (rw c.deref.ensures.value at c.copy_part-count.ensures.count)
    (rw c.deref.ensures.value at c.copy_part-count.ensures.bytes)
    files
    (c.gave.ensures ∙ ap (λ (h : HeldFiles). with_given h.counts c.copy_part-count.result) c.self.view_is)

pub returns-in-Some-clause-fails : goal.returns-in-Some-clause-fails
returns-in-Some-clause-fails c =
    let there = file_named-there c.args.self.now c.self.inside.files c.args.name.now c.in-Some.file.now
    (ap (λ (h : HeldFiles). h.files) c.self.view_is) c.in-Some.ensures.value in
    fails_nowhere c.begin-is_set.result c.self.inside.calls c.args.self.now.calls _ _
    (ap (λ (h : HeldFiles). h.calls) c.self.view_is) c.begin-is_set.ensures.fails c.if-not-is_set.true
    there

pub returns-in-Some-clause-all : goal.returns-in-Some-clause-all
returns-in-Some-clause-all c =
    let there = file_named-there c.args.self.now c.self.inside.files c.args.name.now c.in-Some.file.now
    (ap (λ (h : HeldFiles). h.files) c.self.view_is) c.in-Some.ensures.value in
    rw there (rw c.deref.ensures.value at c.copy_part-count.ensures.count)

pub returns-in_default-clause-fails : goal.returns-in_default-clause-fails
returns-in_default-clause-fails c =
    elim c.in_default.branch [
      | in_default-via-in-Some+else-not-is_set w
          ↦ fails_here (inl (set_call c.begin-is_set.result c.self.inside.calls _
          (ap (λ (h : HeldFiles). h.calls) c.self.view_is) c.begin-is_set.ensures.fails
          w.if-not-is_set.false))
      | in_default-via-in_default w ↦ fails_here
          (inr (file_named-missing c.args.self.now c.self.inside.files c.args.name.now
          (ap (λ (h : HeldFiles). h.files) c.self.view_is) w.in_default.ensures.value))
    ]
