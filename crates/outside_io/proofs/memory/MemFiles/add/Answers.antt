use Rattle.std.proofs.Common.{◌≡◌, refl, string_bytes}
use Rattle.outside_io.proofs.Held.{files_of-insert}
use Rattle.outside_io.proofs.memory.MemFiles.add.Goals as goal

pub returns-clause-ok : goal.returns-clause-ok
returns-clause-ok c =
    let inserted = files_of-insert c.self.inside.files c.insert.new.self c.in_ok-key.key
    c.in_ok-content.content c.in_ok-insert.ensures.updates in
    let name : string_bytes c.in_ok-key.key ≡ c.args.name.now = c.in_ok-key.ensures.ok in
    let bytes : c.in_ok-content.content.items ≡ c.args.bytes.now = c.in_ok-content.ensures.items in
    rw (inserted, name, bytes, ← c.self.view_is) refl
