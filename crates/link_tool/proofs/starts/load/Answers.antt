use Rattle.std.proofs.Common.{rules}
use Rattle.link_tool.proofs.Linking.{loaded_starts, loaded_is, loaded_stops}
use Rattle.link_tool.proofs.starts.load.Goals as goal

pub returns-in-Ok-clause-start : goal.returns-in-Ok-clause-start
returns-in-Ok-clause-start c = loaded_starts c.args.bytes.now c.in-Ok.start c.in-Ok.ensures.found

pub returns-in-Ok-clause-spelled : goal.returns-in-Ok-clause-spelled
returns-in-Ok-clause-spelled c =
    let f = c.in-Ok.ensures.found in
    (f.0, loaded_is c.args.bytes.now f.0 c.in-Ok.start f.1 f.2, f.1)

pub returns-in-Err-clause-start : goal.returns-in-Err-clause-start
returns-in-Err-clause-start c =
    loaded_stops c.args.bytes.now c.in-Err.fault (λ e. search rules) c.in-Err.ensures.exact
