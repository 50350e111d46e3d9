use Rattle.std.proofs.Common.{option_map}
use Rattle.proc_language.specs.declared.module.Import.{Import}
use Rattle.proc_names.proofs.Looked.{there, past}
use Rattle.proc_names.proofs.uses.import_arity.Goals as goal

pub returns-in-Some : goal.returns-in-Some
returns-in-Some c =
    let at = c.in-Some.ensures.lookup in
    there (option_map (λ (x : Import). x.arity)) c.args.imports.now c.args.i c.in-Some.x.now at.3.0 at.1

pub returns-in-None : goal.returns-in-None
returns-in-None c =
    past (option_map (λ (x : Import). x.arity)) c.args.imports.now c.args.i c.in-None.ensures.lookup.3
