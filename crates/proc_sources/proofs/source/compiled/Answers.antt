use Rattle.std.proofs.Common.{ap, sym, ◌∙◌, rules}
use Rattle.std.specs.Prelude.{Ok}
use Rattle.readers.specs.Readers.{told_by}
use Rattle.proc_sources.specs.declared.fault.SourceFault.TheVariants.{Size}
use Rattle.proc_sources.proofs.Compiling.{compiles_so, fails_so}
use Rattle.proc_sources.proofs.source.compiled.Goals as goal

pub returns-in-Ok : goal.returns-in-Ok
returns-in-Ok c = ap (told_by Size) (compiles_so c.args.m.now c.in-Ok.ensures.compiles)
    ∙ ap (λ x. Ok x) (sym c.in-Ok.ensures.is)

pub returns-in-Err : goal.returns-in-Err
returns-in-Err c =
    ap (told_by Size) (fails_so c.args.m.now c.in-Err.fault (λ e. search rules) c.in-Err.ensures.causes)
