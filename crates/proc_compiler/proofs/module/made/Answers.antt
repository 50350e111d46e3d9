use Rattle.proc_compiler.proofs.Modules.{limits_of}
use Rattle.proc_compiler.proofs.module.made.Goals as goal

pub of-requires : goal.of-requires
of-requires c = limits_of c.args.fields c.args.m.now c.requires.is c.requires.fits c.requires.named
    c.requires.seals
