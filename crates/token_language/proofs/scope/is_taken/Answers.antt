use Rattle.std.proofs.Common.{◌≡◌, false}
use Rattle.proc_names.specs.Names.{is_there}
use Rattle.token_language.specs.TokenFaults.{is_plain}
use Rattle.token_language.proofs.FoundLemmas.{taken_else}
use Rattle.token_language.proofs.scope.is_taken.Goals as goal

pub returns : goal.returns
returns c =
    let plain : is_plain c.args.p.now c.args.f.now ≡ false = cc in
    let global : is_there (λ g. g.name) c.args.m.now.globals c.args.f.now ≡ false = cc in
    let e = taken_else c.args.m.now c.args.p.now c.args.f.now plain global in
    cc
