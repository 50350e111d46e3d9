use Rattle.std.proofs.Common.{◌≡◌, None}
use Rattle.proc_names.specs.Names.{callback_index}
use Rattle.token_language.specs.Erased.{erased_params}
use Rattle.token_language.proofs.FoundLemmas.{callee_else}
use Rattle.token_language.proofs.scope.callee_named.Goals as goal

pub returns : goal.returns
returns c =
    let p = c.args.p.now in
    let none : callback_index (erased_params p.params) c.args.f.now ≡ None = cc in
    let e = callee_else c.args.m.now p c.args.f.now none in
    cc
