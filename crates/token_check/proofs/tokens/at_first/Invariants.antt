use Rattle.std.proofs.Common.{◌≡◌, ◌≤◌, length, drop}
use Rattle.token_check.specs.Tokens.{params_full}
use Rattle.token_check.specs.Walk.{at_first}
use Rattle.token_check.proofs.tokens.at_first.Given as goal

abbrev pub invariant-loop-q : goal.invariant-loop-q
invariant-loop-q l = record {
  told : params_full (drop l.q-index l.p.params) l.place l.full ≡ at_first l.p;
  few : l.place ≤ l.q-index;
  wide : length l.full ≡ 60;
}
