use Rattle.std.proofs.Common.{◌≡◌, ◌≤◌, ◌+◌, ◌++◌, length, drop}
use Rattle.token_language.specs.Tokens.{param_tokens, local_tokens, tokens_of}
use Rattle.token_check.specs.Tokens.{place_among, token_at}
use Rattle.token_check.proofs.tokens.token_at.Given as goal

abbrev pub invariant-loop-q : goal.invariant-loop-q
invariant-loop-q l = record {
  told : place_among (param_tokens (drop l.q-index l.p.params) ++ local_tokens l.p.locals) l.x l.place
      ≡ token_at (tokens_of l.p) l.x;
  few : l.place ≤ l.q-index;
}

abbrev pub invariant-loop-q-2 : goal.invariant-loop-q-2
invariant-loop-q-2 l = record {
  told :
      place_among (local_tokens (drop l.q-index l.p.locals)) l.x l.place ≡ token_at (tokens_of l.p) l.x;
  few : l.place ≤ length l.p.params + l.q-index;
}
