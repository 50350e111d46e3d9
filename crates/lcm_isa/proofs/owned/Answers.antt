use Rattle.std.proofs.Common.{◌≡◌, rules, Some, true, false}
use Rattle.lcm_isa.specs.Numbers.{candidate}
use Rattle.lcm_isa.specs.Own.{is_own}
use Rattle.lcm_isa.proofs.OwnLemmas.{own_then, own_else}
use Rattle.lcm_isa.proofs.owned.Goals as goal

pub returns-then-is_own : goal.returns-then-is_own
unfolding candidate
returns-then-is_own c =
    let found : candidate c.args.n ≡ Some c.in_ok-instr.instr = search rules in
    let own : true ≡ is_own c.in_ok-instr.instr c.args.n = search rules in
    own_then c.args.n c.in_ok-instr.instr found own

pub returns-else-is_own : goal.returns-else-is_own
unfolding candidate
returns-else-is_own c =
    let found : candidate c.args.n ≡ Some c.in_ok-instr.instr = search rules in
    let own : false ≡ is_own c.in_ok-instr.instr c.args.n = search rules in
    own_else c.args.n c.in_ok-instr.instr found own
