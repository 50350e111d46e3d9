use Rattle.lcm_isa.proofs.NameLemmas.{first_named, named_found, named_back, named_none}
use Rattle.lcm_isa.proofs.Reg.of_name.Goals as goal

pub returns-clause-found : goal.returns-clause-found
unfolding first_named
returns-clause-found c = named_found c.args.name.now c.first_named.result c.first_named.ensures

pub returns-clause-back : goal.returns-clause-back
unfolding first_named
returns-clause-back c = named_back c.args.name.now c.first_named.result c.first_named.ensures

pub returns-clause-none : goal.returns-clause-none
unfolding first_named
returns-clause-none c = named_none c.args.name.now c.first_named.result c.first_named.ensures
