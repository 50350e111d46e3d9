use Rattle.full_abstraction.specs.Contexts.{halting}
use Rattle.full_abstraction.specs.Abstraction.{untrusted}
use Rattle.full_abstraction.proofs.Equivalence.{show_the_same, for_any, in_all}
use Rattle.full_abstraction.proofs.Apart.{told_apart}
use Rattle.full_abstraction.proofs.laws.overlay_is_fully_abstract.Goals as goal

pub returns-clause-each_run : goal.returns-clause-each_run
returns-clause-each_run c = show_the_same c.the_headline.ensures.holds c.cuts_are_greatest.ensures.matched

pub returns-clause-for_any : goal.returns-clause-for_any
returns-clause-for_any c = for_any (returns-clause-each_run c)

pub returns-clause-in_all : goal.returns-clause-in_all
returns-clause-in_all c = in_all (returns-clause-each_run c)

pub returns-clause-holds : goal.returns-clause-holds
returns-clause-holds c = returns-clause-for_any c untrusted halting

pub returns-clause-apart : goal.returns-clause-apart
returns-clause-apart c = told_apart (returns-clause-each_run c) (returns-clause-holds c)
