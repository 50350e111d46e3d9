use Rattle.proc_grammar.proofs.Whole.{found, only, one_module, expected_is}
use Rattle.proc_grammar.proofs.Stops.{told, fault_is}
use Rattle.proc_grammar.proofs.laws.reading_keeps_the_grammar.Goals as goal

pub returns-clause-found : goal.returns-clause-found
returns-clause-found g c = found g.L.Language.made

pub returns-clause-only : goal.returns-clause-only
returns-clause-only g c = only g.L.Language.made

pub returns-clause-one : goal.returns-clause-one
returns-clause-one g c = one_module g.L.Language.made

pub returns-clause-expected : goal.returns-clause-expected
returns-clause-expected g c = expected_is g.L.Language.made

pub returns-clause-told : goal.returns-clause-told
returns-clause-told g c = told g.L.Language.made

pub returns-clause-faults : goal.returns-clause-faults
returns-clause-faults g c = fault_is g.L.Language.made
