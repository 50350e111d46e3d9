use Rattle.call_sequence.proofs.Walks.{one_row}
use Rattle.call_sequence.proofs.Rowed.{row_outside}
use Rattle.call_sequence.proofs.laws.rows_are_placed.Goals as goal

pub returns-clause-one : goal.returns-clause-one
returns-clause-one c = one_row

pub returns-clause-outside : goal.returns-clause-outside
returns-clause-outside c = row_outside
