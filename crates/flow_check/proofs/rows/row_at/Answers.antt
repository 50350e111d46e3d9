use Rattle.flow_check.proofs.rows.row_at.Goals as goal

pub returns-clause-none : goal.returns-clause-none
returns-clause-none c = rw c.fields.ensures.same at c.row_of.ensures.none
