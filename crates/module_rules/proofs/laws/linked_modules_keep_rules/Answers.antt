use Rattle.module_rules.proofs.Keeping.{kept}
use Rattle.module_rules.proofs.laws.linked_modules_keep_rules.Goals as goal

pub returns : goal.returns
returns c = λ parts size modules rules among resolved.
    kept parts size modules rules among (λ i m is. c.names_differ.ensures m (resolved i m is))
