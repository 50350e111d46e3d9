-- Tokens of a procedure.
use Rattle.std.proofs.lemmas.List.Folds.{list_any-append}

pub ruleset tokens = (list_any-append)
