use Rattle.std.proofs.Common.{sym, ◌∙◌, ap}
use Rattle.token_language.specs.Erased.{stmts_in}
use Rattle.token_language.proofs.Blocks.{stmts_in-block_of}
use Rattle.token_language.proofs.stmts.body.Goals as goal

pub returns : goal.returns
returns c = sym (stmts_in-block_of c.in_ok-kept.kept.items) ∙ ap stmts_in c.in_ok-kept.ensures
