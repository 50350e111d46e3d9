use Rattle.std.specs.Prelude.{Result, Ok, Err, OnErr, ⊤}
use Rattle.command_words.proofs.words.call_words.Goals as goal

any_error : {A E : Type 0} (r : Result A E) → OnErr r ⊤
any_error (Ok x) = tt
any_error (Err e) = tt

pub returns-in-Ok-clause-lack : goal.returns-in-Ok-clause-lack
returns-in-Ok-clause-lack c = rw c.in-Ok.is (any_error c.words_behind.result)
