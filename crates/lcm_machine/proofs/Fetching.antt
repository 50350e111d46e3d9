-- What is fetched, as it is decoded.
use Rattle.std.proofs.Common.{◌≡◌, ◌∙◌}
use Rattle.std.specs.Prelude.{Result, Ok, Err, MatchResult}
use Rattle.cap_words.specs.declared.Word.{Word}
use Rattle.lcm_isa.specs.declared.Instr.{Instr}
use Rattle.lcm_machine.specs.declared.FailCause.{FailCause}
use Rattle.lcm_machine.specs.Row.{Fetched, none, some}

pub fetched_by : (r : Result (Instr × Word) FailCause) (f d : Fetched) → f ≡ d
    → MatchResult r (λ p. d ≡ some p.0 p.1) (λ e. d ≡ none e)
    → MatchResult r (λ p. f ≡ some p.0 p.1) (λ e. f ≡ none e)
fetched_by (Ok p) f d e m = e ∙ m
fetched_by (Err c) f d e m = e ∙ m
