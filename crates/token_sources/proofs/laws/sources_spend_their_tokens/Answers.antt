use Rattle.std.proofs.Common.{sym, ap, inl}
use Rattle.std.specs.Prelude.{Ok}
use Rattle.readers.specs.Results.{◌>>=◌}
use Rattle.proc_language.specs.declared.dialect.Dialect.TheVariants.{Plain, Tokens}
use Rattle.token_semantics.specs.Plain.{tokened}
use Rattle.token_sources.proofs.Sources.{all_are_left}
use Rattle.token_sources.proofs.laws.sources_spend_their_tokens.Goals as goal

pub returns-clause-accepted : goal.returns-clause-accepted
returns-clause-accepted c Plain text m e =
    let sources = c.sources_are_modules.ensures in
    let plain = c.plain_modules_are_token_modules.ensures m (sources.limits Plain text m e)
    (sources.resolved Plain text m e) in
    record {
      tokens = tokened m;
      spelled = ap (λ r. r >>= (λ x. Ok (tokened x))) e;
      left = plain.same;
      accepted = plain.accepted;
    }
returns-clause-accepted c Tokens text m e =
    let t = c.tokens_are_erased.ensures text m e in
    record {
      tokens = t.0;
      spelled = t.1;
      left = sym t.5;
      accepted = record { limits = t.2; resolved = t.3; checked = inl t.4 };
    }

pub returns-clause-told : goal.returns-clause-told
returns-clause-told c = all_are_left (returns-clause-accepted c) c.tokens_are_spent.ensures
