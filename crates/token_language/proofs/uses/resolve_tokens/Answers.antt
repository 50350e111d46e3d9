use Rattle.std.proofs.Common.{refl, sym, ◌∙◌, ap}
use Rattle.proc_names.specs.Faults.{first}
use Rattle.token_language.specs.TokenFaults.{token_name_faults}
use Rattle.proc_names.proofs.Offers.{first_none, is_first}
use Rattle.token_language.proofs.uses.resolve_tokens.Goals as goal

pub returns-in-None-clause-fine : goal.returns-in-None-clause-fine
returns-in-None-clause-fine c =
    let none =
    ap (λ m. first (token_name_faults m)) (sym c.fields.ensures.same)
    ∙ sym c.first_fault.ensures ∙ c.in-None.is in
    ((λ _. first_none (token_name_faults c.args.m.now) none), λ _. refl)

pub returns-in-Some-clause-first : goal.returns-in-Some-clause-first
returns-in-Some-clause-first c =
    is_first (token_name_faults c.args.m.now) c.in-Some.f
    (ap (λ m. first (token_name_faults m)) (sym c.fields.ensures.same)
    ∙ sym c.first_fault.ensures ∙ c.in-Some.is)
