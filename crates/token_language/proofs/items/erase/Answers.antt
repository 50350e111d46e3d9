use Rattle.std.proofs.Common.{◌∙◌, ap}
use Rattle.proc_names.specs.NameFaults.{name_faults}
use Rattle.token_language.specs.Erased.{erased}
use Rattle.token_language.proofs.ErasedLemmas.{erased_resolved}
use Rattle.token_language.proofs.items.erase.Goals as goal

pub returns-clause-resolved : goal.returns-clause-resolved
returns-clause-resolved c =
    λ resolved.
    ap name_faults (c.of.ensures ∙ c.in_ok-fields.ensures ∙ ap erased c.fields.ensures.same)
    ∙ erased_resolved c.args.m.now resolved
