use Rattle.proc_sources.proofs.Modules.{keeps_limits, names_resolved, is_compiled}
use Rattle.proc_sources.proofs.laws.sources_are_modules.Goals as goal

pub returns-clause-limits : goal.returns-clause-limits
returns-clause-limits c =
    let plain = c.texts_spell_modules.ensures in
    let tokens = c.texts_spell_modules-2.ensures in
    keeps_limits (record {
      plain = λ text m e. plain.within_limits text m (plain.found text m e);
      tokens = λ text m e. tokens.within_limits text m (tokens.found text m e);
    })

pub returns-clause-resolved : goal.returns-clause-resolved
returns-clause-resolved c = names_resolved c.erased_modules_are_resolved.ensures

pub returns-clause-compiled : goal.returns-clause-compiled
returns-clause-compiled c = is_compiled
