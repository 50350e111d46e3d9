use Rattle.proc_sources.proofs.Modules.{erased_of, token_parts, tokens_resolved}
use Rattle.proc_sources.proofs.laws.tokens_are_erased.Goals as goal

pub returns : goal.returns
returns c text m e =
    let t = erased_of text m e in
    let p = token_parts text t.0 t.1 in
    let spelled = c.texts_spell_modules.ensures.found text t.0 p.parsed in (
      t.0,
      t.1,
      c.texts_spell_modules.ensures.within_limits text t.0 spelled,
      tokens_resolved t.0 p.names,
      (c.walks_are_typed.ensures t.0).0 p.typed,
      t.2,
    )
