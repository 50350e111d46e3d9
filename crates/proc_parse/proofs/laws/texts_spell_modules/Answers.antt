use Rattle.proc_parse.proofs.laws.texts_spell_modules.Goals as goal

pub returns-clause-within_limits : goal.returns-clause-within_limits
returns-clause-within_limits c text m spells =
    let (tokens, proper, is) = c.spelled_texts_are_read.ensures.proper text m spells in
    c.what_is_spelled_keeps_the_limits.ensures tokens m proper is
