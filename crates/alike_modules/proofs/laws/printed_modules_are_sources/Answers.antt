use Rattle.alike_modules.proofs.Sources.{is_source}
use Rattle.alike_modules.proofs.laws.printed_modules_are_sources.Goals as goal

pub returns : goal.returns
returns c m limits fine back =
    is_source m (c.what_is_printed_is_parsed.ensures m back.few) limits fine back
