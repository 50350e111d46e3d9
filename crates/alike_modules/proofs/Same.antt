-- What the laws are proved by.
use Rattle.alike_modules.proofs.Programs.{same_program}
use Rattle.alike_modules.proofs.Faults.{same_names}
use Rattle.alike_modules.proofs.Pieces.{same_text}
use Rattle.alike_modules.proofs.Rules.{same_rules, same_base, same_programs}
use Rattle.alike_modules.proofs.Sources.{same_component}

pub ruleset of_modules = (same_text, same_program, same_component, same_names)

pub ruleset of_lists = (same_rules, same_base, same_programs)
