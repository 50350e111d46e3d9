use Rattle.debug_script.proofs.ScriptLaws.{scripts_are_read, first_bad_is_told}
use Rattle.debug_script.proofs.laws.scripts_are_read.Goals as goal

pub returns-clause-read : goal.returns-clause-read
returns-clause-read c = scripts_are_read

pub returns-clause-bad : goal.returns-clause-bad
returns-clause-bad c = first_bad_is_told
