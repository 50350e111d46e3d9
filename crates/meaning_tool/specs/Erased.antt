-- The text of a module.
use Rattle.std.specs.Prelude.{◌≡◌, ℕ, List}
use Rattle.alike_modules.specs.Alike.{IsParsedBack, IsSourceOf}
use Rattle.proc_language.specs.declared.module.ModuleFields.{ModuleFields}
use Rattle.proc_print.specs.Printed.{printed}

-- if its text is parsed at all, it is a source of a module that is the same but for its places
abbrev pub IsSourceAgain : ModuleFields → Type 0
IsSourceAgain m = IsParsedBack m → IsSourceOf (printed m) m

abbrev pub IsErased : ModuleFields → List ℕ → Type 0
IsErased m text = (text ≡ printed m) × IsSourceAgain m
