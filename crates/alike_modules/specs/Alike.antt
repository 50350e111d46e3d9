-- Modules that are the same but for their places, and texts that spell such.
use Rattle.std.specs.Prelude.{◌≡◌, ℕ, ◌<◌, ◌^◌, List, map, length, Ok}
use Rattle.readers.specs.Readers.{told_by}
use Rattle.proc_language.specs.declared.module.ModuleFields.{ModuleFields}
use Rattle.proc_language.specs.Unplaced.{unplaced, IsAlike}
use Rattle.proc_print.specs.Printed.{printed}
use Rattle.alike_modules.specs.Reprint.{HasShortLines, IsShallowText}
use Rattle.proc_language.specs.declared.dialect.Dialect.TheVariants.{Plain}
use Rattle.proc_sources.specs.declared.fault.SourceFault.TheVariants.{Size}
use Rattle.proc_sources.specs.Sources.{compile_answer, module_in, sourced}

-- the modules of two lists are so one by one
abbrev pub AreAlike : List ModuleFields → List ModuleFields → Type 0
AreAlike ms ns = map unplaced ms ≡ map unplaced ns

-- a module whose text is parsed: it is not too long, no line of it is and no bracket is too deep
pub record IsParsedBack (m : ModuleFields) : Type 0 where
  pub few : length (printed m) < 2 ^ 32
  pub short : HasShortLines (printed m)
  pub shallow : IsShallowText (printed m)

-- a text without tokens spells a module that is alike, whose names are resolved, and its component is that of
-- the module
pub record IsSourceOf (text : List ℕ) (m : ModuleFields) : Type 0 where
  pub again : ModuleFields
  pub spelled : module_in Plain text ≡ Ok again
  pub alike : IsAlike again m
  pub compiled : sourced Plain text ≡ told_by Size (compile_answer m)
