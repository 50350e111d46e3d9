-- The bounds that each command keeps, and that `mean` and `erase` take sources.
use Rattle.std.specs.Prelude.{ℕ, ◌≤◌, List, length, IsTrue}
use Rattle.std.specs.List.{All, list_all}
use Rattle.command_words.specs.Texts.{Text}
use Rattle.command_words.specs.Name.{is_file_name}
use Rattle.command_words.specs.Part.{has_tokens}
use Rattle.command_words.specs.Action.{is_module}
use Rattle.command_words.specs.declared.TheConstants.{MOST_PARTS, MOST_STEPS, GREATEST_STACK, GREATEST_SEED}
use Rattle.command_words.specs.declared.part.PartWord.{PartWord}
use Rattle.command_words.specs.declared.command.Linked.{Linked}
use Rattle.command_words.specs.declared.command.Linked.TheVariants.{Parts, Image}
use Rattle.command_words.specs.declared.command.LinkDeed.{LinkDeed}
use Rattle.command_words.specs.declared.command.LinkDeed.TheVariants.{Run, Trace, Store, Reach}
use Rattle.command_words.specs.declared.command.ComponentDeed.{ComponentDeed}
use Rattle.command_words.specs.declared.command.ComponentDeed.TheVariants.{Put, Show}
use Rattle.command_words.specs.declared.command.Command.{Command}
use Rattle.command_words.specs.declared.command.Command.TheVariants.{Links, Takes, Checks, Mean, Generate}
use Rattle.command_words.specs.declared.command.Command.TheVariants.{Debug, Audit, Erase}

-- 1 to 255 bytes, of which the first isn't `-`
abbrev pub FitsName : Text → Type 0
FitsName name = IsTrue (is_file_name name)

abbrev pub FitsPart : PartWord → Type 0
FitsPart p = FitsName p.name

-- 1 to 16 of them
pub record FitsParts (parts : List PartWord) : Type 0 where
  pub some : 1 ≤ length parts
  pub few : length parts ≤ MOST_PARTS
  pub each : All FitsPart parts

-- and each a trusted source
abbrev pub FitsModules : List PartWord → Type 0
FitsModules parts = FitsParts parts × IsTrue (list_all is_module parts)

abbrev pub FitsSteps : ℕ → Type 0
FitsSteps n = (1 ≤ n) × (n ≤ MOST_STEPS)

abbrev pub FitsStack : ℕ → Type 0
FitsStack size = size ≤ GREATEST_STACK

abbrev pub FitsLinked : Linked → Type 0
FitsLinked (Parts parts size) = FitsParts parts × FitsStack size
FitsLinked (Image name) = FitsName name

abbrev pub FitsLinkDeed : LinkDeed → Type 0
FitsLinkDeed (Run steps) = FitsSteps steps
FitsLinkDeed (Trace steps) = FitsSteps steps
FitsLinkDeed (Store out) = FitsName out
FitsLinkDeed Reach = Unit {0}

abbrev pub FitsComponentDeed : ComponentDeed → Type 0
FitsComponentDeed (Put out) = FitsName out
FitsComponentDeed Show = Unit {0}

abbrev pub Fits : Command → Type 0
Fits (Links what deed) = FitsLinked what × FitsLinkDeed deed
Fits (Takes part deed) = FitsPart part × FitsComponentDeed deed
Fits (Checks part) = FitsPart part
Fits (Mean modules size fuel feed) = FitsModules modules × FitsStack size × FitsSteps fuel × FitsName feed
Fits (Generate seed) = seed ≤ GREATEST_SEED
Fits (Debug what script) = FitsLinked what × FitsName script
Fits (Audit text) = FitsName text
Fits (Erase part out) = FitsPart part × IsTrue (has_tokens part.ending) × FitsName out
