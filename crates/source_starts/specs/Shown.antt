-- What code outside is shown of the sources of a start, wherever their code lets go of control: all that is
-- said of it, in one record.
use Rattle.std.specs.Prelude.{List, map}
use Rattle.overlay_machine.specs.State.{OState}
use Rattle.proc_language.specs.declared.module.ModuleFields.{ModuleFields}
use Rattle.proc_program.specs.Lower.{part_of}
use Rattle.source_laws.specs.Secrets.{LetsGo, LeavesNothing}
use Rattle.source_laws.specs.Words.{WhenceTold}
use Rattle.source_starts.specs.Links.{Linking, overlay_link}
use Rattle.source_starts.specs.Sources.{LinkedSources}
use Rattle.source_starts.specs.Words.{slots_of}
use Rattle.source_starts.specs.Named.{SlotsAreNamed}
use Rattle.source_starts.specs.PlainSecrets.{PlainShowsNoMore}
use Rattle.source_starts.specs.PlainWiped.{PlainWipedAlways}
use Rattle.source_starts.specs.PlainWords.{PlainWordsTold}

pub record ShowsNothingElse (modules : List ModuleFields) (a : Linking) : Type 0 where
  -- registers are told, and cells in reach are as code outside left them, or wiped; and a procedure that
  -- leaves gives back what it was entered with
  pub nothing_more : LeavesNothing (overlay_link a) a.start
  -- also of the plain machine
  pub plain_nothing_more : (o p q : OState) → LetsGo a.start o p q
      → PlainShowsNoMore (overlay_link a) a.start o q
  -- which words of the stack are wiped, on both machines, is what the sources' refined meaning tells
  pub wiped : PlainWipedAlways modules a
  -- and so is whom they call, with which words and from where
  pub words : WhenceTold (slots_of modules a) (map part_of modules) a.size a.start
  -- the pairs of imports and own procedures being those that the sources name
  pub named : SlotsAreNamed modules a
  -- also of the plain machine
  pub plain_words : PlainWordsTold modules a

-- of all linked sources
abbrev pub SourcesShowNothingElse : Type 0
SourcesShowNothingElse = (a : LinkedSources) → ShowsNothingElse a.modules a.link
