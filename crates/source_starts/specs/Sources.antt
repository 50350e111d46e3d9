-- Linked sources: a link of which the trusted parts are compiled modules, and its start.
use Rattle.std.specs.Prelude.{◌≡◌, List, [], map, filter}
use Rattle.linked_starts.specs.Parts.{PartSeen}
use Rattle.linked_starts.specs.LinkedStarts.{IsStartOf}
use Rattle.proc_language.specs.declared.module.ModuleFields.{ModuleFields}
use Rattle.proc_language.specs.Limits.{Each, IsModule}
use Rattle.proc_names.specs.NameFaults.{name_faults}
use Rattle.proc_program.specs.Lower.{part_of}
use Rattle.proc_templates.specs.Compiled.{compiled}
use Rattle.proc_semantics.specs.Values.{World}
use Rattle.source_laws.specs.Sources.{MeansAlways}
use Rattle.source_laws.specs.Secrets.{LeavesNothing}
use Rattle.source_starts.specs.Links.{Linking, overlay_link}

abbrev pub trusted_parts : List PartSeen → List PartSeen
trusted_parts parts = filter (λ p. p.trusted) parts

-- the trusted parts in their order are the components of the modules, whose names are resolved; of the others
-- nothing is said
pub record AreSources (modules : List ModuleFields) (parts : List PartSeen) : Type 0 where
  pub limits : Each IsModule modules
  pub resolved : Each (λ m. name_faults m ≡ []) modules
  pub compiled : map (λ (p : PartSeen). p.component) (trusted_parts parts) ≡ map compiled modules

-- parts, a stack size, and the start of the link of these
pub record LinkedStart : Type 0 where
  pub link : Linking
  pub open link use *
  pub is_start : IsStartOf parts size start

-- modules, and a link whose trusted parts are their components
pub record LinkedSources : Type 0 where
  pub modules : List ModuleFields
  pub linked : LinkedStart
  pub open linked use *
  pub are_sources : AreSources modules parts

-- the modules as they run
abbrev pub world_of : LinkedSources → World
world_of a = map part_of a.modules

-- runs of linked sources do what the modules mean
abbrev pub SourcesDoWhatTheyMean : Type 0
SourcesDoWhatTheyMean = (a : LinkedSources) → MeansAlways (world_of a) a.size a.start

-- code outside learns nothing from sources but what their refined meanings tell, whatever it is
abbrev pub SourcesLeaveNothing : Type 0
SourcesLeaveNothing = (a : LinkedSources) → LeavesNothing (overlay_link a.link) a.start
