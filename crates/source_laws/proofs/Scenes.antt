-- How the modules of a list of sources show in a link.
use Rattle.std.proofs.Common.{ℕ}
use Rattle.linked_starts.specs.Parts.{PartSeen}
use Rattle.overlay_machine.specs.declared.words.OWord.{OWord}
use Rattle.overlay_machine.specs.State.{OState}
use Rattle.overlay_machine.specs.Link.{Link}
use Rattle.overlay_machine.specs.Linked.{IsLink}
use Rattle.proc_semantics.specs.Values.{Store}
use Rattle.proc_semantics.specs.declared.value.Target.{Target}
use Rattle.source_laws.proofs.Refined.{World, Registers}

-- the modules, and the link of their parts; which entry of which part a procedure has, how the words of all
-- globals stand in memory, and which registers hold what a procedure is handed
pub record Scene : Type 1 where
  pub world : World
  pub g : Link
  pub linked : IsLink g
  pub Begins : Target → PartSeen → ℕ → Type 0
  pub StoreIs : Store → (ℕ → OWord) → Type 0
  pub RegsAre : Registers → OState → Type 0
