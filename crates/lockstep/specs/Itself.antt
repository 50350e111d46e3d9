-- That it speaks of something: each state of a linked run at which code outside runs is alike to itself.
use Rattle.overlay_machine.specs.State.{OState}
use Rattle.overlay_machine.specs.Link.{Link}
use Rattle.overlay_machine.specs.Linked.{IsLink}
use Rattle.lockstep.specs.Related.{StandsOutside, SameNames, Calls, Alike}
use Rattle.lockstep.specs.Lockstep.{AreBelow}

abbrev pub AlikeToItself : Type 0
AlikeToItself =
    (g : Link) → IsLink g → (names : SameNames g g)
    × ((q : OState) → StandsOutside g q → (cs : Calls) × Alike g g names cs q q × AreBelow cs q q)
