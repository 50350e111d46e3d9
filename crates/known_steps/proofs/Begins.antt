-- What is known of memory at a start.
use Rattle.std.proofs.Common.{ℕ, List, [], ap, ◌∙◌}
use Rattle.std.specs.Prelude.{option_map}
use Rattle.linked_starts.specs.Parts.{PartSeen}
use Rattle.linked_starts.specs.Start.{start_cell}
use Rattle.linked_starts.specs.Started.{StartSeen}
use Rattle.linked_starts.specs.LinkedStarts.{IsLinkedStart}
use Rattle.overlay_machine.specs.declared.words.OWord.TheVariants.{Plain}
use Rattle.overlay_machine.specs.Starting.{overlay_at}
use Rattle.overlay_machine.proofs.Offers.{is_overlay, start_word_is}
use Rattle.known_steps.specs.Known.{Known, AreIn}

abbrev pub known_from : List PartSeen → ℕ → Known
known_from parts size a = option_map Plain (start_cell parts size a)

pub known_at_start : (parts : List PartSeen) (size : ℕ) (s : StartSeen) → IsLinkedStart parts size s
    → AreIn (known_from parts size) [] (overlay_at s).state.maps.cells
known_at_start parts size s is a w e =
    (is_overlay parts size s is).cells a ∙ start_word_is parts size s is a
    ∙ ap (option_map Plain) (is.starts.state.cells a) ∙ e
