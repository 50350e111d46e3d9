-- What loading an image answers.
use Rattle.std.specs.Prelude.{◌≡◌, ◌⊎◌, List, ℕ, Result, Ok, Err}
use Rattle.linked_starts.specs.declared.fault.LinkFault.{LinkFault}
use Rattle.linked_starts.specs.Started.{StartSeen}
use Rattle.linked_starts.specs.Answer.{AnswersParts}
use Rattle.image_loader.specs.declared.fault.ImageFault.{ImageFault}
use Rattle.image_loader.specs.declared.fault.ImageFault.TheVariants.{NoMemory}
use Rattle.image_loader.specs.declared.reading.Image.{Image}
use Rattle.image_loader.specs.Fault.{not_linked}
use Rattle.readers.specs.Readers.{told_by}
use Rattle.image_loader.specs.Reading.{image_of}

-- the first fault; or of an image what linking answers of its parts and the size of its stack
abbrev pub LinksRead : Result Image ImageFault → Result StartSeen ImageFault → Type 0
LinksRead (Ok i) answer =
    (r : Result StartSeen LinkFault) × AnswersParts i.parts i.stack r × (answer ≡ told_by not_linked r)
LinksRead (Err e) answer = answer ≡ Err e

-- so it is of the bytes, unless memory was refused
abbrev pub LoadsImage : List ℕ → Result StartSeen ImageFault → Type 0
LoadsImage bytes answer = LinksRead (image_of bytes) answer ⊎ (answer ≡ Err NoMemory)
