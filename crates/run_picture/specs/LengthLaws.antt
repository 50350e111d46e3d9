-- How long a picture is.
use Rattle.std.specs.Prelude.{◌≡◌, ℕ, ◌+◌, ◌*◌, ◌≤◌, List, length}
use Rattle.run_picture.specs.declared.TheConstants.{LAST_COUNT}
use Rattle.run_picture.specs.Shapes.{escaped}
use Rattle.run_picture.specs.Events.{events}
use Rattle.run_picture.specs.Picture.{picture}
use Rattle.run_picture.specs.OpenLaws.{Passes}

-- a byte is escaped as six at most
abbrev pub EscapesAreShort : Type 0
EscapesAreShort = (s : List ℕ) → length (escaped s) ≤ 6 * length s

-- no byte of a trace has to be escaped
abbrev pub TracesArePlain : Type 0
TracesArePlain = (text : List ℕ) → Passes text → escaped text ≡ text

-- so much for the page, for the text and for each line, be the text a trace or not
abbrev pub PicturesAreShort : Type 0
PicturesAreShort = (text : List ℕ) → length (events text) ≤ LAST_COUNT
    → length (picture text) ≤ 2048 + 3 * length (escaped text) + 700 * length (events text)
