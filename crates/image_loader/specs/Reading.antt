-- Reading an image field after field, with the first fault that is met: the header, and then of each part its
-- header, its form and its own rules.
use Rattle.std.specs.Prelude.{ℕ, ◌+◌, ◌==◌, Bool, List, Result, Ok, Err}
use Rattle.std.specs.Str.{bytes_eq}
use Rattle.cap_words.specs.declared.bytes.cursor.FieldFault.{FieldFault}
use Rattle.readers.specs.Readers.{Reader, ◌>>=◌, done, holds, given, told_by, telling, items_from}
use Rattle.readers.specs.Places.{read_whole}
use Rattle.cap_words.specs.Reading.{Input, meant, within, next_bytes, next_number}
use Rattle.component_file.specs.declared.component.ComponentFields.{ComponentFields}
use Rattle.component_file.specs.Reading.{next_flag, decoded}
use Rattle.linked_starts.specs.declared.TheConstants.{MOST_PARTS}
use Rattle.linked_starts.specs.Parts.{PartSeen}
use Rattle.linked_starts.specs.Accepted.{accepted}
use Rattle.image_loader.specs.declared.TheConstants.{VERSION}
use Rattle.image_loader.specs.declared.fault.ImageFault.{ImageFault}
use Rattle.image_loader.specs.declared.fault.ImageFault.TheVariants.{Magic, Version, Trailing}
use Rattle.image_loader.specs.declared.reading.Image.{Image}
use Rattle.image_loader.specs.Fault.{in_image, in_part, broken_in}
use Rattle.image_loader.specs.Image.{magic}

-- ---- fields

-- a field of the image
abbrev pub field : {A : Type 0} → Reader Input FieldFault A → Reader Input ImageFault A
field r = telling in_image r

unfoldable pub next_header : Reader Input ImageFault (Unit {0})
next_header = do
  four ← field (next_bytes 4)
  _ ← holds (bytes_eq four magic) Magic
  version ← field (next_number 2)
  _ ← holds (version == VERSION) Version
  done tt

-- from 1 to the most that are linked together
abbrev pub next_count : Reader Input FieldFault ℕ
next_count = meant (within 1 MOST_PARTS) (next_number 2)

-- ---- parts

-- a component of a part by its index, by its own rules
abbrev pub kept_by : ℕ → Bool → Result ComponentFields ImageFault → Result PartSeen ImageFault
kept_by index trusted (Ok c) = told_by (broken_in index)
    (accepted (record { component = c; trusted = trusted }))
kept_by index trusted (Err e) = Err e

-- the part that these bytes are: first their form, then the rules
unfoldable pub part_in_bytes : ℕ → Bool → List ℕ → Result PartSeen ImageFault
part_in_bytes index trusted bytes = kept_by index trusted (told_by (in_part index) (decoded bytes))

unfoldable pub next_part : ℕ → Reader Input ImageFault PartSeen
next_part index = do
  trusted ← field next_flag
  len ← field (next_number 4)
  bytes ← field (next_bytes len)
  given (part_in_bytes index trusted bytes)

-- so many parts one after another, the first of them with this index
abbrev pub next_parts : ℕ → ℕ → Reader Input ImageFault (List PartSeen)
next_parts index n = items_from (λ i _. i + 1) next_part n index

-- ---- the image

unfoldable pub next_image : Reader Input ImageFault Image
next_image = do
  _ ← next_header
  stack ← field (next_number 4)
  count ← field next_count
  parts ← next_parts 0 count
  done (record { stack = stack; parts = parts })

-- the image that the bytes spell, or their first fault; nothing may follow it
unfoldable pub image_of : List ℕ → Result Image ImageFault
image_of bytes = read_whole Trailing next_image bytes
