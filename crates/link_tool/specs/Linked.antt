-- What links: parts, or an image; and the start or the bytes that a call makes of it.
use Rattle.std.specs.Prelude.{◌≡◌, ℕ, List, Result, Ok, Err}
use Rattle.outside_io.specs.FilesSeen.{FilesSeen}
use Rattle.command_words.specs.declared.part.PartWord.{PartWord}
use Rattle.command_words.specs.declared.command.Linked.{Linked}
use Rattle.command_words.specs.declared.command.Linked.TheVariants as what
use Rattle.linked_starts.specs.Started.{StartSeen}
use Rattle.linked_starts.specs.LinkedStarts.{IsStartOf}
use Rattle.image_loader.specs.Image.{ImageSeen, image_bytes}
use Rattle.file_plans.specs.declared.refusal.Refusal.TheVariants as refusal
use Rattle.file_plans.specs.declared.refusal.Stop.{Stop}
use Rattle.file_plans.specs.Plans.{Plan, Made, ◌>>=◌, Meets, FollowsAs, file, unless, each_at}
use Rattle.link_tool.specs.Parts.{linked, loaded, part_at}

-- ---- parts that link, with the size of their stack

-- those of words: the parts, and then the rules L of all of them
unfoldable pub parts_plan : List PartWord → ℕ → Plan ImageSeen
parts_plan words size = do
  parts ← each_at part_at 0 words
  _ ← unless refusal.Rule (linked parts size)
  Made (record { stack = size; parts = parts })

-- those of an image: the file, and what its bytes are
unfoldable pub image_plan : List ℕ → Plan ImageSeen
image_plan name = do
  bytes ← file name 0
  unless refusal.Image (loaded bytes)

abbrev pub linked_plan : Linked → Plan ImageSeen
linked_plan (what.Parts words size) = parts_plan words size
linked_plan (what.Image name) = image_plan name

-- ---- what a call makes of it

-- the start of the image
abbrev pub FollowsStart : Plan ImageSeen → FilesSeen → Result StartSeen Stop → FilesSeen → Type 0
FollowsStart = FollowsAs (λ i start. IsStartOf i.parts i.stack start)

-- the bytes of the image, which are loaded as just this image
abbrev pub FollowsImage : Plan ImageSeen → FilesSeen → Result (List ℕ) Stop → FilesSeen → Type 0
FollowsImage = FollowsAs (λ i bytes. (loaded (image_bytes i) ≡ Ok i) × (bytes ≡ image_bytes i))

-- the start, of a plan that reads nothing
abbrev pub MeetsStart : Plan ImageSeen → Result StartSeen Stop → Type 0
MeetsStart plan (Ok start) = (i : ImageSeen) × (plan ≡ Made i) × IsStartOf i.parts i.stack start
MeetsStart plan (Err stop) = Meets plan (Err stop)

-- an answer without what was made
abbrev pub without : {A : Type 0} → Result A Stop → Result (Unit {0}) Stop
without (Ok x) = Ok tt
without (Err stop) = Err stop
