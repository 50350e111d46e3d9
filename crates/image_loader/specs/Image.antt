-- What an image is, and its bytes. Numbers are little endian.
use Rattle.std.specs.Prelude.{◌≡◌, ℕ, ◌<◌, ◌≤◌, ◌^◌, ◌++◌, List, ◌∷◌, length, codes}
use Rattle.std.specs.List.{AllByRecursion}
use Rattle.component_file.specs.Spelling.{u16_bytes, u32_bytes, flag_byte, list_bytes, spelling}
use Rattle.linked_starts.specs.declared.TheConstants.{MOST_PARTS}
use Rattle.linked_starts.specs.Parts.{PartSeen, IsPart}
use Rattle.image_loader.specs.declared.TheConstants.{VERSION}
use Rattle.image_loader.specs.declared.reading.Image.{Image}

-- parts with the size of their stack, under a name for other crates
abbrev pub ImageSeen : Type 0
ImageSeen = Image

-- as many parts as may be linked, each a component within its limits that keeps the rules of a part; and the
-- size of their stack
pub record IsImage (i : Image) : Type 0 where
  pub stack : i.stack < 2 ^ 32
  pub count : (1 ≤ length i.parts) × (length i.parts ≤ MOST_PARTS)
  pub parts : AllByRecursion IsPart i.parts

-- ---- its bytes

-- whether the part is trusted, the length of its component, and the component
unfoldable pub part_bytes : PartSeen → List ℕ
part_bytes p = flag_byte p.trusted ∷ (u32_bytes (length (spelling p.component)) ++ spelling p.component)

abbrev pub magic : List ℕ
magic = codes "STKI"

-- magic, version, the size of the stack, and the parts after their number
unfoldable pub image_bytes : Image → List ℕ
image_bytes i = magic ++ (u16_bytes VERSION ++ (u32_bytes i.stack ++ list_bytes 2 part_bytes i.parts))

-- the bytes are the spelling of the image
abbrev pub SpellsImage : List ℕ → Image → Type 0
SpellsImage bytes i = IsImage i × (bytes ≡ image_bytes i)
