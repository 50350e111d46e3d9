-- Reading fields from the front of bytes.
use Rattle.std.specs.Prelude.{ℕ, ◌+◌, nat_lt, nat_le, ◌&&◌, ℤ, List, length, take, drop, slice_index}
use Rattle.std.specs.Prelude.{Option, Some, None, Ok, Err, if◌then◌else◌}
use Rattle.std.specs.Int.{w64, cast_signed}
use Rattle.byteorder.specs.Endian.{little_number}
use Rattle.readers.specs.Readers.{Reader, ◌>>=◌, done, unless_none}
use Rattle.readers.specs.Places.{Ahead, here}
use Rattle.cap_words.specs.declared.bytes.cursor.FieldFault.{FieldFault}
use Rattle.cap_words.specs.declared.bytes.cursor.FieldFault.TheVariants.{Short, BadField}

-- the bytes that are still to be read, and the place of the first of them
abbrev pub Input : Type 0
Input = Ahead ℕ

-- a field of n bytes is short where they aren't all there
unfoldable pub next_bytes : ℕ → Reader Input FieldFault (List ℕ)
next_bytes n i =
    if nat_lt (length i.rest) n then Err (Short i.at)
    else Ok (take n i.rest, record { at = i.at + n; rest = drop n i.rest })

-- a field of which only some values mean something; the others are a bad field
unfoldable pub meant : {A B : Type 0} → (A → Option B) → Reader Input FieldFault A → Reader Input FieldFault B
meant meaning r = do
  at ← here
  x ← r
  unless_none (BadField at) (meaning x)

unfoldable pub next_byte : Reader Input FieldFault ℕ
next_byte = do
  bytes ← next_bytes 1
  done (slice_index bytes 0)

-- a number of so many bytes, little endian
unfoldable pub next_number : ℕ → Reader Input FieldFault ℕ
next_number len = do
  bytes ← next_bytes len
  done (little_number len bytes)

-- two's complement, in 8 bytes
unfoldable pub next_signed : Reader Input FieldFault ℤ
next_signed = do
  n ← next_number 8
  done (cast_signed w64 n)

-- a number from low to high
abbrev pub within : ℕ → ℕ → ℕ → Option ℕ
within low high n = if nat_le low n && nat_le n high then Some n else None
