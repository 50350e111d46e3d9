-- Reading a word, with the first fault that is met.
use Rattle.std.specs.Prelude.{ℕ, ◌==◌, [], ◌∷◌, pos, Option, slice_get, Err, if◌then◌else◌}
use Rattle.cap_words.specs.declared.TheConstants.{LAST_PLACE}
use Rattle.cap_words.specs.declared.Perm.{Perm}
use Rattle.cap_words.specs.declared.Lin.{Lin}
use Rattle.cap_words.specs.declared.Lin.TheVariants.{Normal, Linear}
use Rattle.cap_words.specs.declared.CapFields.{CapFields}
use Rattle.cap_words.specs.declared.SealFields.{SealFields}
use Rattle.cap_words.specs.declared.Sealable.{Sealable}
use Rattle.cap_words.specs.declared.Sealable.TheVariants.{Mem as MemIn, Seal as SealIn}
use Rattle.cap_words.specs.declared.Word.{Word}
use Rattle.cap_words.specs.declared.Word.TheVariants.{Int, Mem, Seal, Sealed}
use Rattle.cap_words.specs.declared.bytes.cursor.FieldFault.{FieldFault}
use Rattle.cap_words.specs.declared.bytes.cursor.FieldFault.TheVariants.{BadField}
use Rattle.cap_words.specs.Faces.{perm_at}
use Rattle.readers.specs.Readers.{Reader, ◌>>=◌, done}
use Rattle.readers.specs.Places.{here}
use Rattle.cap_words.specs.Reading.{Input, meant, next_byte, next_number, next_signed, within}

abbrev pub perm_meant : ℕ → Option Perm
perm_meant n = perm_at (pos n)

abbrev pub lin_meant : ℕ → Option Lin
lin_meant n = slice_get (Normal ∷ Linear ∷ []) n

-- an address or a seal, not below a bound
abbrev pub next_in_space : ℕ → Reader Input FieldFault ℕ
next_in_space low = meant (within low LAST_PLACE) (next_number 4)

unfoldable pub next_cap : Reader Input FieldFault CapFields
next_cap = do
  perm ← meant perm_meant next_byte
  lin ← meant lin_meant next_byte
  base ← next_in_space 0
  end ← next_in_space base
  addr ← next_signed
  done (record { perm = perm; lin = lin; base = base; end = end; addr = addr })

unfoldable pub next_seal_cap : Reader Input FieldFault SealFields
next_seal_cap = do
  base ← next_in_space 0
  end ← next_in_space base
  cur ← next_signed
  done (record { base = base; end = end; cur = cur })

-- what a tag announces; `at` is the tag's place, where a tag that announces nothing is a bad field
unfoldable pub content_tagged : ℕ → ℕ → Reader Input FieldFault Sealable
content_tagged at tag =
    if tag == 1 then (next_cap >>= λ c. done (MemIn c))
    else if tag == 2 then (next_seal_cap >>= λ s. done (SealIn s))
    else λ i. Err (BadField at)

unfoldable pub next_content : Reader Input FieldFault Sealable
next_content = do
  at ← here
  tag ← next_byte
  content_tagged at tag

-- a capability that isn't sealed, as a word
abbrev pub as_word : Sealable → Word
as_word (MemIn c) = Mem c
as_word (SealIn s) = Seal s

unfoldable pub unsealed_tagged : ℕ → ℕ → Reader Input FieldFault Word
unsealed_tagged at tag =
    if tag == 0 then (next_signed >>= λ n. done (Int n))
    else content_tagged at tag >>= λ c. done (as_word c)

-- a word that isn't sealed
unfoldable pub next_unsealed : Reader Input FieldFault Word
next_unsealed = do
  at ← here
  tag ← next_byte
  unsealed_tagged at tag

unfoldable pub next_sealed : Reader Input FieldFault Word
next_sealed = do
  seal ← next_in_space 0
  content ← next_content
  done (Sealed seal content)

-- a word of any kind
unfoldable pub next_word : Reader Input FieldFault Word
next_word = do
  at ← here
  tag ← next_byte
  if tag == 3 then next_sealed else unsealed_tagged at tag
