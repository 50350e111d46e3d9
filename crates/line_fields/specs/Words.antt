-- Words read of their texts: from the front as some word, which must then have this text.
use Rattle.std.specs.Prelude.{ℕ, ℤ, ◌≤◌, nat_le, Bool, List, codes, Option, Some, None, option_map, is_some}
use Rattle.std.specs.Str.{bytes_eq}
use Rattle.cap_words.specs.declared.TheConstants.{LAST_PLACE}
use Rattle.cap_words.specs.declared.CapFields.{CapFields}
use Rattle.cap_words.specs.declared.SealFields.{SealFields}
use Rattle.cap_words.specs.declared.Sealable.{Sealable}
use Rattle.cap_words.specs.declared.Sealable.TheVariants.{Mem as MemIn, Seal as SealIn}
use Rattle.cap_words.specs.declared.Word.{Word}
use Rattle.cap_words.specs.declared.Word.TheVariants.{Int, Mem, Seal, Sealed}
use Rattle.cap_words.specs.Text.{perm_named, lin_named, word_text_of}
use Rattle.cap_words.specs.WordBytes.{ContentFits, WordFits}
use Rattle.cap_words.specs.WordReading.{as_word}
use Rattle.line_fields.specs.declared.TheConstants.{LAST_NATURAL}
use Rattle.line_fields.specs.Options.{◌>>=◌, where_true}
use Rattle.line_fields.specs.Cuts.{cut, behind}
use Rattle.line_fields.specs.Numbers.{number_in, integer_in}

-- a word that has a text: one of a machine, but that any number of 32 bits does for the seal of a sealed word
abbrev pub HasText : Word → Type 0
HasText (Int n) = WordFits (Int n)
HasText (Mem c) = WordFits (Mem c)
HasText (Seal s) = WordFits (Seal s)
HasText (Sealed seal content) = (seal ≤ LAST_NATURAL) × ContentFits content

abbrev pub in_order : ℕ → ℕ → ℤ → Option SealFields
in_order base end at = where_true (nat_le base end) (record { base = base; end = end; cur = at })

-- BASE,END,AT)
unfoldable pub range_in : List ℕ → Option SealFields
range_in text = do
  base ← cut 44 text
  low ← number_in LAST_PLACE base.0
  end ← cut 44 base.1
  high ← number_in LAST_PLACE end.0
  at ← cut 41 end.1
  place ← integer_in at.0
  in_order low high place

-- PERM,LIN,BASE,END,ADDR)
unfoldable pub cap_in : List ℕ → Option CapFields
cap_in text = do
  perm ← cut 44 text
  allows ← perm_named perm.0
  lin ← cut 44 perm.1
  copies ← lin_named lin.0
  range ← range_in lin.1
  Some (record { perm = allows; lin = copies; base = range.base; end = range.end; addr = range.cur })

abbrev pub seals_behind : Option (List ℕ) → Option Sealable
seals_behind None = None
seals_behind (Some text) = option_map SealIn (range_in text)

abbrev pub content_behind : List ℕ → Option (List ℕ) → Option Sealable
content_behind text None = seals_behind (behind (codes "seal(") text)
content_behind text (Some rest) = option_map MemIn (cap_in rest)

unfoldable pub content_in : List ℕ → Option Sealable
content_in text = content_behind text (behind (codes "cap(") text)

-- SEAL,CONTENT
unfoldable pub sealed_in : List ℕ → Option Word
sealed_in text = do
  seal ← cut 44 text
  number ← number_in LAST_NATURAL seal.0
  content ← content_in seal.1
  Some (Sealed number content)

abbrev pub unsealed_or : List ℕ → Option ℤ → Option Word
unsealed_or text (Some n) = Some (Int n)
unsealed_or text None = option_map as_word (content_in text)

abbrev pub word_behind : List ℕ → Option (List ℕ) → Option Word
word_behind text None = unsealed_or text (integer_in text)
word_behind text (Some rest) = sealed_in rest

-- the one word that the text may be that of
unfoldable pub candidate_in : List ℕ → Option Word
candidate_in text = word_behind text (behind (codes "sealed(") text)

abbrev pub where_text : List ℕ → Option Word → Option Word
where_text text None = None
where_text text (Some w) = where_true (bytes_eq (word_text_of w) text) w

-- the word that the text is that of
unfoldable pub word_in : List ℕ → Option Word
word_in text = where_text text (candidate_in text)

abbrev pub is_word : List ℕ → Bool
is_word text = is_some (word_in text)
