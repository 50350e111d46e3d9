-- Which words are linear, and what a copy of a word is.
use Rattle.std.specs.Prelude.{pos, Bool, true, false, Option, Some, None, if◌then◌else◌}
use Rattle.cap_words.specs.declared.Lin.{Lin}
use Rattle.cap_words.specs.declared.Lin.TheVariants.{Normal, Linear}
use Rattle.cap_words.specs.declared.Word.{Word}
use Rattle.cap_words.specs.declared.Word.TheVariants.{Int, Mem, Seal, Sealed}
use Rattle.cap_words.specs.declared.Sealable.TheVariants.{Mem as MemIn, Seal as SealIn}

-- a linear capability exists once: it can be moved and not copied
abbrev pub lin_is : Lin → Bool
lin_is Normal = false
lin_is Linear = true

-- a memory capability is linear where it says so, and a sealed word where its content is
abbrev pub is_linear : Word → Bool
is_linear (Int n) = false
is_linear (Mem c) = lin_is c.lin
is_linear (Seal s) = false
is_linear (Sealed o (MemIn c)) = lin_is c.lin
is_linear (Sealed o (SealIn s)) = false

-- the copy of a word; a linear one has none
abbrev pub copied : Word → Option Word
copied w = if is_linear w then None else Some w

-- integer 0, as a word of any kind
abbrev pub zero_word : {W : Type 0} → (Word → W) → W
zero_word plain = plain (Int (pos 0))

-- what a place holds once its word was lifted: a linear word leaves integer 0, another stays
abbrev pub left_of : {W : Type 0} → (W → Word) → (Word → W) → W → W
left_of look plain w = if is_linear (look w) then zero_word plain else w
