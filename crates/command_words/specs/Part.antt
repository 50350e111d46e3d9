-- Part words and image words.
use Rattle.std.specs.Prelude.{List, [], ◌∷◌, nat_eq, nat_le, length, drop, codes, Option, Some, Bool, true}
use Rattle.std.specs.Prelude.{false, None, option_and_then, is_some, ◌&&◌, ◌||◌, not, if◌then◌else◌}
use Rattle.std.specs.List.{starts_with, ends_with}
use Rattle.command_words.specs.Texts.{Text}
use Rattle.command_words.specs.Name.{file_name_in}
use Rattle.command_words.specs.declared.TheConstants.{MOST_PARTS}
use Rattle.command_words.specs.declared.part.Mark.{Mark}
use Rattle.command_words.specs.declared.part.Mark.TheVariants.{Trusted, Untrusted}
use Rattle.command_words.specs.declared.part.Ending.{Ending}
use Rattle.command_words.specs.declared.part.Ending.TheVariants.{Source, Assembler, Component}
use Rattle.command_words.specs.declared.part.PartWord.{PartWord}
use Rattle.proc_language.specs.declared.dialect.Dialect.{Dialect}
use Rattle.proc_language.specs.declared.dialect.Dialect.TheVariants.{Plain, Tokens}

infixl 10 ◌>>=◌
abbrev pub ◌>>=◌ : {A B : Type 0} → Option A → (A → Option B) → Option B
x >>= f = option_and_then f x

-- a word's mark, and what follows it
unfoldable pub mark_in : Text → Option (Mark × Text)
mark_in word =
    if starts_with nat_eq word (codes "t:") then Some (Trusted, drop 2 word)
    else (if starts_with nat_eq word (codes "u:") then Some (Untrusted, drop 2 word) else None)

unfoldable pub ending_in : Text → Option Ending
ending_in name =
    if ends_with nat_eq name (codes ".prc") then Some (Source Plain)
    else (if ends_with nat_eq name (codes ".tok") then Some (Source Tokens)
    else (if ends_with nat_eq name (codes ".asm") then Some Assembler
    else (if ends_with nat_eq name (codes ".stc") then Some Component else None)))

-- the language of a source
abbrev pub dialect_of : Ending → Option Dialect
dialect_of (Source dialect) = Some dialect
dialect_of Assembler = None
dialect_of Component = None

abbrev pub has_tokens : Ending → Bool
has_tokens (Source Tokens) = true
has_tokens (Source Plain) = false
has_tokens Assembler = false
has_tokens Component = false

abbrev pub is_trusted_mark : Mark → Bool
is_trusted_mark Trusted = true
is_trusted_mark Untrusted = false

-- a source with tokens is trusted
abbrev pub may_be : Mark → Ending → Bool
may_be mark ending = is_trusted_mark mark || not (has_tokens ending)

-- `t:NAME` or `u:NAME`, where NAME is a file's name with one of the endings
unfoldable pub part_in : Text → Option PartWord
part_in word = do
  marked ← mark_in word
  ending ← ending_in marked.1
  name ← file_name_in marked.1
  if may_be marked.0 ending then Some (record { mark = marked.0; ending = ending; name = name }) else None

-- the part of each word, where each is a part word
unfoldable pub parts_in : List Text → Option (List PartWord)
parts_in [] = Some []
parts_in (word ∷ words) = do
  part ← part_in word
  parts ← parts_in words
  Some (part ∷ parts)

-- 1 to 16 part words
unfoldable pub some_parts_in : Option (List Text) → Option (List PartWord)
some_parts_in None = None
some_parts_in (Some words) =
    if nat_le 1 (length words) && nat_le (length words) MOST_PARTS then parts_in words else None

unfoldable pub one_part_in : Option (List Text) → Option PartWord
one_part_in (Some (word ∷ [])) = part_in word
one_part_in _ = None

-- the name of a file that ends in `.img`, with no mark before it
unfoldable pub image_in : Text → Option Text
image_in word =
    if is_some (mark_in word) then None
    else (if ends_with nat_eq word (codes ".img") then file_name_in word else None)

unfoldable pub one_image_in : Option (List Text) → Option Text
one_image_in (Some (word ∷ [])) = image_in word
one_image_in _ = None
