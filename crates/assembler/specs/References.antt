-- References to labels, and the words of code that wait for them.
use Rattle.std.specs.Prelude.{◌≡◌, ◌≢◌, ℕ, ◌+◌, ◌≤◌, ℤ, pos, ◌-ℤ◌, IsTrue, List, [], ◌∷◌, Option, Some, None}
use Rattle.std.specs.Prelude.{Result, Ok, Err, slice_get}
use Rattle.std.specs.List.{AllByRecursion}
use Rattle.cap_words.specs.declared.Word.{Word}
use Rattle.assembler.specs.declared.labels.Section.{Section}
use Rattle.assembler.specs.declared.labels.Section.TheVariants.{Code, Data}
use Rattle.assembler.specs.declared.labels.Label.{Label}
use Rattle.assembler.specs.declared.references.MissingLabel.{MissingLabel}
use Rattle.assembler.specs.declared.references.User.{User}
use Rattle.assembler.specs.declared.references.User.TheVariants.{Word as WordUser, Table}
use Rattle.assembler.specs.Labels.{offset_of}
use Rattle.assembler.specs.Patch.{has_immediate_at, code_patched}

-- a reference: the offset of the word of code that has it, if one does, its place in the text, and which
-- section's label it means by which name
pub record Reference : Type 0 where
  pub word : Option ℕ
  pub at : ℕ
  pub section : Section
  pub name : List ℕ

abbrev pub user_word : User → Option ℕ
user_word (WordUser fixup) = Some fixup.word
user_word (Table at) = None

abbrev pub user_place : User → ℕ
user_place (WordUser fixup) = fixup.label_at
user_place (Table at) = at

-- what the word at an offset gets from the label at an offset: how far a code label is from the word
-- before it, or where a data label stands
abbrev pub value_of : ℕ → Section → ℕ → ℤ
value_of word Code offset = pos (offset + 1) -ℤ pos word
value_of word Data offset = pos offset

abbrev pub word_resolved : Option ℕ → Section → ℕ → List Word → List Word
word_resolved (Some word) section offset code = code_patched code word (value_of word section offset)
word_resolved None section offset code = code

abbrev pub at_offset : Option ℕ → ℕ → (ℕ → Result (List Word) MissingLabel) → Result (List Word) MissingLabel
at_offset (Some offset) at f = f offset
at_offset None at f = Err (record { at = at })

-- the code in which each word has what it waits for, or the first reference whose label isn't there
unfoldable pub resolved : List (List ℕ × Label) → List Reference → List Word → Result (List Word) MissingLabel
resolved labels [] code = Ok code
resolved labels (r ∷ references) code =
    at_offset (offset_of r.section r.name labels) r.at
    (λ offset. resolved labels references (word_resolved r.word r.section offset code))

abbrev pub Resolves : Result (Unit {0}) MissingLabel → List Word → Result (List Word) MissingLabel → Type 0
Resolves (Ok x) code read = read ≡ Ok code
Resolves (Err e) code read = read ≡ Err e

-- an instruction with an immediate stands where a word waits
abbrev pub IsReady : List Word → Option ℕ → Type 0
IsReady code (Some word) = IsTrue (has_immediate_at code word)
IsReady code None = Unit {0}

-- the words that wait ascend from one on, and each is ready
abbrev pub behind : ℕ → Option ℕ → ℕ
behind low (Some word) = word + 1
behind low None = low

abbrev pub IsFrom : ℕ → Option ℕ → Type 0
IsFrom low (Some word) = low ≤ word
IsFrom low None = Unit {0}

abbrev pub AreReady : ℕ → List Word → List Reference → Type 0
AreReady low code [] = Unit {0}
AreReady low code (r ∷ references) =
    IsFrom low r.word × IsReady code r.word × AreReady (behind low r.word) code references

-- the word that waits has in the new code what its own reference gives it
abbrev pub WordHas : List Word → List Word → Option ℕ → Section → ℕ → Type 0
WordHas code new (Some word) section offset =
    slice_get new word ≡ slice_get (code_patched code word (value_of word section offset)) word
WordHas code new None section offset = Unit {0}

abbrev pub HasOwn : List (List ℕ × Label) → List Word → List Word → Reference → Type 0
HasOwn labels code new r =
    (offset : ℕ) × (offset_of r.section r.name labels ≡ Some offset)
    × WordHas code new r.word r.section offset

-- the word has no reference
abbrev pub WaitsForNone : ℕ → List Reference → Type 0
WaitsForNone word references = AllByRecursion (λ r. r.word ≢ Some word) references
