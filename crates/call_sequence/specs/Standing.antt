-- Whether sequences stand in a component's code.
use Rattle.std.specs.Prelude.{◌≡◌, ℕ, ◌+◌, nat_le, ℤ, pos, List, [], ◌∷◌, length, slice_index, slice_get}
use Rattle.std.specs.Prelude.{Bool, false, not, ◌&&◌, Option, Some, None, is_some, if◌then◌else◌}
use Rattle.std.specs.Option.{option_or}
use Rattle.std.specs.Ordering.{int_eq}
use Rattle.cap_words.specs.declared.Word.{Word}
use Rattle.cap_words.specs.declared.Word.TheVariants.{Int}
use Rattle.lcm_isa.specs.declared.Instr.{Instr}
use Rattle.lcm_isa.specs.Numbers.{number_of}
use Rattle.component_file.specs.declared.component.ComponentFields.{ComponentFields}
use Rattle.call_sequence.specs.declared.TheConstants.{CALL_WORDS, SITE_WORDS, ENTRY_WORDS}
use Rattle.call_sequence.specs.Sequences.{call_code, return_code, entry_code, numbers}

abbrev pub is_int : Option Word → ℤ → Bool
is_int (Some (Int n)) z = int_eq n z
is_int (Some _) z = false
is_int None z = false

-- the first word from an offset on that isn't the one of the list
abbrev pub difference : List Word → ℕ → List ℤ → Option ℕ
difference words at [] = None
difference words at (z ∷ zs) = if is_int (slice_get words at) z then difference words (at + 1) zs else Some at

-- the same, for code
abbrev pub code_difference : List Word → ℕ → List Instr → Option ℕ
code_difference words at code = difference words at (numbers code)

-- of a site, with the offsets of the `fail` and of the literal: first the call, then the return
unfoldable pub sequence_difference : ComponentFields → ℕ → ℕ → ℕ → Option ℕ
sequence_difference c index fail literal =
    let at = slice_index c.sites index in
    option_or
    (code_difference c.code at (call_code literal at index))
    (code_difference c.code (at + CALL_WORDS) (return_code fail (at + CALL_WORDS) c.stack_base))

-- without these offsets it differs from its first word on
abbrev pub site_difference : ComponentFields → ℕ → Option ℕ
site_difference c index = by_offsets c.fail_at c.literal_at
  where
    by_offsets : Option ℕ → Option ℕ → Option ℕ
    by_offsets (Some fail) (Some literal) = sequence_difference c index fail literal
    by_offsets (Some fail) None = Some (slice_index c.sites index)
    by_offsets None literal = Some (slice_index c.sites index)

-- the words of a call and a return stand at a site
unfoldable pub is_site : ComponentFields → ℕ → Bool
is_site c index =
    nat_le (slice_index c.sites index + SITE_WORDS) (length c.code) && not (is_some (site_difference c index))

-- the words of an entry stand at an offset
unfoldable pub is_entry : ComponentFields → ℕ → Bool
is_entry c at = by_fail c.fail_at
  where
    by_fail : Option ℕ → Bool
    by_fail (Some fail) =
        nat_le (at + ENTRY_WORDS) (length c.code)
        && not (is_some (code_difference c.code at (entry_code fail at c.stack_base)))
    by_fail None = false

-- these instructions stand as words from an offset on
abbrev pub CodeStands : List Word → ℕ → List Instr → Type 0
CodeStands words at code =
    (k : ℕ) (i : Instr) → slice_get code k ≡ Some i
    → slice_get words (at + k) ≡ Some (Int (pos (number_of i)))

-- a call and a return stand at a site
pub record SiteStands (c : ComponentFields) (index : ℕ) : Type 0 where
  pub fail : ℕ
  pub literal : ℕ
  pub fail_is : c.fail_at ≡ Some fail
  pub literal_is : c.literal_at ≡ Some literal
  pub call : CodeStands c.code (slice_index c.sites index)
      (call_code literal (slice_index c.sites index) index)
  pub back : CodeStands c.code (slice_index c.sites index + CALL_WORDS)
      (return_code fail (slice_index c.sites index + CALL_WORDS) c.stack_base)

-- an entry stands at an offset
pub record EntryStands (c : ComponentFields) (at : ℕ) : Type 0 where
  pub fail : ℕ
  pub fail_is : c.fail_at ≡ Some fail
  pub entry : CodeStands c.code at (entry_code fail at c.stack_base)
