-- The code of parts in the cells of a machine, and what stands in that of trusted ones.
use Rattle.std.specs.Prelude.{◌≡◌, ℕ, ◌+◌, ◌-◌, true, pos, List, [], ◌∷◌, slice_get, Some}
use Rattle.std.specs.List.{Contains}
use Rattle.cap_words.specs.declared.Word.{Word}
use Rattle.cap_words.specs.declared.Word.TheVariants.{Seal}
use Rattle.cap_words.specs.declared.SealFields.{SealFields}
use Rattle.lcm_isa.specs.declared.Instr.{Instr}
use Rattle.lcm_isa.specs.declared.Instr.TheVariants.{Fail}
use Rattle.lcm_machine.specs.Cells.{cell}
use Rattle.lcm_machine.specs.Maps.{State}
use Rattle.lcm_machine.specs.Runs.{Stands}
use Rattle.component_file.specs.declared.component.ComponentFields.{ComponentFields}
use Rattle.component_file.specs.declared.component.Export.{Export}
use Rattle.call_sequence.specs.declared.TheConstants.{CALL_WORDS}
use Rattle.call_sequence.specs.Sequences.{call_code, return_code, entry_code}
use Rattle.linked_starts.specs.Parts.{PartSeen}

-- the code words of each part stand from its code base on
abbrev pub CodeInCells : List PartSeen → State Word → Type 0
CodeInCells parts s =
    (k o : ℕ) (p : PartSeen) (w : Word) → slice_get parts k ≡ Some p → slice_get p.component.code o ≡ Some w
    → cell s.cells (p.component.code_base + o) ≡ Some w

-- these instructions stand in a part's code, from an offset on
abbrev pub StandsIn : State Word → ComponentFields → ℕ → List Instr → Type 0
StandsIn s c at code = Stands (λ w. w) s.cells (c.code_base + at) code

-- the seal capability over all seals of a part, at the first of them
abbrev pub all_seals : ComponentFields → SealFields
all_seals c = record { base = c.seals.base; end = c.seals.base + c.seals.count - 1; cur = pos c.seals.base }

-- at a site stand a call and its return, and at the literal, from which the call loads it, the capability
-- over the part's seals
pub record SiteInCells (s : State Word) (c : ComponentFields) (fail index offset : ℕ) : Type 0 where
  pub literal : ℕ
  pub literal_is : c.literal_at ≡ Some literal
  pub seals : cell s.cells (c.code_base + literal) ≡ Some (Seal (all_seals c))
  pub call : StandsIn s c offset (call_code literal offset index)
  pub back : StandsIn s c (offset + CALL_WORDS) (return_code fail (offset + CALL_WORDS) c.stack_base)

-- in the code of a trusted part stand the instruction `fail`, its entries and its sites
pub record TrustedCode (s : State Word) (c : ComponentFields) : Type 0 where
  pub fail : ℕ
  pub fail_is : c.fail_at ≡ Some fail
  pub fails : StandsIn s c fail (Fail ∷ [])
  pub entries : (e : Export) → Contains c.exports e
      → StandsIn s c e.offset (entry_code fail e.offset c.stack_base)
  pub sites : (index offset : ℕ) → slice_get c.sites index ≡ Some offset → SiteInCells s c fail index offset

-- the same, of all trusted ones
abbrev pub TrustedInCells : List PartSeen → State Word → Type 0
TrustedInCells parts s =
    (k : ℕ) (p : PartSeen) → slice_get parts k ≡ Some p → p.trusted ≡ true → TrustedCode s p.component
