-- The operands of items.
use Rattle.std.specs.Prelude.{ℕ, Bool, if◌then◌else◌, List}
use Rattle.cap_words.specs.declared.TheConstants.{LAST_PLACE, LONGEST_STRETCH}
use Rattle.component_file.specs.declared.TheConstants.{LAST_OFFSET}
use Rattle.component_file.specs.declared.component.Area.{Area}
use Rattle.component_file.specs.declared.component.Kind.{Kind}
use Rattle.component_file.specs.declared.component.Kind.TheVariants as kind
use Rattle.asm_fields.specs.declared.fault.AsmFault.{AsmFault}
use Rattle.asm_fields.specs.declared.operands.Offset.{Offset as OffsetInCode}
use Rattle.asm_fields.specs.declared.operands.Offset.TheVariants as offset_in_code
use Rattle.asm_fields.specs.declared.operands.KindField.{KindField as KindInCode}
use Rattle.asm_fields.specs.declared.operands.KindField.TheVariants as kind_in_code
use Rattle.readers.specs.Readers.{Reader, ◌>>=◌, done}
use Rattle.asm_fields.specs.Fields.{Input, place, kind_next, is_name_token, meant, proper_name_at, natural_at}
use Rattle.asm_fields.specs.Names.{kind_named, shared_named}

-- an address, or a seal
abbrev pub address_at : Reader Input AsmFault ℕ
address_at = natural_at 0 LAST_PLACE

-- BASE COUNT, at least one
unfoldable pub stretch_at : Reader Input AsmFault Area
stretch_at = do
  base ← address_at
  count ← natural_at 1 LONGEST_STRETCH
  done (record { base = base; count = count })

-- an offset in code or data: a number, or a label with its place
pub data Offset : Type 0 where
  Number : ℕ → Offset
  Label : ℕ → List ℕ → Offset

abbrev pub offset_seen : OffsetInCode → Offset
offset_seen (offset_in_code.Number n) = Number n
offset_seen (offset_in_code.Label at name) = Label at name.now

abbrev pub label_at : Reader Input AsmFault Offset
label_at = do
  at ← place
  name ← proper_name_at
  done (Label at name)

unfoldable pub offset_at : Reader Input AsmFault Offset
offset_at i =
    (if is_name_token (kind_next i.rest) then label_at
    else (natural_at 0 LAST_OFFSET >>= λ n. done (Number n))) i

-- `shared` or `own`
abbrev pub shared_at : Reader Input AsmFault Bool
shared_at = meant shared_named

-- what a register holds: a kind, or `pc OFF`
pub data KindField : Type 0 where
  Plain : Kind → KindField
  Pc : Offset → KindField

abbrev pub kind_seen : KindInCode → KindField
kind_seen (kind_in_code.Plain k) = Plain k
kind_seen (kind_in_code.Pc o) = Pc (offset_seen o)

abbrev pub kind_behind : Kind → Reader Input AsmFault KindField
kind_behind (kind.Pc offset) = offset_at >>= λ o. done (Pc o)
kind_behind k = done (Plain k)

unfoldable pub kind_at : Reader Input AsmFault KindField
kind_at = do
  k ← meant kind_named
  kind_behind k
