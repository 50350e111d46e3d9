-- One line of a text, where the lines before it have made a draft.
use Rattle.std.specs.Prelude.{ℕ, Bool, true, false, not, ◌&&◌, if◌then◌else◌, Option, Some}
use Rattle.std.specs.Prelude.{is_some, Result, Ok}
use Rattle.assembler.specs.declared.labels.Section.{Section as SectionOf}
use Rattle.assembler.specs.declared.labels.Section.TheVariants.{Code}
use Rattle.assembler.specs.Labels.{label_of}
use Rattle.asm_fields.specs.declared.fault.AsmFault.{AsmFault}
use Rattle.asm_fields.specs.declared.fault.AsmFault.TheVariants.{Unknown, Operand, LabelTwice, Section}
use Rattle.asm_fields.specs.declared.directives.ItemKind.{ItemKind}
use Rattle.asm_fields.specs.declared.directives.WordKind.{WordKind}
use Rattle.asm_fields.specs.declared.directives.Directive.{Directive}
use Rattle.asm_fields.specs.declared.directives.Directive.TheVariants.{Of, Word}
use Rattle.readers.specs.Answers.{AnswersAs}
use Rattle.asm_fields.specs.Fault.{is_refusal}
use Rattle.readers.specs.Readers.{Reader, ◌>>=◌, done, unless_none, holds}
use Rattle.asm_fields.specs.Fields.{Input, place, kind_next, is_name_token, is_labelled, is_empty, name_or}
use Rattle.asm_fields.specs.Fields.{name_at, proper_name_at, sign_at, dot, colon, end_at}
use Rattle.asm_fields.specs.Directives.{directive_named}
use Rattle.asm_fields.specs.Words.{word_line}
use Rattle.asm_fields.specs.Instrs.{row_named, shape_of, operands_at}
use Rattle.assembler.specs.Order.{may_follow, section_of}
use Rattle.assembler.specs.Tables.{has_room}
use Rattle.assembler.specs.Draft.{Draft, has_word_room, with_word, may_end, with_label, with_instr}
use Rattle.assembler.specs.Operands.{operands_in}

-- ---- labels

-- a label and its colon, in code or data, of a name that no label has yet; a word must follow it. Outside
-- code and data its name isn't looked at; else of two faults at one place the one of the lower number is told
unfoldable pub label_in : Draft → Reader Input AsmFault Draft
label_in d = do
  at ← place
  name ← proper_name_at
  _ ← sign_at colon
  section ← unless_none (Section at) (section_of d.last)
  _ ← holds (not (is_some (label_of name d.labels))) (LabelTwice at)
  _ ← holds (has_word_room section d) (Section at)
  end ← place
  none ← λ i. Ok (is_empty i, i)
  _ ← holds (not none) (Operand end)
  done (with_label name section d)

abbrev pub label_if : Bool → Draft → Reader Input AsmFault Draft
label_if labelled d = if labelled then label_in d else done d

-- ---- words

abbrev pub is_code : Option SectionOf → Bool
is_code (Some Code) = true
is_code _ = false

-- an instruction, which stands in the code alone
unfoldable pub instr_in : Draft → Reader Input AsmFault Draft
instr_in d = do
  at ← place
  name ← name_at
  row ← unless_none (Unknown at) (row_named name)
  _ ← holds (is_code (section_of d.last) && has_word_room Code d) (Section at)
  x ← operands_at at name (shape_of row)
  done (with_instr x.0 x.1 d)

-- a word that a directive writes, which stands at this place
unfoldable pub word_in : ℕ → WordKind → Draft → Reader Input AsmFault Draft
word_in at kind d = do
  section ← unless_none (Section at) (section_of d.last)
  _ ← holds (has_word_room section d) (Section at)
  word ← word_line kind
  done (with_word section word d)

-- ---- items

-- the item may stand here: it has no label, follows rightly, ends no section without words, and isn't past
-- the count of its kind
abbrev pub may_stand : Bool → ItemKind → Draft → Bool
may_stand labelled item d = not labelled && may_follow d.last item && may_end d && has_room item d.tables

-- an item that stands at this place
unfoldable pub item_in : ℕ → Bool → ItemKind → Draft → Reader Input AsmFault Draft
item_in at labelled item d = do
  _ ← holds (may_stand labelled item d) (Section at)
  new ← operands_in at item (record d { last = Some item })
  _ ← end_at
  done new

-- a `.` and the name of a directive; what begins a line, after its label, and is neither that nor the name
-- of an instruction is unknown
unfoldable pub directive_from : ℕ → Reader Input AsmFault Directive
directive_from at = do
  dotted ← sign_at dot
  _ ← holds dotted (Unknown at)
  name ← name_or (Unknown at)
  unless_none (Unknown at) (directive_named name)

abbrev pub directed : ℕ → Bool → Directive → Draft → Reader Input AsmFault Draft
directed at labelled (Word kind) d = word_in at kind d
directed at labelled (Of item) d = item_in at labelled item d

unfoldable pub directive_in : Bool → Draft → Reader Input AsmFault Draft
directive_in labelled d = do
  at ← place
  directive ← directive_from at
  directed at labelled directive d

-- ---- lines

unfoldable pub behind_label : Bool → Draft → Reader Input AsmFault Draft
behind_label labelled d i =
    (if is_name_token (kind_next i.rest) then instr_in d else directive_in labelled d) i

-- a line that isn't empty
unfoldable pub line_in : Draft → Reader Input AsmFault Draft
line_in d i = (label_if (is_labelled i) d >>= behind_label (is_labelled i)) i

-- ---- what a call answers

-- the value that is read, the new draft, and what is left of the line, unless memory was refused
abbrev pub MakesAs : {A : Type 0}
    → Result A AsmFault → Draft → Input → Result ((A × Draft) × Input) AsmFault → Type 0
MakesAs answer new left read = AnswersAs is_refusal (λ x. ((x, new), left)) answer read

abbrev pub MakesDraft : Result (Unit {0}) AsmFault → Draft → Input → Result (Draft × Input) AsmFault → Type 0
MakesDraft answer new left read = AnswersAs is_refusal (λ x. (new, left)) answer read
