-- What the lines of a text have made so far.
use Rattle.std.specs.Prelude.{false, ℕ, ◌==◌, nat_lt, Bool, true, not, List, [], ◌∷◌, ◌++◌, length, pos}
use Rattle.std.specs.Prelude.{Option, Some, None}
use Rattle.cap_words.specs.declared.Word.{Word}
use Rattle.cap_words.specs.declared.Word.TheVariants.{Int}
use Rattle.lcm_isa.specs.declared.Instr.{Instr}
use Rattle.lcm_isa.specs.Numbers.{number_of}
use Rattle.component_file.specs.declared.TheConstants.{MOST_WORDS}
use Rattle.assembler.specs.declared.labels.Section.{Section}
use Rattle.assembler.specs.declared.labels.Section.TheVariants.{Code, Data}
use Rattle.assembler.specs.declared.labels.Label.{Label}
use Rattle.assembler.specs.References.{Reference}
use Rattle.asm_fields.specs.declared.directives.ItemKind.{ItemKind}
use Rattle.asm_fields.specs.Instrs.{Last, Plain, Code as CodeLabel, Data as DataLabel}
use Rattle.assembler.specs.declared.header.TextHeader.{TextHeader}
use Rattle.assembler.specs.Order.{section_of}
use Rattle.assembler.specs.Tables.{Tables, no_tables}

-- the last item, what the single items said, the labels and the references to them in the order of the text,
-- the words, and the tables
pub record Draft : Type 0 where
  pub last : Option ItemKind
  pub header : TextHeader
  pub labels : List (List ℕ × Label)
  pub references : List Reference
  pub code : List Word
  pub data_words : List Word
  pub tables : Tables

abbrev pub no_header : TextHeader
no_header = record {
  name = [];
  stack_base = 0;
  closure = 0;
  movable = false;
  seals = record { base = 0; count = 0 };
  linear = record { base = 0; count = 0 };
  code_base = 0;
  data_base = 0;
}

-- before the first line
abbrev pub nothing : Draft
nothing = record {
  last = None;
  header = no_header;
  labels = [];
  references = [];
  code = [];
  data_words = [];
  tables = no_tables;
}

abbrev pub with_header : TextHeader → Draft → Draft
with_header h d = record d { header = h }

abbrev pub with_tables : Tables → Draft → Draft
with_tables t d = record d { tables = t }

-- ---- sections

abbrev pub words_in : Section → Draft → List Word
words_in Code d = d.code
words_in Data d = d.data_words

-- one more word may stand in the section
abbrev pub has_word_room : Section → Draft → Bool
has_word_room section d = nat_lt (length (words_in section d)) MOST_WORDS

abbrev pub with_word : Section → Word → Draft → Draft
with_word Code w d = record d { code = d.code ++ w ∷ [] }
with_word Data w d = record d { data_words = d.data_words ++ w ∷ [] }

-- a section without words can't end; where no section is, nothing has to
abbrev pub may_end_in : Option Section → Draft → Bool
may_end_in None d = true
may_end_in (Some section) d = not (length (words_in section d) == 0)

abbrev pub may_end : Draft → Bool
may_end d = may_end_in (section_of d.last) d

-- ---- labels

-- a label stands before the next word of its section
abbrev pub with_label : List ℕ → Section → Draft → Draft
with_label name section d = record d {
  labels = d.labels ++ (name, record { section = section; offset = length (words_in section d) }) ∷ [];
}

-- the reference that the last operand of an instruction makes, which stands at an offset of the code
abbrev pub reference_of : ℕ → Last → List Reference
reference_of word (Plain o) = []
reference_of word (CodeLabel at name) = record { word = Some word; at = at; section = Code; name = name } ∷ []
reference_of word (DataLabel at name) = record { word = Some word; at = at; section = Data; name = name } ∷ []

abbrev pub with_instr : Instr → Last → Draft → Draft
with_instr i n d = record d {
  code = d.code ++ Int (pos (number_of i)) ∷ [];
  references = d.references ++ reference_of (length d.code) n;
}
