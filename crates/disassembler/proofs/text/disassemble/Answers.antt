use Rattle.std.proofs.Common.{◌≡◌, ℕ, ◌<◌, ◌^◌, length, Ok, subst, List}
use Rattle.disassembler.specs.Disassembled.{disassembled}
use Rattle.component_file.specs.declared.component.ComponentFields.{ComponentFields}
use Rattle.component_file.specs.Limits.{IsComponent}
use Rattle.assembler.specs.Assembled.{assembled}
use Rattle.disassembler.proofs.Parts.{all_lines}
use Rattle.disassembler.proofs.Whole.{assembled_again, text_length}
use Rattle.disassembler.proofs.text.disassemble.Goals as goal

-- the fields of the component, and the parts from the last to the first
pub returns-clause-text : goal.returns-clause-text
returns-clause-text c = rw (← c.fields-fields.ensures.same)
    (rw (
      c.in_ok-push_tables.ensures,
      c.in_ok-push_memory.ensures,
      c.in_ok-push_head.ensures,
      c.new-text.ensures.items,
    ) (all_lines c.fields-fields.result.now))

-- what is written from a component
written : (text : List ℕ) (c d : ComponentFields) → text ≡ disassembled d → c ≡ d → IsComponent c
    → assembled text ≡ Ok d
written text c d is same fits = rw is (assembled_again d (subst IsComponent same fits))

few : (text : List ℕ) (c d : ComponentFields) → text ≡ disassembled d → c ≡ d → IsComponent c
    → length text < 2 ^ 32
few text c d is same fits = rw is (text_length d (subst IsComponent same fits))

pub returns-clause-again : goal.returns-clause-again
returns-clause-again c =
    written _ _ c.args.c.now (returns-clause-text c)
    c.fields-fields.ensures.same c.fields-fields.ensures.within_limits

pub returns-clause-short : goal.returns-clause-short
returns-clause-short c =
    few _ _ c.args.c.now (returns-clause-text c)
    c.fields-fields.ensures.same c.fields-fields.ensures.within_limits
