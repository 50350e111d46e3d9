-- The text of a component is its parts, one after another.
use Rattle.std.proofs.Common.{◌≡◌, ◌∙◌, sym, ap, ◌++◌, append_assoc}
use Rattle.std.specs.List.{concat}
use Rattle.std.proofs.lemmas.List.Folds.{concat-append}
use Rattle.component_file.specs.declared.component.ComponentFields.{ComponentFields}
use Rattle.disassembler.specs.Disassembled.{disassembled}
use Rattle.disassembler.specs.Parts.{head_lines, memory_lines, table_lines}

pub all_lines : (c : ComponentFields)
    → (concat (head_lines c) ++ concat (memory_lines c)) ++ concat (table_lines c) ≡ disassembled c
unfolding disassembled head_lines memory_lines table_lines
all_lines c =
    append_assoc (concat (head_lines c)) (concat (memory_lines c)) (concat (table_lines c))
    ∙ ap (λ l. concat (head_lines c) ++ l) (sym (concat-append (memory_lines c) (table_lines c)))
    ∙ sym (concat-append (head_lines c) (memory_lines c ++ table_lines c))
