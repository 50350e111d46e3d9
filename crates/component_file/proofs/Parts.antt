-- A component is read as its parts, one after another, and written so.
use Rattle.std.proofs.Common.{◌≡◌, ◌∙◌, refl, sym, ap, ℕ, List, ◌++◌, append_assoc, Result, Ok, Err}
use Rattle.std.specs.List.{concat}
use Rattle.std.proofs.lemmas.List.Folds.{concat-append}
use Rattle.readers.specs.Readers.{Reader, goes_on}
use Rattle.readers.specs.Places.{finished}
use Rattle.cap_words.specs.Reading.{Input}
use Rattle.component_file.specs.declared.TheConstants.{MOST_IMPORTS, MOST_EXPORTS, MOST_SITES, MOST_ROWS}
use Rattle.component_file.specs.declared.fault.FileFault.TheVariants.{Trailing}
use Rattle.component_file.specs.Reading.{field, next_header, next_name, next_address, next_stretch}
use Rattle.component_file.specs.Reading.{next_words, next_list, next_import, next_export, next_site}
use Rattle.component_file.specs.Reading.{next_optional, next_row, next_component, decoded}
use Rattle.component_file.specs.Parts.{next_head, next_memory, next_calls, next_declared, next_parts}
use Rattle.component_file.specs.Parts.{head_pieces, memory_pieces, calls_pieces, declared_pieces}
use Rattle.component_file.specs.Spelling.{spelling}
use Rattle.component_file.specs.declared.component.ComponentFields.{ComponentFields}

-- one reading in a part, and then what the rest of the part and of the whole is
within : {I F A B C : Type 0} (r : Result (A × I) F) (f : A → Reader I F B) (g : B → Reader I F C)
    {h : A → Reader I F C} → ((x : A) (i : I) → goes_on (f x i) g ≡ h x i)
    → goes_on (goes_on r f) g ≡ goes_on r h
within (Ok x) f g e = e x.0 x.1
within (Err d) f g e = refl

all_parts : (i : Input) → next_component i ≡ next_parts i
unfolding next_component next_parts next_head next_memory next_calls next_declared
all_parts i = sym (
    within (next_header i) _ _ (λ movable i.
    within (field next_name i) _ _ (λ name i.
    within (field next_address i) _ _ (λ stack_base i.
    within (field next_address i) _ _ (λ closure i.
    within (field next_stretch i) _ _ (λ seals i.
    within (field next_stretch i) _ _ (λ linear i.
    within (field next_address i) _ _ (λ code_base i.
    within (next_words i) _ _ (λ code i.
    within (field next_address i) _ _ (λ data_base i.
    within (next_words i) _ _ (λ data_words i.
    within (next_list 2 0 MOST_IMPORTS next_import i) _ _ (λ imports i.
    within (next_list 2 0 MOST_EXPORTS next_export i) _ _ (λ exports i.
    within (next_list 2 0 MOST_SITES next_site i) _ _ (λ sites i.
    within (field next_optional i) _ _ (λ fail_at i.
    within (field next_optional i) _ _ (λ literal_at i.
    within (next_list 4 0 MOST_ROWS next_row i) _ _ (λ rows i. refl)))))))))))))))))

pub decoded_parts : (bytes : List ℕ)
    → decoded bytes ≡ finished Trailing (next_parts (record { at = 0; rest = bytes }))
unfolding decoded
decoded_parts bytes = ap (finished Trailing) (all_parts (record { at = 0; rest = bytes }))

-- pieces in four parts
four_parts : (a b c d : List (List ℕ))
    → ((concat a ++ concat b) ++ concat c) ++ concat d ≡ concat (a ++ (b ++ (c ++ d)))
four_parts a b c d =
    append_assoc (concat a ++ concat b) (concat c) (concat d)
    ∙ append_assoc (concat a) (concat b) (concat c ++ concat d)
    ∙ ap (λ l. concat a ++ (concat b ++ l)) (sym (concat-append c d))
    ∙ ap (λ l. concat a ++ l) (sym (concat-append b (c ++ d)))
    ∙ sym (concat-append a (b ++ (c ++ d)))

pub all_pieces : (c : ComponentFields)
    → ((concat (head_pieces c) ++ concat (memory_pieces c)) ++ concat (calls_pieces c))
    ++ concat (declared_pieces c) ≡ spelling c
unfolding spelling head_pieces memory_pieces calls_pieces declared_pieces
all_pieces c = four_parts (head_pieces c) (memory_pieces c) (calls_pieces c) (declared_pieces c)
