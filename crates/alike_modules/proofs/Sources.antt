-- The text of a module is a source of a module that is alike, and of the same component.
use Rattle.std.proofs.Common.{◌≡◌, sym, ◌∙◌, ap, ℕ, ◌||◌, List, [], Result, Ok, Err, if◌then◌else◌}
use Rattle.std.specs.Prelude.{nat_lt}
use Rattle.readers.specs.Readers.{told_by}
use Rattle.readers.specs.Results.{◌>>=◌}
use Rattle.component_file.specs.declared.TheConstants.{MOST_WORDS}
use Rattle.component_file.specs.declared.component.ComponentFields.{ComponentFields}
use Rattle.proc_language.specs.declared.module.ModuleFields.{ModuleFields}
use Rattle.proc_language.specs.Limits.{IsModule}
use Rattle.proc_language.specs.Unplaced.{IsAlike}
use Rattle.proc_names.specs.Calls.{module_calls}
use Rattle.proc_names.specs.Faults.{first}
use Rattle.proc_names.specs.NameFaults.{name_faults, none_or, resolved}
use Rattle.proc_parse.specs.Text.{parsed_text}
use Rattle.proc_print.specs.Printed.{printed}
use Rattle.proc_program.specs.declared.program.Program.{Program}
use Rattle.proc_templates.specs.Compiled.{code_words, data_count, component_of}
use Rattle.proc_compiler.specs.declared.fault.CompileFault.{CompileFault}
use Rattle.proc_compiler.specs.declared.fault.CompileFault.TheVariants.{TooLarge, SealsShort}
use Rattle.proc_sources.specs.declared.fault.SourceFault.TheVariants.{Text, Name, Size}
use Rattle.proc_language.specs.declared.dialect.Dialect.TheVariants.{Plain}
use Rattle.proc_sources.specs.Sources.{compile_answer, plain_in, module_in, sourced}
use Rattle.alike_modules.specs.Reprint.{ReadAgain}
use Rattle.alike_modules.specs.Alike.{IsParsedBack, IsSourceOf}
use Rattle.alike_modules.proofs.Counts.{module_calls_alike}
use Rattle.alike_modules.proofs.Programs.{same_program}
use Rattle.alike_modules.proofs.Faults.{same_names}

-- ---- components

abbrev answer_with : Program → ℕ → ℕ → Result ComponentFields CompileFault
answer_with p seals calls =
    if nat_lt MOST_WORDS (code_words p) || nat_lt MOST_WORDS (data_count p) then Err TooLarge
    else (if nat_lt seals calls then Err SealsShort else Ok (component_of p))

same_calls : (a b : ModuleFields) → IsAlike a b → module_calls a ≡ module_calls b
same_calls a b h = sym (module_calls_alike a) ∙ ap module_calls h ∙ module_calls_alike b

pub same_component : (a b : ModuleFields) → IsAlike a b → compile_answer a ≡ compile_answer b
unfolding compile_answer
same_component a b h = λ i. answer_with (same_program a b h i) ((h i).return_count) (same_calls a b h i)

-- ---- sources

resolves : (m : ModuleFields) → name_faults m ≡ [] → resolved m ≡ Ok tt
resolves m e = ap (λ fs. none_or (first fs)) e

is_module_in : (text : List ℕ) (x : ModuleFields) → parsed_text text ≡ Ok x → resolved x ≡ Ok tt
    → module_in Plain text ≡ Ok x
unfolding plain_in
is_module_in text x e d =
    ap (λ r. told_by Text r >>= (λ m. told_by Name (resolved m) >>= (λ u. Ok m))) e
    ∙ ap (λ r. told_by Name r >>= (λ u. Ok x)) d

is_sourced : (text : List ℕ) (x : ModuleFields) → module_in Plain text ≡ Ok x
    → sourced Plain text ≡ told_by Size (compile_answer x)
unfolding sourced
is_sourced text x e = ap (λ r. r >>= (λ m. told_by Size (compile_answer m))) e

pub is_source : (m : ModuleFields) → ReadAgain m → IsModule m → name_faults m ≡ [] → IsParsedBack m
    → IsSourceOf (printed m) m
is_source m again limits fine back =
    let (x, read, alike) = again limits back.short back.shallow in
    let is = is_module_in (printed m) x read (resolves x (same_names m x (sym alike) fine)) in
    record {
      again = x;
      spelled = is;
      alike = alike;
      compiled = is_sourced (printed m) x is ∙ ap (told_by Size) (same_component x m alike);
    }
