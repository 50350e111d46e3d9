-- Sources: the module of a text, and its component; or the first fault, of the text, of its names, of its
-- tokens, or of the size of what it compiles to.
use Rattle.std.specs.Prelude.{ℕ, nat_lt, Bool, true, false, ◌||◌, List, Result, Ok, Err, if◌then◌else◌}
use Rattle.readers.specs.Readers.{told_by}
use Rattle.readers.specs.Results.{◌>>=◌}
use Rattle.component_file.specs.declared.component.ComponentFields.{ComponentFields}
use Rattle.component_file.specs.declared.TheConstants.{MOST_WORDS}
use Rattle.proc_language.specs.declared.module.ModuleFields.{ModuleFields}
use Rattle.proc_grammar.specs.declared.fault.ParseFault.{ParseFault}
use Rattle.proc_grammar.specs.declared.fault.ParseFault.TheVariants as parse
use Rattle.proc_parse.specs.Text.{parsed_text}
use Rattle.proc_names.specs.NameFaults.{resolved}
use Rattle.proc_names.specs.Calls.{module_calls}
use Rattle.proc_program.specs.Lower.{part_of}
use Rattle.proc_templates.specs.Compiled.{code_words, data_count, compiled}
use Rattle.proc_compiler.specs.declared.fault.CompileFault.{CompileFault}
use Rattle.proc_compiler.specs.declared.fault.CompileFault.TheVariants.{TooLarge, SealsShort}
use Rattle.proc_language.specs.declared.dialect.Dialect.{Dialect}
use Rattle.proc_language.specs.declared.dialect.Dialect.TheVariants.{Plain, Tokens}
use Rattle.token_language.specs.declared.module.TokenModuleFields.{TokenModuleFields}
use Rattle.token_language.specs.Erased.{erased}
use Rattle.token_parse.specs.Text.{parsed_text as parsed_tokens}
use Rattle.token_language.specs.TokenFaults.{resolved_tokens}
use Rattle.token_check.specs.Walk.{module_walk}
use Rattle.proc_sources.specs.declared.fault.SourceFault.{SourceFault}
use Rattle.proc_sources.specs.declared.fault.SourceFault.TheVariants.{Text, Name, Token, Size, NoMemory}

abbrev pub is_refusal : SourceFault → Bool
is_refusal NoMemory = true
is_refusal _ = false

-- a fault of a text, or that memory was refused
abbrev pub text_fault : ParseFault → SourceFault
text_fault parse.NoMemory = NoMemory
text_fault fault = Text fault

-- the component of a module whose names were resolved: too many words are told before too few return seals
abbrev pub is_large : ModuleFields → Bool
is_large m = nat_lt MOST_WORDS (code_words (part_of m)) || nat_lt MOST_WORDS (data_count (part_of m))

unfoldable pub compile_answer : ModuleFields → Result ComponentFields CompileFault
compile_answer m =
    if is_large m then Err TooLarge
    else (if nat_lt m.return_count (module_calls m) then Err SealsShort else Ok (compiled m))

-- the module that a text without tokens spells, whose names are resolved; or the first fault
unfoldable pub plain_in : List ℕ → Result ModuleFields SourceFault
plain_in text = do
  m ← told_by Text (parsed_text text)
  _ ← told_by Name (resolved m)
  Ok m

-- a module with tokens whose names are resolved and whose tokens are spent once each; or the first fault
abbrev pub checked_tokens : TokenModuleFields → Result TokenModuleFields SourceFault
checked_tokens m = do
  _ ← told_by Name (resolved_tokens m)
  _ ← told_by Token (module_walk m)
  Ok m

-- the one that a text spells
unfoldable pub token_module_in : List ℕ → Result TokenModuleFields SourceFault
token_module_in text = do
  m ← told_by Text (parsed_tokens text)
  checked_tokens m

-- and what is left of it without its tokens
abbrev pub without_tokens : TokenModuleFields → Result ModuleFields SourceFault
without_tokens m = do
  t ← checked_tokens m
  Ok (erased t)

unfoldable pub erased_in : List ℕ → Result ModuleFields SourceFault
erased_in text = do
  m ← token_module_in text
  Ok (erased m)

-- the module of a source in this language, or its first fault
abbrev pub module_in : Dialect → List ℕ → Result ModuleFields SourceFault
module_in Plain text = plain_in text
module_in Tokens text = erased_in text

-- the component that a source has, or its first fault
unfoldable pub sourced : Dialect → List ℕ → Result ComponentFields SourceFault
sourced dialect text = do
  m ← module_in dialect text
  told_by Size (compile_answer m)
