-- The module that a text spells in the language of tokens, or its first fault.
use Rattle.std.specs.Prelude.{ℕ, List, Result}
use Rattle.text_scan.specs.declared.token.Token.{Token}
use Rattle.text_scan.specs.declared.fault.ScanFault.{ScanFault}
use Rattle.token_language.specs.declared.module.TokenModuleFields.{TokenModuleFields}
use Rattle.proc_grammar.specs.declared.fault.ParseFault.{ParseFault}
use Rattle.token_parse.specs.TokenTrees.{token_trees}
use Rattle.proc_parse.specs.Texts as texts

abbrev pub parsed_scan : List ℕ → Result (List Token) ScanFault → Result TokenModuleFields ParseFault
parsed_scan = texts.parsed_scan token_trees

-- the module of the text, or its first fault
abbrev pub parsed_text : List ℕ → Result TokenModuleFields ParseFault
parsed_text = texts.parsed_text token_trees

-- the text spells the module
abbrev pub Spells : List ℕ → TokenModuleFields → Type 0
Spells = texts.Spells token_trees

-- the text's tokens before this place begin a module, and with the token or the text's end there none goes on
abbrev pub Stops : List ℕ → ℕ → Type 0
Stops = texts.Stops token_trees

-- a fault is one of the text
abbrev pub IsFault : List ℕ → ParseFault → Type 0
IsFault = texts.IsFault token_trees

-- a limit is passed before this place
abbrev pub PassesBefore : List ℕ → ℕ → ParseFault → Type 0
PassesBefore = texts.PassesBefore token_trees
