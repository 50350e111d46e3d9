-- The module that a text spells in the language itself, or its first fault.
use Rattle.std.specs.Prelude.{ℕ, List, Result}
use Rattle.text_scan.specs.declared.token.Token.{Token}
use Rattle.text_scan.specs.declared.fault.ScanFault.{ScanFault}
use Rattle.proc_language.specs.declared.module.ModuleFields.{ModuleFields}
use Rattle.proc_grammar.specs.declared.fault.ParseFault.{ParseFault}
use Rattle.proc_grammar.specs.PlainTrees.{plain_trees}
use Rattle.proc_parse.specs.Texts as texts

abbrev pub parsed_scan : List ℕ → Result (List Token) ScanFault → Result ModuleFields ParseFault
parsed_scan = texts.parsed_scan plain_trees

-- the module of the text, or its first fault
abbrev pub parsed_text : List ℕ → Result ModuleFields ParseFault
parsed_text = texts.parsed_text plain_trees

-- the text spells the module
abbrev pub Spells : List ℕ → ModuleFields → Type 0
Spells = texts.Spells plain_trees

-- the text's tokens before this place begin a module, and with the token or the text's end there none goes on
abbrev pub Stops : List ℕ → ℕ → Type 0
Stops = texts.Stops plain_trees

-- a fault is one of the text
abbrev pub IsFault : List ℕ → ParseFault → Type 0
IsFault = texts.IsFault plain_trees

-- a limit is passed before this place
abbrev pub PassesBefore : List ℕ → ℕ → ParseFault → Type 0
PassesBefore = texts.PassesBefore plain_trees
