-- What the component of a module keeps, and what it asks of the module.
use Rattle.std.specs.Prelude.{◌≡◌, ℕ, ◌≤◌, true, false, List, [], ◌∷◌}
use Rattle.std.specs.Str.{bytes_eq}
use Rattle.component_file.specs.declared.TheConstants.{MOST_WORDS}
use Rattle.component_file.specs.declared.component.ComponentFields.{ComponentFields}
use Rattle.component_check.specs.Rules.{c4, c5, c6, c7, c8, c9, rules_of_trusted}
use Rattle.component_check.specs.Verdict.{NoneBroken}
use Rattle.proc_program.specs.declared.program.Procedure.{Procedure}
use Rattle.proc_program.specs.declared.program.Program.{Program}
use Rattle.proc_program.specs.Limits.{IsProgram}
use Rattle.proc_templates.specs.Compiled.{code_words, data_count}

-- a module of which neither code nor data has too many words
pub record FitsComponent (m : Program) : Type 0 where
  pub limits : IsProgram m
  pub code : code_words m ≤ MOST_WORDS
  pub data_words : data_count m ≤ MOST_WORDS

-- the rules that a component keeps whatever its bases and seals are, as those of a trusted part: C4 to C12
abbrev pub KeepsOwnRules : ComponentFields → Type 0
KeepsOwnRules c = NoneBroken (c4 c ∷ c5 c ∷ c6 c ∷ c7 c ∷ c8 c ∷ c9 c ∷ rules_of_trusted true c)

-- no two procedures have one name
abbrev pub NoneNamed : List ℕ → List Procedure → Type 0
NoneNamed name [] = Unit {0}
NoneNamed name (p ∷ ps) = (bytes_eq name p.name ≡ false) × NoneNamed name ps

abbrev pub NamesDiffer : List Procedure → Type 0
NamesDiffer [] = Unit {0}
NamesDiffer (p ∷ ps) = NoneNamed p.name ps × NamesDiffer ps
