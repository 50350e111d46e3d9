-- Two modules that double a number, in two ways.
use Rattle.std.specs.Prelude.{◌≡◌, ◌≢◌, ℕ, true, false, List, [], ◌∷◌, map, Some, None}
use Rattle.linked_starts.specs.Parts.{PartSeen}
use Rattle.linked_starts.specs.Start.{Exported, main_of}
use Rattle.overlay_machine.specs.Link.{IsUntrusted}
use Rattle.proc_language.specs.declared.tree.Name.{Name}
use Rattle.proc_language.specs.declared.tree.Op.TheVariants.{Plus, Equal}
use Rattle.proc_language.specs.declared.module.ModuleFields.{ModuleFields}
use Rattle.proc_language.specs.declared.module.Import.{Import}
use Rattle.proc_language.specs.declared.module.Global.{Global}
use Rattle.proc_language.specs.declared.module.Param.{Param}
use Rattle.proc_language.specs.declared.module.Proc.{Proc}
use Rattle.proc_language.specs.Tree.{Stmt, number, var, op, set, if_then, return, stmt, no_stmts}
use Rattle.proc_language.specs.Limits.{IsModule}
use Rattle.proc_names.specs.NameFaults.{name_faults}
use Rattle.proc_program.specs.Lower.{part_of}
use Rattle.proc_templates.specs.Compiled.{compiled}
use Rattle.same_meanings.specs.Observed.{by_number, MeanTheSame, EndTheSame}
use Rattle.source_starts.specs.Links.{overlay_link}
use Rattle.source_starts.specs.Sources.{LinkedSources}
use Rattle.context_laws.specs.Sources.{Beside}
use Rattle.context_laws.specs.Meanings.{DoesTheSame}
use Rattle.context_laws.specs.Ends.{RunsEndAlike}

abbrev pub named : ℕ → Name
named letter = record { text = letter ∷ []; at = 0 }

-- x, and g
abbrev pub x : Name
x = named 120

abbrev pub g : Name
g = named 103

-- return x + x;
abbrev pub by_sum : List Stmt
by_sum = return 0 (op 0 Plus (var 0 x) (var 0 x)) ∷ []

-- g = x; if (g == x) { return g + x; } return 0;
abbrev pub by_global : List Stmt
by_global =
    set 0 g (var 0 x)
    ∷ if_then 0 (op 0 Equal (var 0 g) (var 0 x)) (stmt (return 0 (op 0 Plus (var 0 g) (var 0 x))) no_stmts)
    ∷ return 0 (number 0 0) ∷ []

-- export proc of a name, with parameters and a body
abbrev pub exporting : Name → List Param → List Stmt → Proc
exporting name params body =
    record { at = 0; shared = true; name = name; params = params; locals = []; body = body }

-- module t code 1 data 200 closure 10 returns 12 n stack 300; with imports, globals and one procedure
abbrev pub module_t : ℕ → List Import → List Global → Proc → ModuleFields
module_t returns imports globals p = record {
  at = 0;
  name = named 116;
  code = 1;
  data_base = 200;
  closure = 10;
  returns = 12;
  return_count = returns;
  stack = 300;
  movable = false;
  imports = imports;
  globals = globals;
  procs = p ∷ [];
}

-- global g;
abbrev pub global_g : List Global
global_g = record { at = 0; name = g; length = None; initial = None } ∷ []

-- export proc f(x) with a body
abbrev pub doubling : List Stmt → Proc
doubling body = exporting (named 102) (record { name = x; arity = None } ∷ []) body

-- module t; export proc f(x) { return x + x; }
abbrev pub sums : ModuleFields
sums = module_t 0 [] [] (doubling by_sum)

-- module t; global g; export proc f(x) { g = x; if (g == x) { return g + x; } return 0; }
abbrev pub keeps : ModuleFields
keeps = module_t 0 [] global_g (doubling by_global)

-- links of two modules are beside each other
pub record LinkBeside (one other : ModuleFields) (a b : LinkedSources) : Type 0 where
  pub one_is : a.modules ≡ one ∷ []
  pub other_is : b.modules ≡ other ∷ []
  pub beside : Beside a.link b.link

-- there are such
pub record LinksBeside (one other : ModuleFields) : Type 0 where
  pub sources : LinkedSources
  pub sources_too : LinkedSources
  pub are : LinkBeside one other sources sources_too

-- main is in both the same untrusted part's
pub record MainIsUntrusted {one other : ModuleFields} (there : LinksBeside one other) : Type 0 where
  pub main : Exported
  pub main_is : main_of (overlay_link there.sources.link).parts ≡ Some main
  pub main_too : main_of (overlay_link there.sources_too.link).parts ≡ Some main
  pub untrusted : main.part.trusted ≡ false

-- Two modules whose names are resolved, and of which the components differ; but they mean the same and end
-- the same way, so that they can't be told apart and whole plain runs end alike, whatever untrusted parts
-- are linked beside them; and there are links of both, in which main is untrusted.
pub record AreOne (one other : ModuleFields) : Type 0 where
  pub limits : IsModule one × IsModule other
  pub resolved : (name_faults one ≡ []) × (name_faults other ≡ [])
  pub differ : compiled one ≢ compiled other
  pub same : (size : ℕ) → MeanTheSame by_number (map part_of (one ∷ [])) (map part_of (other ∷ [])) size
  pub ends : (size : ℕ) → EndTheSame by_number (map part_of (one ∷ [])) (map part_of (other ∷ [])) size
  pub apart : (a b : LinkedSources) → LinkBeside one other a b → (p : PartSeen)
      → IsUntrusted (overlay_link a.link) p
      → DoesTheSame by_number a.link b.link × DoesTheSame by_number b.link a.link
  pub alike : (a b : LinkedSources) → LinkBeside one other a b → RunsEndAlike a.start b.start
  pub there : LinksBeside one other
  pub main : MainIsUntrusted there

-- so it is of these two
abbrev pub TwoWays : Type 0
TwoWays = AreOne sums keeps
