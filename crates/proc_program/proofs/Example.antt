-- A module lowered: import adv.go/0; export proc main() { halt go(); }
-- export proc twice(f/1, x) { return f(f(x)); }
use Rattle.std.proofs.Common.{◌≡◌, ℕ, List, [], ◌∷◌, Some, None, true, false, refl}
use Rattle.std.specs.Prelude.{codes}
use Rattle.proc_language.specs.declared.tree.Name.{Name}
use Rattle.proc_language.specs.declared.module.ModuleFields.{ModuleFields}
use Rattle.proc_language.specs.Tree.{var, call, no_args, value, return, halt}
use Rattle.proc_program.specs.declared.program.Handle.TheVariants.{Given, Imported}
use Rattle.proc_program.specs.declared.program.Location.TheVariants.{Local}
use Rattle.proc_program.specs.declared.program.Program.{Program}
use Rattle.proc_program.specs.Program as run
use Rattle.proc_names.specs.Names.{variable_named, callee_named}
use Rattle.proc_program.specs.Lower.{part_of}

abbrev named : List ℕ → Name
named text = record { text = text; at = 0 }

source : ModuleFields
source = record {
  at = 0;
  name = named (codes "cb");
  code = 4096;
  data_base = 8192;
  closure = 10;
  returns = 11;
  return_count = 3;
  stack = 65536;
  movable = false;
  imports = record { at = 0; part = named (codes "adv"); name = named (codes "go"); arity = 0 } ∷ [];
  globals = [];
  procs = record {
    at = 0;
    shared = true;
    name = named (codes "main");
    params = [];
    locals = [];
    body = halt 0 (call 0 (named (codes "go")) no_args) ∷ [];
  }
      ∷ record {
        at = 0;
        shared = true;
        name = named (codes "twice");
        params = record { name = named (codes "f"); arity = Some 1 }
            ∷ record { name = named (codes "x"); arity = None } ∷ [];
        locals = [];
        body = return 0 (call 0 (named (codes "f"))
            (value (call 0 (named (codes "f")) (value (var 0 (named (codes "x"))) no_args)) no_args)) ∷ [];
      } ∷ [];
}

unfoldable pub callbacks : Program
callbacks = record {
  name = codes "cb";
  stack = 65536;
  header = record {
    code = 4096;
    data_base = 8192;
    closure = 10;
    returns = 11;
    return_count = 3;
    movable = false;
  };
  imports = record { part = codes "adv"; name = codes "go" } ∷ [];
  globals = [];
  procs = record {
    name = codes "main";
    shared = true;
    callbacks = [];
    locals = 0;
    need = 2;
    body = run.Halt
        (run.Call 0 (Imported 0) run.no_args) ∷ [];
  }
      ∷ record {
        name = codes "twice";
        shared = true;
        callbacks = true ∷ false ∷ [];
        locals = 0;
        need = 6;
        body = run.Return (run.Call 2 (Given 0)
            (run.value (run.Call 1 (Given 0) (run.value (run.Load (Local 2)) run.no_args)) run.no_args)) ∷ [];
      } ∷ [];
}

as_lowered : part_of source ≡ callbacks
unfolding source callbacks variable_named callee_named
as_lowered = refl
