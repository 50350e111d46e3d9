-- Names lead to the same, wherever they stand.
use Rattle.std.proofs.Common.{◌≡◌, false, ◌&&◌, ◌||◌, if◌then◌else◌}
use Rattle.std.specs.Prelude.{is_some}
use Rattle.proc_language.specs.declared.tree.Name.{Name}
use Rattle.proc_language.specs.declared.module.Proc.{Proc}
use Rattle.proc_language.specs.declared.module.ModuleFields.{ModuleFields}
use Rattle.proc_language.specs.Unplaced.{unplaced_name, unplaced_import, unplaced_global, unplaced_param}
use Rattle.proc_language.specs.Unplaced.{unplaced_proc, unplaced}
use Rattle.proc_names.specs.declared.scope.Variable.TheVariants as named
use Rattle.proc_names.specs.declared.scope.Callee.TheVariants as called
use Rattle.proc_names.specs.Names.{same, or_else, variable_named, callee_named, passed_named}
use Rattle.alike_modules.proofs.Lists.{position_of, get_of}

module _ (m : ModuleFields) (p : Proc) (x : Name) where
  abbrev m' : ModuleFields
  m' = unplaced m

  abbrev p' : Proc
  p' = unplaced_proc p

  pub variable_alike : variable_named m' p' (unplaced_name x) ≡ variable_named m p x
  unfolding variable_named
  variable_alike = λ i.
      or_else (position_of unplaced_param (λ q. same q.name x) p.params i)
      (λ k. if get_of unplaced_param (λ q. is_some q.arity) false p.params k i
      then named.Other else named.Param k) (
      or_else (position_of unplaced_name (λ y. same y x) p.locals i) named.Local (
      or_else (position_of unplaced_global (λ g. same g.name x) m.globals i)
      (λ k. if get_of unplaced_global (λ g. is_some g.length) false m.globals k i
      then named.Array k else named.Global k) (
      if is_some (position_of unplaced_import (λ j. same j.name x) m.imports i)
      || is_some (position_of unplaced_proc (λ q. same q.name x) m.procs i)
      then named.Other else named.Missing)))

  pub callee_alike : callee_named m' p' (unplaced_name x) ≡ callee_named m p x
  unfolding callee_named
  callee_alike = λ i.
      or_else (position_of unplaced_param (λ q. is_some q.arity && same q.name x) p.params i)
      called.Callback (
      or_else (position_of unplaced_import (λ j. same j.name x) m.imports i) called.Import (
      or_else (position_of unplaced_proc (λ q. same q.name x) m.procs i) called.Proc (
      if is_some (position_of unplaced_global (λ g. same g.name x) m.globals i)
      then called.Other else called.Missing)))

  pub passed_alike : passed_named m' p' (unplaced_name x) ≡ passed_named m p x
  unfolding passed_named
  passed_alike = λ i.
      or_else (position_of unplaced_param (λ q. is_some q.arity && same q.name x) p.params i)
      called.Callback (
      or_else (position_of unplaced_import (λ j. same j.name x) m.imports i) called.Import (
      or_else (position_of unplaced_proc (λ q. q.shared && same q.name x) m.procs i) called.Proc (
      if is_some (position_of unplaced_param (λ q. same q.name x) p.params i)
      || is_some (position_of unplaced_name (λ y. same y x) p.locals i)
      || is_some (position_of unplaced_global (λ g. same g.name x) m.globals i)
      || is_some (position_of unplaced_proc (λ q. same q.name x) m.procs i)
      then called.Other else called.Missing)))
