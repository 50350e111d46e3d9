-- The two modules keep the limits, and their names are resolved.
use Rattle.std.proofs.Common.{◌≡◌, ◌≢◌, ℕ, ◌≤◌, List, [], length, refl, ap, arith}
use Rattle.cap_words.specs.Names as names
use Rattle.component_file.specs.declared.component.ComponentFields.{ComponentFields}
use Rattle.proc_language.specs.Words.{is_source_name, is_reserved}
use Rattle.proc_language.specs.Limits.{Each, ImportFits, GlobalFits, ProcFits, IsModule}
use Rattle.proc_language.specs.declared.TheConstants.{MOST_ITEMS}
use Rattle.proc_language.specs.declared.module.Import.{Import}
use Rattle.proc_language.specs.declared.module.Global.{Global}
use Rattle.proc_language.specs.declared.module.Proc.{Proc}
use Rattle.proc_names.specs.Names.{variable_named, callee_named, passed_named}
use Rattle.proc_names.specs.NameFaults.{name_faults}
use Rattle.proc_templates.specs.Compiled.{compiled, component_of, first_data}
use Rattle.context_instance.specs.Doubles.{module_t, sums, keeps}

-- a module t with one procedure keeps them if its imports, its globals and the procedure do
pub module_fits : (returns : ℕ) (imports : List Import) (globals : List Global) (p : Proc) → returns ≤ 1
    → (length imports ≤ MOST_ITEMS) × Each ImportFits imports
    → (length globals ≤ MOST_ITEMS) × Each GlobalFits globals → ProcFits p
    → IsModule (module_t returns imports globals p)
unfolding is_source_name is_reserved names.is_name
module_fits returns imports globals p few is gs fits = record {
  name = refl;
  code = omega arith;
  data_base = omega arith;
  closure = omega arith;
  returns = (omega arith, omega (arith, few), omega (arith, few));
  stack = omega arith;
  imports = is;
  globals = gs;
  some = omega arith;
  procs = (omega arith, (fits, tt));
}

pub limits : IsModule sums
unfolding is_source_name is_reserved names.is_name
limits =
    module_fits _ _ _ _ (omega arith) (omega arith, tt) (omega arith, tt)
    (record {
      name = refl;
      params = ((refl, tt), tt);
      registers = omega arith;
      locals = (omega arith, tt);
      body = ((refl, refl), tt);
    })

pub limits_too : IsModule keeps
unfolding is_source_name is_reserved names.is_name
limits_too =
    module_fits _ _ _ _ (omega arith) (omega arith, tt) (omega arith, ((refl, tt, tt), tt))
    (record {
      name = refl;
      params = ((refl, tt), tt);
      registers = omega arith;
      locals = (omega arith, tt);
      body = ((refl, refl), (((refl, refl), ((refl, refl), tt)), (omega arith, tt)));
    })

pub resolved : name_faults sums ≡ []
unfolding callee_named passed_named variable_named
resolved = refl

pub resolved_too : name_faults keeps ≡ []
unfolding callee_named passed_named variable_named
resolved_too = refl

pub differ : compiled sums ≢ compiled keeps
unfolding component_of first_data
differ e = let n : 2 ≡ 3 = ap (λ (c : ComponentFields). length c.data_words) e in omega (arith, n)
