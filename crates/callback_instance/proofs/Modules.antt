-- The two modules keep the limits, and their names are resolved.
use Rattle.std.proofs.Common.{◌≡◌, ◌≢◌, [], length, refl, ap, arith}
use Rattle.cap_words.specs.Names as names
use Rattle.component_file.specs.declared.component.ComponentFields.{ComponentFields}
use Rattle.proc_language.specs.Words.{is_source_name, is_reserved}
use Rattle.proc_language.specs.Limits.{IsModule}
use Rattle.proc_names.specs.Names.{variable_named, callee_named, passed_named}
use Rattle.proc_names.specs.NameFaults.{name_faults}
use Rattle.proc_templates.specs.Compiled.{compiled, component_of, first_data}
use Rattle.context_instance.proofs.Offers.{module_fits}
use Rattle.callback_instance.specs.Passes.{passes, stores}

pub limits : IsModule passes
unfolding is_source_name is_reserved names.is_name
limits =
    module_fits _ _ _ _ (omega arith) (omega arith, tt) (omega arith, tt)
    (record {
      name = refl;
      params = ((refl, tt), ((refl, omega arith), tt));
      registers = omega arith;
      locals = (omega arith, tt);
      body = (((refl, omega arith), ((refl, refl), tt)), tt);
    })

pub limits_too : IsModule stores
unfolding is_source_name is_reserved names.is_name
limits_too =
    module_fits _ _ _ _ (omega arith) (omega arith, tt) (omega arith, ((refl, tt, tt), tt))
    (record {
      name = refl;
      params = ((refl, tt), ((refl, omega arith), tt));
      registers = omega arith;
      locals = (omega arith, tt);
      body = ((refl, refl), ((((refl, omega arith), ((refl, refl), tt))), tt));
    })

pub resolved : name_faults passes ≡ []
unfolding callee_named passed_named variable_named
resolved = refl

pub resolved_too : name_faults stores ≡ []
unfolding callee_named passed_named variable_named
resolved_too = refl

pub differ : compiled passes ≢ compiled stores
unfolding component_of first_data
differ e = let n : 2 ≡ 3 = ap (λ (c : ComponentFields). length c.data_words) e in omega (arith, n)
