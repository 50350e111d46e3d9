use Rattle.std.proofs.Common.{map, ap, ◌∙◌}
use Rattle.proc_language.specs.declared.module.ModuleFields.{ModuleFields}
use Rattle.proc_program.specs.Lower.{globals_of, import_of, header_of, procedures_of}
use Rattle.proc_program.proofs.lower.lowered.Goals as goal

pub returns : goal.returns
returns c =
    let f = c.fields-fields.result.now in let same = c.fields-fields.ensures.same in
    let name = c.in_ok-name.ensures ∙ ap (λ (x : ModuleFields). x.name.text) same in
    let imports = c.of.ensures ∙ c.in_ok-imports.ensures
    ∙ ap (map import_of) (c.as_slice.ensures ∙ ap (λ (x : ModuleFields). x.imports) same) in
    let globals = c.of-2.ensures ∙ c.in_ok-globals.ensures
    ∙ ap globals_of (c.as_slice-2.ensures ∙ ap (λ (x : ModuleFields). x.globals) same) in
    let procs = c.of-3.ensures ∙ c.in_ok-procs.ensures ∙ ap (procedures_of f 0) c.as_slice-3.ensures
    ∙ ap (λ (x : ModuleFields). procedures_of x 0 x.procs) same in
    λ i. record {
      name = name i;
      stack = (same i).stack;
      header = header_of (same i);
      imports = imports i;
      globals = globals i;
      procs = procs i;
    }
