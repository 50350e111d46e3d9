use Rattle.std.proofs.Common.{◌∙◌, ap, map}
use Rattle.token_language.specs.Erased.{erased_proc}
use Rattle.token_language.proofs.Made.{module_made}
use Rattle.token_language.proofs.items.fields.Goals as goal

pub returns : goal.returns
returns c = module_made c.args.m.now _ _ _ _ c.in_ok-name.ensures
    (c.of.ensures ∙ c.in_ok-imports.ensures ∙ c.as_slice.ensures)
    (c.of-2.ensures ∙ c.in_ok-globals.ensures ∙ c.as_slice-2.ensures)
    (c.of-3.ensures ∙ c.in_ok-procs.ensures ∙ ap (map erased_proc) c.as_slice-3.ensures)
