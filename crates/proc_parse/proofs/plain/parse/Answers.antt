use Rattle.std.proofs.Common.{◌≡◌, ◌⊎◌, sym, subst, Result, Ok, Err}
use Rattle.std.specs.Prelude.{IfOk, IsOkAnd}
use Rattle.proc_language.specs.Limits.{IsModule}
use Rattle.proc_language.specs.declared.module.ModuleFields.{ModuleFields}
use Rattle.proc_grammar.specs.declared.fault.ParseFault.{ParseFault}
use Rattle.proc_grammar.specs.declared.fault.ParseFault.TheVariants.{Expected, NoMemory}
use Rattle.proc_parse.specs.Text.{Spells, PassesBefore}
use Rattle.proc_parse.proofs.plain.parse.Goals as goal

kept : (read : Result ModuleFields ParseFault) (P Q : ModuleFields → Type 0)
    → ((m : ModuleFields) → P m → Q m) → IfOk read P → IfOk read Q
kept (Ok m) P Q f h = f m h
kept (Err e) P Q f h = tt

pub as_module-requires : goal.as_module-requires
as_module-requires c = kept c.parse_in.result (Spells c.args.text.now) IsModule
    (c.texts_spell_modules.ensures.within_limits c.args.text.now) c.parse_in.ensures.found

pub returns-clause-only : goal.returns-clause-only
returns-clause-only c m spells = subst (λ (r : Result ModuleFields ParseFault). IsOkAnd r (λ v. v ≡ m)
    ⊎ (r ≡ Err NoMemory)) (sym c.as_module.ensures) (c.parse_in.ensures.only m spells)

pub returns-clause-stops : goal.returns-clause-stops
returns-clause-stops c at stop = subst (λ (r : Result ModuleFields ParseFault). (r ≡ Err (Expected at))
    ⊎ (((fault : ParseFault) × (r ≡ Err fault) × PassesBefore c.args.text.now at fault)
    ⊎ (r ≡ Err NoMemory))) (sym c.as_module.ensures) (c.parse_in.ensures.stops at stop)
