use Rattle.std.proofs.Common.{◌≡◌, ◌⊎◌, sym, subst, Result, Ok, Err}
use Rattle.std.specs.Prelude.{IfOk, IsOkAnd}
use Rattle.token_language.specs.Limits.{IsTokenModule}
use Rattle.token_language.specs.declared.module.TokenModuleFields.{TokenModuleFields}
use Rattle.proc_grammar.specs.declared.fault.ParseFault.{ParseFault}
use Rattle.proc_grammar.specs.declared.fault.ParseFault.TheVariants.{Expected, NoMemory}
use Rattle.token_parse.specs.Text.{Spells, PassesBefore}
use Rattle.token_parse.proofs.parse.parse_tokens.Goals as goal

kept : (read : Result TokenModuleFields ParseFault) (P Q : TokenModuleFields → Type 0)
    → ((m : TokenModuleFields) → P m → Q m) → IfOk read P → IfOk read Q
kept (Ok m) P Q f h = f m h
kept (Err e) P Q f h = tt

pub as_module-requires : goal.as_module-requires
as_module-requires c = kept c.parse_in.result (Spells c.args.text.now) IsTokenModule
    (c.texts_spell_modules.ensures.within_limits c.args.text.now) c.parse_in.ensures.found

pub returns-clause-only : goal.returns-clause-only
returns-clause-only c m spells = subst (λ (r : Result TokenModuleFields ParseFault). IsOkAnd r (λ v. v ≡ m)
    ⊎ (r ≡ Err NoMemory)) (sym c.as_module.ensures) (c.parse_in.ensures.only m spells)

pub returns-clause-stops : goal.returns-clause-stops
returns-clause-stops c at stop = subst (λ (r : Result TokenModuleFields ParseFault). (r ≡ Err (Expected at))
    ⊎ (((fault : ParseFault) × (r ≡ Err fault) × PassesBefore c.args.text.now at fault)
    ⊎ (r ≡ Err NoMemory))) (sym c.as_module.ensures) (c.parse_in.ensures.stops at stop)
