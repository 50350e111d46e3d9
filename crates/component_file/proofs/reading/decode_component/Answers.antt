use Rattle.std.proofs.Common.{◌∙◌, ap, inl, inr, arith, Ok, Err}
use Rattle.std.proofs.lemmas.Result.{err_from_is_err_and}
use Rattle.component_file.proofs.ComponentLaws.{found_whole, only_memory, only_one}
use Rattle.component_file.proofs.reading.decode_component.Goals as goal

pub returns-in_err-fields-clause-only : goal.returns-in_err-fields-clause-only
returns-in_err-fields-clause-only c = λ d spelled.
    let p = err_from_is_err_and c.from_residual.result c.from_residual.ensures.1 in
    inr (p.1
    ∙ ap Err
    (p.2 ∙ only_memory c.args.bytes.now c.in_err-fields.field-0.0 d c.in_err-fields.ensures spelled))

pub of-requires : goal.of-requires
of-requires c =
    (found_whole c.args.bytes.now c.in_ok-fields.fields
    (λ i. omega (arith, c.type_inv.bytes i)) c.in_ok-fields.ensures).0

pub returns-clause-found : goal.returns-clause-found
returns-clause-found c = rw c.of.ensures
    (found_whole c.args.bytes.now c.in_ok-fields.fields
    (λ i. omega (arith, c.type_inv.bytes i)) c.in_ok-fields.ensures)

pub returns-clause-only : goal.returns-clause-only
returns-clause-only c = λ d spelled.
    inl
    (ap Ok (c.of.ensures ∙ only_one c.args.bytes.now c.in_ok-fields.fields d c.in_ok-fields.ensures spelled))
