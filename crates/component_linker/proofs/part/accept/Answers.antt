use Rattle.std.proofs.Common.{rules, ◌≡◌, ◌∙◌, Ok, Err, subst}
use Rattle.component_file.specs.Limits.{IsComponent}
use Rattle.linked_starts.specs.Parts.{PartSeen}
use Rattle.linked_starts.proofs.Offers.{accepts_is}
use Rattle.component_linker.proofs.part.accept.Goals as goal

pub invariant_of-result : goal.invariant_of-result
invariant_of-result c = record {
  limits = subst IsComponent c.c.view_is c.c.invariant;
  rules = c.in_ok-check_part.ensures.1;
  flow = c.in_ok-check_part.ensures.2;
}

pub returns-in_err-check_part-clause-is : goal.returns-in_err-check_part-clause-is
returns-in_err-check_part-clause-is c =
    let p : PartSeen = record { component = c.args.c; trusted = c.args.trusted } in
    let e : c.from_residual.result ≡ Err c.in_err-check_part.field-0.0 = search rules in
    e ∙ accepts_is p (Err c.in_err-check_part.field-0.0) c.in_err-check_part.ensures

pub returns-clause-is : goal.returns-clause-is
returns-clause-is c =
    let p : PartSeen = record { component = c.args.c; trusted = c.args.trusted } in
    accepts_is p (Ok p) c.in_ok-check_part.ensures
