use Rattle.std.proofs.Common.{Some, None, ◌≡◌, ℕ, List, sym, ap, ◌∙◌}
use Rattle.std.specs.List.{Contains}
use Rattle.linked_starts.specs.declared.owners.Owner.{Owner}
use Rattle.std.specs.Prelude.{option_copied, is_some, true, false}
use Rattle.authority_report.specs.Report.{owner_of_part}
use Rattle.authority_report.proofs.OwnersSmall.{owner_listed, code_small, data_small, owner_there}
use Rattle.authority_report.proofs.SealsOwn.{seals_own, seals_few}
use Rattle.authority_report.proofs.reporting.owner_at.Goals as goal

pub unreachable-requires : goal.unreachable-requires
unreachable-requires c =
    let s = c.args.start.now in
    let none : None ≡ owner_of_part s.owners c.args.part = ap option_copied (sym c.in_default.is)
    ∙ c.find_owner.ensures ∙ ap (λ os. owner_of_part os c.args.part) c.owners.ensures in
    let some = owner_there s c.requires.linked c.args.part c.requires.part in
    let f : false ≡ true = ap is_some none ∙ some in
    cc

its_own : (owners all : List Owner) (part : ℕ) (o : Owner) → Some o ≡ owner_of_part owners part → owners ≡ all
    → Contains all o
its_own owners all part o is same = owner_listed all part o (sym (is ∙ ap (λ os. owner_of_part os part) same))

pub returns-clause-code : goal.returns-clause-code
returns-clause-code c =
    code_small c.args.start.now c.requires.linked c.in-Some.owner.now
    (its_own _ _ c.args.part c.in-Some.owner.now c.in-Some.ensures c.owners.ensures)

pub returns-clause-its_data : goal.returns-clause-its_data
returns-clause-its_data c =
    data_small c.args.start.now c.requires.linked c.in-Some.owner.now
    (its_own _ _ c.args.part c.in-Some.owner.now c.in-Some.ensures c.owners.ensures)

pub returns-clause-seals : goal.returns-clause-seals
returns-clause-seals c =
    seals_own c.args.start.now c.requires.linked c.in-Some.owner.now
    (its_own _ _ c.args.part c.in-Some.owner.now c.in-Some.ensures c.owners.ensures)

pub returns-clause-few : goal.returns-clause-few
returns-clause-few c =
    seals_few c.args.start.now c.requires.linked c.in-Some.owner.now
    (its_own _ _ c.args.part c.in-Some.owner.now c.in-Some.ensures c.owners.ensures)
