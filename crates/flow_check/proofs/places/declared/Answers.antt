use Rattle.std.proofs.Common.{◌<◌, ◌≤◌, sym, ap, rules, arith, length, []}
use Rattle.std.specs.Prelude.{option_map}
use Rattle.component_file.specs.declared.component.KindRow.{KindRow}
use Rattle.call_sequence.specs.Places.{declared}
use Rattle.call_sequence.proofs.Offers.{find_here, find_none, rows_up}
use Rattle.flow_check.proofs.places.declared.Goals as goal

abbrev no_row : KindRow
no_row = record { offset = 0; kinds = [] }

pub returns-then-rows-before : goal.returns-then-rows-before
unfolding declared
returns-then-rows-before c =
    let le : length c.args.c.now.rows ≤ c.rows_before-before.result = search (rules, c.if-rows-before.true) in
    sym (ap (option_map (λ (r : KindRow). r.kinds))
    (find_none (λ (r : KindRow). r.offset)
    c.args.c.now.rows c.args.at c.rows_before-before.result no_row (rows_up c.args.c.now c.requires)
    c.rows_before-before.ensures (λ lt e. omega arith)))

pub returns-then-rows-before-2 : goal.returns-then-rows-before-2
unfolding declared
returns-then-rows-before-2 c =
    let lt : c.rows_before-before.result < length c.args.c.now.rows =
    search (rules, c.if-rows-before.false) in
    rw c.as_slice-rows.ensures
    (sym (ap (option_map (λ (r : KindRow). r.kinds))
    (find_here (λ (r : KindRow). r.offset)
    c.args.c.now.rows c.args.at c.rows_before-before.result no_row (rows_up c.args.c.now c.requires)
    lt (rw c.as_slice-rows.ensures at c.if-rows-before-2.true))))

pub returns-else-rows-before-2 : goal.returns-else-rows-before-2
unfolding declared
returns-else-rows-before-2 c =
    sym (ap (option_map (λ (r : KindRow). r.kinds))
    (find_none (λ (r : KindRow). r.offset)
    c.args.c.now.rows c.args.at c.rows_before-before.result no_row (rows_up c.args.c.now c.requires)
    c.rows_before-before.ensures (λ lt e. (rw c.as_slice-rows.ensures at c.if-rows-before-2.false) e)))
