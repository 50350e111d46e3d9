use Rattle.std.proofs.Common.{◌≡◌, ◌<◌, length, rules}
use Rattle.std.specs.Prelude.{Result, Ok, Err, OnErr}
use Rattle.outside_io.specs.Writes.{FailsAtPiece}
use Rattle.outside_io.proofs.Offers.{failed_writes}
use Rattle.lcm_cli.specs.Pieces.{cut_lines}
use Rattle.lcm_cli.proofs.Sinks.{cut_front, behind_none, behind_line, behind_fails, behind_all, lines_add}
use Rattle.lcm_cli.proofs.Sinks.{lines_fail}
use Rattle.lcm_cli.proofs.lines.write_lines.Goals as goal

on_err : {A E : Type 0} (r : Result A E) (P : Type 0) → P → OnErr r P
on_err (Ok x) P p = tt
on_err (Err e) P p = p

failed : (g : _) (c : goal.After-from_residual g)
    → FailsAtPiece (g.S.Sink.seen c.args.out.now) (cut_lines c.args.text.now) (g.S.Sink.seen c.write.new.self)
failed g c =
    let some : 0 < length c.loop-rest.rest.now = search rules in
    behind_fails _ _ _ _ _ _ c.split_at.result.1.now c.in_err-write.field-0.0
    (cut_front _ _ _ c.split_at.result.1.now some c.piece_len.ensures c.split_at.ensures.front
    c.split_at.ensures.back)
    c.loop-rest.invariant c.in_err-write.ensures.err c.write.ensures.counted

pub returns-in_err-write-clause-err : goal.returns-in_err-write-clause-err
returns-in_err-write-clause-err g c = on_err c.from_residual.result _ (lines_fail _ _ _ (failed g c))

pub returns-in_err-write-clause-pieces : goal.returns-in_err-write-clause-pieces
returns-in_err-write-clause-pieces g c =
    failed_writes _ _ _ c.from_residual.result c.from_residual.ensures.0 (failed g c)

pub loop-rest-preserved : goal.loop-rest-preserved
loop-rest-preserved g c =
    let some : 0 < length c.loop-rest.rest.now = search rules in
    behind_line _ _ _ _ _ _ _
    (cut_front _ _ _ _ some c.piece_len.ensures c.split_at.ensures.front c.split_at.ensures.back)
    c.loop-rest.invariant c.in_ok-write.ensures.ok c.write.ensures.counted

pub loop-rest-init : goal.loop-rest-init
loop-rest-init g c = behind_none _ _

pub returns-clause-ok : goal.returns-clause-ok
returns-clause-ok g c =
    let none : length c.loop-rest.rest.now ≡ 0 = search rules in
    lines_add _ _ _ (behind_all _ _ _ _ none c.loop-rest.invariant)

pub returns-clause-pieces : goal.returns-clause-pieces
returns-clause-pieces g c =
    let none : length c.loop-rest.rest.now ≡ 0 = search rules in
    behind_all _ _ _ _ none c.loop-rest.invariant
