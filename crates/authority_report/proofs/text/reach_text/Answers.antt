use Rattle.std.proofs.Common.{◌≡◌, subst, sym, ap, ◌∙◌, ◌+◌, ◌<◌, length, arith}
use Rattle.authority_report.proofs.OwnersSmall.{linked}
use Rattle.authority_report.specs.Text.{TextOf, none, next, IsReachText}
use Rattle.authority_report.specs.SealRanges.{SealsAreOwn}
use Rattle.authority_report.specs.Report.{IsReport}
use Rattle.authority_report.proofs.text.reach_text.Goals as goal

pub overflow_cast-part-end : goal.overflow_cast-part-end
overflow_cast-part-end c =
    let few = (linked c.args.start.now c.requires).few in
    let count = c.requires.starts.owners.count in
    let owners = ap length c.owners.ensures in
    omega (arith, few, count, owners)

pub loop-part-init : goal.loop-part-init
loop-part-init c = subst (λ t. TextOf c.args.start.now 0 t) (sym c.new-text.ensures.items) none

pub loop-part-preserved : goal.loop-part-preserved
loop-part-preserved c =
    let s = c.args.start.now in
    let o = c.owner_at-owner.result.now in
    let r = c.in_ok-reach.reach in
    subst (λ t. TextOf s (c.loop-part.part + 1) t) (sym c.in_ok-push_report.ensures)
    (next c.loop-part.part c.loop-part.text.items o r c.loop-part.invariant c.owner_at-owner.ensures.is
    (subst (λ m. IsReport m.maps o r) c.state.ensures c.in_ok-reach.ensures))

pub owner_at-owner-requires-clause-part : goal.owner_at-owner-requires-clause-part
owner_at-owner-requires-clause-part c =
    subst (λ os. c.loop-part.part < length os) c.owners.ensures c.loop-part-test.true

pub report_of-requires : goal.report_of-requires
report_of-requires c =
    let o = c.owner_at-owner.ensures in
    record {
      code = o.code;
      its_data = o.its_data;
      seals = subst (λ m. SealsAreOwn m.maps c.owner_at-owner.result.now) (sym c.state.ensures) o.seals;
      few = o.few;
    }

pub push_report-requires : goal.push_report-requires
push_report-requires c = c.in_ok-reach.ensures.seals.each

pub returns : goal.returns
returns c =
    let all : c.loop-part.part ≡ length c.owners.result.now =
    (let end = c.loop-part.auto.part-end in omega (arith, c.loop-part-test.false, end)) in
    subst (IsReachText c.args.start.now) (sym c.of.ensures)
    (subst (λ n. TextOf c.args.start.now n c.loop-part.text.items) (all ∙ ap length c.owners.ensures)
    c.loop-part.invariant)
