use Rattle.std.proofs.lemmas.Result.{IfOk-weaker}
use Rattle.authority_report.specs.Report.{IsReport, Reports}
use Rattle.authority_report.specs.Entered.{BoundsRuns}
use Rattle.authority_report.specs.Influence.{BoundsInfluence}
use Rattle.authority_report.proofs.EnteredWithin.{reports_it, reports_bound_runs, reports_bound_influence}
use Rattle.authority_report.proofs.reporting.report.Goals as goal

pub returns-clause-least : goal.returns-clause-least
returns-clause-least c =
    let s = c.args.start.now in
    let o = c.owner_at-owner.result.now in
    let m = c.state.result.now in
    IfOk-weaker c.report_of.result (IsReport m.maps o) (Reports s c.args.part)
    (λ r is. reports_it s c.args.part r o m c.owner_at-owner.ensures.is c.state.ensures is)
    c.report_of.ensures

pub returns-clause-bounds : goal.returns-clause-bounds
returns-clause-bounds c =
    let s = c.args.start.now in
    let part = c.args.part in
    IfOk-weaker c.report_of.result (Reports s part) (BoundsRuns s part)
    (λ r is. reports_bound_runs s part r c.requires.linked is) (returns-clause-least c)

pub returns-clause-influence : goal.returns-clause-influence
returns-clause-influence c =
    let s = c.args.start.now in
    let part = c.args.part in
    IfOk-weaker c.report_of.result (Reports s part) (BoundsInfluence s part)
    (λ r is. reports_bound_influence s part r c.requires.linked is) (returns-clause-least c)
