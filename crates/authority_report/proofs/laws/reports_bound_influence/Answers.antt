use Rattle.authority_report.proofs.RunsBlind.{runs_blind}
use Rattle.authority_report.proofs.EnteredWithin.{reports_bound_influence}
use Rattle.authority_report.proofs.ReportsBlind.{unread_in_no_span, reports_are_blind}
use Rattle.authority_report.proofs.laws.reports_bound_influence.Goals as goal

pub returns-clause-words : goal.returns-clause-words
returns-clause-words c = runs_blind

pub returns-clause-influence : goal.returns-clause-influence
returns-clause-influence c = reports_bound_influence

pub returns-clause-spans : goal.returns-clause-spans
returns-clause-spans c = unread_in_no_span

pub returns-clause-same : goal.returns-clause-same
returns-clause-same c = reports_are_blind
