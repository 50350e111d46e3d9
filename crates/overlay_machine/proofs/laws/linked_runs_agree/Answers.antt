use Rattle.overlay_machine.specs.Invariant.{Invariant}
use Rattle.overlay_machine.proofs.RunsAgree.{runs_agree, good_at}
use Rattle.overlay_machine.proofs.invariant.Kept.{kept}
use Rattle.overlay_machine.proofs.laws.linked_runs_agree.Goals as goal

pub returns-clause-runs : goal.returns-clause-runs
returns-clause-runs c = λ g o t linked inv. runs_agree g.layout (Invariant g) (λ p u i. i.flat)
    (λ p u i. kept g linked p u i) o t inv

pub returns-clause-kept : goal.returns-clause-kept
returns-clause-kept c = λ g o p t j linked inv r. good_at g.layout (Invariant g) (λ q u i. i.flat)
    (λ q u i. kept g linked q u i) o t inv j p r
