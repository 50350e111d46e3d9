use Rattle.overlay_machine.proofs.invariant.StepKept.{step_keeps}
use Rattle.overlay_machine.proofs.StepLemmas.{stays_ended}
use Rattle.overlay_machine.proofs.overlay.Overlay.step.Goals as goal

pub returns-clause-keeps : goal.returns-clause-keeps
returns-clause-keeps c = step_keeps _ _ _ c.advance.ensures.after c.advance.ensures.answer

pub returns-clause-ended : goal.returns-clause-ended
returns-clause-ended c = stays_ended _ _ _ c.advance.ensures.after c.advance.ensures.answer
