-- What a step of an overlay of linked parts keeps, as its contract says it.
use Rattle.std.proofs.Common.{◌≡◌, ℕ, List, Option, Some, None, refl, sym, subst}
use Rattle.cap_words.specs.declared.Word.{Word}
use Rattle.lcm_isa.specs.declared.Reg.TheVariants.{A0}
use Rattle.lcm_machine.specs.Maps.{State}
use Rattle.lcm_machine.specs.Row.{Outcome, went, halted, failed}
use Rattle.lcm_machine.specs.Runs.{run_of}
use Rattle.linked_starts.specs.Parts.{PartSeen}
use Rattle.overlay_machine.specs.declared.overlay.OStep.{OStep}
use Rattle.overlay_machine.specs.declared.overlay.OEnd.{OEnd}
use Rattle.overlay_machine.specs.Step.{Ending, goes, halts, fails, overlay_step, weight_of}
use Rattle.overlay_machine.specs.Seen.{OverlaySeen, moved, next_by, next_overlay, ending_answer, answer_by}
use Rattle.overlay_machine.specs.Seen.{answer_of}
use Rattle.overlay_machine.specs.Invariant.{KeepsAgreeing}
use Rattle.overlay_machine.specs.Keeping.{link_of, HoldsFor, KeepsBy, StepKeeps}
use Rattle.overlay_machine.proofs.invariant.Kept.{kept}
use Rattle.overlay_machine.proofs.RunsAgree.{halts_alone}

module _ (parts : List PartSeen) (size : ℕ) (o : OverlaySeen) (t : State Word) (h : HoldsFor parts size o t)
  where
    by_ending : (e : Ending) (r : Outcome Word) → overlay_step o.layout o.state ≡ e
        → KeepsAgreeing (link_of parts size o) e r → KeepsBy parts size o t (ending_answer o e) (moved e o) r
    by_ending (goes q) (went u) e k = record { linked = h.linked; holds = k }
    by_ending halts halted e k = (halts_alone o.layout o.state e, h.holds.flat.regs A0)
    by_ending fails (failed c at) e k = tt
    by_ending (goes q) halted e k = absurd k
    by_ending (goes q) (failed c at) e k = absurd k
    by_ending halts (went u) e k = absurd k
    by_ending halts (failed c at) e k = absurd k
    by_ending fails (went u) e k = absurd k
    by_ending fails halted e k = absurd k

    abbrev Run : Outcome Word
    Run = run_of (λ w. w) (λ w. w) (weight_of o.layout o.state) t

    by_end : (x : Option OEnd) → x ≡ None → KeepsBy parts size o t (answer_by x o) (next_by x o) Run
    by_end None e =
        by_ending (overlay_step o.layout o.state)
        Run refl (kept (link_of parts size o) h.linked o.state t h.holds)
    by_end (Some x) e = cc

pub step_keeps : (old new : OverlaySeen) (answer : OStep) → new ≡ next_overlay old → answer ≡ answer_of old
    → StepKeeps old answer new
unfolding next_overlay answer_of
step_keeps old new answer n a parts size t e h =
    subst (λ y. KeepsBy parts size old t answer y (Run parts size old t h)) (sym n)
    (subst (λ y. KeepsBy parts size old t y (next_by old.end old) (Run parts size old t h)) (sym a)
    (by_end parts size old t h old.end e))
