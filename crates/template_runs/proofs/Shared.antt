-- Code outside enters a trusted part where it shares a procedure, and nowhere else.
use Rattle.std.proofs.Common.{ap, ◌∙◌, sym}
use Rattle.std.specs.Prelude.{◌≡◌, ◌∷◌}
use Rattle.overlay_machine.specs.State.{OState}
use Rattle.overlay_machine.specs.Link.{Link}
use Rattle.overlay_machine.specs.Linked.{IsLink}
use Rattle.template_runs.specs.Sharing.{RunsOutside, GoesOn, SharedAloneIsEntered}
use Rattle.template_runs.specs.Sharing as sharing
use Rattle.template_runs.proofs.Outside.{Out, Leaves, stays, enters, returns, leaves}

module _ (g : Link) (linked : IsLink g) (o q : OState) where
  outside : RunsOutside g o → Out g linked o
  outside h = record {
    valid = record { plain = h.plain; holds = h.holds; private = h.private };
    safe = h.shown;
  }

  goes_on : Leaves g linked o q → GoesOn g o q
  goes_on (stays out frames same event) =
      sharing.stays (record {
        plain = out.valid.plain;
        holds = out.valid.holds;
        private = out.valid.private;
        shown = out.safe;
      }) frames same
  goes_on (enters p k v ip entry pc dat safe shared frames cells event) =
      sharing.enters p k ip shared pc safe frames cells
  goes_on (returns r1 r2 v r event) =
      let older : r.older ≡ q.frames = sym (ap (λ x. x.frames) r.result) in
      sharing.returns r.frame r.site (r.frames_are ∙ ap (λ fs. r.frame ∷ fs) older) r.site_is
      (ap (λ x. x.maps.regs.pc) r.result) v.private

pub shared_alone : SharedAloneIsEntered
shared_alone g o q linked h e = goes_on g linked o q (leaves g linked o (outside g linked o q h) q e)
