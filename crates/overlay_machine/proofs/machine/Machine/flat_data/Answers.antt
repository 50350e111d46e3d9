use Rattle.std.proofs.Common.{sym, ◌∙◌}
use Rattle.std.specs.Prelude.{◌==◌}
use Rattle.overlay_machine.proofs.HeadLemmas.{heads_are, head_range}
use Rattle.overlay_machine.proofs.machine.Machine.flat_data.Goals as goal

pub data_half-requires : goal.data_half-requires
data_half-requires c =
    head_range c.args.layout.now c.args.self.now.maps.spans (λ h. h.call == c.args.call)
    c.args.self.now.frames.frames c.in-Some.frame c.requires.whole
    (sym (heads_are c.args.call c.args.self.now.frames.frames) ∙ sym c.frame_of.ensures ∙ c.in-Some.is)
