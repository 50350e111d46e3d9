use Rattle.overlay_machine.proofs.FramedLemmas.{whole_full}
use Rattle.overlay_machine.proofs.overlay.Overlay.word_at.Goals as goal

pub framed-requires : goal.framed-requires
framed-requires c =
    whole_full c.self.inside.layout c.self.inside.machine.maps.spans c.self.inside.machine.frames.frames
    c.self.invariant.fits.whole
