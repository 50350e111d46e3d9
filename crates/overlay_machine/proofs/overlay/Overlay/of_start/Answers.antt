use Rattle.std.proofs.Common.{ap, refl, sym, subst, ◌≤◌, ◌-◌, arith}
use Rattle.overlay_machine.specs.Machine.{frames_of}
use Rattle.overlay_machine.proofs.FitsLemmas.{fits_fresh}
use Rattle.overlay_machine.proofs.overlay.Overlay.of_start.Goals as goal

pub invariant_of-result : goal.invariant_of-result
invariant_of-result c =
    let m = c.in_ok-machine.machine in
    let k = c.in_ok-machine.ensures in
    let l = c.in_ok-layout.layout in
    record {
      fits = fits_fresh l m.maps m.frames m.calls k.frames
          (subst (λ s. s.end - s.base ≤ m.frames.cells) (sym c.in_ok-layout.ensures.stack) k.room);
      calls = omega arith;
    }

pub returns-clause-is : goal.returns-clause-is
returns-clause-is c =
    let k = c.in_ok-machine.ensures in
    record {
      sites = c.in_ok-layout.ensures.sites;
      owners = c.in_ok-layout.ensures.owners;
      stack = c.in_ok-layout.ensures.stack;
      regs = k.regs;
      cells = k.cells;
      spans = k.spans;
      frames = ap frames_of k.frames;
      calls = k.calls;
      weight = refl;
      end = refl;
    }

pub returns-clause-begins : goal.returns-clause-begins
returns-clause-begins c = c.starts_begin.ensures _ _ (returns-clause-is c)
