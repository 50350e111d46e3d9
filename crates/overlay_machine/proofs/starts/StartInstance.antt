-- The instance of linked parts: what is said of linked starts is said of something.
use Rattle.std.proofs.Common.{true, false, refl, arith}
use Rattle.linked_starts.proofs.Offers.{caller, other, pair, each, keeps, start, has_room, starts}
use Rattle.linked_starts.specs.LinkedStarts.{IsLinkedStart}
use Rattle.overlay_machine.specs.Starting.{overlay_at, StartThere}
use Rattle.overlay_machine.proofs.starts.OneOverlay.{is_overlay}

pub is_linked : IsLinkedStart pair 4 start
is_linked = record { accepted = each; room = has_room; rules = keeps; starts = starts }

abbrev pub start_there : StartThere
start_there = record {
  parts = pair;
  size = 4;
  start = start;
  linked = is_linked;
  overlay = overlay_at start;
  over = is_overlay pair 4 start is_linked;
  caller = record { component = caller; trusted = true };
  caller_in = (0, omega arith, refl);
  trusted = refl;
  calls = omega arith;
  entered = omega arith;
  other = record { component = other; trusted = false };
  other_in = (1, omega arith, refl);
  untrusted = refl;
}
