use Rattle.std.proofs.Common.{◌≡◌, ◌++◌, take}
use Rattle.std.specs.List.{flat_map, AllByRecursion}
use Rattle.linked_starts.specs.Parts.{IsPart}
use Rattle.image_loader.specs.Image.{part_bytes}
use Rattle.image_loader.proofs.writing.push_parts.Given as goal

abbrev pub invariant-loop-part : goal.invariant-loop-part
invariant-loop-part l = record {
  spelled : l.out.items ≡ l.fn.out.items ++ flat_map part_bytes (take l.part-index l.parts);
  kept : AllByRecursion IsPart (take l.part-index l.parts);
}
