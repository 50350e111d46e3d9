-- The faults of a picture.
use Rattle.std.specs.Prelude.{ℕ, List, codes}
use Rattle.run_audit.specs.Fault.{fault_text}
use Rattle.run_picture.specs.declared.fault.DrawFault.{DrawFault}
use Rattle.run_picture.specs.declared.fault.DrawFault.TheVariants.{TooLong, Audit}

abbrev pub draw_fault_text : DrawFault → List ℕ
draw_fault_text TooLong = codes "the text is too long to be drawn"
draw_fault_text (Audit fault) = fault_text fault
