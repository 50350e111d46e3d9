-- How the faults of a feed print.
use Rattle.std.specs.Prelude.{ℕ, ◌++◌, List, codes, decimal}
use Rattle.line_fields.specs.declared.fault.FeedFault.{FeedFault}
use Rattle.line_fields.specs.declared.fault.FeedFault.TheVariants.{Line, NoMemory}

abbrev pub feed_fault_text : FeedFault → List ℕ
feed_fault_text (Line line) = codes "line " ++ decimal line ++ codes " is not of the form of a feed's"
feed_fault_text NoMemory = codes "out of memory"
