-- How the faults of names print.
use Rattle.std.specs.Prelude.{ℕ, List, codes, ◌++◌}
use Rattle.cap_words.specs.FaultText.{at_byte}
use Rattle.proc_names.specs.declared.fault.NameFault.{NameFault}
use Rattle.proc_names.specs.declared.fault.NameFault.TheVariants.{Unknown, Twice, Arity, WrongKind}
use Rattle.proc_names.specs.Faults.{fault_place}

-- what stands after the place
abbrev pub why_of : NameFault → List ℕ
why_of (Unknown at) = codes "there is nothing of this name"
why_of (Twice at) = codes "this name is taken"
why_of (Arity at) = codes "other arguments than it takes"
why_of (WrongKind at) = codes "a name of something else"

abbrev pub name_fault_text : NameFault → List ℕ
name_fault_text fault = at_byte (fault_place fault) (codes ": " ++ why_of fault)
