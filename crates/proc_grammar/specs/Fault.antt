-- The faults of a source.
use Rattle.std.specs.Prelude.{◌≡◌, ℕ, Option, Some, None, Result, Ok, Err}
use Rattle.text_scan.specs.declared.fault.ScanFault.{ScanFault}
use Rattle.text_scan.specs.declared.fault.ScanFault.TheVariants as scans
use Rattle.text_scan.specs.Fault as scan
use Rattle.proc_grammar.specs.declared.fault.ParseFault.{ParseFault}
use Rattle.proc_grammar.specs.declared.fault.ParseFault.TheVariants.{Scan, Expected, Range, TooMany, NoMemory}

-- the faults by number
abbrev pub fault_number : ParseFault → ℕ
fault_number (Scan fault) = 1
fault_number (Expected at) = 2
fault_number (Range at) = 3
fault_number (TooMany at) = 4
fault_number NoMemory = 5

-- the place that a fault tells, and 0 where it tells none
abbrev pub fault_place : ParseFault → ℕ
fault_place (Scan fault) = scan.fault_place fault
fault_place (Expected at) = at
fault_place (Range at) = at
fault_place (TooMany at) = at
fault_place NoMemory = 0

-- the place of a number, a name, an item, a term, an argument or a bracket that is beyond a limit
abbrev pub limit_place : ParseFault → Option ℕ
limit_place (Range at) = Some at
limit_place (TooMany at) = Some at
limit_place _ = None

abbrev pub of_scan : ScanFault → ParseFault
of_scan scans.NoMemory = NoMemory
of_scan fault = Scan fault

-- the fault is what reading gives, unless memory was refused
abbrev pub Fails : {A : Type 0} → ParseFault → Result A ParseFault → Type 0
Fails NoMemory read = Unit {0}
Fails e read = read ≡ Err e

-- the answer, seen by view, is what reading gives, unless memory was refused
abbrev pub AnswersAs : {A B : Type 0} → (A → B) → Result A ParseFault → Result B ParseFault → Type 0
AnswersAs view (Ok x) read = read ≡ Ok (view x)
AnswersAs view (Err e) read = Fails e read
