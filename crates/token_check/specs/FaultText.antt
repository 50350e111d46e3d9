-- How the faults of tokens print.
use Rattle.std.specs.Prelude.{ℕ, List, codes, ◌++◌}
use Rattle.cap_words.specs.FaultText.{at_byte}
use Rattle.token_check.specs.declared.fault.TokenFault.{TokenFault}
use Rattle.token_check.specs.declared.fault.TokenFault.TheVariants as fault
use Rattle.token_check.specs.Faults.{fault_place}

-- what stands after the place
abbrev pub why_of : TokenFault → List ℕ
why_of (fault.Empty at) = codes "this token is empty"
why_of (fault.Full at) = codes "this token is full"
why_of (fault.Kept at) = codes "a token is still full"
why_of (fault.Split at) = codes "other tokens are full on another way"
why_of (fault.Dead at) = codes "nothing leads here"

abbrev pub token_fault_text : TokenFault → List ℕ
token_fault_text fault = at_byte (fault_place fault) (codes ": " ++ why_of fault)
