-- The faults of tokens: their numbers and places.
use Rattle.std.specs.Prelude.{ℕ}
use Rattle.token_check.specs.declared.fault.TokenFault.{TokenFault}
use Rattle.token_check.specs.declared.fault.TokenFault.TheVariants as fault

-- the faults by number
abbrev pub fault_number : TokenFault → ℕ
fault_number (fault.Empty at) = 12
fault_number (fault.Full at) = 13
fault_number (fault.Kept at) = 14
fault_number (fault.Split at) = 15
fault_number (fault.Dead at) = 16

abbrev pub fault_place : TokenFault → ℕ
fault_place (fault.Empty at) = at
fault_place (fault.Full at) = at
fault_place (fault.Kept at) = at
fault_place (fault.Split at) = at
fault_place (fault.Dead at) = at
