-- The faults of names, and which is the first.
use Rattle.std.specs.Prelude.{ℕ, ◌==◌, nat_le, nat_lt, Bool, true, false, ◌&&◌, ◌||◌, IsTrue, if◌then◌else◌}
use Rattle.std.specs.Prelude.{List, [], ◌∷◌, Option, Some, None, All, Contains}
use Rattle.proc_names.specs.declared.fault.NameFault.{NameFault}
use Rattle.proc_names.specs.declared.fault.NameFault.TheVariants.{Unknown, Twice, Arity, WrongKind}

-- the faults by number
abbrev pub fault_number : NameFault → ℕ
fault_number (Unknown at) = 6
fault_number (Twice at) = 7
fault_number (Arity at) = 8
fault_number (WrongKind at) = 9

abbrev pub fault_place : NameFault → ℕ
fault_place (Unknown at) = at
fault_place (Twice at) = at
fault_place (Arity at) = at
fault_place (WrongKind at) = at

-- f comes before g: it stands before it, or at the same place with no higher number
unfoldable pub comes_first : NameFault → NameFault → Bool
comes_first f g =
    nat_lt (fault_place f) (fault_place g)
    || ((fault_place f == fault_place g) && nat_le (fault_number f) (fault_number g))

-- it is one of them, and none of them comes before it
pub record IsFirstFault (fs : List NameFault) (f : NameFault) : Type 0 where
  pub one : Contains fs f
  pub least : All (λ g. IsTrue (comes_first f g)) fs

-- the first of what was found in two parts
abbrev pub earlier : Option NameFault → Option NameFault → Option NameFault
earlier None found = found
earlier (Some f) None = Some f
earlier (Some f) (Some g) = if comes_first f g then Some f else Some g

-- the first of all, part by part
abbrev pub first : List NameFault → Option NameFault
first [] = None
first (f ∷ fs) = earlier (Some f) (first fs)

-- a fault where it doesn't hold
abbrev pub unless : Bool → NameFault → List NameFault
unless true f = []
unless false f = f ∷ []
