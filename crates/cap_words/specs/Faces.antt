-- What a face, a permission or a range says.
use Rattle.std.specs.Prelude.{ℕ, ◌==◌, nat_lt, nat_le, Bool, true, false, ◌&&◌, not, ℤ, pos, negsuc}
use Rattle.std.specs.Prelude.{[], ◌∷◌, slice_get, Option, Some, None, if◌then◌else◌}
use Rattle.cap_words.specs.declared.Perm.{Perm}
use Rattle.cap_words.specs.declared.Perm.TheVariants.{No, R as ReadOnly, Rw, Rx, Rwx}
use Rattle.cap_words.specs.declared.CapFields.{CapFields}
use Rattle.cap_words.specs.declared.SealFields.{SealFields}
use Rattle.cap_words.specs.declared.Face.{Face}
use Rattle.cap_words.specs.declared.Face.TheVariants.{Number, Memory, Seals, Sealed}
use Rattle.cap_words.specs.Linear.{lin_is}
use Rattle.cap_words.specs.Ranges.{in_range}

-- how programs number the permissions
abbrev pub perm_number : Perm → ℕ
perm_number No = 0
perm_number ReadOnly = 1
perm_number Rw = 2
perm_number Rx = 3
perm_number Rwx = 4

-- what each permission allows
abbrev pub may_write : Perm → Bool
may_write Rw = true
may_write Rwx = true
may_write _ = false

abbrev pub may_read : Perm → Bool
may_read No = false
may_read _ = true

abbrev pub may_run : Perm → Bool
may_run Rx = true
may_run Rwx = true
may_run _ = false

-- an address within the range
abbrev pub covers : CapFields → ℤ → Bool
covers c z = in_range c.base c.end z

-- the integer, if the word is one
abbrev pub int_in : Face → Option ℤ
int_in (Number z) = Some z
int_in _ = None

-- the memory capability, if the word is one
abbrev pub memory_in : Face → Option CapFields
memory_in (Memory c) = Some c
memory_in _ = None

-- the number of the kind of a word
abbrev pub face_number : Face → ℤ
face_number (Number z) = pos 0
face_number (Memory c) = pos 1
face_number (Seals s) = pos 2
face_number (Sealed l) = pos 3

-- a memory capability is linear where it says so, and a sealed word where its content is
abbrev pub face_linear : Face → Bool
face_linear (Number z) = false
face_linear (Memory c) = lin_is c.lin
face_linear (Seals s) = false
face_linear (Sealed l) = lin_is l

-- an integer as an address; one below 0, which is no address, counts as 0
abbrev pub address : ℤ → ℕ
address (pos n) = n
address (negsuc n) = 0

-- the address that a load or store goes to, where it is in the range
abbrev pub target_of : Face → Option ℕ
target_of (Memory c) = if covers c c.addr then Some (address c.addr) else None
target_of _ = None

-- both linear, or neither
abbrev pub same_lin : Bool → Bool → Bool
same_lin true b = b
same_lin false b = not b

-- the same permission, and both linear or neither: only such capabilities can be joined
abbrev pub same_kind : CapFields → CapFields → Bool
same_kind a b = (perm_number a.perm == perm_number b.perm) && same_lin (lin_is a.lin) (lin_is b.lin)

-- at this address the range falls into two that are not empty: base to it, and the rest
abbrev pub can_split : CapFields → ℤ → Bool
can_split c (pos n) = nat_le c.base n && nat_lt n c.end
can_split c (negsuc n) = false

-- the seal capability, if the word is one
abbrev pub seals_in : Face → Option SealFields
seals_in (Seals s) = Some s
seals_in _ = None

-- the address, base and end of a capability of either kind, and else -1
abbrev pub face_address : Face → ℤ
face_address (Number z) = negsuc 0
face_address (Memory c) = c.addr
face_address (Seals s) = s.cur
face_address (Sealed l) = negsuc 0

abbrev pub face_base : Face → ℤ
face_base (Number z) = negsuc 0
face_base (Memory c) = pos c.base
face_base (Seals s) = pos s.base
face_base (Sealed l) = negsuc 0

abbrev pub face_end : Face → ℤ
face_end (Number z) = negsuc 0
face_end (Memory c) = pos c.end
face_end (Seals s) = pos s.end
face_end (Sealed l) = negsuc 0

-- the number of a memory capability's permission, and else -1
abbrev pub face_perm : Face → ℤ
face_perm (Number z) = negsuc 0
face_perm (Memory c) = pos (perm_number c.perm)
face_perm (Seals s) = negsuc 0
face_perm (Sealed l) = negsuc 0

-- the permission of a number: perm_number read backwards
abbrev pub perm_at : ℤ → Option Perm
perm_at (pos n) = slice_get (No ∷ ReadOnly ∷ Rw ∷ Rx ∷ Rwx ∷ []) n
perm_at (negsuc n) = None

-- it allows no more than the other: what it allows, the other allows too
abbrev pub is_below : Perm → Perm → Bool
is_below No q = true
is_below ReadOnly q = may_read q
is_below Rw q = may_write q
is_below Rx q = may_run q
is_below Rwx q = may_write q && may_run q

-- a seal within the range
abbrev pub seals_at : SealFields → ℤ → Bool
seals_at s z = in_range s.base s.end z
