-- Seals of a range, and ranges that have none in common.
use Rattle.std.specs.Prelude.{ℕ, zero, suc, ◌+◌, ◌-◌, ◌==◌, nat_le, nat_lt, Bool, IsTrue, ◌&&◌, ◌||◌, Option}
use Rattle.std.specs.Prelude.{Some, None, if◌then◌else◌}
use Rattle.cap_words.specs.Stretch.{Stretch}

-- a seal is one of the range
abbrev pub has_seal : Stretch → ℕ → Bool
has_seal r seal = nat_le r.base seal && nat_lt seal (r.base + r.count)

-- no seal is of both
abbrev pub NoneInBoth : Stretch → Stretch → Type 0
NoneInBoth a b = (seal : ℕ) → IsTrue (has_seal a seal) → IsTrue (has_seal b seal) → ⊥

-- one is empty, or one ends before the other begins
abbrev pub are_disjoint : Stretch → Stretch → Bool
are_disjoint a b =
    ((a.count == 0) || (b.count == 0))
    || (nat_le (a.base + a.count) b.base || nat_le (b.base + b.count) a.base)

-- the next seal of a lot, if one is left
abbrev pub next_of : Stretch → Option ℕ
next_of lot = if lot.count == 0 then None else Some lot.base

-- what is left of a lot after a draw, and after n draws: nothing changes where nothing is left
abbrev pub after_draw : Stretch → Stretch
after_draw lot = if lot.count == 0 then lot else record { base = lot.base + 1; count = lot.count - 1 }

unfoldable pub after_draws : ℕ → Stretch → Stretch
after_draws zero lot = lot
after_draws (suc n) lot = after_draws n (after_draw lot)
