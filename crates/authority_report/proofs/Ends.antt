-- Which places are before the one after an end.
use Rattle.std.proofs.Common.{◌≡◌, ℕ, ◌+◌, ◌<◌, ◌≤◌, true, false, arith}
use Rattle.std.specs.Prelude.{nat_lt}
use Rattle.std.proofs.lemmas.Bool.{lt-ltb, le-ltb}

pub up_to : (a end : ℕ) → a ≤ end → nat_lt a (end + 1) ≡ true
up_to a end h = lt-ltb a (end + 1) (omega (arith, h))

pub behind : (a end : ℕ) → end < a → nat_lt a (end + 1) ≡ false
behind a end h = le-ltb a (end + 1) (omega (arith, h))
