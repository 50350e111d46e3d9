-- Counts that rise and never wrap.
use Rattle.std.specs.Prelude.{ℕ, ◌+◌, ◌-◌, ◌^◌, ◌≤◌, max, min}

-- a count that rises by so many, up to the greatest number of 64 bits, where it stands still; it never falls
abbrev pub raised : ℕ → ℕ → ℕ
raised old by = max old (min (old + by) (2 ^ 64 - 1))

-- the count rose, or stands at the greatest number there is; it never fell
pub record Rose (old new : ℕ) : Type 0 where
  pub kept : old ≤ new
  pub risen : raised old 1 ≤ new
