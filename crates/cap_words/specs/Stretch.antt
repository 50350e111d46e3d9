-- So many places from a first one on: addresses, or seals. There may be none.
use Rattle.std.specs.Prelude.{ℕ}

pub record Stretch : Type 0 where
  pub base : ℕ
  pub count : ℕ
