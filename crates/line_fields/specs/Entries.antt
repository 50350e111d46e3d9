-- What fields name.
use Rattle.std.specs.Prelude.{ℕ, List}

-- a procedure: its part and its own name
pub record EntrySeen : Type 0 where
  pub part : List ℕ
  pub name : List ℕ

-- a call: its part, its number there, and the address at which its frame begins
pub record CallSeen : Type 0 where
  pub part : List ℕ
  pub site : ℕ
  pub base : ℕ
