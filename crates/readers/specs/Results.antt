-- Answers one after another.
use Rattle.std.specs.Prelude.{Result, Ok, Err}

-- the first fault wins
infixl 10 ◌>>=◌
abbrev pub ◌>>=◌ : {F A B : Type 0} → Result A F → (A → Result B F) → Result B F
(Ok x) >>= f = f x
(Err e) >>= f = Err e
