-- Steps, each of which may find nothing.
use Rattle.std.specs.Prelude.{Bool, Option, Some, None, option_and_then, if◌then◌else◌}

infixl 10 ◌>>=◌
abbrev pub ◌>>=◌ : {A B : Type 0} → Option A → (A → Option B) → Option B
o >>= f = option_and_then f o

abbrev pub where_true : {A : Type 0} → Bool → A → Option A
where_true b x = if b then Some x else None
