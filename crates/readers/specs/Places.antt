-- Inputs in which one symbol stands after another, each at its place.
use Rattle.std.specs.Prelude.{ℕ, ◌==◌, List, length, Result, Ok, Err, if◌then◌else◌}
use Rattle.readers.specs.Readers.{Reader}

-- what is still to be read, and the place of the first of it
pub record Ahead (S : Type 0) : Type 0 where
  pub at : ℕ
  pub rest : List S

-- the place of what stands next
abbrev pub here : {S F : Type 0} → Reader (Ahead S) F ℕ
here i = Ok (i.at, i)

-- nothing may stand after what was read
abbrev pub finished : {S F A : Type 0} → (ℕ → F) → Result (A × Ahead S) F → Result A F
finished trailing (Ok x) = if length x.1.rest == 0 then Ok x.0 else Err (trailing x.1.at)
finished trailing (Err e) = Err e

-- what a text is read as, from its place 0 to its end
abbrev pub read_whole : {S F A : Type 0} → (ℕ → F) → Reader (Ahead S) F A → List S → Result A F
read_whole trailing r text = finished trailing (r (record { at = 0; rest = text }))
