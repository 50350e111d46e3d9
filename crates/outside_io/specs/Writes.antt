-- What writing a text in pieces does to a sink, one write for each.
use Rattle.std.specs.Prelude.{◌≡◌, ℕ, List, ◌∷◌, ◌++◌, length, Result, MatchResult}
use Rattle.std.specs.List.{concat}
use Rattle.outside_io.specs.Counts.{raised}
use Rattle.outside_io.specs.SinkSeen.{SinkSeen, Adds, FailsToWrite, IsOneWrite}
use Rattle.outside_io.specs.declared.outside.Failed.{Failed}

-- all pieces were written, one after the other, each by one write
pub record AddsPieces (old : SinkSeen) (pieces : List (List ℕ)) (new : SinkSeen) : Type 0 where
  pub text : Adds old (concat pieces) new
  pub counted : new.writes ≡ raised old.writes (length pieces)

-- the write of one of the pieces failed, and a front of it stands: those before it were written, and those
-- after it were not begun
pub record FailsAtPiece (old : SinkSeen) (pieces : List (List ℕ)) (new : SinkSeen) : Type 0 where
  pub before : List (List ℕ)
  pub piece : List ℕ
  pub behind : List (List ℕ)
  pub are : pieces ≡ before ++ piece ∷ behind
  pub mid : SinkSeen
  pub written : AddsPieces old before mid
  pub fails : FailsToWrite mid piece new
  pub counted : IsOneWrite mid new

-- all pieces were written, or a write failed
abbrev pub Writes : {A : Type 0} → SinkSeen → List (List ℕ) → Result A Failed → SinkSeen → Type 0
Writes old pieces result new =
    MatchResult result (λ _. AddsPieces old pieces new) (λ _. FailsAtPiece old pieces new)
