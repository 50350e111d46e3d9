-- Which lines of a feed break the form that they must have.
use Rattle.std.specs.Prelude.{◌≡◌, ◌↔◌, ◌<◌, ◌++◌, ℕ, zero, suc, Bool, true, false, IsTrue, List, [], ◌∷◌}
use Rattle.std.specs.Prelude.{codes, IsSome, is_some, IsOk, Err}
use Rattle.cap_words.specs.Names.{is_name}
use Rattle.line_fields.specs.Cuts.{behind}
use Rattle.line_fields.specs.Numbers.{natural_in}
use Rattle.line_fields.specs.Forms.{back_in, handed_in}
use Rattle.line_fields.specs.Fields.{fields, lines}
use Rattle.line_fields.specs.declared.fault.FeedFault.TheVariants.{Line}
use Rattle.line_fields.specs.Feed.{fed}

-- ---- fields after the words with which a line begins

-- enter PART EXPORT STK A0 A1 A2 A3 BACK: nine fields
abbrev pub IsEnterForm : List (List ℕ) → Type 0
IsEnterForm (part ∷ name ∷ stk ∷ a0 ∷ a1 ∷ a2 ∷ a3 ∷ back ∷ []) =
    IsTrue (is_name part) × IsTrue (is_name name) × IsSome (back_in back)
IsEnterForm _ = ⊥

-- ret out PART SITE BASE END A0 : WORDS: at least eight fields
abbrev pub IsRetForm : List (List ℕ) → Type 0
IsRetForm (part ∷ site ∷ base ∷ last ∷ a0 ∷ colon ∷ words) =
    IsTrue (is_name part) × IsSome (natural_in site) × IsSome (natural_in base) × IsSome (natural_in last)
    × (colon ≡ codes ":")
IsRetForm _ = ⊥

-- pass P0 P1 P2: four fields
abbrev pub IsPassForm : List (List ℕ) → Type 0
IsPassForm (p0 ∷ p1 ∷ p2 ∷ []) = IsSome (handed_in p0) × IsSome (handed_in p1) × IsSome (handed_in p2)
IsPassForm _ = ⊥

-- ---- lines

-- right after an `enter` line or not
pub record KeepsForm (entry : Bool) (line : List ℕ) : Type 0 where
  pub enter : (rest : List ℕ) → line ≡ codes "enter " ++ rest → IsEnterForm (fields rest)
  pub ret : (rest : List ℕ) → line ≡ codes "ret out " ++ rest → IsRetForm (fields rest)
  pub pass : (rest : List ℕ) → entry ≡ true → line ≡ codes "pass " ++ rest → IsPassForm (fields rest)

abbrev pub begins_enter : List ℕ → Bool
begins_enter line = is_some (behind (codes "enter ") line)

-- a line by its number, where the first has number 1 and stands right after an `enter` line or not
abbrev pub IsBadLine : Bool → List (List ℕ) → ℕ → Type 0
IsBadLine entry [] n = ⊥
IsBadLine entry (line ∷ rest) zero = ⊥
IsBadLine entry (line ∷ rest) (suc zero) = ¬ KeepsForm entry line
IsBadLine entry (line ∷ rest) (suc (suc n)) = IsBadLine (begins_enter line) rest (suc n)

-- the line of this number breaks its form, and none before it does
abbrev pub IsFirstBad : List ℕ → ℕ → Type 0
IsFirstBad text n =
    IsBadLine false (lines text) n × ((m : ℕ) → m < n → ¬ IsBadLine false (lines text) m)

-- ---- laws

-- wherever stacks begin
abbrev pub FirstBadIsTold : Type 0
FirstBadIsTold = (base n : ℕ) (text : List ℕ) → (fed base text ≡ Err (Line n)) ↔ IsFirstBad text n

abbrev pub OthersAreFed : Type 0
OthersAreFed =
    (base : ℕ) (text : List ℕ) → IsOk (fed base text) ↔ ((n : ℕ) → ¬ IsBadLine false (lines text) n)
