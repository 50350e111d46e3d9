-- Reading the fields of a line, one after another.
use Rattle.std.specs.Prelude.{◌≡◌, ℕ, Bool, true, false, List, [], ◌∷◌, Option, Some, None}
use Rattle.line_fields.specs.Options.{where_true}
use Rattle.line_fields.specs.Cuts.{parts}

-- blanks part the fields of a line
abbrev pub fields : List ℕ → List (List ℕ)
fields line = parts 32 line

-- newlines part the lines of a text
abbrev pub lines : List ℕ → List (List ℕ)
lines text = parts 10 text

-- what is read, and the fields that are left
abbrev pub Reader : Type 0 → Type 0
Reader A = List (List ℕ) → Option (A × List (List ℕ))

abbrev pub reads_on : {A B : Type 0} → Option (A × List (List ℕ)) → (A → Reader B) → Option
    (B × List (List ℕ))
reads_on None f = None
reads_on (Some x) f = f x.0 x.1

infixl 10 ◌>>=◌
abbrev pub ◌>>=◌ : {A B : Type 0} → Reader A → (A → Reader B) → Reader B
(r >>= f) ts = reads_on (r ts) f

abbrev pub done : {A : Type 0} → A → Reader A
done x ts = Some (x, ts)

abbrev pub field : Reader (List ℕ)
field [] = None
field (t ∷ ts) = Some (t, ts)

abbrev pub unless_none : {A : Type 0} → Option A → Reader A
unless_none None ts = None
unless_none (Some x) ts = Some (x, ts)

-- a field that means something
unfoldable pub meant : {A : Type 0} → (List ℕ → Option A) → Reader A
meant meaning = do
  t ← field
  unless_none (meaning t)

-- a field that a test admits
unfoldable pub tested : (List ℕ → Bool) → Reader (List ℕ)
tested test = do
  t ← field
  unless_none (where_true (test t) t)

abbrev pub is_none_left : List (List ℕ) → Bool
is_none_left [] = true
is_none_left (t ∷ ts) = false

-- of what is read, where no field is left
abbrev pub whole : {A : Type 0} → Option (A × List (List ℕ)) → Option A
whole None = None
whole (Some x) = where_true (is_none_left x.1) x.0

-- the answer, seen by view, and the fields left are what is read
abbrev pub GivesAs : {X A : Type 0} → (X → A) → Option X → List (List ℕ) → Option (A × List (List ℕ)) → Type 0
GivesAs view None left read = read ≡ None
GivesAs view (Some x) left read = read ≡ Some (view x, left)
