-- The numbers of tokens: what a running procedure has of them, and what became of all of them.
use Rattle.std.specs.Prelude.{ℕ, ◌+◌, ◌==◌, List, [], ◌∷◌, Option, Some, None, if◌then◌else◌}
use Rattle.std.specs.Prelude.{replicate, slice_index_or, slice_set, flat_map}

pub record Hands : Type 0 where
  -- for each token of a running procedure its number, or nothing
  pub holds : List (Option ℕ)
  -- the numbers that were made in it, or handed to it
  pub got : List ℕ
  -- those that it spent
  pub spent : List ℕ
  -- those that it handed on
  pub gave : List ℕ

pub record Ledger : Type 0 where
  -- the next unused number
  pub next : ℕ
  -- the numbers that were spent
  pub spent : List ℕ
  -- what each procedure had that ended by `return` or after its last statement, when it did
  pub ended : List Hands

abbrev pub no_numbers : Ledger
no_numbers = record { next = 0; spent = []; ended = [] }

-- the number of the token of this place
abbrev pub in_hand : Hands → ℕ → Option ℕ
in_hand hands i = slice_index_or hands.holds i None

-- ---- what becomes of hands

-- the first tokens have the numbers that are handed over
abbrev pub handed : List ℕ → List (Option ℕ) → List (Option ℕ)
handed [] holds = holds
handed (n ∷ ns) [] = []
handed (n ∷ ns) (h ∷ holds) = Some n ∷ handed ns holds

-- of a procedure with so many tokens
abbrev pub begun : ℕ → List ℕ → Hands
begun size ns = record { holds = handed ns (replicate size None); got = ns; spent = []; gave = [] }

abbrev pub with_made : ℕ → ℕ → Hands → Hands
with_made i n hands = record {
  holds = slice_set hands.holds i (Some n);
  got = n ∷ hands.got;
  spent = hands.spent;
  gave = hands.gave;
}

abbrev pub with_spent : ℕ → ℕ → Hands → Hands
with_spent i n hands = record {
  holds = slice_set hands.holds i None;
  got = hands.got;
  spent = n ∷ hands.spent;
  gave = hands.gave;
}

abbrev pub with_given : ℕ → ℕ → Hands → Hands
with_given i n hands = record {
  holds = slice_set hands.holds i None;
  got = hands.got;
  spent = hands.spent;
  gave = n ∷ hands.gave;
}

-- ---- what is noted

abbrev pub note_made : Ledger → Ledger
note_made book = record { next = book.next + 1; spent = book.spent; ended = book.ended }

abbrev pub note_spent : ℕ → Ledger → Ledger
note_spent n book = record { next = book.next; spent = n ∷ book.spent; ended = book.ended }

abbrev pub note_ended : Hands → Ledger → Ledger
note_ended hands book = record { next = book.next; spent = book.spent; ended = hands ∷ book.ended }

-- what these procedures spent, all together
abbrev pub spent_by : List Hands → List ℕ
spent_by ended = flat_map (λ hands. hands.spent) ended

-- ---- how often a number is among some

abbrev pub one : ℕ → ℕ → ℕ
one n m = if n == m then 1 else 0

abbrev pub count : ℕ → List ℕ → ℕ
count n [] = 0
count n (m ∷ ms) = one n m + count n ms
