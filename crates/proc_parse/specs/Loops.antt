-- What is read after what was read before.
use Rattle.std.specs.Prelude.{ℕ, ◌-◌, nat_lt, Bool, true, length, List, ◌∷◌, ◌++◌, Result}
use Rattle.readers.specs.Readers.{◌>>=◌, goes_on, done, holds}
use Rattle.proc_grammar.specs.declared.fault.ParseFault.TheVariants.{TooMany}
use Rattle.proc_grammar.specs.declared.fault.ParseFault.{ParseFault}
use Rattle.proc_grammar.specs.Lexemes.{Meaning, adding, sign, end_round, a_proc}
use Rattle.proc_grammar.specs.Makes.{Actions}
use Rattle.proc_grammar.specs.Grammar.{one_more, sum_of, room_in_body}
use Rattle.proc_grammar.specs.Reader.{Input, Reader, one, many}
use Rattle.proc_grammar.specs.Reading.{full, another_term, inner_expr}
use Rattle.proc_grammar.specs.Reading.{next_proc}

-- items after others
unfoldable pub with_front : {A : Type 0} → List A → Result (List A × Input) ParseFault
    → Result (List A × Input) ParseFault
with_front front read = goes_on read (λ xs. done (front ++ xs))

-- Items, each read in the state in which those before it leave.
module _ {Q A B : Type 0} (begins : Meaning B) (next : Q → A → Q) (another : Q → Reader A) where
  -- after some, in this state; n in all at most
  unfoldable pub in_all : ℕ → List A → Q → Reader (List A)
  in_all n front q i = with_front front (many (n - length front) begins next another q i)

  module _ (item : Q → Reader A) where
    -- an item in this state, and those behind it; n of these at most
    unfoldable pub item_on : ℕ → Q → Reader (List A)
    item_on n q = do
      first ← item q
      others ← many n begins next another (next q first)
      done (first ∷ others)

    -- after some, where an item stands next
    unfoldable pub behind_some : List A → Q → Reader (List A)
    behind_some front q i = with_front front (item_on (full - length front) q i)

    -- from the first one up to the closing bracket
    abbrev pub listed : Q → Reader (List A)
    listed q = do
      first ← item q
      others ← many full begins next another (next q first)
      _ ← one (sign end_round)
      done (first ∷ others)

module _ {E A S P V R M : Type 0} (T : Actions E A S P V R M) where
  -- the terms after the sum so far, which has so many
  unfoldable pub terms_behind : ℕ → ℕ → ℕ → E → Reader E
  terms_behind room n count sum =
      many n adding one_more (another_term T true full room (inner_expr T true full room)) count
      >>= λ others. done (sum_of T sum others)

  -- an expression and the closing bracket, after the opening one at this place, where that fits
  unfoldable pub bracketed : ℕ → Bool → ℕ → ℕ → Reader E
  bracketed room fits end at = do
    _ ← holds fits (TooMany at)
    _ ← holds (nat_lt 0 room) (TooMany at)
    e ← inner_expr T true full room true
    _ ← one (sign end)
    done e

  unfoldable pub procs_list : Reader (List R)
  procs_list =
      item_on a_proc one_more (next_proc T true full room_in_body) (next_proc T true full room_in_body) full 0
