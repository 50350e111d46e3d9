-- Computations that tell something and note what becomes of the numbers of tokens, and the pieces that the
-- meaning of tokens is made of.
use Rattle.std.specs.Prelude.{ℕ, zero, suc, Bool, true, false, List, [], ◌∷◌, Option, Some, None}
use Rattle.source_events.specs.declared.Item.{Item}
use Rattle.source_events.specs.declared.OutEvent.{OutEvent}
use Rattle.source_events.specs.declared.End.{End}
use Rattle.source_events.specs.declared.End.TheVariants.{Fail, Waiting, OutOfFuel}
use Rattle.source_events.specs.declared.Told.{Told}
use Rattle.proc_semantics.specs.Told as plain
use Rattle.proc_semantics.specs.Told.{counted, said}
use Rattle.token_semantics.specs.Hands.{Hands, Ledger, in_hand, with_made, with_spent, with_given}
use Rattle.token_semantics.specs.Hands.{note_made, note_spent, note_ended}

-- what is told, and what was noted at the end; or, where a token was not as a rule wants it, up to there
pub record TokensTold : Type 0 where
  pub stuck : Bool
  pub told : Told
  pub ledger : Ledger

-- a computation: what is told from what is noted, and from the fuel and the feed that are left
abbrev pub Comp : Type 0
Comp = Ledger → ℕ → List Item → TokensTold

abbrev pub ends : End → Comp
ends e book fuel feed = record { stuck = false; told = plain.ends e fuel feed; ledger = book }

abbrev pub fails : Comp
fails = ends Fail

abbrev pub stuck : Comp
stuck book fuel feed = record { stuck = true; told = plain.fails fuel feed; ledger = book }

abbrev pub with_told : (Told → Told) → TokensTold → TokensTold
with_told f t = record { stuck = t.stuck; told = f t.told; ledger = t.ledger }

-- ---- ticks, events and items of the feed

abbrev pub tick : Comp → Comp
tick m book zero feed = ends OutOfFuel book zero feed
tick m book (suc fuel) feed = with_told counted (m book fuel feed)

abbrev pub ticks : ℕ → Comp → Comp
ticks zero m = m
ticks (suc n) m = tick (ticks n m)

abbrev pub emit : OutEvent → Comp → Comp
emit e m book fuel feed = with_told (said e) (m book fuel feed)

abbrev pub take_item : (Item → Comp) → Comp
take_item next book fuel [] = ends Waiting book fuel []
take_item next book fuel (i ∷ feed) = next i book fuel feed

-- it fails where there is nothing to go on with
abbrev pub or_fail : {A : Type 0} → Option A → (A → Comp) → Comp
or_fail None k = fails
or_fail (Some x) k = k x

-- ---- tokens by their places; it is stuck at a name of none, which no resolved module has

abbrev pub made : ℕ → Option ℕ → Hands → (Hands → Comp) → Comp
made i None hands k book = k (with_made i book.next hands) (note_made book)
made i (Some n) hands k book = stuck book

-- an empty token takes the next unused number
abbrev pub make_at : Option ℕ → Hands → (Hands → Comp) → Comp
make_at None hands k = stuck
make_at (Some i) hands k = made i (in_hand hands i) hands k

abbrev pub spent : ℕ → Option ℕ → Hands → (Hands → Comp) → Comp
spent i None hands k book = stuck book
spent i (Some n) hands k book = k (with_spent i n hands) (note_spent n book)

-- the number of a full token is spent
abbrev pub spend_at : Option ℕ → Hands → (Hands → Comp) → Comp
spend_at None hands k = stuck
spend_at (Some i) hands k = spent i (in_hand hands i) hands k

abbrev pub given : ℕ → Option ℕ → Hands → (ℕ → Hands → Comp) → Comp
given i None hands k = stuck
given i (Some n) hands k = k n (with_given i n hands)

-- the number of a full token is handed on
abbrev pub give_at : Option ℕ → Hands → (ℕ → Hands → Comp) → Comp
give_at None hands k = stuck
give_at (Some i) hands k = given i (in_hand hands i) hands k

-- a procedure ends
abbrev pub leave : Hands → Comp → Comp
leave hands m book = m (note_ended hands book)
