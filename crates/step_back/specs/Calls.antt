-- Lists of calls, and what is so after any of them.
use Rattle.std.specs.Prelude.{◌≡◌, ℕ, suc, ◌-◌, ◌<◌, ◌≤◌, List, [], ◌∷◌, slice_get, Some, reverse}
use Rattle.std.specs.Prelude.{length, drop}
use Rattle.std.specs.FinSet as set
use Rattle.lcm_machine.specs.Run.{Run, plain}
use Rattle.step_back.specs.Seen.{Debugging}
use Rattle.step_back.specs.Debug.{forward, back, go, go_back, with_stop}

-- a call that may change a debugger
pub data Call : Type 0 where
  Forward : Call
  Back : Call
  StopAt : (at : ℕ) → Call
  Clear : (at : ℕ) → Call
  Go : (n : ℕ) → Call
  GoBack : (n : ℕ) → Call

abbrev pub after_call : Call → Debugging → Debugging
after_call Forward d = forward d
after_call Back d = back d
after_call (StopAt at) d = record d { stops = with_stop d.stops at }
after_call (Clear at) d = record d { stops = set.remove d.stops at }
after_call (Go n) d = (go n d).1
after_call (GoBack n) d = go_back n d

abbrev pub after_all : List Call → Debugging → Debugging
after_all [] d = d
after_all (c ∷ cs) d = after_all cs (after_call c d)

-- the state is that of the run from s with its count, and those before it are those of one step less, of two
-- less, and so on, as many as there may be at most
pub record Remembers (s : Run) (d : Debugging) : Type 0 where
  pub now : d.now ≡ plain d.now.count s
  pub before : (k : ℕ) (t : Run) → slice_get d.before k ≡ Some t
      → (k < d.now.count) × (t ≡ plain (d.now.count - suc k) s)
  pub few : length d.before ≤ d.depth

-- all its states, the newest last
abbrev pub states : Debugging → List Run
states d = reverse (d.now ∷ d.before)

-- the last n
abbrev pub latest : ℕ → List Run → List Run
latest n ss = drop (length ss - n) ss
