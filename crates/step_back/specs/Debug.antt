-- What the calls of a debugger do.
use Rattle.std.specs.Prelude.{ℕ, zero, suc, ◌==◌, Bool, true, false, not, ◌&&◌, List, [], ◌∷◌, take, Option}
use Rattle.std.specs.Prelude.{Some, None, is_some, if◌then◌else◌, ℤ, pos, negsuc}
use Rattle.std.specs.Ordering.{nat_cmp}
use Rattle.std.specs.FinSet as set
use Rattle.lcm_machine.specs.declared.End.{End}
use Rattle.lcm_machine.specs.Ends.{end_answer}
use Rattle.lcm_machine.specs.Row.{pc_at}
use Rattle.lcm_machine.specs.Run.{Run, next_state}
use Rattle.step_back.specs.declared.debugger.Stop.{Stop}
use Rattle.step_back.specs.declared.debugger.Stop.TheVariants.{Break, Ended, Spent}
use Rattle.step_back.specs.declared.stops.TheConstants.{MOST_STOPS}
use Rattle.step_back.specs.Seen.{Debugging}

-- at a state, with nothing before it and no breakpoint
abbrev pub debugging_from : Run → ℕ → Debugging
debugging_from s depth = record { now = s; before = []; stops = set.empty; depth = depth }

-- the next state comes, and of those before it the oldest goes where there are too many
abbrev pub forward_by : Option End → Debugging → Debugging
forward_by None d = record d { now = next_state d.now; before = take d.depth (d.now ∷ d.before) }
forward_by (Some e) d = d

-- a machine that has ended stays
unfoldable pub forward : Debugging → Debugging
forward d = forward_by d.now.end d

abbrev pub back_by : List Run → Debugging → Debugging
back_by [] d = d
back_by (s ∷ ss) d = record d { now = s; before = ss }

-- the newest of the states before is the one that it is in, where there is one
unfoldable pub back : Debugging → Debugging
back d = back_by d.before d

abbrev pub any : List Run → Bool
any [] = false
any (s ∷ ss) = true

abbrev pub can_go_back : Debugging → Bool
can_go_back d = any d.before

-- ---- breakpoints

-- so many others are set that this one can't be
abbrev pub is_full : set.FinSet nat_cmp → ℕ → Bool
is_full stops at = not (set.contains stops at) && (set.len stops == MOST_STOPS)

abbrev pub with_stop : set.FinSet nat_cmp → ℕ → set.FinSet nat_cmp
with_stop stops at = if is_full stops at then stops else set.insert stops at

abbrev pub is_at : set.FinSet nat_cmp → ℤ → Bool
is_at stops (pos a) = set.contains stops a
is_at stops (negsuc a) = false

-- pc is at a breakpoint, and the machine hasn't ended
abbrev pub is_stop : Debugging → Bool
is_stop d = not (is_some d.now.end) && is_at d.stops (pc_at (λ w. w) d.now.maps)

-- ---- several steps

-- forward until the machine has ended, pc comes to a breakpoint, or n steps are made
abbrev pub spent : Option End → Stop
spent (Some e) = Ended (end_answer e)
spent None = Spent

abbrev pub go_by : Option End → ℕ → Debugging → Stop × Debugging
go_by (Some e) n d = (Ended (end_answer e), d)
go_by None zero d = (Spent, d)
go_by None (suc n) d =
    if is_stop (forward d) then (Break, forward d) else go_by (forward d).now.end n (forward d)

unfoldable pub go : ℕ → Debugging → Stop × Debugging
go n d = go_by d.now.end n d

-- back n times, or as often as it can
abbrev pub go_back : ℕ → Debugging → Debugging
go_back zero d = d
go_back (suc n) d = go_back n (back d)
