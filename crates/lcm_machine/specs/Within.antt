-- Steps in a stretch of addresses, up to an `xjmp`.
use Rattle.std.specs.Prelude.{ℕ, ℤ, pos, negsuc, Bool, true, false, ◌&&◌, not, is_some, nat_le, nat_lt}
use Rattle.cap_words.specs.declared.Word.{Word}
use Rattle.lcm_machine.specs.declared.steps.Which.{Which}
use Rattle.lcm_machine.specs.declared.steps.Which.TheVariants.{All, Within}
use Rattle.lcm_machine.specs.Maps.{State}
use Rattle.lcm_machine.specs.Row.{pc_at, jump_at}
use Rattle.lcm_machine.specs.Run.{Run}

-- the addresses from one on, up to below another
abbrev pub lies : ℕ → ℕ → ℤ → Bool
lies from to (pos a) = nat_le from a && nat_lt a to
lies from to (negsuc n) = false

-- ---- which steps a loop makes

abbrev pub stands_in : Which → ℤ → Bool
stands_in All z = true
stands_in (Within from to) z = lies from to z

abbrev pub jumps_by : Which → Bool → Bool
jumps_by All jumps = true
jumps_by (Within from to) jumps = not jumps

-- the next step is one of these
unfoldable pub is_of : {W : Type 0} → (W → Word) → Which → State W → Bool
is_of look which s = stands_in which (pc_at look s) && jumps_by which (is_some (jump_at look s))

-- and the machine hasn't ended
unfoldable pub is_next : Which → Run → Bool
is_next which s = not (is_some s.end) && is_of (λ w. w) which s.maps

-- ---- what a run in a stretch makes

-- the machine hasn't ended, pc's address is one of the stretch, and the instruction there is no `xjmp`
unfoldable pub within : ℕ → ℕ → Run → Bool
within from to s =
    not (is_some s.end)
    && (lies from to (pc_at (λ w. w) s.maps) && not (is_some (jump_at (λ w. w) s.maps)))
