-- How many places are free.
use Rattle.std.specs.Prelude.{ℕ, zero, suc, ◌+◌, List, if◌then◌else◌}
use Rattle.authority_report.specs.Has.{has}

-- of the places below n
unfoldable pub free_below : List ℕ → ℕ → ℕ
free_below next zero = 0
free_below next (suc n) = (if has next n then 0 else 1) + free_below next n
