-- The place of a token among those of its procedure, and which of them are full.
use Rattle.std.specs.Prelude.{ℕ, ◌+◌, Bool, true, false, ◌&&◌, not, if◌then◌else◌, List, [], ◌∷◌}
use Rattle.std.specs.Prelude.{replicate, Option, Some, None, slice_set, slice_index_or}
use Rattle.std.specs.List.{list_all}
use Rattle.proc_language.specs.declared.tree.Name.{Name}
use Rattle.proc_names.specs.Names.{same}
use Rattle.token_language.specs.declared.module.TokenParam.{TokenParam}
use Rattle.token_language.specs.declared.module.TokenParam.TheVariants as param

-- the place of a name among tokens, counted from n
abbrev pub place_among : List Name → Name → ℕ → Option ℕ
place_among [] x n = None
place_among (y ∷ ys) x n = if same y x then Some n else place_among ys x (n + 1)

abbrev pub token_at : List Name → Name → Option ℕ
token_at tokens x = place_among tokens x 0

-- ---- for each token of a procedure, by its place, whether it is full

abbrev pub Full : Type 0
Full = List Bool

abbrev pub is_full : Full → ℕ → Bool
is_full full i = slice_index_or full i false

-- no token is full
abbrev pub is_clear : Full → Bool
is_clear full = list_all not full

abbrev pub alike : Bool → Bool → Bool
alike true b = b
alike false b = not b

abbrev pub equal_sets : Full → Full → Bool
equal_sets [] [] = true
equal_sets [] (b ∷ t) = false
equal_sets (a ∷ s) [] = false
equal_sets (a ∷ s) (b ∷ t) = alike a b && equal_sets s t

-- none of this many
abbrev pub none_full : ℕ → Full
none_full n = replicate n false

-- the token parameters are full, the first of which has this place
abbrev pub params_full : List TokenParam → ℕ → Full → Full
params_full [] n full = full
params_full (param.Plain q ∷ qs) n full = params_full qs n full
params_full (param.Token x ∷ qs) n full = params_full qs (n + 1) (slice_set full n true)
