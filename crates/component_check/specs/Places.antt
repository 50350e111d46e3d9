-- Rules that are broken at places, and the first place of a rule.
use Rattle.std.specs.Prelude.{◌≡◌, ℕ, zero, suc, ◌<◌, Bool, true, false, List, length, slice_index_or, Option}
use Rattle.std.specs.Prelude.{Some, None, option_map, if◌then◌else◌}

-- a rule: how many places it is tried at, whether it is broken at the one of each index, and what a
-- report names as that place
pub record Test (P : Type 0) : Type 0 where
  pub count : ℕ
  pub broken : ℕ → Bool
  pub place : ℕ → P

-- a rule whose places are named by their index
abbrev pub plainly : ℕ → (ℕ → Bool) → Test ℕ
plainly count broken = record { count = count; broken = broken; place = λ i. i }

-- a rule of so many tests, each broken or not
abbrev pub each_of : List Bool → Test ℕ
each_of broken = plainly (length broken) (λ i. slice_index_or broken i false)

abbrev pub BrokenAt : {P : Type 0} → Test P → ℕ → Type 0
BrokenAt t i = (i < t.count) × (t.broken i ≡ true)

-- the first index below n at which it is broken
abbrev pub or_here : Option ℕ → ℕ → Bool → Option ℕ
or_here (Some p) n b = Some p
or_here None n b = if b then Some n else None

abbrev pub first_below : (ℕ → Bool) → ℕ → Option ℕ
first_below broken zero = None
first_below broken (suc n) = or_here (first_below broken n) n (broken n)

abbrev pub first_of : {P : Type 0} → Test P → Option ℕ
first_of t = first_below t.broken t.count

-- the first place of a rule that is broken somewhere
abbrev pub first_place : {P : Type 0} → Test P → Option P
first_place t = option_map t.place (first_of t)

-- what a search finds that asks of one index after another: Says i b is that the answer at i is b
abbrev pub FoundBy : (ℕ → Bool → Type 0) → ℕ → Option ℕ → Type 0
FoundBy Says count None = (i : ℕ) → i < count → Says i false
FoundBy Says count (Some p) = (p < count) × Says p true × ((i : ℕ) → i < p → Says i false)

pub record FirstBy (Says : ℕ → Bool → Type 0) (count : ℕ) (found_at : Option ℕ) : Type 0 where
  pub found : FoundBy Says count found_at
