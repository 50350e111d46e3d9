-- What more fuel does to a meaning.
use Rattle.std.specs.Prelude.{◌≡◌, ℕ, ◌+◌, ◌<◌, ◌≤◌, ◌⊎◌, List, ◌++◌}
use Rattle.source_events.specs.declared.Item.{Item}
use Rattle.source_events.specs.declared.End.TheVariants.{OutOfFuel}
use Rattle.source_events.specs.declared.Told.{Told}
use Rattle.proc_semantics.specs.Values.{World}
use Rattle.proc_semantics.specs.Meaning.{meaning}

abbrev pub Prefix : {A : Type 0} → List A → List A → Type 0
Prefix {A} xs ys = (rest : List A) × (ys ≡ xs ++ rest)

-- no more ticks than the fuel, and as many where it ran out
abbrev pub Within : ℕ → Told → Type 0
Within fuel t = (t.ticks ≤ fuel) × (t.end ≡ OutOfFuel → t.ticks ≡ fuel)

-- with more fuel the same is told; or the fuel had run out, after as many ticks and some of the same events,
-- and with more there are more ticks
abbrev pub Later : ℕ → Told → Told → Type 0
Later fuel t more =
    (t ≡ more)
    ⊎ ((t.end ≡ OutOfFuel) × (t.ticks ≡ fuel) × (fuel < more.ticks) × Prefix t.events more.events)

-- what the meaning of a feed ends with: what is told under some fuel that didn't run out
pub record EndsWith (world : World) (stack : ℕ) (feed : List Item) (t : Told) : Type 0 where
  pub fuel : ℕ
  pub told : meaning world stack feed fuel ≡ t
  pub ended : t.end ≡ OutOfFuel → ⊥

pub record FuelLaws : Type 0 where
  pub within : (world : World) (stack : ℕ) (feed : List Item) (fuel : ℕ)
      → Within fuel (meaning world stack feed fuel)
  pub later : (world : World) (stack : ℕ) (feed : List Item) (fuel more : ℕ)
      → Later fuel (meaning world stack feed fuel) (meaning world stack feed (fuel + more))
  -- the end is the same under every greater fuel, and so there is one
  pub lasting : (world : World) (stack : ℕ) (feed : List Item) (t : Told) (ends : EndsWith world stack feed t)
      (more : ℕ) → meaning world stack feed (ends.fuel + more) ≡ t
  pub one : (world : World) (stack : ℕ) (feed : List Item) (t u : Told)
      → EndsWith world stack feed t → EndsWith world stack feed u → t ≡ u
  -- as much fuel as there are ticks tells it, and less runs out
  pub exact : (world : World) (stack : ℕ) (feed : List Item) (t : Told) → EndsWith world stack feed t
      → (fuel : ℕ) → (t.ticks ≤ fuel → meaning world stack feed fuel ≡ t)
      × (fuel < t.ticks → (meaning world stack feed fuel).end ≡ OutOfFuel)
