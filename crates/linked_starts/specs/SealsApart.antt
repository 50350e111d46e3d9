-- The seals of linked parts: none is of two parts, and none is of two sites.
use Rattle.std.specs.Prelude.{◌≡◌, ◌≢◌, ℕ, ◌==◌, ◌||◌, Bool, false, IsTrue, List, slice_get, Some}
use Rattle.std.specs.List.{Contains}
use Rattle.seal_space.specs.Seals.{has_seal}
use Rattle.linked_starts.specs.declared.owners.Site.{Site}
use Rattle.linked_starts.specs.Parts.{PartSeen}

-- a part's seals are its closure seal and its return seals
abbrev pub is_seal_of : PartSeen → ℕ → Bool
is_seal_of p seal = (p.component.closure == seal) || has_seal p.component.seals seal

-- no seal is of two parts, and no closure seal is a return seal
pub record PartsApart (parts : List PartSeen) : Type 0 where
  pub between : (i j seal : ℕ) (p q : PartSeen) → slice_get parts i ≡ Some p → slice_get parts j ≡ Some q
      → IsTrue (is_seal_of p seal) → IsTrue (is_seal_of q seal) → i ≡ j
  pub within : (i : ℕ) (p : PartSeen) → slice_get parts i ≡ Some p
      → has_seal p.component.seals p.component.closure ≡ false

-- a site's seal is a return seal of its part, and two sites of one seal are one; it is no closure seal, and
-- no seal of an untrusted part
pub record SitesApart (parts : List PartSeen) (sites : List Site) : Type 0 where
  pub own : (s : Site) → Contains sites s
      → (p : PartSeen) × (slice_get parts s.part ≡ Some p) × IsTrue (has_seal p.component.seals s.seal)
  pub once : (s t : Site) → Contains sites s → Contains sites t → s.seal ≡ t.seal → s ≡ t
  pub no_closure : (s : Site) → Contains sites s → (k : ℕ) (p : PartSeen) → slice_get parts k ≡ Some p
      → s.seal ≢ p.component.closure
  pub no_untrusted : (s : Site) → Contains sites s → (k : ℕ) (p : PartSeen) → slice_get parts k ≡ Some p
      → p.trusted ≡ false → is_seal_of p s.seal ≡ false
