-- Sites and owners of the parts so far, before they are put in order.
use Rattle.std.specs.Prelude.{◌≡◌, ◌≢◌, ◌⊎◌, ◌↔◌, ℕ, ◌<◌, List, length}
use Rattle.std.specs.List.{AllPairs, Contains}
use Rattle.linked_starts.specs.declared.owners.Site.{Site}
use Rattle.linked_starts.specs.declared.owners.Owner.{Owner}
use Rattle.linked_starts.specs.Parts.{PartSeen}
use Rattle.linked_starts.specs.Owners.{IsSite, IsOwner}

-- those of the parts before one, and the first of its own
abbrev pub ComesBefore : ℕ → ℕ → Site → Type 0
ComesBefore i j s = (s.part < i) ⊎ ((s.part ≡ i) × (s.index < j))

pub record SitesUpto (parts : List PartSeen) (i j : ℕ) (sites : List Site) : Type 0 where
  pub all : (s : Site) → Contains sites s ↔ (IsSite parts s × ComesBefore i j s)
  pub differ : AllPairs (λ s t. s.at ≢ t.at) sites

pub record OwnersUpto (parts : List PartSeen) (i : ℕ) (owners : List Owner) : Type 0 where
  pub all : (o : Owner) → Contains owners o ↔ (IsOwner parts o × (o.part < i))
  pub count : length owners ≡ i
  pub differ : AllPairs (λ o q. o.code.base ≢ q.code.base) owners
