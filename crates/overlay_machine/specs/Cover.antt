-- How many places of an overlay have a capability over an address.
use Rattle.std.specs.Prelude.{ℕ, zero, suc, ◌+◌, ◌≤◌, ◌↔◌, List, [], ◌∷◌, ◌++◌, length}
use Rattle.std.specs.List.{count_by}
use Rattle.cap_words.specs.declared.Word.{Word}
use Rattle.lcm_machine.specs.Maps.{State}
use Rattle.lcm_machine.specs.Regions.{Region, IsLinearAt, word_over, CoveredOnce}
use Rattle.lcm_machine.specs.Counts.{cover_count}
use Rattle.trusted_border.specs.declared.layout.Layout.{Layout}
use Rattle.overlay_machine.specs.State.{OpenFrame, OState, framed}
use Rattle.overlay_machine.specs.Flat.{flat, IsFlat}
use Rattle.overlay_machine.specs.Invariant.{FramesLie}

-- n addresses from one on
abbrev pub addresses : ℕ → ℕ → List ℕ
addresses a zero = []
addresses a (suc n) = a ∷ addresses (a + 1) n

-- those of frames
abbrev pub framed_addresses : List OpenFrame → List ℕ
framed_addresses [] = []
framed_addresses (f ∷ fs) = addresses f.base (length f.words) ++ framed_addresses fs

-- The registers and cells, and the addresses of frames, whose word stands for a memory capability over an
-- address, sealed or not. So a RetData counts for the range of its frame.
unfoldable pub cover : Layout → OState → ℕ → ℕ
cover l o a =
    cover_count (flat l o.frames) o.maps a
    + count_by (λ b. word_over (flat l o.frames) (framed o.frames b) a) (framed_addresses o.frames)

-- Where a plain state is the overlay flattened, and its frames lie in order: that no two places of the plain
-- state have capabilities over one address of a linear region is the same as that each such address has at
-- most one in the overlay.
abbrev pub CoverIsOnce : Type 0
CoverIsOnce =
    (rs : List Region) (l : Layout) (o : OState) (t : State Word) → IsFlat l o t
    → FramesLie l o.maps.cells o.calls o.frames
    → CoveredOnce (λ w. w) rs t ↔ ((a : ℕ) → IsLinearAt rs a → cover l o a ≤ 1)
