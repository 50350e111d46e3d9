-- No site ends between the last word of one and that of the next.
use Rattle.std.proofs.Common.{◌≡◌, ℕ, zero, suc, ◌+◌, ◌-◌, ◌^◌, ◌<◌, ◌≤◌, Bool, true, false, ◌&&◌, List}
use Rattle.std.proofs.Common.{length, get_or, leb, refl, ap, arith, inl, inr, lt-ltb}
use Rattle.std.specs.Prelude.{nat_le, nat_lt, if◌then◌else◌}
use Rattle.std.specs.List.Sorted.{IsPartitionedBy, IsPartitionPoint}
use Rattle.std.proofs.lemmas.Bool.{cases_lt, leb-true, ltb-true, leb-false}
use Rattle.std.proofs.lemmas.List.{get_or_default}
use Rattle.std.proofs.lemmas.List.Sorted.{IsPartitionedBy-leb}
use Rattle.linked_starts.specs.declared.owners.Site.{Site}
use Rattle.linked_starts.specs.Owners.{SitesAscend}
use Rattle.linked_starts.proofs.Offers.{up_to}
use Rattle.trace_tool.specs.declared.gap.Gap.{Gap}
use Rattle.run_lines.specs.Layout.{no_site}
use Rattle.trace_tool.specs.Gaps.{last_word, behind, ahead, IsGap, IsAround}

outside : (from to a : ℕ) → (from ≤ a → a < to → ⊥) → (nat_le from a && nat_lt a to) ≡ false
outside from to a none = by_tests (nat_le from a) (nat_lt a to) refl refl
  where
    by_tests : (b c : Bool) → nat_le from a ≡ b → nat_lt a to ≡ c → (b && c) ≡ false
    by_tests false c e f = refl
    by_tests true false e f = refl
    by_tests true true e f = absurd (none (leb-true from a e) (ltb-true a to f))

pub behind_is : (sites : List Site) (place : ℕ) (d : Site) → 0 < place → place ≤ length sites
    → behind sites place ≡ last_word (get_or sites (place - 1) d) + 1
behind_is sites zero d some within = absurd (omega (arith, some))
behind_is sites (suc k) d some within =
    (let e : suc k - 1 ≡ k =
    omega arith in
    rw e (ap (λ (s : Site). last_word s + 1) (get_or_default sites k no_site d (omega (arith, within)))))

pub ahead_is : (sites : List Site) (place : ℕ) (d : Site) → place < length sites
    → ahead sites place ≡ last_word (get_or sites place d)
ahead_is sites place d lt =
    rw (lt-ltb place (length sites) lt) (ap last_word (get_or_default sites place no_site d lt))

below : (sites : List Site) (place k : ℕ) (d : Site) → SitesAscend sites → place ≤ length sites → k < place
    → last_word (get_or sites k d) < behind sites place
below sites place k d h within lt =
    let up : (get_or sites k d).at ≤ (get_or sites (place - 1) d).at =
    up_to sites k (place - 1) d h (omega (arith, lt)) (omega (arith, lt, within)) in
    let is = behind_is sites place d (omega (arith, lt)) within in
    omega (arith, up, is)

above : (sites : List Site) (place k : ℕ) (d : Site) → SitesAscend sites → place ≤ k → k < length sites
    → ahead sites place ≤ last_word (get_or sites k d)
above sites place k d h le lt =
    let up : (get_or sites place d).at ≤ (get_or sites k d).at = up_to sites place k d h le lt in
    let is = ahead_is sites place d (omega (arith, le, lt)) in
    omega (arith, up, is)

pub gap_between : (sites : List Site) (place : ℕ) (g : Gap) → SitesAscend sites → place ≤ length sites
    → g.from ≡ behind sites place → g.to ≡ ahead sites place → IsGap sites g
gap_between sites place g h within f t = λ k d lt. outside g.from g.to (last_word (get_or sites k d))
    (λ lo hi. elim (cases_lt k place) as (λ _. ⊥) [
      | inl before ↦ (let b = below sites place k d h within before in omega (arith, lo, b, f))
      | inr from ↦ (let b = above sites place k d h from lt in omega (arith, hi, b, t))
    ])

-- ---- around an address

pub ends_parted : (sites : List Site) (a : ℕ) → SitesAscend sites
    → IsPartitionedBy (λ (s : Site). leb (last_word s) a) sites
ends_parted sites a h =
    IsPartitionedBy-leb last_word sites a
    (λ i j d le lt. let up = up_to sites i j d h le lt in omega (arith, up))

abbrev IsPoint : List Site → ℕ → ℕ → Type 0
IsPoint sites a place =
    IsPartitionPoint (λ (s : Site). leb (last_word s) a ≡ true) (λ (s : Site). leb (last_word s) a ≡ false)
    sites place

from_low : (sites : List Site) (a place : ℕ) → IsPoint sites a place → behind sites place ≤ a + 1
from_low sites a zero p = omega arith
from_low sites a (suc k) p =
    (let le : last_word (get_or sites k no_site) ≤ a =
    leb-true (last_word (get_or sites k no_site)) a (p.0 k no_site (omega arith) (omega arith)) in
    omega (arith, le))

to_high : (sites : List Site) (a place : ℕ) → IsPoint sites a place → a < 2 ^ 63 → a < ahead sites place
to_high sites a place p small = by_test (nat_lt place (length sites)) refl
  where
    by_test : (b : Bool) → nat_lt place (length sites) ≡ b
        → a < (if b then last_word (get_or sites place no_site) else 2 ^ 64 - 1)
    by_test true e =
        leb-false (last_word (get_or sites place no_site))
        a (p.1 place no_site (omega arith) (ltb-true place (length sites) e))
    by_test false e = omega (arith, small)

pub around_at : (sites : List Site) (a place : ℕ) (g : Gap) → IsPoint sites a place → a < 2 ^ 63
    → g.from ≡ behind sites place → g.to ≡ ahead sites place → IsAround a g
around_at sites a place g p small f t =
    let low = from_low sites a place p in
    let high = to_high sites a place p small in
    (omega (arith, f, low), omega (arith, t, high))
