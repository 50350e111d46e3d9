-- Addresses of trusted parts, and of areas that untrusted code may use.
use Rattle.std.proofs.Common.{◌≡◌, ◌≢◌, ◌⊎◌, inl, inr, ℕ, ◌<◌, ◌≤◌, Bool, true, false, List, length, ◌++◌}
use Rattle.std.proofs.Common.{Some, refl, sym, ap, subst, ◌∙◌, arith, leb-true, lt-ltb}
use Rattle.std.specs.Prelude.{nat_le, nat_lt}
use Rattle.std.specs.List.{Contains}
use Rattle.std.proofs.lemmas.Bool.{cases_lt, and_parts}
use Rattle.std.proofs.lemmas.List.Elements.{Contains-append_left, Contains-append_right}
use Rattle.std.proofs.lemmas.List.Elements.{Contains-append_cases}
use Rattle.std.proofs.lemmas.List.Folds.{Any-from_list_any}
use Rattle.lcm_machine.specs.Regions.{Region}
use Rattle.component_check.specs.Places.{Test}
use Rattle.component_check.specs.Verdict.{rule}
use Rattle.component_check.specs.Rules.{rules_c, c12}
use Rattle.call_sequence.specs.SequenceWords.{IsInRange}
use Rattle.linked_starts.specs.Parts.{PartSeen, IsPart, rules_of}
use Rattle.linked_starts.specs.Regions.{region, code_span, data_span, linear_span, part_regions, in_region}
use Rattle.linked_starts.specs.Regions.{in_regions}
use Rattle.linked_starts.proofs.Offers.{in_regions_is, in_stretch, stretch_of}
use Rattle.overlay_machine.specs.Link.{Link, IsTrusted, IsUntrusted, IsUsable, own_code, own_data, own_linear}
use Rattle.overlay_machine.specs.Link.{the_stack, IsOpenAt, code_region, data_region, regions, ranges_of}
use Rattle.overlay_machine.specs.Linked.{IsLink}
use Rattle.overlay_machine.proofs.Offers.{same_region}
use Rattle.confinement.specs.Confined.{InCode, InPart}

-- an address of regions is one of one of them
pub over_area : (rs : List Region) (a : ℕ) → in_regions a rs ≡ true
    → (r : Region) × Contains rs r × (r.base ≤ a) × (a ≤ r.end)
over_area rs a h =
    let x = Any-from_list_any (in_region a) rs h in
    let r = x.1 in
    let k = and_parts (nat_le r.base a) (nat_le a r.end) x.4 in
    (r, (x.0, x.2, x.3), leb-true r.base a k.0, leb-true a r.end k.1)

-- a rule C of a trusted part isn't broken
pub unbroken : (p : PartSeen) → IsPart p → (n i : ℕ) (t : Test ℕ) → rule (rules_of p) n ≡ Some t
    → i < t.count
    → t.broken i ≡ false
unbroken p h n i t is lt = by_test (t.broken i) refl
  where
    by_test : (b : Bool) → t.broken i ≡ b → t.broken i ≡ false
    by_test true e = absurd (h.rules n i t is (lt, e))
    by_test false e = e

-- C12: a trusted part has no linear area
no_linear : (p : PartSeen) → IsPart p → p.trusted ≡ true → 1 ≤ p.component.linear.count → ⊥
unfolding c12
no_linear p h trusted some =
    let fine : nat_lt 0 p.component.linear.count ≡ false =
    unbroken p h 12 0 (c12 p.component) (ap (λ b. rule (rules_c p.component b) 12) trusted) (omega arith) in
    let bad : true ≡ false = sym (lt-ltb 0 p.component.linear.count (omega (arith, some))) ∙ fine in
    cc

-- ---- a part's regions

in_code_there : (p : PartSeen) (r : Region) → Contains (region false (code_span p)) r
    → Contains (part_regions p) r
in_code_there p r m =
    Contains-append_left (region false (code_span p) ++ region false (data_span p))
    (region true (linear_span p)) r
    (Contains-append_left (region false (code_span p)) (region false (data_span p)) r m)

in_data_there : (p : PartSeen) (r : Region) → Contains (region false (data_span p)) r
    → Contains (part_regions p) r
in_data_there p r m =
    Contains-append_left (region false (code_span p) ++ region false (data_span p))
    (region true (linear_span p)) r
    (Contains-append_right (region false (code_span p)) (region false (data_span p)) r m)

in_linear_there : (p : PartSeen) (r : Region) → Contains (region true (linear_span p)) r
    → Contains (part_regions p) r
in_linear_there p r m = Contains-append_right (region false (code_span p) ++ region false (data_span p))
    (region true (linear_span p)) r m

-- code
pub code_range : (p : PartSeen) (a : ℕ) → InCode p a
    → IsInRange a (ranges_of p).code_base (ranges_of p).code_last
code_range p a h =
    let x = over_area (region false (code_span p)) a h in
    let e = (stretch_of p.component.code_base (length p.component.code) false x.0 x.1).1 in
    (subst (λ (r : Region). r.base ≤ a) (sym e) x.2, subst (λ (r : Region). a ≤ r.end) (sym e) x.3)

pub range_code : (p : PartSeen) (a : ℕ) → 1 ≤ length p.component.code
    → IsInRange a (ranges_of p).code_base (ranges_of p).code_last → InCode p a
range_code p a some y =
    in_regions_is a (region false (code_span p)) (code_region p)
    (in_stretch p.component.code_base (length p.component.code) false some) y.0 y.1

module _ (g : Link) (linked : IsLink g) where
  -- an address of no trusted part's code
  pub away : (a : ℕ) → ((p : PartSeen) → IsTrusted g p → ¬ (InCode p a)) → IsOpenAt g a
  away a h p ip =
      let r = ranges_of p in
      elim (cases_lt a r.code_base) as (λ _. (a < r.code_base) ⊎ (r.code_last < a)) [
        | inl low ↦ inl low
        | inr ge ↦ elim (cases_lt r.code_last a) as (λ _. (a < r.code_base) ⊎ (r.code_last < a)) [
          | inl high ↦ inr high
          | inr le ↦
              absurd (h p ip (range_code p a (linked.parts p ip.0).limits.code.0.0
              (omega (arith, ge), omega (arith, le))))
        ]
      ]

  -- a region of a trusted part is its code or its data
  trusted_region : (p : PartSeen) (r : Region) → IsTrusted g p → Contains (part_regions p) r
      → (r ≡ code_region p) ⊎ (r ≡ data_region p)
  trusted_region p r ip n =
      elim (Contains-append_cases (region false (code_span p) ++ region false (data_span p))
      (region true (linear_span p)) r n) as (λ _. (r ≡ code_region p) ⊎ (r ≡ data_region p)) [
        | inl x ↦
            elim (Contains-append_cases (region false (code_span p)) (region false (data_span p)) r x)
            as (λ _. (r ≡ code_region p) ⊎ (r ≡ data_region p)) [
              | inl c ↦
                  inl (sym (stretch_of p.component.code_base (length p.component.code) false r c).1)
              | inr d ↦
                  inr (sym (stretch_of p.component.data_base (length p.component.data_words) false r d).1)
            ]
        | inr x ↦
            absurd (no_linear p (linked.parts p ip.0) ip.1
            (stretch_of p.component.linear.base p.component.linear.count true r x).0)
      ]

  -- an address of a region that is the code and the data of no trusted part is in no trusted part
  pub region_apart : (area : Region) (a : ℕ) → Contains (regions g) area → area.base ≤ a → a ≤ area.end
      → ((p : PartSeen) → IsTrusted g p → area ≢ code_region p)
      → ((p : PartSeen) → IsTrusted g p → area ≢ data_region p)
      → (p : PartSeen) → IsTrusted g p → ¬ (InPart p a)
  region_apart area a there low high other_code other_data p ip h =
      let x = over_area (part_regions p) a h in
      let r = x.0 in
      let low_r = x.2 in
      let high_r = x.3 in
      elim (trusted_region p r ip x.1) as (λ _. ⊥) [
        | inl e ↦
            other_code p ip (same_region g linked area (code_region p) a there (linked.code p ip) low high
            (subst (λ (y : Region). y.base ≤ a) e low_r) (subst (λ (y : Region). a ≤ y.end) e high_r))
        | inr e ↦
            other_data p ip (same_region g linked area (data_region p) a there (linked.data_there p ip) low
            high (subst (λ (y : Region). y.base ≤ a) e low_r)
            (subst (λ (y : Region). a ≤ y.end) e high_r))
      ]

  -- and in no trusted part's code, where it is no trusted part's code
  pub region_no_code : (area : Region) (a : ℕ) → Contains (regions g) area → area.base ≤ a → a ≤ area.end
      → ((p : PartSeen) → IsTrusted g p → area ≢ code_region p)
      → (p : PartSeen) → IsTrusted g p → ¬ (InCode p a)
  region_no_code area a there low high other p ip h =
      let y = code_range p a h in
      other p ip (same_region g linked area (code_region p) a there (linked.code p ip) low high y.0 y.1)

  module _ (area : Region) (runs : Bool) (usable : IsUsable g area runs) (a : ℕ) (low : area.base ≤ a)
      (high : a ≤ area.end) where
    -- an address that untrusted code may use is in no trusted part
    pub usable_apart : (p : PartSeen) → IsTrusted g p → ¬ (InPart p a)
    usable_apart =
        region_apart area a (linked.usable area runs usable) low high
        (λ p ip. linked.code_closed area runs p usable ip) (λ p ip. linked.data_closed area runs p
        usable ip)

    pub usable_no_code : (p : PartSeen) → IsTrusted g p → ¬ (InCode p a)
    usable_no_code = region_no_code area a (linked.usable area runs usable) low high
        (λ p ip. linked.code_closed area runs p usable ip)

  -- it is an untrusted part's or the stack's
  pub whose : (area : Region) (runs : Bool) → IsUsable g area runs → (a : ℕ) → area.base ≤ a → a ≤ area.end
      → ((p : PartSeen) × IsUntrusted g p × InPart p a)
      ⊎ ((g.layout.stack.base ≤ a) × (a ≤ g.layout.stack.end))
  whose area runs (own_code p r u m) a low high =
      inl (p, u, in_regions_is a (part_regions p) area (in_code_there p area m) low high)
  whose area runs (own_data p r u m) a low high =
      inl (p, u, in_regions_is a (part_regions p) area (in_data_there p area m) low high)
  whose area runs (own_linear p r u m) a low high =
      inl (p, u, in_regions_is a (part_regions p) area (in_linear_there p area m) low high)
  whose area runs the_stack a low high = inr (low, high)
