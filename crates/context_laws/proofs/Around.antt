-- Links beside each other have one stack, and an address that code outside may use in the one is free in
-- both.
use Rattle.std.proofs.Common.{◌≡◌, inl, inr, ℕ, zero, suc, ◌≤◌, Bool, true, false, [], ◌∷◌, ◌++◌}
use Rattle.std.proofs.Common.{length, refl, sym, ap, ◌∙◌, subst, arith, leb-true, lt-ltb}
use Rattle.std.specs.Prelude.{nat_le}
use Rattle.std.specs.List.{Contains}
use Rattle.std.proofs.lemmas.Bool.{and_parts}
use Rattle.std.proofs.lemmas.List.Elements.{Contains-append_cases}
use Rattle.lcm_machine.specs.Regions.{Region}
use Rattle.lcm_machine.specs.declared.cells.Span.{Span}
use Rattle.component_check.specs.Rules.{rules_c, c12}
use Rattle.component_check.specs.Verdict.{rule}
use Rattle.call_sequence.specs.SequenceRuns.{IsOutsideRange}
use Rattle.linked_starts.specs.Parts.{PartSeen, IsPart}
use Rattle.linked_starts.specs.Regions.{region, code_span, data_span, linear_span, stack_span}
use Rattle.linked_starts.specs.Regions.{part_regions, in_region, in_regions, region_span, is_stack_size}
use Rattle.linked_starts.specs.Regions.{addresses}
use Rattle.linked_starts.specs.Standing.{placed}
use Rattle.linked_starts.specs.Start.{stack_base_of}
use Rattle.linked_starts.proofs.Offers.{stack_bases, stack_fits, stack_is, region_cases, stretch_of}
use Rattle.linked_starts.proofs.Offers.{listed_at}
use Rattle.overlay_machine.specs.Link.{Link, IsTrusted, IsUntrusted, IsUsable, own_code, own_data, own_linear}
use Rattle.overlay_machine.specs.Link.{the_stack, regions, ranges_of, stack_region, code_region, data_region}
use Rattle.overlay_machine.specs.Linked.{IsLink}
use Rattle.overlay_machine.proofs.Offers.{index_of, any_of}
use Rattle.template_runs.specs.Public.{IsFreeAt}
use Rattle.source_starts.specs.Links.{overlay_link}
use Rattle.source_starts.specs.Sources.{LinkedStart}
use Rattle.context_laws.specs.Sources.{AreBeside, Beside}

-- ---- the stack

abbrev as_region : Span → Region
as_region t = record { base = t.base; end = t.end; linear = true }

-- it is where it begins, with its size
stack_at : (a : LinkedStart) → a.start.stack ≡ addresses (stack_base_of (placed a.parts a.size)) a.size
stack_at a =
    let parts = placed a.parts a.size in
    let stack = as_region a.start.stack in
    let fits = and_parts (is_stack_size a.size) _ (stack_fits parts a.size a.is_start.rules) in
    let there : Contains (region true (stack_span parts a.size)) stack =
    subst (λ o. Contains (region true o) stack) (sym a.is_start.starts.stack) (0, omega arith, refl) in
    ap region_span (sym (stack_is parts a.size stack fits.0 there))

-- all parts say where it begins
base_is : (a : LinkedStart) (p : PartSeen) → Contains (placed a.parts a.size) p
    → p.component.stack_base ≡ stack_base_of (placed a.parts a.size)
base_is a p m =
    let parts = placed a.parts a.size in
    let i = index_of parts p m in
    stack_bases parts a.size a.is_start.rules i.0 p i.1

pub one_stack : (a b : LinkedStart) → Beside a.link b.link → (p : PartSeen)
    → IsUntrusted (overlay_link a.link) p → a.start.stack ≡ b.start.stack
one_stack a b beside p u =
    stack_at a
    ∙ ap (λ n. addresses n a.size) (sym (base_is a p u.0) ∙ base_is b p ((beside.same_parts p).0 u).0)
    ∙ ap (addresses (stack_base_of (placed b.parts b.size))) beside.one_size ∙ sym (stack_at b)

-- ---- a free address of a region is one that code outside may use

-- a region with it in it
record IsUsed (g : Link) (a : ℕ) : Type 0 where
  pub area : Region
  pub runs : Bool
  pub usable : IsUsable g area runs
  pub low : area.base ≤ a
  pub high : a ≤ area.end

-- a trusted part has no linear area
no_linear : (p : PartSeen) → IsPart p → p.trusted ≡ true → 1 ≤ p.component.linear.count → ⊥
unfolding c12
no_linear p is t some =
    is.rules 12 0 (c12 p.component) (ap (λ b. rule (rules_c p.component b) 12) t)
    (omega arith, lt-ltb 0 p.component.linear.count (omega (arith, some)))

module _ (g : Link) (linked : IsLink g) (a : ℕ) (free : IsFreeAt g a) where
  module _ (r : Region) (low : r.base ≤ a) (high : a ≤ r.end) where
    used : (runs : Bool) → IsUsable g r runs → IsUsed g a
    used runs v = record { area = r; runs = runs; usable = v; low = low; high = high }

    of_untrusted : (p : PartSeen) → IsUntrusted g p → Contains (part_regions p) r → IsUsed g a
    of_untrusted p u m =
        elim (Contains-append_cases (region false (code_span p) ++ region false (data_span p))
        (region true (linear_span p)) r m) as (λ _. IsUsed g a) [
          | inr l ↦ used false (own_linear p r u l)
          | inl n ↦ elim (Contains-append_cases (region false (code_span p)) (region false (data_span p)) r n)
              as (λ _. IsUsed g a)
              [ inl c ↦ used true (own_code p r u c) | inr d ↦ used false (own_data p r u d) ]
        ]

    -- a free address is in no region of a trusted part
    not_trusted : (p : PartSeen) → IsTrusted g p → Contains (part_regions p) r → ⊥
    not_trusted p t m =
        elim (Contains-append_cases (region false (code_span p) ++ region false (data_span p))
        (region true (linear_span p)) r m) as (λ _. ⊥) [
          | inr l ↦ no_linear p (linked.parts p t.0) t.1
              (stretch_of p.component.linear.base p.component.linear.count true r l).0
          | inl n ↦ elim (Contains-append_cases (region false (code_span p)) (region false (data_span p)) r n)
              as (λ _. ⊥) [
                | inl c ↦ within (ranges_of p).code_base (ranges_of p).code_last
                    (ap (λ (q : Region). q.base)
                    (stretch_of p.component.code_base (length p.component.code) false r c).1)
                    (ap (λ (q : Region). q.end)
                    (stretch_of p.component.code_base (length p.component.code) false r c).1)
                    (free.0 p t)
                | inr d ↦ within (ranges_of p).data_base (ranges_of p).data_last
                    (ap (λ (q : Region). q.base)
                    (stretch_of p.component.data_base (length p.component.data_words) false r d).1)
                    (ap (λ (q : Region). q.end)
                    (stretch_of p.component.data_base (length p.component.data_words) false r d).1)
                    (free.1 p t)
              ]
        ]
      where
        within : (base last : ℕ) → base ≡ r.base → last ≡ r.end → IsOutsideRange a base last → ⊥
        within base last b e (inl x) = omega (arith, low, b, x)
        within base last b e (inr x) = omega (arith, high, e, x)

    of_stack : Contains (region true (stack_span g.parts g.size)) r → IsUsed g a
    of_stack m =
        let k : Contains (stack_region g.layout ∷ []) r =
        subst (λ o. Contains (region true o) r) linked.stack m in
        used false (subst (λ q. IsUsable g q false) (only (stack_region g.layout) k) the_stack)
      where
        only : (x : Region) → Contains (x ∷ []) r → x ≡ r
        only x (zero, lt, e) = e
        only x (suc k, lt, e) = absurd (omega (arith, lt))

    of_region : Contains (regions g) r → IsUsed g a
    of_region m = elim (region_cases g.parts g.size r m) as (λ _. IsUsed g a) [
      | inr s ↦ of_stack s
      | inl o ↦ by o.part.trusted o.part refl (listed_at g.parts o.index o.part o.at) o.is
    ]
      where
        by : (b : Bool) (p : PartSeen) → p.trusted ≡ b → Contains g.parts p → Contains (part_regions p) r
            → IsUsed g a
        by false p t c n = of_untrusted p (c, t) n
        by true p t c n = absurd (not_trusted p (c, t) n)

  is_used : in_regions a (regions g) ≡ true → IsUsed g a
  is_used e =
      let x = any_of (in_region a) (regions g) e in
      let b = and_parts (nat_le x.0.base a) (nat_le a x.0.end) x.2 in
      of_region x.0 (leb-true x.0.base a b.0) (leb-true a x.0.end b.1) x.1

-- ---- and so of the other

module _ (g h : Link) (lg : IsLink g) (lh : IsLink h) (beside : AreBeside g h)
    (stacks : g.layout.stack ≡ h.layout.stack) where
  usable_too : (r : Region) (runs : Bool) → IsUsable g r runs → IsUsable h r runs
  usable_too r _ (own_code p _ u m) = own_code p r ((beside p).0 u) m
  usable_too r _ (own_data p _ u m) = own_data p r ((beside p).0 u) m
  usable_too r _ (own_linear p _ u m) = own_linear p r ((beside p).0 u) m
  usable_too _ _ the_stack =
      subst (λ s. IsUsable h (as_region s) false)
      (sym stacks) the_stack

  pub free_too : (a : ℕ) → in_regions a (regions g) ≡ true → IsFreeAt g a → IsFreeAt h a
  free_too a e free = (
    λ q t. outside (code_region q) (lh.code q t) (λ k. lh.code_closed u.area u.runs q v t k),
    λ q t. outside (data_region q) (lh.data_there q t) (λ k. lh.data_closed u.area u.runs q v t k),
  )
    where
      u : IsUsed g a
      u = is_used g lg a free e

      v : IsUsable h u.area u.runs
      v = usable_too u.area u.runs u.usable

      outside : (r : Region) → Contains (regions h) r → (u.area ≡ r → ⊥) → IsOutsideRange a r.base r.end
      outside r m other =
          let low = u.low in
          let high = u.high in
          elim (lh.apart u.area r (lh.usable u.area u.runs v) m) as (λ _. IsOutsideRange a r.base r.end) [
            | inl e ↦ absurd (other e)
            | inr (inl b) ↦ inl (omega (arith, high, b))
            | inr (inr b) ↦ inr (omega (arith, low, b))
          ]
