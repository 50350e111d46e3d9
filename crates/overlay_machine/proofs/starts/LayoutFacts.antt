-- The sites and the owners of a start, as an overlay finds them.
use Rattle.std.proofs.Common.{◌≡◌, inl, inr, ℕ, zero, suc, ◌+◌, ◌-◌, ◌<◌, ◌≤◌, Bool, true, false, not, List}
use Rattle.std.proofs.Common.{[], ◌∷◌, length, get_or, map, Option, Some, None, refl, sym, ap, subst, ◌∙◌}
use Rattle.std.proofs.Common.{arith, eq-eqb, le-leb, lt-ltb}
use borrow.Author.Tests.{eqb-true}
use Rattle.std.specs.Prelude.{slice_get, find, position, ◌==◌, ◌&&◌, nat_lt, ◌^◌, option_and_then, ℤ}
use Rattle.std.specs.Prelude.{if◌then◌else◌}
use Rattle.std.specs.List.{Contains, list_any}
use Rattle.std.proofs.lemmas.Bool.{cases_order, and_parts, not-true}
use Rattle.std.proofs.lemmas.Option.{slice_get_within, get_or_from_slice_get}
use Rattle.cap_words.specs.declared.CapFields.{CapFields}
use Rattle.cap_words.specs.declared.Perm.{Perm}
use Rattle.cap_words.specs.declared.Perm.TheVariants.{No, R, Rw, Rx, Rwx}
use Rattle.cap_words.specs.declared.Lin.{Lin}
use Rattle.cap_words.specs.declared.Lin.TheVariants.{Normal, Linear}
use Rattle.cap_words.specs.declared.Face.TheVariants.{Memory}
use Rattle.cap_words.specs.Faces.{perm_number}
use Rattle.cap_words.specs.Linear.{lin_is}
use Rattle.component_file.specs.declared.component.ComponentFields.{ComponentFields}
use Rattle.component_file.specs.declared.component.Export.{Export}
use Rattle.call_sequence.specs.Places.{begins_entry, begins_site}
use Rattle.linked_starts.specs.declared.owners.Site.{Site}
use Rattle.linked_starts.specs.declared.owners.Owner.{Owner}
use Rattle.linked_starts.specs.declared.owners.Entry.{Entry}
use Rattle.linked_starts.specs.Parts.{PartSeen}
use Rattle.linked_starts.specs.Owners.{IsSite, AreSites, AreOwners, owner_of, placed_entry}
use Rattle.linked_starts.specs.Linked.{Linked}
use Rattle.linked_starts.proofs.Offers.{apart_parts, code_in, whole}
use Rattle.trusted_border.specs.declared.layout.Layout.{Layout}
use Rattle.trusted_border.specs.declared.layout.SiteCode.{SiteCode}
use Rattle.trusted_border.specs.Layout.{runs_part, trusted_owner, numbered, site_at, has_entry_at, with_code}
use Rattle.trusted_border.specs.Layout.{code_in as code_among, site_code}
use Rattle.overlay_machine.specs.Linked.{any_pc}
use Rattle.overlay_machine.specs.Names.{declared_site}
use Rattle.overlay_machine.proofs.starts.ListFacts.{first_is, later_is, listed_at, index_of, one_at, found_is}
use Rattle.overlay_machine.proofs.starts.ListFacts.{only_found, any_is, any_of, position_is, is_placed}
use Rattle.overlay_machine.proofs.starts.ListFacts.{place_below}

-- ---- parts by their code

-- an address of a part's code
abbrev pub InCode : PartSeen → ℕ → Type 0
InCode p a = (p.component.code_base ≤ a) × (a < p.component.code_base + length p.component.code)

code_apart : (parts : List PartSeen) (size k n a : ℕ) (p q : PartSeen) → Linked parts size → k < n
    → slice_get parts k ≡ Some p → slice_get parts n ≡ Some q → InCode p a → InCode q a → ⊥
code_apart parts size k n a p q linked lt at_k at_n in_p in_q =
    let r = whole p.component.code_base (length p.component.code) false in
    let s = whole q.component.code_base (length q.component.code) false in
    let some_p = (linked.closed.kept k p at_k).limits.code.0.0 in
    let some_q = (linked.closed.kept n q at_n).limits.code.0.0 in
    let apart =
    apart_parts parts size k n p q r s linked.apart lt at_k at_n (code_in p some_p) (code_in q some_q) in
    let low_p = in_p.0 in let high_p = in_p.1 in let low_q = in_q.0 in let high_q = in_q.1 in
    elim apart as (λ _. ⊥) [
      | inl e ↦ omega (arith, e, low_p, high_p, low_q, high_q)
      | inr e ↦
          omega (arith, e, low_p, high_p, low_q, high_q)
    ]

-- two parts with a common address of their code are one
pub one_part : (parts : List PartSeen) (size k n a : ℕ) (p q : PartSeen) → Linked parts size
    → slice_get parts k ≡ Some p → slice_get parts n ≡ Some q → InCode p a → InCode q a → k ≡ n
one_part parts size k n a p q linked at_k at_n in_p in_q = elim (cases_order k n) as (λ _. k ≡ n) [
  | inl e ↦ e
  | inr (inl lt) ↦ absurd (code_apart parts size k n a p q linked lt at_k at_n in_p in_q)
  | inr (inr lt) ↦ absurd (code_apart parts size n k a q p linked lt at_n at_k in_q in_p)
]

-- the first address of a part's code
pub first_in_code : (parts : List PartSeen) (size k : ℕ) (p : PartSeen) → Linked parts size
    → slice_get parts k ≡ Some p → InCode p p.component.code_base
first_in_code parts size k p linked at = let some =
    (linked.closed.kept k p at).limits.code.0.0 in (omega arith, omega (arith, some))

-- ---- tests

rx_is : (p : Perm) → (perm_number p == 3) ≡ true → p ≡ Rx
rx_is No e = absurd cc
rx_is R e = absurd cc
rx_is Rw e = absurd cc
rx_is Rx e = refl
rx_is Rwx e = absurd cc

normal_is : (l : Lin) → lin_is l ≡ false → l ≡ Normal
normal_is Normal e = refl
normal_is Linear e = absurd cc

same_cap : (a b : CapFields) → a.perm ≡ b.perm → a.lin ≡ b.lin → a.base ≡ b.base → a.end ≡ b.end
    → a.addr ≡ b.addr → a ≡ b
same_cap a b perm lin base end addr =
    λ i. record { perm = perm i; lin = lin i; base = base i; end = end i; addr = addr i }

runs_is : (c : CapFields) (o : Owner) → runs_part c o ≡ true
    → (o.trusted ≡ true) × (c.perm ≡ Rx) × (c.lin ≡ Normal) × (c.base ≡ o.code.base) × (c.end ≡ o.code.end)
runs_is c o e =
    let a = and_parts _ (c.end == o.code.end) e in
    let b = and_parts _ (c.base == o.code.base) a.0 in
    let d = and_parts _ (not (lin_is c.lin)) b.0 in
    let f = and_parts o.trusted (perm_number c.perm == 3) d.0 in (
      f.0,
      rx_is c.perm f.1,
      normal_is c.lin (not-true (lin_is c.lin) d.1),
      eqb-true c.base o.code.base b.1,
      eqb-true c.end o.code.end a.1,
    )

-- ---- entries

-- an entry is that of an export
unlisted : (c : ComponentFields) (es : List Export) (x : Entry) → Contains (map (placed_entry c) es) x
    → (e : Export) × Contains es e × (placed_entry c e ≡ x)
unlisted c [] x m = absurd (omega (arith, m.1))
unlisted c (e ∷ es) x (zero, lt, q) = (e, (0, omega arith, refl), q)
unlisted c (e ∷ es) x (suc k, lt, q) = let y =
    unlisted c es x (k, omega (arith, lt), q) in (y.0, later_is e y.0 es y.1, y.2)

unmapped : (c : ComponentFields) (es : List Export) (a : ℕ)
    → list_any (λ (e : Entry). e.at == a) (map (placed_entry c) es) ≡ true
    → (e : Export) × Contains es e × (c.code_base + e.offset ≡ a)
unmapped c es a t =
    let x = any_of (λ (e : Entry). e.at == a) (map (placed_entry c) es) t in
    let y = unlisted c es x.0 x.1 in
    (y.0, y.1, ap (λ (z : Entry). z.at) y.2 ∙ eqb-true (x.0).at a x.2)

-- and each export has one
relisted : (c : ComponentFields) (es : List Export) (e : Export) → Contains es e
    → Contains (map (placed_entry c) es) (placed_entry c e)
relisted c [] e m = absurd (omega (arith, m.1))
relisted c (x ∷ xs) e (zero, lt, q) =
    subst (Contains (placed_entry c x ∷ map (placed_entry c) xs)) (ap (placed_entry c) q)
    (first_is (placed_entry c x) (map (placed_entry c) xs))
relisted c (x ∷ xs) e (suc k, lt, q) =
    later_is (placed_entry c x) (placed_entry c e) (map (placed_entry c) xs)
    (relisted c xs e (k, omega (arith, lt), q))

-- ---- owners

-- a site with the code of its part
abbrev pub site_code_of : Site → PartSeen → SiteCode
site_code_of s p =
    let c = p.component in
    record { seal = s.seal; base = c.code_base; end = c.code_base + length c.code - 1; at = s.at }

-- the site of a number
pub record NumberedSite (parts : List PartSeen) (l : Layout) (j : ℕ) (c : SiteCode) : Type 0 where
  pub site : Site
  pub at : slice_get l.sites j ≡ Some site
  pub is : IsSite parts site
  pub code_is : c ≡ site_code_of site is.of

module _ (parts : List PartSeen) (size : ℕ) (l : Layout) (linked : Linked parts size)
    (owners : AreOwners parts l.owners) where
  pub owner_listed : (k : ℕ) (p : PartSeen) → slice_get parts k ≡ Some p → Contains l.owners (owner_of k p)
  unfolding owner_of
  owner_listed k p at = (owners.all (owner_of k p)).1 (record { of = p; of_is = at; is = refl })

  -- an owner is found by its part's number
  pub owner_numbered : (k : ℕ) (p : PartSeen) → slice_get parts k ≡ Some p
      → find (λ o. o.part == k) l.owners ≡ Some (owner_of k p)
  unfolding owner_of
  owner_numbered k p at =
      only_found (λ o. o.part == k) l.owners (owner_of k p) (owner_listed k p at) (eq-eqb k k refl) only
    where
      only : (o : Owner) → Contains l.owners o → (o.part == k) ≡ true → o ≡ owner_of k p
      only o m t =
          let is = (owners.all o).0 m in
          let same : o.part ≡ k = eqb-true o.part k t in
          let part : is.of ≡ p = one_at parts o.part k is.of p is.of_is at same in
          is.is ∙ ap (λ n. owner_of n is.of) same ∙ ap (owner_of k) part

  -- who may run as trusted code is one of the parts, and pc is over its whole code
  pub trusted_is : (c : CapFields) (o : Owner) → trusted_owner l (Memory c) ≡ Some o
      → (p : PartSeen) × (slice_get parts o.part ≡ Some p) × (p.trusted ≡ true) × (c ≡ any_pc p c.addr)
      × (o ≡ owner_of o.part p)
  unfolding owner_of
  trusted_is c o e =
      let f = found_is (runs_part c) l.owners o e in
      let is = (owners.all o).0 f.0 in
      let r = runs_is c o f.1 in
      let trusted : is.of.trusted ≡ true = sym (ap (λ (x : Owner). x.trusted) is.is) ∙ r.0 in
      let base : c.base ≡ is.of.component.code_base = r.3 ∙ ap (λ (x : Owner). x.code.base) is.is in
      let end : c.end ≡ is.of.component.code_base + length is.of.component.code - 1 =
      r.4 ∙ ap (λ (x : Owner). x.code.end) is.is in
      (is.of, is.of_is, trusted, same_cap c (any_pc is.of c.addr) r.1 r.2 base end refl, is.is)

  -- and each trusted part is found so
  pub trusted_found : (k : ℕ) (p : PartSeen) (z : ℤ) → slice_get parts k ≡ Some p → p.trusted ≡ true
      → trusted_owner l (Memory (any_pc p z)) ≡ Some (owner_of k p)
  unfolding owner_of
  trusted_found k p z at trusted =
      let last = p.component.code_base + length p.component.code - 1 in
      let base : (p.component.code_base == p.component.code_base) ≡ true =
      eq-eqb p.component.code_base p.component.code_base refl in
      let end : (last == last) ≡ true = eq-eqb last last refl in
      let runs : runs_part (any_pc p z) (owner_of k p) ≡ true = rw (trusted, base, end) refl in
      only_found (runs_part (any_pc p z)) l.owners (owner_of k p) (owner_listed k p at) runs only
    where
      only : (o : Owner) → Contains l.owners o → runs_part (any_pc p z) o ≡ true → o ≡ owner_of k p
      only o m t =
          let is = (owners.all o).0 m in
          let r = runs_is (any_pc p z) o t in
          let base : p.component.code_base ≡ is.of.component.code_base =
          r.3 ∙ ap (λ (x : Owner). x.code.base) is.is in
          let some = (linked.closed.kept o.part is.of is.of_is).limits.code.0.0 in
          let here = first_in_code parts size k p linked at in
          let there : InCode is.of p.component.code_base = (omega (arith, base), omega (arith, base, some)) in
          let same : o.part ≡ k =
          one_part parts size o.part k p.component.code_base is.of p linked is.of_is at there here in
          let part : is.of ≡ p = one_at parts o.part k is.of p is.of_is at same in
          is.is ∙ ap (λ n. owner_of n is.of) same ∙ ap (owner_of k) part

  -- ---- entries

  -- an entry of a trusted part at an address of a trusted part is its own
  pub entry_found :
      (each : (k : ℕ) (p : PartSeen) → slice_get parts k ≡ Some p → p.trusted ≡ true → (e : Export)
      → Contains p.component.exports e → e.offset < length p.component.code)
      → (k o : ℕ) (p : PartSeen) → slice_get parts k ≡ Some p → p.trusted ≡ true → o < length p.component.code
      → has_entry_at l (p.component.code_base + o) ≡ begins_entry p.component o
  unfolding begins_entry owner_of
  entry_found each k o p at trusted lt =
      both (has_entry_at l (p.component.code_base + o)) (list_any (λ e. e.offset == o) p.component.exports)
      to_export to_entry
    where
      both : (a b : Bool) → (a ≡ true → b ≡ true) → (b ≡ true → a ≡ true) → a ≡ b
      both true b f g = sym (f refl)
      both false true f g = g refl
      both false false f g = refl

      to_entry : list_any (λ (e : Export). e.offset == o) p.component.exports ≡ true
          → has_entry_at l (p.component.code_base + o) ≡ true
      to_entry t =
          let e = any_of (λ (x : Export). x.offset == o) p.component.exports t in
          let off : (e.0).offset ≡ o = eqb-true (e.0).offset o e.2 in
          let there =
          any_is (λ (x : Entry). x.at == p.component.code_base + o)
          (map (placed_entry p.component) p.component.exports) (placed_entry p.component e.0)
          (relisted p.component p.component.exports e.0 e.1)
          (eq-eqb (p.component.code_base + (e.0).offset) (p.component.code_base + o)
          (ap (λ n. p.component.code_base + n) off)) in
          any_is (λ w. w.trusted && list_any (λ x. x.at == p.component.code_base + o) w.entries)
          l.owners (owner_of k p) (owner_listed k p at) (rw (trusted, there) refl)

      to_export : has_entry_at l (p.component.code_base + o) ≡ true
          → list_any (λ (e : Export). e.offset == o) p.component.exports ≡ true
      to_export t =
          let w = any_of (λ w. w.trusted && list_any (λ x. x.at == p.component.code_base + o) w.entries)
          l.owners t in
          let both =
          and_parts (w.0).trusted (list_any (λ x. x.at == p.component.code_base + o) (w.0).entries) w.2 in
          let is = (owners.all w.0).0 w.1 in
          let trusted' : is.of.trusted ≡ true = sym (ap (λ (x : Owner). x.trusted) is.is) ∙ both.0 in
          let there : list_any (λ (x : Entry). x.at == p.component.code_base + o)
          (map (placed_entry is.of.component) is.of.component.exports) ≡ true =
          sym (ap (λ (x : Owner). list_any (λ (y : Entry). y.at == p.component.code_base + o) x.entries)
          is.is) ∙ both.1 in
          let e = unmapped is.of.component is.of.component.exports (p.component.code_base + o) there in
          let in' = each (w.0).part is.of is.of_is trusted' e.0 e.1 in
          let at' : is.of.component.code_base + (e.0).offset ≡ p.component.code_base + o = e.2 in
          let here : InCode p (p.component.code_base + o) = (omega arith, omega (arith, lt)) in
          let other : InCode is.of (p.component.code_base + o) =
          (omega (arith, at'), omega (arith, at', in')) in
          let same = one_part parts size (w.0).part k (p.component.code_base + o)
          is.of p linked is.of_is at other here in
          let part : is.of ≡ p = one_at parts (w.0).part k is.of p is.of_is at same in
          let base : is.of.component.code_base ≡ p.component.code_base =
          ap (λ (x : PartSeen). x.component.code_base) part in
          let off : (e.0).offset ≡ o = omega (arith, at', base) in
          any_is (λ (x : Export). x.offset == o)
          p.component.exports e.0 (subst (λ (x : PartSeen). Contains x.component.exports e.0) part e.1)
          (eq-eqb (e.0).offset o off)

  -- ---- sites

  module _ (sites : AreSites parts l.sites) where
    code_found : (s : Site) (p : PartSeen) → slice_get parts s.part ≡ Some p
        → code_among l.owners s ≡ Some (site_code_of s p)
    unfolding owner_of
    code_found s p at =
        let kept = linked.closed.kept s.part p at in
        let some = kept.limits.code.0.0 in
        let end = kept.code_end in
        let low = le-leb p.component.code_base (p.component.code_base + length p.component.code - 1)
        (omega (arith, some)) in
        let high =
        le-leb (p.component.code_base + length p.component.code - 1) 1048575 (omega (arith, some, end)) in
        ap (option_and_then (with_code s)) (owner_numbered s.part p at) ∙ rw (low, high) refl

    -- a listed site has a number, and is one of a part
    pub site_has_code : (j : ℕ) (s : Site) (is : IsSite parts s) → slice_get l.sites j ≡ Some s
        → site_code l j ≡ Some (site_code_of s is.of)
    unfolding site_code
    site_has_code j s is at = ap (option_and_then (code_among l.owners)) at ∙ code_found s is.of is.of_is

    pub site_of : (j : ℕ) (c : SiteCode) → site_code l j ≡ Some c → NumberedSite parts l j c
    unfolding site_code
    site_of j c e = by_site (slice_get l.sites j) refl e
      where
        by_site : (o : Option Site) → slice_get l.sites j ≡ o
            → option_and_then (code_among l.owners) o ≡ Some c → NumberedSite parts l j c
        by_site None at h = absurd cc
        by_site (Some s) at h =
            let is = (sites.all s).0 (listed_at l.sites j s at) in
            let k : Some c ≡ Some (site_code_of s is.of) = sym h ∙ code_found s is.of is.of_is in
            record { site = s; at = at; is = is; code_is = cc }

    numbered_is : (o : Option ℕ) (j : ℕ) → option_and_then numbered o ≡ Some j → o ≡ Some j
    numbered_is None j e = absurd cc
    numbered_is (Some i) j e = by_test (nat_lt i (2 ^ 32)) e
      where
        by_test : (b : Bool) → (if b then Some i else None) ≡ Some j → Some i ≡ Some j
        by_test true h = h
        by_test false h = absurd cc

    -- the site that an address was found to be
    pub site_found : (j a : ℕ) → site_at l a ≡ Some j
        → (s : Site) × (slice_get l.sites j ≡ Some s) × (s.at ≡ a)
    site_found j a e =
        let p = position_is (λ (s : Site). s.at == a)
        l.sites j (numbered_is (position (λ (s : Site). s.at == a) l.sites) j e) in
        (p.0, p.1, eqb-true (p.0).at a p.2)

    -- two sites at one address have one place
    pub one_place : (i j : ℕ) (s t : Site) → slice_get l.sites i ≡ Some s → slice_get l.sites j ≡ Some t
        → s.at ≡ t.at → i ≡ j
    one_place i j s t at_i at_j e = elim (cases_order i j) as (λ _. i ≡ j) [
      | inl h ↦ h
      | inr (inl lt) ↦ absurd (rises i j s t at_i at_j lt e)
      | inr (inr lt) ↦ absurd (rises j i t s at_j at_i lt (sym e))
    ]
      where
        rises : (i j : ℕ) (s t : Site) → slice_get l.sites i ≡ Some s → slice_get l.sites j ≡ Some t → i < j
            → s.at ≡ t.at → ⊥
        rises i j s t at_i at_j lt e =
            let step = sites.ascend i j s lt (slice_get_within l.sites j t at_j) in
            let a : (get_or l.sites i s).at ≡ s.at =
            ap (λ (x : Site). x.at) (get_or_from_slice_get l.sites i s s at_i) in
            let b : (get_or l.sites j s).at ≡ t.at =
            ap (λ (x : Site). x.at) (get_or_from_slice_get l.sites j t s at_j) in
            omega (arith, step, a, b, e)

    -- places of sites have 32 bits
    pub place_fits : (j : ℕ) (s : Site) → slice_get l.sites j ≡ Some s → numbered j ≡ Some j
    place_fits j s at =
        let is = (sites.all s).0 (listed_at l.sites j s at) in
        let below = place_below (λ (x : Site). x.at) l.sites sites.ascend j s at in
        let kept = linked.closed.kept s.part is.of is.of_is in
        let within = kept.sites_in is.trusted s.index is.offset is.offset_is in
        let end = kept.code_end in
        let stands = is.at in
        let small = lt-ltb j (2 ^ 32) (omega (arith, below, within, end, stands)) in
        rw small refl

    -- each site of a trusted part is found at its address
    pub site_at_code : (k i o : ℕ) (p : PartSeen) → slice_get parts k ≡ Some p → p.trusted ≡ true
        → slice_get p.component.sites i ≡ Some o
        → (j : ℕ) × (site_at l (p.component.code_base + o) ≡ Some j)
        × (slice_get l.sites j ≡ Some (declared_site k p i o))
    site_at_code k i o p at trusted is =
        let a = p.component.code_base + o in
        let s = declared_site k p i o in
        let there : Contains l.sites s =
        (sites.all s).1
        (record {
          of = p;
          of_is = at;
          trusted = trusted;
          offset = o;
          offset_is = is;
          seal = refl;
          at =
              refl;
        }) in
        let test = λ (x : Site). x.at == a in
        let place = is_placed test l.sites s there (eq-eqb a a refl) in
        let found = position_is test l.sites place.0 place.1 in
        let own = index_of l.sites s there in
        let same = one_place own.0 place.0 s found.0 own.1 found.1 (sym (eqb-true (found.0).at a found.2)) in
        let here : slice_get l.sites place.0 ≡ Some s = ap (slice_get l.sites) (sym same) ∙ own.1 in
        (place.0, ap (option_and_then numbered) place.1 ∙ place_fits place.0 s here, here)

    -- where no site is found, none begins
    pub no_site_at : (k o : ℕ) (p : PartSeen) → slice_get parts k ≡ Some p → p.trusted ≡ true
        → site_at l (p.component.code_base + o) ≡ None → begins_site p.component o ≡ false
    unfolding begins_site
    no_site_at k o p at trusted none = by_test (list_any (λ s. s == o) p.component.sites) refl
      where
        by_test : (b : Bool) → list_any (λ s. s == o) p.component.sites ≡ b → b ≡ false
        by_test false e = refl
        by_test true e =
            let s = any_of (λ (x : ℕ). x == o) p.component.sites e in
            let is = index_of p.component.sites s.0 s.1 in
            let off : s.0 ≡ o = eqb-true s.0 o s.2 in
            let found = site_at_code k is.0 o p at trusted (is.1 ∙ ap Some off) in
            absurd (let n : None ≡ Some found.0 = sym none ∙ found.1 in cc)
