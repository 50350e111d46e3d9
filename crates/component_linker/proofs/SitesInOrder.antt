-- The sites of linked parts are in order: those of a part stand together, and their seals go up by one.
use Rattle.std.proofs.Common.{◌≡◌, ℕ, ◌+◌, ◌<◌, ◌≤◌, List, length, get_or, None, refl, sym, ap, ◌∙◌, arith}
use Rattle.std.proofs.Common.{inl, inr}
use Rattle.std.specs.Prelude.{slice_get}
use Rattle.std.specs.List.{Contains}
use Rattle.std.proofs.lemmas.Bool.{cases_lt, cases_order}
use Rattle.std.proofs.lemmas.Option.{slice_get_within, slice_get-get_or}
use Rattle.std.proofs.lemmas.List.{get_or_default}
use Rattle.std.proofs.lemmas.List.Elements.{Contains-get_or}
use Rattle.linked_starts.specs.declared.owners.Site.{Site}
use Rattle.linked_starts.specs.Parts.{PartSeen}
use Rattle.linked_starts.specs.Linked.{AreClosed, AreSeparate}
use Rattle.linked_starts.specs.Owners.{IsSite, AreSites, IsNextSite, AreInOrder}
use Rattle.linked_starts.proofs.Offers.{meet_not, one_site, part_at, site_in, sites_rise, up_to}

module _ (parts : List PartSeen) (closed : AreClosed parts) where
  -- what is between two sites of a part is in its code, so it is of that part
  between : (s u t : Site) → AreSeparate parts → IsSite parts s → IsSite parts u → IsSite parts t
      → s.part ≡ t.part → s.at < u.at → u.at ≤ t.at → u.part ≡ s.part
  between s u t separate h g f same low high =
      let of = part_at parts h.of f.of t.part s.part f.of_is (sym same) h.of_is in
      let base = ap (λ (p : PartSeen). p.component.code_base) of in
      let long = ap (λ (p : PartSeen). length p.component.code) of in
      let first = (site_in parts s s.at closed h refl).0 in
      let last = (site_in parts t t.at closed f refl).1 in
      let here = site_in parts u u.at closed g refl in
      let from : h.of.component.code_base ≤ u.at = omega (arith, first, low) in
      let to : u.at < h.of.component.code_base + length h.of.component.code =
      omega (arith, last, high, base, long) in
      elim (cases_order u.part s.part) as (λ _. u.part ≡ s.part) [
        | inl e ↦ e
        | inr (inl lt) ↦
            absurd (meet_not parts u.part s.part u.at g.of h.of separate lt g.of_is h.of_is here.0 here.1 from
            to)
        | inr (inr lt) ↦
            absurd (meet_not parts s.part u.part u.at h.of g.of separate lt h.of_is g.of_is from to here.0
            here.1)
      ]

  -- sites of a part stand as their indices do
  rises : (s u : Site) → IsSite parts s → IsSite parts u → u.part ≡ s.part → s.index < u.index → s.at < u.at
  rises s u h g same lt =
      let of = part_at parts h.of g.of u.part s.part g.of_is same h.of_is in
      let base = ap (λ (p : PartSeen). p.component.code_base) of in
      let there = ap (λ (p : PartSeen). slice_get p.component.sites u.index) (sym of) ∙ g.offset_is in
      let up = sites_rise h.of.component.sites None s.index u.index h.offset g.offset
      (closed.kept s.part h.of h.of_is).limits.sites.1 lt h.offset_is there in
      let at_s = h.at in
      let at_u = g.at in
      omega (arith, up, base, at_s, at_u)

  later : (s u : Site) → IsSite parts s → IsSite parts u → u.part ≡ s.part → s.at < u.at → s.index < u.index
  later s u h g same lt = elim (cases_order s.index u.index) as (λ _. s.index < u.index) [
    | inl e ↦
        absurd (let at =
        ap (λ (x : Site). x.at) (one_site parts s u h g (sym same) e) in omega (arith, at, lt))
    | inr (inl up) ↦ up
    | inr (inr down) ↦ absurd (let gt = rises u s g h (sym same) down in omega (arith, gt, lt))
  ]

  -- the site of an index below that of another of the part
  pub site_of : (s u : Site) (h : IsSite parts s) → IsSite parts u → u.part ≡ s.part → (n : ℕ) → n < u.index
      → (v : Site) × (IsSite parts v) × (v.part ≡ s.part) × (v.index ≡ n)
  site_of s u h g same n lt =
      let of = part_at parts h.of g.of u.part s.part g.of_is same h.of_is in
      let long = ap (λ (p : PartSeen). length p.component.sites) of in
      let within = slice_get_within g.of.component.sites u.index g.offset g.offset_is in
      let o = get_or h.of.component.sites n 0 in
      let v : Site =
      record {
        part = s.part;
        index = n;
        seal = h.of.component.seals.base + n;
        at =
            h.of.component.code_base + o;
      } in
      let is : IsSite parts v = record {
        of = h.of;
        of_is = h.of_is;
        trusted = h.trusted;
        offset = o;
        offset_is = slice_get-get_or h.of.component.sites n 0 (omega (arith, lt, within, long));
        seal = refl;
        at = refl;
      } in
      (v, is, refl, refl)

  next_seal : (s u : Site) → IsSite parts s → IsSite parts u → u.part ≡ s.part → u.index ≡ s.index + 1
      → u.seal ≡ s.seal + 1
  next_seal s u h g same next =
      let base =
      ap (λ (p : PartSeen). p.component.seals.base)
      (part_at parts h.of g.of u.part s.part g.of_is same h.of_is) in
      let at_s = h.seal in
      let at_u = g.seal in
      omega (arith, next, base, at_s, at_u)

  module _ (sites : List Site) (are : AreSites parts sites) (d : Site) where
    is_site : (i : ℕ) → i < length sites → IsSite parts (get_or sites i d)
    is_site i lt = (are.all (get_or sites i d)).0 (Contains-get_or sites i d lt)

    -- no site stands between a place and the next
    none_between : (i : ℕ) (v : Site) → i + 1 < length sites → Contains sites v → (get_or sites i d).at < v.at
        → v.at < (get_or sites (i + 1) d).at → ⊥
    none_between i v lt has low high =
        let m = has.0 in
        let at : (get_or sites m v).at ≡ v.at = ap (λ (x : Site). x.at) has.2 in
        let same = ap (λ (x : Site). x.at) (get_or_default sites m v d has.1) in
        elim (cases_lt i m) as (λ _. ⊥) [
          | inl past ↦
              (let up = up_to sites (i + 1) m d are.ascend (omega (arith, past)) has.1 in
              omega (arith, up, same, at, high))
          | inr front ↦
              (let up =
              up_to sites m i d are.ascend front (omega (arith, lt)) in omega (arith, up, same, at, low))
        ]

    next_index : (i : ℕ) → i + 1 < length sites → (get_or sites (i + 1) d).part ≡ (get_or sites i d).part
        → (get_or sites (i + 1) d).index ≡ (get_or sites i d).index + 1
    next_index i lt same =
        let s = get_or sites i d in
        let u = get_or sites (i + 1) d in
        let h = is_site i (omega (arith, lt)) in
        let g = is_site (i + 1) lt in
        let up = later s u h g same (are.ascend i (i + 1) d (omega arith) lt) in
        elim (cases_order u.index (s.index + 1)) as (λ _. u.index ≡ s.index + 1) [
          | inl e ↦ e
          | inr (inl below) ↦ absurd (omega (arith, up, below))
          | inr (inr above) ↦ absurd (
              let x = site_of s u h g same (s.index + 1) above in
              let v = x.0 in
              let at_s = rises s v h x.1 x.2 (let index = x.3 in omega (arith, index)) in
              let at_u = rises v u x.1 g (same ∙ sym x.2) (let index = x.3 in omega (arith, index, above)) in
              none_between i v lt ((are.all v).1 x.1) at_s at_u
              )
        ]

    follows : (i j : ℕ) → AreSeparate parts → i < j → j < length sites
        → (get_or sites i d).part ≡ (get_or sites j d).part
        → IsNextSite (get_or sites i d) (get_or sites (i + 1) d)
    follows i j separate lt inside same =
        let h = is_site i (omega (arith, lt, inside)) in
        let g = is_site (i + 1) (omega (arith, lt, inside)) in
        let low = are.ascend i (i + 1) d (omega arith) (omega (arith, lt, inside)) in
        let high = up_to sites (i + 1) j d are.ascend (omega (arith, lt)) inside in
        let part = between (get_or sites i d) (get_or sites (i + 1) d) (get_or sites j d)
        separate h g (is_site j inside) same low high in (
          part,
          next_seal (get_or sites i d) (get_or sites (i + 1) d)
              h g part (next_index i (omega (arith, lt, inside)) part),
        )

pub in_order : (parts : List PartSeen) (sites : List Site) → AreClosed parts → AreSeparate parts
    → AreSites parts sites → AreInOrder sites
in_order parts sites closed separate are =
    record {
      ascend = are.ascend;
      runs =
          λ i j d lt inside same. follows parts closed sites are d i j separate lt inside same;
    }
