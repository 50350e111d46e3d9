-- Safe words are closed under what instructions make of words.
use Rattle.std.proofs.Common.{◌≡◌, inl, inr, ℕ, ◌+◌, ◌<◌, ◌≤◌, ℤ, true, List, refl, ap, arith, le-leb, lt-ltb}
use Rattle.std.specs.Prelude.{None, ◌==◌, IsTrue}
use Rattle.std.proofs.lemmas.Bool.{cases_lt, or_right}
use Rattle.lcm_machine.proofs.Offers.{in_seals, split_bounds, below_runs}
use Rattle.cap_words.specs.declared.CapFields.{CapFields}
use Rattle.cap_words.specs.declared.SealFields.{SealFields}
use Rattle.cap_words.specs.declared.Perm.{Perm}
use Rattle.cap_words.specs.Faces.{is_below, can_split, seals_at, address}
use Rattle.lcm_machine.specs.Closed.{Closed}
use Rattle.linked_starts.specs.Parts.{PartSeen}
use Rattle.linked_starts.specs.SealsApart.{is_seal_of}
use Rattle.overlay_machine.specs.declared.words.OWord.TheVariants.{Plain}
use Rattle.overlay_machine.specs.Words.{look}
use Rattle.overlay_machine.specs.State.{OpenFrame, framed}
use Rattle.overlay_machine.specs.Link.{Link}
use Rattle.overlay_machine.specs.Linked.{IsLink}
use Rattle.overlay_machine.specs.Safe.{IsSafeCap, AreSafeSeals, IsOpenSeal, IsSafe}
use Rattle.overlay_machine.proofs.invariant.Facts.{mem_safe, seals_safe}

-- a seal of a part's stretch is one of the part
own_seal : (p : PartSeen) (n : ℕ) → p.component.seals.base ≤ n
    → n < p.component.seals.base + p.component.seals.count → IsTrue (is_seal_of p n)
own_seal p n low high =
    rw (le-leb p.component.seals.base n low, lt-ltb n (p.component.seals.base + p.component.seals.count) high)
    (or_right (p.component.closure == n) true refl)

-- what a capability for seals leads to is an open seal, where it is safe
pub open_seal : (g : Link) (q : SealFields) → seals_at q q.cur ≡ true → AreSafeSeals g q
    → IsOpenSeal g (address q.cur)
open_seal g q b h =
    let k = in_seals q q.cur b in
    let x = k.0 in
    let y = k.1 in
    let l = h.low in
    let u = h.high in
    (h.of, h.untrusted, own_seal h.of (address q.cur) (omega (arith, l, x)) (omega (arith, u, y)))

module _ (g : Link) (linked : IsLink g) (fs : List OpenFrame) where
  less : (c : CapFields) (p : Perm) → is_below p c.perm ≡ true → IsSafeCap g fs c
      → IsSafeCap g fs (record c { perm = p })
  less c p b h =
      record {
        area = h.area;
        runs = h.runs;
        usable = h.usable;
        low = h.low;
        order = h.order;
        high =
            h.high;
        lin = h.lin;
        may = λ r. h.may (below_runs p c.perm b r);
        free = h.free;
      }

  move_to : (c : CapFields) (z : ℤ) → IsSafeCap g fs c → IsSafeCap g fs (record c { addr = z })
  move_to c z h =
      record {
        area = h.area;
        runs = h.runs;
        usable = h.usable;
        low = h.low;
        order = h.order;
        high =
            h.high;
        lin = h.lin;
        may = h.may;
        free = h.free;
      }

  low_part : (c : CapFields) (z : ℤ) → can_split c z ≡ true → IsSafeCap g fs c
      → IsSafeCap g fs (record c { end = address z })
  low_part c z b h =
      let k = split_bounds c z b in
      let x = k.0 in
      let y = k.1 in
      let u = h.high in
      record {
        area = h.area;
        runs = h.runs;
        usable = h.usable;
        low = h.low;
        order = x;
        high =
            omega (arith, u, y);
        lin = h.lin;
        may = h.may;
        free = λ a l r. h.free a l (omega (arith, r, y));
      }

  high_part : (c : CapFields) (z : ℤ) → can_split c z ≡ true → IsSafeCap g fs c
      → IsSafeCap g fs (record c { base = address z + 1 })
  high_part c z b h =
      let k = split_bounds c z b in
      let x = k.0 in
      let y = k.1 in
      let l = h.low in
      record {
        area = h.area;
        runs = h.runs;
        usable = h.usable;
        low = omega (arith, l, x);
        order =
            omega (arith, y);
        high = h.high;
        lin = h.lin;
        may = h.may;
        free =
            λ a lo r. h.free a (omega (arith, lo, x)) r;
      }

  -- two regions with no address between them are one
  one_area : (a b : CapFields) → a.end + 1 ≡ b.base → (h : IsSafeCap g fs a) (k : IsSafeCap g fs b)
      → h.area ≡ k.area
  one_area a b e h k =
      let l = h.low in
      let o = h.order in
      let u = h.high in
      let l' = k.low in
      let o' = k.order in
      let u' = k.high in
      elim (linked.apart h.area k.area (linked.usable h.area h.runs h.usable)
      (linked.usable k.area k.runs k.usable)) as (λ _. h.area ≡ k.area) [
        | inl same ↦ same
        | inr (inl apart) ↦ absurd (omega (arith, u, l', e, apart))
        | inr (inr apart) ↦ absurd (omega (arith, l, o, o', u', e, apart))
      ]

  join : (a b : CapFields) → a.end + 1 ≡ b.base → IsSafeCap g fs a → IsSafeCap g fs b
      → IsSafeCap g fs (record b { base = a.base })
  join a b e h k =
      let l = h.low in
      let o = h.order in
      let o' = k.order in
      let same : h.area.base ≡ k.area.base = ap (λ r. r.base) (one_area a b e h k) in
      record {
        area = k.area;
        runs = k.runs;
        usable = k.usable;
        low = omega (arith, l, same);
        order = omega (arith, o, o', e);
        high = k.high;
        lin = k.lin;
        may = k.may;
        free = λ x y z. elim (cases_lt x b.base) as (λ _. framed fs x ≡ None)
            [ inl lt ↦ h.free x y (omega (arith, lt, e)) | inr ge ↦ k.free x ge z ];
      }

  turn : (c : SealFields) (z : ℤ) → AreSafeSeals g c → AreSafeSeals g (record c { cur = z })
  turn c z h = record { of = h.of; untrusted = h.untrusted; low = h.low; order = h.order; high = h.high }

  pub safe_closed : Closed look Plain (IsSafe g fs)
  safe_closed = record {
    ints = λ z. tt;
    moved = λ w c z e h. move_to c z (mem_safe g fs w c e h);
    lessened = λ w c p e b h. less c p b (mem_safe g fs w c e h);
    turned = λ w c z e h. turn c z (seals_safe g fs w c e h);
    cut_low = λ w c z e b h. low_part c z b (mem_safe g fs w c e h);
    cut_high = λ w c z e b h. high_part c z b (mem_safe g fs w c e h);
    joined = λ u v a b eu ev s j hu hv. join a b j (mem_safe g fs u a eu hu) (mem_safe g fs v b ev hv);
    sealed_memory =
        λ u v c q eu ev b hu hv. inl (open_seal g q b (seals_safe g fs v q ev hv), mem_safe g fs u c eu hu);
    sealed_seals =
        λ u v c q eu ev b hu hv. inl (open_seal g q b (seals_safe g fs v q ev hv), seals_safe g fs u c eu hu);
  }
