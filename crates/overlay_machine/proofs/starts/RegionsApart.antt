-- Which regions belong to which part, and which untrusted code may use.
use Rattle.std.proofs.Common.{◌≡◌, ◌≢◌, inl, inr, ℕ, ◌≤◌, true, List, Some, sym, ap, ◌∙◌, arith}
use Rattle.std.specs.Prelude.{slice_get}
use Rattle.std.specs.List.{Contains}
use Rattle.std.proofs.lemmas.Bool.{cases_order}
use Rattle.lcm_machine.specs.Regions.{Region}
use Rattle.linked_starts.specs.Parts.{PartSeen, IsPart}
use Rattle.linked_starts.specs.Regions.{Apart, part_regions, region, stack_span}
use Rattle.linked_starts.specs.Linked.{Linked}
use Rattle.linked_starts.proofs.Offers.{code_no_data, code_in, data_in, apart_parts, apart_stack}
use Rattle.linked_starts.proofs.Offers.{part_region_of, stack_region_of, all_within}
use Rattle.overlay_machine.specs.Link.{code_region, data_region}
use Rattle.overlay_machine.proofs.starts.ListFacts.{one_at}

-- regions that lie apart begin at two addresses
pub apart_bases : (r q : Region) → Apart r q → r.base ≤ r.end → q.base ≤ q.end → r.base ≢ q.base
apart_bases r q (inl h) a b e = omega (arith, h, a, b, e)
apart_bases r q (inr h) a b e = omega (arith, h, a, b, e)

module _ (parts : List PartSeen) (size : ℕ) (linked : Linked parts size) where
  filled : (k : ℕ) (p : PartSeen) (r : Region) → slice_get parts k ≡ Some p → Contains (part_regions p) r
      → r.base ≤ r.end
  filled k p r at m = (all_within parts size r linked (part_region_of parts size k p r at m)).0

  -- a region is of one part
  pub one_owner : (k n : ℕ) (p q : PartSeen) (r s : Region) → slice_get parts k ≡ Some p
      → slice_get parts n ≡ Some q → Contains (part_regions p) r → Contains (part_regions q) s
      → r.base ≡ s.base → k ≡ n
  one_owner k n p q r s at_k at_n m l e = elim (cases_order k n) as (λ _. k ≡ n) [
    | inl h ↦ h
    | inr (inl lt) ↦
        absurd (apart_bases r s (apart_parts parts size k n p q r s linked.apart lt at_k at_n m l)
        (filled k p r at_k m) (filled n q s at_n l) e)
    | inr (inr lt) ↦
        absurd (apart_bases s r (apart_parts parts size n k q p s r linked.apart lt at_n at_k l m)
        (filled n q s at_n l) (filled k p r at_k m) (sym e))
  ]

  -- and the stack of none
  pub no_owner : (k : ℕ) (p : PartSeen) (r s : Region) → slice_get parts k ≡ Some p
      → Contains (part_regions p) r → Contains (region true (stack_span parts size)) s → r.base ≢ s.base
  no_owner k p r s at m l e =
      apart_bases r s (apart_stack parts size k p r s linked.apart at m l) (filled k p r at m)
      (all_within parts size s linked (stack_region_of parts size s l)).0 e

  pub code_there : (k : ℕ) (p : PartSeen) → slice_get parts k ≡ Some p
      → Contains (part_regions p) (code_region p)
  code_there k p at = code_in p (linked.closed.kept k p at).limits.code.0.0

  pub data_is_there : (k : ℕ) (p : PartSeen) → slice_get parts k ≡ Some p
      → Contains (part_regions p) (data_region p)
  data_is_there k p at = data_in p (linked.closed.kept k p at).limits.data_words.0.0

  -- a part's data isn't its own code, nor another's
  pub data_no_code : (k n : ℕ) (p q : PartSeen) → IsPart p → slice_get parts k ≡ Some p
      → slice_get parts n ≡ Some q → data_region p ≢ code_region q
  data_no_code k n p q part at_k at_n e =
      let base : p.component.data_base ≡ q.component.code_base = ap (λ (r : Region). r.base) e in
      let same = one_owner k n p q (data_region p) (code_region q) at_k at_n (data_is_there k p at_k)
      (code_there n q at_n) base in
      let here : p.component.code_base ≡ q.component.code_base =
      ap (λ (x : PartSeen). x.component.code_base) (one_at parts k n p q at_k at_n same) in
      code_no_data p part (here ∙ sym base)
