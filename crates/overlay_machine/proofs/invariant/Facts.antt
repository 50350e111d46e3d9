-- What linked parts say of addresses, of safe words and of trusted pcs.
use Rattle.std.proofs.Common.{◌≡◌, ◌≢◌, inl, inr, ℕ, suc, ◌+◌, ◌<◌, ◌≤◌, ℤ, pos, false, List, [], ◌∷◌, length}
use Rattle.std.proofs.Common.{Some, refl, sym, ap, ◌∙◌, arith}
use Rattle.std.specs.Prelude.{slice_get, ◌&&◌, not, true, is_some, IsSome}
use Rattle.std.specs.List.{Contains}
use Rattle.cap_words.specs.declared.Word.TheVariants.{Int, Mem, Seal}
use Rattle.cap_words.specs.declared.CapFields.{CapFields}
use Rattle.cap_words.specs.declared.SealFields.{SealFields}
use Rattle.cap_words.specs.declared.TheConstants.{LAST_PLACE}
use Rattle.lcm_isa.specs.declared.Instr.{Instr}
use Rattle.lcm_isa.specs.Numbers.{number_of}
use Rattle.lcm_machine.specs.Regions.{Region}
use Rattle.lcm_machine.specs.Cells.{cell}
use Rattle.lcm_machine.specs.Row.{look_face}
use Rattle.lcm_machine.specs.Runs.{Stands}
use Rattle.call_sequence.specs.SequenceRuns.{IsOutsideRange}
use Rattle.call_sequence.specs.Standing.{CodeStands}
use Rattle.call_sequence.specs.Holds.{part_stack_cap, Up}
use Rattle.linked_starts.specs.Parts.{PartSeen}
use Rattle.linked_starts.specs.Regions.{in_regions}
use Rattle.linked_starts.proofs.Offers.{in_regions_is}
use Rattle.overlay_machine.specs.declared.words.OWord.{OWord}
use Rattle.overlay_machine.specs.declared.words.OWord.TheVariants.{Plain, RetCode, RetData}
use Rattle.overlay_machine.specs.Words.{look}
use Rattle.overlay_machine.specs.State.{OpenFrame, Cells}
use Rattle.overlay_machine.specs.Link.{Link, IsTrusted, the_stack, regions, ranges_of, code_region}
use Rattle.overlay_machine.specs.Link.{data_region, stack_region, has_cell, IsOpenAt, IsStackCell, CodeIn}
use Rattle.overlay_machine.specs.Safe.{IsSafeCap, AreSafeSeals, IsSafe}
use Rattle.overlay_machine.specs.Linked.{IsLink}

-- words that look like capabilities are plain
pub mem_safe : (g : Link) (fs : List OpenFrame) (w : OWord) (c : CapFields) → look w ≡ Mem c → IsSafe g fs w
    → IsSafeCap g fs c
mem_safe g fs (Plain x) c e h = rw e at h
mem_safe g fs (RetCode i) c e h = cc
mem_safe g fs (RetData k) c e h = cc

pub seals_safe : (g : Link) (fs : List OpenFrame) (w : OWord) (c : SealFields) → look w ≡ Seal c
    → IsSafe g fs w → AreSafeSeals g c
seals_safe g fs (Plain x) c e h = rw e at h
seals_safe g fs (RetCode i) c e h = cc
seals_safe g fs (RetData k) c e h = cc

pub safe_mem : (g : Link) (fs : List OpenFrame) (w : OWord) (c : CapFields) → look w ≡ Mem c
    → IsSafeCap g fs c → IsSafe g fs w
safe_mem g fs (Plain x) c e h = rw e h
safe_mem g fs (RetCode i) c e h = cc
safe_mem g fs (RetData k) c e h = cc

pub safe_int : (g : Link) (fs : List OpenFrame) (w : OWord) (z : ℤ) → look w ≡ Int z → IsSafe g fs w
safe_int g fs (Plain x) z e = rw e tt
safe_int g fs (RetCode i) z e = cc
safe_int g fs (RetData k) z e = cc

-- code that stands in a part stands in cells that have the part's words
pub stands : (p : PartSeen) (m : Cells) → CodeIn p m → (a o : ℕ) → a ≡ p.component.code_base + o
    → (is : List Instr)
    → CodeStands p.component.code o is → Stands look m a is
stands p m code a o e [] h = tt
stands p m code a o e (i ∷ is) h =
    let zero_more : o + 0 ≡ o = omega arith in
    let here : slice_get p.component.code o ≡ Some (Int (pos (number_of i))) =
    ap (slice_get p.component.code) (sym zero_more) ∙ h 0 i refl in
    let next : a + 1 ≡ p.component.code_base + (o + 1) = omega (arith, e) in (
      rw e (ap (look_face look) (code o (Int (pos (number_of i))) here)),
      stands p m code (a + 1) (o + 1) next is (later h),
    )
  where
    later : CodeStands p.component.code o (i ∷ is) → CodeStands p.component.code (o + 1) is
    later h k j e = let n : o + 1 + k ≡ o + suc k =
        omega arith in ap (slice_get p.component.code) n ∙ h (suc k) j e

module _ (g : Link) (linked : IsLink g) where
  -- ---- regions

  -- regions that share an address are one
  pub same_region : (r q : Region) (a : ℕ) → Contains (regions g) r → Contains (regions g) q → r.base ≤ a
      → a ≤ r.end → q.base ≤ a → a ≤ q.end → r ≡ q
  same_region r q a m n h1 h2 h3 h4 = elim (linked.apart r q m n) as (λ _. r ≡ q) [
    | inl e ↦ e
    | inr (inl x) ↦ absurd (omega (arith, h2, h3, x))
    | inr (inr x) ↦ absurd (omega (arith, h1, h4, x))
  ]

  -- a region that is no trusted code is outside all of it
  pub open_region : (r : Region) → Contains (regions g) r
      → ((p : PartSeen) → IsTrusted g p → r ≢ code_region p) → (a : ℕ) → r.base ≤ a → a ≤ r.end → IsOpenAt g a
  open_region r m not a low high p ip =
      elim (linked.apart r (code_region p) m (linked.code p ip))
      as (λ _. IsOutsideRange a (ranges_of p).code_base (ranges_of p).code_last) [
        | inl e ↦ absurd (not p ip e)
        | inr (inl x) ↦ inl (omega (arith, high, x))
        | inr (inr x) ↦ inr (omega (arith, low, x))
      ]

  pub stack_there : Contains (regions g) (stack_region g.layout)
  stack_there = linked.usable (stack_region g.layout) false the_stack

  -- the stack's addresses that are in no frame have cells
  pub stack_cells : (m : Cells) (fs : List OpenFrame) → ((a : ℕ) → is_some (cell m a) ≡ has_cell g fs a)
      → (a : ℕ) → IsStackCell g fs a → IsSome (cell m a)
  stack_cells m fs there a h =
      there a ∙ ap (λ w. in_regions a (regions g) && not (is_some w)) h.2
      ∙ ap (λ b. b && true) (in_regions_is a (regions g) (stack_region g.layout) stack_there h.0 h.1)

  pub open_stack_at : (a : ℕ) → g.layout.stack.base ≤ a → a ≤ g.layout.stack.end → IsOpenAt g a
  open_stack_at a low high =
      open_region (stack_region g.layout)
      stack_there (λ p ip. linked.code_closed (stack_region g.layout) false p the_stack ip) a low high

  pub open_stack : (fs : List OpenFrame) (a : ℕ) → IsStackCell g fs a → IsOpenAt g a
  open_stack fs a h = open_stack_at a h.0 h.1

  pub open_data : (p : PartSeen) → IsTrusted g p → (a : ℕ) → (ranges_of p).data_base ≤ a
      → a ≤ (ranges_of p).data_last → IsOpenAt g a
  open_data p ip a low high =
      open_region (data_region p) (linked.data_there p ip) (λ q iq. linked.data_not_code p q ip iq) a low high

  pub open_safe : (fs : List OpenFrame) (c : CapFields) (a : ℕ) → IsSafeCap g fs c → c.base ≤ a → a ≤ c.end
      → IsOpenAt g a
  open_safe fs c a h low high =
      let l = h.low in
      let u = h.high in
      open_region h.area (linked.usable h.area h.runs h.usable)
      (λ p ip. linked.code_closed h.area h.runs p h.usable ip) a (omega (arith, l, low))
      (omega (arith, u, high))

  pub closed : (p : PartSeen) → IsTrusted g p → (a : ℕ) → (ranges_of p).code_base ≤ a
      → a ≤ (ranges_of p).code_last → IsOpenAt g a → ⊥
  closed p ip a low high out =
      elim (out p ip) as (λ _. ⊥) [ inl x ↦ omega (arith, x, low) | inr x ↦ omega (arith, x, high) ]

  -- ---- codes of parts

  pub some_code : (p : PartSeen) → IsTrusted g p → 1 ≤ length p.component.code
  some_code p ip = (linked.parts p ip.0).limits.code.0.0

  pub length_is : (p : PartSeen) → IsTrusted g p
      → (ranges_of p).code_base + length p.component.code ≡ suc (ranges_of p).code_last
  length_is p ip = let one = some_code p ip in omega (arith, one)

  pub in_code : (p : PartSeen) (o : ℕ) → IsTrusted g p → o < length p.component.code
      → (ranges_of p).code_base + o ≤ (ranges_of p).code_last
  in_code p o ip lt = let e = length_is p ip in omega (arith, e, lt)

  pub one_part : (p q : PartSeen) (a : ℕ) → IsTrusted g p → IsTrusted g q → (ranges_of p).code_base ≤ a
      → a ≤ (ranges_of p).code_last → (ranges_of q).code_base ≤ a → a ≤ (ranges_of q).code_last → p ≡ q
  one_part p q a ip iq h1 h2 h3 h4 =
      linked.one_code p q ip iq
      (same_region (code_region p) (code_region q) a (linked.code p ip) (linked.code q iq) h1 h2 h3 h4)

  pub code_small : (p : PartSeen) → IsTrusted g p → (ranges_of p).code_last ≤ LAST_PLACE
  code_small p ip = linked.small (code_region p) (linked.code p ip)

  pub stack_small : g.layout.stack.end ≤ LAST_PLACE
  stack_small = linked.small (stack_region g.layout) stack_there

  pub stack_order : g.layout.stack.base ≤ g.layout.stack.end
  stack_order = linked.filled (stack_region g.layout) stack_there

  pub stack_apart : (p : PartSeen) → IsTrusted g p → (a : ℕ) → g.layout.stack.base ≤ a
      → a ≤ g.layout.stack.end → IsOutsideRange a (ranges_of p).code_base (ranges_of p).code_last
  stack_apart p ip a low high = open_stack_at a low high p ip

  -- ---- safe words

  pub stk_cap_safe : (fs : List OpenFrame) (p : PartSeen) (end : ℕ) (at : ℤ) → IsTrusted g p
      → Up (IsStackCell g fs) (ranges_of p) end → IsSafeCap g fs (part_stack_cap (ranges_of p) end at)
  stk_cap_safe fs p end at ip up =
      let e = linked.stack_bases p ip in
      let top = up.1 end up.0 (omega arith) in
      let last = top.1 in
      record {
        area = stack_region g.layout;
        runs = false;
        usable = the_stack;
        low = omega (arith, e);
        order = up.0;
        high = last;
        lin = refl;
        may = λ r. cc;
        free = λ a low high. (up.1 a low high).2;
      }

  pub safe_stk : (fs : List OpenFrame) (p : PartSeen) → IsTrusted g p → (w : OWord) (end : ℕ) (at : ℤ)
      → look w ≡ Mem (part_stack_cap (ranges_of p) end at) → Up (IsStackCell g fs) (ranges_of p) end
      → IsSafe g fs w
  safe_stk fs p ip w end at e up =
      safe_mem g fs w (part_stack_cap (ranges_of p) end at) e (stk_cap_safe fs p end at ip up)

  -- a safe word is no trusted pc
  pub not_trusted : (fs : List OpenFrame) (p : PartSeen) (c : CapFields) → IsTrusted g p → IsSafeCap g fs c
      → c.base ≡ (ranges_of p).code_base → c.end ≡ (ranges_of p).code_last → ⊥
  not_trusted fs p c ip h b e =
      let l = h.low in
      let o = h.order in
      let u = h.high in
      let same : h.area ≡ code_region p =
      same_region h.area (code_region p) c.base (linked.usable h.area h.runs h.usable) (linked.code p ip)
      l (omega (arith, o, u)) (omega (arith, b)) (omega (arith, o, e)) in
      linked.code_closed h.area h.runs p h.usable ip same

  -- a safe capability from the stack's base on lies in the stack
  pub in_stack : (fs : List OpenFrame) (c : CapFields) → IsSafeCap g fs c → c.base ≡ g.layout.stack.base
      → c.end ≤ g.layout.stack.end
  in_stack fs c h b =
      let l = h.low in
      let o = h.order in
      let u = h.high in
      let k = stack_order in
      let same : h.area ≡ stack_region g.layout =
      same_region h.area (stack_region g.layout) c.base (linked.usable h.area h.runs h.usable)
      stack_there l (omega (arith, o, u)) (omega (arith, b)) (omega (arith, b, k)) in
      let top : h.area.end ≡ g.layout.stack.end = ap (λ r. r.end) same in
      omega (arith, u, top)
