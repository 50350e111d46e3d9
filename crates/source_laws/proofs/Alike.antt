-- What is shown is a function of what is told.
use Rattle.std.proofs.Common.{◌≡◌, inl, inr, ℕ, ◌-◌, Option, Some, None, refl, sym, ap, ◌∙◌}
use Rattle.cap_words.specs.declared.Word.TheVariants.{Mem}
use Rattle.lcm_isa.specs.declared.Reg.{Reg}
use Rattle.lcm_isa.specs.declared.Reg.TheVariants.{Pc, Rcode, Rdata, Stk, Dat, T1, T2, C1, C2, A0, A1, A2, A3}
use Rattle.lcm_isa.specs.declared.Reg.TheVariants.{G0, G1, G2}
use Rattle.lcm_machine.specs.Places.{reg}
use Rattle.lcm_machine.specs.Cells.{cell}
use Rattle.call_sequence.specs.SequenceRuns.{stack_cap}
use Rattle.overlay_machine.specs.declared.words.OWord.{OWord}
use Rattle.overlay_machine.specs.declared.words.OWord.TheVariants.{Plain, RetCode, RetData}
use Rattle.overlay_machine.specs.State.{OState}
use Rattle.overlay_machine.specs.Link.{Link}
use Rattle.template_runs.specs.Public.{IsFreeAt}
use Rattle.template_runs.specs.Border.{zero}
use Rattle.source_laws.specs.Alike.{BothTidied, CallsSeenAlike, LeavesSeenAlike}

module _ (g h : Link) (o q o' q' : OState) (b : BothTidied g h o q o' q') where
  both : (a : ℕ) → IsFreeAt g a → (x y : OWord) → cell q.maps.cells a ≡ Some x → cell q'.maps.cells a ≡ Some y
      → x ≡ y
  both a free x y ex ey = elim (b.tidied a x free ex) as (λ _. x ≡ y) [
    | inr z ↦ (
        let there = (b.same_wiped a free).0 (ex ∙ ap Some z.0) in
        let e : Some y ≡ Some zero = sym ey ∙ there in
        let k : y ≡ zero = cc in z.0 ∙ sym k)
    | inl s ↦ elim (b.tidied_too a y ((b.same_free a).0 free) ey) as (λ _. x ≡ y) [
      | inr z ↦ (
          let there = (b.same_wiped a free).1 (ey ∙ ap Some z.0) in
          let e : Some x ≡ Some zero = sym ex ∙ there in
          let k : x ≡ zero = cc in k ∙ sym z.0)
      | inl t ↦ (let e : Some x ≡ Some y = sym s ∙ b.before a free ∙ t in cc)
    ]
  ]

  pub cells_alike : (a : ℕ) → IsFreeAt g a → cell q.maps.cells a ≡ cell q'.maps.cells a
  cells_alike a free = by (cell q.maps.cells a) (cell q'.maps.cells a) refl refl
    where
      by : (x y : Option OWord) → cell q.maps.cells a ≡ x → cell q'.maps.cells a ≡ y
          → cell q.maps.cells a ≡ cell q'.maps.cells a
      by None y ex ey = ex ∙ sym ((b.same_gone a free).0 ex)
      by (Some x) None ex ey =
          absurd (let bad : None ≡ Some x = sym ((b.same_gone a free).1 ey) ∙ ex in cc)
      by (Some x) (Some y) ex ey = ex ∙ ap Some (both a free x y ex ey) ∙ sym ey

pub calls_alike : CallsSeenAlike
calls_alike g h d f e o q o' q' s t stack base site call args b = record {
  regs = regs;
  cells = cells_alike g h o q o' q' b;
}
  where
    regs : (r : Reg) → reg q.maps.regs r ≡ reg q'.maps.regs r
    regs Pc = s.pc ∙ sym t.pc
    regs Dat = s.dat ∙ sym t.dat
    regs C1 = s.c1 ∙ sym t.c1
    regs C2 = s.c2 ∙ sym t.c2
    regs Rcode = s.rcode ∙ ap RetCode site ∙ sym t.rcode
    regs Rdata = s.rdata ∙ ap RetData call ∙ sym t.rdata
    regs Stk = s.stk ∙ ap (λ z. Plain (Mem (stack_cap z (f.base - 1) (f.base - 1)))) stack
        ∙ ap (λ z. Plain (Mem (stack_cap h.layout.stack.base (z - 1) (z - 1)))) base ∙ sym t.stk
    regs T1 = s.t1 ∙ sym t.t1
    regs T2 = s.t2 ∙ sym t.t2
    regs G0 = s.g0 ∙ sym t.g0
    regs G1 = s.g1 ∙ sym t.g1
    regs G2 = s.g2 ∙ sym t.g2
    regs A0 = args.a0
    regs A1 = args.a1
    regs A2 = args.a2
    regs A3 = args.a3

pub leaves_alike : LeavesSeenAlike
leaves_alike g h d top o q o' q' s t stack a0 b = record {
  regs = regs;
  cells = cells_alike g h o q o' q' b;
}
  where
    regs : (r : Reg) → reg q.maps.regs r ≡ reg q'.maps.regs r
    regs Pc = s.pc ∙ sym t.pc
    regs Dat = s.dat ∙ sym t.dat
    regs C1 = s.c1 ∙ sym t.c1
    regs C2 = s.c2 ∙ sym t.c2
    regs Rcode = s.rcode ∙ sym t.rcode
    regs Rdata = s.rdata ∙ sym t.rdata
    regs Stk = s.stk ∙ ap (λ z. Plain (Mem (stack_cap z top top))) stack ∙ sym t.stk
    regs T1 = s.t1 ∙ sym t.t1
    regs T2 = s.t2 ∙ sym t.t2
    regs G0 = s.g0 ∙ sym t.g0
    regs G1 = s.g1 ∙ sym t.g1
    regs G2 = s.g2 ∙ sym t.g2
    regs A0 = a0
    regs A1 = s.a1 ∙ sym t.a1
    regs A2 = s.a2 ∙ sym t.a2
    regs A3 = s.a3 ∙ sym t.a3
