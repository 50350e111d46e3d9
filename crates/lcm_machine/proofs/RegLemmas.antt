-- Registers after one of them was set.
use Rattle.std.proofs.Common.{◌≡◌, ◌≢◌, refl, sym, ap, ◌∙◌, inl, inr, ◌⊎◌}
use Rattle.std.proofs.lemmas.Bool.{cases_eq}
use Rattle.lcm_isa.specs.declared.Reg.{Reg}
use Rattle.lcm_isa.specs.declared.Reg.TheVariants.{Pc, Rcode, Rdata, Stk, Dat, T1, T2, C1, C2, A0, A1, A2, A3}
use Rattle.lcm_isa.specs.declared.Reg.TheVariants.{G0, G1, G2}
use Rattle.lcm_isa.specs.Numbers.{reg_number, reg_of}
use Rattle.lcm_isa.proofs.Offers.{reg_back}
use Rattle.lcm_machine.specs.Maps.{Regs}
use Rattle.lcm_machine.specs.Places.{reg, set_reg}

-- two registers are one or not
pub cases_reg : (r d : Reg) → (r ≡ d) ⊎ (r ≢ d)
cases_reg r d = elim (cases_eq (reg_number r) (reg_number d)) as (λ _. (r ≡ d) ⊎ (r ≢ d)) [
  | inl same ↦ inl (sym (reg_back r) ∙ ap reg_of same ∙ reg_back d)
  | inr ne ↦ inr (λ e. ne (ap reg_number e))
]

pub reg-set_same : {W : Type 0} (rs : Regs W) (r : Reg) (w : W) → reg (set_reg rs r w) r ≡ w
reg-set_same rs Pc w = refl
reg-set_same rs Rcode w = refl
reg-set_same rs Rdata w = refl
reg-set_same rs Stk w = refl
reg-set_same rs Dat w = refl
reg-set_same rs T1 w = refl
reg-set_same rs T2 w = refl
reg-set_same rs C1 w = refl
reg-set_same rs C2 w = refl
reg-set_same rs A0 w = refl
reg-set_same rs A1 w = refl
reg-set_same rs A2 w = refl
reg-set_same rs A3 w = refl
reg-set_same rs G0 w = refl
reg-set_same rs G1 w = refl
reg-set_same rs G2 w = refl

pub reg-set_other : {W : Type 0} (rs : Regs W) (r d : Reg) (w : W) → d ≢ r → reg (set_reg rs r w) d ≡ reg rs d
reg-set_other rs Pc Pc w ne = absurd (ne refl)
reg-set_other rs Pc d w ne = refl
reg-set_other rs Rcode Rcode w ne = absurd (ne refl)
reg-set_other rs Rcode d w ne = refl
reg-set_other rs Rdata Rdata w ne = absurd (ne refl)
reg-set_other rs Rdata d w ne = refl
reg-set_other rs Stk Stk w ne = absurd (ne refl)
reg-set_other rs Stk d w ne = refl
reg-set_other rs Dat Dat w ne = absurd (ne refl)
reg-set_other rs Dat d w ne = refl
reg-set_other rs T1 T1 w ne = absurd (ne refl)
reg-set_other rs T1 d w ne = refl
reg-set_other rs T2 T2 w ne = absurd (ne refl)
reg-set_other rs T2 d w ne = refl
reg-set_other rs C1 C1 w ne = absurd (ne refl)
reg-set_other rs C1 d w ne = refl
reg-set_other rs C2 C2 w ne = absurd (ne refl)
reg-set_other rs C2 d w ne = refl
reg-set_other rs A0 A0 w ne = absurd (ne refl)
reg-set_other rs A0 d w ne = refl
reg-set_other rs A1 A1 w ne = absurd (ne refl)
reg-set_other rs A1 d w ne = refl
reg-set_other rs A2 A2 w ne = absurd (ne refl)
reg-set_other rs A2 d w ne = refl
reg-set_other rs A3 A3 w ne = absurd (ne refl)
reg-set_other rs A3 d w ne = refl
reg-set_other rs G0 G0 w ne = absurd (ne refl)
reg-set_other rs G0 d w ne = refl
reg-set_other rs G1 G1 w ne = absurd (ne refl)
reg-set_other rs G1 d w ne = refl
reg-set_other rs G2 G2 w ne = absurd (ne refl)
reg-set_other rs G2 d w ne = refl

-- to set a register to what it holds changes nothing
pub set_reg-reg : {W : Type 0} (rs : Regs W) (r : Reg) → set_reg rs r (reg rs r) ≡ rs
set_reg-reg rs Pc = refl
set_reg-reg rs Rcode = refl
set_reg-reg rs Rdata = refl
set_reg-reg rs Stk = refl
set_reg-reg rs Dat = refl
set_reg-reg rs T1 = refl
set_reg-reg rs T2 = refl
set_reg-reg rs C1 = refl
set_reg-reg rs C2 = refl
set_reg-reg rs A0 = refl
set_reg-reg rs A1 = refl
set_reg-reg rs A2 = refl
set_reg-reg rs A3 = refl
set_reg-reg rs G0 = refl
set_reg-reg rs G1 = refl
set_reg-reg rs G2 = refl

-- registers that hold the same words are the same
pub same_regs : {W : Type 0} (a b : Regs W) → ((r : Reg) → reg a r ≡ reg b r) → a ≡ b
same_regs a b h = λ i. record {
  pc = h Pc i;
  rcode = h Rcode i;
  rdata = h Rdata i;
  stk = h Stk i;
  dat = h Dat i;
  t1 = h T1 i;
  t2 = h T2 i;
  c1 = h C1 i;
  c2 = h C2 i;
  a0 = h A0 i;
  a1 = h A1 i;
  a2 = h A2 i;
  a3 = h A3 i;
  g0 = h G0 i;
  g1 = h G1 i;
  g2 = h G2 i;
}
