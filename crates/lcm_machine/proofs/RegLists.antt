-- Registers as a list, in the order of their numbers.
use Rattle.std.proofs.Common.{◌≡◌, ◌≢◌, refl, sym, ap, ◌∙◌, inl, inr, ◌<◌, List, length}
use Rattle.std.specs.Prelude.{slice_index_or, slice_set}
use Rattle.std.proofs.lemmas.List.{get_or-set_same, get_or-set_other}
use Rattle.lcm_isa.specs.declared.Reg.{Reg}
use Rattle.lcm_isa.specs.declared.Reg.TheVariants.{Pc, Rcode, Rdata, Stk, Dat, T1, T2, C1, C2, A0, A1, A2, A3}
use Rattle.lcm_isa.specs.declared.Reg.TheVariants.{G0, G1, G2}
use Rattle.lcm_isa.specs.Numbers.{reg_number, reg_of}
use Rattle.lcm_isa.proofs.Offers.{reg_back}
use Rattle.lcm_machine.specs.Maps.{regs_of}
use Rattle.lcm_machine.specs.Places.{reg, set_reg}
use Rattle.lcm_machine.proofs.RegLemmas.{cases_reg, reg-set_same, reg-set_other, same_regs}

-- the registers of a list, and of one with an element set
pub listed : {W : Type 0} (z : W) (ws : List W) (r : Reg)
    → reg (regs_of z ws) r ≡ slice_index_or ws (reg_number r) z
listed z ws Pc = refl
listed z ws Rcode = refl
listed z ws Rdata = refl
listed z ws Stk = refl
listed z ws Dat = refl
listed z ws T1 = refl
listed z ws T2 = refl
listed z ws C1 = refl
listed z ws C2 = refl
listed z ws A0 = refl
listed z ws A1 = refl
listed z ws A2 = refl
listed z ws A3 = refl
listed z ws G0 = refl
listed z ws G1 = refl
listed z ws G2 = refl

pub set_listed : {W : Type 0} (z : W) (ws : List W) (r : Reg) (w : W) → reg_number r < length ws
    → regs_of z (slice_set ws (reg_number r) w) ≡ set_reg (regs_of z ws) r w
set_listed z ws r w h = same_regs _ _ (λ d. listed z (slice_set ws (reg_number r) w) d
    ∙ elim (cases_reg d r) as
    (λ _. slice_index_or (slice_set ws (reg_number r) w) (reg_number d) z
    ≡ reg (set_reg (regs_of z ws) r w) d) [
      | inl same ↦ rw same (get_or-set_same ws (reg_number r) w z h ∙ sym (reg-set_same (regs_of z ws) r w))
      | inr ne ↦ get_or-set_other ws (reg_number r) (reg_number d) w z
          (λ e. ne (sym (reg_back d) ∙ ap reg_of e ∙ reg_back r))
          ∙ sym (listed z ws d) ∙ sym (reg-set_other (regs_of z ws) r d w ne)
    ])
