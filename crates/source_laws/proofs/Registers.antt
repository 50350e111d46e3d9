-- Registers of two numbers are two.
use Rattle.std.proofs.Common.{◌≡◌, true, false, refl, sym, ◌∙◌, subst, eq-eqb}
use Rattle.std.specs.Prelude.{◌≢◌, nat_eq}
use Rattle.lcm_isa.specs.declared.Reg.{Reg}
use Rattle.lcm_isa.specs.Numbers.{reg_number}

pub other : (a b : Reg) → nat_eq (reg_number a) (reg_number b) ≡ false → a ≢ b
other a b n e =
    let same = subst (λ r. nat_eq (reg_number a) (reg_number r) ≡ false) (sym e) n in
    let bad : true ≡ false = sym (eq-eqb (reg_number a) (reg_number a) refl) ∙ same in cc
