-- A name leads to the register that has it.
use Rattle.std.proofs.Common.{◌≡◌, ◌≢◌, ℕ, List, [], ◌∷◌, Option, Some, None, Bool, true, false, refl, sym}
use Rattle.std.proofs.Common.{ap, ◌∙◌, cond}
use Rattle.std.specs.Prelude.{IfSome, IfNone, find}
use Rattle.std.specs.Str.{bytes_eq}
use Rattle.std.proofs.lemmas.Slice.Eq.{bytes_eq-Decides}
use Rattle.lcm_isa.specs.declared.Reg.{Reg}
use Rattle.lcm_isa.specs.declared.Reg.TheVariants.{Pc, Rcode, Rdata, Stk, Dat, T1, T2, C1, C2, A0, A1, A2, A3}
use Rattle.lcm_isa.specs.declared.Reg.TheVariants.{G0, G1, G2}
use Rattle.lcm_isa.specs.Numbers.{all_regs}
use Rattle.lcm_isa.specs.Texts.{reg_name}

-- the first register with this name
unfoldable pub first_named : List ℕ → Option Reg
first_named name = find (λ r. bytes_eq (reg_name r) name) all_regs

pub first_named-reg_name : (r : Reg) → first_named (reg_name r) ≡ Some r
unfolding first_named
first_named-reg_name Pc = refl
first_named-reg_name Rcode = refl
first_named-reg_name Rdata = refl
first_named-reg_name Stk = refl
first_named-reg_name Dat = refl
first_named-reg_name T1 = refl
first_named-reg_name T2 = refl
first_named-reg_name C1 = refl
first_named-reg_name C2 = refl
first_named-reg_name A0 = refl
first_named-reg_name A1 = refl
first_named-reg_name A2 = refl
first_named-reg_name A3 = refl
first_named-reg_name G0 = refl
first_named-reg_name G1 = refl
first_named-reg_name G2 = refl

found_kept : (b : Bool) (name : List ℕ) (x r : Reg) (o : Option Reg) → bytes_eq (reg_name x) name ≡ b
    → (o ≡ Some r → name ≡ reg_name r) → cond b (Some x) o ≡ Some r → name ≡ reg_name r
found_kept false name x r o h k e = k e
found_kept true name x r o h k e = let one : x ≡ r = cc in sym ((bytes_eq-Decides (reg_name x) name).0 h)
    ∙ ap reg_name one

found_in : (name : List ℕ) (xs : List Reg) (r : Reg) → find (λ x. bytes_eq (reg_name x) name) xs ≡ Some r
    → name ≡ reg_name r
found_in name [] r e = cc
found_in name (x ∷ xs) r e = found_kept (bytes_eq (reg_name x) name) name x r _ refl (found_in name xs r) e

pub named_found : (name : List ℕ) (o : Option Reg) → o ≡ first_named name → IfSome o (λ r. name ≡ reg_name r)
unfolding first_named
named_found name None e = tt
named_found name (Some r) e = found_in name all_regs r (sym e)

pub named_back : (name : List ℕ) (o : Option Reg) → o ≡ first_named name → (r : Reg) → name ≡ reg_name r
    → o ≡ Some r
named_back name o e r h = e ∙ ap first_named h ∙ first_named-reg_name r

pub named_none : (name : List ℕ) (o : Option Reg) → o ≡ first_named name
    → IfNone o ((r : Reg) → name ≢ reg_name r)
named_none name None e = λ r h. let bad : None ≡ Some r = named_back name None e r h in cc
named_none name (Some r) e = tt
