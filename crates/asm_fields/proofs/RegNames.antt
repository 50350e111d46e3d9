-- The register of a name is the first that has it.
use Rattle.std.proofs.Common.{◌≡◌, ◌≢◌, ◌∙◌, ℕ, List, Option, Some, None, refl, sym, ap}
use Rattle.std.specs.Prelude.{IfSome, IfNone}
use Rattle.lcm_isa.specs.declared.Reg.{Reg}
use Rattle.lcm_isa.specs.Texts.{reg_name}
use Rattle.lcm_isa.proofs.Offers.{first_named, first_named-reg_name, named_found}
use Rattle.asm_fields.specs.Names.{reg_named}

none_found : (name : List ℕ) (o : Option Reg) → IfSome o (λ r. name ≡ reg_name r)
    → ((r : Reg) → name ≢ reg_name r) → None ≡ o
none_found name None found none = refl
none_found name (Some r) found none = absurd (none r found)

pub reg_is : (name : List ℕ) (o : Option Reg) → IfSome o (λ r. name ≡ reg_name r)
    → IfNone o ((r : Reg) → name ≢ reg_name r) → o ≡ reg_named name
unfolding first_named
reg_is name None found none = none_found name (reg_named name) (named_found name (reg_named name) refl) none
reg_is name (Some r) found none = sym (first_named-reg_name r) ∙ ap first_named (sym found)
