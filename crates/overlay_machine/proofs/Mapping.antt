-- Registers, and the entries of cells, each word mapped.
use Rattle.std.proofs.Common.{◌≡◌, ℕ, Bool, true, false, List, [], ◌∷◌, map, Some, refl}
use Rattle.std.specs.Prelude.{cond, option_map}
use Rattle.std.specs.Ordering.{nat_cmp, eq_by_cmp}
use Rattle.std.specs.FinMap as finite
use Rattle.lcm_isa.specs.declared.Reg.{Reg}
use Rattle.lcm_isa.specs.declared.Reg.TheVariants.{Pc, Rcode, Rdata, Stk, Dat, T1, T2, C1, C2, A0, A1, A2, A3}
use Rattle.lcm_isa.specs.declared.Reg.TheVariants.{G0, G1, G2}
use Rattle.lcm_machine.specs.Maps.{Regs}
use Rattle.lcm_machine.specs.Places.{reg}
use Rattle.overlay_machine.specs.Copies.{mapped_regs}

pub reg_mapped : {W V : Type 0} (f : W → V) (rs : Regs W) (r : Reg) → reg (mapped_regs f rs) r ≡ f (reg rs r)
reg_mapped f rs Pc = refl
reg_mapped f rs Rcode = refl
reg_mapped f rs Rdata = refl
reg_mapped f rs Stk = refl
reg_mapped f rs Dat = refl
reg_mapped f rs T1 = refl
reg_mapped f rs T2 = refl
reg_mapped f rs C1 = refl
reg_mapped f rs C2 = refl
reg_mapped f rs A0 = refl
reg_mapped f rs A1 = refl
reg_mapped f rs A2 = refl
reg_mapped f rs A3 = refl
reg_mapped f rs G0 = refl
reg_mapped f rs G1 = refl
reg_mapped f rs G2 = refl

-- the entry of an address
pub found_mapped : {W V : Type 0} (f : W → V) (es : List (ℕ × W)) (q : ℕ)
    → finite.find nat_cmp q (map (λ e. (e.0, f e.1)) es) ≡ option_map f (finite.find nat_cmp q es)
found_mapped f [] q = refl
found_mapped {W} {V} f (e ∷ es) q = by_key (eq_by_cmp nat_cmp q e.0) (found_mapped f es q)
  where
    by_key : (b : Bool)
        → finite.find nat_cmp q (map (λ x. (x.0, f x.1)) es) ≡ option_map f (finite.find nat_cmp q es)
        → cond b (Some (f e.1)) (finite.find nat_cmp q (map (λ x. (x.0, f x.1)) es))
        ≡ option_map f (cond b (Some e.1) (finite.find nat_cmp q es))
    by_key true more = refl
    by_key false more = more
