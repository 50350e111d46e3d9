-- The words of a start fit: those that parts have, the halves of exports, and those of registers.
use Rattle.std.proofs.Common.{◌≡◌, ◌⊎◌, inl, inr, ℕ, ◌+◌, ◌-◌, List, Some, None, length, sym, ap, ◌∙◌}
use Rattle.std.proofs.Common.{subst, arith}
use Rattle.std.specs.Prelude.{slice_get}
use Rattle.std.proofs.lemmas.Option.{slice_get-get_or}
use Rattle.cap_words.specs.declared.Word.{Word}
use Rattle.cap_words.specs.declared.Sealable.TheVariants.{Mem as MemIn}
use Rattle.cap_words.specs.WordBytes.{ContentFits, WordFits}
use Rattle.lcm_isa.specs.declared.Reg.{Reg}
use Rattle.lcm_isa.specs.declared.Reg.TheVariants.{Pc, Rcode, Rdata, Stk, Dat, T1, T2, C1, C2, A0, A1, A2, A3}
use Rattle.lcm_isa.specs.declared.Reg.TheVariants.{G0, G1, G2}
use Rattle.lcm_machine.specs.Maps.{Regs}
use Rattle.lcm_machine.specs.Places.{reg}
use Rattle.lcm_machine.proofs.Offers.{small_fits, zero_fits}
use Rattle.linked_starts.specs.Parts.{PartSeen}
use Rattle.linked_starts.specs.Start.{Exported, code_of, data_of, code_half, data_half, stack_of}
use Rattle.linked_starts.specs.Start.{stack_base_of, start_regs}
use Rattle.linked_starts.specs.Linked.{Kept, Linked}
use Rattle.linked_starts.specs.StartFits.{StartsFit}
use Rattle.linked_starts.proofs.ListedOwners.{export_fits}
use Rattle.linked_starts.proofs.RegionFacts.{size_bounds}
use Rattle.linked_starts.proofs.StartHeld.{word_fits, get_left, get_right}
use Rattle.linked_starts.proofs.StartWords.{IsExport, main_is_there, CellIs, of_code, of_data, of_slot}
use Rattle.linked_starts.proofs.StartWords.{of_none, cell_is}
use Rattle.linked_starts.proofs.LinksKept.{are_linked}

module _ (parts : List PartSeen) (size : ℕ) (linked : Linked parts size) where
  kept : (k : ℕ) (p : PartSeen) → slice_get parts k ≡ Some p → Kept p
  kept k p at = linked.closed.kept k p at

  code_cap : (x : Exported) → IsExport parts x → ContentFits (MemIn (code_of x))
  code_cap x is =
      let k = kept is.index x.part is.at in
      let some = k.limits.code.0.0 in
      let end = k.code_end in
      let base = k.limits.code_base in
      let m = is.listed in
      let at : slice_get x.part.component.exports m.0 ≡ Some x.export =
      slice_get-get_or x.part.component.exports m.0 x.export m.1 ∙ ap Some m.2 in
      let off = export_fits x.part.component.exports None m.0 x.export k.limits.exports.1 at in
      let addr = small_fits (x.part.component.code_base + x.export.offset) (omega (arith, base, off)) in
      ((omega (arith, some), omega (arith, end)), addr)

  data_cap : (k : ℕ) (p : PartSeen) → slice_get parts k ≡ Some p → ContentFits (MemIn (data_of p))
  data_cap n p at =
      let k = kept n p at in
      let some = k.limits.data_words.0.0 in
      let end = k.data_end in
      let base = k.limits.data_base in
      ((omega (arith, some), omega (arith, end)), small_fits p.component.data_base (omega (arith, base)))

  stack_cap : ContentFits (MemIn (stack_of (stack_base_of parts) size))
  stack_cap =
      let b = (size_bounds size linked.size_fits).0 in
      let end = linked.stack_end in
      let addr = small_fits (stack_base_of parts + size - 1) (omega (arith, end)) in
      ((omega (arith, b), omega (arith, end)), addr)

  half_fits : (w : Word) (x : Exported) → IsExport parts x → (w ≡ code_half x) ⊎ (w ≡ data_half x)
      → WordFits w
  half_fits w x is (inl e) =
      subst WordFits (sym e) ((kept is.index x.part is.at).limits.closure, code_cap x is)
  half_fits w x is (inr e) =
      subst WordFits (sym e) ((kept is.index x.part is.at).limits.closure, data_cap is.index x.part is.at)

  cell_fits : (a : ℕ) (w : Word) → CellIs parts a w → WordFits w
  cell_fits a w (of_code k o p at is here) =
      (word_fits p o w (kept k p at) (get_left p.component.code p.component.data_words o w is)).0
  cell_fits a w (of_data k o p at is here) =
      let there = get_right p.component.code p.component.data_words o w is in
      (word_fits p (length p.component.code + o) w (kept k p at) there).0
  cell_fits a w (of_slot x is e) = half_fits w x is e
  cell_fits a w (of_none e) = subst WordFits (sym e) zero_fits

  reg_fits : (main : Exported) → IsExport parts main → (r : Reg)
      → WordFits (reg (start_regs parts size main) r)
  unfolding start_regs
  reg_fits main is Pc = code_cap main is
  reg_fits main is Rcode = zero_fits
  reg_fits main is Rdata = zero_fits
  reg_fits main is Stk = stack_cap
  reg_fits main is Dat = data_cap is.index main.part is.at
  reg_fits main is T1 = zero_fits
  reg_fits main is T2 = zero_fits
  reg_fits main is C1 = zero_fits
  reg_fits main is C2 = zero_fits
  reg_fits main is A0 = zero_fits
  reg_fits main is A1 = zero_fits
  reg_fits main is A2 = zero_fits
  reg_fits main is A3 = zero_fits
  reg_fits main is G0 = zero_fits
  reg_fits main is G1 = zero_fits
  reg_fits main is G2 = zero_fits

pub starts_fit : StartsFit
starts_fit parts size s each rules start =
    let linked = are_linked parts size each rules in
    let main = main_is_there parts start.main start.main_is in
    let set = reg_fits parts size linked start.main main in (
      λ r. subst (λ (rs : Regs Word). WordFits (reg rs r)) (sym start.regs) (set r),
      λ a w e. cell_fits parts size linked a w (cell_is parts size a w (sym (start.cells a) ∙ e)),
    )
