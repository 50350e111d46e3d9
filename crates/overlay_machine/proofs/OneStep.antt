-- One overlay step is as many plain steps as it weighs.
use Rattle.std.proofs.Common.{◌≡◌, Bool, true, false, refl}
use Rattle.std.specs.Prelude.{◌&&◌, if◌then◌else◌}
use Rattle.cap_words.specs.declared.Word.{Word}
use Rattle.lcm_isa.specs.declared.Reg.{Reg}
use Rattle.lcm_isa.specs.declared.Reg.TheVariants.{Pc}
use Rattle.lcm_isa.specs.declared.Instr.TheVariants.{Xjmp}
use Rattle.lcm_machine.specs.Maps.{State}
use Rattle.lcm_machine.specs.Places.{reg}
use Rattle.lcm_machine.specs.Row.{faces, cell_faces, fetch, some}
use Rattle.lcm_machine.specs.Runs.{run_of}
use Rattle.trusted_border.specs.declared.layout.Layout.{Layout}
use Rattle.overlay_machine.specs.declared.words.OWord.{OWord}
use Rattle.overlay_machine.specs.declared.cases.Case.{Case}
use Rattle.overlay_machine.specs.declared.cases.Case.TheVariants.{Call, Entry, Back, Other}
use Rattle.overlay_machine.specs.Words.{look, is_plain}
use Rattle.overlay_machine.specs.State.{OState}
use Rattle.overlay_machine.specs.Step.{case_of, step_by, weight_by, overlay_step, weight_of}
use Rattle.overlay_machine.specs.Flat.{IsFlat}
use Rattle.overlay_machine.specs.Agree.{EndsAgree, Looks, ReadyFor}
use Rattle.overlay_machine.proofs.WholeCall.{whole_call}
use Rattle.overlay_machine.proofs.EntryAgrees.{entry_agrees}
use Rattle.overlay_machine.proofs.ReturnAgrees.{return_agrees}
use Rattle.overlay_machine.proofs.OtherAgrees.{fetched_case, other_agrees}

-- one overlay step is as many plain instructions as it weighs
abbrev pub OneStep : Type 0
OneStep =
    (l : Layout) (o : OState) (t : State Word) → ReadyFor l o (case_of l o.maps) → IsFlat l o t → Looks l o
    → EndsAgree l (overlay_step l o) (run_of (λ w. w) (λ w. w) (weight_of l o) t)

not_plain : (b : Bool) (r1 r2 : Reg) → (if b then Other else Back r1 r2) ≡ Back r1 r2 → b ≡ false
not_plain true r1 r2 e = cc
not_plain false r1 r2 e = refl

back_plain : (l : Layout) (s : State OWord) (r1 r2 : Reg) (next : Word) → case_of l s ≡ Back r1 r2
    → fetch (faces look s Pc) (cell_faces look s) ≡ some (Xjmp r1 r2) next
    → (is_plain (reg s.regs r1) && is_plain (reg s.regs r2)) ≡ false
back_plain l s r1 r2 next e f = not_plain _ r1 r2 (rw f at (fetched_case l s (Back r1 r2) tt e))

by_case : (l : Layout) (o : OState) (t : State Word) (c : Case) → case_of l o.maps ≡ c → ReadyFor l o c
    → IsFlat l o t → Looks l o → EndsAgree l (step_by l c o) (run_of (λ w. w) (λ w. w) (weight_by o.maps c) t)
by_case l o t (Call i) e ready m k = whole_call l i o t ready m k
by_case l o t (Entry a) e ready m k = entry_agrees l a o t ready m k
by_case l o t (Back r1 r2) e ready m k =
    return_agrees l r1 r2 o t ready m k (back_plain l o.maps r1 r2 ready.next e ready.fetched)
by_case l o t Other e ready m k = other_agrees l o t m k ready e

pub one_step : OneStep
unfolding overlay_step weight_of
one_step l o t ready m k = by_case l o t (case_of l o.maps) refl ready m k
