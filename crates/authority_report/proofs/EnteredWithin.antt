-- A part that is entered runs within its report, and doesn't depend on what it can't read.
use Rattle.std.proofs.Common.{◌≡◌, ℕ, List, Some, refl, sym, subst, ◌∙◌, pos}
use Rattle.cap_words.specs.declared.Word.{Word}
use Rattle.lcm_isa.specs.declared.Reg.{Reg}
use Rattle.lcm_isa.specs.declared.Reg.TheVariants.{Pc, Rcode, Rdata, Stk, Dat, T1, T2, C1, C2}
use Rattle.lcm_isa.specs.declared.Reg.TheVariants.{A0, A1, A2, A3, G0, G1, G2}
use Rattle.lcm_machine.specs.Maps.{Regs}
use Rattle.lcm_machine.specs.Run.{Run}
use Rattle.lcm_machine.specs.Places.{reg}
use Rattle.linked_starts.specs.declared.owners.Owner.{Owner}
use Rattle.linked_starts.specs.declared.owners.Entry.{Entry}
use Rattle.linked_starts.specs.Started.{StartSeen}
use Rattle.linked_starts.specs.Parts.{PartSeen}
use Rattle.linked_starts.specs.Owners.{owner_of}
use Rattle.linked_starts.specs.Start.{Exported, start_regs}
use Rattle.authority_report.specs.Reaches.{its_code, its_data, the_stack}
use Rattle.authority_report.specs.declared.reach.Reach.{Reach}
use Rattle.authority_report.specs.Report.{told_authority, owner_of_part, IsReport, Reports}
use Rattle.authority_report.specs.Within.{Authority, IsWithin}
use Rattle.authority_report.specs.Bounds.{IsBounded}
use Rattle.authority_report.specs.Entered.{IsLinked, entered_at, HalvesUnsealed, ReportsBoundRuns}
use Rattle.authority_report.specs.Influence.{ReportsBoundInfluence}
use Rattle.authority_report.proofs.ReachedWithin.{word_just, cell_just}
use Rattle.authority_report.proofs.RunsWithin.{runs_within}
use Rattle.authority_report.proofs.RunsBlind.{runs_blind}

-- the registers that aren't the part's own are 0
module _ (g : Authority) (parts : List PartSeen) (size : ℕ) (main : Exported) (s : StartSeen) (o : Owner)
    (e : Entry)
    (is : s.state.maps.regs ≡ start_regs parts size main)
    (pc : IsWithin g (reg (entered_at s o e).regs Pc))
    (dat : IsWithin g (reg (entered_at s o e).regs Dat))
    (stk : IsWithin g (reg s.state.maps.regs Stk)) where
  zero_at : (at : Regs Word → Word) → IsWithin g (at (start_regs parts size main))
      → IsWithin g (at s.state.maps.regs)
  zero_at at h = subst (λ r. IsWithin g (at r)) (sym is) h

  all_regs : (r : Reg) → IsWithin g (reg (entered_at s o e).regs r)
  unfolding start_regs
  all_regs Pc = pc
  all_regs Dat = dat
  all_regs Stk = stk
  all_regs Rcode = zero_at (λ r. r.rcode) tt
  all_regs Rdata = zero_at (λ r. r.rdata) tt
  all_regs T1 = zero_at (λ r. r.t1) tt
  all_regs T2 = zero_at (λ r. r.t2) tt
  all_regs C1 = zero_at (λ r. r.c1) tt
  all_regs C2 = zero_at (λ r. r.c2) tt
  all_regs A0 = zero_at (λ r. r.a0) tt
  all_regs A1 = zero_at (λ r. r.a1) tt
  all_regs A2 = zero_at (λ r. r.a2) tt
  all_regs A3 = zero_at (λ r. r.a3) tt
  all_regs G0 = zero_at (λ r. r.g0) tt
  all_regs G1 = zero_at (λ r. r.g1) tt
  all_regs G2 = zero_at (λ r. r.g2) tt

-- a report of the owner that a part has
pub reports_it : (s : StartSeen) (part : ℕ) (r : Reach) (o : Owner) (m : Run)
    → owner_of_part s.owners part ≡ Some o
    → m ≡ s.state → IsReport m.maps o r → Reports s part r
reports_it s part r o m its same is = (o, its, subst (λ (x : Run). IsReport x.maps o r) same is)

its_report : (s : StartSeen) (part : ℕ) (r : Reach) (o : Owner) → owner_of_part s.owners part ≡ Some o
    → Reports s part r → IsReport s.state.maps o r
its_report s part r o its (q, also, is) =
    let both : Some q ≡ Some o = sym also ∙ its in
    let same : q ≡ o = cc in
    subst (λ (x : Owner). IsReport s.state.maps x r) same is

-- where a part is entered, no word gives more than its report tells
pub holds_entered : (s : StartSeen) (part : ℕ) (r : Reach) → IsLinked s → Reports s part r → (o : Owner)
    (e : Entry) → owner_of_part s.owners part ≡ Some o → IsBounded (told_authority o r) (entered_at s o e)
holds_entered s part r linked reports o e its =
    let m = s.state.maps in
    let g = told_authority o r in
    let starts = linked.starts.state in
    let just = (its_report s part r o its reports).just in
    record {
      regs = all_regs g linked.parts linked.size starts.main s o e starts.regs
          (word_just m o g (λ n. refl) just _ (its_code (pos e.at)))
          (word_just m o g (λ n. refl) just _ its_data)
          (word_just m o g (λ n. refl) just _ the_stack);
      cells = λ a w reads at. cell_just m o g (λ n. refl) just a w reads at;
    }

pub reports_bound_runs : ReportsBoundRuns
reports_bound_runs s part r linked reports o e its there =
    runs_within (told_authority o r) (entered_at s o e) (holds_entered s part r linked reports o e its)

pub reports_bound_influence : ReportsBoundInfluence
reports_bound_influence s part r linked reports o e its there =
    runs_blind (told_authority o r) (entered_at s o e) (holds_entered s part r linked reports o e its)

pub halves_unsealed : HalvesUnsealed
unfolding owner_of
halves_unsealed k x = (refl, refl)
