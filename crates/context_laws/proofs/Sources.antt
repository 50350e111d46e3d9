-- Linked sources in lockstep.
use Rattle.std.proofs.Common.{◌≡◌, ℕ, List, [], Some, refl, sym, ap, ◌∙◌}
use Rattle.cap_words.specs.declared.Word.{Word}
use Rattle.cap_words.specs.declared.Word.TheVariants.{Mem}
use Rattle.lcm_isa.specs.declared.Reg.{Reg}
use Rattle.lcm_isa.specs.declared.Reg.TheVariants.{Pc, Rcode, Rdata, Stk, Dat, T1, T2, C1, C2, A0, A1, A2, A3}
use Rattle.lcm_isa.specs.declared.Reg.TheVariants.{G0, G1, G2}
use Rattle.lcm_machine.specs.Maps.{Regs}
use Rattle.lcm_machine.specs.Places.{reg}
use Rattle.linked_starts.specs.Parts.{PartSeen}
use Rattle.linked_starts.specs.Standing.{placed}
use Rattle.linked_starts.specs.Start.{Exported, stack_base_of, start_regs, code_of, data_of, stack_of}
use Rattle.linked_starts.proofs.Offers.{stack_begins}
use Rattle.lcm_machine.specs.Spans.{zero_regs}
use Rattle.linked_starts.specs.Started.{StartSeen}
use Rattle.linked_starts.specs.LinkedStarts.{IsLinkedStart}
use Rattle.overlay_machine.specs.declared.words.OWord.TheVariants.{Plain}
use Rattle.overlay_machine.specs.Copies.{plain_regs}
use Rattle.overlay_machine.specs.Link.{Link}
use Rattle.overlay_machine.specs.Linked.{IsLink}
use Rattle.overlay_machine.specs.Starting.{StartsBegin, AgreesFromStart}
use Rattle.source_laws.specs.Secrets.{comes}
use Rattle.source_starts.specs.Links.{overlay_link, first_state}
use Rattle.source_starts.specs.Sources.{LinkedStart, LinkedSources, SourcesLeaveNothing}
use Rattle.source_starts.proofs.Offers.{held_at}
use Rattle.lockstep.specs.Related.{IsOurs, SameWord, ours}
use Rattle.lockstep.specs.Lockstep.{HoldsAlong, Tidies}
use Rattle.context_laws.specs.Sources.{SourcesInStep, SourcesAgainstContexts, StartsAlike}
use Rattle.lockstep.proofs.Offers.{run_in_step, no_context_tells}

abbrev pub StartsAgree : Type 0
StartsAgree = (parts : List PartSeen) (size : ℕ) (s : StartSeen) → IsLinkedStart parts size s
    → AgreesFromStart parts size s

pub linked_is : StartsBegin → (a : LinkedStart) → IsLink (overlay_link a.link)
linked_is begin a = (held_at begin a).linked

pub holds_is : StartsAgree → (a : LinkedStart) → HoldsAlong (overlay_link a.link) (first_state a.link)
holds_is agree a j p r =
    let m = (agree (placed a.parts a.size) a.size a.start a.is_start).matched j p r in (m.0, m.2)

pub tidies_is : SourcesLeaveNothing → (a : LinkedSources) → Tidies (overlay_link a.link)
    (first_state a.link)
tidies_is leaves a i r reached ir =
    (leaves a).tidied r.before r.entered r.last r.after
    (record { at = i; matched = reached; outside = ir.outside; steps = ir.comes })
    (record {
      came = comes i r.before reached ir.outside ir.comes;
      until = ir.until;
      steps = ir.lets;
      gone = ir.gone;
    })

module _ (begin : StartsBegin) (agree : StartsAgree) (leaves : SourcesLeaveNothing) where
  pub sources_in_step : SourcesInStep
  sources_in_step a b names =
      run_in_step (overlay_link a.link) (overlay_link b.link) names (linked_is begin a.linked)
      (linked_is begin b.linked) (first_state a.link) (first_state b.link) (holds_is agree a.linked)
      (holds_is agree b.linked) (tidies_is leaves a) (tidies_is leaves b)

  pub sources_against_contexts : {I O : Type 0} → SourcesAgainstContexts I O
  sources_against_contexts a b names =
      no_context_tells (overlay_link a.link) (overlay_link b.link) names (linked_is begin a.linked)
      (linked_is begin b.linked) (first_state a.link) (first_state b.link) (holds_is agree a.linked)
      (holds_is agree b.linked) (tidies_is leaves a) (tidies_is leaves b)

-- ---- starts

all_ours : (g : Link) (parts : List PartSeen) (size : ℕ) (m : Exported) (r : Reg)
    → IsOurs g (reg (start_regs parts size m) r)
unfolding start_regs
all_ours g parts size m Pc = tt
all_ours g parts size m Rcode = tt
all_ours g parts size m Rdata = tt
all_ours g parts size m Stk = tt
all_ours g parts size m Dat = tt
all_ours g parts size m T1 = tt
all_ours g parts size m T2 = tt
all_ours g parts size m C1 = tt
all_ours g parts size m C2 = tt
all_ours g parts size m A0 = tt
all_ours g parts size m A1 = tt
all_ours g parts size m A2 = tt
all_ours g parts size m A3 = tt
all_ours g parts size m G0 = tt
all_ours g parts size m G1 = tt
all_ours g parts size m G2 = tt

plain_reg : (rs : Regs Word) (r : Reg) → reg (plain_regs rs) r ≡ Plain (reg rs r)
plain_reg rs Pc = refl
plain_reg rs Rcode = refl
plain_reg rs Rdata = refl
plain_reg rs Stk = refl
plain_reg rs Dat = refl
plain_reg rs T1 = refl
plain_reg rs T2 = refl
plain_reg rs C1 = refl
plain_reg rs C2 = refl
plain_reg rs A0 = refl
plain_reg rs A1 = refl
plain_reg rs A2 = refl
plain_reg rs A3 = refl
plain_reg rs G0 = refl
plain_reg rs G1 = refl
plain_reg rs G2 = refl

base_only : (ps qs : List PartSeen) (size : ℕ) (m : Exported) → stack_base_of ps ≡ stack_base_of qs
    → start_regs ps size m ≡ start_regs qs size m
unfolding start_regs
base_only ps qs size m e = ap (λ b. record (zero_regs (λ w. w)) {
  pc = Mem (code_of m);
  dat = Mem (data_of m.part);
  stk = Mem (stack_of b size);
}) e

pub starts_alike : StartsAlike
starts_alike a b one_size names main cells = (
  record { seen = (regs, cells); newest = tt },
  record { first = λ k j c. absurd c; second = λ k j c. absurd c; one = λ k j i h c. absurd c },
)
  where
    P : List PartSeen
    P = placed a.parts a.size

    Q : List PartSeen
    Q = placed b.parts b.size

    m : Exported
    m = a.is_start.starts.state.main

    one : a.start.state.maps.regs ≡ start_regs P a.size m
    one = a.is_start.starts.state.regs

    base : stack_base_of Q ≡ stack_base_of P
    base = stack_begins Q b.size b.start.stack b.is_start.starts.stack ∙ sym names.stack
        ∙ sym (stack_begins P a.size a.start.stack a.is_start.starts.stack)

    same_main : b.is_start.starts.state.main ≡ m
    same_main =
        let k : Some b.is_start.starts.state.main ≡ Some m =
        sym b.is_start.starts.state.main_is ∙ sym main ∙ a.is_start.starts.state.main_is in
        cc

    other : b.start.state.maps.regs ≡ start_regs P a.size m
    other = b.is_start.starts.state.regs ∙ ap (start_regs Q b.size) same_main
        ∙ ap (λ n. start_regs Q n m) (sym one_size) ∙ base_only Q P a.size m base

    regs : (r : Reg) → SameWord (overlay_link a.link) (overlay_link b.link) names []
        (reg (first_state a.link).maps.regs r) (reg (first_state b.link).maps.regs r)
    regs r = rw (
      plain_reg a.start.state.maps.regs r,
      plain_reg b.start.state.maps.regs r,
      one,
      other,
    ) (ours (reg (start_regs P a.size m) r) (all_ours (overlay_link a.link) P a.size m r))
