-- Registers after an entry or a return fit the clean row.
use Rattle.std.proofs.Common.{◌≡◌, ◌≢◌, ℕ, ℤ, pos, false, List, refl, ap}
use Rattle.cap_words.specs.declared.Word.TheVariants.{Mem}
use Rattle.cap_words.specs.Linear.{zero_word}
use Rattle.lcm_isa.specs.declared.Reg.{Reg}
use Rattle.lcm_isa.specs.declared.Reg.TheVariants.{Pc, Rcode, Rdata, Stk, Dat, T1, T2, C1, C2, A0, A1, A2, A3}
use Rattle.lcm_isa.specs.declared.Reg.TheVariants.{G0, G1, G2}
use Rattle.lcm_machine.specs.Maps.{Regs}
use Rattle.lcm_machine.specs.Places.{reg}
use Rattle.lcm_machine.specs.Table.{is_pc}
use Rattle.call_sequence.specs.Kinds.{kind_of, clean_row}
use Rattle.call_sequence.specs.Local.{LeadsTo}
use Rattle.call_sequence.specs.Holds.{data_cap, part_stack_cap, Up, PcAt, HasKinds, HasKind}
use Rattle.call_sequence.proofs.Offers.{row_fits}
use Rattle.linked_starts.specs.Parts.{PartSeen}
use Rattle.overlay_machine.specs.declared.words.OWord.{OWord}
use Rattle.overlay_machine.specs.declared.words.OWord.TheVariants.{Plain}
use Rattle.overlay_machine.specs.Words.{look}
use Rattle.overlay_machine.specs.State.{OpenFrame}
use Rattle.overlay_machine.specs.Link.{Link, IsTrusted, ranges_of, IsStackCell}
use Rattle.overlay_machine.specs.Linked.{IsLink}
use Rattle.overlay_machine.specs.Safe.{IsSafe}
use Rattle.overlay_machine.specs.Invariant.{StandsAt}
use Rattle.overlay_machine.proofs.invariant.Facts.{safe_int, safe_stk}

module _ (g : Link) (linked : IsLink g) (fs : List OpenFrame) (p : PartSeen) (ip : IsTrusted g p) where
  pub clean_fits : (rs : Regs OWord) (end : ℕ) (at to : ℤ)
      → look rs.stk ≡ Mem (part_stack_cap (ranges_of p) end at) → Up (IsStackCell g fs) (ranges_of p) end
      → look rs.dat ≡ Mem (data_cap (ranges_of p) to)
      → rs.t1 ≡ zero_word Plain → rs.t2 ≡ zero_word Plain
      → ((d : Reg) → is_pc d ≡ false → d ≢ Dat → IsSafe g fs (reg rs d))
      → HasKinds look (IsSafe g fs) (IsStackCell g fs) (ranges_of p) clean_row rs
  unfolding kind_of
  clean_fits rs end at to es up ed e1 e2 others = record { long = refl; each = each }
    where
      each : (r : Reg) → is_pc r ≡ false
          → HasKind look (IsSafe g fs) (IsStackCell g fs) (ranges_of p) (kind_of clean_row r) (reg rs r)
      each Pc q = cc
      each Dat q = (to, ed)
      each Stk q = (end, at, es, up)
      each T1 q = (pos 0, ap look e1)
      each T2 q = (pos 0, ap look e2)
      each Rcode q = others Rcode refl (λ x. cc)
      each Rdata q = others Rdata refl (λ x. cc)
      each C1 q = others C1 refl (λ x. cc)
      each C2 q = others C2 refl (λ x. cc)
      each A0 q = others A0 refl (λ x. cc)
      each A1 q = others A1 refl (λ x. cc)
      each A2 q = others A2 refl (λ x. cc)
      each A3 q = others A3 refl (λ x. cc)
      each G0 q = others G0 refl (λ x. cc)
      each G1 q = others G1 refl (λ x. cc)
      each G2 q = others G2 refl (λ x. cc)

  pub stands_clean : (rs : Regs OWord) (o : ℕ) → LeadsTo p.component o clean_row
      → PcAt look (ranges_of p) o rs
      → HasKinds look (IsSafe g fs) (IsStackCell g fs) (ranges_of p) clean_row rs → StandsAt g fs p o rs
  stands_clean rs o l h f = record {
    there = l.there;
    inside = l.inside;
    at_pc = h;
    row = l.row;
    fits = row_fits look (IsSafe g fs) (IsStackCell g fs) (ranges_of p) (safe_int g fs)
        (safe_stk g linked fs p ip) clean_row l.there rs l.below f;
  }
