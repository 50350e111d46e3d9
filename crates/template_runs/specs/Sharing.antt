-- Code outside enters a trusted part where it shares a procedure, or by a return, and nowhere else.
use Rattle.std.specs.Prelude.{◌≡◌, ◌≢◌, ℕ, ◌+◌, ◌<◌, ◌∷◌, length, Some}
use Rattle.cap_words.specs.declared.Word.{Word}
use Rattle.cap_words.specs.declared.Word.TheVariants.{Mem}
use Rattle.lcm_isa.specs.declared.Reg.{Reg}
use Rattle.lcm_isa.specs.declared.Reg.TheVariants.{Pc, Dat}
use Rattle.lcm_machine.specs.Maps.{State}
use Rattle.lcm_machine.specs.Places.{reg}
use Rattle.lcm_machine.specs.Cells.{cell}
use Rattle.lcm_machine.specs.Runs.{code_cap}
use Rattle.call_sequence.specs.declared.TheConstants.{CALL_WORDS, RETURN_WORDS}
use Rattle.trusted_border.specs.declared.layout.SiteCode.{SiteCode}
use Rattle.trusted_border.specs.Layout.{site_code}
use Rattle.call_sequence.specs.Holds.{PcAt}
use Rattle.linked_starts.specs.Parts.{PartSeen}
use Rattle.overlay_machine.specs.declared.words.OWord.TheVariants.{Plain}
use Rattle.overlay_machine.specs.Words.{look}
use Rattle.overlay_machine.specs.State.{OpenFrame, OState, Cells}
use Rattle.overlay_machine.specs.Step.{goes, overlay_step}
use Rattle.overlay_machine.specs.Link.{Link, IsTrusted, ranges_of}
use Rattle.overlay_machine.specs.Linked.{IsLink}
use Rattle.overlay_machine.specs.Invariant.{Invariant}
use Rattle.template_runs.specs.Public.{IsShown, IsSharedAt, KeepsPrivate}

-- code outside (the attacker) runs: each register holds a word that it may be shown, and what is private
-- stays
pub record RunsOutside (g : Link) (o : OState) : Type 0 where
  pub plain : State Word
  pub holds : Invariant g o plain
  pub private : KeepsPrivate g o
  pub shown : (r : Reg) → IsShown g o.frames (reg o.maps.regs r)

-- the data of trusted parts stays
abbrev pub SameData : Link → Cells → Cells → Type 0
SameData g m n =
    (p : PartSeen) (d : ℕ) → IsTrusted g p → d < length p.component.data_words
    → cell n (p.component.data_base + d) ≡ cell m (p.component.data_base + d)

-- what a step of it does that goes on: it stays outside, enters a procedure that is shared, or returns to the
-- newest open call, after its site
pub data GoesOn (g : Link) (o q : OState) : Type 0 where
  stays : RunsOutside g q → q.frames ≡ o.frames → SameData g o.maps.cells q.maps.cells → GoesOn g o q
  enters : (p : PartSeen) (k : ℕ) → IsTrusted g p → IsSharedAt p.component k
      → PcAt look (ranges_of p) k q.maps.regs
      → ((r : Reg) → r ≢ Pc → r ≢ Dat → IsShown g q.frames (reg q.maps.regs r))
      → q.frames ≡ o.frames → q.maps.cells ≡ o.maps.cells → GoesOn g o q
  returns : (f : OpenFrame) (site : SiteCode) → o.frames ≡ f ∷ q.frames
      → site_code g.layout f.site ≡ Some site
      → q.maps.regs.pc ≡ Plain (Mem (code_cap site.base site.end (site.at + (CALL_WORDS + RETURN_WORDS))))
      → KeepsPrivate g q → GoesOn g o q

abbrev pub SharedAloneIsEntered : Type 0
SharedAloneIsEntered =
    (g : Link) (o q : OState) → IsLink g → RunsOutside g o → overlay_step g.layout o ≡ goes q → GoesOn g o q
