-- From the cells that the overlay has wiped to those of the plain machine.
use Rattle.std.proofs.Common.{◌≡◌, ℕ, ◌≤◌, pos, true, false, Bool, List, Option, Some, None, refl, sym, ap}
use Rattle.std.proofs.Common.{◌∙◌, subst, arith, IsSome}
use Rattle.cap_words.specs.declared.Word.{Word}
use Rattle.cap_words.specs.declared.Word.TheVariants.{Int}
use Rattle.lcm_isa.specs.declared.Reg.TheVariants.{Stk}
use Rattle.lcm_machine.specs.Maps.{State}
use Rattle.lcm_machine.specs.Cells.{cell}
use Rattle.lcm_machine.specs.Mapped.{mapped_or}
use Rattle.lcm_machine.specs.Run.{plain}
use Rattle.call_sequence.specs.SequenceRuns.{IsOutsideRange}
use Rattle.linked_starts.specs.Parts.{PartSeen}
use Rattle.linked_starts.specs.Standing.{placed}
use Rattle.linked_starts.specs.Started.{StartSeen}
use Rattle.linked_starts.specs.LinkedStarts.{IsLinkedStart}
use Rattle.overlay_machine.specs.declared.words.OWord.{OWord}
use Rattle.overlay_machine.specs.State.{OState}
use Rattle.overlay_machine.specs.Step.{goes, overlay_step}
use Rattle.overlay_machine.specs.Runs.{Reached}
use Rattle.overlay_machine.specs.Flat.{flat, beside, IsFlat}
use Rattle.overlay_machine.specs.Link.{Link}
use Rattle.overlay_machine.specs.Linked.{IsLink}
use Rattle.overlay_machine.specs.Invariant.{Invariant}
use Rattle.overlay_machine.specs.Starting.{overlay_at, AgreesFromStart, StartsBegin}
use Rattle.run_lines.specs.Layout.{layout}
use Rattle.run_lines.specs.Cuts.{Matched}
use Rattle.headline.specs.Headline.{Headline, HeadlineHolds}
use Rattle.proc_semantics.specs.Marked.{Thing}
use Rattle.template_runs.specs.Runs.{is_inside}
use Rattle.template_runs.specs.Border.{Wiped, low_at}
use Rattle.source_laws.specs.Seen.{Back, Shown}
use Rattle.source_laws.specs.Wiped.{TellsSince, none_yet, and_then, last_outside}
use Rattle.source_starts.specs.Wiped.{WipedCellsAreTold}
use Rattle.source_starts.specs.PlainSecrets.{InReach}
use Rattle.source_starts.specs.PlainWiped.{PlainWiped, PlainRunsWipe}
use Rattle.source_starts.specs.Links.{overlay_link}
use Rattle.source_starts.proofs.StartWords.{held_at}
use Rattle.source_starts.proofs.PlainSecrets.{Trail, trail_step, here, was_in_reach}

module _ (g : Link) (linked : IsLink g) (s : StartSeen) (same : g.layout ≡ layout s)
    (holds : (j : ℕ) (p : OState) → Matched s j p → (u : State Word) × Invariant g p u)
    (head : Headline s) where
  -- since code outside ran last
  record Since (b p : OState) : Type 0 where
    pub at : ℕ
    pub matched : Matched s at b
    pub trail : Trail g linked s same holds head at b p

  since_step : (b p q : OState) → Since b p → overlay_step (layout s) p ≡ goes q → (i : Bool)
      → Since (last_outside i b p) q
  since_step b p q t e true = record {
    at = t.at;
    matched = t.matched;
    trail = trail_step g linked s same holds head t.at b p q t.trail e;
  }
  since_step b p q t e false = record {
    at = t.trail.at;
    matched = t.trail.matched;
    trail = trail_step g linked s same holds head t.trail.at p p q
        (here g linked s same holds head t.trail.at p t.trail.matched) e;
  }

  since : (es : List Shown) (is : List (Thing OWord Back)) (b p : OState)
      → TellsSince (layout s) (overlay_at s).state es is b p → Since b p
  since _ _ _ _ none_yet = record {
    at = 0;
    matched = Reached.begins;
    trail = here g linked s same holds head 0 (overlay_at s).state Reached.begins;
  }
  since _ _ _ q (and_then {es = es} {is = is} {b = b} {p = p} t e) =
      since_step b p q (since es is b p t) e (is_inside (layout s) p)

  pub plain_wiped : (es : List Shown) (is : List (Thing OWord Back)) (b p q : OState)
      → TellsSince (layout s) (overlay_at s).state es is b p → is_inside (layout s) p ≡ true
      → overlay_step (layout s) p ≡ goes q → (low : Option ℕ) → Wiped g low b q → PlainWiped g s low b q
  unfolding flat beside
  plain_wiped es is b p q t i e low w = record {
    from = x.at;
    to = y.at;
    come = x.matched;
    gone = y.matched;
    later = y.later;
    went = m.0;
    end = w.end;
    stk = m.1.regs Stk ∙ ap (flat (layout s) q.frames) w.stk;
    wiped = λ a lo hi. wiped a lo hi (cell q.maps.cells a) refl;
    kept = λ a v far reach. kept a v far reach (cell q.maps.cells a) refl;
  }
    where
      x : Since b p
      x = since es is b p t

      y : Trail g linked s same holds head x.at b q
      y = trail_step g linked s same holds head x.at b p q x.trail e

      m : ((plain y.at s.state).end ≡ None) × IsFlat (layout s) q (plain y.at s.state).maps
      m = head.agrees.matched y.at q y.matched

      no_some : IsSome {T = OWord} None → ⊥
      no_some h = cc

      above : (low : Option ℕ) (a : ℕ) → low_at g.layout.stack.base w.end low ≤ a → a ≤ w.end
          → g.layout.stack.base ≤ a
      above None a lo hi = absurd (omega (arith, lo, hi))
      above (Some n) a lo hi = omega (arith, lo)

      wiped : (a : ℕ) → low_at g.layout.stack.base w.end low ≤ a → a ≤ w.end → (c : Option OWord)
          → cell q.maps.cells a ≡ c → cell (plain y.at s.state).maps.cells a ≡ Some (Int (pos 0))
      wiped a lo hi None e = absurd (no_some (subst IsSome e (w.there a (above low a lo hi) hi)))
      wiped a lo hi (Some v) e =
          m.1.cells a ∙ ap (λ z. mapped_or (flat (layout s) q.frames) z (beside (layout s) q.frames a)) e
          ∙ ap (λ z. Some (flat (layout s) q.frames z)) (w.cells.wiped a v lo hi e)

      kept : (a : ℕ) (v : Word) → IsOutsideRange a (low_at g.layout.stack.base w.end low) w.end
          → InReach g s y.at q a v → (c : Option OWord) → cell q.maps.cells a ≡ c → InReach g s x.at b a v
      kept a v far (free, out, there) None e =
          absurd (let n : None ≡ Some v = sym (m.1.cells a
          ∙ ap (λ z. mapped_or (flat (layout s) q.frames) z (beside (layout s) q.frames a)) e
          ∙ ap (λ z. mapped_or (flat (layout s) q.frames) z None) out) ∙ there in cc)
      kept a v far (free, out, there) (Some z) e =
          was_in_reach g linked s same holds head b q x.at x.matched y a z v free e
          (w.cells.kept a z free far e) there

pub start_wipes : StartsBegin
    → ((parts : List PartSeen) (size : ℕ) (s : StartSeen) → IsLinkedStart parts size s
    → AgreesFromStart parts size s) → HeadlineHolds → WipedCellsAreTold → PlainRunsWipe
start_wipes begin agree head law a es its b p q t i e gone =
    let parts = placed a.parts a.size in
    let at = agree parts a.size a.start a.is_start in
    let w = law a es its b p q t i e gone in
    record {
      overlay = w;
      plain = plain_wiped (overlay_link a.link) (held_at begin a.linked).linked a.start refl
          (λ j p r. let m = at.matched j p r in (m.0, m.2)) (head parts a.size a.start a.is_start) es its b p
          q t i e w.low w.wiped;
    }
