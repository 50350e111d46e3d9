-- From what the overlay shows to what the plain machine holds: a word that stays is flattened as before.
use Rattle.std.proofs.Common.{◌≡◌, ◌⊎◌, inl, inr, ℕ, ◌+◌, ◌<◌, ◌≤◌, pos, List, Option, Some, None, refl, sym}
use Rattle.std.proofs.Common.{ap, ◌∙◌, subst, arith, true, false, not}
use Rattle.std.specs.Prelude.{is_some}
use Rattle.std.proofs.lemmas.Bool.{and_parts}
use Rattle.cap_words.specs.declared.Word.{Word}
use Rattle.cap_words.specs.declared.Word.TheVariants.{Int}
use Rattle.lcm_machine.specs.declared.Place.TheVariants.{Cell}
use Rattle.lcm_machine.specs.Maps.{State}
use Rattle.lcm_machine.specs.Cells.{cell}
use Rattle.lcm_machine.specs.Mapped.{mapped_or}
use Rattle.lcm_machine.specs.Run.{plain}
use Rattle.linked_starts.specs.Parts.{PartSeen}
use Rattle.linked_starts.specs.Regions.{in_regions}
use Rattle.linked_starts.specs.Standing.{placed}
use Rattle.linked_starts.specs.Started.{StartSeen}
use Rattle.linked_starts.specs.LinkedStarts.{IsLinkedStart}
use Rattle.overlay_machine.specs.declared.words.OWord.{OWord}
use Rattle.overlay_machine.specs.declared.words.OWord.TheVariants.{Plain, RetCode, RetData}
use Rattle.overlay_machine.specs.State.{OpenFrame, OState, framed, frame_of}
use Rattle.overlay_machine.specs.Step.{goes, overlay_step, weight_of}
use Rattle.overlay_machine.specs.Runs.{Reached}
use Rattle.overlay_machine.specs.Flat.{flat, beside, flat_data, IsFlat}
use Rattle.overlay_machine.specs.Link.{Link, has_cell, regions}
use Rattle.overlay_machine.specs.Linked.{IsLink}
use Rattle.overlay_machine.specs.Invariant.{Invariant}
use Rattle.overlay_machine.specs.Safe.{IsMet}
use Rattle.overlay_machine.specs.Starting.{AgreesFromStart, StartsBegin}
use Rattle.overlay_machine.proofs.Offers.{frame_known, stays_open}
use Rattle.run_lines.specs.Layout.{layout}
use Rattle.run_lines.specs.Cuts.{Matched}
use Rattle.headline.specs.Headline.{Headline, HeadlineHolds}
use Rattle.template_runs.specs.Public.{IsFreeAt}
use Rattle.template_runs.specs.Border.{IsTidied}
use Rattle.source_laws.specs.Secrets.{HasCome, begins, comes, Until, still_there, one_more, LetsGo}
use Rattle.source_laws.specs.Secrets.{LeavesNothing, ComesFrom, RanLast, at_start, outside}
use Rattle.source_starts.specs.PlainSecrets.{InReach, PlainShowsNoMore, PlainRunsLeaveNothing}
use Rattle.source_starts.specs.Links.{overlay_link}
use Rattle.source_starts.specs.Sources.{SourcesLeaveNothing}
use Rattle.source_starts.proofs.StartWords.{held_at}

module _ (g : Link) (linked : IsLink g) (s : StartSeen) (same : g.layout ≡ layout s)
    (holds : (j : ℕ) (p : OState) → Matched s j p → (u : State Word) × Invariant g p u)
    (head : Headline s) where
  -- later in a run, from a state on: a call that was made before it and is open was open there
  pub record Trail (i : ℕ) (o p : OState) : Type 0 where
    pub at : ℕ
    pub matched : Matched s at p
    pub later : i ≤ at
    pub calls : o.calls ≤ p.calls
    pub still_open : (n : ℕ) (f : OpenFrame) → n < o.calls → frame_of p.frames n ≡ Some f
        → frame_of o.frames n ≡ Some f

  pub trail_step : (i : ℕ) (o p q : OState) → Trail i o p → overlay_step (layout s) p ≡ goes q → Trail i o q
  trail_step i o p q t e =
      let inv = holds t.at p t.matched in
      let st = stays_open g linked p inv.0 inv.1 q (ap (λ l. overlay_step l p) same ∙ e) in
      let up = t.calls in
      let more = st.0 in
      let la = t.later in
      record {
        at = t.at + weight_of (layout s) p;
        matched = Reached.goes_on t.matched e;
        later = omega (arith, la);
        calls = omega (arith, up, more);
        still_open = λ n f lt w. t.still_open n f lt (st.1 n f (omega (arith, lt, up)) w);
      }

  pub here : (i : ℕ) (o : OState) → Matched s i o → Trail i o o
  here i o r = record {
    at = i;
    matched = r;
    later = omega arith;
    calls = omega arith;
    still_open = λ n f lt w. w;
  }

  trail : (i : ℕ) (b o p : OState) → Trail i b o → Until (layout s) o p → Trail i b p
  trail i b o _ t (still_there k) = t
  trail i b o q t (one_more {p} u e k) = trail_step i b p q (trail i b o p t u) e

  -- ---- words

  -- a cell that is there is in no frame
  no_frame : (i : ℕ) (o : OState) → Matched s i o → (a : ℕ) (x : OWord) → cell o.maps.cells a ≡ Some x
      → framed o.frames a ≡ None
  no_frame i o r a x e = by (framed o.frames a) refl (sym ((holds i o r).1.there a) ∙ ap is_some e)
    where
      by : (f : Option OWord) → framed o.frames a ≡ f → has_cell g o.frames a ≡ true → f ≡ None
      by None k h = refl
      by (Some v) k h =
          absurd (let n = (and_parts (in_regions a (regions g)) (not (is_some (framed o.frames a))) h).1 in
          let bad : false ≡ true = ap (λ y. not (is_some y)) (sym k) ∙ n in cc)

  module _ (o q : OState) (i : ℕ) (r : Matched s i o) (t : Trail i o q) where
    flat_same : (a : ℕ) (w : OWord) → cell o.maps.cells a ≡ Some w → cell q.maps.cells a ≡ Some w
        → flat (layout s) o.frames w ≡ flat (layout s) q.frames w
    unfolding flat
    flat_same a (Plain x) eo eq = refl
    flat_same a (RetCode x) eo eq = refl
    flat_same a (RetData k) eo eq =
        let io = holds i o r in
        let iq = holds t.at q t.matched in
        let mo : IsMet g o.frames (RetData k) = io.1.met (Cell a) (RetData k) eo in
        let mq : IsMet g q.frames (RetData k) = iq.1.met (Cell a) (RetData k) eq in
        let known = frame_known g.layout o.maps.cells o.calls o.frames k mo.0 io.1.frames mo.1 in
        let there = t.still_open k mq.0 known mq.1 in
        ap (flat_data (layout s)) (there ∙ sym mq.1)

    -- a cell that keeps its word is flattened alike
    cell_stays : (a : ℕ) (x : OWord) (w : Word) → cell q.maps.cells a ≡ Some x
        → cell o.maps.cells a ≡ Some x
        → cell (plain t.at s.state).maps.cells a ≡ Some w → cell (plain i s.state).maps.cells a ≡ Some w
    cell_stays a x w e eo there =
        let fo : IsFlat (layout s) o (plain i s.state).maps = (head.agrees.matched i o r).1 in
        let fq : IsFlat (layout s) q (plain t.at s.state).maps = (head.agrees.matched t.at q t.matched).1 in
        let is : Some (flat (layout s) q.frames x) ≡ Some w =
        sym (fq.cells a
        ∙ ap (λ y. mapped_or (flat (layout s) q.frames) y (beside (layout s) q.frames a)) e) ∙ there in
        let k : flat (layout s) q.frames x ≡ w = cc in
        fo.cells a ∙ ap (λ y. mapped_or (flat (layout s) o.frames) y (beside (layout s) o.frames a)) eo
        ∙ ap Some (flat_same a x eo e ∙ k)

    -- so its word was in reach before
    pub was_in_reach : (a : ℕ) (x : OWord) (w : Word) → IsFreeAt g a → cell q.maps.cells a ≡ Some x
        → cell o.maps.cells a ≡ Some x → cell (plain t.at s.state).maps.cells a ≡ Some w → InReach g s i o a w
    was_in_reach a x w free e eo there = (free, no_frame i o r a x eo, cell_stays a x w e eo there)

    cells_told : IsTidied g o q → (a : ℕ) (w : Word) → InReach g s t.at q a w
        → InReach g s i o a w
        ⊎ ((w ≡ Int (pos 0)) × (g.layout.stack.base ≤ a) × (a ≤ g.layout.stack.end))
    unfolding beside flat
    cells_told tidied a w (free, out, there) = by (cell q.maps.cells a) refl
      where
        fq : IsFlat (layout s) q (plain t.at s.state).maps
        fq = (head.agrees.matched t.at q t.matched).1

        by : (x : Option OWord) → cell q.maps.cells a ≡ x
            → InReach g s i o a w
            ⊎ ((w ≡ Int (pos 0)) × (g.layout.stack.base ≤ a) × (a ≤ g.layout.stack.end))
        by None e =
            absurd (let n : None ≡ Some w =
            sym (fq.cells a
            ∙ ap (λ x. mapped_or (flat (layout s) q.frames) x (beside (layout s) q.frames a)) e
            ∙ ap (λ x. mapped_or (flat (layout s) q.frames) x None) out) ∙ there in cc)
        by (Some x) e =
            let is : Some (flat (layout s) q.frames x) ≡ Some w =
            sym (fq.cells a
            ∙ ap (λ y. mapped_or (flat (layout s) q.frames) y (beside (layout s) q.frames a)) e) ∙ there in
            let k : flat (layout s) q.frames x ≡ w = cc in
            elim (tidied a x free e) as (λ _. InReach g s i o a w
            ⊎ ((w ≡ Int (pos 0)) × (g.layout.stack.base ≤ a) × (a ≤ g.layout.stack.end))) [
              | inl eo ↦ inl (was_in_reach a x w free e eo there)
              | inr z ↦ inr (sym k ∙ ap (flat (layout s) q.frames) z.0, z.1, z.2)
            ]

  pub plain_shows : LeavesNothing g s → (o p q : OState) → LetsGo s o p q → PlainShowsNoMore g s o q
  plain_shows law o p q h = by h.came
    where
      told : (i : ℕ) (b : OState) → Matched s i b → RanLast s o b → Trail i b o → IsTidied g b q
          → PlainShowsNoMore g s o q
      told i b r ran before tidied =
          let t = trail_step i b p q (trail i b o p before h.until) h.steps in
          let m = head.agrees.matched t.at q t.matched in
          record {
            last = b;
            ran = ran;
            from = i;
            to = t.at;
            come = r;
            gone = t.matched;
            later = t.later;
            went = m.0;
            registers = m.1.regs;
            cells = cells_told b q i r t tidied;
          }

      by : HasCome s o → PlainShowsNoMore g s o q
      by (begins e) =
          let r = subst (Matched s 0) (sym e) Reached.begins in
          told 0 o r (at_start e) (here 0 o r) (law.shows o p q h).cells
      by (comes at b r i e) =
          let c : ComesFrom s b o = record { at = at; matched = r; outside = i; steps = e } in
          told at b r (outside c) (trail_step at b b o (here at b r) e) (law.tidied b o p q c h)

pub start_shows : StartsBegin
    → ((parts : List PartSeen) (size : ℕ) (s : StartSeen) → IsLinkedStart parts size s
    → AgreesFromStart parts size s) → HeadlineHolds → SourcesLeaveNothing → PlainRunsLeaveNothing
start_shows begin agree head law a =
    let parts = placed a.parts a.size in
    let at = agree parts a.size a.start a.is_start in
    plain_shows (overlay_link a.link) (held_at begin a.linked).linked a.start refl
    (λ j p r. let m = at.matched j p r in (m.0, m.2)) (head parts a.size a.start a.is_start) (law a)
