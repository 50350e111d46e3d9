-- What a round shows is an event of the refined meaning.
use Rattle.std.proofs.Common.{◌≡◌, ℕ, ◌≤◌, List, [], ◌∷◌, ◌++◌, map, length, Option, Some, None, false, refl}
use Rattle.std.proofs.Common.{sym, ap, ◌∙◌, subst}
use Rattle.std.specs.Prelude.{slice_get, option_map, option_and_then}
use Rattle.std.proofs.lemmas.List.{append-nil}
use Rattle.linked_starts.specs.Start.{Exported}
use Rattle.linked_starts.specs.declared.owners.Owner.{Owner}
use Rattle.trusted_border.specs.declared.layout.Layout.{Layout}
use Rattle.trusted_border.specs.declared.events.Event.{Event as BorderEvent}
use Rattle.trusted_border.specs.declared.events.Event.TheVariants.{Entered}
use Rattle.trusted_border.specs.declared.events.Back.{Back}
use Rattle.trusted_border.specs.Reaches.{closure_owner, entry_number, back_of}
use Rattle.lcm_isa.specs.declared.Reg.TheVariants.{Pc, Rcode, Rdata}
use Rattle.lcm_machine.specs.Row.{faces}
use Rattle.overlay_machine.specs.Words.{look}
use Rattle.source_events.specs.declared.Item.{Item}
use Rattle.overlay_machine.specs.declared.words.OWord.{OWord}
use Rattle.overlay_machine.specs.State.{OState}
use Rattle.overlay_machine.specs.Step.{goes, overlay_step}
use Rattle.overlay_machine.specs.Events.{step_event, entered_event, shown_word}
use Rattle.overlay_machine.proofs.Offers.{map_get}
use Rattle.run_lines.specs.Layout.{layout}
use Rattle.template_runs.specs.Runs.{is_inside}
use Rattle.template_runs.specs.Border.{Shows, ShowsBy, by_call, by_leave}
use Rattle.proc_semantics.specs.Marked.{Thing, Event, Whence, refined, event_to}
use Rattle.source_laws.specs.Seen.{Shown, Back as Given, shown_of, event_outs, event_items}
use Rattle.source_laws.specs.Words.{TellsSo, word_from, back_at}
use Rattle.source_laws.specs.Wiped.{TellsSince, and_then, last_outside, WipedTold}
use Rattle.source_laws.specs.Secrets.{Until}
use Rattle.source_starts.specs.Links.{overlay_link, first_state}
use Rattle.source_starts.specs.Sources.{LinkedSources, world_of}
use Rattle.source_starts.specs.Words.{slots_of, SourcesTellWords}
use Rattle.source_starts.specs.Wiped.{WipedCellsAreTold}
use Rattle.lockstep.specs.Related.{entered_at}
use Rattle.context_laws.proofs.Progress.{tells_of, until_since, until_inside}
use Rattle.component_file.proofs.Offers.{get_pushed}

-- an entry shows nothing
pub entry_silent : (l : Layout) (x : Exported) (q : OState) → event_outs l q (entered_at l x q) ≡ []
entry_silent l x q = by (closure_owner l x.part.component.closure)
  where
    by_number : (o : Owner) (back : Back) (n : Option ℕ)
        → event_outs l q (option_map (λ k. Entered o.part k back) n) ≡ []
    by_number o back None = refl
    by_number o back (Some k) = refl

    by : (o : Option Owner) → event_outs l q (option_and_then (entered_event l q) o) ≡ []
    by None = refl
    by (Some o) =
        by_number o (back_of l (shown_word l q Rcode) (shown_word l q Rdata))
        (entry_number o (faces look q.maps Pc))

one_out : (l : Layout) (p q : OState) → Shows l p q
    → (c : Shown) × (event_outs l q (step_event l p q) ≡ c ∷ []) × (event_items l q (step_event l p q) ≡ [])
one_out l p q s = by s.0 s.1 s.2
  where
    by : (e : BorderEvent) → step_event l p q ≡ Some e → ShowsBy l q e
        → (c : Shown) × (event_outs l q (step_event l p q) ≡ c ∷ []) ×
        (event_items l q (step_event l p q) ≡ [])
    by _ ev (by_call d f sc) = (_, ap (event_outs l q) ev, ap (event_items l q) ev)
    by _ ev (by_leave part d top sl) = (_, ap (event_outs l q) ev, ap (event_items l q) ev)

module _ (words : SourcesTellWords) (wipes : WipedCellsAreTold) (a : LinkedSources) where
  abbrev L : Layout
  L = layout a.start

  abbrev O : OState
  O = first_state a.link

  abbrev word : List (Thing OWord Given) → Whence → OWord
  word is = word_from (slots_of a.modules a.link) is

  abbrev pub feed_of : List (Thing OWord Given) → List Item
  feed_of is = map (λ (x : Thing OWord Given). x.item) is

  -- after a run that has shown so much and got so much, where trusted code lets go with a step
  pub record RoundTold (es : List Shown) (is : List (Thing OWord Given)) (b p q : OState) : Type 0 where
    pub shown : Shown
    pub outs : event_outs L q (step_event L p q) ≡ shown ∷ []
    pub since : (c : OState) × TellsSince L O (es ++ shown ∷ []) is c q
    pub enough : ℕ
    pub event : (f : ℕ) → enough ≤ f → (x : Event Whence ℕ)
        × (slice_get (refined (world_of a) a.size (feed_of is) f).events (length es) ≡ Some x)
        × (event_outs L q (step_event L p q) ≡ shown_of (event_to (word is) (back_at is) x) ∷ [])
    pub wiped : WipedTold (overlay_link a.link) (world_of a) a.size (feed_of is) (length es) b q

  pub round_told : (es : List Shown) (is : List (Thing OWord Given)) (b o p q : OState)
      → TellsSince L O es is b o
      → Until L o p → overlay_step L p ≡ goes q → is_inside L q ≡ false → Shows L p q → RoundTold es is b p q
  round_told es is b o p q t u e out sh =
      let c = one_out L p q sh in
      let there = until_since L O es is b o p u t in
      let ip = until_inside L o p u in
      let next : TellsSince L O (es ++ c.0 ∷ []) is (last_outside (is_inside L p) b p) q =
      subst (λ z. TellsSince L O (es ++ z) is (last_outside (is_inside L p) b p) q) c.1
      (subst
      (λ z. TellsSince L O (es ++ event_outs L q (step_event L p q)) z (last_outside (is_inside L p) b p) q)
      (ap (λ z. is ++ z) c.2 ∙ append-nil is) (and_then there e)) in
      let w = words a (es ++ c.0 ∷ []) is q (tells_of L O _ is _ q next) in
      record {
        shown = c.0;
        outs = c.1;
        since = (_, next);
        enough = w.0;
        event = λ f le. by f c.0 c.1 (w.1 f le);
        wiped = wipes a es is b p q there ip e out;
      }
    where
      by : (f : ℕ) (c : Shown) → event_outs L q (step_event L p q) ≡ c ∷ []
          → TellsSo (is_inside L q) (es ++ c ∷ [])
          (map shown_of (map (event_to (word is) (back_at is))
          (refined (world_of a) a.size (feed_of is) f).events))
          → (x : Event Whence ℕ)
          × (slice_get (refined (world_of a) a.size (feed_of is) f).events (length es) ≡ Some x)
          × (event_outs L q (step_event L p q) ≡ shown_of (event_to (word is) (back_at is) x) ∷ [])
      by f c ec h =
          let told = (refined (world_of a) a.size (feed_of is) f).events in
          let read = event_to (word is) (back_at is) in
          let at : slice_get (map shown_of (map read told)) (length es) ≡ Some c =
          ap (λ z. slice_get z (length es)) (h.1 out) ∙ get_pushed es c in
          let m = map_get shown_of (map read told) (length es) c at in
          let n = map_get read told (length es) m.0 m.1 in
          (n.0, n.1, ec ∙ ap (λ z. z ∷ []) (sym (ap shown_of n.2 ∙ m.2)))
