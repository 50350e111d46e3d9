-- The items of two runs by which code outside comes in alike are the same.
use Rattle.std.proofs.Common.{◌≡◌, inl, inr, ℕ, List, [], ◌∷◌, Option, Some, None, Bool, true, false, refl}
use Rattle.std.proofs.Common.{sym, ap, ◌∙◌}
use Rattle.std.specs.Prelude.{is_some, slice_get, option_map, option_and_then, if◌then◌else◌}
use Rattle.std.specs.List.{Contains}
use Rattle.cap_words.specs.declared.Word.{Word}
use Rattle.cap_words.specs.declared.Word.TheVariants.{Int, Mem, Seal, Sealed}
use Rattle.cap_words.specs.declared.Content.TheVariants.{Mem as MemC}
use Rattle.cap_words.specs.declared.Opened.{Opened}
use Rattle.cap_words.specs.declared.Face.TheVariants.{Memory}
use Rattle.cap_words.specs.Face.{face_of, opened_of}
use Rattle.lcm_isa.specs.declared.Reg.{Reg}
use Rattle.lcm_isa.specs.declared.Reg.TheVariants.{Stk, Rcode, Rdata, A0, A1, A2, A3}
use Rattle.lcm_machine.specs.Places.{reg}
use Rattle.lcm_machine.specs.Row.{faces}
use Rattle.call_sequence.specs.Holds.{PcAt}
use Rattle.linked_starts.specs.Owners.{owner_of}
use Rattle.linked_starts.specs.Start.{Exported, code_of}
use Rattle.trusted_border.specs.declared.layout.SiteCode.{SiteCode}
use Rattle.trusted_border.specs.declared.events.Event.TheVariants.{Entered}
use Rattle.trusted_border.specs.declared.events.Back.{Back}
use Rattle.trusted_border.specs.Layout.{site_code}
use Rattle.trusted_border.specs.Reaches.{closure_owner, entry_number, site_of_seal, hop_in, hop_to, back_of}
use Rattle.trusted_border.specs.Reaches.{back_if, back_under}
use Rattle.overlay_machine.specs.Words.{look}
use Rattle.overlay_machine.specs.State.{OState}
use Rattle.overlay_machine.specs.Events.{step_event, entered_event, shown_word}
use Rattle.overlay_machine.specs.Link.{Link, ranges_of}
use Rattle.overlay_machine.specs.Linked.{IsLink}
use Rattle.overlay_machine.specs.Names.{NamesTold, PartNamed, EntryNamed}
use Rattle.overlay_machine.specs.Safe.{IsOpenSeal, IsMet}
use Rattle.overlay_machine.proofs.Offers.{entry_begins, crossing_code_is as code_is, index_of}
use Rattle.run_lines.specs.Layout.{entry_name}
use Rattle.run_lines.specs.Views.{View, flat_view}
use Rattle.run_lines.specs.Pairs.{if_normal, content_linear, pair_to, pair_if, pair_of, pair_under, pairs_of}
use Rattle.run_lines.specs.Lines.{args_of, feed_back, feed_pair}
use Rattle.run_lines.specs.Feed.{integer_in, integers_in, feed_pairs}
use Rattle.source_events.specs.Left.{left_in, left_by}
use Rattle.source_events.specs.declared.FeedBack.{FeedBack}
use Rattle.source_events.specs.declared.FeedBack.TheVariants as way
use Rattle.source_events.specs.declared.FeedPair.TheVariants as fed
use Rattle.source_events.specs.declared.Item.{Item}
use Rattle.source_events.specs.declared.Item.TheVariants.{Enter}
use Rattle.source_laws.specs.Trace.{event_items}
use Rattle.template_runs.proofs.Offers.{open_no_owner, if_bad}
use Rattle.source_starts.proofs.Offers.{open_foreign, closure_foreign}
use Rattle.lockstep.specs.Related.{SameNames, IsExport, Calls, SameWord, EnterAlike, ReturnAlike}
use Rattle.lockstep.specs.Related.{ComesAlike, entered_at}
use Rattle.same_meanings.specs.Observed.{CallNames, back_named, feed_named, SameFeed}
use Rattle.context_laws.specs.Meanings.{GoByNames, told_name, export_name}
use Rattle.context_laws.proofs.Jumps.{Flat, f_ours, f_code, f_data, f_ret, f_frame, Jump, fails, outside}
use Rattle.context_laws.proofs.Jumps.{hops, back, jumps, plan_is, code_opened, data_opened, jump_same}
use Rattle.context_laws.proofs.Open.{CallsAlike, HasSites, flat_same}

-- ---- one link

module _ (k : Link) (linked : IsLink k) (told : NamesTold k.parts k.layout) where
  -- an export of a trusted part, and what lines call it
  module _ (x : Exported) (ix : IsExport k x) where
    pub place : (n : ℕ) × (slice_get k.parts n ≡ Some x.part)
    place = index_of k.parts x.part ix.0.0

    part : PartNamed k.layout place.0 x.part
    part = told.named place.0 x.part place.1 ix.0.1

    pub entry : EntryNamed k.layout place.0 x.part x.export.offset
    entry = told.entries place.0 x.export.offset x.part place.1 ix.0.1 (entry_begins x.part x.export ix.1)

    name_is : entry_name k.layout place.0 entry.number ≡ told_name x
    name_is = entry.name ∙ sym (ap export_name entry.first)

    code_number : entry_number (owner_of place.0 x.part) (Memory (code_of x)) ≡ Some entry.number
    code_number =
        ap (λ c. entry_number (owner_of place.0 x.part) (Memory c)) (code_is x ix.0.1) ∙ entry.number_is

    back_told : feed_back k.layout
        (hop_in (closure_owner k.layout x.part.component.closure) (MemC (code_of x)))
        ≡ way.Hop x.part.component.name (told_name x)
    unfolding owner_of
    back_told =
        ap (λ o. feed_back k.layout (hop_in o (MemC (code_of x)))) part.by_closure
        ∙ ap (λ n. feed_back k.layout (hop_to (owner_of place.0 x.part) n)) code_number
        ∙ ap (λ z. way.Hop z (entry_name k.layout place.0 entry.number)) part.name
        ∙ ap (way.Hop x.part.component.name) name_is

    pair_told : feed_pair k.layout (pair_under k.layout (code_opened x))
        ≡ fed.Hop x.part.component.name (told_name x)
    unfolding owner_of
    pair_told =
        ap (λ o. feed_pair k.layout (pair_to (hop_in o (MemC (code_of x))))) part.by_closure
        ∙ ap (λ n. feed_pair k.layout (pair_to (hop_to (owner_of place.0 x.part) n))) code_number
        ∙ ap (λ z. fed.Hop z (entry_name k.layout place.0 entry.number)) part.name
        ∙ ap (fed.Hop x.part.component.name) name_is

    no_site : site_of_seal k.layout x.part.component.closure ≡ None
    no_site = closure_foreign k linked (λ t p o. Unit {0}) x.part ix.0.0

    -- the item of an entry
    pub enter_item : (o q : OState) → PcAt look (ranges_of x.part) x.export.offset q.maps.regs
        → step_event k.layout o q ≡ entered_at k.layout x q
        → event_items k.layout (flat_view k.layout q) (step_event k.layout o q)
        ≡ Enter x.part.component.name (told_name x)
        (left_in k.layout.stack.base ((flat_view k.layout q).reg Stk))
        (integers_in (args_of (flat_view k.layout q)))
        (feed_pairs k.layout (pairs_of k.layout (flat_view k.layout q)))
        (feed_back k.layout
        (back_of k.layout ((flat_view k.layout q).reg Rcode) ((flat_view k.layout q).reg Rdata))) ∷ []
    unfolding owner_of faces
    enter_item o q pc ev =
        let v = flat_view k.layout q in
        let b = back_of k.layout (shown_word k.layout q Rcode) (shown_word k.layout q Rdata) in
        let item : List ℕ → List ℕ → Item = λ n e. Enter n e (left_in k.layout.stack.base (v.reg Stk))
        (integers_in (args_of v)) (feed_pairs k.layout (pairs_of k.layout v)) (feed_back k.layout b) in
        ap (event_items k.layout v)
        (ev ∙ ap (option_and_then (entered_event k.layout q)) part.by_closure
        ∙ ap (option_map (λ n. Entered place.0 n b))
        (ap (entry_number (owner_of place.0 x.part)) (ap face_of pc) ∙ entry.number_is))
        ∙ ap (λ z. item z (entry_name k.layout place.0 entry.number) ∷ []) part.name
        ∙ ap (λ z. item x.part.component.name z ∷ []) name_is

  sealed : (i : ℕ) (s : SiteCode) → site_code k.layout i ≡ Some s → site_of_seal k.layout s.seal ≡ Some i
  sealed i s e =
      let x = linked.sites i s e in
      (told.numbers i x.1 s x.0 e (x.2).0 (x.2).1 x.3).sealed

  foreign : (n : ℕ) → IsOpenSeal k n → site_of_seal k.layout n ≡ None
  foreign n o = open_foreign k linked (λ t p k. Unit {0}) n o

-- ---- two links

module _ (g h : Link) (names : SameNames g h) {calls : CallNames} (by_names : GoByNames calls names)
    (lg : IsLink g) (lh : IsLink h) (tg : NamesTold g.parts g.layout) (th : NamesTold h.parts h.layout) where
  int_same : (w v : Word) → Flat g h names w v → integer_in w ≡ integer_in v
  int_same _ _ (f_ours w o) = refl
  int_same _ _ (f_code x y t) = refl
  int_same _ _ (f_data x y t) = refl
  int_same _ _ (f_ret i j s u p e f) = refl
  int_same _ _ (f_frame x y s u p b e f) = refl

  left_same : (w v : Word) → Flat g h names w v
      → left_in g.layout.stack.base w ≡ left_in h.layout.stack.base v
  left_same _ _ (f_ours (Int z) o) = refl
  left_same _ _ (f_ours (Mem c) o) = ap (λ b. left_by b c) names.stack
  left_same _ _ (f_ours (Seal z) o) = refl
  left_same _ _ (f_ours (Sealed n c) o) = refl
  left_same _ _ (f_code x y t) = refl
  left_same _ _ (f_data x y t) = refl
  left_same _ _ (f_ret i j s u p e f) = refl
  left_same _ _ (f_frame x y s u p b e f) = refl

  normal_same : (w v : Word) → Flat g h names w v
      → is_some (if_normal (opened_of w)) ≡ is_some (if_normal (opened_of v))
  normal_same _ _ (f_ours w o) = refl
  normal_same _ _ (f_code x y t) = refl
  normal_same _ _ (f_data x y t) = refl
  normal_same _ _ (f_ret i j s u p e f) = refl
  normal_same _ _ (f_frame x y s u p b e f) = refl

  hop_same : (x y : Exported) → Contains names.twins (x, y)
      → way.Hop x.part.component.name (told_name x) ≡ way.Hop y.part.component.name (told_name y)
  hop_same x y t =
      let n = by_names.twins x y t in
      ap (λ z. way.Hop z (told_name x)) n.0 ∙ ap (way.Hop y.part.component.name) n.1

  pair_hop : (x y : Exported) → Contains names.twins (x, y)
      → fed.Hop x.part.component.name (told_name x) ≡ fed.Hop y.part.component.name (told_name y)
  pair_hop x y t =
      let n = by_names.twins x y t in
      ap (λ z. fed.Hop z (told_name x)) n.0 ∙ ap (fed.Hop y.part.component.name) n.1

  both_open : (n : ℕ) → IsOpenSeal g n
      → (site_of_seal g.layout n ≡ None) × (site_of_seal h.layout n ≡ None)
      × (closure_owner g.layout n ≡ None) × (closure_owner h.layout n ≡ None)
  both_open n o =
      let o' = (names.seals n).0 o in
      (foreign g lg tg n o, foreign h lh th n o', open_no_owner g lg n o, open_no_owner h lh n o')

  -- where a return leads, with a call by its name
  abbrev N : Back → FeedBack
  N b = back_named calls.one (feed_back g.layout b)

  abbrev M : Back → FeedBack
  M b = back_named calls.other (feed_back h.layout b)

  abbrev B : (a b c d : Option Opened) → Type 0
  B a b c d = N (back_if (jumps a b) g.layout a b) ≡ M (back_if (jumps c d) h.layout c d)

  back_same : (a b c d : Option Opened) → Jump g h names a b c d → B a b c d
  back_same _ _ _ _ (fails w v x y e f) =
      ap (λ z. N (back_if z g.layout w v)) e ∙ ap N (if_bad g.layout w v)
      ∙ sym (ap (λ z. M (back_if z h.layout x y)) f ∙ ap M (if_bad h.layout x y))
  back_same _ _ _ _ (outside w v o) = by (jumps (Some w) (Some v))
    where
      no : (site_of_seal g.layout w.seal ≡ None) × (site_of_seal h.layout w.seal ≡ None)
          × (closure_owner g.layout w.seal ≡ None) × (closure_owner h.layout w.seal ≡ None)
      no = both_open w.seal o

      by : (z : Bool) → N (back_if z g.layout (Some w) (Some v)) ≡ M (back_if z h.layout (Some w) (Some v))
      by false = refl
      by true = rw (no.0, no.1, no.2, no.3) refl
  back_same _ _ _ _ (hops x y u v t e f) =
      let ix = (names.exports x y t).0 in
      let iy = (names.exports x y t).1 in
      ap (λ z. N (back_if z g.layout (Some (code_opened x)) (Some (data_opened u)))) e
      ∙ ap (λ z. N (back_under g.layout z (code_opened x) (data_opened u))) (no_site g lg tg x ix)
      ∙ ap (back_named calls.one) (back_told g lg tg x ix) ∙ hop_same x y t
      ∙ sym (ap (λ z. M (back_if z h.layout (Some (code_opened y)) (Some (data_opened v)))) f
      ∙ ap (λ z. M (back_under h.layout z (code_opened y) (data_opened v))) (no_site h lh th y iy)
      ∙ ap (back_named calls.other) (back_told h lh th y iy))
  back_same _ _ _ _ (back x y s u p b e f j k) =
      let n = by_names.sites x.site y.site p in
      rw (j, k, sealed g lg tg x.site s e, sealed h lh th y.site u f, n, b) refl

  pair_false : (a b c d : Option Opened) → is_some a ≡ is_some c → is_some b ≡ is_some d
      → feed_pair g.layout (pair_if false g.layout a b) ≡ feed_pair h.layout (pair_if false h.layout c d)
  pair_false None b None d e f = refl
  pair_false None b (Some c) d e f = absurd cc
  pair_false (Some a) b None d e f = absurd cc
  pair_false (Some a) None (Some c) None e f = refl
  pair_false (Some a) None (Some c) (Some d) e f = absurd cc
  pair_false (Some a) (Some b) (Some c) None e f = absurd cc
  pair_false (Some a) (Some b) (Some c) (Some d) e f = refl

  abbrev P : (a b c d : Option Opened) → Type 0
  P a b c d = feed_pair g.layout (pair_if (jumps a b) g.layout (if_normal a) (if_normal b))
      ≡ feed_pair h.layout (pair_if (jumps c d) h.layout (if_normal c) (if_normal d))

  pair_same : (a b c d : Option Opened) → Jump g h names a b c d
      → is_some (if_normal a) ≡ is_some (if_normal c) → is_some (if_normal b) ≡ is_some (if_normal d)
      → P a b c d
  pair_same _ _ _ _ (fails w v x y e f) m n =
      ap (λ z. feed_pair g.layout (pair_if z g.layout (if_normal w) (if_normal v))) e
      ∙ pair_false (if_normal w) (if_normal v) (if_normal x) (if_normal y) m n
      ∙ sym (ap (λ z. feed_pair h.layout (pair_if z h.layout (if_normal x) (if_normal y))) f)
  pair_same _ _ _ _ (outside w v o) m n =
      by (jumps (Some w) (Some v)) (content_linear w.content) (content_linear v.content)
    where
      no : (site_of_seal g.layout w.seal ≡ None) × (site_of_seal h.layout w.seal ≡ None)
          × (closure_owner g.layout w.seal ≡ None) × (closure_owner h.layout w.seal ≡ None)
      no = both_open w.seal o

      by : (z i j : Bool)
          → feed_pair g.layout (pair_if z g.layout (if i then None else Some w) (if j then None else Some v))
          ≡ feed_pair h.layout (pair_if z h.layout (if i then None else Some w) (if j then None else Some v))
      by z true j = refl
      by z false true = refl
      by false false false = refl
      by true false false = rw (no.2, no.3) refl
  pair_same _ _ _ _ (hops x y u v t e f) m n =
      let ix = (names.exports x y t).0 in
      let iy = (names.exports x y t).1 in
      ap (λ z. feed_pair g.layout (pair_if z g.layout (Some (code_opened x)) (Some (data_opened u)))) e
      ∙ pair_told g lg tg x ix ∙ pair_hop x y t
      ∙ sym (ap (λ z. feed_pair h.layout (pair_if z h.layout (Some (code_opened y)) (Some (data_opened v)))) f
      ∙ pair_told h lh th y iy)
  pair_same _ _ _ _ (back x y s u p b e f j k) m n = refl

  -- of words
  backs : (w v x y : Word) → Flat g h names w x → Flat g h names v y
      → N (back_of g.layout w v) ≡ M (back_of h.layout x y)
  backs w v x y a b =
      ap (λ z. N (back_if z g.layout (opened_of w) (opened_of v))) (plan_is w v)
      ∙ back_same (opened_of w) (opened_of v) (opened_of x) (opened_of y)
      (jump_same g h names lg lh w v x y a b)
      ∙ sym (ap (λ z. M (back_if z h.layout (opened_of x) (opened_of y))) (plan_is x y))

  pairs : (w v x y : Word) → Flat g h names w x → Flat g h names v y
      → feed_pair g.layout (pair_of g.layout w v) ≡ feed_pair h.layout (pair_of h.layout x y)
  pairs w v x y a b =
      ap (λ z. feed_pair g.layout (pair_if z g.layout (if_normal (opened_of w)) (if_normal (opened_of v))))
      (plan_is w v)
      ∙ pair_same (opened_of w) (opened_of v) (opened_of x) (opened_of y)
      (jump_same g h names lg lh w v x y a b) (normal_same w x a) (normal_same v y b)
      ∙ sym
      (ap (λ z. feed_pair h.layout (pair_if z h.layout (if_normal (opened_of x)) (if_normal (opened_of y))))
      (plan_is x y))

  -- ---- items

  module _ (cs : Calls) (o q p r : OState) (al : CallsAlike g h names cs q.frames r.frames)
      (hg : HasSites g q.frames)
      (hh : HasSites h r.frames) (mg : (d : Reg) → IsMet g q.frames (reg q.maps.regs d))
      (mh : (d : Reg) → IsMet h r.frames (reg r.maps.regs d)) where
    abbrev V : View
    V = flat_view g.layout q

    abbrev U : View
    U = flat_view h.layout r

    words_same : (d : Reg) → SameWord g h names cs (reg q.maps.regs d) (reg r.maps.regs d)
        → Flat g h names (V.reg d) (U.reg d)
    words_same d w = flat_same g h names cs q.frames r.frames al hg hh _ _ w (mg d) (mh d)

    by_enter : EnterAlike g h names cs o q p r
        → SameFeed calls (event_items g.layout V (step_event g.layout o q))
        (event_items h.layout U (step_event h.layout p r))
    by_enter e =
        let ix = (names.exports e.one e.other e.twins).0 in
        let iy = (names.exports e.one e.other e.twins).1 in
        let n = by_names.twins e.one e.other e.twins in
        let stk = words_same Stk (e.words Stk (λ z. cc) (λ z. cc)) in
        let rc = words_same Rcode (e.words Rcode (λ z. cc) (λ z. cc)) in
        let rd = words_same Rdata (e.words Rdata (λ z. cc) (λ z. cc)) in
        let a0 = words_same A0 (e.words A0 (λ z. cc) (λ z. cc)) in
        let a1 = words_same A1 (e.words A1 (λ z. cc) (λ z. cc)) in
        let a2 = words_same A2 (e.words A2 (λ z. cc) (λ z. cc)) in
        let a3 = words_same A3 (e.words A3 (λ z. cc) (λ z. cc)) in
        ap (feed_named calls.one) (enter_item g lg tg e.one ix o q e.pc e.event)
        ∙ rw (
          n.0,
          n.1,
          left_same _ _ stk,
          int_same _ _ a0,
          int_same _ _ a1,
          int_same _ _ a2,
          int_same _ _ a3,
          pairs _ _ _ _ a0 a1,
          pairs _ _ _ _ a1 a2,
          pairs _ _ _ _ a2 a3,
          backs _ _ _ _ rc rd,
        ) refl
        ∙ sym (ap (feed_named calls.other) (enter_item h lh th e.other iy p r e.pc_other e.event_other))

    by_return : ReturnAlike g h names cs o q p r
        → SameFeed calls (event_items g.layout V (step_event g.layout o q))
        (event_items h.layout U (step_event h.layout p r))
    by_return e =
        let n = by_names.sites e.frame.site e.frame_other.site e.sites in
        ap (λ z. feed_named calls.one (event_items g.layout V z)) e.event
        ∙ rw (n, e.base, int_same _ _ (words_same A0 e.value)) refl
        ∙ sym (ap (λ z. feed_named calls.other (event_items h.layout U z)) e.event_other)

    pub items_same : ComesAlike g h names cs o q p r
        → SameFeed calls (event_items g.layout V (step_event g.layout o q))
        (event_items h.layout U (step_event h.layout p r))
    items_same (inl e) = by_enter e
    items_same (inr e) = by_return e
