-- Where a meaning tells one event more than a run has shown, trusted code lets go of control; where it ends
-- with no more, so does trusted code.
use Rattle.std.proofs.Common.{◌≡◌, ◌⊎◌, inl, inr, ℕ, zero, suc, ◌+◌, ◌*◌, ◌≤◌, ℤ, List, [], ◌∷◌, ◌++◌, map}
use Rattle.std.proofs.Common.{length, Option, Some, None, Bool, true, false, refl, sym, ap, ◌∙◌, subst, arith}
use Rattle.cap_words.specs.declared.Word.TheVariants.{Int}
use Rattle.std.specs.Prelude.{is_some, option_map, if◌then◌else◌}
use Rattle.std.proofs.lemmas.List.{append-nil, length-append, length-map}
use Rattle.lcm_isa.specs.declared.Reg.TheVariants.{Pc, A0}
use Rattle.lcm_machine.specs.Row.{faces, cell_faces, fetch}
use Rattle.lcm_machine.specs.Places.{reg}
use Rattle.call_sequence.specs.declared.TheConstants.{CALL_WORDS, RETURN_WORDS}
use Rattle.linked_starts.specs.Started.{StartSeen}
use Rattle.linked_starts.specs.declared.owners.Owner.{Owner}
use Rattle.trusted_border.specs.declared.layout.Layout.{Layout}
use Rattle.trusted_border.specs.declared.events.Event.{Event}
use Rattle.trusted_border.specs.declared.events.Event.TheVariants.{Called, Returned, Entered, Left}
use Rattle.overlay_machine.specs.declared.words.OWord.{OWord}
use Rattle.overlay_machine.specs.declared.cases.Case.{Case}
use Rattle.overlay_machine.specs.declared.cases.Case.TheVariants.{Call, Entry, Back as BackCase, Other}
use Rattle.overlay_machine.specs.Words.{look, is_ret_code}
use Rattle.overlay_machine.specs.State.{OpenFrame, OState}
use Rattle.overlay_machine.specs.Step.{Ending, goes, halts, fails, overlay_step, weight_of, weight_by}
use Rattle.overlay_machine.specs.Step.{case_of}
use Rattle.overlay_machine.specs.Events.{step_event, event_after, note_by, note_call, note_return, note_jump}
use Rattle.overlay_machine.specs.Events.{called_event, site_opened, jump_seal, owner_now}
use Rattle.overlay_machine.specs.Starting.{overlay_at}
use Rattle.run_lines.specs.Layout.{layout}
use Rattle.run_lines.specs.Views.{flat_view}
use Rattle.template_runs.specs.Runs.{is_inside}
use Rattle.proc_semantics.specs.Values.{World}
use Rattle.proc_semantics.specs.Meaning.{meaning}
use Rattle.proc_semantics.specs.Marked.{Thing}
use Rattle.source_events.specs.declared.Item.{Item}
use Rattle.source_events.specs.declared.End.{End}
use Rattle.source_events.specs.declared.End.TheVariants.{Halt as Halted, Fail as Fails, OutOfFuel}
use Rattle.source_events.specs.Outs.{OutLine, out_line, out_lines}
use Rattle.source_laws.specs.Seen.{Shown, Back}
use Rattle.source_laws.specs.Seen as seen
use Rattle.source_laws.specs.Trace as lines
use Rattle.source_laws.specs.Trace.{weighed}
use Rattle.source_laws.specs.Words.{RunTells, none_yet, and_then}
use Rattle.source_laws.specs.Wiped as since
use Rattle.source_laws.specs.Wiped.{TellsSince, last_outside}
use Rattle.source_laws.specs.Sources as sources
use Rattle.source_laws.specs.Sources.{RunShows, MeansAlways, MeansAt}
use Rattle.source_laws.specs.Secrets.{Until, still_there, one_more}
use Rattle.source_laws.proofs.Offers.{outs_line, things_item, map-both}

-- ---- steps that show nothing

abbrev pub IsCalm : Option Event → Type 0
IsCalm None = Unit {0}
IsCalm (Some (Called true i b e)) = Unit {0}
IsCalm (Some (Returned true i b e)) = Unit {0}
IsCalm (Some (Called false i b e)) = ⊥
IsCalm (Some (Returned false i b e)) = ⊥
IsCalm (Some (Entered p k b)) = ⊥
IsCalm (Some (Left p)) = ⊥

module _ (l : Layout) where
  calm_outs : (q : OState) (e : Option Event) → IsCalm e → seen.event_outs l q e ≡ []
  calm_outs q None c = refl
  calm_outs q (Some (Called true i b e)) c = refl
  calm_outs q (Some (Returned true i b e)) c = refl
  calm_outs q (Some (Called false i b e)) c = absurd c
  calm_outs q (Some (Returned false i b e)) c = absurd c
  calm_outs q (Some (Entered p k b)) c = absurd c
  calm_outs q (Some (Left p)) c = absurd c

  calm_items : (q : OState) (e : Option Event) → IsCalm e → seen.event_items l q e ≡ []
  calm_items q None c = refl
  calm_items q (Some (Called true i b e)) c = refl
  calm_items q (Some (Returned true i b e)) c = refl
  calm_items q (Some (Called false i b e)) c = absurd c
  calm_items q (Some (Returned false i b e)) c = absurd c
  calm_items q (Some (Entered p k b)) c = absurd c
  calm_items q (Some (Left p)) c = absurd c

  called_calm : (b : Bool) (fs : List OpenFrame) → b ≡ true → IsCalm (called_event b fs)
  called_calm false fs e = absurd cc
  called_calm true [] e = tt
  called_calm true (f ∷ fs) e = tt

  module _ (o q : OState) (io : is_inside l o ≡ true) (iq : is_inside l q ≡ true) where
    calm_call : (x : Option ℕ) → IsCalm (event_after l (note_call x) q)
    calm_call None = called_calm (is_some (owner_now l q)) q.frames iq
    calm_call (Some i) = tt

    calm_return : (b : Bool) (fs : List OpenFrame) → b ≡ true → IsCalm (event_after l (note_return b fs) q)
    calm_return b [] e = tt
    calm_return false (f ∷ fs) e = absurd cc
    calm_return true (f ∷ fs) e = tt

    calm_jump : (w : Option Owner) (x : Option ℕ) → is_some w ≡ true
        → IsCalm (event_after l (note_jump (option_map (λ (p : Owner). p.part) w) x) q)
    calm_jump None x e = absurd cc
    calm_jump (Some w) None e = tt
    calm_jump (Some w) (Some n) e =
        subst (λ b. IsCalm (if b then None else Some (Left w.part))) (sym iq) tt

    by_case : (c : Case) → IsCalm (event_after l (note_by l o c) q)
    by_case (Call i) = calm_call (site_opened l _)
    by_case (Entry a) = tt
    by_case (BackCase r1 r2) = calm_return (is_some (owner_now l o)) o.frames io
    by_case Other =
        calm_jump (owner_now l o) (jump_seal o.maps (fetch (faces look o.maps Pc) (cell_faces look o.maps)))
        io

    pub inside_calm : IsCalm (step_event l o q)
    unfolding step_event
    inside_calm = by_case (case_of l o.maps)

  -- the same, with the state in which code outside ran last
  pub tells_of : (s : OState) (es : List Shown) (is : List (Thing OWord Back)) (b p : OState)
      → TellsSince l s es is b p → RunTells l s es is p
  tells_of s _ _ _ _ since.none_yet = none_yet
  tells_of s _ _ _ q (since.and_then {es = es} {is = is} {b = b} {p = p} t e) =
      and_then (tells_of s es is b p t) e

  pub calm_since : (s : OState) (es : List Shown) (is : List (Thing OWord Back)) (b p q : OState)
      → TellsSince l s es is b p → overlay_step l p ≡ goes q → IsCalm (step_event l p q)
      → TellsSince l s es is (last_outside (is_inside l p) b p) q
  calm_since s es is b p q t e c =
      subst (λ z. TellsSince l s z is (last_outside (is_inside l p) b p) q)
      (ap (λ z. es ++ z) (calm_outs q (step_event l p q) c) ∙ append-nil es)
      (subst
      (λ z. TellsSince l s (es ++ seen.event_outs l q (step_event l p q)) z
      (last_outside (is_inside l p) b p) q)
      (ap (λ z. is ++ z) (calm_items q (step_event l p q) c) ∙ append-nil is) (since.and_then t e))

  pub until_inside : (p q : OState) → Until l p q → is_inside l q ≡ true
  until_inside p _ (still_there i) = i
  until_inside p _ (one_more u s i) = i

  pub until_since : (s : OState) (es : List Shown) (is : List (Thing OWord Back)) (b p q : OState)
      → Until l p q → TellsSince l s es is b p → TellsSince l s es is b q
  until_since s es is b p _ (still_there i) t = t
  until_since s es is b p q (one_more {p = m} u e i) t =
      subst (λ z. TellsSince l s es is (last_outside z b m) q) (until_inside p m u)
      (calm_since s es is b m q (until_since s es is b p m u t) e (inside_calm m q (until_inside p m u) i))

  -- ---- what a source is shown

  pub shows_of : (s : OState) (es : List Shown) (is : List (Thing OWord Back)) (p : OState)
      → RunTells l s es is p → (j n : ℕ) × RunShows l s j n (map (λ x. x.event) es) (map (λ x. x.item) is) p
  shows_of s _ _ _ none_yet = (0, 0, sources.none_yet)
  shows_of s _ _ q (and_then {es = es} {is = is} {p = p} t e) =
      let k = shows_of s es is p t in (
        _,
        _,
        subst (λ z. RunShows l s (k.0 + weight_of l p) (k.1 + weighed (is_inside l p) (weight_of l p)) z
            (map (λ x. x.item) (is ++ seen.event_items l q (step_event l p q))) q)
            (ap (λ z. map (λ x. x.event) es ++ z) (sym (outs_line l q (step_event l p q)))
            ∙ sym (map-both (λ x. x.event) es (seen.event_outs l q (step_event l p q))))
            (subst (λ z. RunShows l s (k.0 + weight_of l p) (k.1 + weighed (is_inside l p) (weight_of l p))
            (map (λ x. x.event) es ++ lines.event_outs l (flat_view l q) (step_event l p q)) z q)
            (ap (λ z. map (λ x. x.item) is ++ z)
            (sym (things_item l q (lines.event_items l (flat_view l q) (step_event l p q))))
            ∙ sym (map-both (λ x. x.item) is (seen.event_items l q (step_event l p q))))
            (sources.and_then k.2 e)),
      )

  -- ---- so many steps

  data Far (p : OState) : ℕ → OState → Type 0 where
    here : is_inside l p ≡ true → Far p 0 p
    more : {n : ℕ} {q m : OState} → Far p n q → overlay_step l q ≡ goes m → is_inside l m ≡ true
        → Far p (suc n) m

  far_until : (p q : OState) (n : ℕ) → Far p n q → Until l p q
  far_until p _ _ (here i) = still_there i
  far_until p m _ (more {n = n} {q = q} f e i) = one_more (far_until p q n f) e i

  data Fate (p : OState) (k : ℕ) : Type 0 where
    lets_go : (n : ℕ) (q m : OState) → Far p n q → overlay_step l q ≡ goes m → is_inside l m ≡ false
        → Fate p k
    ended : (n : ℕ) (q : OState) → Far p n q → (overlay_step l q ≡ halts) ⊎ (overlay_step l q ≡ fails)
        → Fate p k
    goes_on : (q : OState) → Far p k q → Fate p k

  one_step : (p q : OState) (k : ℕ) → Far p k q → (e : Ending) → overlay_step l q ≡ e → Fate p (suc k)
  one_step p q k f (goes m) e = by (is_inside l m) refl
    where
      by : (b : Bool) → is_inside l m ≡ b → Fate p (suc k)
      by true i = goes_on m (more f e i)
      by false i = lets_go k q m f e i
  one_step p q k f halts e = ended k q f (inl e)
  one_step p q k f fails e = ended k q f (inr e)

  fate : (p : OState) (k : ℕ) → is_inside l p ≡ true → Fate p k
  fate p zero i = goes_on p (here i)
  fate p (suc k) i = by (fate p k i)
    where
      by : Fate p k → Fate p (suc k)
      by (lets_go n q m f e g) = lets_go n q m f e g
      by (ended n q f e) = ended n q f e
      by (goes_on q f) = one_step p q k f (overlay_step l q) refl

  -- each step weighs
  weighs : (o : OState) → 1 ≤ weight_of l o
  unfolding weight_of
  weighs o = by (case_of l o.maps)
    where
      if_weighs : (b : Bool) (n m : ℕ) → 1 ≤ n → 1 ≤ m → 1 ≤ (if b then n else m)
      if_weighs true n m a b = a
      if_weighs false n m a b = b

      by : (c : Case) → 1 ≤ weight_by o.maps c
      by (Call i) = if_weighs (is_ret_code o.maps.regs.c1) (CALL_WORDS + 1) CALL_WORDS (omega arith)
          (omega arith)
      by (Entry a) = omega arith
      by (BackCase r1 r2) =
          if_weighs (is_ret_code (reg o.maps.regs r1)) (RETURN_WORDS + 1) 1 (omega arith) (omega arith)
      by Other = omega arith

  lines_calm : (q : OState) (e : Option Event) → IsCalm e → (lines.event_outs l (flat_view l q) e ≡ [])
      × (lines.event_items l (flat_view l q) e ≡ [])
  lines_calm q None c = (refl, refl)
  lines_calm q (Some (Called true i b e)) c = (refl, refl)
  lines_calm q (Some (Returned true i b e)) c = (refl, refl)
  lines_calm q (Some (Called false i b e)) c = absurd c
  lines_calm q (Some (Returned false i b e)) c = absurd c
  lines_calm q (Some (Entered p k b)) c = absurd c
  lines_calm q (Some (Left p)) c = absurd c

  far_shows : (s : OState) (es : List OutLine) (is : List Item) (p q : OState) (n j w : ℕ) → Far p n q
      → RunShows l s j w es is p → (i v : ℕ) × RunShows l s i v es is q × (n ≤ v)
  far_shows s es is p _ _ j w (here i) t = (j, w, t, omega arith)
  far_shows s es is p m _ j w (more {n = n} {q = q} f e i) t =
      let k = far_shows s es is p q n j w f t in
      let iq = until_inside p q (far_until p q n f) in
      let c = lines_calm m (step_event l q m) (inside_calm q m iq i) in
      let up : weighed (is_inside l q) (weight_of l q) ≡ weight_of l q =
      ap (λ b. weighed b (weight_of l q)) iq in
      let one = weighs q in
      let far = k.3 in (
        _,
        _,
        subst (λ z. RunShows l s (k.0 + weight_of l q) (k.1 + weighed (is_inside l q) (weight_of l q)) z is m)
            (ap (λ z. es ++ z) c.0 ∙ append-nil es)
            (subst (λ z. RunShows l s (k.0 + weight_of l q) (k.1 + weighed (is_inside l q) (weight_of l q))
            (es ++ lines.event_outs l (flat_view l m) (step_event l q m)) z m)
            (ap (λ z. is ++ z) c.1 ∙ append-nil is) (sources.and_then k.2 e)),
        omega (arith, up, one, far),
      )

-- ---- a run of sources

module _ (world : World) (size : ℕ) (s : StartSeen) (means : MeansAlways world size s) where
  abbrev L : Layout
  L = layout s

  abbrev O : OState
  O = (overlay_at s).state

  -- the meaning of these items tells one event more than these
  abbrev pub TellsMore : List Shown → List (Thing OWord Back) → Type 0
  TellsMore es is =
      (enough : ℕ) × ((f : ℕ) → enough ≤ f
      → length es + 1 ≤ length (meaning world size (map (λ x. x.item) is) f).events)

  prefix_short : {A : Type 0} (xs ys rest : List A) (n : ℕ) → ys ≡ xs ++ rest → length ys ≡ n
      → n + 1 ≤ length xs → ⊥
  prefix_short xs ys rest n e f le =
      let a = ap length e in
      let b = length-append xs rest in
      omega (arith, a, b, f, le)

  abbrev Outs : List Shown → List OutLine
  Outs es = map (λ (x : Shown). x.event) es

  abbrev Items : List (Thing OWord Back) → List Item
  Items is = map (λ (x : Thing OWord Back). x.item) is

  -- what the meaning says so many steps later
  said_at : (es : List Shown) (is : List (Thing OWord Back)) (p : OState) → RunTells L O es is p → (n : ℕ)
      (q : OState) → Far L p n q → (v : ℕ) × MeansAt world size L v (Outs es) (Items is) q × (n ≤ v)
  said_at es is p t n q f =
      let k = shows_of L O es is p t in
      let z = far_shows L O (Outs es) (Items is) p q n k.0 k.1 f k.2 in
      (z.1, means z.0 z.1 (Outs es) (Items is) q z.2, z.3)

  pub goes_out : (es : List Shown) (is : List (Thing OWord Back)) (p : OState) → RunTells L O es is p
      → is_inside L p ≡ true → TellsMore es is
      → (q m : OState) × Until L p q × (overlay_step L q ≡ goes m) × (is_inside L m ≡ false)
  goes_out es is p t i told = by (fate L p (told.0 * 200 + 1) i)
    where
      long : (f : ℕ) → told.0 ≤ f
          → length (Outs es) + 1 ≤ length (out_lines (meaning world size (Items is) f).events)
      long f le =
          let a = told.1 f le in
          let b = length-map es (λ (x : Shown). x.event) in
          let c = length-map (meaning world size (Items is) f).events out_line in
          omega (arith, a, b, c)

      never : (f : ℕ) → told.0 ≤ f → out_lines (meaning world size (Items is) f).events ≡ Outs es → ⊥
      never f le e = let a = long f le in let b = ap length e in omega (arith, a, b)

      by : Fate L p (told.0 * 200 + 1)
          → (q m : OState) × Until L p q × (overlay_step L q ≡ goes m) × (is_inside L m ≡ false)
      by (lets_go n q m f e g) = (q, m, far_until L p q n f, e, g)
      by (ended n q f (inl e)) =
          let k = said_at es is p t n q f in
          let h = k.1.halts (until_inside L p q (far_until L p q n f)) e in
          absurd (never (told.0 + h.2.enough) (omega arith)
          (h.2.told (told.0 + h.2.enough) (omega arith)))
      by (ended n q f (inr e)) =
          let k = said_at es is p t n q f in
          let h = k.1.fails (until_inside L p q (far_until L p q n f)) e in
          absurd (never (told.0 + h.0.enough) (omega arith)
          (h.0.told (told.0 + h.0.enough) (omega arith)))
      by (goes_on q f) =
          let k = said_at es is p t (told.0 * 200 + 1) q f in
          let lt = k.2 in
          let h = k.1.slow told.0 (omega (arith, lt)) in
          absurd (prefix_short _ (Outs es) h.1.0 (length (Outs es)) h.1.1 refl (long told.0 (omega arith)))

  -- the meaning of these items ends so, under every large enough fuel
  abbrev pub EndsSo : List (Thing OWord Back) → End → Type 0
  EndsSo is e = (enough : ℕ) × ((f : ℕ) → enough ≤ f → (meaning world size (Items is) f).end ≡ e)

  -- trusted code comes to such an end
  pub data ComesTo (p : OState) (e : End) : Type 0 where
    to_halt : (q : OState) (v : ℤ) → Until L p q → overlay_step L q ≡ halts → (flat_view L q).reg A0 ≡ Int v
        → e ≡ Halted v → ComesTo p e
    to_fail : (q : OState) → Until L p q → overlay_step L q ≡ fails → e ≡ Fails → ComesTo p e

  -- where it doesn't let go
  pub comes_to : (es : List Shown) (is : List (Thing OWord Back)) (p : OState) → RunTells L O es is p
      → is_inside L p ≡ true → (e : End) → EndsSo is e → (e ≡ OutOfFuel → ⊥)
      → ((q m : OState) → Until L p q → overlay_step L q ≡ goes m → is_inside L m ≡ false → ⊥) → ComesTo p e
  comes_to es is p t i e so some never = by (fate L p (so.0 * 200 + 1) i)
    where
      by : Fate L p (so.0 * 200 + 1) → ComesTo p e
      by (lets_go n q m f g out) = absurd (never q m (far_until L p q n f) g out)
      by (ended n q f (inl g)) =
          let u = far_until L p q n f in
          let h = (said_at es is p t n q f).1.halts (until_inside L p q u) g in
          to_halt q h.0 u g h.1
          (sym (so.1 (so.0 + h.2.enough) (omega arith)) ∙ h.2.ends (so.0 + h.2.enough) (omega arith))
      by (ended n q f (inr g)) =
          let u = far_until L p q n f in
          let h = (said_at es is p t n q f).1.fails (until_inside L p q u) g in
          to_fail q u g
          (sym (so.1 (so.0 + h.0.enough) (omega arith)) ∙ h.0.ends (so.0 + h.0.enough) (omega arith))
      by (goes_on q f) =
          let k = said_at es is p t (so.0 * 200 + 1) q f in
          let lt = k.2 in
          let h = k.1.slow so.0 (omega (arith, lt)) in
          absurd (some (sym (so.1 so.0 (omega arith)) ∙ h.0))
