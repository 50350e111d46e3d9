-- From what the refined meaning tells to the plain machine's registers after a call.
use Rattle.std.proofs.Common.{◌≡◌, ℕ, ◌+◌, false, List, [], ◌∷◌, ◌++◌, length, map, Option, Some, None, refl}
use Rattle.std.proofs.Common.{ap, ◌∙◌, subst, append-nil}
use Rattle.std.specs.Prelude.{slice_get, option_map}
use Rattle.linked_starts.specs.Standing.{placed}
use Rattle.linked_starts.specs.Started.{StartSeen}
use Rattle.trusted_border.specs.declared.layout.Layout.{Layout}
use Rattle.trusted_border.specs.declared.events.Event.TheVariants.{Called}
use Rattle.overlay_machine.specs.declared.words.OWord.{OWord}
use Rattle.overlay_machine.specs.State.{OState}
use Rattle.overlay_machine.specs.Step.{goes, overlay_step, weight_of}
use Rattle.overlay_machine.specs.Events.{step_event}
use Rattle.overlay_machine.specs.Runs.{Reached}
use Rattle.overlay_machine.specs.Starting.{overlay_at}
use Rattle.overlay_machine.proofs.Offers.{map_get}
use Rattle.run_lines.specs.Layout.{layout}
use Rattle.run_lines.specs.Cuts.{Matched}
use Rattle.headline.specs.Headline.{Headline, HeadlineHolds}
use Rattle.template_runs.specs.Runs.{is_inside}
use Rattle.proc_semantics.specs.Values.{World}
use Rattle.proc_semantics.specs.Marked.{Marks, Thing, Event, Calls, Leaves, Whence, refined, arg_to, event_to}
use Rattle.source_laws.specs.Seen.{Back, Shown, args_shown, call_shown, shown_of, event_outs, event_items}
use Rattle.source_laws.specs.Words.{RunTells, none_yet, and_then, word_from, back_at, WhenceTold, TellsSo}
use Rattle.source_starts.specs.PlainWords.{CallTold, PlainCallTold, PlainRunsTellWords}
use Rattle.source_starts.specs.Words.{SourcesTellWords}

get_mid : {A : Type 0} (es : List A) (c : A) (rest : List A)
    → slice_get ((es ++ c ∷ []) ++ rest) (length es) ≡ Some c
get_mid [] c rest = refl
get_mid (e ∷ es) c rest = get_mid es c rest

marked_is : (word : Whence → OWord) (x : Option Whence) (w : OWord) → option_map word x ≡ Some w
    → (m : Whence) × (x ≡ Some m) × (word m ≡ w)
marked_is word None w e = absurd (let z : None ≡ Some w = e in cc)
marked_is word (Some m) w e = (m, refl, (let z : word m ≡ w = cc in z))

call_told : (l : Layout) (q : OState) (i base : ℕ) (word : Whence → OWord) (back : ℕ → Back)
    (e : Event Whence ℕ) → shown_of (event_to word back e) ≡ call_shown l q i base
    → CallTold l q base word back e
call_told l q i base word back (Calls part site b low x y xs) h =
    let went = ap (λ z. z.went) h in
    let b_is : Some b ≡ Some base = ap (option_map (λ z. z.base)) went in
    let bs : b ≡ base = cc in
    let x_is : Some (option_map word x) ≡ Some (Some q.maps.regs.c1) = ap (option_map (λ z. z.first)) went in
    let y_is : Some (option_map word y) ≡ Some (Some q.maps.regs.c2) = ap (option_map (λ z. z.second)) went in
    let args_is : Some (map (arg_to word back) xs) ≡ Some (args_shown l q) =
    ap (option_map (λ z. z.args)) went in
    let mx = marked_is word x q.maps.regs.c1 (let z : option_map word x ≡ Some q.maps.regs.c1 = cc in z) in
    let my = marked_is word y q.maps.regs.c2 (let z : option_map word y ≡ Some q.maps.regs.c2 = cc in z) in
    record {
      part = part;
      site = site;
      low = low;
      first = mx.0;
      second = my.0;
      args = xs;
      is = ap (λ z. Calls part site z low x y xs) bs ∙ ap (λ z. Calls part site base low z y xs) mx.1
          ∙ ap (λ z. Calls part site base low (Some mx.0) z xs) my.1;
      first_is = mx.2;
      second_is = my.2;
      args_are = (let z : map (arg_to word back) xs ≡ args_shown l q = cc in z);
    }
call_told l q i base word back (Leaves part v low e) h =
    let went = ap (λ z. z.went) h in
    absurd (let z : None ≡ Some (record {
      base = base;
      first = Some q.maps.regs.c1;
      second = Some q.maps.regs.c2;
      args = args_shown l q;
    }) = went in cc)

module _ (s : StartSeen) (head : Headline s) where
  tells_matched : (es : List Shown) (is : List (Thing OWord Back)) (p : OState)
      → RunTells (layout s) (overlay_at s).state es is p → (j : ℕ) × Matched s j p
  tells_matched _ _ _ none_yet = (0, Reached.begins)
  tells_matched _ _ _ (and_then {es = es} {is = is} {p = p} t e) =
      let r = tells_matched es is p t in (r.0 + weight_of (layout s) p, Reached.goes_on r.1 e)

  pub plain_told : (marks : Marks OWord) (world : World) (stack : ℕ) → WhenceTold marks world stack s
      → (es : List Shown) (is : List (Thing OWord Back)) (p q : OState)
      → RunTells (layout s) (overlay_at s).state es is p → overlay_step (layout s) p ≡ goes q
      → (i base last : ℕ) → step_event (layout s) p q ≡ Some (Called false i base last)
      → PlainCallTold marks world stack s es is q base
  plain_told marks world stack told es is p q tells steps i base last ev =
      let l = layout s in
      let more : RunTells l (overlay_at s).state (es ++ event_outs l q (step_event l p q))
      (is ++ event_items l q (step_event l p q)) q = and_then tells steps in
      let more2 : RunTells l (overlay_at s).state (es ++ call_shown l q i base ∷ []) (is ++ []) q =
      subst (λ z. RunTells l (overlay_at s).state (es ++ event_outs l q z) (is ++ event_items l q z) q) ev
      more
      in
      let more3 : RunTells l (overlay_at s).state (es ++ call_shown l q i base ∷ []) is q =
      subst (λ z. RunTells l (overlay_at s).state (es ++ call_shown l q i base ∷ []) z q)
      (append-nil is) more2 in
      let r = tells_matched (es ++ call_shown l q i base ∷ []) is q more3 in
      let m = head.agrees.matched r.0 q r.1 in
      let t = told (es ++ call_shown l q i base ∷ []) is q more3 in
      record {
        to = r.0;
        there = r.1;
        went = m.0;
        registers = m.1.regs;
        enough = t.0;
        told = λ f le. by f (t.1 f le);
      }
    where
      by : (f : ℕ) → TellsSo (is_inside (layout s) q) (es ++ call_shown (layout s) q i base ∷ [])
          (map shown_of (map (event_to (word_from marks is) (back_at is))
          (refined world stack (map (λ x. x.item) is) f).events))
          → (e : Event Whence ℕ)
          × (slice_get (refined world stack (map (λ x. x.item) is) f).events (length es) ≡ Some e)
          × CallTold (layout s) q base (word_from marks is) (back_at is) e
      by f h =
          let es' = (refined world stack (map (λ x. x.item) is) f).events in
          let word = word_from marks is in
          let back = back_at is in
          let at : slice_get (map shown_of (map (event_to word back) es')) (length es)
          ≡ Some (call_shown (layout s) q i base) =
          ap (λ z. slice_get z (length es)) h.0.1 ∙ get_mid es (call_shown (layout s) q i base) h.0.0 in
          let a = map_get shown_of (map (event_to word back) es') (length es)
          (call_shown (layout s) q i base) at in
          let b = map_get (event_to word back) es' (length es) a.0 a.1 in
          (b.0, b.1, call_told (layout s) q i base word back b.0 (ap shown_of b.2 ∙ a.2))

pub start_plain : HeadlineHolds → SourcesTellWords → PlainRunsTellWords
start_plain head law a =
    plain_told a.start (head (placed a.parts a.size) a.size a.start a.is_start) _ _ _ (law a)
