-- No line of a run spoils it in an audit.
use Rattle.std.proofs.Common.{◌≡◌, ℕ, suc, ◌+◌, ◌<◌, Bool, true, false, List, [], ◌∷◌, ◌++◌}
use Rattle.std.proofs.Common.{length, Option, Some, None, Ok, refl, ap, ◌∙◌, arith}
use Rattle.std.specs.Prelude.{if◌then◌else◌, map}
use Rattle.std.proofs.lemmas.List.{map-append}
use Rattle.std.proofs.lemmas.Bool.{lt-ltb}
use Rattle.cap_words.specs.Text.{word_text_of}
use Rattle.trusted_border.specs.declared.layout.Layout.{Layout}
use Rattle.trusted_border.specs.declared.events.Event.{Event}
use Rattle.overlay_machine.specs.State.{OpenFrame, OState, Cells}
use Rattle.overlay_machine.specs.Step.{weight_of}
use Rattle.overlay_machine.specs.Events.{step_event}
use Rattle.overlay_machine.specs.Flat.{flat}
use Rattle.overlay_machine.specs.Invariant.{FrameLies, LiesBelow, FramesLie}
use Rattle.overlay_machine.specs.Runs.{Reached, goes_on}
use Rattle.overlay_machine.specs.Brackets.{frame_told, Brackets, at_end, one_opens, one_closes}
use Rattle.run_lines.specs.Views.{flat_view}
use Rattle.source_events.specs.declared.FeedPair.{FeedPair}
use Rattle.run_lines.specs.Lines.{Line, call, ret, enter, pass, leave, feed_pair, pass_lines}
use Rattle.run_lines.specs.Lines.{line_of, lines_for}
use Rattle.run_lines.specs.Pairs.{pairs_of, none_paired}
use Rattle.trusted_border.specs.declared.events.Event.TheVariants.{Called, Returned, Entered, Left}
use Rattle.run_lines.specs.Told.{step_lines, Told, none_yet, and_then}
use Rattle.headline.specs.OpenCalls.{LineTold}
use Rattle.headline.specs.Brackets.{mark_of, marks_in, line_told, lines_told, LinesAreBracketed}
use Rattle.run_lines.proofs.Offers.{reached_by}
use Rattle.run_audit.specs.declared.line.Line.TheVariants.{Call, Ret, Enter}
use Rattle.run_audit.specs.Traces.{IsWide}
use Rattle.run_audit.specs.Audit.{OpenSeen, below_newest, stepped, audit_on as goes_on_with, followed}
use Rattle.run_audit.proofs.Offers.{told_same, wide_true, followed_append}
use Rattle.audited_runs.specs.Audited.{told_seen, line_seen}

as_many : {A B : Type 0} (f : A → B) (xs : List A) → length (map f xs) ≡ length xs
as_many f [] = refl
as_many f (x ∷ xs) = ap suc (as_many f xs)

-- ---- what frames tell lies as frames do

abbrev Below : LineTold → List LineTold → Type 0
Below f [] = Unit {0}
Below f (g ∷ gs) = f.last < g.base

abbrev Lie : List LineTold → Type 0
Lie [] = Unit {0}
Lie (f ∷ fs) = IsWide (told_seen f) × Below f fs × Lie fs

told_below : (l : Layout) (f : OpenFrame) (fs : List OpenFrame) (x : LineTold) → x.last ≡ f.end
    → LiesBelow f fs → Below x (lines_told l fs)
told_below l f [] x e h = tt
told_below l f (g ∷ gs) x e h = omega (arith, e, h)

-- each address of a frame's range has a word
frame_wide : (l : Layout) (m : Cells) (f : OpenFrame) (fs : List OpenFrame) → FrameLies l m f
    → IsWide (told_seen (line_told l (frame_told l f fs)))
frame_wide l m f fs h =
    omega (arith, h.words, as_many word_text_of (map (flat l fs) f.words), as_many (flat l fs) f.words)

pub frames_lie : (l : Layout) (m : Cells) (n : ℕ) (fs : List OpenFrame) → FramesLie l m n fs
    → Lie (lines_told l fs)
frames_lie l m n [] h = tt
frames_lie l m n (f ∷ fs) h = (
  frame_wide l m f fs h.0,
  told_below l f fs (line_told l (frame_told l f fs)) refl h.2,
  frames_lie l m f.call fs h.3,
)

-- ---- one line

abbrev IsNoPass : Line → Type 0
IsNoPass (pass p0 p1 p2) = ⊥
IsNoPass _ = Unit {0}

abbrev opened_at : List LineTold → Bool → OpenSeen
opened_at fs entered = record { calls = map told_seen fs; entered = entered }

below : (f : LineTold) (fs : List LineTold) → Below f fs
    → below_newest (told_seen f) (map told_seen fs) ≡ true
below f [] h = refl
below f (g ∷ gs) h = lt-ltb _ _ h

opens_one : (f : LineTold) (fs : List LineTold) (n : ℕ) (b : Bool) → Lie (f ∷ fs)
    → stepped (opened_at fs b) n (Call (told_seen f)) ≡ Ok (opened_at (f ∷ fs) false)
unfolding stepped
opens_one f fs n b h = let w = wide_true (told_seen f) h.0 in let v = below f fs h.1 in rw (w, v) refl

closes_one : (f : LineTold) (fs : List LineTold) (n : ℕ) (b : Bool) → Lie (f ∷ fs)
    → stepped (opened_at (f ∷ fs) b) n (Ret (told_seen f)) ≡ Ok (opened_at fs false)
unfolding stepped
closes_one f fs n b h = let w = wide_true (told_seen f) h.0 in let v = told_same (told_seen f) in rw (w, v)
    refl

-- of the events but an entry
one : (x : Line) (ps qs : List LineTold) → (b : Bool) → IsNoPass x → Brackets LineTold ps (mark_of x ++ []) qs
    → Lie ps → Lie qs → (n : ℕ)
    → (c : Bool) × (stepped (opened_at ps b) n (line_seen x) ≡ Ok (opened_at qs c))
unfolding stepped
one (call inward part site base last args words) ps _ b other (one_opens (at_end _)) lp lq n = (
  false,
  opens_one (record { part = part; site = site; base = base; last = last; words = words }) ps n b
      lq,
)
one (ret inward part site base last a0 words) _ qs b other (one_closes (at_end _)) lp lq n = (
  false,
  closes_one (record { part = part; site = site; base = base; last = last; words = words }) qs n b
      lp,
)
one (enter part export stk args back) ps _ b other (at_end _) lp lq n = (true, refl)
one (pass p0 p1 p2) ps qs b other h lp lq n = absurd other
one (leave part a0) ps _ b other (at_end _) lp lq n = (false, refl)

-- what stands after an enter line
behind_enter : (b : Bool) (x y z : FeedPair) (ps qs : List LineTold)
    → Brackets LineTold ps (marks_in (if b then [] else pass x y z ∷ [])) qs → (n : ℕ)
    → (c : Bool) × (followed (opened_at ps true) n (map line_seen (if b then [] else pass x y z ∷ [])) ≡ Ok
    (opened_at qs c))
unfolding stepped
behind_enter true x y z ps _ (at_end _) n = (true, refl)
behind_enter false x y z ps _ (at_end _) n = (false, refl)

enter_goes : (ps : List LineTold) (b : Bool) (n : ℕ) (x : Line) (xs : List Line) → line_seen x ≡ Enter
    → followed (opened_at ps b) n (map line_seen (x ∷ xs)) ≡ followed (opened_at ps true) (n + 1)
    (map line_seen xs)
unfolding stepped
enter_goes ps b n x xs e =
    ap (λ y. goes_on_with (stepped (opened_at ps b) n y) (λ t. followed t (n + 1) (map line_seen xs))) e

single : (x : Line) (ps qs : List LineTold) (b : Bool) → IsNoPass x
    → Brackets LineTold ps (mark_of x ++ []) qs → Lie ps → Lie qs → (n : ℕ)
    → (c : Bool) × (followed (opened_at ps b) n (map line_seen (x ∷ [])) ≡ Ok (opened_at qs c))
single x ps qs b other h lp lq n =
    let k = one x ps qs b other h lp lq n in
    (k.0, ap (λ r. goes_on_with r (λ t. followed t (n + 1) [])) k.1)

none_or_some : (l : Layout) (q : OState) (e : Option Event) (ps qs : List LineTold)
    → Brackets LineTold ps (marks_in (lines_for l (flat_view l q) e)) qs → Lie ps → Lie qs
    → (n : ℕ) (b : Bool)
    → (c : Bool) × (followed (opened_at ps b) n (map line_seen (lines_for l (flat_view l q) e)) ≡ Ok
    (opened_at qs c))
none_or_some l q None ps _ (at_end _) lp lq n b = (b, refl)
none_or_some l q (Some (Called inward i base last)) ps qs h lp lq n b =
    single (line_of l (flat_view l q) (Called inward i base last)) ps qs b tt h lp lq n
none_or_some l q (Some (Returned inward i base last)) ps qs h lp lq n b =
    single (line_of l (flat_view l q) (Returned inward i base last)) ps qs b tt h lp lq n
none_or_some l q (Some (Entered part k back)) ps qs h lp lq n b =
    let v = flat_view l q in
    let p = pairs_of l v in
    let r = behind_enter (none_paired p) (feed_pair l p.p0) (feed_pair l p.p1) (feed_pair l p.p2) ps qs h
    (n + 1) in
    (r.0, enter_goes ps b n (line_of l v (Entered part k back)) (pass_lines l p) refl ∙ r.1)
none_or_some l q (Some (Left part)) ps qs h lp lq n b =
    single (line_of l (flat_view l q) (Left part)) ps qs b tt h lp lq n

-- ---- all lines

module _ (l : Layout) (o : OState) (lies : (j : ℕ) (p : OState) → Reached l o j p
    → Lie (lines_told l p.frames))
    (brackets : (j : ℕ) (p : OState) → Reached l o j p → LinesAreBracketed l p) where
  pub follows : (j : ℕ) (ls : List Line) (p : OState) → Told l o j ls p
      → (b : Bool)
      × (followed (opened_at (lines_told l o.frames) false) 1 (map line_seen ls) ≡ Ok
      (opened_at (lines_told l p.frames) b))
  follows _ _ _ none_yet = (false, refl)
  follows _ _ q (and_then {j = j} {ls = ls} {p = p} r e) =
      let at = reached_by l o j ls p r in
      let before = follows j ls p r in
      let xs = map line_seen ls in
      let ys = map line_seen (step_lines l p q) in
      let step = none_or_some l q (step_event l p q) (lines_told l p.frames) (lines_told l q.frames)
      (brackets j p at (0 + weight_of l p) ([] ++ step_lines l p q) q (and_then none_yet e))
      (lies j p at) (lies (j + weight_of l p) q (goes_on at e)) (1 + length xs) before.0 in (
        step.0,
        ap (followed (opened_at (lines_told l o.frames) false) 1) (map-append line_seen ls (step_lines l p q))
            ∙ followed_append (opened_at (lines_told l o.frames) false) 1 xs ys
            ∙ ap (λ k. goes_on_with k (λ t. followed t (1 + length xs) ys)) before.1
            ∙ step.1,
      )
