-- What the sources show where they call code outside back, from what the law says of each run.
use Rattle.std.proofs.Common.{◌≡◌, ℕ, ◌+◌, ℤ, pos, false, List, [], ◌∷◌, ◌++◌, map, Some}
use Rattle.std.proofs.Common.{sym, ap, ◌∙◌}
use Rattle.std.specs.Prelude.{slice_get}
use Rattle.cap_words.specs.declared.Word.TheVariants.{Int}
use Rattle.linked_starts.specs.Started.{StartSeen}
use Rattle.trusted_border.specs.declared.layout.Layout.{Layout}
use Rattle.trusted_border.specs.declared.events.Event as border
use Rattle.trusted_border.specs.declared.events.Event.TheVariants.{Called}
use Rattle.overlay_machine.specs.declared.words.OWord.{OWord}
use Rattle.overlay_machine.specs.declared.words.OWord.TheVariants.{Plain}
use Rattle.overlay_machine.specs.State.{OpenFrame, OState}
use Rattle.overlay_machine.specs.Step.{goes, overlay_step, weight_of}
use Rattle.overlay_machine.specs.Runs.{Reached, begins, goes_on}
use Rattle.overlay_machine.specs.Events.{step_event}
use Rattle.overlay_machine.specs.Flat.{flat}
use Rattle.overlay_machine.specs.Starting.{overlay_at}
use Rattle.run_lines.specs.Feed.{integer_in}
use Rattle.run_lines.specs.Layout.{layout}
use Rattle.proc_semantics.specs.Marked.{Thing, Arg, Number, OfPair, Event, Whence, arg_to}
use Rattle.template_runs.specs.Border.{Opened, code_word, zero, ShowsCall, ShowsBy, by_call, by_leave}
use Rattle.source_laws.specs.Seen.{Back, Shown, arg_shown, event_outs, event_items}
use Rattle.source_laws.specs.Secrets.{LetsGo, comes, Until, still_there, one_more}
use Rattle.source_laws.specs.Words.{RunTells, none_yet, and_then}
use Rattle.source_starts.specs.PlainWords.{CallTold}
use Rattle.source_starts.specs.Shown.{SourcesShowNothingElse}
use Rattle.lockstep.specs.Lockstep.{Round, IsRound, Path}
use Rattle.lockstep.specs.Lockstep as path
use Rattle.callback_instance.specs.CalledBack.{PassersCallBack}
use Rattle.law_instances.specs.Callback.{CallbackTold}

-- ---- what a run has shown, up to any state of a path

record Shows (s : StartSeen) (q : OState) : Type 0 where
  pub at : ℕ
  pub reached : Reached (layout s) (overlay_at s).state at q
  pub es : List Shown
  pub is : List (Thing OWord Back)
  pub tells : RunTells (layout s) (overlay_at s).state es is q

module _ (s : StartSeen) where
  first_shows : Shows s (overlay_at s).state
  first_shows = record { at = 0; reached = begins; es = []; is = []; tells = none_yet }

  next_shows : {p q : OState} → Shows s p → overlay_step (layout s) p ≡ goes q → Shows s q
  next_shows {p} {q} h e = record {
    at = h.at + weight_of (layout s) p;
    reached = goes_on h.reached e;
    es = h.es ++ event_outs (layout s) q (step_event (layout s) p q);
    is = h.is ++ event_items (layout s) q (step_event (layout s) p q);
    tells = and_then h.tells e;
  }

  -- up to where code outside comes in for the first time
  up_to : {n : ℕ} {p z : OState} {rs : List Round} (r : Round) → Path (layout s) n p (r ∷ rs) z → Shows s p
      → Shows s r.before × IsRound (layout s) r
  up_to r (path.outside i e o more) h = up_to r more (next_shows h e)
  up_to _ (path.inside r is more) h = (h, is)

  -- and on, while trusted code runs
  up_until : {o p : OState} → Shows s o → Until (layout s) o p → Shows s p
  up_until h (still_there i) = h
  up_until h (one_more u e i) = next_shows (up_until h u) e

-- ---- the event, and the first argument

-- what shows a call by a pair is that call
call_is : (l : Layout) (p q : OState) (d : Opened) (f : OpenFrame) (e : border.Event) → ShowsCall l d f q
    → step_event l p q ≡ Some e → ShowsBy l q e → step_event l p q ≡ Some (Called false f.site f.base f.end)
call_is l p q d f _ call is (by_call d' f' shown) =
    let both : f' ∷ shown.older ≡ f ∷ call.older = sym shown.newest ∙ call.newest in
    let same : f' ≡ f = cc in
    is ∙ ap (λ (x : OpenFrame). Some (Called false x.site x.base x.end)) same
call_is l p q d f _ call is (by_leave part d' top shown) =
    let bad : zero ≡ code_word d = sym shown.c1 ∙ call.c1 in absurd cc

number_is : (w : Whence → OWord) (k : ℕ → Back) (x : Arg Whence) (z : ℤ) → arg_to w k x ≡ Number z
    → x ≡ Number z
number_is w k (Number v) z e = let same : v ≡ z = cc in ap Number same
number_is w k (OfPair o) z e = absurd cc

first_is : (w : Whence → OWord) (k : ℕ → Back) (xs : List (Arg Whence)) (y : Arg OWord)
    (ys : List (Arg OWord)) (z : ℤ) → map (arg_to w k) xs ≡ y ∷ ys → y ≡ Number z
    → slice_get xs 0 ≡ Some (Number z)
first_is w k [] y ys z e is = absurd cc
first_is w k (x ∷ xs) y ys z e is =
    let same : arg_to w k x ≡ y = cc in
    ap Some (number_is w k x z (same ∙ is))

six_shown : (l : Layout) (fs : List OpenFrame) (w : OWord) → w ≡ Plain (Int (pos 6))
    → arg_shown (integer_in (flat l fs w)) w ≡ Number (pos 6)
unfolding flat
six_shown l fs w e = ap (λ x. arg_shown (integer_in (flat l fs x)) x) e

-- what is told of a call with 6
told_of_six : (l : Layout) (q : OState) (base : ℕ) (word : Whence → OWord) (k : ℕ → Back) (e : Event Whence ℕ)
    (t : CallTold l q base word k e) → q.maps.regs.a0 ≡ Plain (Int (pos 6))
    → slice_get t.args 0 ≡ Some (Number (pos 6))
told_of_six l q base word k e t six =
    first_is word k t.args _ _ (pos 6) t.args_are (six_shown l q.frames q.maps.regs.a0 six)

-- ---- the instance

pub callback_told : SourcesShowNothingElse → PassersCallBack → CallbackTold
callback_told law back =
    let a = back.there.sources in
    let s = a.start in
    let run = back.one in
    let r = run.first in
    let q = r.after in
    let shows = law a in
    let came = up_to s r run.path (first_shows s) in
    let before = up_until s (next_shows s came.0 came.1.comes) came.1.until in
    let lets_go : LetsGo s r.entered r.last q = record {
      came = comes came.0.at r.before came.0.reached came.1.outside came.1.comes;
      until = came.1.until;
      steps = came.1.lets;
      gone = came.1.gone;
    } in
    let shown = (shows.nothing_more.shows r.entered r.last q lets_go).registers in
    let called = call_is (layout s) r.last q run.callback run.calls.frame shown.0 run.calls.shown shown.1
    shown.2 in
    let told = shows.plain_words before.es before.is r.last q before.tells came.1.lets run.calls.frame.site
    run.calls.frame.base run.calls.frame.end called in
    record {
      sources = a;
      shows = shows;
      run = run;
      lets_go = lets_go;
      called = called;
      es = before.es;
      is = before.is;
      tells = before.tells;
      told = told;
      words = λ f enough. (let e = (told.told f enough).2 in (
        e.first_is ∙ run.calls.shown.c1 ∙ sym run.code,
        e.second_is ∙ run.calls.shown.c2 ∙ sym run.half,
        told_of_six _ _ _ _ _ _ e run.calls.number,
      ));
    }
