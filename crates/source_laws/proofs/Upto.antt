-- Runs of at most so many steps against a meaning: what is wanted of them, as the laws of the machine take
-- it.
use Rattle.std.proofs.Common.{◌≡◌, ℕ, zero, suc, ◌+◌, ◌*◌, ◌≤◌, ℤ, [], ◌∷◌, Option, None, true, refl, sym, ap}
use Rattle.std.proofs.Common.{◌∙◌, subst, arith, ◌-◌, List, Some, ◌⊎◌, inl, inr, ◌<◌, false, ◌++◌}
use Rattle.cap_words.specs.declared.Word.TheVariants.{Int}
use Rattle.lcm_isa.specs.declared.Reg.TheVariants.{A0}
use Rattle.trusted_border.specs.declared.layout.Layout.{Layout}
use Rattle.trusted_border.specs.declared.events.Event.{Event}
use Rattle.trusted_border.specs.declared.events.Event.TheVariants.{Left}
use Rattle.overlay_machine.specs.Events.{step_event}
use Rattle.overlay_machine.specs.State.{OState, OpenFrame}
use Rattle.overlay_machine.specs.Step.{halts, fails, overlay_step, own_stack, weight_of, Ending, goes}
use Rattle.cap_words.specs.declared.CapFields.{CapFields}
use Rattle.run_lines.specs.Views.{flat_view}
use Rattle.source_laws.proofs.Refined as telling
use Rattle.source_laws.specs.Seen.{Shown, shown_of, Back, rests, shown, event_outs, event_items, standing}
use Rattle.source_laws.specs.Seen.{ended, show, trace}
use Rattle.source_events.specs.declared.End.TheVariants.{Fail, Halt}
use Rattle.source_laws.proofs.Refined.{Comp, ends, tick, ticks, emit}
use Rattle.overlay_machine.specs.Link.{Link}
use Rattle.template_runs.specs.Public.{IsFreeAt}
use Rattle.template_runs.specs.Border.{Shows, GivesBack, Wiped}
use Rattle.template_runs.proofs.Offers.{halts_not, fails_not, Live, none, untold, NotIn, IsLower, Clean}
use Rattle.template_runs.proofs.Offers.{clean_same, clean_set, Among, depth, Quiet, quiet_none, quiet_fewer}
use Rattle.template_runs.proofs.Offers.{quiet_step, quiet_out, quiet_ended}
use Rattle.std.specs.Prelude.{Bool, nat_lt, if◌then◌else◌}
use Rattle.std.proofs.lemmas.Bool.{ltb-true, ltb-false}
use Rattle.overlay_machine.specs.declared.words.OWord.{OWord}
use Rattle.proc_semantics.specs.Marked.{lower}
use Rattle.source_laws.specs.Wiped.{low_of, last_outside}
use Rattle.source_laws.proofs.Wipes.{Wipes, crossed, cross, crossings, cross_none, cross_more, wipes_none}
use Rattle.source_laws.proofs.Wipes.{wipes_tick, wipes_ticks, wipes_said}
use Rattle.template_runs.specs.Runs.{is_inside, Makes, RunsOn, Failing, Halting, Sets, no_cell, one_cell}
use Rattle.source_laws.specs.Trace.{Running, HaltedWith, Failed, weighed}
use Rattle.source_laws.proofs.Follows.{Agrees}
use Rattle.source_laws.proofs.Agreeing.{weaker, ticked, ticked_many, unseen, seen, stopped}
use Rattle.source_laws.proofs.Agreeing.{fails as agrees_fail, wiped as agrees_wiped, halts as agrees_halt}

-- What was wiped in trusted code since a state in which code outside ran last, beside live cells, is what was
-- told since; and nothing was told since where code outside runs.
pub record Since (g : Link) (b : OState) (low : Option ℕ) (lv : Live) (o : OState) : Type 0 where
  pub inside : is_inside g.layout o ≡ true → Clean g b low lv o
  pub outside : is_inside g.layout o ≡ false → low ≡ None

-- The run and the meaning agree for every run of at most n steps, and where it lets go of control in these it
-- shows no more than it tells, and has wiped the cells that are told of.
pub record UpTo (g : Link) (ws : List OState) (lv : Live) (n c : ℕ) (o : OState) (m : Comp) : Type 0 where
  pub by : (k : ℕ) → k ≤ n → Agrees c (trace g.layout k o) m
  pub quiet : Quiet g (Shows g.layout) (GivesBack g.layout) ws n o
  pub wiped : (b : OState) (low : Option ℕ) → Since g b low lv o → (k : ℕ) → k ≤ n
      → Wipes g (crossings g.layout k b o) (trace g.layout k o).items (m low)

-- the last cell of the stack that stk is over
abbrev pub end_of : Option CapFields → ℕ
end_of None = 0
end_of (Some c) = c.end

abbrev pub stack_top : Link → OState → ℕ
stack_top g o = end_of (own_stack g.layout o.maps)

-- the cells of a frame that comes back
abbrev pub in_frame : OpenFrame → Live
in_frame f = untold (f.end - f.base + 1) f.end

-- what is clean beside some cells in a state is so beside others in another
abbrev pub Carries : Link → Live → OState → Live → OState → Type 0
Carries g lv o lw q = (b : OState) (low : Option ℕ) → Clean g b low lv o → Clean g b low lw q

pub is_lower : (low : Option ℕ) (j : ℕ) → IsLower low j (lower OWord Back low j)
is_lower None j = refl
is_lower (Some m) j = by (nat_lt j m) refl
  where
    by : (t : Bool) → nat_lt j m ≡ t → IsLower (Some m) j (if t then j else m)
    by true e = let lt = ltb-true j m e in (omega arith, omega (arith, lt), inl refl)
    by false e = let ge = ltb-false j m e in (ge, omega arith, inr refl)

module _ (g : Link) where
  abbrev l : Layout
  l = g.layout

  pub trace_none : (o : OState) → is_inside l o ≡ true → trace l zero o ≡ rests 0 Running
  unfolding trace
  trace_none o i = ap (standing l) i

  -- before the first step nothing is wiped
  pub nothing_yet : (b o : OState) (m : ℕ → List telling.Thing → telling.Report)
      → Wipes g (crossings l zero b o) (trace l zero o).items m
  nothing_yet b o m =
      subst (λ x. Wipes g x (trace l zero o).items m) (sym (cross_none l b o))
      (wipes_none g (trace l zero o).items m)

  -- nor where it ends
  pub nothing_more : (k : ℕ) (b o : OState) (e : Ending) → overlay_step l o ≡ e
      → cross l b o e (crossings l k) ≡ []
      → (m : ℕ → List telling.Thing → telling.Report)
      → Wipes g (crossings l (suc k) b o) (trace l (suc k) o).items m
  nothing_more k b o e i none m =
      subst (λ x. Wipes g x (trace l (suc k) o).items m) (sym (cross_more l k b o e i ∙ none))
      (wipes_none g (trace l (suc k) o).items m)

  pub none_inside : {ws : List OState} {lv : Live} (c : ℕ) (o : OState) (m : Comp) → is_inside l o ≡ true
      → UpTo g ws lv zero c o m
  none_inside {ws = ws} {lv = lv} c o m i =
      record {
        by = by;
        quiet = quiet_none g (Shows l) (GivesBack l) o ws;
        wiped = λ b low s k le.
            wiped b low k le;
      }
    where
      wiped : (b : OState) (low : Option ℕ) (k : ℕ) → k ≤ zero
          → Wipes g (crossings l k b o) (trace l k o).items (m low)
      wiped b low zero le = nothing_yet b o (m low)
      wiped b low (suc k) le = absurd (omega (arith, le))

      by : (k : ℕ) → k ≤ zero → Agrees c (trace l k o) m
      by zero le = subst (λ t. Agrees c t m) (sym (trace_none o i)) (stopped c m)
      by (suc k) le = absurd (omega (arith, le))

  trace_goes : (k n : ℕ) (e : Option Event) (o q : OState) → Makes l n e o q
      → trace l (suc k) o ≡ shown (event_outs l q e) (event_items l q e) n (trace l k q)
  unfolding trace
  trace_goes k n e o q m =
      ap (λ x. show l o x (trace l k)) m.goes_on
      ∙ ap (λ x. shown (event_outs l q x) (event_items l q x)
      (weighed (is_inside l o) (weight_of l o)) (trace l k q)) m.event
      ∙ ap (λ b. shown (event_outs l q e) (event_items l q e)
      (weighed b (weight_of l o))
      (trace l k q)) m.inside
      ∙ ap (λ w. shown (event_outs l q e) (event_items l q e) w (trace l k q)) m.weight

  trace_fails : (k : ℕ) (o : OState) → is_inside l o ≡ true → overlay_step l o ≡ fails
      → trace l (suc k) o ≡ rests (weight_of l o) Failed
  unfolding trace
  trace_fails k o i e = ap (λ x. show l o x (trace l k)) e ∙ ap (λ b. ended l b (weight_of l o) Failed) i

  trace_halts : (k : ℕ) (o : OState) → is_inside l o ≡ true → overlay_step l o ≡ halts
      → trace l (suc k) o ≡ rests (weight_of l o) (HaltedWith ((flat_view l o).reg A0))
  unfolding trace
  trace_halts k o i e =
      ap (λ x. show l o x (trace l k)) e
      ∙ ap (λ b. ended l b (weight_of l o) (HaltedWith ((flat_view l o).reg A0))) i

  pub fewer : {ws : List OState} {lv : Live} (n c : ℕ) (o : OState) (m : Comp) → UpTo g ws lv (suc n) c o m
      → UpTo g ws lv n c o m
  fewer {ws = ws} {lv = lv} n c o m u = record {
    by = λ k le. u.by k (omega (arith, le));
    quiet = quiet_fewer g (Shows l) (GivesBack l) o ws n (suc n) (omega arith) u.quiet;
    wiped = λ b low s k le. u.wiped b low s k (omega (arith, le));
  }

  pub spend : {ws : List OState} {lv : Live} (n b c : ℕ) (o : OState) (m : Comp) → b ≤ c
      → UpTo g ws lv n b o m → UpTo g ws lv n c o m
  spend n b c o m le u =
      record { by = λ k h. weaker b c (trace l k o) m le (u.by k h); quiet = u.quiet; wiped = u.wiped }

  pub tick_up : {ws : List OState} {lv : Live} (n c : ℕ) (o : OState) (m : Comp)
      → UpTo g ws lv n (c + 200) o m
      → UpTo g ws lv n c o (tick m)
  tick_up n c o m u = record {
    by = λ k h. ticked c (trace l k o) m (u.by k h);
    quiet = u.quiet;
    wiped = λ b low s k le. wipes_tick g (crossings l k b o) (trace l k o).items low m (u.wiped b low s k le);
  }

  pub ticks_up : {ws : List OState} {lv : Live} (j n c : ℕ) (o : OState) (m : Comp)
      → UpTo g ws lv n (c + j * 200) o m
      → UpTo g ws lv n c o (ticks j m)
  ticks_up j n c o m u = record {
    by = λ k h. ticked_many j c (trace l k o) m (u.by k h);
    quiet = u.quiet;
    wiped = λ b low s k le. wipes_ticks g (crossings l k b o) (trace l k o).items low j m
        (u.wiped b low s k le);
  }

  -- live cells are taken for others
  pub as_live : {ws : List OState} (lv lw : Live) (n c : ℕ) (o : OState) (m : Comp) → Carries g lv o lw o
      → UpTo g ws lw n c o m → UpTo g ws lv n c o m
  as_live lv lw n c o m carries u = record {
    by = u.by;
    quiet = u.quiet;
    wiped = λ b low s k le. u.wiped b low
        (record { inside = λ i. carries b low (s.inside i); outside = s.outside }) k le;
  }

  -- it is told that cells are wiped from one on
  pub wipes_up : {ws : List OState} {lv lw : Live} (j n c : ℕ) (o : OState) (m : Comp) → is_inside l o ≡ true
      → ((b : OState) (low : Option ℕ) → Clean g b low lv o → Clean g b (Some (lower OWord Back low j)) lw o)
      → UpTo g ws lw n c o m → UpTo g ws lv n c o (telling.wipes j m)
  wipes_up j n c o m io carries u = record {
    by = λ k h. agrees_wiped j c (trace l k o) m (u.by k h);
    quiet = u.quiet;
    wiped = λ b low s k le. u.wiped b (Some (lower OWord Back low j)) (record {
      inside = λ i. carries b low (s.inside i);
      outside = λ e. absurd (let bad : true ≡ false = sym io ∙ e in cc);
    }) k le;
  }

  crosses_silent : (k : ℕ) (b : OState) (e : Option Event) (o q : OState) → overlay_step l o ≡ goes q
      → step_event l o q ≡ e → is_inside l o ≡ true → event_outs l q e ≡ [] → crossings l (suc k) b o
      ≡ crossings l k b q
  crosses_silent k b e o q st ev io eo =
      cross_more l k b o (goes q) st
      ∙ ap (λ x. crossed b q x ++ crossings l k (last_outside (is_inside l o) b o) q)
      (ap (event_outs l q) ev ∙ eo)
      ∙ ap (λ x. crossings l k (last_outside x b o) q) io

  crosses_out : (k : ℕ) (b : OState) (e : Option Event) (x : Shown) (o q : OState) → overlay_step l o ≡ goes q
      → step_event l o q ≡ e → is_inside l o ≡ true → event_outs l q e ≡ x ∷ []
      → crossings l (suc k) b o ≡ record { before = b; behind = q } ∷ crossings l k b q
  crosses_out k b e x o q st ev io eo =
      cross_more l k b o (goes q) st
      ∙ ap (λ y. crossed b q y ++ crossings l k (last_outside (is_inside l o) b o) q)
      (ap (event_outs l q) ev ∙ eo)
      ∙ ap (λ y. record { before = b; behind = q } ∷ crossings l k (last_outside y b o) q) io

  -- a step that shows nothing, after which one fewer is left
  pub go_silent : {ws vs : List OState} {lv lw : Live} (n w c : ℕ) (e : Option Event) (o q : OState)
      (m : Comp) → Makes l w e o q
      → event_outs l q e ≡ [] → event_items l q e ≡ [] → is_inside l q ≡ true
      → Carries g lv o lw q → ((a : OState) → Among ws a → Among vs a ⊎ (depth q < depth a))
      → UpTo g vs lw n c q m → UpTo g ws lv (suc n) (w + c) o m
  go_silent {ws = ws} {vs = vs} {lv = lv} {lw = lw} n w c e o q m k eo ei iq carries owed u = record {
    by = by;
    quiet = quiet_step g (Shows l) (GivesBack l) n ws vs o q k.goes_on k.inside iq owed u.quiet;
    wiped = wiped;
  }
    where
      shows : (j : ℕ) → trace l (suc j) o ≡ shown [] [] w (trace l j q)
      shows j =
          trace_goes j w e o q k ∙ ap (λ x. shown x (event_items l q e) w (trace l j q)) eo
          ∙ ap (λ x. shown [] x w (trace l j q)) ei

      wiped : (b : OState) (low : Option ℕ) → Since g b low lv o → (j : ℕ) → j ≤ suc n
          → Wipes g (crossings l j b o) (trace l j o).items (m low)
      wiped b low s zero le = nothing_yet b o (m low)
      wiped b low s (suc j) le =
          subst (λ x. Wipes g x (trace l (suc j) o).items (m low))
          (sym (crosses_silent j b e o q k.goes_on k.event k.inside eo))
          (subst (λ x. Wipes g (crossings l j b q) x (m low)) (sym (ap (λ t. t.items) (shows j)))
          (u.wiped b low (record {
            inside = λ i. carries b low (s.inside k.inside);
            outside = λ i. absurd (let bad : true ≡ false = sym iq ∙ i in cc);
          }) j (omega (arith, le))))

      by : (j : ℕ) → j ≤ suc n → Agrees (w + c) (trace l j o) m
      by zero le = subst (λ t. Agrees (w + c) t m) (sym (trace_none o k.inside)) (stopped (w + c) m)
      by (suc j) le =
          subst (λ t. Agrees (w + c) t m) (sym (shows j)) (unseen w c _ m (u.by j (omega (arith, le))))

  pub go_on : {ws : List OState} {lv lw : Live} (n w c : ℕ) (o q : OState) (m : Comp) → Makes l w None o q
      → is_inside l q ≡ true
      → Carries g lv o lw q → UpTo g ws lw n c q m → UpTo g ws lv (suc n) (w + c) o m
  go_on n w c o q m k iq carries u = go_silent n w c None o q m k refl refl iq carries (λ a h. inl h) u

  -- one step that is an outgoing event
  pub go_out : {ws vs : List OState} {lv : Live} (n w c : ℕ) (e : Option Event)
      (out : Option ℕ → telling.Event) (x : Shown) (o q : OState) (m : Comp) → Makes l w e o q
      → ((low : Option ℕ) → shown_of (out low) ≡ x) → ((low : Option ℕ) → low_of (out low) ≡ low)
      → event_outs l q e ≡ x ∷ [] → event_items l q e ≡ []
      → is_inside l q ≡ false → Shows l o q
      → ((b : OState) (low : Option ℕ) → Clean g b low lv o → Wiped g low b q)
      → ((a : OState) → Among ws a → (part : ℕ) → step_event l o q ≡ Some (Left part) → depth q ≡ depth a
      → GivesBack l a q) → ((a : OState) → Among ws a → Among vs a ⊎ (depth q ≤ depth a))
      → UpTo g vs none n c q m
      → UpTo g ws lv (suc n) (w + c) o (emit out m)
  go_out {ws = ws} {vs = vs} {lv = lv} n w c e out xs o q m k alike tells eo ei iq sh wipes pays
      owed u = record {
        by = by;
        quiet = quiet_out g (Shows l) (GivesBack l) n ws vs o q k.goes_on k.inside iq sh pays owed u.quiet;
        wiped = wiped;
      }
    where
      shows : (j : ℕ) → trace l (suc j) o ≡ shown (xs ∷ []) [] w (trace l j q)
      shows j =
          trace_goes j w e o q k ∙ ap (λ x. shown x (event_items l q e) w (trace l j q)) eo
          ∙ ap (λ x. shown (xs ∷ []) x w (trace l j q)) ei

      wiped : (b : OState) (low : Option ℕ) → Since g b low lv o → (j : ℕ) → j ≤ suc n
          → Wipes g (crossings l j b o) (trace l j o).items (emit out m low)
      wiped b low s zero le = nothing_yet b o (emit out m low)
      wiped b low s (suc j) le =
          subst (λ x. Wipes g x (trace l (suc j) o).items (emit out m low))
          (sym (crosses_out j b e xs o q k.goes_on k.event k.inside eo))
          (subst (λ x. Wipes g (record { before = b; behind = q } ∷ crossings l j b q) x (emit out m low))
          (sym (ap (λ t. t.items) (shows j)))
          (wipes_said g (crossings l j b q) (trace l j q).items low out m b q tells
          (wipes b low (s.inside k.inside))
          (u.wiped b None (record {
            inside = λ i. absurd (let bad : true ≡ false = sym i ∙ iq in cc);
            outside = λ i. refl;
          }) j (omega (arith, le)))))

      by : (j : ℕ) → j ≤ suc n → Agrees (w + c) (trace l j o) (emit out m)
      by zero le =
          subst (λ t. Agrees (w + c) t (emit out m)) (sym (trace_none o k.inside))
          (stopped (w + c) (emit out m))
      by (suc j) le =
          subst (λ t. Agrees (w + c) t (emit out m)) (sym (shows j))
          (seen w c out xs _ m alike (u.by j (omega (arith, le))))

  -- the step that fails, and the one that halts
  pub go_fail : {ws : List OState} {lv : Live} (n c : ℕ) (o : OState) → is_inside l o ≡ true
      → overlay_step l o ≡ fails
      → weight_of l o ≤ c → UpTo g ws lv n c o (ends Fail)
  go_fail {ws = ws} {lv = lv} n c o i e le = record {
    by = by;
    quiet = quiet_ended g (Shows l) (GivesBack l) o ws n (λ q s. fails_not q (sym e ∙ s));
    wiped = λ b low s k le. wiped b low k;
  }
    where
      wiped : (b : OState) (low : Option ℕ) (k : ℕ)
          → Wipes g (crossings l k b o) (trace l k o).items (ends Fail low)
      wiped b low zero = nothing_yet b o (ends Fail low)
      wiped b low (suc k) = nothing_more k b o fails e refl (ends Fail low)

      by : (j : ℕ) → j ≤ n → Agrees c (trace l j o) (ends Fail)
      by zero h = subst (λ t. Agrees c t (ends Fail)) (sym (trace_none o i)) (stopped c (ends Fail))
      by (suc j) h =
          subst (λ t. Agrees c t (ends Fail)) (sym (trace_fails j o i e)) (agrees_fail c (weight_of l o) le)

  pub go_halt : {ws : List OState} {lv : Live} (n c : ℕ) (v : ℤ) (o : OState) → is_inside l o ≡ true
      → overlay_step l o ≡ halts
      → weight_of l o ≤ c → (flat_view l o).reg A0 ≡ Int v → UpTo g ws lv n c o (ends (Halt v))
  go_halt {ws = ws} {lv = lv} n c v o i e le a = record {
    by = by;
    quiet = quiet_ended g (Shows l) (GivesBack l) o ws n (λ q s. halts_not q (sym e ∙ s));
    wiped = λ b low s k le. wiped b low k;
  }
    where
      wiped : (b : OState) (low : Option ℕ) (k : ℕ)
          → Wipes g (crossings l k b o) (trace l k o).items (ends (Halt v) low)
      wiped b low zero = nothing_yet b o (ends (Halt v) low)
      wiped b low (suc k) = nothing_more k b o halts e refl (ends (Halt v) low)

      by : (j : ℕ) → j ≤ n → Agrees c (trace l j o) (ends (Halt v))
      by zero h = subst (λ t. Agrees c t (ends (Halt v))) (sym (trace_none o i)) (stopped c (ends (Halt v)))
      by (suc j) h =
          subst (λ t. Agrees c t (ends (Halt v))) (sym (trace_halts j o i e))
          (agrees_halt c (weight_of l o) ((flat_view l o).reg A0) v a le)

  -- ---- what is wanted of runs

  -- cells may be set that are live, or no free ones
  abbrev pub MaySet : Live → ℕ → Type 0
  MaySet lv a = IsFreeAt g a → (lv.top < a + lv.words) × (a ≤ lv.top)

  pub sets_clean : (lv : Live) (o q : OState) → Sets (MaySet lv) o q → Carries g lv o lv q
  sets_clean lv o q (no_cell same) b low h = clean_same g b low lv o q same h
  sets_clean lv o q (one_cell a x may set) b low h =
      clean_set g b low lv o q a x set (λ b free out e. apart b free out e) h
    where
      apart : (b : ℕ) → IsFreeAt g b → NotIn lv b → b ≡ a → ⊥
      apart b free (inl low) e =
          let m = may (subst (IsFreeAt g) e free) in
          let m0 = m.0 in absurd (omega (arith, low, e, m0))
      apart b free (inr high) e =
          let m = may (subst (IsFreeAt g) e free) in
          let m1 = m.1 in absurd (omega (arith, high, e, m1))

  abbrev pub upto : List OState → Live → ℕ → Comp → RunsOn l
  upto ws lv n m = record {
    Good = λ c o. UpTo g ws lv n c o m;
    May = MaySet lv;
    spend = λ b c o le u. spend n b c o m le u;
    go_on = λ w c o q k iq s u. fewer n (w + c) o m (go_on n w c o q m k iq (sets_clean lv o q s) u);
  }

  abbrev pub failing : List OState → Live → ℕ → Failing l
  failing ws lv n = record { runs = upto ws lv n (ends Fail); stop = λ c o i e le. go_fail n c o i e le }

  abbrev pub halting : List OState → Live → ℕ → (v : ℤ) → Halting l v
  halting ws lv n v =
      record { runs = upto ws lv n (ends (Halt v)); halt = λ c o i e le a. go_halt n c v o i e le a }
