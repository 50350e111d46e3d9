-- From the agreement of every run of so many steps to what is said at each matched point.
use Rattle.std.proofs.Common.{◌≡◌, ℕ, zero, suc, ◌+◌, ◌≤◌, ℤ, Bool, true, false, List, [], ◌++◌, append_assoc}
use Rattle.std.proofs.Common.{append-nil, refl, sym, ap, ◌∙◌, subst, arith}
use Rattle.cap_words.specs.declared.Word.TheVariants.{Int}
use Rattle.lcm_isa.specs.declared.Reg.TheVariants.{A0}
use Rattle.trusted_border.specs.declared.layout.Layout.{Layout}
use Rattle.overlay_machine.specs.State.{OState}
use Rattle.overlay_machine.specs.Step.{goes, halts, fails, overlay_step, weight_of}
use Rattle.overlay_machine.specs.Events.{step_event}
use Rattle.overlay_machine.specs.Starting.{overlay_at}
use Rattle.run_lines.specs.Layout.{layout}
use Rattle.run_lines.specs.Views.{flat_view}
use Rattle.proc_semantics.specs.Values.{World}
use Rattle.source_events.specs.declared.Item.{Item}
use Rattle.source_events.specs.declared.End.TheVariants.{Halt as Halted, Waiting}
use Rattle.source_events.specs.Outs.{OutLine, out_lines, LeaveIntegers}
use Rattle.proc_semantics.specs.Told.{Comp}
use Rattle.proc_semantics.specs.Meaning.{meaning}
use Rattle.source_laws.specs.Trace.{Running, Outside, HaltedWith, Failed, rests, shown, event_outs}
use Rattle.source_laws.specs.Trace.{event_items, standing, ended, weighed, show, trace, Trace, Final}
use Rattle.template_runs.specs.Runs.{is_inside}
use Rattle.source_laws.specs.Good.{MeaningAgrees}
use Rattle.source_laws.specs.Sources.{RunShows, none_yet, and_then, MeaningEnds, MeaningBegins, MeaningTakes}
use Rattle.source_laws.specs.Sources.{MeansAt, AgreeingRunsMean}
use Rattle.source_laws.proofs.Integers.{where_ends, where_begins}

shown_shown : (es fs : List OutLine) (is ks : List Item) (n m : ℕ) (t : Trace)
    → shown es is n (shown fs ks m t) ≡ shown (es ++ fs) (is ++ ks) (n + m) t
shown_shown es fs is ks n m t =
    let w : n + m + t.weight ≡ n + (m + t.weight) = omega arith in
    rw (append_assoc es fs t.out, append_assoc is ks t.items, w)

module _ (l : Layout) where
  trace_step : (k : ℕ) (p q : OState) → overlay_step l p ≡ goes q
      → trace l (suc k) p ≡ shown (event_outs l (flat_view l q) (step_event l p q))
      (event_items l (flat_view l q) (step_event l p q)) (weighed (is_inside l p) (weight_of l p))
      (trace l k q)
  unfolding trace
  trace_step k p q e = ap (λ x. show l p x (trace l k)) e

  -- a run shows what its first steps show, and then the rest
  pub shows_trace : (o : OState) (j n : ℕ) (es : List OutLine) (is : List Item) (p : OState)
      → RunShows l o j n es is p → (i : ℕ) × ((k : ℕ) → trace l (i + k) o ≡ shown es is n (trace l k p))
  shows_trace o _ _ _ _ _ none_yet = (
    0,
    λ k. (let z : 0 + k ≡ k = omega arith in
        let w : (trace l k o).weight ≡ 0 + (trace l k o).weight = omega arith in ap (λ x. trace l x o) z
        ∙ ap (λ x. record {
          out = (trace l k o).out;
          items = (trace l k o).items;
          weight = x;
          final = (trace l k o).final;
        }) w),
  )
  shows_trace o _ _ _ _ q (and_then {j = j} {n = n} {es = es} {is = is} {p = p} s e) =
      let r = shows_trace o j n es is p s in (
        r.0 + 1,
        λ k. (
            let a : r.0 + 1 + k ≡ r.0 + suc k = omega arith in
            ap (λ x. trace l x o) a ∙ r.1 (suc k) ∙ ap (shown es is n) (trace_step k p q e)
            ∙ shown_shown es (event_outs l (flat_view l q) (step_event l p q)) is
            (event_items l (flat_view l q) (step_event l p q)) n (weighed (is_inside l p) (weight_of l p))
            (trace l k q)
            ),
      )

  trace_rests : (p : OState) → trace l zero p ≡ standing l (is_inside l p)
  unfolding trace
  trace_rests p = refl

  trace_halts : (p : OState) → is_inside l p ≡ true → overlay_step l p ≡ halts
      → trace l (suc zero) p ≡ rests (weight_of l p) (HaltedWith ((flat_view l p).reg A0))
  unfolding trace
  trace_halts p i e = ap (λ x. show l p x (trace l zero)) e
      ∙ ap (λ b. ended l b (weight_of l p) (HaltedWith ((flat_view l p).reg A0))) i

  trace_fails : (p : OState) → is_inside l p ≡ true → overlay_step l p ≡ fails
      → trace l (suc zero) p ≡ rests (weight_of l p) Failed
  unfolding trace
  trace_fails p i e = ap (λ x. show l p x (trace l zero)) e ∙ ap (λ b. ended l b (weight_of l p) Failed) i

module _ (world : World) (stack : ℕ) (l : Layout) (o : OState)
    (all : (k : ℕ) → MeaningAgrees 0 (trace l k o) (λ fuel feed. meaning world stack feed fuel)) where
  M : Comp
  M fuel feed = meaning world stack feed fuel

  module _ (j n : ℕ) (es : List OutLine) (is : List Item) (p : OState) (s : RunShows l o j n es is p) where
    -- what is said of the run that ends after these steps, with what comes next
    agrees_at : (k m : ℕ) (f : Final) → trace l k p ≡ rests m f
        → MeaningAgrees 0 (record { out = es; items = is; weight = n + m; final = f })
        (λ fuel feed. meaning world stack feed fuel)
    agrees_at k m f e =
        let r = shows_trace l o j n es is p s in
        let shown_is : trace l (r.0 + k) o ≡ record { out = es; items = is; weight = n + m; final = f } =
        r.1 k ∙ ap (shown es is n) e
        ∙ ap (λ x. record { out = x; items = is ++ []; weight = n + m; final = f }) (append-nil es)
        ∙ ap (λ x. record { out = es; items = x; weight = n + m; final = f }) (append-nil is) in
        subst (λ t. MeaningAgrees 0 t (λ fuel feed. meaning world stack feed fuel)) shown_is (all (r.0 + k))

    long : (m : ℕ) (f : Final)
        → MeaningAgrees 0 (record { out = es; items = is; weight = m; final = f })
        (λ fuel feed. meaning world stack feed fuel) → MeaningTakes world stack is es m
    long m f a x lt = a.slow x (omega (arith, lt))

    waits_there : is_inside l p ≡ false → MeaningEnds world stack is es Waiting
    waits_there i =
        let a = agrees_at 0 0 Outside (trace_rests l p ∙ ap (standing l) i) in
        record { enough = a.enough; ends = λ f le. (a.fits f le).0; told = λ f le. (a.fits f le).1 }

    goes_on_there : is_inside l p ≡ true → MeaningBegins world stack is es
    goes_on_there i =
        let a = agrees_at 0 0 Running (trace_rests l p ∙ ap (standing l) i) in
        record { enough = a.enough; begins = λ f le. a.fits f le }

    integers_there : (b : Bool) → is_inside l p ≡ b → LeaveIntegers es
    integers_there false i = where_ends world stack is es Waiting (waits_there i)
    integers_there true i = where_begins world stack is es (goes_on_there i)

    pub means_at : MeansAt world stack l n es is p
    means_at = record {
      waits = waits_there;
      halts = λ i e. (
          let a = agrees_at 1 (weight_of l p) (HaltedWith ((flat_view l p).reg A0)) (trace_halts l p i e) in
          let b = a.fits a.enough (omega arith) in (
            b.0,
            b.1,
            record {
              enough = a.enough;
              ends = λ f le. (halted a b.0 b.1 f le).0;
              told = λ f le. (halted a b.0 b.1 f le).1;
            },
            long (n + weight_of l p) _ a,
          )
          );
      fails = λ i e. (
          let a = agrees_at 1 (weight_of l p) Failed (trace_fails l p i e) in (
            record { enough = a.enough; ends = λ f le. (a.fits f le).0; told = λ f le. (a.fits f le).1 },
            long (n + weight_of l p) _ a,
          )
          );
      goes_on = goes_on_there;
      slow = (λ x lt. slow_by (is_inside l p) refl x lt);
      integers = integers_there (is_inside l p) refl;
    }
      where
        halted : (a : MeaningAgrees 0
            (record {
              out = es;
              items = is;
              weight = n + weight_of l p;
              final = HaltedWith ((flat_view l p).reg A0);
            }) (λ fuel feed. meaning world stack feed fuel))
            (v : ℤ) → (flat_view l p).reg A0 ≡ Int v
            → (f : ℕ) → a.enough ≤ f → ((meaning world stack is f).end ≡ Halted v)
            × (out_lines (meaning world stack is f).events ≡ es)
        halted a v e f le =
            let b = a.fits f le in
            let same : Int b.0 ≡ Int v = sym b.1 ∙ e in
            let w : b.0 ≡ v = cc in
            (b.2 ∙ ap Halted w, b.3)

        slow_by : (b : Bool) → is_inside l p ≡ b → MeaningTakes world stack is es n
        slow_by true i x lt =
            (agrees_at 0 0 Running (trace_rests l p ∙ ap (standing l) i)).slow x (omega (arith, lt))
        slow_by false i x lt =
            (agrees_at 0 0 Outside (trace_rests l p ∙ ap (standing l) i)).slow x (omega (arith, lt))

-- from a start
pub agreeing_runs : AgreeingRunsMean
agreeing_runs world stack s all j n es is p shows =
    means_at world stack (layout s) (overlay_at s).state all j n es is p shows
