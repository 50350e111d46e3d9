-- The outer induction, on the number of steps of the overlay: procedures, waits and ends, given the bodies.
use Rattle.std.proofs.Common.{Option, ◌≡◌, inl, inr, ℕ, zero, suc, ◌<◌, ℤ, pos, List, [], Some}
use Rattle.std.proofs.Common.{None, refl, sym, ◌∙◌, subst, arith, true, false}
use Rattle.source_laws.specs.Good as good
use Rattle.source_laws.specs.Trace as lines
use Rattle.proc_semantics.specs.Meaning as plain
use Rattle.source_laws.specs.Words.{WordsTold}
use Rattle.source_laws.proofs.Scenes.{Scene}
use Rattle.source_laws.proofs.Forgets.{Starts, forgets, traces, words_told}
use Rattle.std.specs.Prelude.{map}
use Rattle.std.proofs.lemmas.Bool.{cases_eq}
use Rattle.trusted_border.specs.declared.events.Back.TheVariants.{Out as OutBack, Bad, Hop}
use Rattle.trusted_border.specs.Reaches.{back_of}
use Rattle.overlay_machine.specs.declared.words.OWord.{OWord}
use Rattle.overlay_machine.specs.declared.words.OWord.TheVariants.{Plain}
use Rattle.cap_words.specs.declared.Word.TheVariants.{Int, Mem}
use Rattle.overlay_machine.specs.Words.{look}
use Rattle.overlay_machine.specs.Safe.{IsSafe}
use Rattle.overlay_machine.specs.Starting.{overlay_at}
use Rattle.linked_starts.specs.Started.{StartSeen}
use Rattle.run_lines.specs.Layout.{layout}
use Rattle.call_sequence.specs.Holds.{data_cap}
use Rattle.overlay_machine.specs.State.{OState}
use Rattle.overlay_machine.specs.Link.{ranges_of}
use Rattle.linked_starts.specs.Parts.{PartSeen}
use Rattle.source_laws.proofs.Refined.{main_of, Comp, ends, meaning, no_registers, start, whole, starts}
use Rattle.proc_semantics.specs.declared.value.Target.{Target}
use Rattle.proc_program.specs.declared.program.Program.{Program}
use Rattle.proc_program.specs.declared.program.Procedure.{Procedure}
use Rattle.source_events.specs.declared.End.TheVariants.{Fail as Fails, OutOfFuel}
use Rattle.proc_semantics.specs.declared.value.Value.{Value}
use Rattle.source_laws.specs.Seen.{trace, Trace, events_of}
use Rattle.source_laws.specs.Sources.{MeansAlways}
use Rattle.source_laws.proofs.Sum.{agreeing_runs}
use Rattle.source_laws.proofs.Follows.{Fits, Agrees, Prefix}
use Rattle.template_runs.specs.Border.{Shows, GivesBack}
use Rattle.template_runs.proofs.Offers.{Live, none, untold, ended, clean_first, Quiet, Valid, At}
use Rattle.template_runs.proofs.Offers.{inside_here, Out, outside_here, DataIs, weight_small, Tells}
use Rattle.template_runs.proofs.Offers.{fails_bad, goes_out, tells, goes_in, Named}
use Rattle.source_laws.specs.Secrets.{LeavesNothing}
use Rattle.source_laws.proofs.Upto.{UpTo, Since, go_fail, stack_top}
use Rattle.source_laws.proofs.Wipes.{Wipes, Tell, crossings}
use Rattle.source_laws.specs.Wiped.{WipedAlways}
use Rattle.source_laws.proofs.Wiped.{leaves_nothing, wiped_always}
use Rattle.source_laws.proofs.CallsIn.{EntryPublic, AtEnd, ProcLaw, left_now}
use Rattle.source_laws.proofs.Meanwhile.{Meets, runs_none, ends_none}
use Rattle.source_laws.proofs.Idle.{no_call, IdleLaw, IdleLeaveLaw, idle_law, idle_leave_law}
use Rattle.source_laws.proofs.Procs.{Proc, proc_law}
use Rattle.source_laws.proofs.Waiting.{WaitLaw, LeaveLaw, call_waits, wait_law}
use Rattle.source_laws.proofs.Leaving.{Rest, leave_law}

module _ (scene : Scene) where
  open scene use {world, g, linked, Begins, StoreIs, RegsAre}

  -- the overlay of a start: in the first shared main of the modules, with the whole stack, or outside
  pub data Starting (stack : ℕ) (mem : ℕ → OWord) (o : OState) : Type 0 where
    in_main : (t : Target) (p : PartSeen) (e : ℕ) → main_of world ≡ Some t → Begins t p e → Valid g linked o
        → At g linked p e o → look o.maps.regs.dat ≡ Mem (data_cap (ranges_of p) (pos p.component.data_base))
        → IsSafe g o.frames o.maps.regs.stk → EntryPublic scene o
        → RegsAre (no_registers world) o → left_now scene o ≡ Some stack
        → o.maps.regs.rcode ≡ Plain (Int (pos 0)) → o.maps.regs.rdata ≡ Plain (Int (pos 0))
        → Starting stack mem o
    outside_main : main_of world ≡ None → Out g linked o → o.frames ≡ [] → Starting stack mem o

module _ (scene : Scene)
    (EnvIs : Procedure → List (Option OWord) → List Value → List OWord → Type 0)
    (named : Named scene.g) (meets : Meets scene named)
    (rest : Rest scene named) where
  open scene use {world, g, linked, Begins, StoreIs, RegsAre}

  pub record Laws (n : ℕ) : Type 0 where
    pub procs : ProcLaw scene n
    pub waits : WaitLaw scene n
    pub leaves : LeaveLaw scene n
    pub idles : IdleLaw scene n
    pub idle_leaves : IdleLeaveLaw scene n

  -- each procedure's checks and body, where all laws hold of fewer steps
  abbrev pub Bodies : Type 0
  Bodies = (n : ℕ) → ((m : ℕ) → m < n → Laws m) → (t : Target) (p : PartSeen) (e : ℕ) → Begins t p e
      → Proc scene EnvIs n t p e

  more : (n : ℕ) → ((m : ℕ) → m < n → Laws m) → Laws n → (m : ℕ) → m < suc n → Laws m
  more n below here m lt = elim (cases_eq m n) as (λ _. Laws m) [
    | inl e ↦ subst Laws (sym e) here
    | inr ne ↦ below m (omega (arith, ne, lt))
  ]

  -- up to a number of steps, and below it
  pub record Both (n : ℕ) : Type 0 where
    pub below : (m : ℕ) → m < n → Laws m
    pub here : Laws n

  pub both : Bodies → (n : ℕ) → Both n
  both bodies zero =
      let none : (m : ℕ) → m < 0 → Laws m = λ m lt. absurd (omega (arith, lt)) in
      record {
        below = none;
        here = record {
          procs = proc_law scene EnvIs zero (bodies zero none);
          waits = λ c w f fs ow for back. runs_none scene c (call_waits scene w f fs ow);
          leaves = λ c w f fs ow for back. ends_none scene c (call_waits scene w f fs ow);
          idles = λ c. runs_none scene c (no_call scene);
          idle_leaves = λ c. ends_none scene c (no_call scene);
        };
      }
  both bodies (suc n) =
      let b = both bodies n in
      let below = more n b.below b.here in
      let l = b.here in
      record {
        below = below;
        here = record {
          procs = proc_law scene EnvIs (suc n) (bodies (suc n) below);
          waits = wait_law scene named meets n l.procs l.leaves l.waits;
          leaves = leave_law scene named n rest meets l.procs l.leaves l.waits;
          idles = idle_law scene named meets n l.procs l.idle_leaves l.idles;
          idle_leaves = idle_leave_law scene named meets n l.procs
              l.idle_leaves l.idles;
        };
      }

  -- all laws, for runs of any number of steps
  pub all : Bodies → (n : ℕ) → Laws n
  all bodies n = (both bodies n).here

  -- ---- from a start

  agrees_start : (stack : ℕ) (t : Trace)
      → Agrees 0 t (start world (whole world) stack (main_of world)
      (map (λ (u : Program). u.globals) world.parts))
      → Starts world stack t
  agrees_start stack t a = record {
    enough = a.enough;
    fits = λ f le. subst (Fits t.final t.out) (starts world stack t.items f) (a.fits None f le);
    slow = λ f lt. subst (λ x. (x.end ≡ OutOfFuel) × Prefix (events_of x) t.out)
        (starts world stack t.items f)
        (a.slow None f lt);
  }

  -- the return of main fails
  main_ends : (n : ℕ) (p : PartSeen) (o q : OState) (v : ℤ) (mem : ℕ → OWord)
      → (a : AtEnd scene p o q v mem) → o.maps.regs.rcode
      ≡ Plain (Int (pos 0))
      → o.maps.regs.rdata ≡ Plain (Int (pos 0)) → UpTo g [] (ended a.top) n 100 q (ends Fails)
  main_ends n p o q v mem a ec ed =
      by (tells g linked named a.part a.offset q a.valid a.at a.jump (Int (pos 0)) (Int (pos 0)) (a.code ∙ ec)
      (a.half ∙ ed) a.safe)
    where
      by : Tells g linked named a.part a.offset q a.valid a.at a.jump (Int (pos 0)) (Int (pos 0))
          (a.code ∙ ec) (a.half ∙ ed) a.safe → UpTo g [] (ended a.top) n 100 q (ends Fails)
      by (fails_bad b s) = let small = weight_small g linked a.part a.offset q a.valid a.at a.jump in
          go_fail g n 100 q (inside_here g linked a.part a.offset q a.at) s (omega (arith, small))
      by (goes_out q' b l) = absurd (bad_out b)
        where
          bad_out : back_of g.layout (Int (pos 0)) (Int (pos 0)) ≡ OutBack → ⊥
          bad_out e = let z : Bad ≡ OutBack = e in cc
      by (goes_in q' r ir e bg b l) = absurd (bad_hop _ _ b)
        where
          bad_hop : (part j : ℕ) → back_of g.layout (Int (pos 0)) (Int (pos 0)) ≡ Hop part j → ⊥
          bad_hop part j e = let z : Bad ≡ Hop part j = e in cc

  abbrev begun : ℕ → Comp
  begun stack = start world (whole world) stack (main_of world) (map (λ (u : Program). u.globals) world.parts)

  -- what is live at the start: nothing
  abbrev live_at : {stack : ℕ} {mem : ℕ → OWord} {o : OState}
      → Starting scene stack mem o → Live
  live_at {o = o} (in_main t p e is begins v at dat safe public regs left ec ed) = untold 0 (stack_top g o)
  live_at (outside_main is h fr) = none

  pub upto_start : Bodies → (stack : ℕ) (mem : ℕ → OWord) (o : OState) → DataIs g linked mem o.maps.cells
      → StoreIs (map (λ (u : Program). u.globals) world.parts) mem
      → (s : Starting scene stack mem o) → (n : ℕ)
      → UpTo g [] (live_at s) n 0 o (begun stack)
  upto_start bodies stack mem o globs store (in_main t p e is begins v at dat safe public regs left ec ed) n =
      let u = (all bodies n).procs t p e 0
      (λ v st. ends Fails) (no_registers world) (map (λ (u : Program). u.globals) world.parts) mem o
      (record { owes = []; deep = λ a m. absurd m }) begins v at dat safe public
      globs store regs (λ val st' mem' q a store'. main_ends n p o q val mem' a ec ed) in
      subst (λ x. UpTo g [] (untold 0 (stack_top g o)) n 0 o
      (start world (whole world) stack x (map (λ (u : Program). u.globals) world.parts))) (sym is)
      (subst (λ l. UpTo g [] (untold 0 (stack_top g o)) n 0 o
      ((whole world).proc t l (no_registers world) (λ v st. ends Fails)
      (map (λ (u : Program). u.globals) world.parts))) left u)
  upto_start bodies stack mem o globs store (outside_main is h fr) n =
      subst (λ x. UpTo g [] none n 0 o
      (start world (whole world) stack x (map (λ (u : Program). u.globals) world.parts))) (sym is)
      ((all bodies n).idles 0 (map (λ (u : Program). u.globals) world.parts) mem o h fr globs store)

  pub from_start : Bodies → (stack : ℕ) (mem : ℕ → OWord) (o : OState) → DataIs g linked mem o.maps.cells
      → StoreIs (map (λ (u : Program). u.globals) world.parts) mem
      → Starting scene stack mem o
      → (k : ℕ) → Starts world stack (trace g.layout k o)
  from_start bodies stack mem o globs store s k =
      agrees_start stack (trace g.layout k o)
      ((upto_start bodies stack mem o globs store s k).by k (omega arith))

  -- the theorem of sources of a start
  pub source_law : Bodies → (stack : ℕ) (s : StartSeen) (mem : ℕ → OWord) → g.layout ≡ layout s
      → DataIs g linked mem (overlay_at s).state.maps.cells
      → StoreIs (map (λ (u : Program). u.globals) world.parts) mem
      → Starting scene stack mem (overlay_at s).state
      → MeansAlways world.parts stack s
  source_law bodies stack s mem same globs store st =
      agreeing_runs world.parts stack s
      (λ k. subst (λ l. good.MeaningAgrees 0 (lines.trace l k (overlay_at s).state)
      (λ fuel feed. plain.meaning world.parts stack feed fuel)) same
      (subst (λ t. good.MeaningAgrees 0 t (λ fuel feed. plain.meaning world.parts stack feed fuel))
      (traces g.layout k (overlay_at s).state)
      (forgets world stack (trace g.layout k (overlay_at s).state)
      (from_start bodies stack mem (overlay_at s).state globs store st k))))

  -- whom sources call, with which words
  pub words_law : Bodies → (stack : ℕ) (s : StartSeen) (mem : ℕ → OWord) → g.layout ≡ layout s
      → DataIs g linked mem (overlay_at s).state.maps.cells
      → StoreIs (map (λ (u : Program). u.globals) world.parts) mem
      → Starting scene stack mem (overlay_at s).state
      → WordsTold world.marks world.parts stack s
  words_law bodies stack s mem same globs store st =
      words_told world stack s
      (λ k. subst (λ l. Starts world stack (trace l k (overlay_at s).state)) same
      (from_start bodies stack mem (overlay_at s).state globs store st k))

  -- what a run of any number of steps from a start shows
  pub quiet_start : Bodies → (stack : ℕ) (mem : ℕ → OWord) (o : OState) → DataIs g linked mem o.maps.cells
      → StoreIs (map (λ (u : Program). u.globals) world.parts) mem
      → Starting scene stack mem o
      → (n : ℕ) → Quiet g (Shows g.layout) (GivesBack g.layout) [] n o
  quiet_start bodies stack mem o globs store s n = (upto_start bodies stack mem o globs store s n).quiet

  -- and what it wipes
  pub wipes_start : Bodies → (stack : ℕ) (mem : ℕ → OWord) (o : OState) → DataIs g linked mem o.maps.cells
      → StoreIs (map (λ (u : Program). u.globals) world.parts) mem
      → Starting scene stack mem o
      → (k : ℕ) → Wipes g (crossings g.layout k o o) (trace g.layout k o).items
      (λ f feed. meaning world stack feed f)
  wipes_start bodies stack mem o globs store s k =
      let w = (upto_start bodies stack mem o globs store s k).wiped o None (since s) k (omega arith) in
      record {
        lows = w.lows;
        wiped = w.wiped;
        enough = w.enough;
        told = λ f le. subst (λ x. Tell w.lows x.events) (starts world stack (trace g.layout k o).items f)
            (w.told f le);
      }
    where
      since : (s : Starting scene stack mem o) → Since g o None (live_at s) o
      since (in_main t p e is begins v at dat safe public regs left ec ed) =
          record { inside = λ i. clean_first g o o (stack_top g o) refl; outside = λ i. refl }
      since (outside_main is h fr) = record {
        inside = λ i. absurd (let bad : true ≡ false = sym i ∙ outside_here g linked o h in cc);
        outside = λ i. refl;
      }

  -- code outside learns nothing but the events
  pub secrets_law : Bodies → (stack : ℕ) (s : StartSeen) (mem : ℕ → OWord) → g.layout ≡ layout s
      → DataIs g linked mem (overlay_at s).state.maps.cells
      → StoreIs (map (λ (u : Program). u.globals) world.parts) mem
      → Starting scene stack mem (overlay_at s).state
      → LeavesNothing g s
  secrets_law bodies stack s mem same globs store st =
      leaves_nothing g s same (quiet_start bodies stack mem (overlay_at s).state globs store st) world stack
      (wipes_start bodies stack mem (overlay_at s).state globs store st)

  -- the cells are wiped that are told of
  pub wiped_law : Bodies → (stack : ℕ) (s : StartSeen) (mem : ℕ → OWord) → g.layout ≡ layout s
      → DataIs g linked mem (overlay_at s).state.maps.cells
      → StoreIs (map (λ (u : Program). u.globals) world.parts) mem
      → Starting scene stack mem (overlay_at s).state
      → WipedAlways g world.parts stack s
  wiped_law bodies stack s mem same globs store st =
      wiped_always g s same (quiet_start bodies stack mem (overlay_at s).state globs store st) world stack
      (wipes_start bodies stack mem (overlay_at s).state globs store st)
