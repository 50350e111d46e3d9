-- Modules that halt with different values mean the same, and don't end the same way.
use Rattle.std.proofs.Common.{◌≡◌, ℕ, zero, suc, ◌+◌, ◌-◌, ◌≤◌, pos, List, [], ◌∷◌, map, length, Option, Some}
use Rattle.std.proofs.Common.{None, refl, sym, ap, ◌∙◌, subst, arith}
use Rattle.cap_words.specs.Names as names
use Rattle.source_events.specs.declared.Item.{Item}
use Rattle.source_events.specs.declared.Item.TheVariants.{Enter, Ret}
use Rattle.source_events.specs.declared.FeedBack.TheVariants as way
use Rattle.source_events.specs.declared.End.{End}
use Rattle.source_events.specs.declared.End.TheVariants.{Halt as Halted, OutOfFuel}
use Rattle.proc_language.specs.Words.{is_source_name, is_reserved}
use Rattle.proc_language.specs.Limits.{IsModule}
use Rattle.proc_names.specs.Names.{variable_named, callee_named, passed_named}
use Rattle.proc_names.specs.NameFaults.{name_faults}
use Rattle.proc_program.specs.declared.program.Program.{Program}
use Rattle.proc_program.specs.declared.program.Procedure.{Procedure}
use Rattle.proc_program.specs.Lower.{part_of}
use Rattle.proc_semantics.specs.declared.value.Target.{Target}
use Rattle.proc_semantics.specs.Told.{repeated}
use Rattle.proc_semantics.specs.Values.{World, Store, target, found, proc_at, main_target, taken}
use Rattle.proc_semantics.specs.Rules.{Then, Level, start, enough, with_place, body_of, begin, proc_of}
use Rattle.proc_semantics.specs.Rules.{entered, by_item, level}
use Rattle.proc_semantics.specs.Marked.{Thing, Event, Whence, Regs, event_to, numbered_items, refined}
use Rattle.proc_semantics.specs.Marked as tagged
use Rattle.same_meanings.specs.Same.{tracing}
use Rattle.same_meanings.specs.Observed.{name_of, observed}
use Rattle.same_meanings.proofs.Offers.{head_of, tick, settled_mean, end_later}
use Rattle.context_instance.specs.Halts.{halts, EndsCount}
use Rattle.context_instance.proofs.Modules.{module_fits}

-- no event is told, under any fuel
abbrev Silent : tracing.Comp → Type 0
Silent m = (low : Option ℕ) (f : ℕ) (feed : List (Thing Whence ℕ)) → (m low f feed).events ≡ []

tick_silent : (m : tracing.Comp) → Silent m → Silent (tick m)
tick_silent m s low zero feed = refl
tick_silent m s low (suc f) feed = s low f feed

ticks_silent : (n : ℕ) (m : tracing.Comp) → Silent m → Silent (repeated tick n m)
ticks_silent zero m s = s
ticks_silent (suc n) m s = tick_silent (repeated tick n m) (ticks_silent n m s)

-- ---- a module without main

-- what is observed of a module without main, by what is told of it
observed_is : (W : World) (size : ℕ) (feed : List Item) (f : ℕ) (es : List (Event Whence ℕ))
    → main_target W ≡ None
    → ((level tracing W (f + length (numbered_items 0 feed) + 1)).wait None (map (λ (u : Program). u.globals)
    W)
    None f
    (numbered_items 0 feed)).events ≡ es
    → observed W size feed f ≡ map (event_to (name_of W) (λ (k : ℕ). k)) es
observed_is W size feed f es none e =
    ap (map (event_to (name_of W) (λ (k : ℕ). k)))
    (ap (λ t.
    (start tracing W (level tracing W (f + length (numbered_items 0 feed) + 1)) size t
    (map (λ (u : Program). u.globals) W) None f
    (numbered_items 0 feed)).events) none ∙ e)

-- of a module without main
end_is : (W : World) (size : ℕ) (feed : List Item) (f : ℕ) (e : End) → main_target W ≡ None
    → ((level tracing W (f + length (numbered_items 0 feed) + 1)).wait None (map (λ (u : Program). u.globals)
    W)
    None f
    (numbered_items 0 feed)).end ≡ e
    → (refined W size feed f).end ≡ e
end_is W size feed f e none x =
    ap (λ t.
    (start tracing W (level tracing W (f + length (numbered_items 0 feed) + 1)) size t
    (map (λ (u : Program). u.globals) W) None f
    (numbered_items 0 feed)).end) none ∙ x

-- ---- the modules

abbrev U : ℕ → Program
U n = part_of (halts n)

abbrev W : ℕ → World
W n = U n ∷ []

abbrev Q : ℕ → Procedure
Q n = head_of (U n).procs

no_main : (n : ℕ) → main_target (W n) ≡ None
unfolding main_target
no_main n = refl

-- ---- nothing is told

body_is : (n home left : ℕ) (l : Level tracing) (rs : Regs Whence ℕ) (k : Then tracing) (st : Store)
    → body_of tracing (W n) l (tracing.frame home left (Q n) rs) (Q n) (taken [] (Q n).callbacks
    (tracing.registers rs)) k st
    ≡ repeated tick 2 (tagged.ends Whence ℕ (Halted (pos n)))
body_is n home left l rs k st = refl

begin_silent : (n home : ℕ) (l : Level tracing) (left : Option ℕ) (rs : Regs Whence ℕ) (k : Then tracing) (st
    : Store)
    → Silent (begin tracing (W n) l home (Q n) left rs k st)
begin_silent n home l left rs k st = by (enough (Q n).need left)
  where
    by : (o : Option ℕ) → Silent (with_place tracing o (λ left. tracing.beginning left (Q n).need
        (body_of tracing (W n) l (tracing.frame home left (Q n) rs) (Q n) (taken [] (Q n).callbacks
        (tracing.registers rs)) k
        st)))
    by None = λ low f feed. refl
    by (Some m) = λ low f feed.
        subst Silent (sym (body_is n home m l rs k st))
        (ticks_silent 2 (tagged.ends Whence ℕ (Halted (pos n))) (λ low f feed. refl))
        (Some (tagged.lower Whence ℕ low (m - (Q n).need))) f feed

-- there is no other procedure
one_proc : (n home j : ℕ) (p : Procedure) → proc_at (W n) (target home j) ≡ Some p → Q n ≡ p
one_proc n zero zero p e = let z : Some (Q n) ≡ Some p = e in cc
one_proc n zero (suc j) p e = absurd (let z : None ≡ Some p = e in cc)
one_proc n (suc home) j p e = absurd (let z : None ≡ Some p = e in cc)

proc_silent : (n d : ℕ) (t : Target) (left : Option ℕ) (rs : Regs Whence ℕ) (k : Then tracing) (st : Store)
    → Silent ((level tracing (W n) d).proc t left rs k st)
proc_silent n zero t left rs k st = λ low f feed. refl
proc_silent n (suc d) t left rs k st = by (proc_at (W n) t) refl
  where
    by : (o : Option Procedure) → proc_at (W n) t ≡ o
        → Silent (proc_of tracing (W n) (level tracing (W n) d) t.home o left rs k st)
    by None e = λ low f feed. refl
    by (Some p) e =
        subst (λ q. Silent (proc_of tracing (W n) (level tracing (W n) d) t.home (Some q) left rs k st))
        (one_proc n t.home t.proc p e)
        (ticks_silent (1 + (Q n).need) _ (begin_silent n t.home (level tracing (W n) d) left rs k st))

item_silent : (n d : ℕ) (st : Store) (x : Thing Whence ℕ) (i : Item)
    → Silent (by_item tracing (W n) (level tracing (W n) d) None st x i)
item_silent n d st x (Ret part site base v) = λ low f feed. refl
item_silent n d st x (Enter p m left ints pairs back) = by (found (W n) p m)
  where
    by : (o : Option Target) → Silent (entered tracing (W n) (level tracing (W n) d) None o x.entry left
        (tracing.fed (W n) x ints pairs) back st)
    by None = λ low f feed. refl
    by (Some t) = proc_silent n d t left (tracing.fed (W n) x ints pairs) _ st

wait_silent : (n d : ℕ) (st : Store) → Silent ((level tracing (W n) d).wait None st)
wait_silent n zero st low f feed = refl
wait_silent n (suc d) st low f [] = refl
wait_silent n (suc d) st low f (x ∷ feed) = item_silent n d st x x.item low f feed

nothing_observed : (n size : ℕ) (feed : List Item) (f : ℕ) → observed (W n) size feed f ≡ []
nothing_observed n size feed f =
    observed_is (W n) size feed f [] (no_main n)
    (wait_silent n (f + length (numbered_items 0 feed) + 1) (map (λ (u : Program). u.globals) (W n)) None f
    (numbered_items 0 feed))

-- ---- how they end

-- f is entered, with as many words as it needs
abbrev entry : List Item
entry = Enter (116 ∷ []) (102 ∷ []) (Some (Q 1).need) [] [] way.Out ∷ []

ends_there : (n d f : ℕ) (st : Store)
    → ((level tracing (W n) (suc (suc (suc d)))).wait None st None
    (suc (suc (suc (suc (suc (suc (suc (suc (suc (suc f)))))))))) (numbered_items 0 entry)).end
    ≡ Halted (pos n)
unfolding found
ends_there n d f st = refl

ends_so : (n size f : ℕ) → 10 ≤ f → (refined (W n) size entry f).end ≡ Halted (pos n)
ends_so n size f le =
    let deep : f + length (numbered_items 0 entry) + 1 ≡ suc (suc (suc (f - 1))) = omega (arith, le) in
    let fuel : f ≡ suc (suc (suc (suc (suc (suc (suc (suc (suc (suc (f - 10)))))))))) = omega (arith, le) in
    end_is (W n) size entry f (Halted (pos n)) (no_main n)
    (ap (λ d. ((level tracing (W n) d).wait None (map (λ (u : Program). u.globals) (W n)) None f
    (numbered_items 0 entry)).end) deep
    ∙ ap (λ g. ((level tracing (W n) (suc (suc (suc (f - 1))))).wait None
    (map (λ (u : Program). u.globals) (W n)) None g (numbered_items 0 entry)).end) fuel
    ∙ ends_there n (f - 1) (f - 10) (map (λ (u : Program). u.globals) (W n)))

limits : (n : ℕ) → n ≤ 2147483647 → IsModule (halts n)
unfolding is_source_name is_reserved names.is_name
limits n le =
    module_fits _ _ _ _ (omega arith) (omega arith, tt) (omega arith, tt)
    (record {
      name = refl;
      params = tt;
      registers = omega arith;
      locals = (omega arith, tt);
      body = (omega (arith, le), tt);
    })

resolved : (n : ℕ) → name_faults (halts n) ≡ []
unfolding callee_named passed_named variable_named
resolved n = refl

pub ends_count : EndsCount
ends_count = record {
  limits = (limits 1 (omega arith), limits 2 (omega arith));
  resolved = (resolved 1, resolved 2);
  same = λ size. settled_mean (W 1) (W 2) size
      (λ feed fits. (0, λ f le. nothing_observed 1 size feed f ∙ sym (nothing_observed 2 size feed f)));
  ends = λ size e. (
      let one = ends_so 1 size 10 (omega arith) in
      let z = e.0 entry entry refl (tt, tt) 10
      (λ out. (let bad : Halted (pos 1) ≡ OutOfFuel = sym one ∙ out in cc)) in
      let two = end_later (W 2) size entry z.0 10 (Halted (pos 1)) (z.1 ∙ one) (λ out. cc) in
      let h : Halted (pos 1) ≡ Halted (pos 2) = sym two ∙ ends_so 2 size (z.0 + 10) (omega arith) in
      cc
      );
}
