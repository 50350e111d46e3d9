-- What a work list stands for: the rest of the meaning. An entry that can't stand where it is fails, so no
-- list has to be of good form.
use Rattle.std.specs.Prelude.{ℕ, ◌+◌, ◌*◌, ◌<◌, ◌≤◌, length, ℤ, pos, List, [], ◌∷◌, ◌++◌, reverse}
use Rattle.std.specs.Prelude.{Option, Some, None, if◌then◌else◌}
use Rattle.source_events.specs.declared.End.TheVariants.{Halt as Halted}
use Rattle.source_events.specs.declared.OutEvent.{OutEvent}
use Rattle.source_events.specs.declared.Told.{Told}
use Rattle.proc_program.specs.declared.program.CallExp.{CallExp}
use Rattle.proc_program.specs.declared.program.Procedure.{Procedure}
use Rattle.proc_program.specs.Program.{Exp, Args, Block}
use Rattle.proc_program.specs.View.{args_of}
use Rattle.proc_program.specs.StepView.{block_of}
use Rattle.proc_semantics.specs.declared.value.Activation.{Activation}
use Rattle.proc_semantics.specs.declared.value.Value as values
use Rattle.proc_semantics.specs.declared.value.Value.TheVariants.{Num}
use Rattle.proc_semantics.specs.Told.{Comp, ends, fails, ticks, emit, take_item}
use Rattle.proc_semantics.specs.Values.{World, Store, is_zero, set_word, global_word, pair_of}
use Rattle.proc_semantics.specs.Meaning.{Then, Next, Wait, operated, element, assigned, call, call_wait}
use Rattle.proc_semantics.specs.Meaning.{expr, args, block, finish, left_by, part_name_of, on_item}
use Rattle.proc_semantics.specs.Whole.{whole}
use Rattle.proc_meaning.specs.declared.places.Run.{Run}
use Rattle.proc_meaning.specs.declared.work.Work.{Work}
use Rattle.proc_meaning.specs.declared.work.Work.TheVariants.{Index, Right, Operate, Arg, SetTo, SetIndex}
use Rattle.proc_meaning.specs.declared.work.Work.TheVariants.{SetElement, Forget, Choose, Test, Return}
use Rattle.proc_meaning.specs.declared.work.Work.TheVariants.{Halt, Rest, Turn, Ends, Waits}
use Rattle.proc_meaning.specs.declared.work.Whence.{Whence}
use Rattle.proc_meaning.specs.declared.work.Whence.TheVariants.{Start, Caller, Entered}
use Rattle.proc_meaning.specs.declared.work.Now.{Now}
use Rattle.proc_meaning.specs.declared.work.Now.TheVariants as now
use Rattle.proc_meaning.specs.declared.work.Ahead.{Ahead}
use Rattle.proc_meaning.specs.declared.work.Ahead.TheVariants.{Free, Ticked, Said, Asks, Stop}

module _ (world : World) where
  -- a call with these arguments evaluated and those not
  abbrev pub call_with : Activation → List values.Value → CallExp → List values.Value → Args → Then → Store
      → Comp
  call_with f env c vs xs k st =
      args world (whole world) f env xs
      (λ ys. call world (whole world) f c.site (pair_of world f.home env c.handle) (vs ++ ys) k) st

  -- a condition has a value: of an `if`, and of a loop
  abbrev pub chosen : ℤ → Block → Block → Activation → Then → Next → Next
  chosen v a b f back k env st =
      (if is_zero v then block world (whole world) f b back k env
      else block world (whole world) f a back k env) st

  abbrev pub tested : ℤ → Exp → Block → Activation → Then → Next → Next
  tested v c b f back k env st =
      (if is_zero v then k env
      else block world (whole world) f b back ((whole world).turn f c b back k) env) st

  -- ---- the list with its newest entry first

  abbrev mutual
    -- what is done with a value
    pub with_value : List Work → Activation → List values.Value → Then
    with_value (Index a ∷ ws) f env v st =
        element a v (λ o. with_value ws f env (global_word st f.home o) st)
    with_value (Right o e ∷ ws) f env v st =
        expr world (whole world) f env e.now (λ y. operated o v y (with_value ws f env)) st
    with_value (Operate o x ∷ ws) f env v st = operated o x v (with_value ws f env) st
    with_value (Arg c vs xs ∷ ws) f env v st =
        call_with f env c.now (vs.items ++ Num v ∷ []) (args_of xs.now) (with_value ws f env) st
    with_value (SetTo x ∷ ws) f env v st = assigned f.home x v (after ws f) env st
    with_value (SetIndex a e ∷ ws) f env v st =
        expr world (whole world) f env e.now
        (λ y st. element a v (λ o. after ws f env (set_word st f.home o y))) st
    with_value (SetElement a i ∷ ws) f env v st =
        element a i (λ o. after ws f env (set_word st f.home o v))
    with_value (Forget ∷ ws) f env v st = after ws f env st
    with_value (Choose a b ∷ ws) f env v st =
        chosen v (block_of a.now) (block_of b.now) f (back ws f) (after ws f) env st
    with_value (Test c b ∷ ws) f env v st =
        tested v c.now (block_of b.now) f (back ws f) (after ws f) env st
    with_value (Return ∷ ws) f env v st = back ws f v st
    with_value (Halt ∷ ws) f env v st = ends (Halted v)
    with_value _ f env v st = fails

    -- what is done after a statement
    pub after : List Work → Activation → Next
    after (Rest b ∷ ws) f env st =
        block world (whole world) f (block_of b.now) (back ws f) (after ws f) env st
    after (Turn c b ∷ ws) f env st =
        (whole world).turn f c.now (block_of b.now) (back ws f) (after ws f) env st
    after (Ends Start ∷ ws) f env st = finish world f.need (λ v st. fails) (pos 0) st
    after (Ends (Caller r) ∷ ws) f env st =
        finish world f.need (with_value ws r.frame r.env.items) (pos 0) st
    after (Ends (Entered home left b) ∷ ws) f env st =
        finish world f.need (left_by world (whole world) (part_name_of world home) (waiting ws) left b.now)
        (pos 0) st
    after _ f env st = fails

    -- what a return does
    pub back : List Work → Activation → Then
    back (Rest b ∷ ws) f v st = back ws f v st
    back (Turn c b ∷ ws) f v st = back ws f v st
    back (Ends Start ∷ ws) f v st = finish world f.need (λ v st. fails) v st
    back (Ends (Caller r) ∷ ws) f v st = finish world f.need (with_value ws r.frame r.env.items) v st
    back (Ends (Entered home left b) ∷ ws) f v st =
        finish world f.need (left_by world (whole world) (part_name_of world home) (waiting ws) left b.now) v
        st
    back _ f v st = fails

    -- the newest call that waits, where the feed is asked
    pub waiting : List Work → Option Wait
    waiting (Waits r site given ∷ ws) =
        Some (call_wait world r.frame.home given site (with_value ws r.frame r.env.items))
    waiting _ = None

  -- what goes on after a procedure
  abbrev pub ended : Whence → List Work → Then
  ended Start ws v st = fails
  ended (Caller r) ws v st = with_value ws r.frame r.env.items v st
  ended (Entered home left b) ws v st =
      left_by world (whole world) (part_name_of world home) (waiting ws) left b.now v st

  -- a procedure's body, where it can begin
  abbrev pub begins : Procedure → Option Run → Then → Store → Comp
  begins p None k st = fails
  begins p (Some r) k st =
      block world (whole world) r.frame (block_of p.body) (finish world r.frame.need k)
      (λ env. finish world r.frame.need k (pos 0)) r.env.items st

  abbrev pub now_of : Now → List Work → Run → Store → Comp
  now_of (now.Eval e) ws r st =
      expr world (whole world) r.frame r.env.items e.now (with_value ws r.frame r.env.items) st
  now_of (now.Args c vs xs) ws r st =
      call_with r.frame r.env.items c.now vs.items (args_of xs.now) (with_value ws r.frame r.env.items) st
  now_of (now.Value v) ws r st = with_value ws r.frame r.env.items v st
  now_of now.Next ws r st = after ws r.frame r.env.items st
  now_of (now.Back v) ws r st = back ws r.frame v st
  now_of (now.Left home left b v) ws r st =
      left_by world (whole world) (part_name_of world home) (waiting ws) left b.now v st
  now_of (now.Begin t left rs w) ws r st = (whole world).proc t left rs.items (ended w ws) st
  now_of now.Wait ws r st = (whole world).wait (waiting ws) st
  now_of (now.Take i) ws r st = on_item world (whole world) (waiting ws) st i.now
  now_of now.Fail ws r st = fails

  -- ---- the list as it stands on the heap, its newest entry last

  -- the rest of the meaning, from what is done now, the list, the run and the globals
  unfoldable pub rest_now : Now → List Work → Run → Store → Comp
  rest_now n items r st = now_of n (reverse items) r st

  -- what a turn leaves to be done
  abbrev pub ahead_of : Ahead → List Work → Run → Store → Comp
  ahead_of (Free n) items r st = rest_now n items r st
  ahead_of (Ticked k n) items r st = ticks k (rest_now n items r st)
  ahead_of (Said e n) items r st = emit e (rest_now n items r st)
  ahead_of Asks items r st = take_item (on_item world (whole world) (waiting (reverse items)) st)
  ahead_of (Stop e) items r st = ends e

-- ---- how many turns can follow without a tick and an item

abbrev pub rank : Now → ℕ
rank (now.Eval e) = 0
rank (now.Args c vs xs) = 3
rank (now.Value v) = 4
rank now.Next = 1
rank (now.Back v) = 0
rank (now.Left home left b v) = 3
rank (now.Begin t left rs w) = 0
rank now.Wait = 0
rank (now.Take i) = 3
rank now.Fail = 0

abbrev pub size_of : Now → List Work → ℕ
size_of n items = 2 * length items + rank n

-- a turn takes a tick or an item, or leaves less than this
abbrev pub IsLess : Ahead → List Work → ℕ → Type 0
IsLess (Free n) items m = size_of n items < m
IsLess (Ticked k n) items m = (1 ≤ k) × (size_of n items < m + 8)
IsLess (Said e n) items m = size_of n items < m
IsLess Asks items m = 2 * length items < m + 5
IsLess (Stop e) items m = Unit {0}

-- ---- what was told before

-- these events, and so many ticks, before
abbrev pub more : List OutEvent → ℕ → Told → Told
more xs n t = record { events = xs ++ t.events; end = t.end; ticks = t.ticks + n }
