-- The rules of meanings, said once over every semantic domain: of what computations tell, and of what goes
-- with frames, registers and items beside what these rules ask. A computation goes on with what stands after
-- it. Calls, waiting, further turns of a loop and hops go one level down, and each of them takes fuel or an
-- item.
use Rattle.std.specs.Prelude.{ℕ, zero, suc, ◌+◌, ◌-◌, ◌==◌, nat_lt, ℤ, pos, negsuc, ◌+ℤ◌, ◌-ℤ◌, int_lt}
use Rattle.std.specs.Prelude.{List, [], ◌∷◌, ◌++◌, replicate, slice_set, Option, Some, None}
use Rattle.std.specs.Prelude.{Bool, true, ◌&&◌, if◌then◌else◌}
use Rattle.std.specs.Ordering.{int_eq}
use Rattle.std.specs.Str.{bytes_eq}
use Rattle.source_events.specs.declared.Item.{Item}
use Rattle.source_events.specs.declared.Item.TheVariants.{Enter, Ret}
use Rattle.source_events.specs.declared.FeedBack.{FeedBack}
use Rattle.source_events.specs.declared.FeedBack.TheVariants as way
use Rattle.source_events.specs.declared.FeedPair.{FeedPair}
use Rattle.proc_language.specs.declared.tree.Op.{Op}
use Rattle.proc_language.specs.declared.tree.Op.TheVariants.{Plus, Minus, Less, Equal}
use Rattle.proc_program.specs.declared.program.Handle.{Handle}
use Rattle.proc_program.specs.declared.program.Location.{Location}
use Rattle.proc_program.specs.declared.program.Location.TheVariants.{Local, Global}
use Rattle.proc_program.specs.declared.program.Array.{Array}
use Rattle.proc_program.specs.declared.program.Procedure.{Procedure}
use Rattle.proc_program.specs.declared.program.Program.{Program}
use Rattle.proc_program.specs.Program.{Exp, Number, Load, Element, Call, Binary, Args, no_args, value, pass}
use Rattle.proc_program.specs.Program.{Statement, Set, SetAt, Do, If, While, Return, Halt}
use Rattle.proc_program.specs.Program.{Block, no_steps, step}
use Rattle.proc_program.specs.StepView.{block_of}
use Rattle.proc_semantics.specs.declared.value.Target.{Target}
use Rattle.proc_semantics.specs.declared.value.Pair.{Pair}
use Rattle.proc_semantics.specs.declared.value.Pair.TheVariants.{Bad, Outside, Runs}
use Rattle.proc_semantics.specs.declared.value.Value.{Value}
use Rattle.proc_semantics.specs.declared.value.Value.TheVariants.{Num, Closure, Other}
use Rattle.proc_semantics.specs.declared.value.Register.{Register}
use Rattle.proc_semantics.specs.Told.{repeated}
use Rattle.proc_semantics.specs.Values.{World, Store, fits_64, is_zero, bit, global_word, set_word, variable}
use Rattle.proc_semantics.specs.Values.{taken, home_part, proc_at, found, pair_of}

-- What the rules leave open: a semantic domain.
pub record Domain : Type 1 where
  -- what is told by a program that goes on
  pub Comp : Type 0
  -- what the feed consists of: an item, and what comes with it
  pub Thing : Type 0
  -- a procedure that runs: where, with how many words, and what is kept of its registers
  pub Run : Type 0
  -- what a procedure begins with
  pub Regs : Type 0
  -- what goes with a call beside its values, and with an entry from outside to its end
  pub Way : Type 0
  pub Mark : Type 0
  -- a run that fails, halts with a value, takes a tick, or is cut off below the last level
  pub failing : Comp
  pub halting : ℤ → Comp
  pub ticking : Comp → Comp
  pub stuck : Comp
  -- the module's place of a running procedure, the words that it was given, and those that it needs
  pub home : Run → ℕ
  pub left : Run → ℕ
  pub need : Run → ℕ
  -- of a call by a handle with arguments: what goes with it, and what the called procedure begins with
  pub way : Run → Handle → Args → Way
  pub handed : Way → List Value → Regs
  -- a call leaves: its part, its number, where its frame begins, and its values; and an answer comes to one
  -- that gave so many words away
  pub calling : List ℕ → ℕ → ℕ → Way → List Value → Comp → Comp
  pub answered : ℕ → Comp → Comp
  -- a procedure begins, with so many words of which it needs so many
  pub beginning : ℕ → ℕ → Comp → Comp
  pub frame : ℕ → ℕ → Procedure → Regs → Run
  pub registers : Regs → List Register
  -- the feed is asked, and of what it gives the item, the mark of its entry, and what a procedure begins with
  pub taking : (Thing → Comp) → Comp
  pub item : Thing → Item
  pub mark : Thing → Mark
  pub fed : World → Thing → List (Option ℤ) → List FeedPair → Regs
  -- a procedure leaves that was entered so: its part, the mark, and its value
  pub leaving : List ℕ → Mark → ℤ → Comp → Comp
  -- what a procedure begins with that is hopped to with a value, and what the first one begins with
  pub single : ℤ → Regs
  pub nothing : Regs

-- ---- what is the same in every domain

abbrev pub checked : ℤ → Option ℤ
checked v = if fits_64 v then Some v else None

-- sums and differences outside of 64 bits aren't there
abbrev pub result_of : Op → ℤ → ℤ → Option ℤ
result_of Plus x y = checked (x +ℤ y)
result_of Minus x y = checked (x -ℤ y)
result_of Less x y = Some (bit (int_lt x y))
result_of Equal x y = Some (bit (int_eq x y))

-- the place of an element among the words of globals, where the index is in the array
abbrev pub element_at : Array → ℤ → Option ℕ
element_at a (pos i) = if nat_lt i a.length then Some (a.first + i) else None
element_at a (negsuc i) = None

-- the words that a procedure has, where they are as many as it needs
abbrev pub enough : ℕ → Option ℕ → Option ℕ
enough need None = None
enough need (Some left) = if nat_lt left need then None else Some left

-- the words that a call gives away, where there are enough: one stays besides the frame, and one is given
abbrev pub given_from : ℕ → ℕ → Option ℕ
given_from left need = if nat_lt left (need + 2) then None else Some (left - need - 1)

-- the words that a procedure was given are those that the call gave away, where that is asked
abbrev pub is_given : Option ℕ → ℕ → Bool
is_given None given = true
is_given (Some left) given = left == given

abbrev pub name_in : Option Program → List ℕ
name_in None = []
name_in (Some u) = u.name

abbrev pub stack_in : Option Program → ℕ
stack_in None = 0
stack_in (Some u) = u.stack

abbrev pub part_name_of : World → ℕ → List ℕ
part_name_of world home = name_in (home_part world home)

abbrev pub home_stack : World → ℕ → ℕ
home_stack world home = stack_in (home_part world home)

module _ (M : Domain) where
  -- what goes on with a value (its continuation): the globals, and then the rest
  abbrev pub Then : Type 0
  Then = ℤ → Store → M.Comp

  -- what goes on after a statement: the parameters and locals, the globals, and then the rest
  abbrev pub Next : Type 0
  Next = List Value → Store → M.Comp

  -- a call that waits: its part, its number, where its frame begins, the words of the stack that it gave
  -- away, and what goes on with its value
  pub record Wait : Type 0 where
    pub part : List ℕ
    pub site : ℕ
    pub base : ℕ
    pub given : ℕ
    pub resume : Then

  -- what is done one level down
  pub record Level : Type 0 where
    -- a procedure begins, with the words that it is given and its registers
    pub proc : Target → Option ℕ → M.Regs → Then → Store → M.Comp
    -- the feed is asked, while that call is the newest that waits
    pub wait : Option Wait → Store → M.Comp
    -- a turn of a loop
    pub turn : M.Run → Exp → Block → Then → Next → Next
    -- the return of an entered procedure enters another
    pub hop : Option Wait → Option ℕ → Target → Then

  abbrev pub ticks : ℕ → M.Comp → M.Comp
  ticks n m = repeated M.ticking n m

  -- ---- values

  abbrev pub with_number : Option ℤ → Then → Store → M.Comp
  with_number None k st = M.failing
  with_number (Some v) k st = k v st

  abbrev pub operated : Op → ℤ → ℤ → Then → Store → M.Comp
  operated o x y k st = with_number (result_of o x y) k st

  abbrev pub with_place : Option ℕ → (ℕ → M.Comp) → M.Comp
  with_place None k = M.failing
  with_place (Some o) k = k o

  abbrev pub element : Array → ℤ → (ℕ → M.Comp) → M.Comp
  element a i k = with_place (element_at a i) k

  abbrev pub assigned : ℕ → Location → ℤ → Next → Next
  assigned home (Local i) v k env st = k (slice_set env i (Num v)) st
  assigned home (Global o) v k env st = k env (set_word st home o v)

  -- ---- values that come to the newest call that waits

  abbrev pub resumed : Option Wait → List ℕ → ℕ → ℕ → Option ℕ → Option ℤ → Store → M.Comp
  resumed None part site base left v st = M.failing
  resumed (Some c) part site base left None st = M.failing
  resumed (Some c) part site base left (Some v) st =
      if bytes_eq part c.part && (site == c.site) && (base == c.base) && is_given left c.given
      then M.answered c.given (c.resume v st) else M.failing

  -- by the return of an entered procedure, which must have been given all the words that the call gave away
  abbrev pub returned : Option Wait → Option ℕ → List ℕ → ℕ → ℕ → ℤ → Store → M.Comp
  returned c None part site base v st = M.failing
  returned c (Some left) part site base v st = resumed c part site base (Some left) (Some v) st

  module _ (world : World) where
    -- ---- calls, once their arguments are evaluated

    abbrev pub call_wait : ℕ → ℕ → ℕ → Then → Wait
    call_wait home given site k = record {
      part = part_name_of world home;
      site = site;
      base = home_stack world home + given;
      given = given;
      resume = k;
    }

    -- a call that leaves the modules
    abbrev pub call_out : Level → ℕ → ℕ → ℕ → M.Way → List Value → Then → Store → M.Comp
    call_out l home given site w vs k st =
        M.calling (part_name_of world home) site (home_stack world home + given) w vs
        (l.wait (Some (call_wait home given site k)) st)

    abbrev pub call_by : Level → ℕ → ℕ → ℕ → M.Way → Pair → List Value → Then → Store → M.Comp
    call_by l home given site w Bad vs k st = M.failing
    call_by l home given site w Outside vs k st = call_out l home given site w vs k st
    call_by l home given site w (Runs t) vs k st = l.proc t (Some given) (M.handed w vs) k st

    abbrev pub call : Level → M.Run → ℕ → M.Way → Pair → List Value → Then → Store → M.Comp
    call l f site w p vs k st =
        with_place (given_from (M.left f) (M.need f)) (λ given. call_by l (M.home f) given site w p vs k st)

    -- ---- expressions and arguments, from left to right

    abbrev mutual
      pub expr : Level → M.Run → List Value → Exp → Then → Store → M.Comp
      expr l f env (Number n) k st = M.ticking (k (pos n) st)
      expr l f env (Load x) k st = M.ticking (k (variable (M.home f) env st x) st)
      expr l f env (Element a e) k st =
          M.ticking (expr l f env e (λ i st. element a i (λ o. k (global_word st (M.home f) o) st)) st)
      expr l f env (Call site h xs) k st =
          M.ticking (args l f env xs
          (λ vs. call l f site (M.way f h xs) (pair_of world (M.home f) env h) vs k) st)
      expr l f env (Binary o a b) k st =
          M.ticking (expr l f env a (λ x. expr l f env b (λ y. operated o x y k)) st)

      pub args : Level → M.Run → List Value → Args → (List Value → Store → M.Comp) → Store → M.Comp
      args l f env no_args k st = k [] st
      args l f env (value e xs) k st =
          expr l f env e (λ v. args l f env xs (λ vs. k (Num v ∷ vs))) st
      args l f env (pass h xs) k st =
          M.ticking (args l f env xs
          (λ vs. k (Closure (pair_of world (M.home f) env h) ∷ Other ∷ vs)) st)

    -- ---- statements: `back` is what `return` goes on with, `k` what stands after

    abbrev mutual
      pub stmt : Level → M.Run → Statement → Then → Next → Next
      stmt l f (Set x e) back k env st =
          M.ticking (expr l f env e (λ v. assigned (M.home f) x v k env) st)
      stmt l f (SetAt a i e) back k env st =
          M.ticking (expr l f env i
          (λ i. expr l f env e (λ v st. element a i (λ o. k env (set_word st (M.home f) o v)))) st)
      stmt l f (Do e) back k env st = M.ticking (expr l f env e (λ v. k env) st)
      stmt l f (If c a b) back k env st =
          M.ticking (expr l f env c
          (λ v. if is_zero v then block l f b back k env else block l f a back k env) st)
      stmt l f (While c b) back k env st = l.turn f c b back k env st
      stmt l f (Return e) back k env st = M.ticking (expr l f env e back st)
      stmt l f (Halt e) back k env st = M.ticking (expr l f env e (λ v st. M.halting v) st)

      pub block : Level → M.Run → Block → Then → Next → Next
      block l f no_steps back k env st = k env st
      block l f (step s ss) back k env st = stmt l f s back (block l f ss back k) env st

    -- one turn of a loop; the tick is that of the statement, or that of a further test
    abbrev pub turn_at : Level → M.Run → Exp → Block → Then → Next → Next
    turn_at l f c b back k env st =
        M.ticking (expr l f env c
        (λ v. if is_zero v then k env else block l f b back (l.turn f c b back k) env) st)

    -- ---- procedures

    -- the end of a procedure, by `return` or after its last statement
    abbrev pub finish : ℕ → Then → Then
    finish need k v st = ticks (1 + need) (k v st)

    abbrev pub body_of : Level → M.Run → Procedure → Option (List Value) → Then → Store → M.Comp
    body_of l f p None k st = M.failing
    body_of l f p (Some env) k st =
        block l f (block_of p.body)
        (finish p.need k) (λ env. finish p.need k (pos 0)) (env ++ replicate p.locals (Num (pos 0))) st

    abbrev pub begin : Level → ℕ → Procedure → Option ℕ → M.Regs → Then → Store → M.Comp
    begin l home p left rs k st =
        with_place (enough p.need left)
        (λ left. M.beginning left p.need
        (body_of l (M.frame home left p rs) p (taken [] p.callbacks (M.registers rs)) k st))

    abbrev pub proc_of : Level → ℕ → Option Procedure → Option ℕ → M.Regs → Then → Store → M.Comp
    proc_of l home None left rs k st = M.failing
    proc_of l home (Some p) left rs k st = ticks (1 + p.need) (begin l home p left rs k st)

    -- ---- the feed

    abbrev pub hopped : Level → Option Wait → Option ℕ → Option Target → Then
    hopped l c left None v st = M.failing
    hopped l c left (Some t) v st = l.hop c left t v st

    -- a procedure of this part, which was entered from outside, ends with a value
    abbrev pub left_by : Level → List ℕ → Option Wait → M.Mark → Option ℕ → FeedBack → Then
    left_by l part c m left way.Out v st = M.leaving part m v (l.wait c st)
    left_by l part c m left way.Bad v st = M.failing
    left_by l part c m left (way.Hop p n) v st = hopped l c left (found world p n) v st
    left_by l part c m left (way.Pair p site base) v st = returned c left p site base v st

    abbrev pub entered : Level → Option Wait → Option Target → M.Mark → Option ℕ → M.Regs → FeedBack
        → Store → M.Comp
    entered l c None m left rs back st = M.failing
    entered l c (Some t) m left rs back st =
        l.proc t left rs (left_by l (part_name_of world t.home) c m left back) st

    abbrev pub by_item : Level → Option Wait → Store → M.Thing → Item → M.Comp
    by_item l c st x (Enter part name left ints pairs back) =
        entered l c (found world part name) (M.mark x) left (M.fed world x ints pairs) back st
    by_item l c st x (Ret part site base v) = resumed c part site base None v st

    abbrev pub on_item : Level → Option Wait → Store → M.Thing → M.Comp
    on_item l c st x = by_item l c st x (M.item x)

    -- ---- the levels; a meaning never comes to the lowest, since fuel or feed end before

    abbrev pub level : ℕ → Level
    level zero = record {
      proc = λ t left rs k st. M.stuck;
      wait = λ c st. M.stuck;
      turn = λ f c b back k env st. M.stuck;
      hop = λ c left t v st. M.stuck;
    }
    level (suc d) = record {
      proc = λ t left rs k st. proc_of (level d) t.home (proc_at world t) left rs k st;
      wait = λ c st. M.taking (on_item (level d) c st);
      turn = λ f c b back k env st. turn_at (level d) f c b back k env st;
      hop = λ c left t v st.
          proc_of (level d) t.home (proc_at world t) left (M.single v) ((level d).hop c left t) st;
    }

    -- ---- the whole

    -- a shared main begins with the whole stack and registers that hold 0, and its return fails; without
    -- one the feed is asked
    abbrev pub start : Level → ℕ → Option Target → Store → M.Comp
    start l stack None st = l.wait None st
    start l stack (Some t) st = l.proc t (Some stack) M.nothing (λ v st. M.failing) st
