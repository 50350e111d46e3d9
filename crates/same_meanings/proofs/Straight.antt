-- Code without calls and loops tells what its outcome tells.
use Rattle.std.proofs.Common.{ℕ, ℤ, pos, List, ◌++◌, replicate, Option, Some, None, Bool, true, false}
use Rattle.std.specs.Prelude.{if◌then◌else◌}
use Rattle.proc_program.specs.declared.program.Location.{Location}
use Rattle.proc_program.specs.declared.program.Location.TheVariants.{Local, Global}
use Rattle.proc_program.specs.declared.program.Array.{Array}
use Rattle.proc_program.specs.declared.program.Procedure.{Procedure}
use Rattle.proc_language.specs.declared.tree.Op.{Op}
use Rattle.proc_program.specs.Program.{Exp, Number, Load, Element, Call, Binary, Statement, Set, SetAt, Do}
use Rattle.proc_program.specs.Program.{If, While, Return, Halt, Block, no_steps, step}
use Rattle.proc_program.specs.StepView.{block_of}
use Rattle.proc_semantics.specs.declared.value.Value.{Value}
use Rattle.proc_semantics.specs.declared.value.Value.TheVariants.{Num}
use Rattle.proc_semantics.specs.Values.{World, Store, is_zero, global_word, set_word, variable, if_there}
use Rattle.proc_semantics.specs.Rules.{Next, Level, with_number, with_place, result_of, element_at, expr}
use Rattle.proc_semantics.specs.Rules.{element, operated, assigned, stmt, block, body_of, finish}
use Rattle.proc_semantics.specs.Marked.{Whence, Frame}
use Rattle.same_meanings.specs.Same.{tracing, Levelled, Continuation}
use Rattle.same_meanings.specs.Straight.{IsPure, IsStraight, AllStraight, Completion, Breaks, Stops, Gives}
use Rattle.same_meanings.specs.Straight.{GoesOn, with_some, followed, value_by, set_to, step_outcome}
use Rattle.same_meanings.specs.Straight.{block_outcome, body_outcome}
use Rattle.same_meanings.proofs.Comes.{tick}

abbrev pub LevelledNext : Type 0
LevelledNext = ℕ → Next tracing

-- what an outcome tells
abbrev pub went : Completion → Continuation → LevelledNext → Levelled
went Breaks back k d = tracing.failing
went (Stops v) back k d = tracing.halting v
went (Gives v st) back k d = back d v st
went (GoesOn env st) back k d = k d env st

-- of any property of computations that ticks keep
module _ (P : Levelled → Type 0) (ticking : (m : Levelled) → P m → P (λ d. tick (m d))) (W : World)
    (l : ℕ → Level tracing) (f : Frame Whence ℕ) where
  abbrev Value_ : List Value → Store → Exp → Option ℤ
  Value_ env st e = value_by f.home env st e

  element_tells : (o : Option ℤ) (a : Array) (k : Continuation) (st : Store)
      → P (λ d. with_number tracing
      (if_there o (λ i. if_there (element_at a i) (λ o. Some (global_word st f.home o)))) (k d) st)
      → P (λ d. with_number tracing o
      (λ i st. element tracing a i (λ o. k d (global_word st f.home o) st)) st)
  element_tells None a k st p = p
  element_tells (Some i) a k st p = by (element_at a i) p
    where
      by : (o : Option ℕ)
          → P (λ d. with_number tracing (if_there o (λ o. Some (global_word st f.home o))) (k d)
          st) → P (λ d. with_place tracing o (λ o. k d (global_word st f.home o) st))
      by None p = p
      by (Some o) p = p

  second : (y : Option ℤ) (x : ℤ) (o : Op) (k : Continuation) (st : Store)
      → P (λ d. with_number tracing (if_there y (λ y. result_of o x y)) (k d) st)
      → P (λ d. with_number tracing y (λ y. operated tracing o x y (k d)) st)
  second None x o k st p = p
  second (Some y) x o k st p = p

  first : (x y : Option ℤ) (o : Op) (k next : Continuation) (st : Store)
      → ((x : ℤ) → P (λ d. with_number tracing (if_there y (λ y. result_of o x y)) (k d) st)
      → P (λ d. next d x st))
      → P (λ d. with_number tracing (if_there x (λ x. if_there y (λ y. result_of o x y))) (k d) st)
      → P (λ d. with_number tracing x (next d) st)
  first None y o k next st h p = p
  first (Some x) y o k next st h p = h x p

  pub expr_tells : (e : Exp) → IsPure e → (env : List Value) (k : Continuation) (st : Store)
      → P (λ d. with_number tracing (Value_ env st e) (k d) st)
      → P (λ d. expr tracing W (l d) f env e (k d) st)
  expr_tells (Number n) i env k st p = ticking (λ d. k d (pos n) st) p
  expr_tells (Load x) i env k st p = ticking (λ d. k d (variable f.home env st x) st) p
  expr_tells (Element a e) i env k st p =
      ticking _ (expr_tells e i env _ st (element_tells (Value_ env st e) a k st p))
  expr_tells (Call site h xs) i env k st p = absurd i
  expr_tells (Binary o a b) i env k st p =
      ticking _ (expr_tells a i.0 env _ st
      (first (Value_ env st a) (Value_ env st b) o k
      (λ d x. expr tracing W (l d) f env b (λ y. operated tracing o x y (k d))) st
      (λ x q. expr_tells b i.1 env (λ d y. operated tracing o x y (k d)) st
      (second (Value_ env st b) x o k st q)) p))

  -- what goes on with a value has the outcome of it
  some_tells : (o : Option ℤ) (out : ℤ → Completion) (back : Continuation) (k : LevelledNext)
      (next : Continuation) (st : Store) → ((v : ℤ) → P (went (out v) back k) → P (λ d. next d v st))
      → P (went (with_some o out) back k) → P (λ d. with_number tracing o (next d) st)
  some_tells None out back k next st h p = p
  some_tells (Some v) out back k next st h p = h v p

  set_tells : (x : Location) (v : ℤ) (back : Continuation) (k : LevelledNext) (env : List Value) (st : Store)
      → P (went (set_to f.home x v env st) back k) → P (λ d. assigned tracing f.home x v (k d) env st)
  set_tells (Local i) v back k env st p = p
  set_tells (Global o) v back k env st p = p

  place_tells : (o : Option ℕ) (v : ℤ) (back : Continuation) (k : LevelledNext) (env : List Value)
      (st : Store)
      → P (went (with_some o (λ o. GoesOn env (set_word st f.home o v))) back k)
      → P (λ d. with_place tracing o (λ o. k d env (set_word st f.home o v)))
  place_tells None v back k env st p = p
  place_tells (Some o) v back k env st p = p

  branch_tells : (t : Bool) (x y : Completion) (back : Continuation) (k : LevelledNext) (m m' : ℕ → Store → _)
      (st : Store) → (P (went x back k) → P (λ d. m d st)) → (P (went y back k) → P (λ d. m' d st))
      → P (went (if t then x else y) back k) → P (λ d. (if t then m d else m' d) st)
  branch_tells true x y back k m m' st h h' p = h p
  branch_tells false x y back k m m' st h h' p = h' p

  behind : (o : Completion) (out : List Value → Store → Completion) (back : Continuation)
      (k next : LevelledNext)
      → ((env : List Value) (st : Store) → P (went (out env st) back k) → P (λ d. next d env st))
      → P (went (followed o out) back k) → P (went o back next)
  behind Breaks out back k next h p = p
  behind (Stops v) out back k next h p = p
  behind (Gives v st) out back k next h p = p
  behind (GoesOn env st) out back k next h p = h env st p

  mutual
    pub stmt_tells : (s : Statement) → IsStraight s → (back : Continuation) (k : LevelledNext)
        (env : List Value) (st : Store) → P (went (step_outcome f.home s env st) back k)
        → P (λ d. stmt tracing W (l d) f s (back d) (k d) env st)
    stmt_tells (Set x e) i back k env st p =
        ticking _ (expr_tells e i env _ st
        (some_tells (Value_ env st e) (λ v. set_to f.home x v env st) back k
        (λ d v. assigned tracing f.home x v (k d) env) st (λ v. set_tells x v back k env st) p))
    stmt_tells (SetAt a j e) i back k env st p =
        ticking _ (expr_tells j i.0 env _ st
        (some_tells (Value_ env st j)
        (λ j. with_some (Value_ env st e)
        (λ v. with_some (element_at a j) (λ o. GoesOn env (set_word st f.home o v)))) back k
        (λ d j. expr tracing W (l d) f env e
        (λ v st. element tracing a j (λ o. k d env (set_word st f.home o v)))) st
        (λ j q. expr_tells e i.1 env _ st
        (some_tells (Value_ env st e)
        (λ v. with_some (element_at a j) (λ o. GoesOn env (set_word st f.home o v))) back k
        (λ d v st. element tracing a j (λ o. k d env (set_word st f.home o v))) st
        (λ v. place_tells (element_at a j) v back k env st) q)) p))
    stmt_tells (Do e) i back k env st p =
        ticking _ (expr_tells e i env _ st
        (some_tells (Value_ env st e) (λ v. GoesOn env st) back k (λ d v. k d env) st (λ v q. q) p))
    stmt_tells (If c a b) i back k env st p =
        ticking _ (expr_tells c i.0 env _ st
        (some_tells (Value_ env st c)
        (λ v. if is_zero v then block_outcome f.home b env st else block_outcome f.home a env st) back k
        (λ d v. if is_zero v then block tracing W (l d) f b (back d) (k d) env
        else block tracing W (l d) f a (back d) (k d) env) st
        (λ v. branch_tells (is_zero v) (block_outcome f.home b env st) (block_outcome f.home a env st) back k
        (λ d. block tracing W (l d) f b (back d) (k d) env)
        (λ d. block tracing W (l d) f a (back d) (k d) env) st (block_tells b i.2 back k env st)
        (block_tells a i.1 back k env st)) p))
    stmt_tells (While c b) i back k env st p = absurd i
    stmt_tells (Return e) i back k env st p =
        ticking _ (expr_tells e i env back st
        (some_tells (Value_ env st e) (λ v. Gives v st) back k back st (λ v q. q) p))
    stmt_tells (Halt e) i back k env st p =
        ticking _ (expr_tells e i env _ st
        (some_tells (Value_ env st e) (λ v. Stops v) back k (λ d v st. tracing.halting v) st (λ v q. q) p))

    pub block_tells : (b : Block) → AllStraight b → (back : Continuation) (k : LevelledNext)
        (env : List Value) (st : Store) → P (went (block_outcome f.home b env st) back k)
        → P (λ d. block tracing W (l d) f b (back d) (k d) env st)
    block_tells no_steps i back k env st p = p
    block_tells (step s ss) i back k env st p =
        stmt_tells s i.0 back (λ d. block tracing W (l d) f ss (back d) (k d)) env st
        (behind (step_outcome f.home s env st) (block_outcome f.home ss) back k
        (λ d. block tracing W (l d) f ss (back d) (k d)) (block_tells ss i.1 back k) p)

  ended : (o : Completion) (p : Procedure) (q : Continuation) (k : LevelledNext)
      → P (went (followed o (λ env st. Gives (pos 0) st)) (λ d. finish tracing W p.need (q d)) k)
      → P (went o (λ d. finish tracing W p.need (q d)) (λ d env. finish tracing W p.need (q d) (pos 0)))
  ended Breaks p q k h = h
  ended (Stops v) p q k h = h
  ended (Gives v st) p q k h = h
  ended (GoesOn env st) p q k h = h

  pub body_tells : (p : Procedure) → AllStraight (block_of p.body) → (env : List Value) (q : Continuation)
      (k : LevelledNext) (st : Store)
      → P (went (body_outcome f.home p env st) (λ d. finish tracing W p.need (q d)) k)
      → P (λ d. body_of tracing W (l d) f p (Some env) (q d) st)
  body_tells p i env q k st h =
      block_tells (block_of p.body) i _ _ (env ++ replicate p.locals (Num (pos 0))) st
      (ended (block_outcome f.home (block_of p.body) (env ++ replicate p.locals (Num (pos 0))) st) p q k h)
