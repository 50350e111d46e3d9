-- Code without calls and loops: what it comes to, said without ticks.
use Rattle.std.specs.Prelude.{◌≡◌, ℕ, ℤ, pos, List, [], ◌∷◌, ◌++◌, replicate, slice_set, Option, Some, None}
use Rattle.std.specs.Prelude.{if◌then◌else◌}
use Rattle.proc_program.specs.declared.program.Location.{Location}
use Rattle.proc_program.specs.declared.program.Location.TheVariants.{Local, Global}
use Rattle.proc_program.specs.declared.program.Procedure.{Procedure}
use Rattle.proc_program.specs.Program.{Exp, Number, Load, Element, Call, Binary, Statement, Set, SetAt, Do}
use Rattle.proc_program.specs.Program.{If, While, Return, Halt, Block, no_steps, step}
use Rattle.proc_program.specs.StepView.{block_of}
use Rattle.proc_semantics.specs.declared.value.Target.{Target}
use Rattle.proc_semantics.specs.declared.value.Pair.{Pair}
use Rattle.proc_semantics.specs.declared.value.Value.{Value}
use Rattle.proc_semantics.specs.declared.value.Value.TheVariants.{Num, Closure, Other}
use Rattle.proc_semantics.specs.Values.{Store, proc_at, found, main_target, is_zero, global_word, set_word}
use Rattle.proc_semantics.specs.Values.{variable, if_there}
use Rattle.proc_semantics.specs.Rules.{result_of, element_at, level, start, part_name_of}
use Rattle.same_meanings.specs.Same.{tracing, Waiter, wait_at, Sides, first_store, SameBehaviour, SameWaiting}
use Rattle.same_meanings.specs.Same.{SameWaits, BothFound, SameRefined}

-- expressions without calls, and statements with such alone and without loops
abbrev pub IsPure : Exp → Type 0
IsPure (Number n) = Unit {0}
IsPure (Load x) = Unit {0}
IsPure (Element a e) = IsPure e
IsPure (Call site h xs) = ⊥
IsPure (Binary o a b) = IsPure a × IsPure b

abbrev mutual
  pub IsStraight : Statement → Type 0
  IsStraight (Set x e) = IsPure e
  IsStraight (SetAt a i e) = IsPure i × IsPure e
  IsStraight (Do e) = IsPure e
  IsStraight (If c a b) = IsPure c × AllStraight a × AllStraight b
  IsStraight (While c b) = ⊥
  IsStraight (Return e) = IsPure e
  IsStraight (Halt e) = IsPure e

  pub AllStraight : Block → Type 0
  AllStraight no_steps = Unit {0}
  AllStraight (step s ss) = IsStraight s × AllStraight ss

-- what a statement comes to: a failure, the end of all with a value, the end of the procedure with a value,
-- or what stands after it
pub data Completion : Type 0 where
  Breaks : Completion
  Stops : ℤ → Completion
  Gives : ℤ → Store → Completion
  GoesOn : List Value → Store → Completion

abbrev pub with_some : {A : Type 0} → Option A → (A → Completion) → Completion
with_some None f = Breaks
with_some (Some x) f = f x

abbrev pub followed : Completion → (List Value → Store → Completion) → Completion
followed Breaks f = Breaks
followed (Stops v) f = Stops v
followed (Gives v st) f = Gives v st
followed (GoesOn env st) f = f env st

-- in a module with this place
module _ (home : ℕ) where
  abbrev pub value_by : List Value → Store → Exp → Option ℤ
  value_by env st (Number n) = Some (pos n)
  value_by env st (Load x) = Some (variable home env st x)
  value_by env st (Element a e) =
      if_there (value_by env st e) (λ i. if_there (element_at a i) (λ o. Some (global_word st home o)))
  value_by env st (Call site h xs) = None
  value_by env st (Binary o a b) =
      if_there (value_by env st a) (λ x. if_there (value_by env st b) (λ y. result_of o x y))

  abbrev pub set_to : Location → ℤ → List Value → Store → Completion
  set_to (Local i) v env st = GoesOn (slice_set env i (Num v)) st
  set_to (Global o) v env st = GoesOn env (set_word st home o v)

  abbrev mutual
    pub step_outcome : Statement → List Value → Store → Completion
    step_outcome (Set x e) env st = with_some (value_by env st e) (λ v. set_to x v env st)
    step_outcome (SetAt a i e) env st =
        with_some (value_by env st i) (λ i. with_some (value_by env st e)
        (λ v. with_some (element_at a i) (λ o. GoesOn env (set_word st home o v))))
    step_outcome (Do e) env st = with_some (value_by env st e) (λ v. GoesOn env st)
    step_outcome (If c a b) env st =
        with_some (value_by env st c)
        (λ v. if is_zero v then block_outcome b env st else block_outcome a env st)
    step_outcome (While c b) env st = Breaks
    step_outcome (Return e) env st = with_some (value_by env st e) (λ v. Gives v st)
    step_outcome (Halt e) env st = with_some (value_by env st e) (λ v. Stops v)

    pub block_outcome : Block → List Value → Store → Completion
    block_outcome no_steps env st = GoesOn env st
    block_outcome (step s ss) env st = followed (step_outcome s env st) (block_outcome ss)

  -- of a procedure: after its last statement it gives 0
  abbrev pub body_outcome : Procedure → List Value → Store → Completion
  body_outcome p env st =
      followed (block_outcome (block_of p.body) (env ++ replicate p.locals (Num (pos 0))) st)
      (λ env st. Gives (pos 0) st)

-- ---- two procedures

-- values that no code without calls tells apart
pub data SameValue : Value → Value → Type 0 where
  a_number : (v : ℤ) → SameValue (Num v) (Num v)
  a_closure : (p q : Pair) → SameValue (Closure p) (Closure q)
  an_other : SameValue Other Other

pub data SameValues : List Value → List Value → Type 0 where
  no_values : SameValues [] []
  and_value : {v w : Value} {vs ws : List Value} → SameValue v w → SameValues vs ws
      → SameValues (v ∷ vs) (w ∷ ws)

-- outcomes with one value, and globals that belong to each other
pub data SameOutcome (Stores : Store → Store → Type 0) : Completion → Completion → Type 0 where
  both_break : SameOutcome Stores Breaks Breaks
  both_stop : (v : ℤ) → SameOutcome Stores (Stops v) (Stops v)
  both_give : (v : ℤ) (st st' : Store) → Stores st st' → SameOutcome Stores (Gives v st) (Gives v st')

-- Two procedures without calls and loops, with the same parameters and need, that come to the same from the
-- same values.
pub record SameStraight (S : Sides) (t t' : Target) : Type 0 where
  pub one : Procedure
  pub other : Procedure
  pub one_is : proc_at S.one t ≡ Some one
  pub other_is : proc_at S.other t' ≡ Some other
  pub need : one.need ≡ other.need
  pub callbacks : one.callbacks ≡ other.callbacks
  pub straight : AllStraight (block_of one.body)
  pub straight_too : AllStraight (block_of other.body)
  pub same : (env env' : List Value) → SameValues env env' → (st st' : Store) → S.Stores st st'
      → SameOutcome S.Stores (body_outcome t.home one env st) (body_outcome t'.home other env' st')

-- Shared procedures of one name are such. Of hops nothing follows: a procedure that hops to itself may go on
-- forever.
pub record StraightProcedures (S : Sides) (size : ℕ) : Type 1 where
  pub Targets : Target → Target → Type 0
  pub straight : (t t' : Target) → Targets t t' → SameStraight S t t'
  pub found : (part name : List ℕ) → BothFound S Targets (found S.one part name) (found S.other part name)
  pub parts : (t t' : Target) → Targets t t' → part_name_of S.one t.home ≡ part_name_of S.other t'.home
  pub hops : (n : ℕ) → SameWaits S n → (t t' : Target) → Targets t t' → (c c' : Option Waiter)
      → SameWaiting S n c c' → (left : Option ℕ) (v : ℤ) (st st' : Store) → S.Stores st st'
      → SameBehaviour S n (λ d. (level tracing S.one d).hop (wait_at c d) left t v st)
      (λ d. (level tracing S.other d).hop (wait_at c' d) left t' v st')
  pub starts : (n : ℕ) → SameWaits S n
      → SameBehaviour S n (λ d. start tracing S.one (level tracing S.one d) size (main_target S.one)
      (first_store S.one))
      (λ d. start tracing S.other (level tracing S.other d) size (main_target S.other)
      (first_store S.other))

-- Modules of such procedures mean the same: how many ticks their code takes doesn't matter.
abbrev pub StraightDecide : Type 1
StraightDecide = (S : Sides) (size : ℕ) → StraightProcedures S size → SameRefined S size
