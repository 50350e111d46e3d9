-- The meaning of modules with tokens: that of modules, in which a running procedure also has numbers for its
-- tokens. Names lead where they lead without tokens, and calls are numbered as they are there.
use Rattle.std.specs.Prelude.{ℕ, zero, suc, ◌+◌, ◌==◌, ℤ, pos, List, [], ◌∷◌, ◌++◌, map, length, replicate}
use Rattle.std.specs.Prelude.{slice_get, slice_set, Option, Some, None, ◌&&◌, if◌then◌else◌}
use Rattle.std.specs.Str.{bytes_eq}
use Rattle.source_events.specs.declared.Item.{Item}
use Rattle.source_events.specs.declared.Item.TheVariants.{Enter, Ret}
use Rattle.source_events.specs.declared.FeedBack.{FeedBack}
use Rattle.source_events.specs.declared.FeedBack.TheVariants as way
use Rattle.source_events.specs.declared.OutEvent.TheVariants.{CallOut, LeaveOut}
use Rattle.source_events.specs.declared.End.TheVariants.{Halt as Halted, OutOfFuel}
use Rattle.proc_language.specs.declared.tree.Name.{Name}
use Rattle.proc_language.specs.declared.tree.Op.{Op}
use Rattle.proc_language.specs.declared.module.Proc.{Proc}
use Rattle.proc_language.specs.declared.module.ModuleFields.{ModuleFields}
use Rattle.proc_names.specs.Calls.{calls, args_calls, block_calls, proc_calls}
use Rattle.proc_program.specs.declared.program.Location.{Location}
use Rattle.proc_program.specs.declared.program.Location.TheVariants.{Local, Global}
use Rattle.proc_program.specs.declared.program.Procedure.{Procedure}
use Rattle.proc_program.specs.Lower.{variable_of, row_of, handle_of, passed_handle, procedure_of, part_of}
use Rattle.proc_semantics.specs.declared.value.Target.{Target}
use Rattle.proc_semantics.specs.declared.value.Pair.{Pair}
use Rattle.proc_semantics.specs.declared.value.Pair.TheVariants.{Bad, Outside, Runs}
use Rattle.proc_semantics.specs.declared.value.Value.{Value}
use Rattle.proc_semantics.specs.declared.value.Value.TheVariants.{Num, Closure, Other}
use Rattle.proc_semantics.specs.declared.value.Register.{Register}
use Rattle.proc_semantics.specs.declared.value.Activation.{Activation}
use Rattle.proc_semantics.specs.Values.{World, Store, is_zero, global_word, set_word, variable, register_of}
use Rattle.proc_semantics.specs.Values.{taken, value_args, found, main_target, pair_of, registers_fed}
use Rattle.proc_semantics.specs.Meaning as plain
use Rattle.proc_semantics.specs.Meaning.{result_of, element_at, enough, given_of, is_given}
use Rattle.token_language.specs.declared.module.TokenProc.{TokenProc}
use Rattle.token_language.specs.declared.module.TokenModuleFields.{TokenModuleFields}
use Rattle.token_language.specs.Tree.{Expr, number, var, element, call, op, Args, no_args, value, proc, token}
use Rattle.token_language.specs.Tree.{Stmt, set, set_at, do_call, if_then, if_else, while, return, halt, make}
use Rattle.token_language.specs.Tree.{spend, Block, no_stmts, stmt}
use Rattle.token_language.specs.StmtView.{block_of}
use Rattle.token_language.specs.Tokens.{tokens_of}
use Rattle.token_language.specs.Erased.{erased_expr, erased_args, erased_block, erased_proc, erased}
use Rattle.token_check.specs.Tokens.{token_at}
use Rattle.token_semantics.specs.Hands.{Hands, no_numbers, begun}
use Rattle.token_semantics.specs.Told.{TokensTold, Comp, ends, fails, tick, ticks, emit, take_item, or_fail}
use Rattle.token_semantics.specs.Told.{make_at, spend_at, give_at, leave}

-- what goes on with a value outside of a procedure, and inside it, where its hands go along
abbrev pub Then : Type 0
Then = ℤ → Store → Comp

abbrev pub Along : Type 0
Along = Hands → ℤ → Store → Comp

-- what goes on after arguments: the numbers that are handed over, and the values
abbrev pub WithArgs : Type 0
WithArgs = Hands → List ℕ → List Value → Store → Comp

-- what goes on after a statement
abbrev pub Next : Type 0
Next = Hands → List Value → Store → Comp

-- a call that waits
pub record Wait : Type 0 where
  pub part : List ℕ
  pub site : ℕ
  pub base : ℕ
  pub given : ℕ
  pub resume : Then

-- what stays the same all through one run of a procedure: its frame, its module and itself without tokens,
-- and its tokens
pub record Scope : Type 0 where
  pub frame : Activation
  pub fields : ModuleFields
  pub own : Proc
  pub tokens : List Name

abbrev pub scope_of : TokenModuleFields → TokenProc → Activation → Scope
scope_of m p f = record { frame = f; fields = erased m; own = erased_proc p; tokens = tokens_of p }

-- what is done one level down
pub record Level : Type 0 where
  -- a procedure begins, with the words that it is given, the numbers that are handed to it and its registers
  pub proc : Target → Option ℕ → List ℕ → List Register → Then → Store → Comp
  -- the feed is asked, while that call is the newest that waits
  pub wait : Option Wait → Store → Comp
  -- a turn of a loop, the first call of which has this number
  pub turn : Scope → ℕ → Expr → Block → Along → Next → Next
  -- the return of an entered procedure enters another
  pub hop : Option Wait → Option ℕ → Target → Then

-- ---- values

abbrev pub operated : Op → ℤ → ℤ → Then → Store → Comp
operated o x y k st = or_fail (result_of o x y) (λ v. k v st)

abbrev pub assigned : ℕ → Location → ℤ → (List Value → Store → Comp) → List Value → Store → Comp
assigned home (Local i) v k env st = k (slice_set env i (Num v)) st
assigned home (Global o) v k env st = k env (set_word st home o v)

-- ---- values that come to the newest call that waits

abbrev pub resumed : Option Wait → List ℕ → ℕ → ℕ → Option ℕ → Option ℤ → Store → Comp
resumed c part site base left v st =
    or_fail c (λ c. or_fail v (λ v.
    if bytes_eq part c.part && (site == c.site) && (base == c.base) && is_given left c.given
    then c.resume v st else fails))

-- ---- the end of a procedure, by `return` or after its last statement

abbrev pub finish : ℕ → Then → Along
finish need k hands v st = leave hands (ticks (1 + need) (k v st))

-- ---- the number of the next call, after a statement

abbrev pub behind : ℕ → Stmt → ℕ
behind n (set at end x e) = n + calls (erased_expr e)
behind n (set_at at end x i e) = n + (calls (erased_expr i) + calls (erased_expr e))
behind n (do_call at end f xs) = n + (args_calls (erased_args xs) + 1)
behind n (if_then at end c a) = n + (calls (erased_expr c) + block_calls (erased_block a))
behind n (if_else at end c a b) =
    n + (calls (erased_expr c) + (block_calls (erased_block a) + block_calls (erased_block b)))
behind n (while at end c a) = n + (calls (erased_expr c) + block_calls (erased_block a))
behind n (return at end e) = n + calls (erased_expr e)
behind n (halt at end e) = n + calls (erased_expr e)
behind n (make at end x) = n
behind n (spend at end x) = n

-- the number of the first call of the procedure of an index, where that of all these is n
abbrev pub first_call : ℕ → List Proc → ℕ → ℕ
first_call n [] index = n
first_call n (p ∷ ps) zero = n
first_call n (p ∷ ps) (suc index) = first_call (n + proc_calls p) ps index

module _ (modules : List TokenModuleFields) where
  -- the modules without tokens, as they run
  abbrev pub world : World
  world = map part_of (map erased modules)

  -- ---- calls, once their arguments are evaluated

  abbrev pub call_wait : ℕ → ℕ → ℕ → Then → Wait
  call_wait home given site k = record {
    part = plain.part_name_of world home;
    site = site;
    base = plain.home_stack world home + given;
    given = given;
    resume = k;
  }

  abbrev pub call_by : Level → ℕ → ℕ → ℕ → Pair → List ℕ → List Value → Then → Store → Comp
  call_by l home given site Bad ns vs k st = fails
  call_by l home given site Outside ns vs k st =
      emit (CallOut (plain.part_name_of world home) site (value_args vs))
      (l.wait (Some (call_wait home given site k)) st)
  call_by l home given site (Runs t) ns vs k st = l.proc t (Some given) ns (map register_of vs) k st

  -- the call of a name
  abbrev pub called : Level → Scope → List Value → ℕ → Name → Along → WithArgs
  called l s env site f k hands ns vs st =
      or_fail (given_of s.frame) (λ given.
      call_by l s.frame.home given site (pair_of world s.frame.home env (handle_of s.fields s.own f)) ns vs
      (k hands) st)

  abbrev pub passed : Scope → List Value → Name → Pair
  passed s env f = pair_of world s.frame.home env (passed_handle s.fields s.own f)

  -- ---- expressions and arguments, from left to right and from the number of the next call on

  abbrev mutual
    pub expr : Level → Scope → List Value → ℕ → Expr → Along → Hands → Store → Comp
    expr l s env n (number at v) k hands st = tick (k hands (pos v) st)
    expr l s env n (var at x) k hands st =
        tick (k hands (variable s.frame.home env st (variable_of s.fields s.own x)) st)
    expr l s env n (element at x e) k hands st =
        tick (expr l s env n e (λ hands i st. or_fail (element_at (row_of s.fields s.own x) i)
        (λ o. k hands (global_word st s.frame.home o) st)) hands st)
    expr l s env n (call at f xs) k hands st =
        tick (args l s env n xs (called l s env (n + args_calls (erased_args xs)) f k) hands st)
    expr l s env n (op at o a b) k hands st =
        tick (expr l s env n a (λ hands x. expr l s env (n + calls (erased_expr a)) b
        (λ hands y. operated o x y (k hands)) hands) hands st)

    pub args : Level → Scope → List Value → ℕ → Args → WithArgs → Hands → Store → Comp
    args l s env n no_args k hands st = k hands [] [] st
    args l s env n (value e xs) k hands st =
        expr l s env n e (λ hands v. args l s env (n + calls (erased_expr e)) xs
        (λ hands ns vs. k hands ns (Num v ∷ vs)) hands) hands st
    args l s env n (proc f xs) k hands st =
        tick (args l s env n xs (λ hands ns vs. k hands ns (Closure (passed s env f) ∷ Other ∷ vs)) hands st)
    args l s env n (token x xs) k hands st =
        give_at (token_at s.tokens x) hands
        (λ m hands. args l s env n xs (λ hands ns vs. k hands (m ∷ ns) vs) hands st)

  -- ---- statements: `back` is what `return` goes on with, `k` what stands after

  abbrev mutual
    pub stmt_of : Level → Scope → ℕ → Stmt → Along → Next → Next
    stmt_of l s n (set at end x e) back k hands env st =
        tick (expr l s env n e
        (λ hands v. assigned s.frame.home (variable_of s.fields s.own x) v (k hands) env) hands st)
    stmt_of l s n (set_at at end x i e) back k hands env st =
        tick (expr l s env n i (λ hands u. expr l s env (n + calls (erased_expr i)) e
        (λ hands v st. or_fail (element_at (row_of s.fields s.own x) u)
        (λ o. k hands env (set_word st s.frame.home o v))) hands) hands st)
    stmt_of l s n (do_call at end f xs) back k hands env st =
        tick (tick (args l s env n xs
        (called l s env (n + args_calls (erased_args xs)) f (λ hands v. k hands env)) hands st))
    stmt_of l s n (if_then at end c a) back k hands env st =
        tick (expr l s env n c (λ hands v. if is_zero v then k hands env
        else steps l s (n + calls (erased_expr c)) a back k hands env) hands st)
    stmt_of l s n (if_else at end c a b) back k hands env st =
        tick (expr l s env n c (λ hands v. if is_zero v
        then steps l s (n + calls (erased_expr c) + block_calls (erased_block a)) b back k hands env
        else steps l s (n + calls (erased_expr c)) a back k hands env) hands st)
    stmt_of l s n (while at end c a) back k hands env st = l.turn s n c a back k hands env st
    stmt_of l s n (return at end e) back k hands env st = tick (expr l s env n e back hands st)
    stmt_of l s n (halt at end e) back k hands env st =
        tick (expr l s env n e (λ hands v st. ends (Halted v)) hands st)
    stmt_of l s n (make at end x) back k hands env st =
        make_at (token_at s.tokens x) hands (λ hands. k hands env st)
    stmt_of l s n (spend at end x) back k hands env st =
        spend_at (token_at s.tokens x) hands (λ hands. k hands env st)

    pub steps : Level → Scope → ℕ → Block → Along → Next → Next
    steps l s n no_stmts back k hands env st = k hands env st
    steps l s n (stmt x b) back k hands env st =
        stmt_of l s n x back (steps l s (behind n x) b back k) hands env st

  abbrev pub turn_at : Level → Scope → ℕ → Expr → Block → Along → Next → Next
  turn_at l s n c a back k hands env st =
      tick (expr l s env n c (λ hands v. if is_zero v then k hands env
      else steps l s (n + calls (erased_expr c)) a back (l.turn s n c a back k) hands env) hands st)

  -- ---- procedures

  -- a procedure of a module begins; its frame and its places are those that it has without tokens
  abbrev pub begin : Level → ℕ → TokenModuleFields → ℕ → TokenProc → Procedure → Option ℕ → List ℕ
      → List Register → Then → Store → Comp
  begin l home m n p r left ns rs k st =
      or_fail (enough r.need left) (λ left. or_fail (taken [] r.callbacks rs) (λ env.
      steps l (scope_of m p (record { home = home; left = left; need = r.need })) n (block_of p.body)
      (finish r.need k) (λ hands env. finish r.need k hands (pos 0)) (begun (length (tokens_of p)) ns)
      (env ++ replicate r.locals (Num (pos 0))) st))

  abbrev pub proc_of : Level → ℕ → TokenModuleFields → ℕ → TokenProc → Procedure → Option ℕ → List ℕ
      → List Register → Then → Store → Comp
  proc_of l home m n p r left ns rs k st = ticks (1 + r.need) (begin l home m n p r left ns rs k st)

  abbrev pub proc_of_index : Level → ℕ → TokenModuleFields → ℕ → TokenProc → Option ℕ → List ℕ → List Register
      → Then → Store → Comp
  proc_of_index l home m n p left ns rs k st =
      proc_of l home m n p (procedure_of (erased m) n (erased_proc p)) left ns rs k st

  abbrev pub proc_at : Level → Target → Option ℕ → List ℕ → List Register → Then → Store → Comp
  proc_at l t left ns rs k st =
      or_fail (slice_get modules t.home) (λ m. or_fail (slice_get m.procs t.proc) (λ p.
      proc_of_index l t.home m (first_call 0 (erased m).procs t.proc) p left ns rs k st))

  -- ---- the feed; no numbers are handed over from outside

  -- a procedure of this part, which was entered from outside, ends with a value
  abbrev pub left_by : Level → List ℕ → Option Wait → Option ℕ → FeedBack → Then
  left_by l part c left way.Out v st = emit (LeaveOut part v) (l.wait c st)
  left_by l part c left way.Bad v st = fails
  left_by l part c left (way.Hop p n) v st = or_fail (found world p n) (λ t. l.hop c left t v st)
  left_by l part c left (way.Pair p site base) v st =
      or_fail left (λ left. resumed c p site base (Some left) (Some v) st)

  abbrev pub on_item : Level → Option Wait → Store → Item → Comp
  on_item l c st (Enter part name left ints pairs back) =
      or_fail (found world part name) (λ t. l.proc t left [] (registers_fed world ints pairs)
      (left_by l (plain.part_name_of world t.home) c left back) st)
  on_item l c st (Ret part site base v) = resumed c part site base None v st

  -- ---- the levels; a meaning never comes to the lowest, since fuel or feed end before

  abbrev pub level : ℕ → Level
  level zero = record {
    proc = λ t left ns rs k st. ends OutOfFuel;
    wait = λ c st. ends OutOfFuel;
    turn = λ s n c a back k hands env st. ends OutOfFuel;
    hop = λ c left t v st. ends OutOfFuel;
  }
  level (suc d) = record {
    proc = λ t left ns rs k st. proc_at (level d) t left ns rs k st;
    wait = λ c st. take_item (on_item (level d) c st);
    turn = λ s n c a back k hands env st. turn_at (level d) s n c a back k hands env st;
    hop = λ c left t v st.
        proc_at (level d) t left [] (register_of (Num v) ∷ []) ((level d).hop c left t) st;
  }

  -- ---- the whole

  abbrev pub start : Level → ℕ → Option Target → Store → Comp
  start l stack None st = l.wait None st
  start l stack (Some t) st = l.proc t (Some stack) [] [] (λ v st. fails) st

  -- what is told of a feed under a fuel, and what becomes of the numbers
  abbrev pub token_meaning : ℕ → List Item → ℕ → TokensTold
  token_meaning stack feed fuel =
      start (level (fuel + length feed + 1)) stack (main_target world) (map (λ u. u.globals) world) no_numbers
      fuel feed
