-- Expressions and statements with tokens do what they do without them.
use Rattle.std.proofs.Common.{◌≡◌, refl, sym, ◌∙◌, subst, ℕ, ◌+◌, arith, pos, if◌then◌else◌, List, [], ◌∷◌}
use Rattle.std.proofs.Common.{length, map, Some, None, slice_get}
use Rattle.std.specs.Prelude.{All}
use Rattle.source_events.specs.declared.End.TheVariants.{Halt as Halted, Fail}
use Rattle.proc_language.specs.declared.tree.Name.{Name}
use Rattle.proc_language.specs.declared.module.Proc.{Proc}
use Rattle.proc_language.specs.declared.module.ModuleFields.{ModuleFields}
use Rattle.proc_language.specs.Tree as tree
use Rattle.proc_names.specs.Calls.{calls, args_calls, block_calls}
use Rattle.proc_program.specs.View.{args_of as args_view}
use Rattle.proc_program.specs.Lower.{variable_of, row_of, handle_of, passed_handle, exp_of, args_of}
use Rattle.proc_semantics.specs.declared.value.Pair.{Pair}
use Rattle.proc_semantics.specs.declared.value.Pair.TheVariants.{Bad, Outside, Runs}
use Rattle.proc_semantics.specs.declared.value.Value.{Value}
use Rattle.proc_semantics.specs.declared.value.Value.TheVariants.{Num, Closure, Other}
use Rattle.proc_semantics.specs.declared.value.Activation.{Activation}
use Rattle.proc_semantics.specs.Told as tells
use Rattle.proc_semantics.specs.Values.{Store, is_zero, variable, global_word, set_word, pair_of, register_of}
use Rattle.proc_semantics.specs.Meaning as plain
use Rattle.proc_semantics.specs.Meaning.{result_of, element_at, given_of}
use Rattle.token_language.specs.declared.module.TokenProc.{TokenProc}
use Rattle.token_language.specs.declared.module.TokenModuleFields.{TokenModuleFields}
use Rattle.token_language.specs.Tree.{Expr, number, var, element, call, op, Args, no_args, value, proc, token}
use Rattle.token_language.specs.Tree.{Stmt, set, set_at, do_call, if_then, if_else, while, return, halt, make}
use Rattle.token_language.specs.Tree.{spend, Block, no_stmts, stmt}
use Rattle.token_language.specs.Tokens.{tokens_of}
use Rattle.token_language.specs.Erased.{erased_expr, erased_args, erased_before, erased_block, erased_proc}
use Rattle.token_language.specs.Erased.{erased}
use Rattle.token_check.specs.Tokens.{Full}
use Rattle.token_check.specs.Walk.{FullAfter}
use Rattle.token_check.specs.Typing.{ComesBack, ExprTyped, ArgsTyped}
use Rattle.token_semantics.specs.Hands.{Hands}
use Rattle.token_semantics.specs.Told.{ends, or_fail}
use Rattle.token_semantics.specs.Meaning.{Then, Along, WithArgs, Next, Scope, scope_of, Level, operated}
use Rattle.token_semantics.specs.Meaning.{assigned, behind, world, call_by, called}
use Rattle.token_semantics.specs.Meaning.{expr, args, stmt_of, steps, turn_at}
use Rattle.token_semantics.proofs.Fits.{tokens_given, taken_by, ExprFits, ArgsFit, StmtFits, BlockFits}
use Rattle.token_semantics.specs.Law.{IsAccepted}
use Rattle.token_semantics.proofs.Same.{Running, same_more, ended_same, ticked, emitted, place_same, HandsAre}
use Rattle.token_semantics.proofs.Same.{plus, with_numbers, are_at, give_same, spend_same, make_same}
use Rattle.token_semantics.proofs.Same.{no_numbers_more, numbers_more}
use Rattle.token_semantics.proofs.Places.{PairTakes, ValuesTakeNone, registers_of, pair_takes}
use Rattle.proc_semantics.specs.Values.{World}
use Rattle.token_semantics.proofs.Reached.{StmtGoes, BlockGoes}
use Rattle.token_semantics.proofs.Going.{RThen, RAlong, RBack, RStore, RPlaces, RNext, RArgs, RLevel}
use Rattle.token_semantics.proofs.Going.{number_same, choice_same, next_at, joined_next, back_again}
use Rattle.token_semantics.proofs.Going.{assigned_same, lowered}

module _ (modules : List TokenModuleFields) (accepted : All IsAccepted modules) where
  module _ (l : Level) (l' : plain.Level) (lev : RLevel modules l l') where
    abbrev w : World
    w = world modules

    -- ---- a procedure of a module runs in a frame

    module _ (m : TokenModuleFields) (p : TokenProc) (f : Activation)
        (placed : slice_get modules f.home ≡ Some m) where
      abbrev em : ModuleFields
      em = erased m

      abbrev ep : Proc
      ep = erased_proc p

      abbrev scope : Scope
      scope = scope_of m p f

      abbrev tokens : List Name
      tokens = tokens_of p

      abbrev size : ℕ
      size = length (tokens_of p)

      abbrev callee : List Value → Name → Pair
      callee env x = pair_of w f.home env (handle_of em ep x)

      -- without tokens, from the number of the next call on
      abbrev plain_expr : List Value → ℕ → Expr → plain.Then → Store → tells.Comp
      plain_expr env n e k = plain.expr w l' f env (exp_of em ep n (erased_expr e)) k

      abbrev plain_args : List Value → ℕ → Args → (List Value → Store → tells.Comp) → Store → tells.Comp
      plain_args env n xs k = plain.args w l' f env (args_view (args_of em ep n (erased_args xs))) k

      abbrev plain_steps : ℕ → tree.Block → plain.Then → plain.Next → plain.Next
      plain_steps n b back k = plain.block w l' f (lowered m p n b) back k

      -- ---- calls

      call_by_same : (r : Running) (given site : ℕ) (q : Pair) (ns : List ℕ) → PairTakes modules q (length ns)
          → (vs : List Value) → ValuesTakeNone modules vs → (k : Then) (k' : plain.Then) → RThen r k k'
          → RStore (with_numbers r ns) (call_by modules l f.home given site q ns vs k)
          (plain.call_by w l' f.home given site q vs k')
      call_by_same r given site Bad ns e vs none k k' h st = ended_same (with_numbers r ns) Fail
      call_by_same r given site Outside [] e vs none k k' h st =
          no_numbers_more r _ _ (emitted r _ _ _
          (lev.waits r (Some _) (Some _) (refl, refl, refl, refl, h) st))
      call_by_same r given site Outside (n ∷ ns) e vs none k k' h st = absurd (omega (arith, e))
      call_by_same r given site (Runs t) ns e vs none k k' h st =
          lev.run r t (Some given) ns (map register_of vs) e (registers_of modules vs none) k k' h st

      called_same : (r : Running) (env : List Value) → ValuesTakeNone modules env → (site : ℕ) (x : Name)
          (ns : List ℕ) → length ns ≡ taken_by m (handle_of em ep x) → (k : Along) (k' : plain.Then)
          (hands : Hands) → RThen r (k hands) k'
          → RPlaces modules (with_numbers r ns) (called modules l scope env site x k hands ns)
          (λ vs. plain.call w l' f site (callee env x) vs k')
      called_same r env none site x ns e k k' hands h vs low st =
          let takes = pair_takes modules accepted f.home m placed env none (handle_of em ep x) in
          place_same (with_numbers r ns) (given_of f) _ _ (λ given.
          call_by_same r given site (callee env x) ns (subst (PairTakes modules (callee env x)) (sym e) takes)
          vs low (k hands) k' h st)

      -- ---- expressions and arguments

      mutual
        expr_same : (e : Expr) (s t : Full) → ExprTyped tokens e s t → ExprFits m p e → (r : Running) (n : ℕ)
            (env : List Value) → ValuesTakeNone modules env → (k : Along) (k' : plain.Then)
            → RAlong size r t k k' → (hands : Hands) → HandsAre size s hands
            → RStore (plus r hands) (expr modules l scope env n e k hands) (plain_expr env n e k')
        expr_same (number at v) s t typed fits r n env none k k' h hands are st =
            ticked (plus r hands) _ _ (h hands (are_at size s t hands typed are) (pos v) st)
        expr_same (var at x) s t typed fits r n env none k k' h hands are st =
            let v = variable f.home env st (variable_of em ep x) in
            ticked (plus r hands) _ _ (h hands (are_at size s t hands typed are) v st)
        expr_same (element at x e) s t typed fits r n env none k k' h hands are st =
            let a = row_of em ep x in
            ticked (plus r hands) _ _ (expr_same e s t typed fits r n env none
            (λ hands i st. or_fail (element_at a i) (λ o. k hands (global_word st f.home o) st))
            (λ i st. plain.element a i (λ o. k' (global_word st f.home o) st))
            (λ hands are i st. place_same (plus r hands) (element_at a i) _ _
            (λ o. h hands are (global_word st f.home o) st)) hands are st)
        expr_same (call at x xs) s t typed fits r n env none k k' h hands are st =
            let site = n + args_calls (erased_args xs) in
            ticked (plus r hands) _ _ (args_same xs s t typed fits.1 r n env none
            (called modules l scope env site x k) (λ vs. plain.call w l' f site (callee env x) vs k')
            (λ hands are ns e.
            called_same (plus r hands) env none site x ns (e ∙ fits.0) k k' hands (h hands are))
            hands are st)
        expr_same (op at o a b) s t typed fits r n env none k k' h hands are st =
            let next = n + calls (erased_expr a) in
            ticked (plus r hands) _ _ (expr_same a s typed.0 typed.1 fits.0 r n env none
            (λ hands x. expr modules l scope env next b (λ hands y. operated o x y (k hands)) hands)
            (λ x. plain_expr env next b (λ y. plain.operated o x y k'))
            (λ hands are x. expr_same b typed.0 t typed.2 fits.1 r next env none
            (λ hands y. operated o x y (k hands)) (λ y. plain.operated o x y k')
            (λ hands are y. number_same (plus r hands) (result_of o x y) (k hands) k'
            (h hands are)) hands are)
            hands are st)

        args_same : (xs : Args) (s t : Full) → ArgsTyped tokens xs s t → ArgsFit m p xs
            → (r : Running) (n : ℕ)
            (env : List Value) → ValuesTakeNone modules env → (k : WithArgs)
            (k' : List Value → Store → tells.Comp) → RArgs modules size r t (tokens_given xs) k k'
            → (hands : Hands) → HandsAre size s hands
            → RStore (plus r hands) (args modules l scope env n xs k hands) (plain_args env n xs k')
        args_same no_args s t typed fits r n env none k k' h hands are st =
            numbers_more (plus r hands) _ _ (h hands (are_at size s t hands typed are) [] refl [] tt st)
        args_same (value e xs) s t typed fits r n env none k k' h hands are st =
            let next = n + calls (erased_expr e) in
            expr_same e s typed.0 typed.1 fits.0 r n env none
            (λ hands v. args modules l scope env next xs (λ hands ns vs. k hands ns (Num v ∷ vs)) hands)
            (λ v. plain_args env next xs (λ vs. k' (Num v ∷ vs)))
            (λ hands are v. args_same xs typed.0 t typed.2 fits.1 r next env none
            (λ hands ns vs. k hands ns (Num v ∷ vs)) (λ vs. k' (Num v ∷ vs))
            (λ hands are ns e vs low. h hands are ns e (Num v ∷ vs) (tt, low)) hands are) hands are st
        args_same (proc x xs) s t typed fits r n env none k k' h hands are st =
            let q = pair_of w f.home env (passed_handle em ep x) in
            let low : PairTakes modules q 0 = subst (PairTakes modules q) fits.0
            (pair_takes modules accepted f.home m placed env none (passed_handle em ep x)) in
            ticked (plus r hands) _ _ (args_same xs s t typed fits.1 r n env none
            (λ hands ns vs. k hands ns (Closure q ∷ Other ∷ vs)) (λ vs. k' (Closure q ∷ Other ∷ vs))
            (λ hands are ns e vs lows. h hands are ns e (Closure q ∷ Other ∷ vs)
            (low, (tt, lows))) hands are st)
        args_same (token x xs) s t typed fits r n env none k k' h hands are st =
            give_same tokens x s typed.0 hands are r typed.1
            (λ i hands. args modules l scope env n xs (λ hands ns vs. k hands (i ∷ ns) vs) hands st)
            (plain_args env n xs k' st)
            (λ i hands are.
            let r' = with_numbers r (i ∷ []) in
            (args_same xs typed.0 t typed.2 fits r' n env none (λ hands ns vs. k hands (i ∷ ns) vs) k'
            (λ hands are ns e vs low st.
            same_more (with_numbers (plus r' hands) ns) (with_numbers (plus r hands) (i ∷ ns))
            (record { there = λ n. omega arith; spent = λ n. refl; most = λ n. omega arith }) _ _
            (h hands are (i ∷ ns) (omega (arith, e)) vs low st)) hands are st))

      -- ---- statements

      mutual
        -- a statement, and what stands after it
        stmt_same : (x : Stmt) (s : Full) (after : FullAfter) → StmtGoes tokens x s after → StmtFits m p x
            → (r : Running) (n : ℕ) (back : Along) (back' : plain.Then) → RBack size r back back'
            → (k : Next) (b : tree.Block) (k' : plain.Next)
            → RNext modules size r after k (plain_steps (behind n x) b back' k')
            → RNext modules size r (Some s) (stmt_of modules l scope n x back k)
            (plain_steps n (erased_before x b) back' k')
        stmt_same (set at end x e) s after typed fits r n back back' rb k b k' h hands are env none st =
            let goes = plain_steps (behind n (set at end x e)) b back' k' in
            let place = variable_of em ep x in
            ticked (plus r hands) _ _ (expr_same e s typed.0 typed.1 fits r n env none
            (λ hands v. assigned f.home place v (k hands) env) (λ v. plain.assigned f.home place v goes env)
            (λ hands are v. assigned_same modules (plus r hands) f.home place v (k hands) goes
            (next_at modules size r (Some typed.0) after k goes typed.2 h hands are) env none) hands are st)
        stmt_same (set_at at end x i e) s after typed fits r n back back' rb k b k' h hands are env none st =
            let goes = plain_steps (behind n (set_at at end x i e)) b back' k' in
            let a = row_of em ep x in
            let next = n + calls (erased_expr i) in
            ticked (plus r hands) _ _ (expr_same i s typed.0 typed.1 fits.0 r n env none
            (λ hands u. expr modules l scope env next e
            (λ hands v st. or_fail (element_at a u) (λ o. k hands env (set_word st f.home o v))) hands)
            (λ u. plain_expr env next e (λ v st. plain.element a u (λ o. goes env (set_word st f.home o v))))
            (λ hands are u. expr_same e typed.0 typed.2 typed.3 fits.1 r next env none
            (λ hands v st. or_fail (element_at a u) (λ o. k hands env (set_word st f.home o v)))
            (λ v st. plain.element a u (λ o. goes env (set_word st f.home o v)))
            (λ hands are v st. place_same (plus r hands) (element_at a u) _ _
            (λ o. next_at modules size r (Some typed.2) after k goes typed.4 h hands are env none
            (set_word st f.home o v))) hands are) hands are st)
        stmt_same (do_call at end x xs) s after typed fits r n back back' rb k b k' h hands are env none st =
            let goes = plain_steps (behind n (do_call at end x xs)) b back' k' in
            let site = n + args_calls (erased_args xs) in
            ticked (plus r hands) _ _ (ticked (plus r hands) _ _
            (args_same xs s typed.0 typed.1 fits.1 r n env none
            (called modules l scope env site x (λ hands v. k hands env))
            (λ vs. plain.call w l' f site (callee env x) vs (λ v. goes env))
            (λ hands are ns e. called_same (plus r hands) env none site x ns (e ∙ fits.0)
            (λ hands v. k hands env) (λ v. goes env) hands
            (λ v. next_at modules size r (Some typed.0) after k goes typed.2 h hands are env none))
            hands are st))
        stmt_same (if_then at end c a) s after typed fits r n back back' rb k b k' h hands are env none st =
            let goes = plain_steps (behind n (if_then at end c a)) b back' k' in
            let two = joined_next modules size r typed.2 (Some typed.0) after k goes typed.4 h in
            let inner = n + calls (erased_expr c) in
            ticked (plus r hands) _ _ (expr_same c s typed.0 typed.1 fits.0 r n env none
            (λ hands v. if is_zero v then k hands env else steps modules l scope inner a back k hands env)
            (λ v. if is_zero v then goes env else plain_steps inner (erased_block a) back' goes env)
            (λ hands are v. choice_same (plus r hands) (is_zero v) _ _ _ _ (two.1 hands are env none)
            (block_same a (Some typed.0) typed.2 typed.3 fits.1 r inner back back' rb k goes two.0
            hands are env none)) hands are st)
        stmt_same (if_else at end c a d) s after typed fits r n back back' rb k b k' h hands are env none st =
            let goes = plain_steps (behind n (if_else at end c a d)) b back' k' in
            let two = joined_next modules size r typed.2 typed.4 after k goes typed.6 h in
            let inner = n + calls (erased_expr c) in
            let other = n + calls (erased_expr c) + block_calls (erased_block a) in
            ticked (plus r hands) _ _ (expr_same c s typed.0 typed.1 fits.0 r n env none
            (λ hands v. if is_zero v then steps modules l scope other d back k hands env
            else steps modules l scope inner a back k hands env)
            (λ v. if is_zero v then plain_steps other (erased_block d) back' goes env
            else plain_steps inner (erased_block a) back' goes env)
            (λ hands are v. choice_same (plus r hands) (is_zero v) _ _ _ _
            (block_same d (Some typed.0) typed.4 typed.5 fits.2 r other back back' rb k goes two.1
            hands are env none)
            (block_same a (Some typed.0) typed.2 typed.3 fits.1 r inner back back' rb k goes two.0
            hands are env none)) hands are st)
        stmt_same (while at end c a) s after typed fits r n back back' rb k b k' h hands are env none st =
            let goes = plain_steps (behind n (while at end c a)) b back' k' in
            lev.turns m p f placed r n c a s typed.0 typed.2 typed.1 typed.3 typed.4 fits.0 fits.1 back
            back' rb
            k goes (next_at modules size r (Some typed.0) after k goes typed.5 h) hands are env none st
        stmt_same (return at end e) s after typed fits r n back back' rb k b k' h hands are env none st =
            ticked (plus r hands) _ _
            (expr_same e s typed.0 typed.1 fits r n env none back back' (rb typed.0 typed.2) hands are st)
        stmt_same (halt at end e) s after typed fits r n back back' rb k b k' h hands are env none st =
            ticked (plus r hands) _ _ (expr_same e s typed.0 typed.1 fits r n env none
            (λ hands v st. ends (Halted v)) (λ v st. tells.ends (Halted v))
            (λ hands are v st. ended_same (plus r hands) (Halted v)) hands are st)
        stmt_same (make at end x) s after typed fits r n back back' rb k b k' h hands are env none st =
            let goes = plain_steps n b back' k' in
            make_same tokens x s typed.0 hands are r typed.1 (λ hands. k hands env st) (goes env st)
            (λ hands are. next_at modules size r (Some typed.0) after k goes typed.2 h hands are env none st)
        stmt_same (spend at end x) s after typed fits r n back back' rb k b k' h hands are env none st =
            let goes = plain_steps n b back' k' in
            spend_same tokens x s typed.0 hands are r typed.1
            (λ hands. k hands env st) (goes env st)
            (λ hands are. next_at modules size r (Some typed.0) after k goes typed.2 h hands are env none st)

        pub block_same : (b : Block) (before after : FullAfter) → BlockGoes tokens b before after
            → BlockFits m p b
            → (r : Running) (n : ℕ) (back : Along) (back' : plain.Then) → RBack size r back back'
            → (k : Next) (k' : plain.Next) → RNext modules size r after k k'
            → RNext modules size r before (steps modules l scope n b back k)
            (plain_steps n (erased_block b) back' k')
        block_same no_stmts before after typed fits r n back back' rb k k' h =
            next_at modules size r before after k k' typed h
        block_same (stmt x b) None after typed fits r n back back' rb k k' h = tt
        block_same (stmt x b) (Some s) after typed fits r n back back' rb k k' h =
            stmt_same x s typed.0 typed.1 fits.0 r n back back' rb
            (steps modules l scope (behind n x) b back k) (erased_block b) k'
            (block_same b typed.0 after typed.2 fits.1 r (behind n x) back back' rb k k' h)

      pub turn_same : (r : Running) (n : ℕ) (c : Expr) (a : Block) (s t : Full) (u : FullAfter)
          → ExprTyped tokens c s t → BlockGoes tokens a (Some t) u → ComesBack s u
          → ExprFits m p c → BlockFits m p a → (back : Along) (back' : plain.Then) → RBack size r back back'
          → (k : Next) (k' : plain.Next) → RNext modules size r (Some t) k k'
          → RNext modules size r (Some s) (turn_at modules l scope n c a back k)
          (plain.turn_at w l' f (exp_of em ep n (erased_expr c))
          (lowered m p (n + calls (erased_expr c)) (erased_block a)) back' k')
      turn_same r n c a s t u typed_c typed_a comes fits_c fits_a back back' rb k k' h hands are env none st =
          let inner = n + calls (erased_expr c) in
          let again = l.turn scope n c a back k in
          let again' = l'.turn f (exp_of em ep n (erased_expr c))
          (lowered m p inner (erased_block a)) back' k' in
          let loop = back_again modules size r s u again again' comes (lev.turns m p f placed r n c a s t u
          typed_c typed_a comes fits_c fits_a back back' rb k k' h) in
          ticked (plus r hands) _ _ (expr_same c s t typed_c fits_c r n env none
          (λ hands v. if is_zero v then k hands env else steps modules l scope inner a back again hands env)
          (λ v. if is_zero v then k' env else plain_steps inner (erased_block a) back' again' env)
          (λ hands are v. choice_same (plus r hands) (is_zero v) _ _ _ _ (h hands are env none)
          (block_same a (Some t) u typed_a fits_a r inner back back' rb again again' loop hands are env none))
          hands are st)
