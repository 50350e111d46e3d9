-- What tokens spell keeps the limits, whatever trees are made of it.
use Rattle.std.proofs.Common.{◌≡◌, Bool, true, false, ℕ, zero, suc, ◌+◌, ◌≤◌, ◌<◌, List, [], ◌∷◌, length}
use Rattle.std.proofs.Common.{arith}
use Rattle.std.specs.Prelude.{nat_lt, codes, All, sum_by}
use Rattle.std.proofs.lemmas.Bool.{leb-true, ltb-true}
use Rattle.std.proofs.lemmas.List.Sums.{sum_by-cons}
use Rattle.proc_language.specs.declared.TheConstants.{MOST_ITEMS, MOST_REGISTERS, MOST_LOCALS, MOST_TOKENS}
use Rattle.proc_language.specs.declared.TheConstants.{MOST_TERMS}
use Rattle.proc_language.specs.declared.tree.Name.{Name}
use Rattle.proc_language.specs.declared.tree.Op.{Op}
use Rattle.proc_language.specs.Limits.{Each, NameFits, ImportFits, GlobalFits}
use Rattle.phrases.specs.Phrase.{then, only, one, nothing, many}
use Rattle.phrases.proofs.Offers.{gives_only, gives_nothing, gives_or, gives_then, gives_next, gives_test}
use Rattle.phrases.proofs.Offers.{gives_as, gives_many}
use Rattle.proc_grammar.specs.Makes.{Actions}
use Rattle.proc_grammar.specs.Lexemes.{Lexeme, words_of, sign, semicolon}
use Rattle.proc_grammar.specs.Tokens.{IsLexeme}
use Rattle.proc_grammar.specs.Grammar as grammar
use Rattle.proc_grammar.specs.Grammar.{Phrase, IsText, is_literal, is_arity, behind_arg, behind_param}
use Rattle.proc_grammar.specs.Grammar.{behind_local, behind_params, operated, sum_of, room_in_body, Taken}
use Rattle.proc_grammar.specs.Grammar.{none_taken}
use Rattle.proc_grammar.proofs.Added.{gives_added}
use Rattle.proc_grammar.proofs.Limits.{Limits, Keeps, Leads, LeadsParams, LeadsLocals, Few}
use Rattle.proc_grammar.proofs.Leaves.{Gives, gives_counted, f_name, f_num, f_import, f_global, f_header}

-- room for so many more below a limit
more_room : (n k m most : ℕ) → k ≡ m → n + m ≤ most → n + k ≤ most
more_room n k m most e h = omega (arith, e, h)

module _ {E A S P V R M : Type 0} (T : Actions E A S P V R M) (L : Limits E A S P V R M) (keeps : Keeps T L)
  where
    f_word : Gives (grammar.a_word T true) NameFits
    f_word = f_name (words_of T.tokens)

    -- ---- expressions

    sum_fits : (e : E) (more : List (Op × E)) → L.Expr e → Each (λ (x : Op × E). L.Expr x.1) more
        → L.Expr (sum_of T e more)
    sum_fits e [] f h = f
    sum_fits e (x ∷ more) f h =
        sum_fits (operated T x.0 e x.1) more (keeps.op (T.place e) x.0 e x.1 f h.0) h.1

    -- what stands within the limits, where it fits
    abbrev FitsWhere : Bool → E → Type 0
    FitsWhere fits e = (fits ≡ true) × L.Expr e

    -- an argument after others
    abbrev ArgFits : ℕ → A → Type 0
    ArgFits used a = (behind_arg T used a ≤ MOST_REGISTERS) × Leads T L used a

    module _ (room : ℕ) (inner : Bool → Phrase E) (each : (fits : Bool) → Gives (inner fits) (FitsWhere fits))
      where
        f_arg : (used : ℕ) → used ≤ MOST_REGISTERS → Gives (grammar.arg T true room inner used) (ArgFits used)
        unfolding grammar.token_arg grammar.arg_proc grammar.arg_value
        f_arg used i =
            gives_added T.tokens (codes "token") keeps.tokens
            (λ makes k. gives_next (λ at. gives_then f_word (λ x n.
            gives_only (makes.arg x)
            (more_room used _ 0 4 (k.registers x) (omega (arith, i)), k.arg used x n))))
            (gives_or
            (gives_next (λ at. gives_test (nat_lt (used + 1) MOST_REGISTERS)
            (λ below u. gives_then f_word (λ f n. gives_only (T.pass f)
            (let lt : used + 1 < 4 = ltb-true _ _ below in
            (more_room used _ 2 4 (keeps.pass_registers f) (omega (arith, lt)), keeps.pass used f n))))))
            (gives_then (each (nat_lt used MOST_REGISTERS)) (λ e h. gives_only (T.value e)
            (let lt : used < 4 = ltb-true _ _ h.0 in
            (more_room used _ 1 4 (keeps.value_registers e) (omega (arith, lt)), keeps.value used e h.1)))))

        f_args : Gives (grammar.args T true room inner) (L.Args 0)
        unfolding grammar.args grammar.some_args
        f_args = gives_next (λ o. gives_or
            (gives_next (λ e. gives_only [] (keeps.no_args 0 (omega arith))))
            (gives_then (f_arg 0 (omega arith)) (λ first h.
            gives_then (gives_many (behind_arg T) (grammar.next_arg T true room inner)
            (λ used. used ≤ MOST_REGISTERS) (Leads T L) L.Args (λ used i. gives_next (λ c. f_arg used i))
            keeps.no_args (λ used a args g. g args) (behind_arg T 0 first) h.0) (λ others more.
            gives_next (λ e. gives_only (first ∷ others) (h.1 others more))))))

        f_index : Gives (grammar.index T true room inner) L.Expr
        unfolding grammar.index
        f_index = gives_next (λ o. gives_then (each true) (λ e h. gives_next (λ b. gives_only e h.1)))

        f_number : (fits : Bool) → Gives (grammar.number_term T true room inner fits) (FitsWhere fits)
        unfolding grammar.number_term
        f_number fits = gives_next (λ n. gives_test (is_literal n.value) (λ small u. gives_test fits (λ f v.
            gives_only _ (f, keeps.number n.at n.value (leb-true _ _ small)))))

        f_name_term : (fits : Bool) → Gives (grammar.name_term T true room inner fits) (FitsWhere fits)
        unfolding grammar.name_term
        f_name_term fits = gives_then f_word (λ x n. gives_test fits (λ f u. gives_or
            (gives_next (λ b. gives_then f_index (λ e h. gives_only _ (f, keeps.element x.at x e n h))))
            (gives_or
            (gives_next (λ b. gives_then f_args (λ args h. gives_only _ (f, keeps.call x.at x args n h))))
            (gives_only _ (f, keeps.var x.at x n)))))

        f_bracket : (fits : Bool) → Gives (grammar.bracket_term T true room inner fits) (FitsWhere fits)
        unfolding grammar.bracket_term
        f_bracket fits = gives_next
            (λ b. gives_test fits
            (λ f u. gives_next
            (λ o. gives_then (each true) (λ e h. gives_next (λ c. gives_only e (f, h.1))))))

        f_term : (fits : Bool) → Gives (grammar.term T true room inner fits) (FitsWhere fits)
        f_term fits = gives_or (f_number fits) (gives_or (f_bracket fits) (f_name_term fits))

        f_next_term : (count : ℕ) → Gives (grammar.next_term T true room inner count)
            (λ (x : Op × E). L.Expr x.1)
        unfolding grammar.next_term
        f_next_term count =
            gives_next (λ o. gives_then (f_term (nat_lt count MOST_TERMS)) (λ e h. gives_only (o, e) h.1))

        f_sum : (fits : Bool) → Gives (grammar.sum T true room inner fits) (FitsWhere fits)
        unfolding grammar.sum
        f_sum fits = gives_then (f_term fits) (λ first h.
            gives_then (gives_many grammar.one_more (grammar.next_term T true room inner) (λ n. Unit {0})
            (λ n (x : Op × E). L.Expr x.1) (λ n more. Each (λ (x : Op × E). L.Expr x.1) more)
            (λ n u. gives_as (f_next_term n) (λ x f. (tt, f))) (λ n u. tt) (λ n x xs f more. (f, more)) 1 tt)
            (λ others more. gives_only (sum_of T first others) (h.0, sum_fits first others h.1 more)))

        f_expr_with : (fits : Bool) → Gives (grammar.expr_with T true room inner fits) (FitsWhere fits)
        unfolding grammar.expr_with grammar.comparison_part
        f_expr_with fits = gives_then (f_sum fits) (λ left h. gives_or
            (gives_next (λ o. gives_then (f_sum true)
            (λ right r. gives_only _ (h.0, keeps.op (T.place left) o left right h.1 r.1))))
            (gives_only left h))

    f_expr : (room : ℕ) (fits : Bool) → Gives (grammar.expr T true room fits) (FitsWhere fits)
    f_expr zero fits = f_expr_with zero (λ b. nothing) (λ b. gives_nothing) fits
    f_expr (suc room) fits = f_expr_with (suc room) (grammar.expr T true room) (f_expr room) fits

    f_inner : (room : ℕ) (fits : Bool) → Gives (grammar.inner_expr T true room fits) (FitsWhere fits)
    f_inner zero fits = gives_nothing
    f_inner (suc room) fits = f_expr room fits

    -- ---- statements

    f_token_stmt : (w : List ℕ) (made : ℕ → ℕ → Name → S) → ((at end : ℕ) (x : Name) → NameFits x
        → L.Stmt (made at end x)) → Gives (grammar.token_stmt T true w made) L.Stmt
    unfolding grammar.token_stmt
    f_token_stmt w made fits =
        gives_next (λ at. gives_then f_word (λ x n. gives_next (λ end. gives_only _ (fits at end x n))))

    module _ (room : ℕ) (inner : Phrase (List S)) (each : Gives inner L.Body) where
      -- an expression and a semicolon
      f_ended : (f : E → ℕ → S) → ((e : E) (end : ℕ) → L.Expr e → L.Stmt (f e end))
          → Gives (then (grammar.expr T true room true)
          (λ e. then (one (sign semicolon)) (λ end. only (f e end)))) L.Stmt
      f_ended f fits = gives_then (f_expr room true)
          (λ e h. gives_next (λ end. gives_only (f e end) (fits e end h.1)))

      f_target : (x : Name) → NameFits x → Gives (grammar.target_part T true room inner x) L.Stmt
      unfolding grammar.target_part grammar.set_part grammar.set_at_part grammar.calls_part
      f_target x n = gives_or
          (gives_next (λ a. f_ended (λ e end. T.set x.at end x e) (λ e end. keeps.set x.at end x e n)))
          (gives_or
          (gives_next (λ b. gives_then (f_index room (grammar.inner_expr T true room) (f_inner room)) (λ i k.
          gives_next (λ a. f_ended (λ e end. T.set_at x.at end x i e)
          (λ e end. keeps.set_at x.at end x i e n k)))))
          (gives_next
          (λ b. gives_then (f_args room (grammar.inner_expr T true room) (f_inner room)) (λ args h.
          gives_next (λ end. gives_only _ (keeps.do_call x.at end x args n h))))))

      f_block : Gives (grammar.block T true room inner) (λ body. L.Body body.0)
      unfolding grammar.block
      f_block = gives_next
          (λ b. gives_next (λ o. gives_then each (λ body h. gives_next (λ end. gives_only (body, end) h))))

      f_plain_stmt : Gives (grammar.plain_stmt T true room inner) L.Stmt
      unfolding grammar.if_stmt grammar.while_stmt grammar.return_stmt grammar.halt_stmt grammar.name_stmt
      f_plain_stmt = gives_or
          (gives_next (λ at. gives_then (f_expr room true) (λ e h. gives_then f_block (λ body b. gives_or
          (gives_next (λ w. gives_then f_block (λ other d.
          gives_only _ (keeps.if_else at other.1 e body.0 other.0 h.1 b d))))
          (gives_only _ (keeps.if_then at body.1 e body.0 h.1 b))))))
          (gives_or (gives_next (λ at. gives_then (f_expr room true) (λ e h. gives_then f_block (λ body b.
          gives_only _ (keeps.while at body.1 e body.0 h.1 b)))))
          (gives_or (gives_next (λ at. f_ended (λ e end. T.return at end e) (λ e end. keeps.return at end e)))
          (gives_or (gives_next (λ at. f_ended (λ e end. T.halt at end e) (λ e end. keeps.halt at end e)))
          (gives_then f_word f_target))))

      f_stmt : Gives (grammar.stmt T true room inner) L.Stmt
      unfolding grammar.token_stmt
      f_stmt =
          gives_added T.tokens (codes "make") keeps.tokens
          (λ makes k. f_token_stmt (codes "make") makes.make k.make)
          (gives_added T.tokens (codes "spend") keeps.tokens
          (λ makes k. f_token_stmt (codes "spend") makes.spend k.spend) f_plain_stmt)

      f_stmts_with : Gives (grammar.stmts_with T true room inner) L.Body
      unfolding grammar.stmts_with
      f_stmts_with = gives_many (λ u s. u) (λ (u : Unit {0}). grammar.stmt T true room inner)
          (λ u. Unit {0}) (λ u s. L.Stmt s) (λ u body. L.Body body)
          (λ u i. gives_as f_stmt (λ s h. (tt, h))) (λ u i. keeps.no_stmts) (λ u. keeps.stmt) tt tt

    f_stmts : (room : ℕ) → Gives (grammar.stmts T true room) L.Body
    f_stmts zero = f_stmts_with zero nothing gives_nothing
    f_stmts (suc room) = f_stmts_with (suc room) (grammar.stmts T true room) (f_stmts room)

    -- ---- parameters and locals

    -- no more registers and tokens than there may be
    abbrev Room : ℕ → Taken → Type 0
    Room most used = (used.slots ≤ most) × (used.tokens ≤ MOST_TOKENS)

    abbrev ParamFits : Taken → P → Type 0
    ParamFits used p = Room MOST_REGISTERS (behind_param T used p) × LeadsParams T L used p

    f_plain_param : (used : Taken) → Room MOST_REGISTERS used → Gives (grammar.plain_param T true used.slots)
        (ParamFits used)
    unfolding grammar.plain_param grammar.arity_part
    f_plain_param used i = gives_then f_word (λ x n. gives_test (nat_lt used.slots MOST_REGISTERS)
        (λ below u. gives_or
        (gives_next (λ s. gives_test (nat_lt (used.slots + 1) MOST_REGISTERS) (λ low v.
        gives_then (f_num is_arity) (λ arity a. gives_only _
        (let lt : used.slots + 1 < 4 = ltb-true _ _ low in (
          (
            more_room used.slots _ 2 4 (keeps.callback_registers x arity) (omega (arith, lt)),
            more_room used.tokens _ 0 60 (keeps.callback_tokens x arity) (omega (arith, i.1)),
          ),
          keeps.callback used x arity n (leb-true _ _ a),
        ))))))
        (gives_only _ (let lt : used.slots < 4 = ltb-true _ _ below in (
          (
            more_room used.slots _ 1 4 (keeps.param_registers x) (omega (arith, lt)),
            more_room used.tokens _ 0 60 (keeps.param_tokens x) (omega (arith, i.1)),
          ),
          keeps.param used x n,
        )))))

    f_param : (used : Taken) → Room MOST_REGISTERS used → Gives (grammar.param T true used) (ParamFits used)
    unfolding grammar.token_param
    f_param used i =
        gives_added T.tokens (codes "token") keeps.tokens
        (λ makes k. gives_next (λ at. gives_then f_word (λ x n.
        gives_test (nat_lt used.tokens MOST_TOKENS) (λ below u. gives_only (makes.param x)
        (let lt : used.tokens < 60 = ltb-true _ _ below in (
          (
            more_room used.slots _ 0 4 (k.param_registers x) (omega (arith, i.0)),
            more_room used.tokens _ 1 60 (k.param_tokens x) (omega (arith, lt)),
          ),
          k.param used x n,
        ))))))
        (f_plain_param used i)

    -- the tokens of these parameters, too, are no more than there may be
    abbrev ParamsFit : Taken → List P → Type 0
    ParamsFit used params = L.Params used params × (used.tokens + sum_by T.param_tokens params ≤ MOST_TOKENS)

    more_params : (used : Taken) (p : P) (params : List P) → LeadsParams T L used p
        → ParamsFit (behind_param T used p) params → ParamsFit used (p ∷ params)
    more_params used p params g h = (
      g params h.0,
      (let le : used.tokens + T.param_tokens p + sum_by T.param_tokens params ≤ 60 = h.1 in
          omega (arith, le, sum_by-cons T.param_tokens p params)),
    )

    f_params : Gives (grammar.params T true) (ParamsFit none_taken)
    unfolding grammar.params grammar.some_params
    f_params = gives_next (λ b. gives_or
        (gives_next (λ e. gives_only [] (keeps.no_params none_taken (omega arith), omega arith)))
        (gives_then (f_param none_taken (omega arith, omega arith)) (λ first h.
        gives_then (gives_many (behind_param T) (grammar.next_param T true) (Room MOST_REGISTERS)
        (LeadsParams T L) ParamsFit (λ used i. gives_next (λ c. f_param used i))
        (λ used i. (keeps.no_params used i.0, (let le : used.tokens ≤ 60 = i.1 in omega (arith, le))))
        more_params (behind_param T none_taken first) h.0) (λ others more.
        gives_next (λ e. gives_only (first ∷ others) (more_params none_taken first others h.1 more))))))

    f_local : (used : Taken) → Room MOST_LOCALS used → Gives (grammar.local_item T true used)
        (λ v. Room MOST_LOCALS (behind_local T used v) × LeadsLocals T L used v)
    unfolding grammar.token_local grammar.plain_local
    f_local used i =
        gives_added T.tokens (codes "token") keeps.tokens
        (λ makes k. gives_next (λ at. gives_then f_word (λ x n.
        gives_test (nat_lt used.tokens MOST_TOKENS) (λ below u. gives_next (λ e. gives_only (makes.local x)
        (let lt : used.tokens < 60 = ltb-true _ _ below in (
          (
            more_room used.slots _ 0 64 (k.local_count x) (omega (arith, i.0)),
            more_room used.tokens _ 1 60 (k.local_tokens x) (omega (arith, lt)),
          ),
          k.local used x n,
        )))))))
        (gives_next (λ w. gives_test (nat_lt used.slots MOST_LOCALS) (λ below u.
        gives_then f_word (λ x n. gives_next (λ e. gives_only (T.local x)
        (let lt : used.slots < 64 = ltb-true _ _ below in (
          (
            more_room used.slots _ 1 64 (keeps.local_count x) (omega (arith, lt)),
            more_room used.tokens _ 0 60 (keeps.local_tokens x) (omega (arith, i.1)),
          ),
          keeps.local used x n,
        )))))))

    f_locals : (params : List P) → ParamsFit none_taken params
        → Gives (many (behind_local T) (grammar.local_item T true) (behind_params T params))
        (L.Locals (behind_params T params))
    f_locals params h = gives_many (behind_local T) (grammar.local_item T true) (Room MOST_LOCALS)
        (LeadsLocals T L) L.Locals f_local (λ used i. keeps.no_locals used i.0 i.1)
        (λ used v locals g. g locals) (behind_params T params)
        (omega arith, (let le : 0 + sum_by T.param_tokens params ≤ 60 = h.1 in omega (arith, le)))

    -- ---- procedures and modules

    f_proc_behind : (room at : ℕ) (shared : Bool) → Gives (grammar.proc_behind T true room at shared) L.Proc
    unfolding grammar.proc_behind
    f_proc_behind room at shared =
        gives_then f_word (λ x n. gives_then f_params (λ params p. gives_next (λ b.
        gives_then (f_locals params p) (λ locals l. gives_then (f_stmts room) (λ body h. gives_next (λ end.
        gives_only _ (keeps.proc at end shared x params locals body n p.0 l h)))))))

    f_proc : (room count : ℕ) → Gives (grammar.proc_item T true room count) (λ p. (count < MOST_ITEMS)
        × L.Proc p)
    f_proc room count = gives_or
        (gives_next (λ at. gives_test (nat_lt count MOST_ITEMS)
        (λ below u. gives_next
        (λ w. gives_as (f_proc_behind room at true) (λ p h. (ltb-true _ _ below, h))))))
        (gives_next (λ at. gives_test (nat_lt count MOST_ITEMS)
        (λ below u. gives_as (f_proc_behind room at false) (λ p h. (ltb-true _ _ below, h)))))

    few : {B : Type 0} (G : B → Type 0) (xs : List B) → (0 + length xs ≤ MOST_ITEMS) × Each G xs → Few G xs
    few G xs h = ((let le : 0 + length xs ≤ MOST_ITEMS = h.0 in omega (arith, le)), h.1)

    f_module : (room : ℕ) → Gives (grammar.a_module T true room) L.Module
    unfolding grammar.a_module
    f_module room =
        gives_then (f_header (words_of T.tokens)) (λ head h.
        gives_then (gives_counted MOST_ITEMS (grammar.import_item (words_of T.tokens) true) ImportFits
        (f_import (words_of T.tokens)) 0 (omega arith)) (λ imports i.
        gives_then (gives_counted MOST_ITEMS (grammar.global_item (words_of T.tokens) true) GlobalFits
        (f_global (words_of T.tokens)) 0 (omega arith)) (λ globals g.
        gives_then (f_proc room 0) (λ first p.
        gives_then (gives_counted MOST_ITEMS (grammar.proc_item T true room) L.Proc (f_proc room) 1
        (omega arith)) (λ procs ps.
        gives_only _ (keeps.module_of head imports globals (first ∷ procs) h (few ImportFits imports i)
        (few GlobalFits globals g) (omega arith)
        ((let le : 1 + length procs ≤ MOST_ITEMS = ps.0 in omega (arith, le)), (p.1, ps.1))))))))

    -- what proper tokens spell keeps the limits
    pub spelled_within : (tokens : List Lexeme) (m : M) → All IsLexeme tokens → IsText T tokens m → L.Module m
    spelled_within tokens m proper h = (f_module room_in_body).each tokens m proper h
