-- The reader of modules with limits passed over.
use Rattle.std.proofs.Common.{◌≡◌, Bool, true, false, ℕ, zero, suc, ◌+◌, ◌≤◌, List, refl, arith}
use Rattle.std.specs.Prelude.{codes, nat_lt}
use Rattle.proc_grammar.specs.declared.fault.ParseFault.TheVariants.{Range, TooMany}
use Rattle.proc_language.specs.declared.tree.Name.{Name}
use Rattle.proc_grammar.specs.Makes.{Actions}
use Rattle.proc_grammar.specs.Lexemes.{word, words_of, sign, a_name, a_number, adding, comparing, a_start}
use Rattle.proc_grammar.specs.Lexemes.{a_local, a_proc, square, round, end_round, comma, slash, assign}
use Rattle.proc_language.specs.declared.TheConstants.{MOST_REGISTERS, MOST_TERMS, MOST_ITEMS, MOST_LOCALS}
use Rattle.proc_language.specs.declared.TheConstants.{MOST_TOKENS}
use Rattle.proc_grammar.specs.Grammar.{kept, is_short, is_literal, behind_arg, behind_param}
use Rattle.proc_grammar.specs.Grammar.{behind_local, behind_params, one_more, is_arity, is_length, is_initial}
use Rattle.proc_grammar.specs.Grammar.{is_address, is_return_count, Taken, none_taken}
use Rattle.proc_grammar.specs.Reader.{Reader, tells, one, expected}
use Rattle.proc_grammar.specs.Reading.{next_name, next_num, next_import, next_length, next_minus}
use Rattle.proc_grammar.specs.Reading.{next_initial, next_global, next_field, next_movable, next_header}
use Rattle.proc_grammar.specs.Reading.{arg_value, arg_proc, token_arg, plain_arg, token_behind}
use Rattle.proc_grammar.specs.Reading.{plain_stmt, plain_param, token_param, plain_local, token_local}
use Rattle.proc_grammar.specs.Reading.{next_locals, next_arg, another_arg, some_args, next_args}
use Rattle.proc_grammar.specs.Reading.{next_index, number_term, behind_name, name_term, bracket_term}
use Rattle.proc_grammar.specs.Reading.{next_term, another_term, next_sum, next_comparison, expr_with}
use Rattle.proc_grammar.specs.Reading.{next_expr, inner_expr, set_behind, set_at_behind, calls_behind}
use Rattle.proc_grammar.specs.Reading.{behind_target, name_stmt, next_block, next_else, if_behind}
use Rattle.proc_grammar.specs.Reading.{while_behind, return_behind, halt_behind, next_stmt, stmts_with}
use Rattle.proc_grammar.specs.Reading.{next_stmts, arity_behind, next_param, another_param, some_params}
use Rattle.proc_grammar.specs.Reading.{next_params, next_local, proc_behind, next_proc, next_module}
use Rattle.proc_grammar.proofs.Items.{range_apart}
use Rattle.proc_grammar.proofs.Added.{loose_added}
use Rattle.phrases.proofs.Offers as loose
use Rattle.phrases.proofs.Offers.{loose_same, loose_then, loose_case, loose_holds, loose_many}
use Rattle.proc_grammar.proofs.Told.{distinct, many_apart}

abbrev Looser : {A : Type 0} → Reader A → Reader A → Type 0
Looser = loose.Looser tells

both : (b : Bool) → b ≡ true → b ≡ true
both b e = e

module _ {E A S P V R M : Type 0} (T : Actions E A S P V R M) (n k : ℕ) (le : n ≤ k) where
  l_name : Looser (next_name (words_of T.tokens) true) (next_name (words_of T.tokens) false)
  unfolding next_name
  l_name = loose_then (loose_same (one (a_name (words_of T.tokens))))
      (λ x. loose_holds _ _ (kept true (is_short x))
      (kept false (is_short x)) (Range x.at) (Range x.at) (range_apart x.at) (λ e. refl)
      (λ _o _u. loose_same _))

  l_num : (test : ℕ → Bool) → Looser (next_num true test) (next_num false test)
  unfolding next_num
  l_num test = loose_then (loose_same (one a_number)) (λ m. loose_holds _ _ (kept true (test m.value))
      (kept false (test m.value)) (Range m.at) (Range m.at) (range_apart m.at) (λ e. refl)
      (λ _o _u. loose_same _))

  l_import : (count : ℕ) → Looser (next_import (words_of T.tokens) true count)
      (next_import (words_of T.tokens) false count)
  unfolding next_import
  l_import count = loose_then (loose_same (one (word (codes "import"))))
      (λ at. loose_holds _ _ (kept true (nat_lt (count) MOST_ITEMS)) (kept false (nat_lt (count) MOST_ITEMS))
      (TooMany at) (TooMany at) (many_apart at) (λ e. refl)
      (λ _o _u. loose_then (l_name)
      (λ part. loose_then (loose_same _)
      (λ _d. loose_then (l_name)
      (λ x. loose_then (loose_same _)
      (λ _s. loose_then (l_num is_arity) (λ arity. loose_same _)))))))

  l_length : Looser (next_length true) (next_length false)
  unfolding next_length
  l_length = loose_case (sign square) (λ at. loose_then (l_num is_length) (λ m. loose_same _)) (loose_same _)

  l_minus : Looser (next_minus true) (next_minus false)
  unfolding next_minus
  l_minus = loose_same _

  l_initial : Looser (next_initial true) (next_initial false)
  unfolding next_initial
  l_initial = loose_case (sign assign)
      (λ at. loose_then (l_minus) (λ negative. loose_then (l_num (is_initial negative)) (λ m. loose_same _)))
      (loose_same _)

  l_global : (count : ℕ) → Looser (next_global (words_of T.tokens) true count)
      (next_global (words_of T.tokens) false count)
  unfolding next_global
  l_global count = loose_then (loose_same (one (word (codes "global"))))
      (λ at. loose_holds _ _ (kept true (nat_lt (count) MOST_ITEMS)) (kept false (nat_lt (count) MOST_ITEMS))
      (TooMany at) (TooMany at) (many_apart at) (λ e. refl)
      (λ _o _u. loose_then (l_name)
      (λ x. loose_then (l_length) (λ length. loose_then (l_initial) (λ initial. loose_same _)))))

  module _ (room room' : ℕ) (opens : nat_lt 0 room ≡ true → nat_lt 0 room' ≡ true) (r r' : Bool → Reader E)
      (each : nat_lt 0 room ≡ true → (fits fits' : Bool) → (fits ≡ true → fits' ≡ true)
      → Looser (r fits) (r' fits')) where
    l_index : (at : ℕ) → Looser (next_index T true n room r at) (next_index T false k room' r' at)
    unfolding next_index
    l_index at = loose_holds _ _ (nat_lt 0 room) (nat_lt 0 room') (TooMany at) (TooMany at)
        (many_apart at) opens (λ _o _u. loose_then (each _o true true (both true)) (λ e. loose_same _))

    l_arg : (o : nat_lt 0 room ≡ true) (used : ℕ) → Looser (next_arg T true n room r used)
        (next_arg T false k room' r' used)
    unfolding next_arg token_arg plain_arg arg_proc arg_value
    l_arg o used = loose_added T.tokens (codes "token") (λ makes at. loose_then (l_name) (λ x. loose_same _))
        (loose_case (word (codes "proc"))
        (λ at. loose_holds _ _ (kept true (nat_lt (used + 1) MOST_REGISTERS))
        (kept false (nat_lt (used + 1) MOST_REGISTERS)) (TooMany at) (TooMany at) (many_apart at)
        (λ e. refl) (λ _o _u. loose_then (l_name) (λ f. loose_same _)))
        (loose_then (each o (kept true (nat_lt used MOST_REGISTERS))
        (kept false (nat_lt used MOST_REGISTERS)) (λ e. refl)) (λ e. loose_same _)))

    l_another : (o : nat_lt 0 room ≡ true) (used : ℕ) → Looser (another_arg T true n room r used)
        (another_arg T false k room' r' used)
    unfolding another_arg
    l_another o used = loose_then (loose_same _) (λ _c. l_arg o used)

    l_some : (o : nat_lt 0 room ≡ true) → Looser (some_args T true n room r) (some_args T false k room' r')
    unfolding some_args
    l_some o = loose_then (l_arg o 0)
        (λ first. loose_then (loose_many distinct (sign comma) (behind_arg T) (l_another o) n k le
        (behind_arg T 0 first)) (λ others. loose_same _))

    l_args : (at : ℕ) → Looser (next_args T true n room r at) (next_args T false k room' r' at)
    unfolding next_args
    l_args at = loose_holds _ _ (nat_lt 0 room) (nat_lt 0 room') (TooMany at) (TooMany at)
        (many_apart at) opens (λ _o _u. loose_case (sign end_round) (λ end. loose_same _) (l_some _o))

    l_behind : (x : _) → Looser (behind_name T true n room r x) (behind_name T false k room' r' x)
    unfolding behind_name
    l_behind x = loose_case (sign square) (λ at. loose_then (l_index at) (λ e. loose_same _))
        (loose_case (sign round) (λ at. loose_then (l_args at) (λ a. loose_same _)) (loose_same _))

    l_name_term : (fits fits' : Bool) (up : fits ≡ true → fits' ≡ true)
        → Looser (name_term T true n room r fits) (name_term T false k room' r' fits')
    unfolding name_term
    l_name_term fits fits' up =
        loose_then (l_name) (λ x. loose_holds _ _ fits fits' (TooMany x.at) (TooMany x.at)
        (many_apart x.at) up (λ _o _u. l_behind x))

    l_term : (fits fits' : Bool) (up : fits ≡ true → fits' ≡ true) → Looser (next_term T true n room r fits)
        (next_term T false k room' r' fits')
    unfolding next_term number_term bracket_term
    l_term fits fits' up = loose_case a_number (λ m. loose_holds _ _ (kept true (is_literal m.value))
        (kept false (is_literal m.value)) (Range m.at) (Range m.at) (range_apart m.at) (λ e. refl)
        (λ _o _u. loose_holds _ _ fits fits' (TooMany m.at) (TooMany m.at) (many_apart m.at) up
        (λ _o _u. loose_same _)))
        (loose_case (sign round) (λ at. loose_holds _ _ fits fits' (TooMany at) (TooMany at)
        (many_apart at) up (λ _o _u. loose_holds _ _ (nat_lt 0 room) (nat_lt 0 room')
        (TooMany at) (TooMany at) (many_apart at) opens
        (λ _o _u. loose_then (each _o true true (both true)) (λ e. loose_same _))))
        (l_name_term fits fits' up))

    l_another_term : (count : ℕ) → Looser (another_term T true n room r count)
        (another_term T false k room' r' count)
    unfolding another_term
    l_another_term count = loose_then (loose_same _)
        (λ o. loose_then (l_term (kept true (nat_lt count MOST_TERMS)) (kept false (nat_lt count MOST_TERMS))
        (λ e. refl)) (λ e. loose_same _))

    l_sum : (fits fits' : Bool) (up : fits ≡ true → fits' ≡ true) → Looser (next_sum T true n room r fits)
        (next_sum T false k room' r' fits')
    unfolding next_sum
    l_sum fits fits' up = loose_then (l_term fits fits' up)
        (λ first. loose_then (loose_many distinct adding one_more l_another_term n k le 1)
        (λ others. loose_same _))

    l_expr_with : (fits fits' : Bool) (up : fits ≡ true → fits' ≡ true)
        → Looser (expr_with T true n room r fits) (expr_with T false k room' r' fits')
    unfolding expr_with next_comparison
    l_expr_with fits fits' up = loose_then (l_sum fits fits' up)
        (λ left. loose_case comparing (λ o. loose_then (l_sum true true (both true)) (λ right. loose_same _))
        (loose_same _))

  -- ---- to any depth

  opened_up : (room room' : ℕ) → room ≤ room' → nat_lt 0 room ≡ true → nat_lt 0 room' ≡ true
  opened_up room room' le e = grind (arith, e, le)

  none_open : nat_lt 0 zero ≡ true → ⊥
  none_open e = absurd cc

  l_expr : (room room' : ℕ) → room ≤ room' → (fits fits' : Bool) → (fits ≡ true → fits' ≡ true)
      → Looser (next_expr T true n room fits) (next_expr T false k room' fits')
  l_expr zero zero le = l_expr_with zero zero (opened_up zero zero le) (λ f. expected) (λ f. expected)
      (λ o. absurd (none_open o))
  l_expr zero (suc room') le = l_expr_with zero (suc room') (opened_up zero (suc room') le) (λ f. expected)
      (next_expr T false k room') (λ o. absurd (none_open o))
  l_expr (suc room) zero le = absurd (omega (arith, le))
  l_expr (suc room) (suc room') le = l_expr_with (suc room) (suc room') (opened_up (suc room) (suc room') le)
      (next_expr T true n room) (next_expr T false k room') (λ o. l_expr room room' (omega (arith, le)))

  l_inner : (room room' : ℕ) → room ≤ room' → nat_lt 0 room ≡ true → (fits fits' : Bool)
      → (fits ≡ true → fits' ≡ true) → Looser (inner_expr T true n room fits)
      (inner_expr T false k room' fits')
  l_inner zero room' le o fits fits' up = absurd (none_open o)
  l_inner (suc room) zero le o fits fits' up = absurd (omega (arith, le))
  l_inner (suc room) (suc room') le o fits fits' up = l_expr room room' (omega (arith, le)) fits fits' up

  module _ (room room' : ℕ) (more : room ≤ room') (r r' : Reader (List S)) (each : nat_lt 0 room ≡ true
      → Looser r r') where
    l_block : Looser (next_block T true n room r) (next_block T false k room' r')
    unfolding next_block
    l_block = loose_then (loose_same _) (λ at. loose_holds _ _ (nat_lt 0 room) (nat_lt 0 room') (TooMany at)
        (TooMany at) (many_apart at) (opened_up room room' more)
        (λ _o _u. loose_then (each _o) (λ body. loose_same _)))

    l_else : (at : ℕ) (e : E) (body : List S) (end : ℕ) → Looser (next_else T true n room r at e body end)
        (next_else T false k room' r' at e body end)
    unfolding next_else
    l_else at e body end = loose_case (word (codes "else"))
        (λ there. loose_then (l_block) (λ other. loose_same _)) (loose_same _)

    l_if : (at : ℕ) → Looser (if_behind T true n room r at) (if_behind T false k room' r' at)
    unfolding if_behind
    l_if at = loose_then (l_expr room room' more true true (both true))
        (λ e. loose_then (l_block) (λ body. l_else at e body.0 body.1))

    l_while : (at : ℕ) → Looser (while_behind T true n room r at) (while_behind T false k room' r' at)
    unfolding while_behind
    l_while at = loose_then (l_expr room room' more true true (both true))
        (λ e. loose_then (l_block) (λ body. loose_same _))

    l_return : (at : ℕ) → Looser (return_behind T true n room r at) (return_behind T false k room' r' at)
    unfolding return_behind
    l_return at = loose_then (l_expr room room' more true true (both true)) (λ e. loose_same _)

    l_halt : (at : ℕ) → Looser (halt_behind T true n room r at) (halt_behind T false k room' r' at)
    unfolding halt_behind
    l_halt at = loose_then (l_expr room room' more true true (both true)) (λ e. loose_same _)

    l_target : (x : _) → Looser (behind_target T true n room r x) (behind_target T false k room' r' x)
    unfolding behind_target set_behind set_at_behind calls_behind
    l_target x = loose_case (sign assign) (λ at. loose_then (l_expr room room' more true true (both true))
        (λ e. loose_same _))
        (loose_case (sign square)
        (λ at. loose_then (l_index room room' (opened_up room room' more) (inner_expr T true n room)
        (inner_expr T false k room') (l_inner room room' more) at)
        (λ i. loose_then (loose_same _)
        (λ _a. loose_then (l_expr room room' more true true (both true))
        (λ e. loose_same _))))
        (loose_then (loose_same _)
        (λ at. loose_then (l_args room room' (opened_up room room' more)
        (inner_expr T true n room) (inner_expr T false k room')
        (l_inner room room' more) at) (λ a. loose_same _))))

    l_name_stmt : Looser (name_stmt T true n room r) (name_stmt T false k room' r')
    unfolding name_stmt
    l_name_stmt = loose_then (l_name) l_target

    l_plain_stmt : Looser (plain_stmt T true n room r) (plain_stmt T false k room' r')
    unfolding plain_stmt
    l_plain_stmt = loose_case (word (codes "if")) l_if
        (loose_case (word (codes "while")) l_while
        (loose_case (word (codes "return")) l_return
        (loose_case (word (codes "halt")) l_halt l_name_stmt)))

    l_token_behind : (made : ℕ → ℕ → Name → S) (at : ℕ) → Looser (token_behind T true n made at)
        (token_behind T false k made at)
    unfolding token_behind
    l_token_behind made at = loose_then (l_name) (λ x. loose_same _)

    l_stmt : Looser (next_stmt T true n room r) (next_stmt T false k room' r')
    unfolding next_stmt
    l_stmt = loose_added T.tokens (codes "make") (λ makes. l_token_behind makes.make)
        (loose_added T.tokens (codes "spend") (λ makes. l_token_behind makes.spend) l_plain_stmt)

    l_stmts_with : Looser (stmts_with T true n room r) (stmts_with T false k room' r')
    unfolding stmts_with
    l_stmts_with = loose_many distinct (a_start T.tokens) (λ u s. u) (λ u. l_stmt) n k le tt

  l_stmts : (room room' : ℕ) → room ≤ room' → Looser (next_stmts T true n room) (next_stmts T false k room')
  l_stmts zero zero le = l_stmts_with zero zero le expected expected (λ o. absurd (none_open o))
  l_stmts zero (suc room') le = l_stmts_with zero (suc room') le expected (next_stmts T false k room')
      (λ o. absurd (none_open o))
  l_stmts (suc room) zero le = absurd (omega (arith, le))
  l_stmts (suc room) (suc room') le = l_stmts_with (suc room) (suc room') le (next_stmts T true n room)
      (next_stmts T false k room') (λ o. l_stmts room room' (omega (arith, le)))

  l_plain_param : (used : ℕ) → Looser (plain_param T true n used) (plain_param T false k used)
  unfolding plain_param arity_behind
  l_plain_param used = loose_then (l_name) (λ x. loose_holds _ _ (kept true (nat_lt (used) MOST_REGISTERS))
      (kept false (nat_lt (used) MOST_REGISTERS)) (TooMany x.at) (TooMany x.at) (many_apart x.at) (λ e. refl)
      (λ _o _u. loose_case (sign slash)
      (λ at. loose_holds _ _ (kept true (nat_lt (used + 1) MOST_REGISTERS))
      (kept false (nat_lt (used + 1) MOST_REGISTERS)) (TooMany x.at) (TooMany x.at)
      (many_apart x.at) (λ e. refl)
      (λ _o _u. loose_then (l_num is_arity) (λ m. loose_same _))) (loose_same _)))

  l_param : (used : Taken) → Looser (next_param T true n used) (next_param T false k used)
  unfolding next_param token_param
  l_param used = loose_added T.tokens (codes "token")
      (λ makes at. loose_then (l_name) (λ x. loose_holds _ _ (kept true (nat_lt used.tokens MOST_TOKENS))
      (kept false (nat_lt used.tokens MOST_TOKENS)) (TooMany x.at) (TooMany x.at) (many_apart x.at)
      (λ e. refl) (λ _o _u. loose_same _))) (l_plain_param used.slots)

  l_another_param : (used : Taken) → Looser (another_param T true n used) (another_param T false k used)
  unfolding another_param
  l_another_param used = loose_then (loose_same _) (λ _c. l_param used)

  l_some_params : Looser (some_params T true n) (some_params T false k)
  unfolding some_params
  l_some_params = loose_then (l_param none_taken)
      (λ first. loose_then (loose_many distinct (sign comma) (behind_param T) l_another_param n k le
      (behind_param T none_taken first)) (λ others. loose_same _))

  l_params : Looser (next_params T true n) (next_params T false k)
  unfolding next_params
  l_params = loose_then (loose_same _) (λ _r. loose_case (sign end_round) (λ end. loose_same _) l_some_params)

  l_plain_local : (count : ℕ) → Looser (plain_local T true n count) (plain_local T false k count)
  unfolding plain_local
  l_plain_local count = loose_then (loose_same _)
      (λ at. loose_holds _ _ (kept true (nat_lt (count) MOST_LOCALS))
      (kept false (nat_lt (count) MOST_LOCALS)) (TooMany at) (TooMany at) (many_apart at) (λ e. refl)
      (λ _o _u. loose_then (l_name) (λ x. loose_same _)))

  l_local : (used : Taken) → Looser (next_local T true n used) (next_local T false k used)
  unfolding next_local token_local
  l_local used = loose_added T.tokens (codes "token")
      (λ makes at. loose_then (l_name) (λ x. loose_holds _ _ (kept true (nat_lt used.tokens MOST_TOKENS))
      (kept false (nat_lt used.tokens MOST_TOKENS)) (TooMany x.at) (TooMany x.at) (many_apart x.at)
      (λ e. refl) (λ _o _u. loose_same _))) (l_plain_local used.slots)

  l_locals : (params : List P) → Looser (next_locals T true n params) (next_locals T false k params)
  unfolding next_locals
  l_locals params = loose_many distinct (a_local T.tokens) (behind_local T) l_local n k le
      (behind_params T params)

  l_proc_behind : (room room' : ℕ) (more : room ≤ room') (at : ℕ) (shared : Bool)
      → Looser (proc_behind T true n room at shared) (proc_behind T false k room' at shared)
  unfolding proc_behind
  l_proc_behind room room' more at shared =
      loose_then (l_name)
      (λ x. loose_then (l_params)
      (λ params. loose_then (loose_same _)
      (λ _c. loose_then (l_locals params)
      (λ locals. loose_then (l_stmts room room' more) (λ body. loose_same _)))))

  l_proc : (room room' : ℕ) (more : room ≤ room') (count : ℕ) → Looser (next_proc T true n room count)
      (next_proc T false k room' count)
  unfolding next_proc
  l_proc room room' more count = loose_case (word (codes "export"))
      (λ at. loose_holds _ _ (kept true (nat_lt (count) MOST_ITEMS)) (kept false (nat_lt (count) MOST_ITEMS))
      (TooMany at) (TooMany at) (many_apart at) (λ e. refl)
      (λ _o _u. loose_then (loose_same _) (λ _p. l_proc_behind room room' more at true)))
      (loose_then (loose_same _) (λ at. loose_holds _ _ (kept true (nat_lt (count) MOST_ITEMS))
      (kept false (nat_lt (count) MOST_ITEMS)) (TooMany at) (TooMany at) (many_apart at)
      (λ e. refl) (λ _o _u. l_proc_behind room room' more at false)))

  l_field : (w : List ℕ) → Looser (next_field true w) (next_field false w)
  unfolding next_field
  l_field w = loose_then (loose_same _) (λ _w. l_num is_address)

  l_movable : Looser (next_movable true) (next_movable false)
  unfolding next_movable
  l_movable = loose_same _

  l_header : Looser (next_header (words_of T.tokens) true) (next_header (words_of T.tokens) false)
  unfolding next_header
  l_header = loose_then (loose_same _)
      (λ at. loose_then (l_name)
      (λ x. loose_then (l_field (codes "code"))
      (λ code. loose_then (l_field (codes "data"))
      (λ data_base. loose_then (l_field (codes "closure"))
      (λ closure. loose_then (l_field (codes "returns"))
      (λ first_return. loose_then (l_num (is_return_count first_return))
      (λ return_count. loose_then (l_field (codes "stack"))
      (λ stack. loose_then (l_movable) (λ movable. loose_same _)))))))))

  pub l_module : (room room' : ℕ) (more : room ≤ room') → Looser (next_module T true n room)
      (next_module T false k room')
  unfolding next_module
  l_module room room' more =
      loose_then (l_header)
      (λ header. loose_then (loose_many distinct (word (codes "import")) one_more l_import n k le 0)
      (λ imports. loose_then (loose_many distinct (word (codes "global")) one_more l_global n k le 0)
      (λ globals. loose_then (l_proc room room' more 0)
      (λ first. loose_then
      (loose_many distinct a_proc one_more (l_proc room room' more) n k le 1)
      (λ procs. loose_same _)))))
