-- The module that tokens spell, read from left to right, or the first fault. Where `limits` is false, the
-- limits on numbers, names and counts are passed over. `fuel` is how many items are read in one place at
-- most, `room` how many brackets may still be opened.
use Rattle.std.specs.Prelude.{ℕ, zero, suc, ◌+◌, ◌^◌, nat_lt, Bool, true, false, ℤ, List, [], ◌∷◌, length}
use Rattle.std.specs.Prelude.{codes, Option, Some, None, Result, Ok, Err, ◌==◌, if◌then◌else◌}
use Rattle.proc_language.specs.declared.TheConstants.{MOST_ITEMS, MOST_REGISTERS, MOST_LOCALS, MOST_TERMS}
use Rattle.proc_language.specs.declared.TheConstants.{MOST_TOKENS}
use Rattle.proc_language.specs.declared.tree.Name.{Name}
use Rattle.proc_language.specs.declared.tree.Op.{Op}
use Rattle.proc_language.specs.declared.module.Import.{Import}
use Rattle.proc_language.specs.declared.module.Global.{Global}
use Rattle.readers.specs.Readers.{◌>>=◌, done, holds}
use Rattle.phrases.specs.Reading.{case_next}
use Rattle.proc_grammar.specs.declared.header.ModuleHeader.{ModuleHeader}
use Rattle.proc_grammar.specs.Makes.{Actions, TokenActions}
use Rattle.proc_grammar.specs.Lexemes.{Lexeme, Numeral, word, words_of, a_name, a_number, sign, a_start}
use Rattle.proc_grammar.specs.Lexemes.{a_local, a_proc, adding, comparing, dot, comma, semicolon, slash}
use Rattle.proc_grammar.specs.Lexemes.{assign, dash, round, square, curly, end_round, end_square, end_curly}
use Rattle.proc_grammar.specs.Grammar.{kept, is_short, is_address, is_return_count, is_arity, is_length}
use Rattle.proc_grammar.specs.Grammar.{is_literal, is_initial, signed, behind_param, behind_arg, behind_local}
use Rattle.proc_grammar.specs.Grammar.{behind_params, one_more, operated, sum_of, room_in_body, Taken}
use Rattle.proc_grammar.specs.Grammar.{none_taken}
use Rattle.proc_grammar.specs.declared.fault.ParseFault.{ParseFault}
use Rattle.proc_grammar.specs.declared.fault.ParseFault.TheVariants.{Expected, Range, TooMany}
use Rattle.proc_grammar.specs.Reader.{Input, Reader, place, expected, one, many, case_token}

-- ---- numbers

module _ (limits : Bool) where
  abbrev pub proper_num : (ℕ → Bool) → Numeral → Reader ℕ
  proper_num test n = do
    _ ← holds (kept limits (test n.value)) (Range n.at)
    done n.value

  unfoldable pub next_num : (ℕ → Bool) → Reader ℕ
  next_num test = do
    n ← one a_number
    proper_num test n

  abbrev pub within : ℕ → ℕ → ℕ → Reader (Unit {0})
  within n most at = holds (kept limits (nat_lt n most)) (TooMany at)

  abbrev pub length_behind : Reader (Option ℕ)
  length_behind = do
    n ← next_num is_length
    _ ← one (sign end_square)
    done (Some n)

  unfoldable pub next_length : Reader (Option ℕ)
  next_length = case_next (sign square) (λ at. length_behind) (done None)

  unfoldable pub next_minus : Reader Bool
  next_minus = case_next (sign dash) (λ at. done true) (done false)

  abbrev pub initial_behind : Reader (Option ℤ)
  initial_behind = do
    negative ← next_minus
    n ← next_num (is_initial negative)
    done (Some (signed negative n))

  unfoldable pub next_initial : Reader (Option ℤ)
  next_initial = case_next (sign assign) (λ at. initial_behind) (done None)

  unfoldable pub next_movable : Reader Bool
  next_movable = case_next (word (codes "movable")) (λ at. done true) (done false)

  unfoldable pub next_field : List ℕ → Reader ℕ
  next_field w = do
    _ ← one (word w)
    next_num is_address

-- ---- names, imports, globals, the header

module _ (words : List (List ℕ)) (limits : Bool) where
  abbrev pub proper_name : Name → Reader Name
  proper_name x = do
    _ ← holds (kept limits (is_short x)) (Range x.at)
    done x

  unfoldable pub next_name : Reader Name
  next_name = do
    x ← one (a_name words)
    proper_name x

  unfoldable pub next_import : ℕ → Reader Import
  next_import count = do
    at ← one (word (codes "import"))
    _ ← within limits count MOST_ITEMS at
    part ← next_name
    _ ← one (sign dot)
    x ← next_name
    _ ← one (sign slash)
    arity ← next_num limits is_arity
    _ ← one (sign semicolon)
    done (record { at = at; part = part; name = x; arity = arity })

  unfoldable pub next_global : ℕ → Reader Global
  next_global count = do
    at ← one (word (codes "global"))
    _ ← within limits count MOST_ITEMS at
    x ← next_name
    len ← next_length limits
    initial ← next_initial limits
    _ ← one (sign semicolon)
    done (record { at = at; name = x; length = len; initial = initial })

  unfoldable pub next_header : Reader ModuleHeader
  next_header = do
    at ← one (word (codes "module"))
    x ← next_name
    code ← next_field limits (codes "code")
    data_base ← next_field limits (codes "data")
    closure ← next_field limits (codes "closure")
    first_return ← next_field limits (codes "returns")
    return_count ← next_num limits (is_return_count first_return)
    stack ← next_field limits (codes "stack")
    movable ← next_movable limits
    _ ← one (sign semicolon)
    done (record {
      at = at;
      name = x;
      code = code;
      data_base = data_base;
      closure = closure;
      returns = first_return;
      return_count = return_count;
      stack = stack;
      movable = movable;
    })

module _ {E A S P V R M : Type 0} (T : Actions E A S P V R M) (limits : Bool) (fuel : ℕ) where
  abbrev pub next_word : Reader Name
  next_word = next_name (words_of T.tokens) limits

  -- ---- parameters and locals

  unfoldable pub arity_behind : Name → ℕ → Reader P
  arity_behind x used = do
    _ ← within limits (used + 1) MOST_REGISTERS x.at
    n ← next_num limits is_arity
    done (T.callback x n)

  unfoldable pub plain_param : ℕ → Reader P
  plain_param used = do
    x ← next_word
    _ ← within limits used MOST_REGISTERS x.at
    case_next (sign slash) (λ at. arity_behind x used) (done (T.param x))

  -- after `token`
  unfoldable pub token_param : ℕ → TokenActions A S P V → Reader P
  token_param tokens makes = do
    x ← next_word
    _ ← within limits tokens MOST_TOKENS x.at
    done (makes.param x)

  unfoldable pub next_param : Taken → Reader P
  next_param used =
      case_token T.tokens (codes "token") (λ makes at. token_param used.tokens makes) (plain_param used.slots)

  unfoldable pub another_param : Taken → Reader P
  another_param used = do
    _ ← one (sign comma)
    next_param used

  unfoldable pub some_params : Reader (List P)
  some_params = do
    first ← next_param none_taken
    others ← many fuel (sign comma) (behind_param T) another_param (behind_param T none_taken first)
    _ ← one (sign end_round)
    done (first ∷ others)

  unfoldable pub next_params : Reader (List P)
  next_params = do
    _ ← one (sign round)
    case_next (sign end_round) (λ end. done []) some_params

  unfoldable pub plain_local : ℕ → Reader V
  plain_local count = do
    at ← one (word (codes "local"))
    _ ← within limits count MOST_LOCALS at
    x ← next_word
    _ ← one (sign semicolon)
    done (T.local x)

  -- after `token`
  unfoldable pub token_local : ℕ → TokenActions A S P V → Reader V
  token_local tokens makes = do
    x ← next_word
    _ ← within limits tokens MOST_TOKENS x.at
    _ ← one (sign semicolon)
    done (makes.local x)

  unfoldable pub next_local : Taken → Reader V
  next_local used =
      case_token T.tokens (codes "token") (λ makes at. token_local used.tokens makes) (plain_local used.slots)

  unfoldable pub next_locals : List P → Reader (List V)
  next_locals params = many fuel (a_local T.tokens) (behind_local T) next_local (behind_params T params)

  -- ---- expressions. `fits` says that the first token stands within the limits of what it is part of;
  -- `inner` reads the expressions inside one more bracket

  -- after `token`
  unfoldable pub token_arg : TokenActions A S P V → Reader A
  token_arg makes = do
    x ← next_word
    done (makes.arg x)

  module _ (room : ℕ) (inner : Bool → Reader E) where
    -- the bracket at this place is opened
    abbrev pub opened : ℕ → Reader (Unit {0})
    opened at = holds (nat_lt 0 room) (TooMany at)

    unfoldable pub arg_value : ℕ → Reader A
    arg_value used = do
      e ← inner (kept limits (nat_lt used MOST_REGISTERS))
      done (T.value e)

    unfoldable pub arg_proc : ℕ → ℕ → Reader A
    arg_proc used at = do
      _ ← within limits (used + 1) MOST_REGISTERS at
      f ← next_word
      done (T.pass f)

    unfoldable pub plain_arg : ℕ → Reader A
    plain_arg used = case_next (word (codes "proc")) (arg_proc used) (arg_value used)

    unfoldable pub next_arg : ℕ → Reader A
    next_arg used = case_token T.tokens (codes "token") (λ makes at. token_arg makes) (plain_arg used)

    unfoldable pub another_arg : ℕ → Reader A
    another_arg used = do
      _ ← one (sign comma)
      next_arg used

    unfoldable pub some_args : Reader (List A)
    some_args = do
      first ← next_arg 0
      others ← many fuel (sign comma) (behind_arg T) another_arg (behind_arg T 0 first)
      _ ← one (sign end_round)
      done (first ∷ others)

    -- after the opening bracket of a call
    unfoldable pub next_args : ℕ → Reader (List A)
    next_args at = do
      _ ← opened at
      case_next (sign end_round) (λ end. done []) some_args

    -- after the opening bracket of an index
    unfoldable pub next_index : ℕ → Reader E
    next_index at = do
      _ ← opened at
      e ← inner true
      _ ← one (sign end_square)
      done e

    abbrev pub of_call : Name → ℕ → Reader E
    of_call x at = do
      args ← next_args at
      done (T.call x.at x args)

    abbrev pub of_index : Name → ℕ → Reader E
    of_index x at = do
      e ← next_index at
      done (T.element x.at x e)

    unfoldable pub number_term : Bool → Numeral → Reader E
    number_term fits n = do
      _ ← holds (kept limits (is_literal n.value)) (Range n.at)
      _ ← holds fits (TooMany n.at)
      done (T.number n.at n.value)

    unfoldable pub behind_name : Name → Reader E
    behind_name x =
        case_next (sign square) (of_index x)
        (case_next (sign round) (of_call x) (done (T.var x.at x)))

    unfoldable pub name_term : Bool → Reader E
    name_term fits = do
      x ← next_word
      _ ← holds fits (TooMany x.at)
      behind_name x

    unfoldable pub bracket_term : Bool → ℕ → Reader E
    bracket_term fits at = do
      _ ← holds fits (TooMany at)
      _ ← opened at
      e ← inner true
      _ ← one (sign end_round)
      done e

    unfoldable pub next_term : Bool → Reader E
    next_term fits =
        case_next a_number (number_term fits)
        (case_next (sign round) (bracket_term fits) (name_term fits))

    unfoldable pub another_term : ℕ → Reader (Op × E)
    another_term count = do
      o ← one adding
      e ← next_term (kept limits (nat_lt count MOST_TERMS))
      done (o, e)

    unfoldable pub next_sum : Bool → Reader E
    next_sum fits = do
      first ← next_term fits
      others ← many fuel adding one_more another_term 1
      done (sum_of T first others)

    abbrev pub compared_behind : E → Op → Reader E
    compared_behind left o = do
      right ← next_sum true
      done (operated T o left right)

    unfoldable pub next_comparison : E → Reader E
    next_comparison left = case_next comparing (compared_behind left) (done left)

    unfoldable pub expr_with : Bool → Reader E
    expr_with fits = do
      left ← next_sum fits
      next_comparison left

  abbrev pub next_expr : ℕ → Bool → Reader E
  next_expr zero = expr_with zero (λ fits. expected)
  next_expr (suc room) = expr_with (suc room) (next_expr room)

  -- the expressions inside one more bracket
  abbrev pub inner_expr : ℕ → Bool → Reader E
  inner_expr zero fits = expected
  inner_expr (suc room) fits = next_expr room fits

  -- ---- statements. `inner` reads those inside one more bracket

  -- after the word of a statement of a token
  unfoldable pub token_behind : (ℕ → ℕ → Name → S) → ℕ → Reader S
  token_behind made at = do
    x ← next_word
    end ← one (sign semicolon)
    done (made at end x)

  module _ (room : ℕ) (inner : Reader (List S)) where
    unfoldable pub set_behind : Name → Reader S
    set_behind x = do
      e ← next_expr room true
      end ← one (sign semicolon)
      done (T.set x.at end x e)

    unfoldable pub set_at_behind : Name → ℕ → Reader S
    set_at_behind x at = do
      index ← next_index room (inner_expr room) at
      _ ← one (sign assign)
      e ← next_expr room true
      end ← one (sign semicolon)
      done (T.set_at x.at end x index e)

    unfoldable pub calls_behind : Name → ℕ → Reader S
    calls_behind x at = do
      args ← next_args room (inner_expr room) at
      end ← one (sign semicolon)
      done (T.do_call x.at end x args)

    unfoldable pub behind_target : Name → Reader S
    behind_target x =
        case_next (sign assign) (λ at. set_behind x)
        (case_next (sign square) (set_at_behind x) (one (sign round) >>= calls_behind x))

    unfoldable pub name_stmt : Reader S
    name_stmt = do
      x ← next_word
      behind_target x

    -- statements in curly brackets, and the place of the closing one
    unfoldable pub next_block : Reader (List S × ℕ)
    next_block = do
      at ← one (sign curly)
      _ ← holds (nat_lt 0 room) (TooMany at)
      body ← inner
      end ← one (sign end_curly)
      done (body, end)

    abbrev pub else_behind : ℕ → E → List S → Reader S
    else_behind at e body = do
      other ← next_block
      done (T.if_else at other.1 e body other.0)

    unfoldable pub next_else : ℕ → E → List S → ℕ → Reader S
    next_else at e body end =
        case_next (word (codes "else")) (λ there. else_behind at e body) (done (T.if_then at end e body))

    unfoldable pub if_behind : ℕ → Reader S
    if_behind at = do
      e ← next_expr room true
      body ← next_block
      next_else at e body.0 body.1

    unfoldable pub while_behind : ℕ → Reader S
    while_behind at = do
      e ← next_expr room true
      body ← next_block
      done (T.while at body.1 e body.0)

    unfoldable pub return_behind : ℕ → Reader S
    return_behind at = do
      e ← next_expr room true
      end ← one (sign semicolon)
      done (T.return at end e)

    unfoldable pub halt_behind : ℕ → Reader S
    halt_behind at = do
      e ← next_expr room true
      end ← one (sign semicolon)
      done (T.halt at end e)

    unfoldable pub plain_stmt : Reader S
    plain_stmt =
        case_next (word (codes "if")) if_behind
        (case_next (word (codes "while")) while_behind
        (case_next (word (codes "return")) return_behind
        (case_next (word (codes "halt")) halt_behind name_stmt)))

    unfoldable pub next_stmt : Reader S
    next_stmt =
        case_token T.tokens (codes "make") (λ makes. token_behind makes.make)
        (case_token T.tokens (codes "spend") (λ makes. token_behind makes.spend) plain_stmt)

    unfoldable pub stmts_with : Reader (List S)
    stmts_with = many fuel (a_start T.tokens) (λ u s. u) (λ (u : Unit {0}). next_stmt) tt

  abbrev pub next_stmts : ℕ → Reader (List S)
  next_stmts zero = stmts_with zero expected
  next_stmts (suc room) = stmts_with (suc room) (next_stmts room)

  -- the statements inside one more bracket
  abbrev pub inner_stmts : ℕ → Reader (List S)
  inner_stmts zero = expected
  inner_stmts (suc room) = next_stmts room

  -- ---- `room` is how many brackets may be opened in a procedure's body

  module _ (room : ℕ) where
    unfoldable pub proc_behind : ℕ → Bool → Reader R
    proc_behind at shared = do
      x ← next_word
      params ← next_params
      _ ← one (sign curly)
      locals ← next_locals params
      body ← next_stmts room
      end ← one (sign end_curly)
      done (T.proc at end shared x params locals body)

    abbrev pub shared_behind : ℕ → ℕ → Reader R
    shared_behind count at = do
      _ ← within limits count MOST_ITEMS at
      _ ← one (word (codes "proc"))
      proc_behind at true

    abbrev pub own_behind : ℕ → ℕ → Reader R
    own_behind count at = do
      _ ← within limits count MOST_ITEMS at
      proc_behind at false

    unfoldable pub next_proc : ℕ → Reader R
    next_proc count =
        case_next (word (codes "export")) (shared_behind count)
        (one (word (codes "proc")) >>= own_behind count)

    -- a module; more may follow
    unfoldable pub next_module : Reader M
    next_module = do
      header ← next_header (words_of T.tokens) limits
      imports ← many fuel (word (codes "import")) one_more (next_import (words_of T.tokens) limits) 0
      globals ← many fuel (word (codes "global")) one_more (next_global (words_of T.tokens) limits) 0
      first ← next_proc 0
      procs ← many fuel a_proc one_more next_proc 1
      done (T.module_of header imports globals (first ∷ procs))

-- nothing may follow the module
abbrev pub finished : {M : Type 0} → Result (M × Input) ParseFault → Result M ParseFault
finished (Ok x) = if length x.1.rest == 0 then Ok x.0 else Err (Expected (place x.1))
finished (Err e) = Err e

-- the module that the tokens spell, or the first fault, in a text that ends at this place
unfoldable pub parsed : {E A S P V R M : Type 0} → Actions E A S P V R M → ℕ → List Lexeme → ℕ
    → Result M ParseFault
parsed T fuel tokens end =
    finished (next_module T true fuel room_in_body (record { rest = tokens; end = end }))

-- more items than a text has bytes
unfoldable pub full : ℕ
full = 2 ^ 64
