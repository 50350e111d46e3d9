-- The grammar: which tokens spell which module. Where `limits` is false, the limits on numbers, names and
-- counts are passed over. `room` is how many brackets may still be opened.
use Rattle.std.specs.Prelude.{ℕ, zero, suc, ◌+◌, ◌-◌, ◌^◌, nat_le, nat_lt, Bool, true, false, ◌&&◌, ◌||◌, not}
use Rattle.std.specs.Prelude.{ℤ, pos, neg_ℤ, List, [], ◌∷◌, length, sum_by, codes, Option, Some, None}
use Rattle.cap_words.specs.declared.TheConstants.{LAST_PLACE, LONGEST_NAME}
use Rattle.proc_language.specs.declared.TheConstants.{MOST_SEALS, MOST_ITEMS, MOST_REGISTERS, MOST_LOCALS}
use Rattle.proc_language.specs.declared.TheConstants.{LONGEST_ARRAY, LARGEST_LITERAL, MOST_TERMS}
use Rattle.proc_language.specs.declared.TheConstants.{MOST_BRACKETS, MOST_TOKENS}
use Rattle.proc_language.specs.declared.tree.Name.{Name}
use Rattle.proc_language.specs.declared.tree.Op.{Op}
use Rattle.proc_language.specs.declared.module.Import.{Import}
use Rattle.proc_language.specs.declared.module.Global.{Global}
use Rattle.phrases.specs.Phrase as phrases
use Rattle.phrases.specs.Phrase.{◌>>=◌, only, one, ◌or◌, where_true, nothing, many}
use Rattle.proc_grammar.specs.declared.header.ModuleHeader.{ModuleHeader}
use Rattle.proc_grammar.specs.declared.taken.Taken as taken
use Rattle.proc_grammar.specs.Makes.{Actions, TokenActions}
use Rattle.proc_grammar.specs.Lexemes.{Lexeme, word, words_of, a_name, a_number, sign}
use Rattle.proc_grammar.specs.Lexemes.{adding, comparing, dot, comma, semicolon, slash, assign, dash}
use Rattle.proc_grammar.specs.Lexemes.{round, square, curly, end_round, end_square, end_curly}

abbrev pub Phrase : Type 0 → Type 1
Phrase = phrases.Phrase Lexeme

-- what stands only where there are tokens
abbrev pub from_tokens : {K A : Type 0} → Option K → (K → Phrase A) → Phrase A
from_tokens None p = nothing
from_tokens (Some k) p = p k

-- ---- limits

-- the test, where limits hold
abbrev pub kept : Bool → Bool → Bool
kept limits b = not limits || b

abbrev pub is_short : Name → Bool
is_short x = nat_le (length x.text) LONGEST_NAME

abbrev pub is_address : ℕ → Bool
is_address n = nat_le n LAST_PLACE

-- the last return seal is a seal
abbrev pub is_return_count : ℕ → ℕ → Bool
is_return_count first n = nat_le n MOST_SEALS && nat_le (first + n) (LAST_PLACE + 1)

abbrev pub is_arity : ℕ → Bool
is_arity n = nat_le n MOST_REGISTERS

abbrev pub is_length : ℕ → Bool
is_length n = nat_le 1 n && nat_le n LONGEST_ARRAY

abbrev pub is_literal : ℕ → Bool
is_literal n = nat_le n LARGEST_LITERAL

-- a number with a `-` before it or none is one of 64 bits
abbrev pub is_initial : Bool → ℕ → Bool
is_initial true n = nat_le n (2 ^ 63)
is_initial false n = nat_lt n (2 ^ 63)

abbrev pub signed : Bool → ℕ → ℤ
signed true n = neg_ℤ (pos n)
signed false n = pos n

abbrev pub one_more : {A : Type 0} → ℕ → A → ℕ
one_more n x = n + 1

-- what parameters or locals take: registers or slots, and tokens
abbrev pub Taken : Type 0
Taken = taken.Taken

abbrev pub none_taken : Taken
none_taken = record { slots = 0; tokens = 0 }

module _ {E A S P V R M : Type 0} (T : Actions E A S P V R M) where
  -- what is taken after a parameter, an argument or a local
  abbrev pub behind_param : Taken → P → Taken
  behind_param used p = record {
    slots = used.slots + T.param_registers p;
    tokens = used.tokens + T.param_tokens p;
  }

  abbrev pub behind_arg : ℕ → A → ℕ
  behind_arg used a = used + T.registers a

  abbrev pub behind_local : Taken → V → Taken
  behind_local used x = record {
    slots = used.slots + T.local_count x;
    tokens = used.tokens + T.local_tokens x;
  }

  -- what is taken where the locals begin after these parameters
  abbrev pub behind_params : List P → Taken
  behind_params params = record { slots = 0; tokens = sum_by T.param_tokens params }

  -- an operation stands where its first operand does
  abbrev pub operated : Op → E → E → E
  operated o a b = T.op (T.place a) o a b

  -- a sum groups from the left
  abbrev pub sum_of : E → List (Op × E) → E
  sum_of e [] = e
  sum_of e (x ∷ more) = sum_of (operated x.0 e x.1) more

-- ---- numbers

module _ (limits : Bool) where
  unfoldable pub num : (ℕ → Bool) → Phrase ℕ
  num test = do
    n ← one a_number
    _ ← where_true (kept limits (test n.value))
    only n.value

  abbrev pub within : ℕ → ℕ → Phrase (Unit {0})
  within n most = where_true (kept limits (nat_lt n most))

  unfoldable pub length_part : Phrase (Option ℕ)
  length_part = (do
    _ ← one (sign square)
    n ← num is_length
    _ ← one (sign end_square)
    only (Some n)) or only None

  unfoldable pub minus_part : Phrase Bool
  minus_part = (do
    _ ← one (sign dash)
    only true) or only false

  unfoldable pub initial_part : Phrase (Option ℤ)
  initial_part = (do
    _ ← one (sign assign)
    negative ← minus_part
    n ← num (is_initial negative)
    only (Some (signed negative n))) or only None

  unfoldable pub movable_part : Phrase Bool
  movable_part = (do
    _ ← one (word (codes "movable"))
    only true) or only false

  unfoldable pub field : List ℕ → Phrase ℕ
  field w = do
    _ ← one (word w)
    num is_address

-- ---- names, imports, globals, the header

module _ (words : List (List ℕ)) (limits : Bool) where
  unfoldable pub name : Phrase Name
  name = do
    x ← one (a_name words)
    _ ← where_true (kept limits (is_short x))
    only x

  unfoldable pub import_item : ℕ → Phrase Import
  import_item count = do
    at ← one (word (codes "import"))
    _ ← within limits count MOST_ITEMS
    part ← name
    _ ← one (sign dot)
    x ← name
    _ ← one (sign slash)
    arity ← num limits is_arity
    _ ← one (sign semicolon)
    only (record { at = at; part = part; name = x; arity = arity })

  unfoldable pub global_item : ℕ → Phrase Global
  global_item count = do
    at ← one (word (codes "global"))
    _ ← within limits count MOST_ITEMS
    x ← name
    len ← length_part limits
    initial ← initial_part limits
    _ ← one (sign semicolon)
    only (record { at = at; name = x; length = len; initial = initial })

  unfoldable pub header : Phrase ModuleHeader
  header = do
    at ← one (word (codes "module"))
    x ← name
    code ← field limits (codes "code")
    data_base ← field limits (codes "data")
    closure ← field limits (codes "closure")
    first_return ← field limits (codes "returns")
    return_count ← num limits (is_return_count first_return)
    stack ← field limits (codes "stack")
    movable ← movable_part limits
    _ ← one (sign semicolon)
    only (record {
      at = at;
      name = x;
      code = code;
      data_base = data_base;
      closure = closure;
      returns = first_return;
      return_count = return_count;
      stack = stack;
      movable = movable;
    })

module _ {E A S P V R M : Type 0} (T : Actions E A S P V R M) (limits : Bool) where
  abbrev pub a_word : Phrase Name
  a_word = name (words_of T.tokens) limits

  -- ---- parameters and locals

  unfoldable pub arity_part : Name → ℕ → Phrase P
  arity_part x used = (do
    _ ← one (sign slash)
    _ ← within limits (used + 1) MOST_REGISTERS
    n ← num limits is_arity
    only (T.callback x n)) or only (T.param x)

  unfoldable pub plain_param : ℕ → Phrase P
  plain_param used = do
    x ← a_word
    _ ← within limits used MOST_REGISTERS
    arity_part x used

  unfoldable pub token_param : ℕ → TokenActions A S P V → Phrase P
  token_param tokens makes = do
    _ ← one (word (codes "token"))
    x ← a_word
    _ ← within limits tokens MOST_TOKENS
    only (makes.param x)

  abbrev pub param : Taken → Phrase P
  param used = from_tokens T.tokens (token_param used.tokens) or plain_param used.slots

  abbrev pub next_param : Taken → Phrase P
  next_param used = do
    _ ← one (sign comma)
    param used

  unfoldable pub some_params : Phrase (List P)
  some_params = do
    first ← param none_taken
    others ← many (behind_param T) next_param (behind_param T none_taken first)
    _ ← one (sign end_round)
    only (first ∷ others)

  abbrev pub no_params : Phrase (List P)
  no_params = do
    _ ← one (sign end_round)
    only []

  unfoldable pub params : Phrase (List P)
  params = do
    _ ← one (sign round)
    no_params or some_params

  unfoldable pub plain_local : ℕ → Phrase V
  plain_local count = do
    _ ← one (word (codes "local"))
    _ ← within limits count MOST_LOCALS
    x ← a_word
    _ ← one (sign semicolon)
    only (T.local x)

  unfoldable pub token_local : ℕ → TokenActions A S P V → Phrase V
  token_local tokens makes = do
    _ ← one (word (codes "token"))
    x ← a_word
    _ ← within limits tokens MOST_TOKENS
    _ ← one (sign semicolon)
    only (makes.local x)

  abbrev pub local_item : Taken → Phrase V
  local_item used = from_tokens T.tokens (token_local used.tokens) or plain_local used.slots

  -- ---- expressions. `fits` says that the first token stands within the limits of what it is part of;
  -- `inner` are the expressions inside one more bracket

  unfoldable pub token_arg : TokenActions A S P V → Phrase A
  token_arg makes = do
    _ ← one (word (codes "token"))
    x ← a_word
    only (makes.arg x)

  module _ (room : ℕ) (inner : Bool → Phrase E) where
    -- a bracket is opened
    abbrev pub opened : Phrase (Unit {0})
    opened = where_true (nat_lt 0 room)

    unfoldable pub arg_value : ℕ → Phrase A
    arg_value used = do
      e ← inner (kept limits (nat_lt used MOST_REGISTERS))
      only (T.value e)

    unfoldable pub arg_proc : ℕ → Phrase A
    arg_proc used = do
      _ ← one (word (codes "proc"))
      _ ← within limits (used + 1) MOST_REGISTERS
      f ← a_word
      only (T.pass f)

    abbrev pub arg : ℕ → Phrase A
    arg used = from_tokens T.tokens token_arg or arg_proc used or arg_value used

    abbrev pub next_arg : ℕ → Phrase A
    next_arg used = do
      _ ← one (sign comma)
      arg used

    unfoldable pub some_args : Phrase (List A)
    some_args = do
      first ← arg 0
      others ← many (behind_arg T) next_arg (behind_arg T 0 first)
      _ ← one (sign end_round)
      only (first ∷ others)

    abbrev pub no_arg : Phrase (List A)
    no_arg = do
      _ ← one (sign end_round)
      only []

    -- after the opening bracket of a call
    unfoldable pub args : Phrase (List A)
    args = do
      _ ← opened
      no_arg or some_args

    -- after the opening bracket of an index
    unfoldable pub index : Phrase E
    index = do
      _ ← opened
      e ← inner true
      _ ← one (sign end_square)
      only e

    abbrev pub of_call : Name → Phrase E
    of_call x = do
      _ ← one (sign round)
      args ← args
      only (T.call x.at x args)

    abbrev pub of_index : Name → Phrase E
    of_index x = do
      _ ← one (sign square)
      e ← index
      only (T.element x.at x e)

    unfoldable pub number_term : Bool → Phrase E
    number_term fits = do
      n ← one a_number
      _ ← where_true (kept limits (is_literal n.value))
      _ ← where_true fits
      only (T.number n.at n.value)

    unfoldable pub name_term : Bool → Phrase E
    name_term fits = do
      x ← a_word
      _ ← where_true fits
      of_index x or of_call x or only (T.var x.at x)

    unfoldable pub bracket_term : Bool → Phrase E
    bracket_term fits = do
      _ ← one (sign round)
      _ ← where_true fits
      _ ← opened
      e ← inner true
      _ ← one (sign end_round)
      only e

    abbrev pub term : Bool → Phrase E
    term fits = number_term fits or bracket_term fits or name_term fits

    unfoldable pub next_term : ℕ → Phrase (Op × E)
    next_term count = do
      o ← one adding
      e ← term (kept limits (nat_lt count MOST_TERMS))
      only (o, e)

    unfoldable pub sum : Bool → Phrase E
    sum fits = do
      first ← term fits
      others ← many one_more next_term 1
      only (sum_of T first others)

    unfoldable pub comparison_part : E → Phrase E
    comparison_part left = (do
      o ← one comparing
      right ← sum true
      only (operated T o left right)) or only left

    unfoldable pub expr_with : Bool → Phrase E
    expr_with fits = do
      left ← sum fits
      comparison_part left

  abbrev pub expr : ℕ → Bool → Phrase E
  expr zero = expr_with zero (λ fits. nothing)
  expr (suc room) = expr_with (suc room) (expr room)

  -- the expressions inside one more bracket
  abbrev pub inner_expr : ℕ → Bool → Phrase E
  inner_expr zero fits = nothing
  inner_expr (suc room) fits = expr room fits

  -- ---- statements. `inner` are those inside one more bracket

  -- of a token
  unfoldable pub token_stmt : List ℕ → (ℕ → ℕ → Name → S) → Phrase S
  token_stmt w made = do
    at ← one (word w)
    x ← a_word
    end ← one (sign semicolon)
    only (made at end x)

  abbrev pub make_stmt : TokenActions A S P V → Phrase S
  make_stmt makes = token_stmt (codes "make") makes.make

  abbrev pub spend_stmt : TokenActions A S P V → Phrase S
  spend_stmt makes = token_stmt (codes "spend") makes.spend

  module _ (room : ℕ) (inner : Phrase (List S)) where
    unfoldable pub set_part : Name → Phrase S
    set_part x = do
      _ ← one (sign assign)
      e ← expr room true
      end ← one (sign semicolon)
      only (T.set x.at end x e)

    unfoldable pub set_at_part : Name → Phrase S
    set_at_part x = do
      _ ← one (sign square)
      at ← index room (inner_expr room)
      _ ← one (sign assign)
      e ← expr room true
      end ← one (sign semicolon)
      only (T.set_at x.at end x at e)

    unfoldable pub calls_part : Name → Phrase S
    calls_part x = do
      _ ← one (sign round)
      args ← args room (inner_expr room)
      end ← one (sign semicolon)
      only (T.do_call x.at end x args)

    unfoldable pub target_part : Name → Phrase S
    target_part x = set_part x or set_at_part x or calls_part x

    unfoldable pub name_stmt : Phrase S
    name_stmt = do
      x ← a_word
      target_part x

    -- statements in curly brackets, and the place of the closing one
    unfoldable pub block : Phrase (List S × ℕ)
    block = do
      _ ← one (sign curly)
      _ ← where_true (nat_lt 0 room)
      body ← inner
      end ← one (sign end_curly)
      only (body, end)

    abbrev pub else_part : ℕ → E → List S → Phrase S
    else_part at e body = do
      _ ← one (word (codes "else"))
      other ← block
      only (T.if_else at other.1 e body other.0)

    unfoldable pub if_stmt : Phrase S
    if_stmt = do
      at ← one (word (codes "if"))
      e ← expr room true
      body ← block
      else_part at e body.0 or only (T.if_then at body.1 e body.0)

    unfoldable pub while_stmt : Phrase S
    while_stmt = do
      at ← one (word (codes "while"))
      e ← expr room true
      body ← block
      only (T.while at body.1 e body.0)

    unfoldable pub return_stmt : Phrase S
    return_stmt = do
      at ← one (word (codes "return"))
      e ← expr room true
      end ← one (sign semicolon)
      only (T.return at end e)

    unfoldable pub halt_stmt : Phrase S
    halt_stmt = do
      at ← one (word (codes "halt"))
      e ← expr room true
      end ← one (sign semicolon)
      only (T.halt at end e)

    abbrev pub plain_stmt : Phrase S
    plain_stmt = if_stmt or while_stmt or return_stmt or halt_stmt or name_stmt

    abbrev pub stmt : Phrase S
    stmt = from_tokens T.tokens make_stmt or from_tokens T.tokens spend_stmt or plain_stmt

    unfoldable pub stmts_with : Phrase (List S)
    stmts_with = many (λ u s. u) (λ (u : Unit {0}). stmt) tt

  abbrev pub stmts : ℕ → Phrase (List S)
  stmts zero = stmts_with zero nothing
  stmts (suc room) = stmts_with (suc room) (stmts room)

  -- ---- `room` is how many brackets may be opened in a procedure's body

  module _ (room : ℕ) where
    unfoldable pub proc_behind : ℕ → Bool → Phrase R
    proc_behind at shared = do
      x ← a_word
      ps ← params
      _ ← one (sign curly)
      locals ← many (behind_local T) local_item (behind_params T ps)
      body ← stmts room
      end ← one (sign end_curly)
      only (T.proc at end shared x ps locals body)

    abbrev pub shared_proc : ℕ → Phrase R
    shared_proc count = do
      at ← one (word (codes "export"))
      _ ← within limits count MOST_ITEMS
      _ ← one (word (codes "proc"))
      proc_behind at true

    abbrev pub own_proc : ℕ → Phrase R
    own_proc count = do
      at ← one (word (codes "proc"))
      _ ← within limits count MOST_ITEMS
      proc_behind at false

    abbrev pub proc_item : ℕ → Phrase R
    proc_item count = shared_proc count or own_proc count

    unfoldable pub a_module : Phrase M
    a_module = do
      head ← header (words_of T.tokens) limits
      imports ← many one_more (import_item (words_of T.tokens) limits) 0
      globals ← many one_more (global_item (words_of T.tokens) limits) 0
      first ← proc_item 0
      procs ← many one_more proc_item 1
      only (T.module_of head imports globals (first ∷ procs))

-- a body stands in one bracket
abbrev pub room_in_body : ℕ
room_in_body = MOST_BRACKETS - 1

module _ {E A S P V R M : Type 0} (T : Actions E A S P V R M) where
  -- the tokens spell the module
  abbrev pub IsText : List Lexeme → M → Type 0
  IsText = a_module T true room_in_body

  -- the same with all limits passed over
  abbrev pub IsLoose : List Lexeme → M → Type 0
  IsLoose tokens m = (room : ℕ) × a_module T false room tokens m
