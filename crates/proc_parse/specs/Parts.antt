-- Parts of items, statements and modules, each read by itself.
use Rattle.std.specs.Prelude.{ℕ, Bool, true, ℤ, codes, List, Option}
use Rattle.readers.specs.Readers.{◌>>=◌, done, holds}
use Rattle.proc_language.specs.declared.tree.Name.{Name}
use Rattle.proc_grammar.specs.declared.fault.ParseFault.TheVariants.{TooMany}
use Rattle.proc_grammar.specs.Lexemes.{sign, word, words_of, slash, semicolon, curly, end_curly, a_local}
use Rattle.proc_grammar.specs.Makes.{Actions}
use Rattle.proc_grammar.specs.Grammar.{is_arity, is_return_count, behind_local, room_in_body}
use Rattle.proc_grammar.specs.Reader.{Reader, one, many}
use Rattle.proc_grammar.specs.Reading.{full, next_name, next_num, next_length, next_initial, next_field}
use Rattle.proc_grammar.specs.Reading.{next_movable, next_local, next_expr, next_stmts}
use Rattle.proc_parse.specs.declared.items.HeaderNumbers.{HeaderNumbers}
use Rattle.proc_parse.specs.declared.items.ImportTarget.{ImportTarget}

-- a word, where it fits, and its place
unfoldable pub fitting_word : List ℕ → Bool → Reader ℕ
fitting_word w fits = do
  at ← one (word w)
  _ ← holds fits (TooMany at)
  done at

-- behind the name of a header
unfoldable pub header_numbers : Reader HeaderNumbers
header_numbers = do
  code ← next_field true (codes "code")
  data_base ← next_field true (codes "data")
  closure ← next_field true (codes "closure")
  first_return ← next_field true (codes "returns")
  return_count ← next_num true (is_return_count first_return)
  stack ← next_field true (codes "stack")
  movable ← next_movable true
  _ ← one (sign semicolon)
  done (record {
    code = code;
    data_base = data_base;
    closure = closure;
    returns = first_return;
    return_count = return_count;
    stack = stack;
    movable = movable;
  })

-- behind the dot of an import
unfoldable pub imported : List (List ℕ) → Reader ImportTarget
imported words = do
  x ← next_name words true
  _ ← one (sign slash)
  arity ← next_num true is_arity
  _ ← one (sign semicolon)
  done (record { name = x; arity = arity })

-- behind the name of a global
unfoldable pub global_form : Reader (Option ℕ × Option ℤ)
global_form = do
  len ← next_length true
  initial ← next_initial true
  _ ← one (sign semicolon)
  done (len, initial)

module _ {E A S P V R M : Type 0} (T : Actions E A S P V R M) where
  -- a name, where it fits
  unfoldable pub fitting_name : Bool → Reader Name
  fitting_name fits = do
    x ← next_name (words_of T.tokens) true
    _ ← holds fits (TooMany x.at)
    done x

  -- an expression, and the place of the semicolon behind it
  unfoldable pub ended_value : ℕ → Reader (E × ℕ)
  ended_value room = do
    e ← next_expr T true full room true
    end ← one (sign semicolon)
    done (e, end)

  -- locals and body in the brackets of a procedure whose parameters are so many tokens, and the closing one
  unfoldable pub proc_inner : ℕ → Reader ((List V × List S) × ℕ)
  proc_inner held = do
    _ ← one (sign curly)
    locals ← many full (a_local T.tokens) (behind_local T) (next_local T true full)
        (record { slots = 0; tokens = held })
    body ← next_stmts T true full room_in_body
    end ← one (sign end_curly)
    done ((locals, body), end)
