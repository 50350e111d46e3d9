-- The trees of the language. They have no place of a last token, and there are no tokens.
use Rattle.std.specs.Prelude.{ℕ, Some, None}
use Rattle.proc_language.specs.declared.tree.Name.{Name}
use Rattle.proc_language.specs.declared.tree.Arg.{Arg}
use Rattle.proc_language.specs.declared.tree.Arg.TheVariants.{Value, Proc as Pass}
use Rattle.proc_language.specs.declared.module.Param.{Param}
use Rattle.proc_language.specs.declared.module.Proc.{Proc}
use Rattle.proc_language.specs.declared.module.ModuleFields.{ModuleFields}
use Rattle.proc_language.specs.Limits.{param_registers}
use Rattle.proc_language.specs.Tree.{Expr, number, var, element, call, op}
use Rattle.proc_language.specs.Tree.{Stmt, set, set_at, do_call, if_then, if_else, while, return, halt}
use Rattle.proc_language.specs.View.{args_of}
use Rattle.proc_language.specs.StmtView.{block_of}
use Rattle.proc_grammar.specs.Makes.{Actions}

-- the place of an expression's first token
abbrev pub place_of : Expr → ℕ
place_of (number at n) = at
place_of (var at x) = at
place_of (element at x e) = at
place_of (call at f args) = at
place_of (op at o a b) = at

-- how many registers an argument takes
abbrev pub registers_of : Arg → ℕ
registers_of (Value e) = 1
registers_of (Pass f) = 2

abbrev pub plain_trees : Actions Expr Arg Stmt Param Name Proc ModuleFields
plain_trees = record {
  number = number;
  var = var;
  element = element;
  call = λ at f args. call at f (args_of args);
  op = op;
  place = place_of;
  value = Value;
  pass = Pass;
  registers = registers_of;
  set = λ at end. set at;
  set_at = λ at end. set_at at;
  do_call = λ at end f args. do_call at f (args_of args);
  if_then = λ at end c a. if_then at c (block_of a);
  if_else = λ at end c a b. if_else at c (block_of a) (block_of b);
  while = λ at end c a. while at c (block_of a);
  return = λ at end. return at;
  halt = λ at end. halt at;
  param = λ x. record { name = x; arity = None };
  callback = λ x n. record { name = x; arity = Some n };
  param_registers = λ p. param_registers p.arity;
  param_tokens = λ p. 0;
  local = λ x. x;
  local_count = λ x. 1;
  local_tokens = λ x. 0;
  proc = λ at end shared x params locals body. record {
    at = at;
    shared = shared;
    name = x;
    params = params;
    locals = locals;
    body = body;
  };
  module_of = λ h imports globals procs. record {
    at = h.at;
    name = h.name;
    code = h.code;
    data_base = h.data_base;
    closure = h.closure;
    returns = h.returns;
    return_count = h.return_count;
    stack = h.stack;
    movable = h.movable;
    imports = imports;
    globals = globals;
    procs = procs;
  };
  tokens = None;
}
