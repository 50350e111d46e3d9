-- The trees of the language of tokens.
use Rattle.std.specs.Prelude.{ℕ, Some, None}
use Rattle.proc_language.specs.Limits as limits
use Rattle.token_language.specs.declared.tree.TokenArg.{TokenArg}
use Rattle.token_language.specs.declared.tree.TokenArg.TheVariants as arg
use Rattle.token_language.specs.declared.module.TokenParam.{TokenParam}
use Rattle.token_language.specs.declared.module.TokenParam.TheVariants as param
use Rattle.token_language.specs.declared.module.TokenLocal.{TokenLocal}
use Rattle.token_language.specs.declared.module.TokenLocal.TheVariants as local
use Rattle.token_language.specs.declared.module.TokenProc.{TokenProc}
use Rattle.token_language.specs.declared.module.TokenModuleFields.{TokenModuleFields}
use Rattle.token_language.specs.Tree.{Expr, number, var, element, call, op, Stmt, set, set_at, do_call}
use Rattle.token_language.specs.Tree.{if_then, if_else, while, return, halt, make, spend}
use Rattle.token_language.specs.View.{args_of}
use Rattle.token_language.specs.StmtView.{block_of}
use Rattle.proc_grammar.specs.Makes.{Actions, TokenActions}

-- the place of an expression's first token
abbrev pub place_of : Expr → ℕ
place_of (number at n) = at
place_of (var at x) = at
place_of (element at x e) = at
place_of (call at f args) = at
place_of (op at o a b) = at

-- how many registers an argument takes
abbrev pub registers_of : TokenArg → ℕ
registers_of (arg.Value e) = 1
registers_of (arg.Proc f) = 2
registers_of (arg.Token x) = 0

-- how many registers a parameter takes, and how many tokens it is
abbrev pub param_registers : TokenParam → ℕ
param_registers (param.Plain q) = limits.param_registers q.arity
param_registers (param.Token x) = 0

abbrev pub param_tokens : TokenParam → ℕ
param_tokens (param.Plain q) = 0
param_tokens (param.Token x) = 1

-- as how many locals one counts, and how many tokens it is
abbrev pub local_count : TokenLocal → ℕ
local_count (local.Plain x) = 1
local_count (local.Token x) = 0

abbrev pub local_tokens : TokenLocal → ℕ
local_tokens (local.Plain x) = 0
local_tokens (local.Token x) = 1

abbrev pub token_makes : TokenActions TokenArg Stmt TokenParam TokenLocal
token_makes = record {
  param = param.Token;
  local = local.Token;
  arg = arg.Token;
  make = make;
  spend = spend;
}

abbrev pub token_trees : Actions Expr TokenArg Stmt TokenParam TokenLocal TokenProc TokenModuleFields
token_trees = record {
  number = number;
  var = var;
  element = element;
  call = λ at f args. call at f (args_of args);
  op = op;
  place = place_of;
  value = arg.Value;
  pass = arg.Proc;
  registers = registers_of;
  set = set;
  set_at = set_at;
  do_call = λ at end f args. do_call at end f (args_of args);
  if_then = λ at end c a. if_then at end c (block_of a);
  if_else = λ at end c a b. if_else at end c (block_of a) (block_of b);
  while = λ at end c a. while at end c (block_of a);
  return = return;
  halt = halt;
  param = λ x. param.Plain (record { name = x; arity = None });
  callback = λ x n. param.Plain (record { name = x; arity = Some n });
  param_registers = param_registers;
  param_tokens = param_tokens;
  local = local.Plain;
  local_count = local_count;
  local_tokens = local_tokens;
  proc = λ at end shared x params locals body. record {
    at = at;
    end = end;
    shared = shared;
    name = x;
    params = params;
    locals = locals;
    body = body;
  };
  module_of = λ h imports globals procs. record {
    at = h.at;
    name = h.name;
    code = h.code;
    data_base = h.data_base;
    closure = h.closure;
    returns = h.returns;
    return_count = h.return_count;
    stack = h.stack;
    movable = h.movable;
    imports = imports;
    globals = globals;
    procs = procs;
  };
  tokens = Some token_makes;
}
