-- What tokens spell keeps the limits of a module.
use Rattle.std.proofs.Common.{ℕ, ◌+◌, ◌≤◌, List, length, refl, arith}
use Rattle.std.specs.Prelude.{fold, All}
use Rattle.proc_language.specs.declared.TheConstants.{MOST_REGISTERS, MOST_LOCALS}
use Rattle.proc_language.specs.declared.tree.Name.{Name}
use Rattle.proc_language.specs.declared.tree.Arg.{Arg}
use Rattle.proc_language.specs.declared.module.Param.{Param}
use Rattle.proc_language.specs.declared.module.Proc.{Proc}
use Rattle.proc_language.specs.declared.module.ModuleFields.{ModuleFields}
use Rattle.proc_language.specs.Tree.{Expr, Stmt}
use Rattle.proc_language.specs.View.{args_of}
use Rattle.proc_language.specs.StmtView.{block_of}
use Rattle.proc_language.specs.Limits as limits
use Rattle.proc_language.specs.Limits.{Each, NameFits, ExprFits, ArgsFit, StmtFits, BlockFits, ParamFits}
use Rattle.proc_language.specs.Limits.{ProcFits, IsModule}
use Rattle.proc_grammar.specs.Lexemes.{Lexeme}
use Rattle.proc_grammar.specs.Tokens.{IsLexeme}
use Rattle.proc_grammar.specs.PlainTrees.{plain_trees}
use Rattle.proc_grammar.specs.Grammar.{IsText, Taken}
use Rattle.proc_grammar.proofs.Limits.{Limits, Keeps}
use Rattle.proc_grammar.proofs.Within.{spelled_within}

-- arguments after so many registers
abbrev ArgsWithin : ℕ → List Arg → Type 0
ArgsWithin used args = (used + limits.arg_registers (args_of args) ≤ MOST_REGISTERS) × ArgsFit (args_of args)

-- parameters after others
abbrev registers_behind : ℕ → List Param → ℕ
registers_behind used params = fold (λ n (p : Param). n + limits.param_registers p.arity) used params

abbrev ParamsWithin : Taken → List Param → Type 0
ParamsWithin used params = (registers_behind used.slots params ≤ MOST_REGISTERS) × Each ParamFits params

-- locals after others
abbrev LocalsWithin : Taken → List Name → Type 0
LocalsWithin used locals = (used.slots + length locals ≤ MOST_LOCALS) × Each NameFits locals

abbrev plain_limits : Limits Expr Arg Stmt Param Name Proc ModuleFields
plain_limits = record {
  Expr = ExprFits;
  Args = ArgsWithin;
  Stmt = StmtFits;
  Body = λ body. BlockFits (block_of body);
  Params = ParamsWithin;
  Locals = LocalsWithin;
  Proc = ProcFits;
  Module = IsModule;
}

-- a call's arguments
call_within : (f : Name) (args : List Arg) → NameFits f → ArgsWithin 0 args → limits.CallFits f (args_of args)
call_within f args n h =
    (n, (let le : 0 + limits.arg_registers (args_of args) ≤ MOST_REGISTERS = h.0 in omega (arith, le)))

plain_keeps : Keeps plain_trees plain_limits
plain_keeps = record {
  value_registers = λ e. refl;
  pass_registers = λ x. refl;
  param_registers = λ x. refl;
  param_tokens = λ x. refl;
  callback_registers = λ x n. refl;
  callback_tokens = λ x n. refl;
  local_count = λ x. refl;
  local_tokens = λ x. refl;
  number = λ at n small. small;
  var = λ at x n. n;
  element = λ at x e n h. (n, h);
  call = λ at f args n h. (call_within f args n h, h.1);
  op = λ at o a b f g. (f, g);
  no_args = λ used h. (omega (arith, h), tt);
  value = λ used e f args h. (
    (let le : used + 1 + limits.arg_registers (args_of args) ≤ MOST_REGISTERS = h.0 in omega (arith, le)),
    (f, h.1),
  );
  pass = λ used x f args h. (
    (let le : used + 2 + limits.arg_registers (args_of args) ≤ MOST_REGISTERS = h.0 in omega (arith, le)),
    (f, h.1),
  );
  set = λ at end x e n h. (n, h);
  set_at = λ at end x i e n k h. (n, k, h);
  do_call = λ at end f args n h. (call_within f args n h, h.1);
  if_then = λ at end e a h b. (h, b);
  if_else = λ at end e a b h k l. (h, k, l);
  while = λ at end e a h b. (h, b);
  return = λ at end e h. h;
  halt = λ at end e h. h;
  no_stmts = tt;
  stmt = λ s body f h. (f, h);
  no_params = λ used h. (h, tt);
  param = λ used x n params h. (h.0, ((n, tt), h.1));
  callback = λ used x arity n a params h. (h.0, ((n, a), h.1));
  no_locals = λ used h k. (omega (arith, h), tt);
  local = λ used x n locals h. (
    (let le : used.slots + 1 + length locals ≤ MOST_LOCALS = h.0 in omega (arith, le)),
    (n, h.1),
  );
  proc = λ at end shared x params locals body n p l h. record {
    name = n;
    params = p.1;
    registers = p.0;
    locals = ((let le : 0 + length locals ≤ MOST_LOCALS = l.0 in omega (arith, le)), l.1);
    body = h;
  };
  module_of = λ h imports globals procs head i g some p. record {
    name = head.name;
    code = head.code;
    data_base = head.data_base;
    closure = head.closure;
    returns = head.returns;
    stack = head.stack;
    imports = i;
    globals = g;
    some = some;
    procs = p;
  };
  tokens = tt;
}

-- what proper tokens spell is a module
pub is_module : (tokens : List Lexeme) (m : ModuleFields) → All IsLexeme tokens → IsText plain_trees tokens m
    → IsModule m
is_module = spelled_within plain_trees plain_limits plain_keeps
