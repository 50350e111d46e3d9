-- What tokens spell keeps the limits of a module with tokens.
use Rattle.std.proofs.Common.{◌≡◌, ◌∙◌, ℕ, ◌+◌, ◌≤◌, List, [], ◌∷◌, length, map, refl, sym, subst, arith}
use Rattle.std.proofs.Common.{length-append, add-zero, zero-add}
use Rattle.std.proofs.lemmas.List.{length-map}
use Rattle.std.proofs.lemmas.List.Sums.{sum_by-cons}
use Rattle.std.specs.Prelude.{fold, sum_by, All}
use Rattle.proc_language.specs.declared.TheConstants.{MOST_REGISTERS, MOST_LOCALS, MOST_TOKENS}
use Rattle.proc_language.specs.declared.tree.Name.{Name}
use Rattle.proc_language.specs.declared.module.Param.{Param}
use Rattle.proc_language.specs.Tree as plain
use Rattle.proc_language.specs.Limits as limits
use Rattle.proc_language.specs.Limits.{Each, NameFits, ExprFits, ArgsFit, BlockFits, ParamFits, ProcFits}
use Rattle.token_language.specs.declared.tree.TokenArg.{TokenArg}
use Rattle.token_language.specs.declared.module.TokenParam.{TokenParam}
use Rattle.token_language.specs.declared.module.TokenParam.TheVariants as param
use Rattle.token_language.specs.declared.module.TokenLocal.{TokenLocal}
use Rattle.token_language.specs.declared.module.TokenProc.{TokenProc}
use Rattle.token_language.specs.declared.module.TokenModuleFields.{TokenModuleFields}
use Rattle.token_language.specs.Tree.{Expr, Stmt}
use Rattle.token_language.specs.View.{args_of}
use Rattle.token_language.specs.StmtView.{block_of}
use Rattle.token_language.specs.Erased.{erased_expr, erased_args, erased_before, erased_block, erased_params}
use Rattle.token_language.specs.Erased.{erased_locals, erased_proc}
use Rattle.token_language.specs.Tokens as own
use Rattle.token_language.specs.Limits.{TokensFit, IsTokenModule}
use Rattle.token_language.proofs.Offers.{block_of-stmts_in}
use Rattle.proc_grammar.specs.Lexemes.{Lexeme}
use Rattle.proc_grammar.specs.Tokens.{IsLexeme}
use Rattle.proc_grammar.specs.Grammar.{IsText, Taken}
use Rattle.proc_grammar.proofs.Offers.{Limits, Keeps, KeepsTokens, spelled_within}
use Rattle.token_parse.specs.TokenTrees.{token_trees, token_makes, param_tokens}

-- arguments after so many registers
abbrev ArgsWithin : ℕ → List TokenArg → Type 0
ArgsWithin used args =
    (used + limits.arg_registers (erased_args (args_of args)) ≤ MOST_REGISTERS)
    × ArgsFit (erased_args (args_of args))

-- parameters after others
abbrev registers_behind : ℕ → List Param → ℕ
registers_behind used params = fold (λ n (p : Param). n + limits.param_registers p.arity) used params

abbrev ParamsWithin : Taken → List TokenParam → Type 0
ParamsWithin used params =
    (registers_behind used.slots (erased_params params) ≤ MOST_REGISTERS)
    × Each ParamFits (erased_params params)

-- locals after others
abbrev LocalsWithin : Taken → List TokenLocal → Type 0
LocalsWithin used locals =
    (used.slots + length (erased_locals locals) ≤ MOST_LOCALS) × Each NameFits (erased_locals locals)
    × (used.tokens + length (own.local_tokens locals) ≤ MOST_TOKENS)

-- a statement may stand before others
abbrev Before : Stmt → Type 0
Before s = (b : plain.Block) → BlockFits b → BlockFits (erased_before s b)

abbrev token_limits : Limits Expr TokenArg Stmt TokenParam TokenLocal TokenProc TokenModuleFields
token_limits = record {
  Expr = λ e. ExprFits (erased_expr e);
  Args = ArgsWithin;
  Stmt = Before;
  Body = λ body. BlockFits (erased_block (block_of body));
  Params = ParamsWithin;
  Locals = LocalsWithin;
  Proc = λ p. ProcFits (erased_proc p) × TokensFit p;
  Module = IsTokenModule;
}

-- a call's arguments
call_within : (f : Name) (args : List TokenArg) → NameFits f → ArgsWithin 0 args
    → limits.CallFits f (erased_args (args_of args))
call_within f args n h = (
  n,
  (let le : 0 + limits.arg_registers (erased_args (args_of args)) ≤ MOST_REGISTERS = h.0 in omega
      (arith, le)),
)

-- how many tokens parameters are
params_count : (params : List TokenParam) → length (own.param_tokens params) ≡ sum_by param_tokens params
params_count [] = refl
params_count (param.Plain q ∷ params) =
    params_count params ∙ sym (zero-add (sum_by param_tokens params))
    ∙ sym (sum_by-cons param_tokens (param.Plain q) params)
params_count (param.Token x ∷ params) =
    let more = params_count params in
    let next = sum_by-cons param_tokens (param.Token x) params in
    omega (arith, more, next)

-- the procedures of a module
each_proc : (procs : List TokenProc) → Each (λ p. ProcFits (erased_proc p) × TokensFit p) procs
    → Each ProcFits (map erased_proc procs) × Each TokensFit procs
each_proc [] h = (tt, tt)
each_proc (p ∷ procs) h = let more = each_proc procs h.1 in ((h.0.0, more.0), (h.0.1, more.1))

token_keeps_tokens : KeepsTokens token_trees token_limits token_makes
token_keeps_tokens = record {
  registers = λ x. refl;
  param_registers = λ x. refl;
  param_tokens = λ x. refl;
  local_count = λ x. refl;
  local_tokens = λ x. refl;
  arg = λ used x n args h. subst (λ u. ArgsWithin u args) (add-zero used) h;
  param = λ used x n params h. (
    subst (λ u. registers_behind u (erased_params params) ≤ MOST_REGISTERS)
        (add-zero used.slots) h.0,
    h.1,
  );
  local = λ used x n locals h. (
    (let le : used.slots + 0 + length (erased_locals locals) ≤ MOST_LOCALS = h.0 in omega (arith, le)),
    h.1,
    (let le : used.tokens + 1 + length (own.local_tokens locals) ≤ MOST_TOKENS = h.2 in omega (arith, le)),
  );
  make = λ at end x n b h. h;
  spend = λ at end x n b h. h;
}

token_keeps : Keeps token_trees token_limits
token_keeps = record {
  value_registers = λ e. refl;
  pass_registers = λ x. refl;
  param_registers = λ x. refl;
  param_tokens = λ x. refl;
  callback_registers = λ x n. refl;
  callback_tokens = λ x n. refl;
  local_count = λ x. refl;
  local_tokens = λ x. refl;
  number = λ at n small. small;
  var = λ at x n. n;
  element = λ at x e n h. (n, h);
  call = λ at f args n h. (call_within f args n h, h.1);
  op = λ at o a b f g. (f, g);
  no_args = λ used h. (omega (arith, h), tt);
  value = λ used e f args h. (
    (let le : used + 1 + limits.arg_registers (erased_args (args_of args)) ≤ MOST_REGISTERS = h.0 in
        omega (arith, le)),
    (f, h.1),
  );
  pass = λ used x f args h. (
    (let le : used + 2 + limits.arg_registers (erased_args (args_of args)) ≤ MOST_REGISTERS = h.0 in
        omega (arith, le)),
    (f, h.1),
  );
  set = λ at end x e n h b k. ((n, h), k);
  set_at = λ at end x i e n k h b l. ((n, k, h), l);
  do_call = λ at end f args n h b k. ((call_within f args n h, h.1), k);
  if_then = λ at end e a h k b l. ((h, k), l);
  if_else = λ at end e a d h k l b m. ((h, k, l), m);
  while = λ at end e a h k b l. ((h, k), l);
  return = λ at end e h b k. (h, k);
  halt = λ at end e h b k. (h, k);
  no_stmts = tt;
  stmt = λ s body f h. f (erased_block (block_of body)) h;
  no_params = λ used h. (h, tt);
  param = λ used x n params h. (h.0, ((n, tt), h.1));
  callback = λ used x arity n a params h. (h.0, ((n, a), h.1));
  no_locals = λ used h k. (omega (arith, h), tt, omega (arith, k));
  local = λ used x n locals h. (
    (let le : used.slots + 1 + length (erased_locals locals) ≤ MOST_LOCALS = h.0 in omega (arith, le)),
    (n, h.1),
    (let le : used.tokens + 0 + length (own.local_tokens locals) ≤ MOST_TOKENS = h.2 in omega (arith, le)),
  );
  proc = λ at end shared x params locals body n p l h. (
    record {
      name = n;
      params = p.1;
      registers = p.0;
      locals = (
        (let le : 0 + length (erased_locals locals) ≤ MOST_LOCALS = l.0 in omega (arith, le)),
        l.1,
      );
      body = subst BlockFits (sym (block_of-stmts_in (erased_block (block_of body)))) h;
    },
    (let le : sum_by param_tokens params + length (own.local_tokens locals) ≤ MOST_TOKENS = l.2 in
        let both = length-append (own.param_tokens params) (own.local_tokens locals) in
        let count = params_count params in
        omega (arith, le, both, count)),
  );
  module_of = λ h imports globals procs head i g some p.
      let parts = each_proc procs p.1 in
      record {
        plain = record {
          name = head.name;
          code = head.code;
          data_base = head.data_base;
          closure = head.closure;
          returns = head.returns;
          stack = head.stack;
          imports = i;
          globals = g;
          some = omega (arith, some, length-map procs erased_proc);
          procs = (omega (arith, p.0, length-map procs erased_proc), parts.0);
        };
        tokens = parts.1;
      };
  tokens = token_keeps_tokens;
}

-- what proper tokens spell is a module with tokens
pub is_token_module : (tokens : List Lexeme) (m : TokenModuleFields) → All IsLexeme tokens
    → IsText token_trees tokens m → IsTokenModule m
is_token_module = spelled_within token_trees token_limits token_keeps
