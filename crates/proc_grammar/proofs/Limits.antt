-- Limits of trees: they hold of what is made of parts of which they hold.
use Rattle.std.proofs.Common.{◌≡◌, ℕ, ◌≤◌, List, [], ◌∷◌, length, Bool}
use Rattle.std.specs.Prelude.{IfSome}
use Rattle.cap_words.specs.declared.TheConstants.{LAST_PLACE}
use Rattle.proc_language.specs.declared.TheConstants.{MOST_ITEMS, MOST_REGISTERS, MOST_LOCALS, MOST_TOKENS}
use Rattle.proc_language.specs.declared.TheConstants.{LARGEST_LITERAL}
use Rattle.proc_language.specs.declared.tree.Name.{Name}
use Rattle.proc_language.specs.declared.tree.Op.{Op}
use Rattle.proc_language.specs.declared.module.Import.{Import}
use Rattle.proc_language.specs.declared.module.Global.{Global}
use Rattle.proc_language.specs.Limits.{Each, NameFits, ImportFits, GlobalFits, SealsFit}
use Rattle.proc_grammar.specs.declared.header.ModuleHeader.{ModuleHeader}
use Rattle.proc_grammar.specs.Makes.{Actions, TokenActions}
use Rattle.proc_grammar.specs.Grammar.{behind_arg, behind_param, behind_local, behind_params, Taken}
use Rattle.proc_grammar.specs.Grammar.{none_taken}

pub record HeaderFits (h : ModuleHeader) : Type 0 where
  pub name : NameFits h.name
  pub code : h.code ≤ LAST_PLACE
  pub data_base : h.data_base ≤ LAST_PLACE
  pub closure : h.closure ≤ LAST_PLACE
  pub returns : SealsFit h.returns h.return_count
  pub stack : h.stack ≤ LAST_PLACE

-- so many that all hold it
abbrev pub Few : {A : Type 0} → (A → Type 0) → List A → Type 0
Few Fits xs = (length xs ≤ MOST_ITEMS) × Each Fits xs

-- The limits: of arguments, parameters and locals after others, by what those take.
pub record Limits (E A S P V R M : Type 0) : Type 1 where
  pub Expr : E → Type 0
  pub Args : ℕ → List A → Type 0
  pub Stmt : S → Type 0
  pub Body : List S → Type 0
  pub Params : Taken → List P → Type 0
  pub Locals : Taken → List V → Type 0
  pub Proc : R → Type 0
  pub Module : M → Type 0

module _ {E A S P V R M : Type 0} (T : Actions E A S P V R M) (L : Limits E A S P V R M) where
  -- an argument, a parameter or a local may stand before others
  abbrev pub Leads : ℕ → A → Type 0
  Leads used a = (args : List A) → L.Args (behind_arg T used a) args → L.Args used (a ∷ args)

  abbrev pub LeadsParams : Taken → P → Type 0
  LeadsParams used p = (params : List P) → L.Params (behind_param T used p) params → L.Params used
      (p ∷ params)

  abbrev pub LeadsLocals : Taken → V → Type 0
  LeadsLocals used v = (locals : List V) → L.Locals (behind_local T used v) locals → L.Locals used
      (v ∷ locals)

  -- what has to do with tokens keeps them
  pub record KeepsTokens (makes : TokenActions A S P V) : Type 0 where
    pub registers : (x : Name) → T.registers (makes.arg x) ≡ 0
    pub param_registers : (x : Name) → T.param_registers (makes.param x) ≡ 0
    pub param_tokens : (x : Name) → T.param_tokens (makes.param x) ≡ 1
    pub local_count : (x : Name) → T.local_count (makes.local x) ≡ 0
    pub local_tokens : (x : Name) → T.local_tokens (makes.local x) ≡ 1
    pub arg : (used : ℕ) (x : Name) → NameFits x → Leads used (makes.arg x)
    pub param : (used : Taken) (x : Name) → NameFits x → LeadsParams used (makes.param x)
    pub local : (used : Taken) (x : Name) → NameFits x → LeadsLocals used (makes.local x)
    pub make : (at end : ℕ) (x : Name) → NameFits x → L.Stmt (makes.make at end x)
    pub spend : (at end : ℕ) (x : Name) → NameFits x → L.Stmt (makes.spend at end x)

  -- what is made of parts keeps them where the parts do
  pub record Keeps : Type 0 where
    pub value_registers : (e : E) → T.registers (T.value e) ≡ 1
    pub pass_registers : (x : Name) → T.registers (T.pass x) ≡ 2
    pub param_registers : (x : Name) → T.param_registers (T.param x) ≡ 1
    pub param_tokens : (x : Name) → T.param_tokens (T.param x) ≡ 0
    pub callback_registers : (x : Name) (n : ℕ) → T.param_registers (T.callback x n) ≡ 2
    pub callback_tokens : (x : Name) (n : ℕ) → T.param_tokens (T.callback x n) ≡ 0
    pub local_count : (x : Name) → T.local_count (T.local x) ≡ 1
    pub local_tokens : (x : Name) → T.local_tokens (T.local x) ≡ 0
    pub number : (at n : ℕ) → n ≤ LARGEST_LITERAL → L.Expr (T.number at n)
    pub var : (at : ℕ) (x : Name) → NameFits x → L.Expr (T.var at x)
    pub element : (at : ℕ) (x : Name) (e : E) → NameFits x → L.Expr e → L.Expr (T.element at x e)
    pub call : (at : ℕ) (f : Name) (args : List A) → NameFits f → L.Args 0 args → L.Expr (T.call at f args)
    pub op : (at : ℕ) (o : Op) (a b : E) → L.Expr a → L.Expr b → L.Expr (T.op at o a b)
    pub no_args : (used : ℕ) → used ≤ MOST_REGISTERS → L.Args used []
    pub value : (used : ℕ) (e : E) → L.Expr e → Leads used (T.value e)
    pub pass : (used : ℕ) (f : Name) → NameFits f → Leads used (T.pass f)
    pub set : (at end : ℕ) (x : Name) (e : E) → NameFits x → L.Expr e → L.Stmt (T.set at end x e)
    pub set_at : (at end : ℕ) (x : Name) (i e : E) → NameFits x → L.Expr i → L.Expr e
        → L.Stmt (T.set_at at end x i e)
    pub do_call : (at end : ℕ) (f : Name) (args : List A) → NameFits f → L.Args 0 args
        → L.Stmt (T.do_call at end f args)
    pub if_then : (at end : ℕ) (e : E) (a : List S) → L.Expr e → L.Body a → L.Stmt (T.if_then at end e a)
    pub if_else : (at end : ℕ) (e : E) (a b : List S) → L.Expr e → L.Body a → L.Body b
        → L.Stmt (T.if_else at end e a b)
    pub while : (at end : ℕ) (e : E) (a : List S) → L.Expr e → L.Body a → L.Stmt (T.while at end e a)
    pub return : (at end : ℕ) (e : E) → L.Expr e → L.Stmt (T.return at end e)
    pub halt : (at end : ℕ) (e : E) → L.Expr e → L.Stmt (T.halt at end e)
    pub no_stmts : L.Body []
    pub stmt : (s : S) (body : List S) → L.Stmt s → L.Body body → L.Body (s ∷ body)
    pub no_params : (used : Taken) → used.slots ≤ MOST_REGISTERS → L.Params used []
    pub param : (used : Taken) (x : Name) → NameFits x → LeadsParams used (T.param x)
    pub callback : (used : Taken) (x : Name) (n : ℕ) → NameFits x → n ≤ MOST_REGISTERS
        → LeadsParams used (T.callback x n)
    pub no_locals : (used : Taken) → used.slots ≤ MOST_LOCALS → used.tokens ≤ MOST_TOKENS → L.Locals used []
    pub local : (used : Taken) (x : Name) → NameFits x → LeadsLocals used (T.local x)
    pub proc : (at end : ℕ) (shared : Bool) (x : Name) (params : List P) (locals : List V) (body : List S)
        → NameFits x → L.Params none_taken params → L.Locals (behind_params T params) locals → L.Body body
        → L.Proc (T.proc at end shared x params locals body)
    pub module_of : (h : ModuleHeader) (imports : List Import) (globals : List Global) (procs : List R)
        → HeaderFits h → Few ImportFits imports → Few GlobalFits globals → 1 ≤ length procs
        → Few L.Proc procs → L.Module (T.module_of h imports globals procs)
    pub tokens : IfSome T.tokens KeepsTokens
