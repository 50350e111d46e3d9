-- What trees are made of: expressions E, arguments A, statements S, parameters P, locals V, procedures R
-- and modules M. A first number is the place of the first token; where there are two, the second is that
-- of the last one.
use Rattle.std.specs.Prelude.{ℕ, Bool, List, Option}
use Rattle.proc_language.specs.declared.tree.Name.{Name}
use Rattle.proc_language.specs.declared.tree.Op.{Op}
use Rattle.proc_language.specs.declared.module.Import.{Import}
use Rattle.proc_language.specs.declared.module.Global.{Global}
use Rattle.proc_grammar.specs.declared.header.ModuleHeader.{ModuleHeader}

-- what a language has besides that has tokens
pub record TokenActions (A S P V : Type 0) : Type 0 where
  pub param : Name → P
  pub local : Name → V
  pub arg : Name → A
  pub make : ℕ → ℕ → Name → S
  pub spend : ℕ → ℕ → Name → S

pub record Actions (E A S P V R M : Type 0) : Type 0 where
  pub number : ℕ → ℕ → E
  pub var : ℕ → Name → E
  pub element : ℕ → Name → E → E
  pub call : ℕ → Name → List A → E
  pub op : ℕ → Op → E → E → E
  pub place : E → ℕ
  pub value : E → A
  pub pass : Name → A
  -- how many registers an argument takes
  pub registers : A → ℕ
  pub set : ℕ → ℕ → Name → E → S
  pub set_at : ℕ → ℕ → Name → E → E → S
  pub do_call : ℕ → ℕ → Name → List A → S
  pub if_then : ℕ → ℕ → E → List S → S
  pub if_else : ℕ → ℕ → E → List S → List S → S
  pub while : ℕ → ℕ → E → List S → S
  pub return : ℕ → ℕ → E → S
  pub halt : ℕ → ℕ → E → S
  pub param : Name → P
  pub callback : Name → ℕ → P
  -- how many registers a parameter takes
  pub param_registers : P → ℕ
  -- how many tokens it is
  pub param_tokens : P → ℕ
  pub local : Name → V
  -- as how many locals one counts
  pub local_count : V → ℕ
  -- how many tokens it is
  pub local_tokens : V → ℕ
  pub proc : ℕ → ℕ → Bool → Name → List P → List V → List S → R
  pub module_of : ModuleHeader → List Import → List Global → List R → M
  pub tokens : Option (TokenActions A S P V)
