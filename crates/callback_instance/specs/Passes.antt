-- Two modules that pass a number to a callback, in two ways.
use Rattle.std.specs.Prelude.{◌≡◌, ℕ, pos, [], ◌∷◌, List, map, Some, None}
use Rattle.proc_language.specs.declared.tree.Name.{Name}
use Rattle.proc_language.specs.declared.tree.Op.TheVariants.{Plus}
use Rattle.proc_language.specs.declared.module.ModuleFields.{ModuleFields}
use Rattle.proc_language.specs.declared.module.Proc.{Proc}
use Rattle.proc_language.specs.Tree.{Expr, Stmt, var, op, call, value, no_args, set, return}
use Rattle.proc_program.specs.Lower.{part_of}
use Rattle.source_events.specs.declared.Item.{Item}
use Rattle.source_events.specs.declared.Item.TheVariants.{Enter, Ret}
use Rattle.source_events.specs.declared.FeedPair.TheVariants as fed
use Rattle.source_events.specs.declared.FeedBack.TheVariants as way
use Rattle.proc_semantics.specs.Marked.{Event, Calls, Leaves, Number}
use Rattle.same_meanings.specs.Observed.{Came, observed}
use Rattle.same_meanings.specs.Observed as observing
use Rattle.context_instance.specs.Doubles.{named, x, g, exporting, module_t, global_g, AreOne}

-- the parameter p
abbrev pub p : Name
p = named 112

-- export proc f(x, p/1) with a body
abbrev pub passer : List Stmt → Proc
passer body =
    exporting (named 102)
    (record { name = x; arity = None } ∷ record { name = p; arity = Some 1 } ∷ []) body

-- return p(e);
abbrev pub passing : Expr → Stmt
passing e = return 0 (call 0 p (value e no_args))

-- module t; export proc f(x, p/1) { return p(x + x); }
abbrev pub passes : ModuleFields
passes = module_t 1 [] [] (passer (passing (op 0 Plus (var 0 x) (var 0 x)) ∷ []))

-- module t; global g; export proc f(x, p/1) { g = x; return p(g + x); }
abbrev pub stores : ModuleFields
stores =
    module_t 1 [] global_g
    (passer (set 0 g (var 0 x) ∷ passing (op 0 Plus (var 0 g) (var 0 x)) ∷ []))

-- code outside enters f with 3, a pair of its own and 8 words of the stack, to which it will leave; then the
-- call of the callback is answered with 9
abbrev pub asked : List Item
asked =
    Enter (116 ∷ []) (102 ∷ []) (Some 8) (Some (pos 3) ∷ None ∷ None ∷ Some (pos 0) ∷ [])
    (fed.Nothing ∷ fed.Out ∷ fed.Nothing ∷ []) way.Out
    ∷ Ret (116 ∷ []) 0 301 (Some (pos 9)) ∷ []

-- the callback is called with 6, by the pair that came with the first item; and f leaves with 9
abbrev pub called_and_left : List (Event observing.Name ℕ)
called_and_left =
    Calls (116 ∷ []) 0 301 (Some 2) (Some (Came 0 1)) (Some (Came 0 2))
    (Number (pos 6) ∷ Number (pos 0) ∷ Number (pos 0) ∷ Number (pos 0) ∷ [])
    ∷ Leaves (116 ∷ []) (pos 9) (Some 1) 0 ∷ []

-- They are one to code outside; and the first calls out, on some feed.
pub record TwoPassers : Type 0 where
  pub are_one : AreOne passes stores
  pub calls : (size : ℕ) → observed (map part_of (passes ∷ [])) size asked 40 ≡ called_and_left
