-- The immediates of the templates are numbers that instructions can have.
use Rattle.std.proofs.Common.{ℕ, zero, suc, ◌+◌, ◌-◌, ◌*◌, ◌≤◌, Bool, true, false, List, [], ◌∷◌, ◌++◌, drop}
use Rattle.std.proofs.Common.{arith, pos}
use Rattle.std.specs.Prelude.{FitsSigned}
use Rattle.std.specs.Int.{w32}
use Rattle.cap_words.specs.declared.TheConstants.{LAST_PLACE}
use Rattle.lcm_isa.specs.declared.Reg.{Reg}
use Rattle.lcm_isa.specs.declared.Reg.TheVariants.{Stk, Dat, C1, C2, A0, G0}
use Rattle.lcm_isa.specs.declared.Instr.{Instr}
use Rattle.lcm_isa.specs.declared.Instr.TheVariants as instr
use Rattle.lcm_isa.specs.declared.Instr.TheVariants.{Store}
use Rattle.lcm_isa.specs.Numbers.{IsInstr}
use Rattle.call_sequence.proofs.Offers.{near_operand, small_operand as near}
use Rattle.proc_language.specs.declared.TheConstants.{LARGEST_LITERAL}
use Rattle.proc_language.specs.declared.tree.Op.{Op}
use Rattle.proc_language.specs.declared.tree.Op.TheVariants as operator
use Rattle.proc_program.specs.Program.{Exp, Number, Load, Element, Call, Binary, Args, no_args, value, pass}
use Rattle.proc_program.specs.Program.{Statement, Set, SetAt, Do, If, While, Return, Halt}
use Rattle.proc_program.specs.Program.{Block, no_steps, step}
use Rattle.proc_program.specs.Limits.{register_count, registers_of, arg_registers}
use Rattle.proc_templates.specs.Items.{Item}
use Rattle.proc_templates.specs.Templates as templates
use Rattle.proc_program.specs.declared.program.Location.{Location}
use Rattle.proc_program.specs.declared.program.Location.TheVariants.{Local, Global}
use Rattle.proc_program.specs.declared.program.Handle.{Handle}
use Rattle.proc_program.specs.declared.program.Handle.TheVariants.{Given, Own, Imported}
use Rattle.proc_program.specs.declared.program.Array.{Array}
use Rattle.proc_templates.specs.declared.FrameShape.{FrameShape}
use Rattle.proc_templates.specs.Templates.{pair_words, op_words, exp_words, args_words, step_words}
use Rattle.proc_templates.specs.Templates.{block_words, at_slot, at_glob, load_var, store_var}
use Rattle.proc_templates.specs.Templates.{load_pair, op_code, arguments, argument, load_args, zeros, code}
use Rattle.proc_templates.specs.Templates.{args_code, step_code, block_code, if_code, check_param}
use Rattle.proc_templates.specs.Templates.{check_params, pushed, push, wipe, proc_code}
use Rattle.proc_templates.specs.Bounds.{PlaceBound, RowBound, HandleBound, ExpBound, ArgsBound, StepBound}
use Rattle.proc_templates.specs.Bounds.{BlockBound}
use Rattle.proc_templates.specs.Fit.{AllFit, ItemFits, ItemsFit}
use Rattle.proc_templates.proofs.Standing.{zero_fits}

small : (n : ℕ) → n ≤ LARGEST_LITERAL → FitsSigned w32 (pos n)
small n h = record { sfits = omega (arith, h) }

pub record Fit (xs : List Item) : Type 0 where
  pub by : ItemsFit xs

pub fits_both : (a b : List Item) → Fit a → Fit b → Fit (a ++ b)
fits_both a b x y = record { by = joined a b x.by y.by }
  where
    joined : (a b : List Item) → ItemsFit a → ItemsFit b → ItemsFit (a ++ b)
    joined [] b x y = y
    joined (i ∷ a) b x y = (x.0, joined a b x.1 y)

pub next : (i : Item) (xs : List Item) → ItemFits i → Fit xs → Fit (i ∷ xs)
next i xs f x = record { by = (f, x.by) }

pub none : Fit []
none = record { by = tt }

pair_least : (p : Handle) → 5 ≤ pair_words p
pair_least (Given i) = omega arith
pair_least (Own j) = omega arith
pair_least (Imported k) = omega arith

op_some : (o : Op) → 8 ≤ op_words o
op_some operator.Plus = omega arith
op_some operator.Minus = omega arith
op_some operator.Less = omega arith
op_some operator.Equal = omega arith

zeros_fit : (rs : List Reg) → Fit (zeros rs)
zeros_fit [] = none
zeros_fit (r ∷ rs) = next _ _ zero_fits (zeros_fit rs)

op_fits : (o : Op) → Fit (op_code o)
op_fits operator.Plus = next _ _ tt none
op_fits operator.Minus = next _ _ tt none
op_fits operator.Less = next _ _ tt none
op_fits operator.Equal = record { by = (tt, (tt, (tt, (near 1 (omega arith), (tt, tt))))) }

module _ (f : FrameShape) (words : f.words ≤ LAST_PLACE) where
  slot_fits : (j : ℕ) (i : Instr) → j ≤ LAST_PLACE → IsInstr i → Fit (at_slot f j i)
  slot_fits j i h g = record {
    by
        = (near_operand j f.words h words, (g, (near_operand f.words j words h, tt)));
  }

  glob_fits : (o : ℕ) (i : Instr) → o ≤ LAST_PLACE → IsInstr i → Fit (at_glob o i)
  glob_fits o i h g = record { by = (near o h, (g, (near_operand o 0 h (omega arith), tt))) }

  load_fits : (x : Location) → PlaceBound f x → Fit (load_var f x)
  load_fits (Local i) h = slot_fits (i + 2) (instr.Load G0 Stk) h tt
  load_fits (Global o) h = glob_fits (f.pairs + o) (instr.Load G0 Dat) h tt

  store_fits : (x : Location) → PlaceBound f x → Fit (store_var f x)
  store_fits (Local i) h = slot_fits (i + 2) (Store Stk G0) h tt
  store_fits (Global o) h = glob_fits (f.pairs + o) (Store Dat G0) h tt

  linked_fits : (k : ℕ) (r q : Reg) → k + 1 ≤ LAST_PLACE → Fit (templates.load_linked k r q)
  linked_fits k r q h =
      record {
        by = (
          near k (omega (arith, h)),
          (tt, (near 1 (omega arith), (tt, (near_operand (k + 1) 0 h (omega arith), tt)))),
        );
      }

  pair_fits : (p : Handle) (r q : Reg) → HandleBound f p → Fit (load_pair f p r q)
  pair_fits (Given i) r q h =
      fits_both (at_slot f (i + 2) (instr.Load r Stk)) _
      (slot_fits (i + 2) (instr.Load r Stk) (omega (arith, h)) tt) (slot_fits (i + 3) (instr.Load q Stk) h tt)
  pair_fits (Own j) r q h = linked_fits (2 * (f.imports + j)) r q h
  pair_fits (Imported k) r q h = linked_fits (2 * k) r q h

  element_fits : (r : Array) (i : Instr) → RowBound f r → IsInstr i → Fit (templates.at_row f r i)
  element_fits r i a g =
      record {
        by = (
          (zero_fits, (tt, (near r.length a.1, (near 1 (omega arith), (tt, tt))))),
          (near (f.pairs + r.first) a.0, (tt, (g, (zero_fits, (tt, (tt, tt)))))),
        );
      }

  load_args_fit : (args : Args) (t i : ℕ) → ArgsBound f args → t + i + args_words args ≤ LAST_PLACE
      → Fit (load_args f t i args)
  load_args_fit no_args t i w h = none
  load_args_fit (value e args) t i w h =
      fits_both (at_slot f (t + i) (instr.Load (argument i) Stk)) _
      (slot_fits (t + i) (instr.Load (argument i) Stk) (omega (arith, h)) tt)
      (load_args_fit args t (i + 1) w.1 (omega (arith, h)))
  load_args_fit (pass x args) t i w h =
      let n = pair_least x in
      fits_both (load_pair f x (argument i) (argument (i + 1))) _
      (pair_fits x (argument i) (argument (i + 1)) w.0)
      (load_args_fit args t (i + 2) w.1 (omega (arith, h, n)))

  call_fits : (t : ℕ) (x : Handle) (args : Args) → HandleBound f x → ArgsBound f args
      → t + args_words args ≤ LAST_PLACE → Fit (templates.call_items f t x args)
  call_fits t x args b w h =
      fits_both (load_args f t 0 args) _ (load_args_fit args t 0 w (omega (arith, h)))
      (fits_both (zeros (drop (arg_registers args) arguments)) _
      (zeros_fit (drop (arg_registers args) arguments))
      (fits_both (load_pair f x C1 C2) _ (pair_fits x C1 C2 b)
      (record { by = (zero_fits, (zero_fits, (zero_fits, (tt, (zero_fits, tt))))) })))

  mutual
    pub code_fits : (e : Exp) (t : ℕ) → ExpBound f e → t + exp_words e ≤ LAST_PLACE → Fit (code f t e)
    code_fits (Number n) t w h = next _ _ (small n w) none
    code_fits (Load x) t w h = load_fits x w
    code_fits (Element x e) t w h =
        fits_both (code f t e) _ (code_fits e t w.1 (omega (arith, h)))
        (fits_both (templates.at_row f x _) _ (element_fits x _ w.0 tt) (next _ _ tt none))
    code_fits (Call n x args) t w h =
        fits_both (args_code f t 0 args) _ (args_fit args t 0 w.2 (omega (arith, h)))
        (call_fits t x args w.1 w.2 (omega (arith, h)))
    code_fits (Binary o x y) t w h =
        let n = op_some o in
        fits_both (code f t x) _ (code_fits x t w.0 (omega (arith, h)))
        (fits_both (at_slot f t (Store Stk G0)) _ (slot_fits t (Store Stk G0) (omega (arith, h)) tt)
        (fits_both (code f (t + 1) y) _ (code_fits y (t + 1) w.1 (omega (arith, h, n)))
        (next _ _ tt (fits_both (at_slot f t (instr.Load G0 Stk)) (op_code o)
        (slot_fits t (instr.Load G0 Stk) (omega (arith, h)) tt) (op_fits o)))))

    pub args_fit : (args : Args) (t i : ℕ) → ArgsBound f args → t + i + args_words args ≤ LAST_PLACE
        → Fit (args_code f t i args)
    args_fit no_args t i w h = none
    args_fit (value e args) t i w h =
        fits_both (code f (t + i) e) _ (code_fits e (t + i) w.0 (omega (arith, h)))
        (fits_both (at_slot f (t + i) (Store Stk G0)) _
        (slot_fits (t + i) (Store Stk G0) (omega (arith, h)) tt)
        (args_fit args t (i + 1) w.1 (omega (arith, h))))
    args_fit (pass x args) t i w h = let n = pair_least x in args_fit args t (i + 2) w.1 (omega (arith, h, n))

  if_fits : (cs bs ds : List Item) (m n : ℕ) → m ≤ LAST_PLACE → n ≤ LAST_PLACE → Fit cs → Fit bs → Fit ds
      → Fit (if_code cs bs m ds n)
  if_fits cs bs ds m n hm hn c d e =
      fits_both cs _ c (next _ _ (small 6 (omega arith))
      (next _ _ (small (m + 6) (omega (arith, hm)))
      (next _ _ tt (fits_both bs _ d
      (next _ _ (small (n + 3) (omega (arith, hn)))
      (next _ _ tt (fits_both ds _ e (next _ _ tt none))))))))

  mutual
    pub stmt_fits : (s : Statement) → StepBound f s → f.temps + step_words s ≤ LAST_PLACE
        → Fit (step_code f s)
    stmt_fits (Set x e) w h = fits_both (code f f.temps e) _ (code_fits e f.temps w.1 (omega (arith, h)))
        (store_fits x w.0)
    stmt_fits (SetAt x i e) w h =
        fits_both (code f f.temps i) _ (code_fits i f.temps w.1 (omega (arith, h)))
        (fits_both (at_slot f f.temps (Store Stk G0)) _
        (slot_fits f.temps (Store Stk G0) (omega (arith, h)) tt)
        (fits_both (code f (f.temps + 1) e) _ (code_fits e (f.temps + 1) w.2 (omega (arith, h)))
        (next _ _ tt (fits_both (at_slot f f.temps (instr.Load G0 Stk)) _
        (slot_fits f.temps (instr.Load G0 Stk) (omega (arith, h)) tt)
        (element_fits x (Store Dat A0) w.0 tt)))))
    stmt_fits (Do e) w h = code_fits e f.temps w (omega (arith, h))
    stmt_fits (If k d e) w h = if_fits (code f f.temps k) (block_code f d) (block_code f e) (block_words d)
        (block_words e) (omega (arith, h)) (omega (arith, h)) (code_fits k f.temps w.0 (omega (arith, h)))
        (block_fits d w.1 (omega (arith, h))) (block_fits e w.2 (omega (arith, h)))
    stmt_fits (While k d) w h =
        next _ _ tt (fits_both (code f f.temps k) _ (code_fits k f.temps w.0 (omega (arith, h)))
        (next _ _ (small 6 (omega arith))
        (next _ _ (small (block_words d + 6) (omega (arith, h)))
        (next _ _ tt (fits_both (block_code f d) _ (block_fits d w.1 (omega (arith, h)))
        (next _ _ (near_operand (exp_words k + 6 + block_words d) 0 (omega (arith, h)) (omega arith))
        (next _ _ tt none)))))))
    stmt_fits (Return e) w h = fits_both (code f f.temps e) _ (code_fits e f.temps w (omega (arith, h)))
        (next _ _ tt (next _ _ tt none))
    stmt_fits (Halt e) w h = fits_both (code f f.temps e) _ (code_fits e f.temps w (omega (arith, h)))
        (next _ _ tt (next _ _ tt none))

    pub block_fits : (d : Block) → BlockBound f d → f.temps + block_words d ≤ LAST_PLACE
        → Fit (block_code f d)
    block_fits no_steps w h = none
    block_fits (step s d) w h = fits_both (step_code f s) (block_code f d)
        (stmt_fits s w.0 (omega (arith, h))) (block_fits d w.1 (omega (arith, h)))

  half_fits : (r : Reg) → AllFit (templates.check_half r)
  half_fits r = (tt, (near 3 (omega arith), (tt, (tt, (tt, tt)))))

  param_fits : (i : ℕ) (b : Bool) → ItemFits (check_param i b)
  param_fits i false = zero_fits
  param_fits i true =
      (tt, (near 3 (omega arith), (tt, (tt, (tt, (tt, (near 3 (omega arith), (tt, (tt, (tt, tt))))))))))

  params_fit : (bs : List Bool) (i : ℕ) → Fit (check_params i bs)
  params_fit [] i = none
  params_fit (b ∷ bs) i = next _ _ (param_fits i b) (params_fit bs (i + register_count b))

  push_fits : (rs : List Reg) → Fit (push rs)
  push_fits [] = none
  push_fits (r ∷ rs) = next _ _ tt (next _ _ (near_operand 1 0 (omega arith) (omega arith)) (push_fits rs))

  wipe_fits : (n : ℕ) → Fit (wipe n)
  wipe_fits zero = none
  wipe_fits (suc n) = next _ _ (near 1 (omega arith)) (next _ _ tt (wipe_fits n))

  pub proc_fits : (params : List Bool) (body : Block) → BlockBound f body
      → f.temps + block_words body ≤ LAST_PLACE → Fit (proc_code f params body)
  proc_fits params body w h =
      next _ _ tt (fits_both (check_params 0 params) _ (params_fit params 0)
      (fits_both (push (pushed (registers_of params) f.words)) _
      (push_fits (pushed (registers_of params) f.words))
      (fits_both (block_code f body) _ (block_fits body w h)
      (next _ _ zero_fits (next _ _ tt
      (next _ _ zero_fits (fits_both (wipe (f.words - 2)) _ (wipe_fits (f.words - 2))
      (record {
        by = (near 1 (omega arith), (tt, (tt, (near 1 (omega arith), (tt, (tt, (tt, tt)))))));
      }))))))))
