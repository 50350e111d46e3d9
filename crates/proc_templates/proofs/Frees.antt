-- Expressions and the parts of a procedure's beginning and end need nothing of their surroundings.
use Rattle.std.proofs.lemmas.Bool.{and_parts}
use Rattle.std.proofs.Common.{◌≡◌, ℕ, zero, suc, ◌+◌, Bool, true, false, List, [], ◌∷◌, ◌++◌, drop, refl, ap}
use Rattle.std.specs.List.{list_all}
use Rattle.lcm_isa.specs.declared.Reg.{Reg}
use Rattle.lcm_isa.specs.declared.Reg.TheVariants.{C1, C2}
use Rattle.proc_language.specs.declared.tree.Op.{Op}
use Rattle.proc_language.specs.declared.tree.Op.TheVariants as operator
use Rattle.proc_program.specs.Program.{Exp, Number, Load, Element, Call, Binary, Args, no_args, value, pass}
use Rattle.proc_program.specs.Limits.{register_count, arg_registers}
use Rattle.proc_templates.specs.Items.{Item}
use Rattle.proc_program.specs.declared.program.Location.{Location}
use Rattle.proc_program.specs.declared.program.Location.TheVariants.{Local, Global}
use Rattle.proc_program.specs.declared.program.Handle.{Handle}
use Rattle.proc_program.specs.declared.program.Handle.TheVariants.{Given, Own, Imported}
use Rattle.proc_templates.specs.declared.FrameShape.{FrameShape}
use Rattle.proc_templates.specs.Templates as templates
use Rattle.proc_templates.specs.Templates.{load_slot, load_var, store_var, load_pair}
use Rattle.proc_templates.specs.Templates.{op_code, arguments, argument, load_args, zeros, code, args_code}
use Rattle.proc_templates.specs.Templates.{check_param, check_params, push, wipe}
use Rattle.proc_templates.specs.Ready.{is_low, is_quiet}
use Rattle.proc_templates.specs.Free.{is_guarded, ends_or_goes, is_free}

abbrev pub AllFree : List Item → Type 0
AllFree xs = list_all is_free xs ≡ true

pub all_both : (a b : List Item) → AllFree a → AllFree b → AllFree (a ++ b)
all_both [] b x y = y
all_both (i ∷ a) b x y = rw ((and_parts (is_free i) (list_all is_free a) x).0)
    (all_both a b ((and_parts (is_free i) (list_all is_free a) x).1) y)

pub arg_low : (i : ℕ) → is_low (argument i) ≡ true
arg_low zero = refl
arg_low (suc zero) = refl
arg_low (suc (suc zero)) = refl
arg_low (suc (suc (suc zero))) = refl
arg_low (suc (suc (suc (suc i)))) = refl

load_slot_free : (f : FrameShape) (j : ℕ) (r : Reg) → is_low r ≡ true → AllFree (load_slot f j r)
unfolding is_free ends_or_goes is_quiet
load_slot_free f j r e = rw e refl

load_var_free : (f : FrameShape) (p : Location) → AllFree (load_var f p)
unfolding is_free ends_or_goes is_quiet
load_var_free f (Local i) = refl
load_var_free f (Global o) = refl

pub store_var_free : (f : FrameShape) (p : Location) → AllFree (store_var f p)
unfolding is_free ends_or_goes is_quiet
store_var_free f (Local i) = refl
store_var_free f (Global o) = refl

pair_free : (f : FrameShape) (p : Handle) (r q : Reg) → is_low r ≡ true → is_low q ≡ true
    → AllFree (load_pair f p r q)
unfolding is_free ends_or_goes is_quiet
pair_free f (Given i) r q e h = rw (e, h) refl
pair_free f (Own j) r q e h = rw (e, h) refl
pair_free f (Imported k) r q e h = rw (e, h) refl

op_free : (o : Op) → AllFree (op_code o)
unfolding is_free ends_or_goes is_quiet
op_free operator.Plus = refl
op_free operator.Minus = refl
op_free operator.Less = refl
op_free operator.Equal = refl

zeros_free : (rs : List Reg) → list_all is_low rs ≡ true → AllFree (zeros rs)
unfolding is_free ends_or_goes is_quiet
zeros_free [] e = refl
zeros_free (r ∷ rs) e = rw ((and_parts (is_low r) (list_all is_low rs) e).0)
    (zeros_free rs ((and_parts (is_low r) (list_all is_low rs) e).1))

drop_none : (n : ℕ) → drop {A = Reg} n [] ≡ []
drop_none zero = refl
drop_none (suc n) = refl

rest_low : (n : ℕ) → list_all is_low (drop n arguments) ≡ true
rest_low zero = refl
rest_low (suc zero) = refl
rest_low (suc (suc zero)) = refl
rest_low (suc (suc (suc zero))) = refl
rest_low (suc (suc (suc (suc n)))) = ap (list_all is_low) (drop_none n)

load_args_free : (f : FrameShape) (args : Args) (t i : ℕ) → AllFree (load_args f t i args)
load_args_free f no_args t i = refl
load_args_free f (value e args) t i =
    all_both (load_slot f (t + i) (argument i)) _ (load_slot_free f (t + i) (argument i) (arg_low i))
    (load_args_free f args t (i + 1))
load_args_free f (pass x args) t i =
    all_both (load_pair f x (argument i) (argument (i + 1))) _
    (pair_free f x (argument i) (argument (i + 1)) (arg_low i) (arg_low (i + 1)))
    (load_args_free f args t (i + 2))

pub call_free : (f : FrameShape) (t : ℕ) (x : Handle) (args : Args)
    → AllFree (templates.call_items f t x args)
unfolding is_free ends_or_goes is_quiet
call_free f t x args =
    all_both (load_args f t 0 args) _ (load_args_free f args t 0)
    (all_both (zeros (drop (arg_registers args) arguments)) _
    (zeros_free (drop (arg_registers args) arguments) (rest_low (arg_registers args)))
    (all_both (load_pair f x C1 C2) _ (pair_free f x C1 C2 refl refl) refl))

mutual
  unfolding is_free is_guarded ends_or_goes is_quiet

  pub code_free : (f : FrameShape) (e : Exp) (t : ℕ) → AllFree (code f t e)
  code_free f (Number n) t = refl
  code_free f (Load x) t = load_var_free f x
  code_free f (Element x e) t = all_both (code f t e) _ (code_free f e t) refl
  code_free f (Call n x args) t =
      all_both (args_code f t 0 args) _ (args_free f args t 0) (call_free f t x args)
  code_free f (Binary o a b) t =
      all_both (code f t a) _ (code_free f a t)
      (all_both (code f (t + 1) b) _ (code_free f b (t + 1)) (op_free o))

  pub args_free : (f : FrameShape) (args : Args) (t i : ℕ) → AllFree (args_code f t i args)
  args_free f no_args t i = refl
  args_free f (value e args) t i =
      all_both (code f (t + i) e) _ (code_free f e (t + i)) (args_free f args t (i + 1))
  args_free f (pass x args) t i = args_free f args t (i + 2)

-- ---- the beginning and the end of a procedure

param_free : (i : ℕ) (b : Bool) → is_free (check_param i b) ≡ true
unfolding is_free is_guarded ends_or_goes is_quiet
param_free i false = rw (arg_low i) refl
param_free i true = rw (arg_low i, arg_low (i + 1)) refl

pub params_free : (ps : List Bool) (i : ℕ) → AllFree (check_params i ps)
params_free [] i = refl
params_free (b ∷ bs) i = rw (param_free i b) (params_free bs (i + register_count b))

pub push_free : (rs : List Reg) → list_all is_low rs ≡ true → AllFree (push rs)
unfolding is_free ends_or_goes is_quiet
push_free [] e = refl
push_free (r ∷ rs) e = rw ((and_parts (is_low r) (list_all is_low rs) e).0)
    (push_free rs ((and_parts (is_low r) (list_all is_low rs) e).1))

pub wipe_free : (n : ℕ) → AllFree (wipe n)
unfolding is_free ends_or_goes is_quiet
wipe_free zero = refl
wipe_free (suc n) = wipe_free n
