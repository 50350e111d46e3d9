-- Programs as ghost values: each is told from every other.
use Rattle.std.specs.Prelude.{◌≡◌, refl}
use Rattle.std.specs.Coded.{Coded}
use Rattle.std.proofs.Common.{sym, ◌∙◌, ap}
use base.Stored.{Gv, gnil, gnum, gcons}
use Rattle.proc_language.specs.Codes.{sign_back, sign_in, sign}
use Rattle.proc_program.specs.declared.program.Handle.{Handle}
use Rattle.proc_program.specs.declared.program.Handle.TheVariants.{Given, Own, Imported}
use Rattle.proc_program.specs.declared.program.Location.{Location}
use Rattle.proc_program.specs.declared.program.Location.TheVariants.{Local, Global}
use Rattle.proc_program.specs.Program.{Exp, Number, Load, Element, Call, Binary, Args, no_args, value, pass}
use Rattle.proc_program.specs.Program.{Statement, Set, SetAt, Do, If, While, Return, Halt}
use Rattle.proc_program.specs.Program.{Block, no_steps, step}

-- ---- small things

abbrev handle : Handle → Gv
handle (Given i) = gnum i
handle (Own i) = gcons gnil (gnum i)
handle (Imported i) = gcons (gnum 0) (gnum i)

abbrev handle_in : Gv → Handle
handle_in (gnum i) = Given i
handle_in (gcons gnil (gnum i)) = Own i
handle_in (gcons (gnum n) (gnum i)) = Imported i
handle_in _ = Own 0

handle_back : (h : Handle) → handle_in (handle h) ≡ h
handle_back (Given i) = refl
handle_back (Own i) = refl
handle_back (Imported i) = refl

abbrev place : Location → Gv
place (Local i) = gnum i
place (Global o) = gcons gnil (gnum o)

abbrev place_in : Gv → Location
place_in (gnum i) = Local i
place_in (gcons g (gnum o)) = Global o
place_in _ = Local 0

place_back : (x : Location) → place_in (place x) ≡ x
place_back (Local i) = refl
place_back (Global o) = refl

-- ---- expressions

abbrev mutual
  exp : Exp → Gv
  exp (Number n) = gnum n
  exp (Load x) = gcons gnil (place x)
  exp (Element a e) = gcons (gnum a.first) (gcons (gnum a.length) (exp e))
  exp (Call site h xs) = gcons (gcons gnil (gnum site)) (gcons (handle h) (args xs))
  exp (Binary o a b) = gcons (gcons (gnum 0) (sign o)) (gcons (exp a) (exp b))

  args : Args → Gv
  args no_args = gnil
  args (value e xs) = gcons (gcons gnil (exp e)) (args xs)
  args (pass h xs) = gcons (gcons (gnum 0) (handle h)) (args xs)

abbrev mutual
  exp_in : Gv → Exp
  exp_in (gnum n) = Number n
  exp_in (gcons gnil x) = Load (place_in x)
  exp_in (gcons (gnum first) (gcons (gnum length) e)) =
      Element (record { first = first; length = length }) (exp_in e)
  exp_in (gcons (gcons gnil (gnum site)) (gcons h xs)) = Call site (handle_in h) (args_in xs)
  exp_in (gcons (gcons (gnum n) o) (gcons a b)) = Binary (sign_in o) (exp_in a) (exp_in b)
  exp_in _ = Number 0

  args_in : Gv → Args
  args_in (gcons (gcons gnil e) xs) = value (exp_in e) (args_in xs)
  args_in (gcons (gcons (gnum n) h) xs) = pass (handle_in h) (args_in xs)
  args_in _ = no_args

mutual
  exp_back : (e : Exp) → exp_in (exp e) ≡ e
  exp_back (Number n) = refl
  exp_back (Load x) = ap (λ y. Load y) (place_back x)
  exp_back (Element a e) = ap (λ f. Element a f) (exp_back e)
  exp_back (Call site h xs) = λ i. Call site (handle_back h i) (args_back xs i)
  exp_back (Binary o a b) = λ i. Binary (sign_back o i) (exp_back a i) (exp_back b i)

  args_back : (xs : Args) → args_in (args xs) ≡ xs
  args_back no_args = refl
  args_back (value e xs) = λ i. value (exp_back e i) (args_back xs i)
  args_back (pass h xs) = λ i. pass (handle_back h i) (args_back xs i)

pub exp_inj : (x y : Exp) → exp x ≡ exp y → x ≡ y
exp_inj x y same = sym (exp_back x) ∙ ap exp_in same ∙ exp_back y

abbrev pub coded_exp : Coded Exp
coded_exp = record { code = exp; inj = exp_inj }

-- ---- statements

abbrev mutual
  step_code : Statement → Gv
  step_code (Set x e) = gcons (gnum 0) (gcons (place x) (exp e))
  step_code (SetAt a i e) = gcons (gcons (gnum a.first) (gnum a.length)) (gcons (exp i) (exp e))
  step_code (Do e) = gcons gnil (exp e)
  step_code (If c a b) = gcons (gcons gnil gnil) (gcons (exp c) (gcons (block_code a) (block_code b)))
  step_code (While c b) = gcons (gcons gnil (gnum 0)) (gcons (exp c) (block_code b))
  step_code (Return e) = gcons (gcons (gnum 0) gnil) (exp e)
  step_code (Halt e) = gcons (gcons (gcons gnil gnil) gnil) (exp e)

  block_code : Block → Gv
  block_code no_steps = gnil
  block_code (step s b) = gcons (step_code s) (block_code b)

abbrev mutual
  step_in : Gv → Statement
  step_in (gcons (gnum n) (gcons x e)) = Set (place_in x) (exp_in e)
  step_in (gcons (gcons (gnum first) (gnum length)) (gcons i e)) =
      SetAt (record { first = first; length = length }) (exp_in i) (exp_in e)
  step_in (gcons gnil e) = Do (exp_in e)
  step_in (gcons (gcons gnil gnil) (gcons c (gcons a b))) = If (exp_in c) (block_in a) (block_in b)
  step_in (gcons (gcons gnil (gnum n)) (gcons c b)) = While (exp_in c) (block_in b)
  step_in (gcons (gcons (gnum n) gnil) e) = Return (exp_in e)
  step_in (gcons (gcons (gcons g h) gnil) e) = Halt (exp_in e)
  step_in _ = Return (Number 0)

  block_in : Gv → Block
  block_in (gcons s b) = step (step_in s) (block_in b)
  block_in _ = no_steps

mutual
  step_back : (s : Statement) → step_in (step_code s) ≡ s
  step_back (Set x e) = λ i. Set (place_back x i) (exp_back e i)
  step_back (SetAt a x e) = λ i. SetAt a (exp_back x i) (exp_back e i)
  step_back (Do e) = ap (λ f. Do f) (exp_back e)
  step_back (If c a b) = λ i. If (exp_back c i) (block_back a i) (block_back b i)
  step_back (While c b) = λ i. While (exp_back c i) (block_back b i)
  step_back (Return e) = ap (λ f. Return f) (exp_back e)
  step_back (Halt e) = ap (λ f. Halt f) (exp_back e)

  block_back : (b : Block) → block_in (block_code b) ≡ b
  block_back no_steps = refl
  block_back (step s b) = λ i. step (step_back s i) (block_back b i)

pub step_inj : (x y : Statement) → step_code x ≡ step_code y → x ≡ y
step_inj x y same = sym (step_back x) ∙ ap step_in same ∙ step_back y

abbrev pub coded_step : Coded Statement
coded_step = record { code = step_code; inj = step_inj }
