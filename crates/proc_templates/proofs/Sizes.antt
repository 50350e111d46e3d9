-- The sizes of the templates are how many words they have.
use Rattle.std.proofs.Common.{◌≡◌, ℕ, zero, suc, ◌+◌, ◌-◌, ◌*◌, ◌≤◌, List, [], ◌∷◌, ◌++◌, length, drop, refl}
use Rattle.std.proofs.Common.{ap, ◌∙◌, arith, ℤ}
use Rattle.lcm_isa.specs.declared.Reg.{Reg}
use Rattle.lcm_isa.specs.declared.Reg.TheVariants.{C1, C2}
use Rattle.lcm_isa.specs.declared.Instr.{Instr}
use Rattle.call_sequence.specs.declared.TheConstants.{SITE_WORDS}
use Rattle.proc_language.specs.declared.tree.Op.{Op}
use Rattle.proc_language.specs.declared.tree.Op.TheVariants as operator
use Rattle.proc_program.specs.Program.{Exp, Number, Load, Element, Call, Binary, Args, no_args, value, pass}
use Rattle.proc_program.specs.Program.{Statement, Set, SetAt, Do, If, While, Return, Halt}
use Rattle.proc_program.specs.Program.{Block, no_steps, step}
use Rattle.proc_program.specs.Limits.{arg_registers}
use Rattle.proc_templates.specs.Items.{Item, does, guards, goes, goes_if, finishes, label, site, zero_of}
use Rattle.proc_program.specs.declared.program.Location.{Location}
use Rattle.proc_program.specs.declared.program.Location.TheVariants.{Local, Global}
use Rattle.proc_program.specs.declared.program.Handle.{Handle}
use Rattle.proc_program.specs.declared.program.Handle.TheVariants.{Given, Own, Imported}
use Rattle.proc_templates.specs.declared.FrameShape.{FrameShape}
use Rattle.proc_templates.specs.Templates as templates
use Rattle.proc_templates.specs.Sums.{values_words, loads_words, after_values}
use Rattle.proc_templates.specs.Templates.{pair_words, op_words, exp_words, args_words, step_words}
use Rattle.proc_templates.specs.Templates.{block_words, load_var, store_var, at_element, load_pair, op_code}
use Rattle.proc_templates.specs.Templates.{arguments, load_args, zeros, code, args_code, step_code}
use Rattle.proc_templates.specs.Templates.{block_code, if_code}
use Rattle.proc_templates.specs.Free.{behind, after}

pub record Long (xs : List Item) (n : ℕ) : Type 0 where
  pub by : (q : ℕ) → after q xs ≡ q + n

pub after-append : (o : ℕ) (a b : List Item) → after o (a ++ b) ≡ after (after o a) b
after-append o [] b = refl
after-append o (x ∷ a) b = after-append (behind o x) a b

pub nothing : Long [] 0
nothing = record { by = λ q. omega arith }

pub same_size : (xs : List Item) (n m : ℕ) → n ≡ m → Long xs n → Long xs m
same_size xs n m e l = record { by = λ q. l.by q ∙ ap (λ k. q + k) e }

pub both : (a b : List Item) (n m : ℕ) → Long a n → Long b m → Long (a ++ b) (n + m)
both a b n m x y = record {
  by = λ q. after-append q a b ∙ y.by (after q a)
      ∙ (let e = x.by q in omega (arith, e));
}

pub one : (i : Instr) (xs : List Item) (n : ℕ) → Long xs n → Long (does i ∷ xs) (1 + n)
one i xs n l = record { by = λ q. l.by (q + 1) ∙ omega arith }

pub guard : (is : List Instr) (xs : List Item) (n : ℕ) → Long xs n → Long (guards is ∷ xs) (3 + length is + n)
guard is xs n l = record { by = λ q. l.by (q + 3 + length is) ∙ omega arith }

pub jump : (far : ℤ) (xs : List Item) (n : ℕ) → Long xs n → Long (goes far ∷ xs) (3 + n)
jump far xs n l = record { by = λ q. l.by (q + 3) ∙ omega arith }

pub jump_if : (far : ℤ) (r : Reg) (xs : List Item) (n : ℕ) → Long xs n → Long (goes_if far r ∷ xs) (3 + n)
jump_if far r xs n l = record { by = λ q. l.by (q + 3) ∙ omega arith }

pub jump_out : (xs : List Item) (n : ℕ) → Long xs n → Long (finishes ∷ xs) (3 + n)
jump_out xs n l = record { by = λ q. l.by (q + 3) ∙ omega arith }

pub mark : (xs : List Item) (n : ℕ) → Long xs n → Long (label ∷ xs) n
mark xs n l = record { by = λ q. l.by q }

pub calls_there : (xs : List Item) (n : ℕ) → Long xs n → Long (site ∷ xs) (SITE_WORDS + n)
calls_there xs n l = record { by = λ q. l.by (q + SITE_WORDS) ∙ omega arith }

three : (a b d : Instr) → Long (does a ∷ does b ∷ does d ∷ []) 3
three a b d = one a _ 2 (one b _ 1 (one d [] 0 nothing))

load_var-size : (f : FrameShape) (p : Location) → Long (load_var f p) 3
load_var-size f (Local i) = three _ _ _
load_var-size f (Global o) = three _ _ _

store_var-size : (f : FrameShape) (p : Location) → Long (store_var f p) 3
store_var-size f (Local i) = three _ _ _
store_var-size f (Global o) = three _ _ _

linked-size : (k : ℕ) (r q : Reg) → Long (templates.load_linked k r q) 5
linked-size k r q = one _ _ 4 (one _ _ 3 (three _ _ _))

pair-size : (f : FrameShape) (h : Handle) (r q : Reg) → Long (load_pair f h r q) (pair_words h)
pair-size f (Given i) r q = both _ _ 3 3 (three _ _ _) (three _ _ _)
pair-size f (Own j) r q = linked-size (2 * (f.imports + j)) r q
pair-size f (Imported k) r q = linked-size (2 * k) r q

op-size : (o : Op) → Long (op_code o) (op_words o - 7)
op-size operator.Plus = one _ _ 0 nothing
op-size operator.Minus = one _ _ 0 nothing
op-size operator.Less = one _ _ 0 nothing
op-size operator.Equal = one _ _ 4 (one _ _ 3 (three _ _ _))

op-least : (o : Op) → 8 ≤ op_words o
op-least operator.Plus = omega arith
op-least operator.Minus = omega arith
op-least operator.Less = omega arith
op-least operator.Equal = omega arith

element-size : (o length : ℕ) (i : Instr) → Long (at_element o length i) 14
element-size o length i = guard _ _ 6 (one _ _ 5 (one _ _ 4 (one _ _ 3 (three _ _ _))))

zeros-size : (rs : List Reg) → Long (zeros rs) (length rs)
zeros-size [] = nothing
zeros-size (r ∷ rs) = same_size _ _ _ (omega arith) (one (zero_of r) (zeros rs) (length rs) (zeros-size rs))

drop_none : {A : Type 0} (n : ℕ) → drop {A = A} n [] ≡ []
drop_none zero = refl
drop_none (suc n) = refl

rest-length : (n : ℕ) → length (drop n arguments) ≡ 4 - n
rest-length zero = refl
rest-length (suc zero) = refl
rest-length (suc (suc zero)) = refl
rest-length (suc (suc (suc zero))) = refl
rest-length (suc (suc (suc (suc n)))) = ap length (drop_none {A = Reg} n) ∙ omega arith

pub args-split : (xs : Args) → args_words xs ≡ values_words xs + loads_words xs
args-split no_args = refl
args-split (value e xs) = let h = args-split xs in omega (arith, h)
args-split (pass h xs) = let g = args-split xs in omega (arith, g)

load_args-size : (f : FrameShape) (args : Args) (t i : ℕ) → Long (load_args f t i args) (loads_words args)
load_args-size f no_args t i = nothing
load_args-size f (value e args) t i =
    both _ _ 3 (loads_words args) (three _ _ _) (load_args-size f args t (i + 1))
load_args-size f (pass x args) t i =
    both _ _ (pair_words x) (loads_words args) (pair-size f x _ _) (load_args-size f args t (i + 2))

call-size : (f : FrameShape) (t : ℕ) (h : Handle) (xs : Args)
    → Long (templates.call_items f t h xs) (after_values h xs)
call-size f t h xs =
    same_size _ _ _ (omega arith)
    (both _ _ _ _ (load_args-size f xs t 0)
    (both _ _ _ _ (same_size _ _ _ (rest-length (arg_registers xs))
    (zeros-size (drop (arg_registers xs) arguments)))
    (both _ _ _ _ (pair-size f h C1 C2) (both _ _ 3 _ (three _ _ _) (calls_there _ 1 (one _ _ 0 nothing))))))

mutual
  pub code-size : (f : FrameShape) (e : Exp) (t : ℕ) → Long (code f t e) (exp_words e)
  code-size f (Number n) t = one _ _ 0 nothing
  code-size f (Load x) t = load_var-size f x
  code-size f (Element x e) t = both _ _ (exp_words e) 15 (code-size f e t)
      (both _ _ 14 1 (element-size _ _ _) (one _ _ 0 nothing))
  code-size f (Call n x args) t =
      let s = args-split args in
      same_size _ _ _ (omega (arith, s))
      (both _ _ (values_words args) _ (values-size f args t 0) (call-size f t x args))
  code-size f (Binary o a b) t =
      let s = op-least o in
      same_size _ _ _ (omega (arith, s))
      (both _ _ (exp_words a) _ (code-size f a t)
      (both _ _ 3 _ (three _ _ _) (both _ _ (exp_words b) _ (code-size f b (t + 1))
      (one _ _ _ (both _ _ 3 (op_words o - 7) (three _ _ _) (op-size o))))))

  values-size : (f : FrameShape) (args : Args) (t i : ℕ) → Long (args_code f t i args) (values_words args)
  values-size f no_args t i = nothing
  values-size f (value e args) t i =
      both _ _ (exp_words e) _ (code-size f e (t + i))
      (both _ _ 3 (values_words args) (three _ _ _) (values-size f args t (i + 1)))
  values-size f (pass x args) t i = values-size f args t (i + 2)

if-size : (cs bs ds : List Item) (x m n : ℕ) → Long cs x → Long bs m → Long ds n
    → Long (if_code cs bs m ds n) (x + m + n + 9)
if-size cs bs ds x m n c b d =
    same_size _ _ _ (omega arith)
    (both cs _ x _ c (jump_if _ _ _ _
    (jump _ _ _ (mark _ _ (both bs _ m _ b
    (jump _ _ _ (mark _ _ (both ds _ n _ d (mark _ _ nothing)))))))))

mutual
  pub stmt-size : (f : FrameShape) (s : Statement) → Long (step_code f s) (step_words s)
  stmt-size f (Set x e) = both _ _ (exp_words e) 3 (code-size f e _) (store_var-size f x)
  stmt-size f (SetAt x i e) =
      same_size _ _ _ (omega arith)
      (both _ _ (exp_words i) _ (code-size f i _)
      (both _ _ 3 _ (three _ _ _) (both _ _ (exp_words e) _ (code-size f e _)
      (one _ _ _ (both _ _ 3 14 (three _ _ _) (element-size _ _ _))))))
  stmt-size f (Do e) = code-size f e _
  stmt-size f (If c b d) = if-size _ _ _ (exp_words c) (block_words b) (block_words d) (code-size f c _)
      (block-size f b) (block-size f d)
  stmt-size f (While c b) =
      same_size _ _ _ (omega arith)
      (mark _ _ (both _ _ (exp_words c) _ (code-size f c _)
      (jump_if _ _ _ _ (jump _ _ _ (mark _ _
      (both _ _ (block_words b) _ (block-size f b) (jump _ _ _ (mark _ _ nothing))))))))
  stmt-size f (Return e) = both _ _ (exp_words e) 4 (code-size f e _) (one _ _ 3 (jump_out _ 0 nothing))
  stmt-size f (Halt e) = both _ _ (exp_words e) 2 (code-size f e _) (one _ _ 1 (one _ _ 0 nothing))

  pub block-size : (f : FrameShape) (b : Block) → Long (block_code f b) (block_words b)
  block-size f no_steps = nothing
  block-size f (step s b) = both _ _ (step_words s) (block_words b) (stmt-size f s) (block-size f b)
