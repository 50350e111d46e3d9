-- Where the calls of a body stand: each at the site of its part that has the call's number.
use Rattle.std.proofs.Common.{◌≡◌, ℕ, suc, ◌+◌, Bool, true, false, List, [], ◌∷◌, ◌++◌, refl, sym, ap, ◌∙◌}
use Rattle.std.proofs.Common.{subst, arith}
use Rattle.std.specs.Prelude.{drop}
use Rattle.lcm_isa.specs.declared.Reg.{Reg}
use Rattle.lcm_isa.specs.declared.Reg.TheVariants.{C1, C2}
use Rattle.component_file.specs.declared.component.ComponentFields.{ComponentFields}
use Rattle.proc_language.specs.declared.tree.Op.{Op}
use Rattle.proc_language.specs.declared.tree.Op.TheVariants as operator
use Rattle.proc_program.specs.declared.program.Location.{Location}
use Rattle.proc_program.specs.declared.program.Location.TheVariants.{Local, Global}
use Rattle.proc_program.specs.declared.program.Handle.{Handle}
use Rattle.proc_program.specs.declared.program.Handle.TheVariants.{Given, Own, Imported}
use Rattle.proc_program.specs.Limits.{arg_registers}
use Rattle.proc_program.specs.Program.{Exp, Number, Load, Element, Call, Binary, Args, no_args, value, pass}
use Rattle.proc_program.specs.Program.{Statement, Set, SetAt, Do, If, While, Return, Halt}
use Rattle.proc_program.specs.Program.{Block, no_steps, step}
use Rattle.proc_program.specs.Calls.{calls, args_calls, step_calls, block_calls}
use Rattle.proc_templates.specs.declared.FrameShape.{FrameShape}
use Rattle.proc_templates.specs.Items.{Item}
use Rattle.proc_templates.specs.Free.{behind, after}
use Rattle.proc_templates.specs.Templates.{code, args_code, call_items, load_args, zeros, arguments, argument}
use Rattle.proc_templates.specs.Templates.{check_params, push, load_pair, load_var, store_var, op_code}
use Rattle.proc_templates.specs.Templates.{step_code, block_code}
use Rattle.source_laws.specs.Sites.{next_count, count, SiteIs, SitesAt, Numbered, ArgsNumbered, StepNumbered}
use Rattle.source_laws.specs.Sites.{BlockNumbered}
use Rattle.template_runs.proofs.Offers.{words_in}
use Rattle.source_laws.proofs.PieceSizes.{after-words}

-- ---- how many sites stand after pieces

count-append : (j : ℕ) (a b : List Item) → count j (a ++ b) ≡ count (count j a) b
count-append j [] b = refl
count-append j (x ∷ a) b = count-append (next_count j x) a b

pub count_both : (j n : ℕ) (a b : List Item) → count j a ≡ n → count j (a ++ b) ≡ count n b
count_both j n a b e = count-append j a b ∙ ap (λ i. count i b) e

var_count : (f : FrameShape) (x : Location) (j : ℕ) → count j (load_var f x) ≡ j
var_count f (Local i) j = refl
var_count f (Global o) j = refl

set_count : (f : FrameShape) (x : Location) (j : ℕ) → count j (store_var f x) ≡ j
set_count f (Local i) j = refl
set_count f (Global o) j = refl

pair_count : (f : FrameShape) (h : Handle) (r q : Reg) (j : ℕ) → count j (load_pair f h r q) ≡ j
pair_count f (Given i) r q j = refl
pair_count f (Own i) r q j = refl
pair_count f (Imported i) r q j = refl

op_count : (o : Op) (j : ℕ) → count j (op_code o) ≡ j
op_count operator.Plus j = refl
op_count operator.Minus j = refl
op_count operator.Less j = refl
op_count operator.Equal j = refl

zeros_count : (rs : List Reg) (j : ℕ) → count j (zeros rs) ≡ j
zeros_count [] j = refl
zeros_count (r ∷ rs) j = zeros_count rs j

loads_count : (f : FrameShape) (xs : Args) (t i j : ℕ) → count j (load_args f t i xs) ≡ j
loads_count f no_args t i j = refl
loads_count f (value e xs) t i j = loads_count f xs t (i + 1) j
loads_count f (pass h xs) t i j =
    count_both j j (load_pair f h (argument i) (argument (i + 1)))
    _ (pair_count f h (argument i) (argument (i + 1)) j)
    ∙ loads_count f xs t (i + 2) j

call_count : (f : FrameShape) (h : Handle) (xs : Args) (t j : ℕ) → count j (call_items f t h xs) ≡ suc j
call_count f h xs t j =
    count_both j j (load_args f t 0 xs) _ (loads_count f xs t 0 j)
    ∙ count_both j j (zeros (drop (arg_registers xs) arguments))
    _ (zeros_count (drop (arg_registers xs) arguments) j)
    ∙ count_both j j (load_pair f h C1 C2) _ (pair_count f h C1 C2 j)

pub checks_count : (bs : List Bool) (i j : ℕ) → count j (check_params i bs) ≡ j
checks_count [] i j = refl
checks_count (false ∷ bs) i j = checks_count bs (i + 1) j
checks_count (true ∷ bs) i j = checks_count bs (i + 2) j

pub push_count : (rs : List Reg) (j : ℕ) → count j (push rs) ≡ j
push_count [] j = refl
push_count (r ∷ rs) j = push_count rs j

mutual
  exp_count : (f : FrameShape) (e : Exp) (t j : ℕ) → count j (code f t e) ≡ j + calls e
  exp_count f (Number n) t j = omega arith
  exp_count f (Load x) t j = var_count f x j ∙ omega arith
  exp_count f (Element r e) t j = count_both j (j + calls e) (code f t e) _ (exp_count f e t j)
  exp_count f (Call n h xs) t j =
      count_both j (j + args_calls xs) (args_code f t 0 xs) _ (args_count f xs t 0 j)
      ∙ call_count f h xs t (j + args_calls xs) ∙ omega arith
  exp_count f (Binary o a b) t j =
      count_both j (j + calls a) (code f t a) _ (exp_count f a t j)
      ∙ count_both (j + calls a) (j + calls a + calls b) (code f (t + 1) b)
      _ (exp_count f b (t + 1) (j + calls a))
      ∙ op_count o (j + calls a + calls b) ∙ omega arith

  args_count : (f : FrameShape) (xs : Args) (t i j : ℕ) → count j (args_code f t i xs) ≡ j + args_calls xs
  args_count f no_args t i j = omega arith
  args_count f (value e xs) t i j =
      count_both j (j + calls e) (code f (t + i) e) _ (exp_count f e (t + i) j)
      ∙ args_count f xs t (i + 1) (j + calls e) ∙ omega arith
  args_count f (pass h xs) t i j = args_count f xs t (i + 2) j

mutual
  step_count : (f : FrameShape) (s : Statement) (j : ℕ) → count j (step_code f s) ≡ j + step_calls s
  step_count f (Set x e) j =
      count_both j (j + calls e) (code f f.temps e) _ (exp_count f e f.temps j) ∙ set_count f x (j + calls e)
  step_count f (SetAt r i e) j =
      count_both j (j + calls i) (code f f.temps i) _ (exp_count f i f.temps j)
      ∙ count_both (j + calls i) (j + calls i + calls e) (code f (f.temps + 1) e) _
      (exp_count f e (f.temps + 1) (j + calls i)) ∙ omega arith
  step_count f (Do e) j = exp_count f e f.temps j
  step_count f (If c a b) j =
      count_both j (j + calls c) (code f f.temps c) _ (exp_count f c f.temps j)
      ∙ count_both (j + calls c) (j + calls c + block_calls a) (block_code f a)
      _ (block_count f a (j + calls c))
      ∙ count_both (j + calls c + block_calls a) (j + calls c + block_calls a + block_calls b)
      (block_code f b) _
      (block_count f b (j + calls c + block_calls a)) ∙ omega arith
  step_count f (While c b) j =
      count_both j (j + calls c) (code f f.temps c) _ (exp_count f c f.temps j)
      ∙ count_both (j + calls c) (j + calls c + block_calls b) (block_code f b)
      _ (block_count f b (j + calls c))
      ∙ omega arith
  step_count f (Return e) j = count_both j (j + calls e) (code f f.temps e) _ (exp_count f e f.temps j)
  step_count f (Halt e) j = count_both j (j + calls e) (code f f.temps e) _ (exp_count f e f.temps j)

  pub block_count : (f : FrameShape) (b : Block) (j : ℕ) → count j (block_code f b) ≡ j + block_calls b
  block_count f no_steps j = omega arith
  block_count f (step s b) j =
      count_both j (j + step_calls s) (step_code f s) (block_code f b) (step_count f s j)
      ∙ block_count f b (j + step_calls s) ∙ omega arith

-- ---- the calls of a program

module _ (c : ComponentFields) (f : FrameShape) where
  abbrev mutual
    -- of an expression at an offset, with its first free slot
    pub CallsAt : ℕ → ℕ → Exp → Type 0
    CallsAt k t (Number n) = Unit {0}
    CallsAt k t (Load x) = Unit {0}
    CallsAt k t (Element r e) = CallsAt k t e
    CallsAt k t (Call n h xs) =
        ArgsCallsAt k t 0 xs
        × SiteIs c n (k + words_in (args_code f t 0 xs) + words_in (load_args f t 0 xs)
        + words_in (zeros (drop (arg_registers xs) arguments)) + words_in (load_pair f h C1 C2) + 1 + 1 + 1)
    CallsAt k t (Binary o a b) = CallsAt k t a × CallsAt (k + words_in (code f t a) + 1 + 1 + 1) (t + 1) b

    pub ArgsCallsAt : ℕ → ℕ → ℕ → Args → Type 0
    ArgsCallsAt k t i no_args = Unit {0}
    ArgsCallsAt k t i (value e xs) =
        CallsAt k (t + i) e × ArgsCallsAt (k + words_in (code f (t + i) e) + 1 + 1 + 1) t (i + 1) xs
    ArgsCallsAt k t i (pass h xs) = ArgsCallsAt k t (i + 2) xs

  abbrev mutual
    pub StepCallsAt : ℕ → Statement → Type 0
    StepCallsAt k (Set x e) = CallsAt k f.temps e
    StepCallsAt k (SetAt r i e) =
        CallsAt k f.temps i × CallsAt (k + words_in (code f f.temps i) + 1 + 1 + 1) (f.temps + 1) e
    StepCallsAt k (Do e) = CallsAt k f.temps e
    StepCallsAt k (If c a b) =
        CallsAt k f.temps c × BlockCallsAt (k + words_in (code f f.temps c) + 3 + 3 + 0) a
        × BlockCallsAt (k + words_in (code f f.temps c) + 3 + 3 + 0 + words_in (block_code f a) + 3 + 0) b
    StepCallsAt k (While c b) =
        CallsAt (k + 0) f.temps c × BlockCallsAt (k + 0 + words_in (code f f.temps c) + 3 + 3 + 0) b
    StepCallsAt k (Return e) = CallsAt k f.temps e
    StepCallsAt k (Halt e) = CallsAt k f.temps e

    pub BlockCallsAt : ℕ → Block → Type 0
    BlockCallsAt k no_steps = Unit {0}
    BlockCallsAt k (step s b) = StepCallsAt k s × BlockCallsAt (k + words_in (step_code f s)) b

  pub sites_front : (j k : ℕ) (a b : List Item) → SitesAt c j k (a ++ b) → SitesAt c j k a
  sites_front j k [] b h = tt
  sites_front j k (x ∷ a) b h = (h.0, sites_front (next_count j x) (behind k x) a b h.1)

  behind_them : (j k : ℕ) (a b : List Item) → SitesAt c j k (a ++ b) → SitesAt c (count j a) (after k a) b
  behind_them j k [] b h = h
  behind_them j k (x ∷ a) b h = behind_them (next_count j x) (behind k x) a b h.1

  moved : (i j k l : ℕ) (xs : List Item) → i ≡ j → k ≡ l → SitesAt c i k xs → SitesAt c j l xs
  moved i j k l xs e q h = subst (λ x. SitesAt c x l xs) e (subst (λ x. SitesAt c i x xs) q h)

  -- after pieces that end with so many sites
  pub sites_back : (j n k : ℕ) (a b : List Item) → count j a ≡ n → SitesAt c j k (a ++ b)
      → SitesAt c n (k + words_in a) b
  sites_back j n k a b e h =
      moved (count j a) n (after k a) (k + words_in a) b e (after-words k a) (behind_them j k a b h)

  mutual
    pub calls_at : (e : Exp) (t j k : ℕ) → Numbered j e → SitesAt c j k (code f t e) → CallsAt k t e
    calls_at (Number n) t j k num h = tt
    calls_at (Load x) t j k num h = tt
    calls_at (Element r e) t j k num h = calls_at e t j k num (sites_front j k (code f t e) _ h)
    calls_at (Call n h xs) t j k num at =
        let pre = args_code f t 0 xs in
        let n1 = j + args_calls xs in
        let k1 = k + words_in pre in
        let k2 = k1 + words_in (load_args f t 0 xs) in
        let k3 = k2 + words_in (zeros (drop (arg_registers xs) arguments)) in
        let s1 = sites_back j (j + args_calls xs) k (args_code f t 0 xs) _ (args_count f xs t 0 j) at in
        let s2 = sites_back n1 n1 k1 (load_args f t 0 xs) _ (loads_count f xs t 0 n1) s1 in
        let s3 = sites_back n1 n1 k2 (zeros (drop (arg_registers xs) arguments))
        _ (zeros_count (drop (arg_registers xs) arguments) n1) s2 in
        let s4 = sites_back n1 n1 k3 (load_pair f h C1 C2) _ (pair_count f h C1 C2 n1) s3 in (
          args_at xs t 0 j k num.0 (sites_front j k (args_code f t 0 xs) _ at),
          subst (λ x. SiteIs c x (k3 + words_in (load_pair f h C1 C2) + 1 + 1 + 1)) (sym num.1) s4.1.1.1.0,
        )
    calls_at (Binary o a b) t j k num h =
        let s1 = sites_back j (j + calls a) k (code f t a) _ (exp_count f a t j) h in (
          calls_at a t j k num.0 (sites_front j k (code f t a) _ h),
          calls_at b (t + 1) (j + calls a) (k + words_in (code f t a) + 1 + 1 + 1) num.1
              (sites_front (j + calls a) (k + words_in (code f t a) + 1 + 1 + 1) (code f (t + 1) b)
              _ s1.1.1.1),
        )

    args_at : (xs : Args) (t i j k : ℕ) → ArgsNumbered j xs → SitesAt c j k (args_code f t i xs)
        → ArgsCallsAt k t i xs
    args_at no_args t i j k num h = tt
    args_at (value e xs) t i j k num h =
        let s1 = sites_back j (j + calls e) k (code f (t + i) e) _ (exp_count f e (t + i) j) h in (
          calls_at e (t + i) j k num.0 (sites_front j k (code f (t + i) e) _ h),
          args_at xs t (i + 1) (j + calls e) (k + words_in (code f (t + i) e) + 1 + 1 + 1) num.1 s1.1.1.1,
        )
    args_at (pass h xs) t i j k num at = args_at xs t (i + 2) j k num at

  mutual
    step_calls_at : (s : Statement) (j k : ℕ) → StepNumbered j s → SitesAt c j k (step_code f s)
        → StepCallsAt k s
    step_calls_at (Set x e) j k num h = calls_at e f.temps j k num (sites_front j k (code f f.temps e) _ h)
    step_calls_at (SetAt r i e) j k num h =
        let s1 = sites_back j (j + calls i) k (code f f.temps i) _ (exp_count f i f.temps j) h in
        let k1 = k + words_in (code f f.temps i) + 1 + 1 + 1 in (
          calls_at i f.temps j k num.0 (sites_front j k (code f f.temps i) _ h),
          calls_at e (f.temps + 1) (j + calls i) k1 num.1
              (sites_front (j + calls i) k1 (code f (f.temps + 1) e) _ s1.1.1.1),
        )
    step_calls_at (Do e) j k num h = calls_at e f.temps j k num h
    step_calls_at (If d a b) j k num h =
        let n1 = j + calls d in
        let n2 = n1 + block_calls a in
        let s1 = sites_back j n1 k (code f f.temps d) _ (exp_count f d f.temps j) h in
        let z : k + words_in (code f f.temps d) + 3 + 3 ≡ k + words_in (code f f.temps d) + 3 + 3 + 0 =
        omega arith in
        let k1 = k + words_in (code f f.temps d) + 3 + 3 + 0 in
        let s2 = moved n1 n1 (k + words_in (code f f.temps d) + 3 + 3) k1 _ refl z s1.1.1.1 in
        let s3 = sites_back n1 n2 k1 (block_code f a) _ (block_count f a n1) s2 in
        let z2 : k1 + words_in (block_code f a) + 3 ≡ k1 + words_in (block_code f a) + 3 + 0 = omega arith in
        let k2 = k1 + words_in (block_code f a) + 3 + 0 in
        let s4 = moved n2 n2 (k1 + words_in (block_code f a) + 3) k2 _ refl z2 s3.1.1 in (
          calls_at d f.temps j k num.0 (sites_front j k (code f f.temps d) _ h),
          block_calls_at a n1 k1 num.1 (sites_front n1 k1 (block_code f a) _ s2),
          block_calls_at b n2 k2 num.2 (sites_front n2 k2 (block_code f b) _ s4),
        )
    step_calls_at (While d b) j k num h =
        let n1 = j + calls d in
        let z0 : k ≡ k + 0 = omega arith in
        let h0 = moved j j k (k + 0) _ refl z0 h.1 in
        let s1 = sites_back j n1 (k + 0) (code f f.temps d) _ (exp_count f d f.temps j) h0 in
        let k1 = k + 0 + words_in (code f f.temps d) + 3 + 3 + 0 in
        let z : k + 0 + words_in (code f f.temps d) + 3 + 3 ≡ k + 0 + words_in (code f f.temps d) + 3 + 3 + 0
        =
        omega arith in
        let s2 = moved n1 n1 (k + 0 + words_in (code f f.temps d) + 3 + 3) k1 _ refl z s1.1.1.1 in (
          calls_at d f.temps j (k + 0) num.0 (sites_front j (k + 0) (code f f.temps d) _ h0),
          block_calls_at b n1 k1 num.1 (sites_front n1 k1 (block_code f b) _ s2),
        )
    step_calls_at (Return e) j k num h = calls_at e f.temps j k num (sites_front j k (code f f.temps e) _ h)
    step_calls_at (Halt e) j k num h = calls_at e f.temps j k num (sites_front j k (code f f.temps e) _ h)

    pub block_calls_at : (b : Block) (j k : ℕ) → BlockNumbered j b → SitesAt c j k (block_code f b)
        → BlockCallsAt k b
    block_calls_at no_steps j k num h = tt
    block_calls_at (step s b) j k num h = (
      step_calls_at s j k num.0 (sites_front j k (step_code f s) (block_code f b) h),
      block_calls_at b (j + step_calls s) (k + words_in (step_code f s)) num.1
          (sites_back j (j + step_calls s) k (step_code f s) (block_code f b) (step_count f s j) h),
    )
