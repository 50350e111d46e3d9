-- There are as many sites as calls, and they stand apart.
use Rattle.std.proofs.Common.{◌≡◌, ℕ, zero, suc, ◌+◌, ◌-◌, ◌<◌, ◌≤◌, Bool, true, false, List, [], ◌∷◌, ◌++◌}
use Rattle.std.proofs.Common.{length, drop, refl, sym, ap, ◌∙◌, subst, arith, length-append}
use Rattle.std.specs.Prelude.{slice_index, sum_by}
use Rattle.std.proofs.lemmas.List.Sums.{sum_by-cons}
use Rattle.lcm_isa.specs.declared.Reg.{Reg}
use Rattle.call_sequence.specs.declared.TheConstants.{SITE_WORDS}
use Rattle.proc_language.specs.declared.tree.Op.{Op}
use Rattle.proc_language.specs.declared.tree.Op.TheVariants as operator
use Rattle.proc_program.specs.declared.program.Program.{Program}
use Rattle.proc_program.specs.declared.program.Procedure.{Procedure}
use Rattle.proc_program.specs.Program.{Exp, Number, Load, Element, Call, Binary, Args, no_args, value, pass}
use Rattle.proc_program.specs.Program.{Statement, Set, SetAt, Do, If, While, Return, Halt}
use Rattle.proc_program.specs.Program.{Block, no_steps, step}
use Rattle.proc_program.specs.Limits.{register_count, registers_of, arg_registers}
use Rattle.proc_program.specs.StepView.{block_of}
use Rattle.proc_templates.specs.Items.{Spot, Item, does, guards, goes, goes_if, finishes, label, site, entry}
use Rattle.proc_templates.specs.Items.{leaves, Laid, put, lay}
use Rattle.proc_templates.specs.Templates as templates
use Rattle.proc_program.specs.declared.program.Location.{Location}
use Rattle.proc_program.specs.declared.program.Location.TheVariants.{Local, Global}
use Rattle.proc_program.specs.declared.program.Handle.{Handle}
use Rattle.proc_program.specs.declared.program.Handle.TheVariants.{Given, Own, Imported}
use Rattle.proc_templates.specs.declared.FrameShape.{FrameShape}
use Rattle.proc_templates.specs.Templates.{load_var, store_var, load_pair, op_code, load_args, zeros}
use Rattle.proc_templates.specs.Templates.{arguments, code, args_code, step_code, block_code, if_code}
use Rattle.proc_templates.specs.Templates.{check_params, check_param, pushed, push, wipe, proc_code}
use Rattle.proc_templates.specs.Compiled.{frame_of, lay_proc, lay_procs, head_of, laid_of, component_of}
use Rattle.proc_program.specs.Calls.{calls, args_calls, step_calls, block_calls, part_calls, procedure_calls}
use Rattle.proc_templates.specs.Free.{behind}
use Rattle.proc_templates.proofs.Laying.{put-length, behind-least}
use Rattle.proc_templates.proofs.Whole.{spot_of, proc_laid}

abbrev sites_in : List Item → ℕ
sites_in [] = 0
sites_in (site ∷ xs) = suc (sites_in xs)
sites_in (x ∷ xs) = sites_in xs

in_both : (a b : List Item) → sites_in (a ++ b) ≡ sites_in a + sites_in b
in_both [] b = omega arith
in_both (does i ∷ a) b = in_both a b
in_both (guards is ∷ a) b = in_both a b
in_both (goes far ∷ a) b = in_both a b
in_both (goes_if far r ∷ a) b = in_both a b
in_both (finishes ∷ a) b = in_both a b
in_both (label ∷ a) b = in_both a b
in_both (site ∷ a) b = let h = in_both a b in ap suc h ∙ omega arith
in_both (entry ∷ a) b = in_both a b
in_both (leaves ∷ a) b = in_both a b

-- the pieces that have none
both_none : (a b : List Item) (n : ℕ) → sites_in a ≡ 0 → sites_in b ≡ n → sites_in (a ++ b) ≡ n
both_none a b n x y = let e = in_both a b in omega (arith, e, x, y)

both_some : (a b : List Item) (n k : ℕ) → sites_in a ≡ n → sites_in b ≡ k → sites_in (a ++ b) ≡ n + k
both_some a b n k x y = let e = in_both a b in omega (arith, e, x, y)

load_none : (f : FrameShape) (p : Location) → sites_in (load_var f p) ≡ 0
load_none f (Local i) = refl
load_none f (Global o) = refl

store_none : (f : FrameShape) (p : Location) → sites_in (store_var f p) ≡ 0
store_none f (Local i) = refl
store_none f (Global o) = refl

pair_none : (f : FrameShape) (p : Handle) (r q : Reg) → sites_in (load_pair f p r q) ≡ 0
pair_none f (Given i) r q = refl
pair_none f (Own j) r q = refl
pair_none f (Imported k) r q = refl

op_none : (o : Op) → sites_in (op_code o) ≡ 0
op_none operator.Plus = refl
op_none operator.Minus = refl
op_none operator.Less = refl
op_none operator.Equal = refl

zeros_none : (rs : List Reg) → sites_in (zeros rs) ≡ 0
zeros_none [] = refl
zeros_none (r ∷ rs) = zeros_none rs

load_args_none : (f : FrameShape) (args : Args) (t i : ℕ) → sites_in (load_args f t i args) ≡ 0
load_args_none f no_args t i = refl
load_args_none f (value e args) t i = load_args_none f args t (i + 1)
load_args_none f (pass x args) t i =
    both_none (load_pair f x _ _) _ 0 (pair_none f x _ _) (load_args_none f args t (i + 2))

call_one : (f : FrameShape) (t : ℕ) (x : Handle) (args : Args) → sites_in (templates.call_items f t x args)
    ≡ 1
call_one f t x args =
    both_none (load_args f t 0 args) _ 1 (load_args_none f args t 0)
    (both_none (zeros (drop (arg_registers args) arguments)) _ 1
    (zeros_none (drop (arg_registers args) arguments))
    (both_none (load_pair f x _ _) _ 1 (pair_none f x _ _) refl))

some_none : (a b : List Item) (n : ℕ) → sites_in a ≡ n → sites_in b ≡ 0 → sites_in (a ++ b) ≡ n
some_none a b n x y = let e = in_both a b in omega (arith, e, x, y)

mutual
  code_calls : (f : FrameShape) (e : Exp) (t : ℕ) → sites_in (code f t e) ≡ calls e
  code_calls f (Number n) t = refl
  code_calls f (Load x) t = load_none f x
  code_calls f (Element x e) t = some_none (code f t e) _ (calls e) (code_calls f e t) refl
  code_calls f (Call n x args) t =
      both_some (args_code f t 0 args) _ (args_calls args) 1 (values_calls f args t 0) (call_one f t x args)
  code_calls f (Binary o a b) t =
      both_some (code f t a) _ (calls a) (calls b) (code_calls f a t)
      (some_none (code f (t + 1) b) _ (calls b) (code_calls f b (t + 1)) (op_none o))

  values_calls : (f : FrameShape) (args : Args) (t i : ℕ) → sites_in (args_code f t i args) ≡ args_calls args
  values_calls f no_args t i = refl
  values_calls f (value e args) t i =
      both_some (code f (t + i) e) _ (calls e) (args_calls args) (code_calls f e (t + i))
      (values_calls f args t (i + 1))
  values_calls f (pass x args) t i = values_calls f args t (i + 2)

if_calls : (cs bs ds : List Item) (m n x y z : ℕ) → sites_in cs ≡ x → sites_in bs ≡ y → sites_in ds ≡ z
    → sites_in (if_code cs bs m ds n) ≡ x + (y + z)
if_calls cs bs ds m n x y z c b d =
    both_some cs _ x (y + z) c (both_some bs _ y z b (some_none ds _ z d refl))

mutual
  step_calls-are : (f : FrameShape) (s : Statement) → sites_in (step_code f s) ≡ step_calls s
  step_calls-are f (Set x e) = some_none (code f f.temps e) _ (calls e) (code_calls f e f.temps)
      (store_none f x)
  step_calls-are f (SetAt x i e) =
      both_some (code f f.temps i) _ (calls i) (calls e) (code_calls f i f.temps)
      (some_none (code f (f.temps + 1) e) _ (calls e) (code_calls f e (f.temps + 1)) refl)
  step_calls-are f (Do e) = code_calls f e f.temps
  step_calls-are f (If k b d) = if_calls (code f f.temps k) (block_code f b) (block_code f d) _ _ (calls k)
      (block_calls b) (block_calls d) (code_calls f k f.temps) (block_calls-are f b) (block_calls-are f d)
  step_calls-are f (While k b) =
      both_some (code f f.temps k) _ (calls k) (block_calls b) (code_calls f k f.temps)
      (some_none (block_code f b) _ (block_calls b) (block_calls-are f b) refl)
  step_calls-are f (Return e) = some_none (code f f.temps e) _ (calls e) (code_calls f e f.temps) refl
  step_calls-are f (Halt e) = some_none (code f f.temps e) _ (calls e) (code_calls f e f.temps) refl

  block_calls-are : (f : FrameShape) (b : Block) → sites_in (block_code f b) ≡ block_calls b
  block_calls-are f no_steps = refl
  block_calls-are f (step s b) =
      both_some (step_code f s) (block_code f b) (step_calls s) (block_calls b) (step_calls-are f s)
      (block_calls-are f b)

param_none : (i : ℕ) (b : Bool) (xs : List Item) → sites_in (check_param i b ∷ xs) ≡ sites_in xs
param_none i false xs = refl
param_none i true xs = refl

params_none : (ps : List Bool) (i : ℕ) → sites_in (check_params i ps) ≡ 0
params_none [] i = refl
params_none (b ∷ bs) i = param_none i b (check_params (i + register_count b) bs)
    ∙ params_none bs (i + register_count b)

push_none : (rs : List Reg) → sites_in (push rs) ≡ 0
push_none [] = refl
push_none (r ∷ rs) = push_none rs

wipe_none : (n : ℕ) → sites_in (wipe n) ≡ 0
wipe_none zero = refl
wipe_none (suc n) = wipe_none n

proc_calls : (f : FrameShape) (params : List Bool) (body : Block)
    → sites_in (proc_code f params body) ≡ block_calls body
proc_calls f params body =
    both_none (check_params 0 params) _ (block_calls body) (params_none params 0)
    (both_none (push (pushed (registers_of params) f.words)) _ (block_calls body)
    (push_none (pushed (registers_of params) f.words))
    (some_none (block_code f body) _ (block_calls body) (block_calls-are f body)
    (both_none (wipe (f.words - 2)) _ 0 (wipe_none (f.words - 2)) refl)))

sites_lay-length : (spot : Spot) (xs : List Item) (l : Laid)
    → length (lay spot l xs).sites ≡ length l.sites + sites_in xs
unfolding put
sites_lay-length spot [] l = omega arith
sites_lay-length spot (does i ∷ xs) l = sites_lay-length spot xs (put spot l (does i))
sites_lay-length spot (guards is ∷ xs) l = sites_lay-length spot xs (put spot l (guards is))
sites_lay-length spot (goes far ∷ xs) l = sites_lay-length spot xs (put spot l (goes far))
sites_lay-length spot (goes_if far r ∷ xs) l = sites_lay-length spot xs (put spot l (goes_if far r))
sites_lay-length spot (finishes ∷ xs) l = sites_lay-length spot xs (put spot l finishes)
sites_lay-length spot (label ∷ xs) l = sites_lay-length spot xs (put spot l label)
sites_lay-length spot (site ∷ xs) l =
    let h = length-append l.sites (length l.code ∷ []) in
    sites_lay-length spot xs (put spot l site) ∙ ap (λ n. n + sites_in xs) h ∙ omega arith
sites_lay-length spot (entry ∷ xs) l = sites_lay-length spot xs (put spot l entry)
sites_lay-length spot (leaves ∷ xs) l = sites_lay-length spot xs (put spot l leaves)

procs_calls : (m : Program) (ps : List Procedure) (l : Laid)
    → length (lay_procs m l ps).sites ≡ length l.sites + sum_by procedure_calls ps
procs_calls m [] l = omega arith
procs_calls m (p ∷ ps) l =
    let f = frame_of m p in
    let b = block_of p.body in
    let n = sum_by procedure_calls ps in
    let one : length (lay_proc m l p).sites ≡ length l.sites + block_calls b =
    ap (λ (x : Laid). length x.sites) (proc_laid m l p)
    ∙ sites_lay-length (spot_of m l p) (proc_code f p.callbacks b) l
    ∙ ap (λ k. length l.sites + k) (proc_calls f p.callbacks b) in
    let e : length (lay_proc m l p).sites + n ≡ length l.sites + (block_calls b + n) = omega (arith, one) in
    procs_calls m ps (lay_proc m l p) ∙ e
    ∙ ap (λ k. length l.sites + k)
    (sym (sum_by-cons (λ (p : Procedure). block_calls (block_of p.body)) p ps))

pub sites_are_calls : (m : Program) → length (laid_of m).sites ≡ part_calls m
unfolding laid_of
sites_are_calls m = procs_calls m m.procs (head_of m) ∙ omega arith

pub component_sites : (m : Program) → length (component_of m).sites ≡ part_calls m
unfolding component_of
component_sites m = sites_are_calls m

-- ---- apart

-- from one offset to another, each site's words are there and no two have one in common
abbrev pub Spaced : ℕ → List ℕ → ℕ → Type 0
Spaced low [] top = low ≤ top
Spaced low (x ∷ xs) top = (low ≤ x) × Spaced (x + SITE_WORDS) xs top

spaced_more : (low : ℕ) (xs : List ℕ) (top up : ℕ) → top ≤ up → Spaced low xs top → Spaced low xs up
spaced_more low [] top up h s = omega (arith, h, s)
spaced_more low (x ∷ xs) top up h s = (s.0, spaced_more (x + SITE_WORDS) xs top up h s.1)

spaced_last : (low : ℕ) (xs : List ℕ) (o : ℕ) → Spaced low xs o → Spaced low (xs ++ (o ∷ [])) (o + SITE_WORDS)
spaced_last low [] o s = (s, omega arith)
spaced_last low (x ∷ xs) o s = (s.0, spaced_last (x + SITE_WORDS) xs o s.1)

pub spaced_put : (spot : Spot) (l : Laid) (x : Item) → Spaced 0 l.sites (length l.code)
    → Spaced 0 (put spot l x).sites (length (put spot l x).code)
unfolding put
spaced_put spot l x s = by x (put-length spot l x) (behind-least (length l.code) x)
  where
    by : (x : Item) → length (put spot l x).code ≡ behind (length l.code) x
        → length l.code ≤ behind (length l.code) x
        → Spaced 0 (put spot l x).sites (length (put spot l x).code)
    by site n m = spaced_more 0 (l.sites ++ (length l.code ∷ [])) (length l.code + SITE_WORDS) _
        (omega (arith, n)) (spaced_last 0 l.sites (length l.code) s)
    by (does i) n m = spaced_more 0 l.sites (length l.code) _ (omega (arith, n, m)) s
    by (guards is) n m = spaced_more 0 l.sites (length l.code) _ (omega (arith, n, m)) s
    by (goes far) n m = spaced_more 0 l.sites (length l.code) _ (omega (arith, n, m)) s
    by (goes_if far r) n m = spaced_more 0 l.sites (length l.code) _ (omega (arith, n, m)) s
    by finishes n m = spaced_more 0 l.sites (length l.code) _ (omega (arith, n, m)) s
    by label n m = spaced_more 0 l.sites (length l.code) _ (omega (arith, n, m)) s
    by entry n m = spaced_more 0 l.sites (length l.code) _ (omega (arith, n, m)) s
    by leaves n m = spaced_more 0 l.sites (length l.code) _ (omega (arith, n, m)) s

spaced_lay : (spot : Spot) (xs : List Item) (l : Laid) → Spaced 0 l.sites (length l.code)
    → Spaced 0 (lay spot l xs).sites (length (lay spot l xs).code)
spaced_lay spot [] l s = s
spaced_lay spot (x ∷ xs) l s = spaced_lay spot xs (put spot l x) (spaced_put spot l x s)

spaced_procs : (m : Program) (ps : List Procedure) (l : Laid) → Spaced 0 l.sites (length l.code)
    → Spaced 0 (lay_procs m l ps).sites (length (lay_procs m l ps).code)
spaced_procs m [] l s = s
spaced_procs m (p ∷ ps) l s =
    spaced_procs m ps (lay_proc m l p)
    (subst (λ (x : Laid). Spaced 0 x.sites (length x.code)) (sym (proc_laid m l p))
    (spaced_lay (spot_of m l p) (proc_code (frame_of m p) p.callbacks (block_of p.body)) l s))

pub sites_spaced : (m : Program) → Spaced 0 (laid_of m).sites (length (laid_of m).code)
unfolding laid_of
sites_spaced m = spaced_procs m m.procs (head_of m) (omega arith)

pub site_room : (xs : List ℕ) (low top i : ℕ) → Spaced low xs top → i < length xs
    → slice_index xs i + SITE_WORDS ≤ top
site_room [] low top i s h = absurd (omega (arith, h))
site_room (x ∷ []) low top zero s h = s.1
site_room (x ∷ y ∷ xs) low top zero s h = let g =
    site_room (y ∷ xs) (x + SITE_WORDS) top 0 s.1 (omega arith) in let k = s.1.0 in omega (arith, g, k)
site_room (x ∷ xs) low top (suc i) s h = site_room xs (x + SITE_WORDS) top i s.1 (omega (arith, h))

pub site_gap : (xs : List ℕ) (low top i : ℕ) → Spaced low xs top → suc i < length xs
    → slice_index xs i + SITE_WORDS ≤ slice_index xs (suc i)
site_gap [] low top i s h = absurd (omega (arith, h))
site_gap (x ∷ []) low top i s h = absurd (omega (arith, h))
site_gap (x ∷ y ∷ xs) low top zero s h = s.1.0
site_gap (x ∷ y ∷ xs) low top (suc i) s h = site_gap (y ∷ xs) (x + SITE_WORDS) top i s.1 (omega (arith, h))
