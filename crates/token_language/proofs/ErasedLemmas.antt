-- Without its tokens a resolved module is resolved.
use Rattle.std.proofs.Common.{◌≡◌, refl, ◌∙◌, ap, Bool, true, false, not, ◌&&◌}
use Rattle.std.proofs.Common.{if◌then◌else◌, List, [], ◌∷◌, ◌++◌, map, Option, Some, None}
use Rattle.std.specs.Prelude.{is_some, is_none, slice_get, option_map}
use Rattle.std.specs.Option.{option_map_or}
use Rattle.std.proofs.lemmas.Option.{slice_get-map}
use Rattle.proc_language.specs.declared.tree.Name.{Name}
use Rattle.proc_language.specs.Tree as tree
use Rattle.proc_names.specs.declared.fault.NameFault.{NameFault}
use Rattle.proc_names.specs.declared.fault.NameFault.TheVariants.{Twice, Arity, WrongKind}
use Rattle.proc_names.specs.declared.scope.Callee.{Callee}
use Rattle.proc_names.specs.declared.scope.Callee.TheVariants as callee_of
use Rattle.proc_names.specs.Faults.{unless}
use Rattle.proc_names.specs.Names.{same, variable_named, callee_named, passed_named}
use Rattle.proc_names.specs.NameFaults as plain
use Rattle.proc_names.specs.NameFaults.{again, twice}
use Rattle.token_language.specs.declared.module.TokenParam.{TokenParam}
use Rattle.token_language.specs.declared.module.TokenParam.TheVariants as param
use Rattle.token_language.specs.declared.module.TokenLocal.{TokenLocal}
use Rattle.token_language.specs.declared.module.TokenLocal.TheVariants as local
use Rattle.token_language.specs.declared.module.TokenProc.{TokenProc}
use Rattle.token_language.specs.declared.module.TokenModuleFields.{TokenModuleFields}
use Rattle.token_language.specs.Tree.{Expr, number, var, element, call, op, Args, no_args, value, proc, token}
use Rattle.token_language.specs.Tree.{Stmt, set, set_at, do_call, if_then, if_else, while, return, halt}
use Rattle.token_language.specs.Tree.{make, spend, Block, no_stmts, stmt}
use Rattle.token_language.specs.StmtView.{block_of}
use Rattle.token_language.specs.Tokens.{param_name, local_name}
use Rattle.token_language.specs.Erased.{erased_expr, erased_args, erased_before, erased_block}
use Rattle.token_language.specs.Erased.{erased_params, erased_locals, erased_proc, erased}
use Rattle.token_language.proofs.Blocks.{block_of-stmts_in}
use Rattle.token_language.specs.TokenFaults.{is_token, token_faults, fit, fit_proc, or_token, called_faults}
use Rattle.token_language.specs.TokenFaults.{variable_faults, element_faults, call_faults, handed_faults}
use Rattle.token_language.specs.TokenFaults.{expr_faults, args_faults, stmt_faults, block_faults, own_names}
use Rattle.token_language.specs.TokenFaults.{shared_faults, proc_faults, procs_faults, IsTokenResolved}

-- ---- none in a whole, and none in its parts

abbrev Free : List NameFault → Type 0
Free fs = fs ≡ []

first_free : (fs gs : List NameFault) → Free (fs ++ gs) → Free fs
first_free [] gs h = refl
first_free (f ∷ fs) gs h = cc

rest_free : (fs gs : List NameFault) → Free (fs ++ gs) → Free gs
rest_free [] gs h = h
rest_free (f ∷ fs) gs h = absurd (let k : f ∷ (fs ++ gs) ≡ [] = h in cc)

both : (fs gs : List NameFault) {hs ks : List NameFault} → (Free fs → Free hs) → (Free gs → Free ks)
    → Free (fs ++ gs) → Free (hs ++ ks)
both fs gs {hs} {ks} first rest h = ap (λ l. l ++ ks) (first (first_free fs gs h)) ∙ rest (rest_free fs gs h)

-- ---- calls

and_rest : (b x y : Bool) → (x ≡ true → y ≡ true) → (b && x) ≡ true → (b && y) ≡ true
and_rest true x y more h = more h
and_rest false x y more h = h

pub never : {A : Type 0} → false ≡ true → A
never h = absurd (cc)

fits_plain : (args : Args) (params : List TokenParam) → fit args params ≡ true
    → plain.fit (erased_args args) (erased_params params) ≡ true
fits_plain no_args [] h = refl
fits_plain no_args (param.Plain q ∷ params) h = never h
fits_plain no_args (param.Token y ∷ params) h = never h
fits_plain (value e args) [] h = never h
fits_plain (value e args) (param.Plain q ∷ params) h =
    and_rest (is_none q.arity) (fit args params) _ (fits_plain args params) h
fits_plain (value e args) (param.Token y ∷ params) h = never h
fits_plain (proc f args) [] h = never h
fits_plain (proc f args) (param.Plain q ∷ params) h =
    and_rest (is_some q.arity) (fit args params) _ (fits_plain args params) h
fits_plain (proc f args) (param.Token y ∷ params) h = never h
fits_plain (token x args) [] h = never h
fits_plain (token x args) (param.Plain q ∷ params) h = never h
fits_plain (token x args) (param.Token y ∷ params) h = fits_plain args params h

held : (b : Bool) (f : NameFault) → Free (unless b f) → b ≡ true
held true f h = refl
held false f h = absurd (let k : f ∷ [] ≡ [] = h in cc)

found_fits : (args : Args) (o : Option TokenProc) → option_map_or (λ q. fit args q.params) o false ≡ true
    → option_map_or (λ q. plain.fit (erased_args args) q.params) (option_map erased_proc o) false ≡ true
found_fits args None h = h
found_fits args (Some q) h = fits_plain args q.params h

module _ (m : TokenModuleFields) (p : TokenProc) where
  called_free : (f : Name) (args : Args) (callee : Callee) → Free (called_faults m p f args callee)
      → Free (plain.called_faults (erased m) (erased_proc p) f (erased_args args) callee)
  called_free f args (callee_of.Callback i) h = first_free _ _ h
  called_free f args (callee_of.Import i) h = first_free _ _ h
  called_free f args (callee_of.Proc i) h =
      let fits = found_fits args (slice_get m.procs i) (held (fit_proc args m.procs i) (Arity f.at) h) in
      ap (λ o. unless (option_map_or (λ q. plain.fit (erased_args args) q.params) o false) (Arity f.at))
      (slice_get-map erased_proc m.procs i)
      ∙ ap (λ b. unless b (Arity f.at)) fits
  called_free f args callee_of.Other h = h
  called_free f args callee_of.Missing h = h

  -- ---- variables, and what is passed on

  variable_free : (x : Name) → Free (variable_faults m p x)
      → Free (plain.plain_faults x (variable_named (erased m) (erased_proc p) x))
  variable_free x h = by (is_token p x) h
    where
      rest : List NameFault
      rest = plain.plain_faults x (variable_named (erased m) (erased_proc p) x)

      by : (b : Bool) → Free (if b then WrongKind x.at ∷ [] else rest) → Free rest
      by true k = absurd (let l : WrongKind x.at ∷ [] ≡ [] = k in cc)
      by false k = k

  element_free : (x : Name) → Free (element_faults m p x)
      → Free (plain.array_faults x (variable_named (erased m) (erased_proc p) x))
  element_free x h = by (is_token p x) h
    where
      rest : List NameFault
      rest = plain.array_faults x (variable_named (erased m) (erased_proc p) x)

      by : (b : Bool) → Free (if b then WrongKind x.at ∷ [] else rest) → Free rest
      by true k = absurd (let l : WrongKind x.at ∷ [] ≡ [] = k in cc)
      by false k = k

  passed_free : (f : Name) (b : Bool) (callee : Callee) → Free (plain.passed_faults f (or_token b callee))
      → Free (plain.passed_faults f callee)
  passed_free f true (callee_of.Callback i) h = h
  passed_free f true (callee_of.Import i) h = h
  passed_free f true (callee_of.Proc i) h = h
  passed_free f true callee_of.Other h = h
  passed_free f true callee_of.Missing h = absurd (let l : WrongKind f.at ∷ [] ≡ [] = h in cc)
  passed_free f false callee h = h

  -- ---- expressions and statements

  call_free : (f : Name) (args : Args) → Free (call_faults m p f args)
      → Free (plain.call_faults (erased m) (erased_proc p) f (erased_args args))
  call_free f args h = called_free f args (callee_named (erased m) (erased_proc p) f) h

  handed_free : (f : Name) → Free (handed_faults m p f)
      → Free (plain.passed_faults f (passed_named (erased m) (erased_proc p) f))
  handed_free f h = passed_free f (is_token p f) (passed_named (erased m) (erased_proc p) f) h

  mutual
    expr_free : (e : Expr) → Free (expr_faults m p e)
        → Free (plain.expr_faults (erased m) (erased_proc p) (erased_expr e))
    expr_free (number at n) h = h
    expr_free (var at x) h = variable_free x h
    expr_free (element at x e) h =
        both (element_faults m p x) (expr_faults m p e) (element_free x) (expr_free e) h
    expr_free (call at f args) h =
        both (call_faults m p f args) (args_faults m p args) (call_free f args) (args_free args) h
    expr_free (op at o a b) h = both (expr_faults m p a) (expr_faults m p b) (expr_free a) (expr_free b) h

    args_free : (args : Args) → Free (args_faults m p args)
        → Free (plain.args_faults (erased m) (erased_proc p) (erased_args args))
    args_free no_args h = h
    args_free (value e args) h =
        both (expr_faults m p e) (args_faults m p args) (expr_free e) (args_free args) h
    args_free (proc f args) h =
        both (handed_faults m p f) (args_faults m p args) (handed_free f) (args_free args) h
    args_free (token x args) h = args_free args (rest_free (token_faults p x) _ h)

  -- a statement that stays, and what is after it
  stays : {hs ks : List NameFault} → Free hs → Free ks → Free (hs ++ ks)
  stays {hs} {ks} here rest = ap (λ l. l ++ ks) here ∙ rest

  mutual
    before_free : (s : Stmt) (b : tree.Block) → Free (stmt_faults m p s)
        → Free (plain.block_faults (erased m) (erased_proc p) b)
        → Free (plain.block_faults (erased m) (erased_proc p) (erased_before s b))
    before_free (set at end x e) b h k =
        stays (both (variable_faults m p x) (expr_faults m p e) (variable_free x) (expr_free e) h) k
    before_free (set_at at end x i e) b h k =
        let rest = both (expr_faults m p i) (expr_faults m p e) (expr_free i) (expr_free e) in
        stays (both (element_faults m p x) (expr_faults m p i ++ expr_faults m p e) (element_free x) rest h) k
    before_free (do_call at end f args) b h k =
        stays (both (call_faults m p f args) (args_faults m p args) (call_free f args) (args_free args) h) k
    before_free (if_then at end c a) b h k =
        stays (both (expr_faults m p c) (block_faults m p a) (expr_free c) (block_free a) h) k
    before_free (if_else at end c a d) b h k =
        let rest = both (block_faults m p a) (block_faults m p d) (block_free a) (block_free d) in
        stays (both (expr_faults m p c) (block_faults m p a ++ block_faults m p d) (expr_free c) rest h) k
    before_free (while at end c a) b h k =
        stays (both (expr_faults m p c) (block_faults m p a) (expr_free c) (block_free a) h) k
    before_free (return at end e) b h k = stays (expr_free e h) k
    before_free (halt at end e) b h k = stays (expr_free e h) k
    before_free (make at end x) b h k = k
    before_free (spend at end x) b h k = k

    block_free : (b : Block) → Free (block_faults m p b)
        → Free (plain.block_faults (erased m) (erased_proc p) (erased_block b))
    block_free no_stmts h = h
    block_free (stmt s b) h =
        let fs = stmt_faults m p s in
        let rest = block_faults m p b in
        before_free s (erased_block b) (first_free fs rest h) (block_free b (rest_free fs rest h))

-- ---- names that stand twice: where none does, none of fewer does

-- the first list without some of its names
data Among : List Name → List Name → Type 0 where
  none : Among [] []
  kept : (x : Name) (xs ys : List Name) → Among xs ys → Among (x ∷ xs) (x ∷ ys)
  gone : (x : Name) (xs ys : List Name) → Among xs ys → Among (x ∷ xs) ys

again_free : (x : Name) (xs ys : List Name) → Among xs ys → Free (again x xs) → Free (again x ys)
again_free x _ _ none h = h
again_free x _ _ (kept y xs ys among) h =
    both (unless (not (same x y)) (Twice y.at)) (again x xs) (λ here. here) (again_free x xs ys among) h
again_free x _ _ (gone y xs ys among) h =
    again_free x xs ys among (rest_free (unless (not (same x y)) (Twice y.at)) _ h)

twice_free : (xs ys : List Name) → Among xs ys → Free (twice xs) → Free (twice ys)
twice_free _ _ none h = h
twice_free _ _ (kept x xs ys among) h =
    both (again x xs) (twice xs) (again_free x xs ys among) (twice_free xs ys among) h
twice_free _ _ (gone x xs ys among) h = twice_free xs ys among (rest_free (again x xs) _ h)

locals_among : (locals : List TokenLocal) → Among (map local_name locals) (erased_locals locals)
locals_among [] = none
locals_among (local.Plain x ∷ locals) = kept x _ _ (locals_among locals)
locals_among (local.Token x ∷ locals) = gone x _ _ (locals_among locals)

own_among : (params : List TokenParam) (locals : List TokenLocal)
    → Among (map param_name params ++ map local_name locals)
    (map (λ q. q.name) (erased_params params) ++ erased_locals locals)
own_among [] locals = locals_among locals
own_among (param.Plain q ∷ params) locals = kept q.name _ _ (own_among params locals)
own_among (param.Token x ∷ params) locals = gone x _ _ (own_among params locals)

-- ---- the module

proc_free : (m : TokenModuleFields) (p : TokenProc) → Free (proc_faults m p)
    → Free (plain.proc_faults (erased m) (erased_proc p))
proc_free m p h =
    let uses = block_faults m p (block_of p.body) in
    both (twice (own_names p)) (shared_faults p ++ uses)
    (twice_free (own_names p) _ (own_among p.params p.locals))
    (λ rest.
    ap (plain.block_faults (erased m) (erased_proc p)) (block_of-stmts_in (erased_block (block_of p.body)))
    ∙ block_free m p (block_of p.body) (rest_free (shared_faults p) uses rest)) h

procs_free : (m : TokenModuleFields) (procs : List TokenProc) → Free (procs_faults m procs)
    → Free (plain.procs_faults (erased m) (map erased_proc procs))
procs_free m [] h = h
procs_free m (p ∷ procs) h =
    both (proc_faults m p) (procs_faults m procs) (proc_free m p) (procs_free m procs) h

names_kept : (procs : List TokenProc) → map (λ q. q.name) (map erased_proc procs) ≡ map (λ p. p.name) procs
names_kept [] = refl
names_kept (p ∷ procs) = ap (λ names. p.name ∷ names) (names_kept procs)

pub erased_resolved : (m : TokenModuleFields) → IsTokenResolved m → plain.name_faults (erased m) ≡ []
erased_resolved m h =
    let items = λ (names : List Name).
    twice (map (λ i. i.name) m.imports ++ (map (λ g. g.name) m.globals ++ names)) in
    both (items (map (λ p. p.name) m.procs)) (procs_faults m m.procs)
    (λ here. ap items (names_kept m.procs) ∙ here) (procs_free m m.procs) h
