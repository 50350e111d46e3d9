-- Where an item is found.
use Rattle.std.proofs.Common.{◌≡◌, refl, sym, ◌∙◌, ap, ℕ, ◌+◌, Bool, true, false, not, ◌&&◌, ◌||◌, cond}
use Rattle.std.proofs.Common.{if◌then◌else◌, List, [], ◌∷◌, length, map, arith, nat_lt, Option, Some, None}
use Rattle.std.specs.Prelude.{position, option_map, is_some}
use Rattle.std.specs.List.{position_or_len}
use Rattle.std.proofs.lemmas.Bool.Decides.{nat_tests}
use Rattle.proc_language.specs.declared.tree.Name.{Name}
use Rattle.proc_names.specs.declared.scope.Variable.TheVariants as variable_of
use Rattle.proc_names.specs.declared.scope.Callee.{Callee}
use Rattle.proc_names.specs.declared.scope.Callee.TheVariants as callee_of
use Rattle.proc_names.specs.Names.{same, index_of, shared_index, is_there, or_else, param_at, global_at}
use Rattle.proc_names.specs.Names.{callback_index, is_taken, item_variable, item_callee}
use Rattle.proc_names.specs.Names.{variable_named, callee_named, passed_named}
use Rattle.token_language.specs.declared.module.TokenProc.{TokenProc}
use Rattle.token_language.specs.declared.module.TokenModuleFields.{TokenModuleFields}
use Rattle.token_language.specs.TokenFaults.{is_plain}
use Rattle.token_language.specs.Erased.{erased, erased_params, erased_locals, erased_proc}

-- after one item more
pub position-cons : {A : Type 0} (test : A → Bool) (x : A) (xs : List A)
    → position test (x ∷ xs) ≡ (if test x then Some 0 else option_map (λ i. i + 1) (position test xs))
position-cons test x xs = by (test x)
  where
    by : (b : Bool)
        → cond (nat_lt (cond (not b) (1 + position_or_len test xs) 0) (length (x ∷ xs)))
        (Some (cond (not b) (1 + position_or_len test xs) 0)) None
        ≡ (if b then Some 0 else option_map (λ i. i + 1) (position test xs))
    by true = grind (arith, nat_tests)
    by false = grind (arith, nat_tests)

-- of each item another
pub position-map : {A B : Type 0} (test : B → Bool) (f : A → B) (xs : List A)
    → position test (map f xs) ≡ position (λ x. test (f x)) xs
position-map test f [] = refl
position-map test f (x ∷ xs) =
    position-cons test (f x) (map f xs)
    ∙ ap (λ found. if test (f x) then Some 0 else option_map (λ i. i + 1) found) (position-map test f xs)
    ∙ sym (position-cons (λ y. test (f y)) x xs)

-- procedures are found where they are without their tokens
pub procs_index : (procs : List TokenProc) (x : Name)
    → index_of (λ q. q.name) (map erased_proc procs) x ≡ index_of (λ p. p.name) procs x
procs_index procs x = position-map (λ q. same q.name x) erased_proc procs

pub shared_procs_index : (procs : List TokenProc) (f : Name)
    → shared_index (map erased_proc procs) f ≡ position (λ p. p.shared && same p.name f) procs
shared_procs_index procs f = position-map (λ q. q.shared && same q.name f) erased_proc procs

-- what is found after parameters and locals
pub variable_else : (m : TokenModuleFields) (p : TokenProc) (x : Name)
    → index_of (λ q. q.name) (erased_params p.params) x ≡ None
    → index_of (λ y. y) (erased_locals p.locals) x ≡ None
    → item_variable (λ q. q.name) m.imports m.globals m.procs x
    ≡ variable_named (erased m) (erased_proc p) x
unfolding variable_named
variable_else m p x none free =
    let there = item_variable (λ q. q.name) m.imports m.globals (map erased_proc m.procs) x in
    ap (λ found. or_else (index_of (λ g. g.name) m.globals x) (global_at m.globals) (
    if is_there (λ i. i.name) m.imports x || is_some found then variable_of.Other else variable_of.Missing))
    (sym (procs_index m.procs x))
    ∙ sym (ap (λ found. or_else found variable_of.Local there) free)
    ∙ sym (ap (λ found. or_else found (param_at (erased_params p.params)) (
    or_else (index_of (λ y. y) (erased_locals p.locals) x) variable_of.Local there)) none)

-- and after callbacks
pub callee_else : (m : TokenModuleFields) (p : TokenProc) (f : Name)
    → callback_index (erased_params p.params) f ≡ None
    → item_callee (λ q. q.name) m.imports m.globals m.procs f ≡ callee_named (erased m) (erased_proc p) f
unfolding callee_named
callee_else m p f none =
    let there = item_callee (λ q. q.name) m.imports m.globals (map erased_proc m.procs) f in
    ap (λ found. or_else (index_of (λ i. i.name) m.imports f) callee_of.Import (
    or_else found callee_of.Proc (
    if is_there (λ g. g.name) m.globals f then callee_of.Other else callee_of.Missing)))
    (sym (procs_index m.procs f))
    ∙ sym (ap (λ found. or_else found callee_of.Callback there) none)

-- and what is taken
pub taken_else : (m : TokenModuleFields) (p : TokenProc) (f : Name) → is_plain p f ≡ false
    → is_there (λ g. g.name) m.globals f ≡ false
    → is_there (λ q. q.name) m.procs f ≡ is_taken (erased m) (erased_proc p) f
taken_else m p f plain global =
    let there = is_there (λ q. q.name) (map erased_proc m.procs) f in
    ap is_some (sym (procs_index m.procs f)) ∙ sym (ap (λ b. b || there) global)
    ∙ sym (ap (λ b. b || is_there (λ g. g.name) m.globals f || there) plain)

-- what is passed on, after callbacks and imports
pub passed_else : (m : TokenModuleFields) (p : TokenProc) (f : Name)
    → callback_index (erased_params p.params) f ≡ None → index_of (λ i. i.name) m.imports f ≡ None
    → (found : Option ℕ) → position (λ q. q.shared && same q.name f) m.procs ≡ found
    → (taken : Bool) → is_taken (erased m) (erased_proc p) f ≡ taken
    → or_else found callee_of.Proc (if taken then callee_of.Other else callee_of.Missing)
    ≡ passed_named (erased m) (erased_proc p) f
unfolding passed_named
passed_else m p f none free found is taken so =
    let there : Option ℕ → Bool → Callee =
    λ o b. or_else o callee_of.Proc (if b then callee_of.Other else callee_of.Missing) in
    let t = is_taken (erased m) (erased_proc p) f in
    let shared = shared_index (map erased_proc m.procs) f in
    (λ i. there (sym (shared_procs_index m.procs f ∙ is) i) (sym so i))
    ∙ sym (ap (λ o. or_else o callee_of.Import (there shared t)) free)
    ∙ sym (ap (λ o. or_else o callee_of.Callback (
    or_else (index_of (λ i. i.name) m.imports f) callee_of.Import (there shared t))) none)

pub ruleset founds = (position-cons)
