-- Where names lead.
use Rattle.std.specs.Prelude.{ℕ, Bool, false, ◌&&◌, ◌||◌, is_some, if◌then◌else◌, List, position, slice_get}
use Rattle.std.specs.Prelude.{Option, Some, None}
use Rattle.std.specs.Option.{option_map_or}
use Rattle.std.specs.Str.{bytes_eq}
use Rattle.proc_language.specs.declared.tree.Name.{Name}
use Rattle.proc_language.specs.declared.module.Import.{Import}
use Rattle.proc_language.specs.declared.module.Global.{Global}
use Rattle.proc_language.specs.declared.module.Param.{Param}
use Rattle.proc_language.specs.declared.module.Proc.{Proc}
use Rattle.proc_language.specs.declared.module.ModuleFields.{ModuleFields}
use Rattle.proc_names.specs.declared.scope.Variable.{Variable}
use Rattle.proc_names.specs.declared.scope.Variable.TheVariants as variable_of
use Rattle.proc_names.specs.declared.scope.Callee.{Callee}
use Rattle.proc_names.specs.declared.scope.Callee.TheVariants as callee_of

abbrev pub same : Name → Name → Bool
same x y = bytes_eq x.text y.text

-- ---- in one list

-- the index of the first item that has the name
abbrev pub index_of : {A : Type 0} → (A → Name) → List A → Name → Option ℕ
index_of name_of items x = position (λ item. same (name_of item) x) items

-- some item has the name
abbrev pub is_there : {A : Type 0} → (A → Name) → List A → Name → Bool
is_there name_of items x = is_some (index_of name_of items x)

-- the first callback of the name
abbrev pub callback_index : List Param → Name → Option ℕ
callback_index params f = position (λ q. is_some q.arity && same q.name f) params

-- the first procedure of the name that other parts may import
abbrev pub shared_index : List Proc → Name → Option ℕ
shared_index procs f = position (λ q. q.shared && same q.name f) procs

-- what there is at an index where one was found, and else what follows
abbrev pub or_else : {A : Type 0} → Option ℕ → (ℕ → A) → A → A
or_else (Some i) found rest = found i
or_else None found rest = rest

-- ---- variables: parameters and locals hide globals, and globals hide the rest

abbrev pub is_callback : List Param → ℕ → Bool
is_callback params i = option_map_or (λ q. is_some q.arity) (slice_get params i) false

abbrev pub is_array : List Global → ℕ → Bool
is_array globals i = option_map_or (λ g. is_some g.length) (slice_get globals i) false

abbrev pub param_at : List Param → ℕ → Variable
param_at params i = if is_callback params i then variable_of.Other else variable_of.Param i

abbrev pub global_at : List Global → ℕ → Variable
global_at globals i = if is_array globals i then variable_of.Array i else variable_of.Global i

-- what no procedure hides: the names of the procedures are told
abbrev pub item_variable : {P : Type 0} → (P → Name) → List Import → List Global → List P → Name
    → Variable
item_variable name_of imports globals procs x =
    or_else (index_of (λ g. g.name) globals x) (global_at globals) (
    if is_there (λ i. i.name) imports x || is_there name_of procs x
    then variable_of.Other else variable_of.Missing)

unfoldable pub variable_named : ModuleFields → Proc → Name → Variable
variable_named m p x =
    or_else (index_of (λ q. q.name) p.params x) (param_at p.params) (
    or_else (index_of (λ y. y) p.locals x) variable_of.Local (
    item_variable (λ q. q.name) m.imports m.globals m.procs x))

-- ---- calls: of a callback, an import or a procedure

-- what is no callback
abbrev pub item_callee : {P : Type 0} → (P → Name) → List Import → List Global → List P → Name → Callee
item_callee name_of imports globals procs f =
    or_else (index_of (λ i. i.name) imports f) callee_of.Import (
    or_else (index_of name_of procs f) callee_of.Proc (
    if is_there (λ g. g.name) globals f then callee_of.Other else callee_of.Missing))

unfoldable pub callee_named : ModuleFields → Proc → Name → Callee
callee_named m p f =
    or_else (callback_index p.params f) callee_of.Callback (
    item_callee (λ q. q.name) m.imports m.globals m.procs f)

-- ---- what is passed on: a callback, an import or a shared procedure

-- a parameter, a local, a global or a procedure has the name
abbrev pub is_taken : ModuleFields → Proc → Name → Bool
is_taken m p f =
    is_there (λ q. q.name) p.params f || is_there (λ y. y) p.locals f
    || is_there (λ g. g.name) m.globals f || is_there (λ q. q.name) m.procs f

unfoldable pub passed_named : ModuleFields → Proc → Name → Callee
passed_named m p f =
    or_else (callback_index p.params f) callee_of.Callback (
    or_else (index_of (λ i. i.name) m.imports f) callee_of.Import (
    or_else (shared_index m.procs f) callee_of.Proc (
    if is_taken m p f then callee_of.Other else callee_of.Missing)))
