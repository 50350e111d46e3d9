-- Where the names of shared procedures lead, and the names of imports.
use Rattle.std.proofs.Common.{◌≡◌, ◌≢◌, inl, inr, ℕ, zero, suc, ◌+◌, ◌<◌, true, false, List, [], ◌∷◌}
use Rattle.std.proofs.Common.{◌++◌, length, map, find, Option, Some, None, refl, sym, ap, ◌∙◌, subst, arith}
use Rattle.std.proofs.Common.{eqb-true}
use Rattle.std.specs.Prelude.{slice_get, option_map, ◌==◌, not}
use Rattle.std.specs.List.{Contains}
use Rattle.std.specs.Option.{option_map_or}
use Rattle.std.specs.Str.{bytes_eq}
use Rattle.std.proofs.lemmas.Bool.{cases_lt, and_right}
use Rattle.std.proofs.lemmas.Option.{slice_get_within, slice_get-map}
use Rattle.component_file.specs.declared.component.Export.{Export}
use Rattle.linked_starts.specs.Parts.{PartSeen}
use Rattle.overlay_machine.proofs.Offers.{index_of, found_is}
use Rattle.proc_language.specs.declared.tree.Name.{Name}
use Rattle.proc_language.specs.declared.module.Proc.{Proc}
use Rattle.proc_language.specs.declared.module.ModuleFields.{ModuleFields}
use Rattle.proc_language.specs.Limits.{Each}
use Rattle.proc_language.proofs.Offers.{each_at}
use Rattle.proc_names.specs.Names.{same}
use Rattle.proc_names.specs.NameFaults.{name_faults, again, twice, item_names, procs_faults}
use Rattle.proc_names.specs.Faults.{unless}
use Rattle.proc_program.specs.declared.program.ProgramImport as program
use Rattle.proc_program.specs.declared.program.Procedure.{Procedure}
use Rattle.proc_program.specs.Lower.{part_of, procedures_of, import_of}
use Rattle.proc_names.specs.Calls.{proc_calls}
use Rattle.proc_templates.specs.Kept.{NoneNamed, NamesDiffer}
use Rattle.proc_templates.specs.Compiled.{exports_of}
use Rattle.proc_templates.proofs.Offers.{names_differ, left_none, right_none, once}
use Rattle.proc_semantics.specs.declared.value.Target.{Target}
use Rattle.proc_semantics.specs.Values.{World, home_part, target, shared_in, shared_at, is_shared, found}
use Rattle.template_runs.specs.Public.{IsSharedAt}
use Rattle.source_starts.specs.Sources.{trusted_parts}
use Rattle.source_starts.proofs.Carrying.{offset_from}
use Rattle.source_starts.proofs.Worlds.{position_at, names_same, differ_back, NamesApart, Aligned, Home}
use Rattle.source_starts.proofs.Worlds.{found_home}
use Rattle.source_starts.proofs.Exports.{export_at, export_there, export_only, one_offset}

-- ---- names within a module

none_at : (name : List ℕ) (ps : List Procedure) (j : ℕ) (q : Procedure) → NoneNamed name ps
    → slice_get ps j ≡ Some q → bytes_eq name q.name ≡ false
none_at name [] j q h e = absurd (let z : None ≡ Some q = e in cc)
none_at name (p ∷ ps) zero q h e = let s : p ≡ q = cc in
    subst (λ (y : Procedure). bytes_eq name y.name ≡ false) s h.0
none_at name (p ∷ ps) (suc j) q h e = none_at name ps j q h.1 e

pub procs_differ : (ps : List Procedure) (i j : ℕ) (p q : Procedure) → NamesDiffer ps → i < j
    → slice_get ps i ≡ Some p → slice_get ps j ≡ Some q → bytes_eq p.name q.name ≡ false
procs_differ [] i j p q h lt a b = absurd (let z : None ≡ Some p = a in cc)
procs_differ (x ∷ ps) zero zero p q h lt a b = absurd (omega (arith, lt))
procs_differ (x ∷ ps) zero (suc j) p q h lt a b =
    let s : x ≡ p = cc in
    subst (λ (y : Procedure). bytes_eq y.name q.name ≡ false) s (none_at x.name ps j q h.0 b)
procs_differ (x ∷ ps) (suc i) zero p q h lt a b = absurd (omega (arith, lt))
procs_differ (x ∷ ps) (suc i) (suc j) p q h lt a b = procs_differ ps i j p q h.1 (omega (arith, lt)) a b

-- a procedure is the only one of its name
pub one_proc : (ps : List Procedure) (i j : ℕ) (p q : Procedure) → NamesDiffer ps → slice_get ps i ≡ Some p
    → slice_get ps j ≡ Some q → p.name ≡ q.name → i ≡ j
one_proc ps i j p q h a b e = elim (cases_lt i j) as (λ _. i ≡ j) [
  | inl lt ↦ absurd (
      let d = procs_differ ps i j p q h lt a b in
      let t = ap (λ n. bytes_eq n q.name) e ∙ names_same q.name in
      let bad : true ≡ false = sym t ∙ d in cc)
  | inr ge ↦ elim (cases_lt j i) as (λ _. i ≡ j) [
    | inl lt ↦ absurd (
        let d = procs_differ ps j i q p h lt b a in
        let t = ap (bytes_eq q.name) e ∙ names_same q.name in
        let bad : true ≡ false = sym t ∙ d in cc)
    | inr le ↦ omega (arith, ge, le)
  ]
]

-- no import has the name of an own procedure
again_at : (x : Name) (ys : List Name) (j : ℕ) (y : Name) → again x ys ≡ [] → slice_get ys j ≡ Some y
    → same x y ≡ false
again_at x [] j y h e = absurd (let z : None ≡ Some y = e in cc)
again_at x (z ∷ zs) zero y h e =
    let s : z ≡ y = cc in
    subst (λ w. same x w ≡ false) s (once (same x z) _ (left_none (unless (not (same x z)) _) _ h))
again_at x (z ∷ zs) (suc j) y h e = again_at x zs j y (right_none (unless (not (same x z)) _) _ h) e

again_right : (x : Name) (a b : List Name) → again x (a ++ b) ≡ [] → again x b ≡ []
again_right x [] b h = h
again_right x (y ∷ a) b h = again_right x a b (right_none (unless (not (same x y)) _) _ h)

twice_between : (a b : List Name) (k j : ℕ) (x y : Name) → twice (a ++ b) ≡ [] → slice_get a k ≡ Some x
    → slice_get b j ≡ Some y → same x y ≡ false
twice_between [] b k j x y h e f = absurd (let z : None ≡ Some x = e in cc)
twice_between (z ∷ a) b zero j x y h e f =
    let s : z ≡ x = cc in
    subst (λ w. same w y ≡ false) s
    (again_at z b j y (again_right z a b (left_none (again z (a ++ b)) (twice (a ++ b)) h)) f)
twice_between (z ∷ a) b (suc k) j x y h e f =
    twice_between a b k j x y (right_none (again z (a ++ b)) (twice (a ++ b)) h) e f

proc_named : (m : ModuleFields) (n : ℕ) (ps : List Proc) (j : ℕ) (q : Procedure)
    → slice_get (procedures_of m n ps) j ≡ Some q
    → (y : Name) × (slice_get (map (λ (p : Proc). p.name) ps) j ≡ Some y) × (y.text ≡ q.name)
proc_named m n [] j q e = absurd (let z : None ≡ Some q = e in cc)
proc_named m n (p ∷ ps) zero q e = (
  p.name,
  refl,
  (let s = e in
      ap (λ (o : Option Procedure). option_map_or (λ (y : Procedure). y.name) o []) s),
)
proc_named m n (p ∷ ps) (suc j) q e = proc_named m (n + proc_calls p) ps j q e

right_at : {A : Type 0} (a b : List A) (j : ℕ) (x : A) → slice_get b j ≡ Some x
    → slice_get (a ++ b) (length a + j) ≡ Some x
right_at [] b j x e = let z : 0 + j ≡ j = omega arith in ap (slice_get b) z ∙ e
right_at (y ∷ a) b j x e =
    let z : length (y ∷ a) + j ≡ suc (length a + j) = omega arith in
    ap (slice_get (y ∷ (a ++ b))) z ∙ right_at a b j x e

pub imports_apart : (m : ModuleFields) → name_faults m ≡ []
    → (k j : ℕ) (i : program.ProgramImport) (q : Procedure)
    → slice_get (part_of m).imports k ≡ Some i → slice_get (part_of m).procs j ≡ Some q → i.name ≢ q.name
imports_apart m h k j i q at_i at_q e =
    by (slice_get m.imports k) refl (sym (slice_get-map import_of m.imports k) ∙ at_i)
  where
    y : (n : Name) × (slice_get (map (λ (p : Proc). p.name) m.procs) j ≡ Some n) × (n.text ≡ q.name)
    y = proc_named m 0 m.procs j q at_q

    by : (o : Option _) → slice_get m.imports k ≡ o → option_map import_of o ≡ Some i → ⊥
    by None f g = cc
    by (Some x) f g =
        let s : import_of x ≡ i = cc in
        let nm : x.name.text ≡ i.name = ap (λ (z : program.ProgramImport). z.name) s in
        let d = twice_between (map (λ i. i.name) m.imports) _ k _ x.name y.0
        (left_none (twice (item_names m)) (procs_faults m m.procs) h)
        (slice_get-map (λ i. i.name) m.imports k ∙ ap (option_map (λ i. i.name)) f)
        (right_at (map (λ g. g.name) m.globals) (map (λ (p : Proc). p.name) m.procs) j y.0 y.1) in
        let t : bytes_eq x.name.text y.0.text ≡ true = ap (λ a. bytes_eq a y.0.text) (nm ∙ e ∙ sym y.2)
        ∙ names_same y.0.text in
        let bad : true ≡ false = sym t ∙ d in cc

-- ---- among the modules

-- a procedure of a module stands at an offset of a part
pub record BeginsAt (modules : List ModuleFields) (parts : List PartSeen) (t : Target) (p : PartSeen)
    (e : ℕ) : Type 0 where
  pub home : Home modules parts t.home p
  pub what : Procedure
  pub what_is : slice_get (part_of home.source).procs t.proc ≡ Some what
  pub offset : e ≡ offset_from 2 (part_of home.source).procs t.proc

module _ (modules : List ModuleFields) (parts : List PartSeen) (is : Aligned modules (trusted_parts parts))
    (apart : NamesApart parts) (resolved : Each (λ m. name_faults m ≡ []) modules) where
  abbrev pub world : World
  world = map part_of modules

  pub part_here : (i : ℕ) (p : PartSeen) (h : Home modules parts i p)
      → home_part world i ≡ Some (part_of h.source)
  part_here i p h = slice_get-map part_of modules i ∙ ap (option_map part_of) h.source_is

  pub differ : (i : ℕ) (p : PartSeen) (h : Home modules parts i p) → NamesDiffer (part_of h.source).procs
  differ i p h = names_differ h.source
      (each_at (λ m. name_faults m ≡ []) modules i h.source resolved h.source_is)

  -- the name of a shared procedure of a module leads to it
  pub shared_found : (i : ℕ) (p : PartSeen) (h : Home modules parts i p) (j : ℕ) (q : Procedure)
      (name : List ℕ)
      → slice_get (part_of h.source).procs j ≡ Some q → q.shared ≡ true → name ≡ q.name
      → shared_in i name (home_part world i) ≡ Some (target i j)
  shared_found i p h j q name at sh e =
      ap (shared_in i name) (part_here i p h)
      ∙ ap (option_map (target i)) (position_at (is_shared name) (part_of h.source).procs j q at
      (rw sh (ap (λ n. bytes_eq n q.name) e ∙ names_same q.name)) before)
    where
      before : (k : ℕ) (y : Procedure) → k < j → slice_get (part_of h.source).procs k ≡ Some y
          → is_shared name y ≡ false
      before k y lt at_y =
          let d = procs_differ (part_of h.source).procs k j y q (differ i p h) lt at_y at in
          and_right y.shared (bytes_eq name y.name)
          (ap (λ n. bytes_eq n y.name) e ∙ differ_back y.name q.name d)

  -- what begins at an offset of a part
  pub record ProcAt (i : ℕ) (p : PartSeen) (h : Home modules parts i p) (e : Export) : Type 0 where
    pub index : ℕ
    pub proc : Procedure
    pub at : slice_get (part_of h.source).procs index ≡ Some proc
    pub name : e.name ≡ proc.name
    pub shared : e.shared ≡ proc.shared
    pub offset : e.offset ≡ offset_from 2 (part_of h.source).procs index

  pub proc_of : (i : ℕ) (p : PartSeen) (h : Home modules parts i p) (e : Export)
      → Contains p.component.exports e
      → ProcAt i p h e
  unfolding exports_of
  proc_of i p h e m =
      let es = subst (λ (xs : List Export). Contains xs e) h.placed.exports m in
      let k = index_of (exports_of (part_of h.source)) e es in
      let x = export_only (part_of h.source).procs 2 k.0 e k.1 in
      record {
        index = x.index;
        proc = x.proc;
        at = x.at;
        name = sym (ap (λ (y : Export). y.name) x.is);
        shared = sym (ap (λ (y : Export). y.shared) x.is);
        offset = sym (ap (λ (y : Export). y.offset) x.is);
      }

  pub export_of : (i : ℕ) (p : PartSeen) (h : Home modules parts i p) (j : ℕ) (q : Procedure)
      → slice_get (part_of h.source).procs j ≡ Some q
      → (k : ℕ) × (slice_get p.component.exports k ≡ Some
      (export_at (offset_from 2 (part_of h.source).procs j) q))
  unfolding exports_of
  export_of i p h j q at =
      let r = export_there (part_of h.source).procs 2 j q at in
      (r.0, ap (λ (xs : List Export). slice_get xs r.0) h.placed.exports ∙ r.1)

  -- the first export at an offset where a shared one begins, by the names of its part and its own
  pub entry_found : (i : ℕ) (p : PartSeen) (h : Home modules parts i p) (k : ℕ) (e : Export)
      (part name : List ℕ)
      → find (λ (x : Export). x.offset == k) p.component.exports ≡ Some e → IsSharedAt p.component k
      → part ≡ p.component.name → name ≡ e.name
      → (t : Target) × (found world part name ≡ Some t) × BeginsAt modules parts t p k
  unfolding found
  entry_found i p h k e part name first sh en nn =
      let f = found_is (λ (x : Export). x.offset == k) p.component.exports e first in
      let x = proc_of i p h e f.0 in
      let y = proc_of i p h sh.export sh.among in
      let at : e.offset ≡ k = eqb-true e.offset k f.1 in
      let ps = (part_of h.source).procs in
      let one = one_offset ps 2 x.index y.index (slice_get_within ps x.index x.proc x.at)
      (slice_get_within ps y.index y.proc y.at) (sym x.offset ∙ at ∙ sym sh.offset ∙ y.offset) in
      let same : Some x.proc ≡ Some y.proc = sym x.at ∙ ap (slice_get ps) one ∙ y.at in
      let proc : x.proc ≡ y.proc = cc in
      let shared : x.proc.shared ≡ true =
      ap (λ (q : Procedure). q.shared) proc ∙ sym y.shared ∙ sh.shared in (
        target i x.index,
        ap (shared_at world name) (found_home modules parts is apart i p h part en)
            ∙ shared_found i p h x.index x.proc name x.at shared (nn ∙ x.name),
        record { home = h; what = x.proc; what_is = x.at; offset = sym at ∙ x.offset },
      )
