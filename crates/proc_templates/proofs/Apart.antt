-- Names of modules are names of components, and exports ascend where no name stands twice.
use Rattle.std.proofs.lemmas.Bool.{and_parts}
use Rattle.std.proofs.Common.{◌≡◌, ℕ, ◌+◌, ◌≤◌, Bool, true, false, List, [], ◌∷◌, ◌++◌, map, Option, Some}
use Rattle.std.proofs.Common.{None, refl, sym, ap, ◌∙◌, subst, arith, true≢false}
use Rattle.std.specs.Prelude.{if◌then◌else◌, not, option_map, IsTrue, sum_by}
use Rattle.std.proofs.lemmas.List.Sums.{sum_by-cons}
use Rattle.std.specs.Str.{bytes_eq}
use Rattle.std.proofs.Common.{Ordering, Less, Equal, Greater}
use Rattle.std.specs.Ordering.{is_lt, is_eq, nat_cmp, ordering_reverse}
use Rattle.std.specs.Cmp.Lexicographic.{slice_cmp, nat_list_cmp_total}
use Rattle.std.proofs.lemmas.Map.Text.{is_eq-slice_cmp}
use Rattle.component_file.specs.declared.TheConstants.{LAST_OFFSET, MOST_WORDS}
use Rattle.component_file.specs.declared.component.Export.{Export}
use Rattle.component_file.specs.Limits.{ascends, name_lt, Chain, ExportFits}
use Rattle.proc_program.specs.declared.program.Program.{Program}
use Rattle.proc_program.specs.declared.program.Procedure.{Procedure}
use Rattle.cap_words.specs.Names as part
use Rattle.proc_language.specs.declared.tree.Name.{Name}
use Rattle.proc_language.specs.declared.module.ModuleFields.{ModuleFields}
use Rattle.proc_language.specs.declared.module.Proc.{Proc}
use Rattle.proc_language.specs.Words.{is_source_name, is_reserved}
use Rattle.proc_language.specs.Limits.{Each}
use Rattle.proc_names.specs.declared.fault.NameFault.{NameFault}
use Rattle.proc_names.specs.Faults.{unless}
use Rattle.proc_names.specs.Names.{same}
use Rattle.proc_names.specs.NameFaults.{again, twice, item_names, procs_faults, name_faults}
use Rattle.proc_names.specs.Calls.{proc_calls}
use Rattle.proc_program.specs.Lower.{procedures_of, part_of}
use Rattle.proc_program.specs.Limits.{scope_of, ProcedureFits}
use Rattle.proc_templates.specs.Kept.{NoneNamed, NamesDiffer}
use Rattle.proc_templates.specs.Compiled.{size_of_proc, export_into, exports_from}

-- ---- names

pub name_too : (text : List ℕ) → IsTrue (is_source_name text) → IsTrue (part.is_name text)
unfolding is_source_name
name_too text h = (and_parts (part.is_name text) (not (is_reserved text)) h).0

-- ---- no name twice

pub left_none : {A : Type 0} (a b : List A) → a ++ b ≡ [] → a ≡ []
left_none [] b e = refl
left_none (x ∷ a) b e = cc

pub right_none : {A : Type 0} (a b : List A) → a ++ b ≡ [] → b ≡ []
right_none [] b e = e
right_none (x ∷ a) b e = cc

pub once : (b : Bool) (f : NameFault) → unless (not b) f ≡ [] → b ≡ false
once true f e = cc
once false f e = refl

none_named : (m : ModuleFields) (x : Name) (ps : List Proc) (n : ℕ)
    → again x (map (λ (p : Proc). p.name) ps) ≡ []
    → NoneNamed x.text (procedures_of m n ps)
none_named m x [] n e = tt
none_named m x (p ∷ ps) n e = (
  once (same x p.name) _ (left_none (unless (not (same x p.name)) _) _ e),
  none_named m x ps (n + proc_calls p) (right_none (unless (not (same x p.name)) _) _ e),
)

differ : (m : ModuleFields) (ps : List Proc) (n : ℕ) → twice (map (λ (p : Proc). p.name) ps) ≡ []
    → NamesDiffer (procedures_of m n ps)
differ m [] n e = tt
differ m (p ∷ ps) n e = (
  none_named m p.name ps (n + proc_calls p) (left_none (again p.name (map (λ (p : Proc). p.name) ps)) _ e),
  differ m ps (n + proc_calls p) (right_none (again p.name (map (λ (p : Proc). p.name) ps)) _ e),
)

twice_right : (a b : List Name) → twice (a ++ b) ≡ [] → twice b ≡ []
twice_right [] b e = e
twice_right (x ∷ a) b e = twice_right a b (right_none (again x (a ++ b)) (twice (a ++ b)) e)

pub names_differ : (m : ModuleFields) → name_faults m ≡ [] → NamesDiffer (part_of m).procs
names_differ m e =
    differ m m.procs 0
    (twice_right (map (λ g. g.name) m.globals) _
    (twice_right (map (λ i. i.name) m.imports) _
    (left_none (twice (item_names m)) (procs_faults m m.procs) e)))

-- ---- exports ascend

-- an export under none of the names
abbrev Apart : List ℕ → List Export → Type 0
Apart name [] = Unit {0}
Apart name (e ∷ es) = (bytes_eq name e.name ≡ false) × Apart name es

-- the other way around
greater : (a b : List ℕ) → bytes_eq a b ≡ false → name_lt a b ≡ false → name_lt b a ≡ true
greater a b ne lt = by (slice_cmp nat_cmp a b) refl
  where
    by : (o : Ordering) → slice_cmp nat_cmp a b ≡ o → name_lt b a ≡ true
    by Less e = absurd (true≢false (ap is_lt (sym e) ∙ lt))
    by Equal e = absurd (true≢false (ap is_eq (sym e) ∙ is_eq-slice_cmp a b ∙ ne))
    by Greater e = ap is_lt (nat_list_cmp_total.antisymm b a ∙ ap ordering_reverse e)

module _ (e : Export) (name : IsTrue (part.is_name e.name)) (offset : e.offset ≤ LAST_OFFSET) where
  into : (before : Option Export) (es : List Export)
      → IsTrue (ascends name_lt (option_map (λ b. b.name) before) e.name)
      → Chain ExportFits before es → Apart e.name es → Chain ExportFits before (export_into e es)
  into before [] h c a = ((name, h, offset), tt)
  into before (x ∷ xs) h c a = by (name_lt e.name x.name) refl
      (λ lt. into (Some x) xs (greater e.name x.name a.0 lt) c.1 a.1)
    where
      by : (t : Bool) → name_lt e.name x.name ≡ t
          → (name_lt e.name x.name ≡ false → Chain ExportFits (Some x) (export_into e xs))
          → Chain ExportFits before (if t then e ∷ x ∷ xs else x ∷ export_into e xs)
      by true lt k = ((name, h, offset), ((c.0.0, lt, c.0.2), c.1))
      by false lt k = (c.0, k lt)

apart_into : (name : List ℕ) (e : Export) (es : List Export) → bytes_eq name e.name ≡ false → Apart name es
    → Apart name (export_into e es)
apart_into name e [] ne a = (ne, tt)
apart_into name e (x ∷ xs) ne a = by (name_lt e.name x.name) (apart_into name e xs ne a.1)
  where
    by : (t : Bool) → Apart name (export_into e xs)
        → Apart name (if t then e ∷ x ∷ xs else x ∷ export_into e xs)
    by true k = (ne, a)
    by false k = (a.0, k)

apart_from : (x : List ℕ) (ps : List Procedure) (o : ℕ) → NoneNamed x ps
    → Apart x (exports_from o ps)
apart_from x [] o e = tt
apart_from x (p ∷ ps) o e =
    apart_into x (record { name = p.name; offset = o; shared = p.shared })
    (exports_from (o + size_of_proc p) ps)
    e.0 (apart_from x ps (o + size_of_proc p) e.1)

some_words : (p : Procedure) → 1 ≤ size_of_proc p
some_words p = omega arith

pub exports_chain : (m : Program) (ps : List Procedure) (o : ℕ) → Each (ProcedureFits (scope_of m)) ps
    → NamesDiffer ps
    → o + sum_by size_of_proc ps ≤ MOST_WORDS → Chain ExportFits None (exports_from o ps)
exports_chain m [] o f e h = tt
exports_chain m (p ∷ ps) o f e h =
    let t = sum_by-cons size_of_proc p ps in
    let n = sum_by size_of_proc ps in
    let h' : o + (size_of_proc p + n) ≤ MOST_WORDS = subst (λ k. o + k ≤ MOST_WORDS) t h in
    let w = some_words p in
    into (record { name = p.name; offset = o; shared = p.shared }) (name_too p.name f.0.name)
    (omega (arith, h', w))
    None (exports_from (o + size_of_proc p) ps) refl
    (exports_chain m ps (o + size_of_proc p) f.1 e.1 (omega (arith, h')))
    (apart_from p.name ps (o + size_of_proc p) e.0)
