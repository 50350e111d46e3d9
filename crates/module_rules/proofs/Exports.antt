-- The exports of a module's component are its procedures, and its imports are among the component's.
use Rattle.std.proofs.Common.{◌≡◌, ℕ, zero, suc, ◌+◌, Bool, true, false, List, [], ◌∷◌, ◌++◌, Some, refl, sym}
use Rattle.std.proofs.Common.{ap, ◌∙◌}
use Rattle.std.specs.Prelude.{◌||◌, ◌&&◌, map, slice_get, is_none, if◌then◌else◌}
use Rattle.std.specs.List.{list_any}
use Rattle.std.specs.Str.{bytes_eq}
use Rattle.std.proofs.lemmas.Slice.Eq.{bytes_eq-Decides}
use Rattle.component_file.specs.declared.component.Import.{Import}
use Rattle.proc_language.specs.declared.module.Import.{Import as ModuleImport}
use Rattle.proc_language.specs.declared.module.Proc.{Proc}
use Rattle.proc_language.specs.declared.module.ModuleFields.{ModuleFields}
use Rattle.proc_program.specs.declared.program.Procedure.{Procedure}
use Rattle.proc_program.specs.Lower.{import_of, procedures_of, part_of}
use Rattle.proc_names.specs.Calls.{proc_calls}
use Rattle.proc_templates.specs.Compiled.{size_of_proc, import_slots, imports_of, exports_from}
use Rattle.proc_templates.specs.Compiled.{exports_of, component_of, compiled}
use Rattle.proc_templates.specs.Kept.{NoneNamed, NamesDiffer}
use Rattle.proc_templates.proofs.Offers.{any_into}
use Rattle.module_rules.specs.Rules.{proc_named}

-- ---- exports

-- a test of the name, and of whether it is shared
module _ (g : List ℕ → Bool → Bool) where
  from_any : (o : ℕ) (ps : List Procedure)
      → list_any (λ e. g e.name e.shared) (exports_from o ps) ≡ list_any (λ p. g p.name p.shared) ps
  from_any o [] = refl
  from_any o (p ∷ ps) =
      any_into (λ e. g e.name e.shared) (record { name = p.name; offset = o; shared = p.shared })
      (exports_from (o + size_of_proc p) ps)
      ∙ ap (λ b. g p.name p.shared || b) (from_any (o + size_of_proc p) ps)

  of_any : (m : ModuleFields) (n : ℕ) (ps : List Proc)
      → list_any (λ p. g p.name p.shared) (procedures_of m n ps) ≡ list_any (λ p. g p.name.text p.shared) ps
  of_any m n [] = refl
  of_any m n (p ∷ ps) = ap (λ b. g p.name.text p.shared || b) (of_any m (n + proc_calls p) ps)

  pub exports_any : (m : ModuleFields)
      → list_any (λ e. g e.name e.shared) (compiled m).exports
      ≡ list_any (λ p. g p.name.text p.shared) m.procs
  unfolding component_of exports_of
  exports_any m = from_any 2 (part_of m).procs ∙ of_any m 0 m.procs

-- ---- names

pub named_any : (name : List ℕ) (ps : List Proc) → list_any (λ p. bytes_eq p.name.text name) ps ≡ true
    → is_none (proc_named ps name) ≡ false
named_any name [] h = absurd cc
named_any name (p ∷ ps) h = by (bytes_eq p.name.text name) refl (named_any name ps)
  where
    by : (t : Bool) → bytes_eq p.name.text name ≡ t
        → (list_any (λ q. bytes_eq q.name.text name) ps ≡ true → is_none (proc_named ps name) ≡ false)
        → is_none (proc_named (p ∷ ps) name) ≡ false
    by true e more = rw e refl
    by false e more = rw e (more (sym (ap (λ t. t || list_any (λ q. bytes_eq q.name.text name) ps) e) ∙ h))

none_shared : (m : ModuleFields) (name other : List ℕ) (n : ℕ) (ps : List Proc) → other ≡ name
    → NoneNamed other (procedures_of m n ps)
    → list_any (λ p. bytes_eq p.name.text name && p.shared) ps ≡ false
none_shared m name other n [] same h = refl
none_shared m name other n (p ∷ ps) same h =
    let one = differs in
    let rest = none_shared m name other (n + proc_calls p) ps same h.1 in
    rw (one, rest) refl
  where
    differs : bytes_eq p.name.text name ≡ false
    differs = by (bytes_eq p.name.text name) refl
      where
        by : (t : Bool) → bytes_eq p.name.text name ≡ t → bytes_eq p.name.text name ≡ false
        by false e = e
        by true e =
            let k = same ∙ sym ((bytes_eq-Decides p.name.text name).0 e) in
            let f : true ≡ false = sym ((bytes_eq-Decides other p.name.text).1 k) ∙ h.0 in
            absurd cc

-- where no two procedures have one name, and the first of this name isn't shared, none of this name is
pub none_is_shared : (m : ModuleFields) (name : List ℕ) (n : ℕ) (ps : List Proc) (p : Proc)
    → NamesDiffer (procedures_of m n ps) → proc_named ps name ≡ Some p → p.shared ≡ false
    → list_any (λ q. bytes_eq q.name.text name && q.shared) ps ≡ false
none_is_shared m name n [] p differ is h = absurd cc
none_is_shared m name n (q ∷ ps) p differ is h =
    by (bytes_eq q.name.text name) refl (none_is_shared m name (n + proc_calls q) ps p differ.1)
  where
    by : (t : Bool) → bytes_eq q.name.text name ≡ t
        → (proc_named ps name ≡ Some p → p.shared ≡ false
        → list_any (λ r. bytes_eq r.name.text name && r.shared) ps ≡ false)
        → list_any (λ r. bytes_eq r.name.text name && r.shared) (q ∷ ps) ≡ false
    by true e more =
        let found : Some q ≡ Some p = sym (ap (λ t. if t then Some q else proc_named ps name) e) ∙ is in
        let same : q ≡ p = cc in
        let unshared : q.shared ≡ false = ap (λ (r : Proc). r.shared) same ∙ h in
        let named = (bytes_eq-Decides q.name.text name).0 e in
        let rest = none_shared m name q.name.text (n + proc_calls q) ps named differ.0 in
        rw (e, unshared, rest) refl
    by false e more =
        let found : proc_named ps name ≡ Some p =
        sym (ap (λ t. if t then Some q else proc_named ps name) e) ∙ is in
        let rest = more found h in
        rw (e, rest) refl

-- ---- imports

pub record HasImport (is : List Import) (k : ℕ) (x : ModuleImport) : Type 0 where
  pub import : Import
  pub at : slice_get is k ≡ Some import
  pub part : import.part ≡ x.part.text
  pub name : import.name ≡ x.name.text

in_slots : (s : ℕ) (xs : List ModuleImport) (more : List Import) (k : ℕ) (x : ModuleImport)
    → slice_get xs k ≡ Some x → HasImport (import_slots s (map import_of xs) ++ more) k x
in_slots s [] more k x h = absurd cc
in_slots s (y ∷ xs) more zero x h =
    let same : y ≡ x = cc in
    record {
      import = record { part = y.part.text; name = y.name.text; slot = s };
      at = refl;
      part = ap (λ (z : ModuleImport). z.part.text) same;
      name = ap (λ (z : ModuleImport). z.name.text) same;
    }
in_slots s (y ∷ xs) more (suc k) x h =
    let r = in_slots (s + 2) xs more k x h in
    record { import = r.import; at = r.at; part = r.part; name = r.name }

pub import_there : (m : ModuleFields) (k : ℕ) (x : ModuleImport) → slice_get m.imports k ≡ Some x
    → HasImport (compiled m).imports k x
unfolding component_of imports_of
import_there m k x h = in_slots 0 m.imports _ k x h
