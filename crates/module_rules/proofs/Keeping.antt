-- Modules among linked parts keep the rules of modules.
use Rattle.std.proofs.Common.{◌≡◌, ℕ, zero, suc, ◌+◌, ◌<◌, Bool, true, false, List, [], ◌∷◌, length, take}
use Rattle.std.proofs.Common.{Option, Some, None, Result, Ok, Err, inl, inr, refl, sym, ap, ◌∙◌, subst, arith}
use Rattle.std.specs.Prelude.{◌||◌, ◌&&◌, not, ◌==◌, nat_le, find, slice_get, is_none, IsSome, option_map}
use Rattle.std.specs.Prelude.{option_and_then, codes, if◌then◌else◌}
use Rattle.std.specs.List.{list_any}
use Rattle.std.specs.Str.{bytes_eq}
use Rattle.std.proofs.lemmas.Bool.{and_parts, not-false, cases_lt, not-true}
use Rattle.std.proofs.lemmas.Bool.Decides.{nat_tests}
use Rattle.std.proofs.lemmas.Option.{slice_get_within}
use Rattle.std.proofs.lemmas.Slice.Eq.{bytes_eq-Decides}
use Rattle.std.proofs.lemmas.Map.Keys.{any_passes_from_place}
use Rattle.component_check.specs.Places.{Test, BrokenAt}
use Rattle.component_file.specs.declared.component.Import.{Import}
use Rattle.component_file.specs.declared.component.Export.{Export}
use Rattle.component_file.proofs.Offers.{inside}
use Rattle.linked_starts.specs.Parts.{PartSeen}
use Rattle.linked_starts.specs.Standing.{placed}
use Rattle.linked_starts.specs.Regions.{is_stack_size}
use Rattle.linked_starts.specs.Start.{same_name, exported_by, export_that, part_named, imported, is_main}
use Rattle.linked_starts.specs.Start.{stack_base_of as parts_base}
use Rattle.linked_starts.specs.Pairs.{PairTest, BrokenIn, NoneIsBroken, IsFirstBrokenIn, never, once}
use Rattle.linked_starts.specs.Pairs.{passes, at_each, within_or, each_part}
use Rattle.linked_starts.specs.Links.{l3, l5, l6, rules_l, is_private as is_private_in}
use Rattle.linked_starts.specs.Links.{has_main as part_has_main}
use Rattle.linked_starts.proofs.Offers.{first_broken_in, slice_get-take, taken, any_settled, in_part}
use Rattle.linked_starts.proofs.Offers.{stack_fits as parts_fit, stack_bases, imports_found, taken_get}
use Rattle.proc_language.specs.declared.module.Import.{Import as ModuleImport}
use Rattle.proc_language.specs.declared.module.Proc.{Proc}
use Rattle.proc_language.specs.declared.module.ModuleFields.{ModuleFields}
use Rattle.proc_program.specs.Lower.{part_of}
use Rattle.proc_templates.specs.Compiled.{component_of, compiled}
use Rattle.proc_templates.specs.Kept.{NamesDiffer}
use Rattle.module_rules.specs.Rules.{same_name as same_module, names_differ, module_named, proc_named}
use Rattle.module_rules.specs.Rules.{is_missing, imports_are_there, is_unshared, is_private}
use Rattle.module_rules.specs.Rules.{imports_are_shared, has_main, main_rank, one_main, stack_base_of}
use Rattle.module_rules.specs.Rules.{stacks_agree, stack_is_in_place, stack_fits, module_rules, told_as}
use Rattle.module_rules.specs.Rules.{ruled}
use Rattle.module_rules.specs.Among.{AreAmong}
use Rattle.module_rules.proofs.Exports.{exports_any, named_any, none_is_shared, HasImport, import_there}
use Rattle.module_rules.proofs.Unmoved.{SaysSame, still_there}

-- ---- lists

find_is : {A : Type 0} (f : A → Bool) (xs : List A) (x : A) → find f xs ≡ Some x
    → (k : ℕ) × (slice_get xs k ≡ Some x) × (f x ≡ true)
find_is f [] x h = absurd cc
find_is f (y ∷ ys) x h = by (f y) refl (find_is f ys x)
  where
    by : (b : Bool) → f y ≡ b
        → (find f ys ≡ Some x → (k : ℕ) × (slice_get ys k ≡ Some x) × (f x ≡ true))
        → (k : ℕ) × (slice_get (y ∷ ys) k ≡ Some x) × (f x ≡ true)
    by true e more =
        let found : Some y ≡ Some x = sym (ap (λ t. if t then Some y else find f ys) e) ∙ h in
        let same : y ≡ x = cc in
        (0, found, sym (ap f same) ∙ e)
    by false e more =
        let found : find f ys ≡ Some x = sym (ap (λ t. if t then Some y else find f ys) e) ∙ h in
        let r = more found in
        (suc r.0, r.1, r.2)

any_is : {A : Type 0} (f : A → Bool) (xs : List A) → list_any f xs ≡ true
    → (k : ℕ) × (x : A) × (slice_get xs k ≡ Some x) × (f x ≡ true)
any_is f [] h = absurd cc
any_is {A = A} f (y ∷ ys) h = by (f y) refl (any_is f ys)
  where
    by : (b : Bool) → f y ≡ b
        → (list_any f ys ≡ true → (k : ℕ) × (x : A) × (slice_get ys k ≡ Some x) × (f x ≡ true))
        → (k : ℕ) × (x : A) × (slice_get (y ∷ ys) k ≡ Some x) × (f x ≡ true)
    by true e more = (0, y, refl, e)
    by false e more =
        let r = more (sym (ap (λ t. t || list_any f ys) e) ∙ h) in
        (suc r.0, r.1, r.2, r.3)

false_not : (b : Bool) → b ≡ true → b ≡ false → ⊥
false_not b t f = let e : true ≡ false = sym t ∙ f in absurd cc

-- ---- rules over modules

record Unbroken (t : PairTest) : Type 0 where
  none : (p i : ℕ) → BrokenIn t p i → ⊥

more_unbroken : (t : PairTest) (ts : List PairTest) → Unbroken t → NoneIsBroken ts → NoneIsBroken (t ∷ ts)
more_unbroken t ts h k zero p i u e b = absurd cc
more_unbroken t ts h k (suc zero) p i u e b =
    let same : t ≡ u = cc in h.none p i (subst (λ v. BrokenIn v p i) (sym same) b)
more_unbroken t ts h k (suc (suc n)) p i u e b = k (suc n) p i u e b

no_rule : NoneIsBroken []
no_rule zero p i u e b = absurd cc
no_rule (suc n) p i u e b = absurd cc

-- a rule of each module is broken in one of them
in_module : (modules : List ModuleFields) (test : ℕ → ModuleFields → Test ℕ) (p i : ℕ)
    → BrokenIn (each_part modules test) p i
    → (m : ModuleFields) × (slice_get modules p ≡ Some m) × BrokenAt (test p m) i
in_module modules test p i b =
    let m = inside modules p b.0 in
    (m.0, m.1, subst (λ o. BrokenAt (within_or test never p o) i) m.1 b.1)

-- and one of each item at one of these
at_item : {A : Type 0} (xs : List A) (f : A → Bool) (i : ℕ) → BrokenAt (at_each xs f) i
    → (x : A) × (slice_get xs i ≡ Some x) × (f x ≡ true)
at_item xs f i b = let x = inside xs i b.0 in (x.0, x.1, sym (ap (passes f) x.1) ∙ b.1)

-- ---- the parts of modules

-- something holds of each module
abbrev EachModule : List ModuleFields → (ℕ → ModuleFields → Type 0) → Type 0
EachModule modules P = (i : ℕ) (m : ModuleFields) → slice_get modules i ≡ Some m → P i m

-- the tests of rules, within a module
abbrev name_test : List ModuleFields → ℕ → ModuleFields → Test ℕ
name_test modules i m = at_each (take i modules) (same_module m)

abbrev main_test : List ModuleFields → ℕ → ModuleFields → Test ℕ
main_test modules i m = once (has_main m && list_any has_main (take i modules)) (main_rank m)

abbrev stack_test : List ModuleFields → ℕ → ModuleFields → Test ℕ
stack_test modules i m = once (not (m.stack == stack_base_of modules)) m.stack

-- the part of an index says of names and the stack what the component of a module says
pub record IsOf (parts : List PartSeen) (k : ℕ) (m : ModuleFields) : Type 0 where
  pub part : PartSeen
  pub is : slice_get parts k ≡ Some part
  pub same : SaysSame (compiled m) part.component

-- the name of a component is that of its module
name_is : (m : ModuleFields) → (compiled m).name ≡ m.name.text
unfolding component_of
name_is m = refl

base_is : (m : ModuleFields) → (compiled m).stack_base ≡ m.stack
unfolding component_of
base_is m = refl

module _ (parts : List PartSeen) (size : ℕ) (rules : NoneIsBroken (rules_l parts size)) where
  -- L3
  names_apart : (k l : ℕ) (p q : PartSeen) → l < k → slice_get parts k ≡ Some p → slice_get parts l ≡ Some q
      → same_name p.component.name q.component.name ≡ false
  unfolding l3
  names_apart k l p q lt is other =
      let within = slice_get_within parts k p is in
      let long = taken k parts (omega (arith, within)) in
      let few : l < length (take k parts) = omega (arith, lt, long) in
      let f : PartSeen → Bool = λ r. same_name p.component.name r.component.name in
      let none : passes f (slice_get (take k parts) l) ≡ false =
      in_part parts (λ i r. at_each (take i parts) (λ s. same_name r.component.name s.component.name)) never k
      p l
      is (λ b. rules 3 k l (l3 parts) refl (within, b)) few in
      sym (ap (passes f) (slice_get-take parts k l lt ∙ other)) ∙ none

  -- parts of one name are one
  one_part : (k l : ℕ) (p q : PartSeen) → slice_get parts k ≡ Some p → slice_get parts l ≡ Some q
      → p.component.name ≡ q.component.name → p ≡ q
  one_part k l p q is other same = elim (cases_lt k l) as (λ _. p ≡ q) [
    | inl lt ↦ absurd (apart_not l k q p lt other is (sym same))
    | inr le ↦ elim (cases_lt l k) as (λ _. p ≡ q) [
      | inl lt ↦ absurd (apart_not k l p q lt is other same)
      | inr ge ↦ here (omega (arith, le, ge))
    ]
  ]
    where
      apart_not : (k l : ℕ) (p q : PartSeen) → l < k → slice_get parts k ≡ Some p → slice_get parts l ≡ Some q
          → p.component.name ≡ q.component.name → ⊥
      apart_not k l p q lt is other same =
          false_not (same_name p.component.name q.component.name)
          ((bytes_eq-Decides p.component.name q.component.name).1 same) (names_apart k l p q lt is other)

      here : k ≡ l → p ≡ q
      here e = let both : Some p ≡ Some q = sym is ∙ ap (slice_get parts) e ∙ other in cc

  part_name : (k : ℕ) (m : ModuleFields) (o : IsOf parts k m) → o.part.component.name ≡ m.name.text
  part_name k m o = o.same.name ∙ name_is m

  -- the exports of a module's part that pass a test are the procedures that do
  any_export : (g : List ℕ → Bool → Bool) (k : ℕ) (m : ModuleFields) (o : IsOf parts k m)
      → list_any (λ e. g e.name e.shared) o.part.component.exports
      ≡ list_any (λ p. g p.name.text p.shared) m.procs
  any_export g k m o = ap (list_any (λ e. g e.name e.shared)) o.same.exports ∙ exports_any g m

  module _ (modules : List ModuleFields) (at : ℕ → ℕ)
      (rises : (i j : ℕ) → i < j → j < length modules → at i < at j)
      (there : EachModule modules (λ i m. IsOf parts (at i) m))
      (differ : EachModule modules (λ i m. NamesDiffer (part_of m).procs)) where
    names_kept : Unbroken (names_differ modules)
    unfolding names_differ
    names_kept = record { none = apart }
      where
        apart : (p i : ℕ) → BrokenIn (each_part modules (name_test modules)) p i → ⊥
        apart p i b =
            let m = in_module modules (name_test modules) p i b in
            let q = at_item (take p modules) (same_module m.0) i m.2 in
            let low = taken_get modules p i q.0 q.1 in
            let o = there p m.0 m.1 in
            let u = there i q.0 low.1 in
            let lower = rises i p low.0 (slice_get_within modules p m.0 m.1) in
            let same = part_name (at p) m.0 o ∙ (bytes_eq-Decides m.0.name.text q.0.name.text).0 q.2
            ∙ sym (part_name (at i) q.0 u) in
            false_not (same_name o.part.component.name u.part.component.name)
            ((bytes_eq-Decides o.part.component.name u.part.component.name).1 same)
            (names_apart (at p) (at i) o.part u.part lower o.is u.is)

    -- what an import from one of the modules means
    record Means (i k : ℕ) (m q : ModuleFields) (x : ModuleImport) : Type 0 where
      importer : IsOf parts (at i) m
      import : Import
      there_is : slice_get importer.part.component.imports k ≡ Some import
      index : ℕ
      from : IsOf parts index q
      export : Export
      means : imported parts import ≡ Some (exported_by from.part export)
      place : ℕ
      is : slice_get from.part.component.exports place ≡ Some export
      named : bytes_eq export.name x.name.text ≡ true

    import_means : (i k : ℕ) (m q : ModuleFields) (x : ModuleImport) → slice_get modules i ≡ Some m
        → slice_get m.imports k ≡ Some x → module_named modules x.part.text ≡ Some q → Means i k m q x
    import_means i k m q x is im found =
        by_part (part_named parts y.import.part) refl
        (imports_found parts size rules (at i) k o.part y.import o.is here)
      where
        o : IsOf parts (at i) m
        o = there i m is

        y : HasImport (compiled m).imports k x
        y = import_there m k x im

        here : slice_get o.part.component.imports k ≡ Some y.import
        here = ap (λ is. slice_get is k) o.same.imports ∙ y.at

        test : Export → Bool
        test = λ e. same_name e.name y.import.name

        by_export : (r : PartSeen) (e : Option Export) → part_named parts y.import.part ≡ Some r
            → find test r.component.exports ≡ e → IsSome (option_map (exported_by r) e) → Means i k m q x
        by_export r None named none h = absurd cc
        by_export r (Some e) named some h =
            let f = find_is (λ p. same_name p.component.name y.import.part) parts r named in
            let g = find_is (λ n. bytes_eq n.name.text x.part.text) modules q found in
            let u = there g.0 q g.1 in
            let named_q : q.name.text ≡ x.part.text = (bytes_eq-Decides q.name.text x.part.text).0 g.2 in
            let named_r : r.component.name ≡ y.import.part =
            (bytes_eq-Decides r.component.name y.import.part).0 f.2 in
            let one : r ≡ u.part =
            one_part f.0 (at g.0) r u.part f.1 u.is
            (named_r ∙ y.part ∙ sym named_q ∙ sym (part_name (at g.0) q u)) in
            let t = find_is test r.component.exports e some in
            record {
              importer = o;
              import = y.import;
              there_is = here;
              index = at g.0;
              from = u;
              export = e;
              means = ap (option_and_then (export_that test)) named ∙ ap (option_map (exported_by r)) some
                  ∙ ap (λ s. Some (exported_by s e)) one;
              place = t.0;
              is = sym (ap (λ (s : PartSeen). slice_get s.component.exports t.0) one) ∙ t.1;
              named = sym (ap (same_name e.name) y.name) ∙ t.2;
            }

        by_part : (r : Option PartSeen) → part_named parts y.import.part ≡ r
            → IsSome (option_and_then (export_that test) r) → Means i k m q x
        by_part None e h = absurd cc
        by_part (Some r) e h = by_export r (find test r.component.exports) e refl h

    imports_found_kept : Unbroken (imports_are_there modules)
    unfolding imports_are_there
    imports_found_kept = record { none = there_all }
      where
        missing : ModuleImport → Bool
        missing = λ x. is_missing (module_named modules x.part.text) x.name.text

        by_module : (i k : ℕ) (m : ModuleFields) (x : ModuleImport) (o : Option ModuleFields)
            → slice_get modules i ≡ Some m → slice_get m.imports k ≡ Some x
            → module_named modules x.part.text ≡ o → is_missing o x.name.text ≡ true → ⊥
        by_module i k m x None is im found h = absurd cc
        by_module i k m x (Some q) is im found h =
            let e = import_means i k m q x is im found in
            let es = e.from.part.component.exports in
            let any = any_passes_from_place (λ d. bytes_eq d.name x.name.text) es e.place e.export e.is
            e.named in
            let procs = sym (any_export (λ a b. bytes_eq a x.name.text) e.index q e.from) ∙ any in
            false_not (is_none (proc_named q.procs x.name.text)) h (named_any x.name.text q.procs procs)

        there_all : (p i : ℕ) → BrokenIn (each_part modules (λ i m. at_each m.imports missing)) p i → ⊥
        there_all p i b =
            let m = in_module modules (λ i m. at_each m.imports missing) p i b in
            let x = at_item m.0.imports missing i m.2 in
            by_module p i m.0 x.0 (module_named modules x.0.part.text) m.1 x.1 refl x.2

    imports_shared_kept : Unbroken (imports_are_shared modules)
    unfolding imports_are_shared l5
    imports_shared_kept = record { none = shared_all }
      where
        -- the part's rule L5 of the same import
        or_own : (i k : ℕ) (m q : ModuleFields) (x : ModuleImport) (e : Means i k m q x)
            → (e.export.shared || same_name e.from.part.component.name e.importer.part.component.name) ≡ true
        or_own i k m q x e =
            let o = e.importer in
            let f : Import → Bool = λ y. is_private_in o.part (imported parts y) in
            let within = slice_get_within parts (at i) o.part o.is in
            let none : passes f (slice_get o.part.component.imports k) ≡ false =
            in_part parts (λ j r. at_each r.component.imports (λ y. is_private_in r (imported parts y))) never
            (at i) o.part k o.is (λ b. rules 5 (at i) k (l5 parts) refl (within, b))
            (slice_get_within o.part.component.imports k e.import e.there_is) in
            not-false _ (sym (ap (is_private_in o.part) e.means) ∙ sym (ap (passes f) e.there_is) ∙ none)

        by_shared : (i k : ℕ) (m q : ModuleFields) (x : ModuleImport) (p : Proc) (e : Means i k m q x)
            (b : Bool)
            → e.export.shared ≡ b → NamesDiffer (part_of q).procs → proc_named q.procs x.name.text ≡ Some p
            → p.shared ≡ false → same_module q m ≡ false → ⊥
        by_shared i k m q x p e true s differs named unshared other =
            let both : (bytes_eq e.export.name x.name.text && e.export.shared) ≡ true =
            (let a = e.named in rw (a, s) refl) in
            let es = e.from.part.component.exports in
            let any = any_passes_from_place (λ d. bytes_eq d.name x.name.text && d.shared) es e.place
            e.export e.is both in
            let procs = sym (any_export (λ a c. bytes_eq a x.name.text && c) e.index q e.from) ∙ any in
            false_not (list_any (λ r. bytes_eq r.name.text x.name.text && r.shared) q.procs) procs
            (none_is_shared q x.name.text 0 q.procs p differs named unshared)
        by_shared i k m q x p e false s differs named unshared other =
            let own = or_own i k m q x e in
            let same : same_name e.from.part.component.name e.importer.part.component.name ≡ true =
            let names = same_name e.from.part.component.name e.importer.part.component.name in
            sym (ap (λ t. t || names) s) ∙ own in
            let texts = sym (part_name e.index q e.from)
            ∙ (bytes_eq-Decides e.from.part.component.name e.importer.part.component.name).0 same
            ∙ part_name (at i) m e.importer in
            false_not (same_module q m) ((bytes_eq-Decides q.name.text m.name.text).1 texts) other

        by_proc : (i k : ℕ) (m q : ModuleFields) (x : ModuleImport) (o : Option Proc)
            → slice_get modules i ≡ Some m → slice_get m.imports k ≡ Some x
            → module_named modules x.part.text ≡ Some q
            → proc_named q.procs x.name.text ≡ o → is_unshared o ≡ true → same_module q m ≡ false → ⊥
        by_proc i k m q x None is im found named h other = absurd cc
        by_proc i k m q x (Some p) is im found named h other =
            let e = import_means i k m q x is im found in
            let g = find_is (λ n. bytes_eq n.name.text x.part.text) modules q found in
            by_shared i k m q x p e e.export.shared refl (differ g.0 q g.1) named (not-true p.shared h) other

        by_module : (i k : ℕ) (m : ModuleFields) (x : ModuleImport) (o : Option ModuleFields)
            → slice_get modules i ≡ Some m → slice_get m.imports k ≡ Some x
            → module_named modules x.part.text ≡ o → is_private m o x.name.text ≡ true → ⊥
        by_module i k m x None is im found h = absurd cc
        by_module i k m x (Some q) is im found h =
            let b = and_parts (is_unshared (proc_named q.procs x.name.text)) (not (same_module q m)) h in
            let other = not-true (same_module q m) b.1 in
            by_proc i k m q x (proc_named q.procs x.name.text) is im found refl b.0 other

        private_one : ModuleFields → ModuleImport → Bool
        private_one = λ m x. is_private m (module_named modules x.part.text) x.name.text

        test : ℕ → ModuleFields → Test ℕ
        test = λ i m. at_each m.imports (private_one m)

        shared_all : (p i : ℕ) → BrokenIn (each_part modules test) p i → ⊥
        shared_all p i b =
            let m = in_module modules test p i b in
            let x = at_item m.0.imports (private_one m.0) i m.2 in
            by_module p i m.0 x.0 (module_named modules x.0.part.text) m.1 x.1 refl x.2

    one_main_kept : Unbroken (one_main modules)
    unfolding one_main l6
    one_main_kept = record { none = one_all }
      where
        main_named : List ℕ → Bool → Bool
        main_named = λ a b. b && bytes_eq a (codes "main")

        part_main : (k : ℕ) (m : ModuleFields) (o : IsOf parts k m) → has_main m ≡ true
            → part_has_main o.part ≡ true
        part_main k m o h = any_export main_named k m o ∙ h

        second : (i j : ℕ) (m q : ModuleFields) → slice_get modules i ≡ Some m → slice_get modules j ≡ Some q
            → j < i → has_main m ≡ true → has_main q ≡ true → ⊥
        second i j m q is other lt h g =
            let o = there i m is in
            let u = there j q other in
            let e = any_is is_main o.part.component.exports (part_main (at i) m o h) in
            let before = any_settled part_has_main parts (at i) (at j) u.part u.is
            (rises j i lt (slice_get_within modules i m is)) (part_main (at j) q u g) in
            let within = slice_get_within parts (at i) o.part o.is in
            let f : Export → Bool = λ d. is_main d && list_any part_has_main (take (at i) parts) in
            let none : passes f (slice_get o.part.component.exports e.0) ≡ false =
            in_part parts
            (λ k r. at_each r.component.exports (λ d. is_main d && list_any part_has_main (take k parts)))
            (once (not (list_any part_has_main parts)) 0) (at i) o.part e.0 o.is
            (λ b. rules 6 (at i) e.0 (l6 parts) refl (omega (arith, within), b))
            (slice_get_within o.part.component.exports e.0 e.1 e.2) in
            let both : (is_main e.1 && list_any part_has_main (take (at i) parts)) ≡ true =
            (let a = e.3 in rw (a, before) refl) in
            false_not (f e.1) both (sym (ap (passes f) e.2) ∙ none)

        one_all : (p i : ℕ)
            → BrokenIn (each_part modules (main_test modules)) p i → ⊥
        one_all p i b =
            let m = in_module modules (main_test modules) p i b in
            let h = and_parts (has_main m.0) (list_any has_main (take p modules)) m.2.1 in
            let q = any_is has_main (take p modules) h.1 in
            let low = taken_get modules p q.0 q.1 q.2 in
            second p q.0 m.0 q.1 m.1 low.1 low.0 h.0 q.3

    base_of : (i : ℕ) (m : ModuleFields) → slice_get modules i ≡ Some m → m.stack ≡ parts_base parts
    base_of i m is =
        let o = there i m is in
        sym (base_is m) ∙ sym o.same.stack_base ∙ stack_bases parts size rules (at i) o.part o.is

    first_base : (ms : List ModuleFields) → EachModule ms (λ i m. m.stack ≡ parts_base parts)
        → 0 < length ms → stack_base_of ms ≡ parts_base parts
    first_base [] h lt = absurd (omega arith)
    first_base (m ∷ ms) h lt = h 0 m refl

    stacks_kept : Unbroken (stacks_agree modules)
    unfolding stacks_agree
    stacks_kept = record { none = agree }
      where
        self : (n : ℕ) → (n == n) ≡ true
        self n = grind (arith, nat_tests)

        agree : (p i : ℕ) → BrokenIn (each_part modules (stack_test modules)) p i → ⊥
        agree p i b =
            let m = in_module modules (stack_test modules) p i b in
            let lt = slice_get_within modules p m.0 m.1 in
            let same = base_of p m.0 m.1 ∙ sym (first_base modules base_of (omega (arith, lt))) in
            false_not (not (m.0.stack == stack_base_of modules)) m.2.1
            (ap (λ n. not (n == stack_base_of modules)) same ∙ ap not (self (stack_base_of modules)))

    in_place : stack_is_in_place modules size ≡ true
    in_place =
        let h = parts_fit parts size rules in
        let b = and_parts (is_stack_size size) (nat_le (parts_base parts + size) 1048576) h in
        by_modules modules base_of b.0 b.1
      where
        by_modules : (ms : List ModuleFields)
            → EachModule ms (λ i m. m.stack ≡ parts_base parts) → is_stack_size size ≡ true
            → nat_le (parts_base parts + size) 1048576 ≡ true
            → stack_is_in_place ms size ≡ true
        by_modules [] h fits ends =
            let e : nat_le (0 + size) 1048576 ≡ true = grind (arith, nat_tests) in
            rw (fits, e) refl
        by_modules (m ∷ ms) h fits ends = let e = h 0 m refl in rw (fits, e, ends) refl

    stack_kept : Unbroken (stack_fits modules size)
    unfolding stack_fits
    stack_kept = record { none = λ p i b. by_module p i (slice_get modules p) b.1 }
      where
        by_module : (p i : ℕ) (o : Option ModuleFields)
            → BrokenAt (within_or (λ i m. never) (once (not (stack_is_in_place modules size)) size) p o) i → ⊥
        by_module p i None b = false_not (not (stack_is_in_place modules size)) b.1 (ap not in_place)
        by_module p i (Some m) b = let lt = b.0 in omega (arith, lt)

    none_broken : NoneIsBroken (module_rules modules size)
    none_broken =
        let sixth = stack_fits modules size ∷ [] in
        let fifth = stacks_agree modules ∷ sixth in
        let fourth = one_main modules ∷ fifth in
        let third = imports_are_shared modules ∷ fourth in
        let second = imports_are_there modules ∷ third in
        more_unbroken (names_differ modules) second names_kept
        (more_unbroken (imports_are_there modules) third imports_found_kept
        (more_unbroken (imports_are_shared modules) fourth imports_shared_kept
        (more_unbroken (one_main modules) fifth one_main_kept
        (more_unbroken (stacks_agree modules) sixth stacks_kept
        (more_unbroken (stack_fits modules size) [] stack_kept no_rule)))))

    ok_of : (r : Result (Unit {0}) _) → IsFirstBrokenIn told_as (module_rules modules size) r → r ≡ Ok tt
    ok_of (Ok u) h = refl
    ok_of (Err report) h = absurd (none_broken h.number h.part h.index h.test h.is h.broken)

    pub rules_kept : ruled modules size ≡ Ok tt
    unfolding ruled
    rules_kept = ok_of _ (first_broken_in told_as (module_rules modules size))

-- modules whose components are among parts that link
pub kept : (parts : List PartSeen) (size : ℕ) (modules : List ModuleFields)
    → NoneIsBroken (rules_l (placed parts size) size) → AreAmong modules parts
    → EachModule modules (λ i m. NamesDiffer (part_of m).procs) → ruled modules size ≡ Ok tt
kept parts size modules rules among differ =
    rules_kept (placed parts size) size rules modules among.at among.rises there differ
  where
    there : EachModule modules (λ i m. IsOf (placed parts size) (among.at i) m)
    there i m is =
        let p = among.there i m is in
        let q = still_there parts size (among.at i) p.0 p.1 in
        record { part = q.0; is = q.1; same = subst (λ c. SaysSame c q.0.component) p.2 q.2 }
