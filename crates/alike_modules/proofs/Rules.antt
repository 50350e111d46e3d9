-- Lists of modules that are alike keep the same rules.
use Rattle.std.proofs.Common.{◌≡◌, refl, ◌∙◌, ap, sym, ℕ, ◌+◌, ◌==◌, Bool, ◌&&◌, not}
use Rattle.std.proofs.Common.{List, [], ◌∷◌, map, take, Option, Some, None, codes}
use Rattle.std.specs.Prelude.{slice_get, option_map, is_none, nat_le}
use Rattle.cap_words.specs.declared.TheConstants.{LAST_PLACE}
use Rattle.linked_starts.specs.Regions.{is_stack_size}
use Rattle.std.specs.List.{list_any, take-map}
use Rattle.std.specs.Str.{bytes_eq}
use Rattle.std.proofs.lemmas.List.{length-map}
use Rattle.std.proofs.lemmas.Option.{slice_get-map}
use Rattle.component_check.specs.Places.{Test, plainly}
use Rattle.component_check.specs.Verdict.{check_from}
use Rattle.component_file.specs.Limits.{name_lt}
use Rattle.linked_starts.specs.Pairs.{by_part, never, once, passes, at_each, within_or, each_part}
use Rattle.linked_starts.specs.Pairs.{each_part_then}
use Rattle.proc_language.specs.declared.module.Proc.{Proc}
use Rattle.proc_language.specs.declared.module.ModuleFields.{ModuleFields}
use Rattle.proc_language.specs.Unplaced.{unplaced_import, unplaced_proc, unplaced}
use Rattle.proc_program.specs.Lower.{part_of}
use Rattle.module_rules.specs.Rules.{same_name, names_differ, module_named, proc_named, is_missing}
use Rattle.module_rules.specs.Rules.{imports_are_there, is_unshared, is_private, imports_are_shared, is_main}
use Rattle.module_rules.specs.Rules.{has_main, main_rank, one_main, stack_base_of, stacks_agree}
use Rattle.module_rules.specs.Rules.{stack_is_in_place, stack_fits, told_as, ruled}
use Rattle.alike_modules.specs.Alike.{AreAlike}
use Rattle.alike_modules.proofs.Lists.{any_of, count_of, found_of}
use Rattle.alike_modules.proofs.Programs.{part_alike}

-- ---- rules of lists whose items were changed

module _ {A : Type 0} (g : A → A) where
  passed_of : (b b' : A → Bool) → ((x : A) → b' (g x) ≡ b x) → (x : Option A)
      → passes b' (option_map g x) ≡ passes b x
  passed_of b b' e None = refl
  passed_of b b' e (Some x) = e x

  each_of : (xs : List A) (b b' : A → Bool) → ((x : A) → b' (g x) ≡ b x) →
      at_each (map g xs) b' ≡ at_each xs b
  each_of xs b b' e = λ i. plainly (length-map xs g i) (λ k. at k i)
    where
      at : (k : ℕ) → passes b' (slice_get (map g xs) k) ≡ passes b (slice_get xs k)
      at k = ap (passes b') (slice_get-map g xs k) ∙ passed_of b b' e (slice_get xs k)

  module _ (t t' : ℕ → A → Test ℕ) (e : (k : ℕ) (x : A) → t' k (g x) ≡ t k x)
      (all all' : Test ℕ) (d : all' ≡ all) where
    inside : (k : ℕ) (x : Option A) → within_or t' all' k (option_map g x) ≡ within_or t all k x
    inside k None = d
    inside k (Some x) = e k x

    within_of : (xs : List A) (k : ℕ)
        → within_or t' all' k (slice_get (map g xs) k) ≡ within_or t all k (slice_get xs k)
    within_of xs k = ap (within_or t' all' k) (slice_get-map g xs k) ∙ inside k (slice_get xs k)

  parts_of : (xs : List A) (t t' : ℕ → A → Test ℕ) → ((k : ℕ) (x : A) → t' k (g x) ≡ t k x)
      → each_part (map g xs) t' ≡ each_part xs t
  parts_of xs t t' e = λ i. record {
    parts = length-map xs g i;
    within = λ k. within_of t t' e never never refl xs k i;
  }

  parts_then_of : (xs : List A) (t t' : ℕ → A → Test ℕ) → ((k : ℕ) (x : A) → t' k (g x) ≡ t k x)
      → (all all' : Test ℕ) → all' ≡ all → each_part_then (map g xs) t' all' ≡ each_part_then xs t all
  parts_then_of xs t t' e all all' d = λ i. record {
    parts = length-map xs g i + 1;
    within = λ k. within_of t t' e all all' d xs k i;
  }

-- ---- the rules

names_alike : (ms : List ModuleFields) → names_differ (map unplaced ms) ≡ names_differ ms
unfolding names_differ
names_alike ms =
    parts_of unplaced ms _ (λ k m. at_each (take k (map unplaced ms)) (same_name m)) (λ k m.
    ap (λ before. at_each before (same_name (unplaced m))) (take-map unplaced k ms)
    ∙ each_of unplaced (take k ms) (same_name m) (same_name (unplaced m)) (λ x. refl))

none_of : {A B : Type 0} (g : A → B) (x : Option A) → is_none (option_map g x) ≡ is_none x
none_of g None = refl
none_of g (Some x) = refl

unshared_alike : (x : Option Proc) → is_unshared (option_map unplaced_proc x) ≡ is_unshared x
unshared_alike None = refl
unshared_alike (Some p) = refl

module _ (name : List ℕ) where
  proc_named_alike : (ps : List Proc) →
      proc_named (map unplaced_proc ps) name ≡ option_map unplaced_proc (proc_named ps name)
  proc_named_alike ps = found_of unplaced_proc (λ p. bytes_eq p.name.text name) ps

  module_named_alike : (ms : List ModuleFields)
      → module_named (map unplaced ms) name ≡ option_map unplaced (module_named ms name)
  module_named_alike ms = found_of unplaced (λ m. bytes_eq m.name.text name) ms

  missing_alike : (x : Option ModuleFields) → is_missing (option_map unplaced x) name ≡ is_missing x name
  missing_alike None = refl
  missing_alike (Some m) = ap is_none (proc_named_alike m.procs) ∙
      none_of unplaced_proc (proc_named m.procs name)

  private_alike : (m : ModuleFields) (x : Option ModuleFields)
      → is_private (unplaced m) (option_map unplaced x) name ≡ is_private m x name
  private_alike m None = refl
  private_alike m (Some other) =
      ap (λ b. b && not (same_name other m))
      (ap is_unshared (proc_named_alike other.procs) ∙ unshared_alike (proc_named other.procs name))

there_alike : (ms : List ModuleFields) → imports_are_there (map unplaced ms) ≡ imports_are_there ms
unfolding imports_are_there
there_alike ms =
    parts_of unplaced ms _ _ (λ k m. each_of unplaced_import m.imports _ _ (λ x.
    ap (λ found. is_missing found x.name.text) (module_named_alike x.part.text ms)
    ∙ missing_alike x.name.text (module_named ms x.part.text)))

shared_alike : (ms : List ModuleFields) → imports_are_shared (map unplaced ms) ≡ imports_are_shared ms
unfolding imports_are_shared
shared_alike ms =
    parts_of unplaced ms _ _ (λ k m. each_of unplaced_import m.imports _ _ (λ x.
    ap (λ found. is_private (unplaced m) found x.name.text) (module_named_alike x.part.text ms)
    ∙ private_alike x.name.text m (module_named ms x.part.text)))

has_main_alike : (m : ModuleFields) → has_main (unplaced m) ≡ has_main m
has_main_alike m = any_of unplaced_proc is_main m.procs

rank_alike : (m : ModuleFields) → main_rank (unplaced m) ≡ main_rank m
rank_alike m = count_of unplaced_proc (λ p. name_lt p.name.text (codes "main")) m.procs

before_alike : (ms : List ModuleFields) (k : ℕ)
    → list_any has_main (take k (map unplaced ms)) ≡ list_any has_main (take k ms)
before_alike ms k =
    ap (list_any has_main) (take-map unplaced k ms) ∙ any_of unplaced has_main (take k ms)
    ∙ ap (λ test. list_any test (take k ms)) (λ i. λ x. has_main_alike x i)

main_alike : (ms : List ModuleFields) → one_main (map unplaced ms) ≡ one_main ms
unfolding one_main
main_alike ms =
    parts_of unplaced ms _ _ (λ k m. λ i. once (has_main_alike m i && before_alike ms k i) (rank_alike m i))

pub base_alike : (ms : List ModuleFields) → stack_base_of (map unplaced ms) ≡ stack_base_of ms
base_alike [] = refl
base_alike (m ∷ ms) = refl

stacks_alike : (ms : List ModuleFields) → stacks_agree (map unplaced ms) ≡ stacks_agree ms
unfolding stacks_agree
stacks_alike ms =
    parts_of unplaced ms _ _ (λ k m. λ i. once (not (m.stack == base_alike ms i)) m.stack)

fits_alike : (ms : List ModuleFields) (size : ℕ) → stack_fits (map unplaced ms) size ≡ stack_fits ms size
unfolding stack_fits
fits_alike ms size =
    parts_then_of unplaced ms (λ k m. never) (λ k m. never) (λ k m. refl) _ _
    (λ i. once (not (in_place i)) size)
  where
    in_place : stack_is_in_place (map unplaced ms) size ≡ stack_is_in_place ms size
    in_place = ap (λ base. is_stack_size size && nat_le (base + size) (LAST_PLACE + 1)) (base_alike ms)

rules_alike : (ms : List ModuleFields) (size : ℕ) → ruled (map unplaced ms) size ≡ ruled ms size
unfolding ruled
rules_alike ms size = λ i.
    check_from told_as 1 (map by_part (
    names_alike ms i ∷ there_alike ms i ∷ shared_alike ms i ∷ main_alike ms i ∷ stacks_alike ms i
    ∷ fits_alike ms size i ∷ []))

pub same_rules : (ms ns : List ModuleFields) (size : ℕ) → AreAlike ms ns → ruled ms size ≡ ruled ns size
same_rules ms ns size h = sym (rules_alike ms size) ∙ ap (λ xs. ruled xs size) h ∙ rules_alike ns size

pub same_base : (ms ns : List ModuleFields) → AreAlike ms ns → stack_base_of ms ≡ stack_base_of ns
same_base ms ns h = sym (base_alike ms) ∙ ap stack_base_of h ∙ base_alike ns

parts_alike : (ms : List ModuleFields) → map part_of (map unplaced ms) ≡ map part_of ms
parts_alike [] = refl
parts_alike (m ∷ ms) = λ i. part_alike m i ∷ parts_alike ms i

pub same_programs : (ms ns : List ModuleFields) → AreAlike ms ns → map part_of ms ≡ map part_of ns
same_programs ms ns h = sym (parts_alike ms) ∙ ap (map part_of) h ∙ parts_alike ns
