-- What a module's limits leave to its parts, and what names lead to is there.
use Rattle.std.proofs.Common.{◌≡◌, ℕ, ◌*◌, ◌<◌, ◌≤◌, Bool, List, [], ◌∷◌, length, ◌++◌, append_assoc}
use Rattle.std.proofs.Common.{true, false, refl, Option, Some, None, IfSome, unwrap_or, arith}
use Rattle.std.specs.Prelude.{position, if◌then◌else◌}
use Rattle.std.proofs.lemmas.List.Sums.{sum_by-take-le, sum_by-cons}
use Rattle.std.proofs.lemmas.List.Quantifiers.{position-Some}
use Rattle.proc_language.specs.declared.tree.Name.{Name}
use Rattle.proc_language.specs.declared.module.Global.{Global}
use Rattle.proc_language.specs.declared.module.Param.{Param}
use Rattle.proc_language.specs.declared.module.Proc.{Proc}
use Rattle.proc_language.specs.declared.module.ModuleFields.{ModuleFields}
use Rattle.proc_language.specs.Limits.{Each, GlobalFits, LengthFits, param_registers, params_registers}
use Rattle.proc_names.specs.declared.scope.Variable.TheVariants as named
use Rattle.proc_names.specs.declared.scope.Callee.TheVariants as called
use Rattle.proc_names.specs.Names.{or_else, is_callback, is_array, param_at, global_at, variable_named}
use Rattle.proc_names.specs.Names.{callee_named, passed_named}
use Rattle.proc_program.specs.Lower.{words, words_in, first_word_of, param_place}
use Rattle.proc_program.specs.Limits.{VariableWithin, CalleeWithin}

-- ---- globals and parameters

pub words_before : (gs : List Global) (k : ℕ) → first_word_of gs k ≤ words_in gs
words_before gs k = sum_by-take-le words gs k

pub registers_before : (params : List Param) (i : ℕ) → param_place params i ≤ params_registers params
registers_before params i = sum_by-take-le (λ p. param_registers p.arity) params i

words_le : (g : Global) → GlobalFits g → words g ≤ 4096
words_le g fits = by g.length fits.1
  where
    by : (length : Option ℕ) → IfSome length LengthFits → unwrap_or length 1 ≤ 4096
    by None h = omega arith
    by (Some n) h = h.1

pub words_in_le : (gs : List Global) → Each GlobalFits gs → words_in gs ≤ 4096 * length gs
words_in_le [] fits = omega arith
words_in_le (g ∷ gs) fits =
    omega (arith, sum_by-cons words g gs, words_le g fits.0, words_in_le gs fits.1)

pub one_more : {A : Type 0} (xs : List A) (x : A) (ys : List A) → (xs ++ x ∷ []) ++ ys ≡ xs ++ (x ∷ ys)
one_more xs x ys = append_assoc xs (x ∷ []) ys

-- ---- names

position_within : {A : Type 0} (test : A → Bool) (xs : List A) (i : ℕ) → position test xs ≡ Some i
    → i < length xs
position_within test [] i e = cc
position_within test (x ∷ xs) i e = (position-Some test (x ∷ xs) i x e).0

-- what an index leads to, where one is found
by_index : {A V : Type 0} (P : V → Type 0) (test : A → Bool) (xs : List A) (found : ℕ → V) (rest : V)
    → ((i : ℕ) → i < length xs → P (found i)) → P rest → P (or_else (position test xs) found rest)
by_index P test xs found rest h r = by (position test xs) refl
  where
    by : (o : Option ℕ) → position test xs ≡ o → P (or_else o found rest)
    by None e = r
    by (Some i) e = h i (position_within test xs i e)

module _ (m : ModuleFields) (p : Proc) where
  param_within : (i : ℕ) → i < length p.params → VariableWithin m p (param_at p.params i)
  param_within i h = by (is_callback p.params i)
    where
      by : (b : Bool) → VariableWithin m p (if b then named.Other else named.Param i)
      by true = tt
      by false = h

  global_within : (k : ℕ) → k < length m.globals → VariableWithin m p (global_at m.globals k)
  global_within k h = by (is_array m.globals k)
    where
      by : (b : Bool) → VariableWithin m p (if b then named.Array k else named.Global k)
      by true = h
      by false = h

  other_variable : (b : Bool) → VariableWithin m p (if b then named.Other else named.Missing)
  other_variable true = tt
  other_variable false = tt

  other_callee : (b : Bool) → CalleeWithin m p (if b then called.Other else called.Missing)
  other_callee true = tt
  other_callee false = tt

  pub variable_within : (x : Name) → VariableWithin m p (variable_named m p x)
  unfolding variable_named
  variable_within x =
      by_index (VariableWithin m p) _ p.params _ _ param_within
      (by_index (VariableWithin m p) _ p.locals _ _ (λ k h. h)
      (by_index (VariableWithin m p) _ m.globals _ _ global_within (other_variable _)))

  pub callee_within : (f : Name) → CalleeWithin m p (callee_named m p f)
  unfolding callee_named
  callee_within f =
      by_index (CalleeWithin m p) _ p.params _ _ (λ i h. h)
      (by_index (CalleeWithin m p) _ m.imports _ _ (λ k h. h)
      (by_index (CalleeWithin m p) _ m.procs _ _ (λ j h. h) (other_callee _)))

  pub passed_within : (f : Name) → CalleeWithin m p (passed_named m p f)
  unfolding passed_named
  passed_within f =
      by_index (CalleeWithin m p) _ p.params _ _ (λ i h. h)
      (by_index (CalleeWithin m p) _ m.imports _ _ (λ k h. h)
      (by_index (CalleeWithin m p) _ m.procs _ _ (λ j h. h) (other_callee _)))
