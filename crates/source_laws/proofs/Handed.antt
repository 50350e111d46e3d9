-- What parameters take from registers, by the first of them.
use Rattle.std.proofs.Common.{◌≡◌, ℕ, ◌+◌, ℤ, List, [], ◌∷◌, ◌++◌, append_assoc, Option, Some, None, Bool}
use Rattle.std.proofs.Common.{true, false, refl, ap, ◌∙◌}
use Rattle.std.specs.Prelude.{option_map}
use Rattle.std.proofs.lemmas.List.Sums.{sum_by-cons}
use Rattle.proc_program.specs.Limits.{register_count, registers_of}
use Rattle.proc_semantics.specs.declared.value.Pair.{Pair}
use Rattle.proc_semantics.specs.declared.value.Value.{Value}
use Rattle.proc_semantics.specs.declared.value.Value.TheVariants.{Num, Closure, Other}
use Rattle.proc_semantics.specs.declared.value.Register.{Register}
use Rattle.proc_semantics.specs.Values.{first_of, rest_of, if_there, taken}

-- how many places parameters take, and registers
abbrev pub width : Bool → ℕ
width true = 2
width false = 1

abbrev pub places : List Bool → ℕ
places [] = 0
places (b ∷ bs) = width b + places bs

pub places_are : (bs : List Bool) → registers_of bs ≡ places bs
places_are [] = refl
places_are (false ∷ bs) = sum_by-cons register_count false bs ∙ ap (λ n. 1 + n) (places_are bs)
places_are (true ∷ bs) = sum_by-cons register_count true bs ∙ ap (λ n. 2 + n) (places_are bs)

abbrev pub then_hold : Value → Option (List Value) → Option (List Value)
then_hold v None = None
then_hold v (Some vs) = Some (v ∷ vs)

abbrev pub number_first : Option ℤ → Option (List Value) → Option (List Value)
number_first None vs = None
number_first (Some v) vs = then_hold (Num v) vs

abbrev pub pair_first : Option Pair → Option (List Value) → Option (List Value)
pair_first None vs = None
pair_first (Some p) vs = then_hold (Closure p) (then_hold Other vs)

abbrev pub handed : List Bool → List Register → Option (List Value)
handed [] rs = Some []
handed (false ∷ ps) rs = number_first (first_of rs).number (handed ps (rest_of rs))
handed (true ∷ ps) rs = pair_first (first_of rs).pair (handed ps (rest_of (rest_of rs)))

append-nothing : (env : List Value) → env ≡ env ++ []
append-nothing [] = refl
append-nothing (v ∷ env) = ap (λ vs. v ∷ vs) (append-nothing env)

behind_number : (env : List Value) (v : ℤ) (o : Option (List Value))
    → option_map (λ vs. (env ++ Num v ∷ []) ++ vs) o ≡ option_map (λ vs. env ++ vs) (then_hold (Num v) o)
behind_number env v None = refl
behind_number env v (Some vs) = ap Some (append_assoc env (Num v ∷ []) vs)

behind_pair : (env : List Value) (p : Pair) (o : Option (List Value))
    → option_map (λ vs. ((env ++ Closure p ∷ []) ++ Other ∷ []) ++ vs) o ≡ option_map
    (λ vs. env ++ vs) (then_hold (Closure p) (then_hold Other o))
behind_pair env p None = refl
behind_pair env p (Some vs) =
    ap Some (append_assoc (env ++ Closure p ∷ []) (Other ∷ []) vs
    ∙ append_assoc env (Closure p ∷ []) (Other ∷ vs))

pub taken_is : (env : List Value) (ps : List Bool) (rs : List Register)
    → taken env ps rs ≡ option_map (λ vs. env ++ vs) (handed ps rs)
taken_is env [] rs = ap Some (append-nothing env)
taken_is env (false ∷ ps) rs = by (first_of rs).number (λ v. taken_is (env ++ Num v ∷ []) ps (rest_of rs))
  where
    by : (o : Option ℤ) → ((v : ℤ)
        → taken (env ++ Num v ∷ []) ps (rest_of rs) ≡ option_map
        (λ vs. (env ++ Num v ∷ []) ++ vs) (handed ps (rest_of rs)))
        → if_there o (λ v. taken (env ++ Num v ∷ []) ps (rest_of rs)) ≡ option_map
        (λ vs. env ++ vs) (number_first o (handed ps (rest_of rs)))
    by None f = refl
    by (Some v) f = f v ∙ behind_number env v (handed ps (rest_of rs))
taken_is env (true ∷ ps) rs = by (first_of rs).pair
    (λ p. taken_is ((env ++ Closure p ∷ []) ++ Other ∷ []) ps (rest_of (rest_of rs)))
  where
    by : (o : Option Pair)
        → ((p : Pair) → taken ((env ++ Closure p ∷ []) ++ Other ∷ []) ps (rest_of (rest_of rs)) ≡ option_map
        (λ vs. ((env ++ Closure p ∷ []) ++ Other ∷ []) ++ vs) (handed ps (rest_of (rest_of rs))))
        → if_there o (λ p. taken ((env ++ Closure p ∷ []) ++ Other ∷ []) ps (rest_of (rest_of rs)))
        ≡ option_map (λ vs. env ++ vs) (pair_first o (handed ps (rest_of (rest_of rs))))
    by None f = refl
    by (Some p) f = f p ∙ behind_pair env p (handed ps (rest_of (rest_of rs)))

same_option : (o : Option (List Value)) → option_map (λ vs. [] ++ vs) o ≡ o
same_option None = refl
same_option (Some vs) = refl

pub taken_handed : (ps : List Bool) (rs : List Register) → taken [] ps rs ≡ handed ps rs
taken_handed ps rs = taken_is [] ps rs ∙ same_option (handed ps rs)
