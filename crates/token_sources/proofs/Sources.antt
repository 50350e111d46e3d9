-- From the module of a source to the one with tokens that its text spells.
use Rattle.std.proofs.Common.{◌≡◌, refl, ◌∙◌, ap, subst, ℕ, List, [], ◌∷◌, map}
use Rattle.std.proofs.lemmas.List.Elements.{All-nil, All-cons}
use Rattle.std.specs.Prelude.{Ok}
use Rattle.proc_language.specs.declared.module.ModuleFields.{ModuleFields}
use Rattle.proc_language.specs.declared.dialect.Dialect.{Dialect}
use Rattle.token_language.specs.Erased.{erased}
use Rattle.proc_sources.specs.Sources.{module_in}
use Rattle.token_semantics.specs.Law.{IsAccepted, TokensAreSpent}
use Rattle.token_sources.specs.Law.{IsLeft, Source, module_of, spelled_of, AreLeft, MeanAsErased}

-- the module of each source is what is left of an accepted one
abbrev pub EachIsLeft : Type 0
EachIsLeft = (d : Dialect) (text : List ℕ) (m : ModuleFields) → module_in d text ≡ Ok m → IsLeft d text m

module _ (each : EachIsLeft) where
  listed : (sources : List Source) (modules : List ModuleFields)
      → map module_of sources ≡ map (λ m. Ok m) modules → AreLeft sources modules
  listed [] [] e = record { tokens = []; spelled = refl; left = refl; accepted = All-nil IsAccepted }
  listed [] (m ∷ modules) e = absurd (cc)
  listed (s ∷ sources) [] e = absurd (cc)
  listed (s ∷ sources) (m ∷ modules) e =
      let first : module_of s ≡ Ok m = cc in
      let others : map module_of sources ≡ map (λ m. Ok m) modules = cc in
      let one = each s.language s.text m first in
      let rest = listed sources modules others in
      record {
        tokens = one.tokens ∷ rest.tokens;
        spelled = ap (λ r. r ∷ map spelled_of sources) one.spelled
            ∙ ap (λ rs. Ok one.tokens ∷ rs) rest.spelled;
        left = ap (λ l. l ∷ map erased rest.tokens) one.left ∙ ap (λ ls. m ∷ ls) rest.left;
        accepted = All-cons IsAccepted one.tokens rest.tokens one.accepted rest.accepted;
      }

  pub all_are_left : TokensAreSpent → (sources : List Source) (modules : List ModuleFields)
      → map module_of sources ≡ map (λ m. Ok m) modules
      → (these : AreLeft sources modules) × MeanAsErased these.tokens modules
  all_are_left spent sources modules e =
      let l = listed sources modules e in
      (l, subst (MeanAsErased l.tokens) l.left (spent l.tokens l.accepted))
