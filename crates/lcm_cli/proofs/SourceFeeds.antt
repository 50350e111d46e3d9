-- The text of a run of sources as a feed of their meaning.
use Rattle.std.proofs.Common.{◌≡◌, ℕ, zero, suc, ◌<◌, List, [], ◌∷◌, length, Some, refl, ap, subst}
use Rattle.std.proofs.Common.{◌∙◌, arith, true, false}
use Rattle.std.specs.Prelude.{Bool, map, slice_get}
use Rattle.component_file.specs.declared.component.ComponentFields.{ComponentFields}
use Rattle.linked_starts.specs.Parts.{PartSeen}
use Rattle.proc_language.specs.declared.module.ModuleFields.{ModuleFields}
use Rattle.proc_language.specs.Limits.{Each}
use Rattle.proc_names.specs.NameFaults.{name_faults}
use Rattle.proc_templates.specs.Compiled.{compiled}
use Rattle.module_rules.specs.Among.{AreAmong, AreResolved}
use Rattle.source_starts.specs.Sources.{trusted_parts}

-- ---- the modules' components are among the parts

abbrev pub component_in : PartSeen → ComponentFields
component_in p = p.component

abbrev pub AreTrusted : List PartSeen → List ModuleFields → Type 0
AreTrusted parts modules = map component_in (trusted_parts parts) ≡ map compiled modules

same_head : (c d : ComponentFields) (cs ds : List ComponentFields) → c ∷ cs ≡ d ∷ ds → c ≡ d
same_head c d cs ds e = cc

same_tail : (c d : ComponentFields) (cs ds : List ComponentFields) → c ∷ cs ≡ d ∷ ds → cs ≡ ds
same_tail c d cs ds e = cc

same_module : (m n : ModuleFields) → Some m ≡ Some n → m ≡ n
same_module m n e = cc

-- a part that isn't trusted stands before them
among_behind : (p : PartSeen) (parts : List PartSeen) (modules : List ModuleFields) → AreAmong modules parts
    → AreAmong modules (p ∷ parts)
among_behind p parts modules r = record {
  at = λ i. suc (r.at i);
  rises = λ i j lt le. let h = r.rises i j lt le in omega (arith, h);
  there = λ i m g. r.there i m g;
}

-- the first module's part, and then the others
module _ (p : PartSeen) (m : ModuleFields) (is : p.component ≡ compiled m) (parts : List PartSeen)
    (modules : List ModuleFields) (r : AreAmong modules parts) where
  abbrev place : ℕ → ℕ
  place zero = zero
  place (suc i) = suc (r.at i)

  rises_so : (i j : ℕ) → i < j → j < length (m ∷ modules) → place i < place j
  rises_so zero zero lt le = absurd (omega (arith, lt))
  rises_so zero (suc j) lt le = omega arith
  rises_so (suc i) zero lt le = absurd (omega (arith, lt))
  rises_so (suc i) (suc j) lt le =
      let h = r.rises i j (omega (arith, lt)) (omega (arith, le)) in omega (arith, h)

  there_so : (i : ℕ) (n : ModuleFields) → slice_get (m ∷ modules) i ≡ Some n
      → (q : PartSeen) × (slice_get (p ∷ parts) (place i) ≡ Some q) × (q.component ≡ compiled n)
  there_so zero n g = (p, refl, is ∙ ap compiled (same_module m n g))
  there_so (suc i) n g = r.there i n g

  among_first : AreAmong (m ∷ modules) (p ∷ parts)
  among_first = record { at = place; rises = rises_so; there = there_so }

-- a part before others, of which it holds
among_by : (p : PartSeen) (ps : List PartSeen) (ms : List ModuleFields)
    → ((others : List ModuleFields) → AreTrusted ps others → AreAmong others ps) → (b : Bool) → p.trusted ≡ b
    → AreTrusted (p ∷ ps) ms → AreAmong ms (p ∷ ps)
among_by p ps ms rest false t e = among_behind p ps ms (rest ms (rw t at e))
among_by p ps [] rest true t e =
    absurd (let h : p.component ∷ map component_in (trusted_parts ps) ≡ [] = rw t at e in cc)
among_by p ps (m ∷ ms) rest true t e =
    let h : p.component ∷ map component_in (trusted_parts ps) ≡ compiled m ∷ map compiled ms = rw t at e in
    among_first p m (same_head p.component (compiled m) _ _ h) ps ms
    (rest ms (same_tail p.component (compiled m) _ _ h))

pub among : (parts : List PartSeen) (modules : List ModuleFields) → AreTrusted parts modules
    → AreAmong modules parts
among [] [] e = record { at = λ i. i; rises = λ i j lt le. lt; there = λ i m g. absurd (cc) }
among [] (m ∷ ms) e = absurd (cc)
among (p ∷ ps) ms e = among_by p ps ms (among ps) p.trusted refl e

-- ---- and their names are resolved

pub each_resolved : (ms : List ModuleFields) → Each (λ m. name_faults m ≡ []) ms → AreResolved ms
each_resolved [] h i m g = absurd (cc)
each_resolved (n ∷ ms) h zero m g = subst (λ x. name_faults x ≡ []) (same_module n m g) h.0
each_resolved (n ∷ ms) h (suc i) m g = each_resolved ms h.1 i m g
