-- What linking parts gives: the first broken rule, and there is one.
use Rattle.std.proofs.Common.{◌≡◌, ℕ, List, refl, subst, map}
use Rattle.std.specs.Prelude.{Result, Ok, Err}
use Rattle.component_check.specs.Verdict.{check_from}
use Rattle.linked_starts.specs.declared.fault.RuleAt.{RuleAt}
use Rattle.linked_starts.specs.declared.fault.LinkFault.{LinkFault}
use Rattle.linked_starts.specs.declared.fault.LinkFault.TheVariants.{Rule}
use Rattle.linked_starts.specs.Answer.{AnswersParts}
use Rattle.linked_starts.specs.Pairs.{IsFirstIn, IsFirstBrokenIn, NoneIsBroken, by_part}
use Rattle.linked_starts.specs.Links.{rules_of_link, rule_at}
use Rattle.linked_starts.specs.Standing.{placed}
use Rattle.linked_starts.specs.Parts.{PartSeen}
use Rattle.linked_starts.proofs.Offers.{first_broken_in, one_first_in}
use Rattle.link_tool.specs.Parts.{linked}

same_err : {A E : Type 0} (a b : E) → a ≡ b → (let r : Result A E = Err a in r) ≡ Err b
same_err a b e = cc

pub linked_is : (parts : List PartSeen) (size : ℕ)
    → IsFirstBrokenIn rule_at (rules_of_link (placed parts size) size) (linked parts size)
unfolding linked
linked_is parts size = first_broken_in rule_at (rules_of_link (placed parts size) size)

pub linked_none : (parts : List PartSeen) (size : ℕ) → NoneIsBroken (rules_of_link (placed parts size) size)
    → linked parts size ≡ Ok tt
unfolding linked
linked_none parts size none = by_check (check_from rule_at 1
    (map by_part (rules_of_link (placed parts size) size)))
    (first_broken_in rule_at (rules_of_link (placed parts size) size))
  where
    by_check : (c : Result (Unit {0}) RuleAt)
        → IsFirstBrokenIn rule_at (rules_of_link (placed parts size) size) c → c ≡ Ok tt
    by_check (Ok u) f = refl
    by_check (Err b) f = absurd (none f.number f.part f.index f.test f.is f.broken)

pub linked_first : (parts : List PartSeen) (size : ℕ) (b : RuleAt)
    → IsFirstIn rule_at (rules_of_link (placed parts size) size) b → linked parts size ≡ Err b
unfolding linked
linked_first parts size b h = by_check (check_from rule_at 1
    (map by_part (rules_of_link (placed parts size) size)))
    (first_broken_in rule_at (rules_of_link (placed parts size) size))
  where
    by_check : (c : Result (Unit {0}) RuleAt)
        → IsFirstBrokenIn rule_at (rules_of_link (placed parts size) size) c → c ≡ Err b
    by_check (Ok u) f = absurd (f h.number h.part h.index h.test h.is h.broken)
    by_check (Err d) f = same_err d b (one_first_in rule_at (rules_of_link (placed parts size) size) d b f h)

-- what linking refuses, as what the rules tried in their order give
pub linked_broken : (parts : List PartSeen) (size : ℕ) (f : LinkFault) (b : RuleAt) → f ≡ Rule b
    → AnswersParts parts size (Err f) → linked parts size ≡ Err b
linked_broken parts size f b e h = let k : AnswersParts parts size (Err (Rule b)) =
    subst (λ x. AnswersParts parts size (Err x)) e h in linked_first parts size b k
