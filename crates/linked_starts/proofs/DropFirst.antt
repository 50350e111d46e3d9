-- The rules that are tried at a link, L10 apart from the others.
use Rattle.std.proofs.Common.{◌≡◌, ℕ, zero, suc, List, [], ◌∷◌, map, Some, None, Result, ap, sym, subst, ◌∙◌}
use Rattle.component_check.specs.Verdict.{check_from, kept_or}
use Rattle.linked_starts.specs.declared.pairs.PartPlace.{PartPlace}
use Rattle.linked_starts.specs.declared.fault.RuleAt.{RuleAt}
use Rattle.linked_starts.specs.Parts.{PartSeen}
use Rattle.linked_starts.specs.Pairs.{PairTest, NoneIsBroken, IsFirstIn, IsFirstBrokenIn, by_part}
use Rattle.linked_starts.specs.Pairs.{first_in}
use Rattle.linked_starts.specs.Links.{l10, rules_l, rules_of_link, rule_at}
use Rattle.linked_starts.proofs.FirstIn.{first_broken_in}

pub others_kept : (t : PairTest) (ts : List PairTest) → NoneIsBroken (t ∷ ts) → NoneIsBroken ts
others_kept t ts h zero p i u e b = cc
others_kept t ts h (suc n) p i u e b = h (suc (suc n)) p i u e b

pub first_kept : (t : PairTest) (ts : List PairTest) → NoneIsBroken (t ∷ ts) → NoneIsBroken (t ∷ [])
first_kept t ts h zero p i u e b = cc
first_kept t ts h (suc zero) p i u e b = h 1 p i u e b
first_kept t ts h (suc (suc n)) p i u e b = cc

both_kept : (t : PairTest) (ts : List PairTest) → NoneIsBroken (t ∷ []) → NoneIsBroken ts
    → NoneIsBroken (t ∷ ts)
both_kept t ts h k zero p i u e b = cc
both_kept t ts h k (suc zero) p i u e b = h 1 p i u e b
both_kept t ts h k (suc (suc n)) p i u e b = k (suc n) p i u e b

pub keeps_all : (parts : List PartSeen) (size : ℕ) → NoneIsBroken (l10 parts ∷ [])
    → NoneIsBroken (rules_l parts size) → NoneIsBroken (rules_of_link parts size)
keeps_all parts size = both_kept (l10 parts) (rules_l parts size)

pub goes_on : (parts : List PartSeen) (size : ℕ) (r : Result (Unit {0}) RuleAt) → first_in (l10 parts) ≡ None
    → r ≡ check_from rule_at 2 (map by_part (rules_l parts size))
    → IsFirstBrokenIn rule_at (rules_of_link parts size) r
goes_on parts size r none is =
    subst (IsFirstBrokenIn rule_at (rules_of_link parts size))
    (ap (λ o. kept_or rule_at 1 o (check_from rule_at 2 (map by_part (rules_l parts size)))) none ∙ sym is)
    (first_broken_in rule_at (rules_of_link parts size))

pub breaks_first : (parts : List PartSeen) (size : ℕ) (at : PartPlace) → first_in (l10 parts) ≡ Some at
    → IsFirstIn rule_at (rules_of_link parts size) (rule_at 1 at)
breaks_first parts size at some =
    subst (IsFirstBrokenIn rule_at (rules_of_link parts size))
    (ap (λ o. kept_or rule_at 1 o (check_from rule_at 2 (map by_part (rules_l parts size)))) some)
    (first_broken_in rule_at (rules_of_link parts size))
