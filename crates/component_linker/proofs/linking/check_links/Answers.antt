use Rattle.std.proofs.Common.{ℕ, List, Result, Ok, Err}
use Rattle.std.specs.Prelude.{OnOk}
use Rattle.linked_starts.specs.Pairs.{PairTest, IsFirstBrokenIn, NoneIsBroken}
use Rattle.linked_starts.specs.declared.pairs.PartPlace.{PartPlace}
use Rattle.linked_starts.specs.Links.{l10, rules_l, rules_of_link, rule_at}
use Rattle.linked_starts.proofs.Offers.{are_linked, goes_on, others_kept, parts_apart}
use Rattle.component_linker.proofs.linking.check_links.Goals as goal

ok_only : {E : Type 0} (told : ℕ → PartPlace → E) (rules : List PairTest) (L : Type 0)
    (r : Result (Unit {0}) E) → IsFirstBrokenIn told rules r → (NoneIsBroken rules → L) → OnOk r L
ok_only told rules L (Ok u) h f = f h
ok_only told rules L (Err e) h f = tt

pub returns-clause-first : goal.returns-clause-first
returns-clause-first c = goes_on c.args.parts.now c.args.stack _ c.requires c.try_rules.ensures

pub returns-clause-linked : goal.returns-clause-linked
returns-clause-linked c =
    ok_only rule_at (rules_of_link c.args.parts.now c.args.stack) _ _ (returns-clause-first c)
    (λ none. are_linked c.args.parts.now c.args.stack c.are_kept.ensures
    (others_kept (l10 c.args.parts.now) (rules_l c.args.parts.now c.args.stack) none))

pub returns-clause-apart : goal.returns-clause-apart
returns-clause-apart c =
    ok_only rule_at (rules_of_link c.args.parts.now c.args.stack) _ _ (returns-clause-first c)
    (λ none. parts_apart c.args.parts.now c.args.stack c.are_kept.ensures
    (others_kept (l10 c.args.parts.now) (rules_l c.args.parts.now c.args.stack) none))
