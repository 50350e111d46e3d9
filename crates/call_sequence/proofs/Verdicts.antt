-- The lists and the walk together.
use Rattle.std.proofs.Common.{◌≡◌, inl, inr, Result, Ok, Err, sym, subst}
use Rattle.component_file.specs.declared.component.ComponentFields.{ComponentFields}
use Rattle.component_check.specs.declared.rule.Broken.{Broken}
use Rattle.component_check.specs.declared.rule.Group.TheVariants.{K}
use Rattle.component_check.specs.RuleText.{broken_at}
use Rattle.component_check.specs.Verdict.{check_from, NoneBroken, IsFirstBroken}
use Rattle.component_check.proofs.Offers.{first_broken}
use Rattle.call_sequence.specs.Lists.{lists}
use Rattle.call_sequence.specs.Verdict.{IsFirstOfFlow, WalksTo}

tried : (c : ComponentFields) (r : Result (Unit {0}) Broken) → r ≡ check_from (broken_at K) 1 (lists c)
    → IsFirstBroken (broken_at K) (lists c) r
tried c r e = subst (IsFirstBroken (broken_at K) (lists c)) (sym e) (first_broken (broken_at K) (lists c))

-- a rule of the lists is broken
pub lists_broken : (c : ComponentFields) (r : Result (Unit {0}) Broken) (b : Broken)
    → r ≡ check_from (broken_at K) 1 (lists c) → r ≡ Err b → IsFirstOfFlow c (Err b)
lists_broken c r b e m = inl (subst (IsFirstBroken (broken_at K) (lists c)) m (tried c r e))

pub lists_kept : (c : ComponentFields) (r : Result (Unit {0}) Broken) (u : Unit {0})
    → r ≡ check_from (broken_at K) 1 (lists c) → r ≡ Ok u → NoneBroken (lists c)
lists_kept c r u e m = subst (IsFirstBroken (broken_at K) (lists c)) m (tried c r e)

-- none is, and the walk decides
pub walk_decides : (c : ComponentFields) (r : Result (Unit {0}) Broken) → NoneBroken (lists c) → WalksTo c r
    → IsFirstOfFlow c r
walk_decides c (Ok u) h w = record { placed = h; walked = w }
walk_decides c (Err b) h w =
    inr (record { placed = h; number = w.0; place = w.1; comes = w.2; reported = w.3 })
