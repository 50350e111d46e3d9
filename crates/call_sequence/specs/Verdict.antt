-- What is answered of the flow of a component's code.
use Rattle.std.specs.Prelude.{◌≡◌, ℕ, suc, ◌⊎◌, length, Result, Ok, Err}
use Rattle.std.specs.Result.{result_and}
use Rattle.component_file.specs.declared.component.ComponentFields.{ComponentFields}
use Rattle.component_check.specs.declared.rule.Broken.{Broken}
use Rattle.component_check.specs.declared.rule.Group.TheVariants.{K}
use Rattle.component_check.specs.RuleText.{broken_at}
use Rattle.component_check.specs.Verdict.{NoneBroken, IsFirst, check_from}
use Rattle.call_sequence.specs.declared.flow.Walk.{Walk}
use Rattle.call_sequence.specs.declared.flow.Walk.TheVariants.{Before as before, Ended as ended}
use Rattle.call_sequence.specs.declared.flow.Walk.TheVariants.{Broken as broken}
use Rattle.call_sequence.specs.Lists.{lists}
use Rattle.call_sequence.specs.Walk.{Arrives, walk}

-- no rule of the flow is broken: the lists keep theirs, and the walk comes to its end
pub record IsKept (c : ComponentFields) : Type 0 where
  pub placed : NoneBroken (lists c)
  pub walked : Arrives c ended

-- the lists keep their rules, and the walk breaks one there
pub record BreaksOff (c : ComponentFields) (b : Broken) : Type 0 where
  pub placed : NoneBroken (lists c)
  pub number : ℕ
  pub place : ℕ
  pub comes : Arrives c (broken number place)
  pub reported : b ≡ broken_at K number place

-- that no rule is broken, or the first that is: the lists come before the walk
abbrev pub IsFirstOfFlow : ComponentFields → Result (Unit {0}) Broken → Type 0
IsFirstOfFlow c (Ok u) = IsKept c
IsFirstOfFlow c (Err b) = IsFirst (broken_at K) (lists c) b ⊎ BreaksOff c b

-- what the walk comes to
abbrev pub WalksTo : ComponentFields → Result (Unit {0}) Broken → Type 0
WalksTo c (Ok u) = Arrives c ended
WalksTo c (Err b) =
    (number : ℕ) × (place : ℕ) × Arrives c (broken number place) × (b ≡ broken_at K number place)

-- ---- the same as a function

-- what a walk has found broken where it stands
abbrev pub found_by : Walk → Result (Unit {0}) Broken
found_by (before o current) = Ok tt
found_by ended = Ok tt
found_by (broken number place) = Err (broken_at K number place)

-- the rules of the lists, and then the walk, which has come to its end after one step more than there are
-- words
unfoldable pub flow_answer : ComponentFields → Result (Unit {0}) Broken
flow_answer c = result_and (check_from (broken_at K) 1 (lists c)) (found_by (walk c (suc (length c.code))))
