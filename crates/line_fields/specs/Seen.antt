-- What lines of a feed tell, field by field.
use Rattle.std.specs.Prelude.{ℕ, List}
use Rattle.source_events.specs.declared.FeedBack.{FeedBack}
use Rattle.source_events.specs.declared.FeedPair.{FeedPair}

-- PART EXPORT STK A0 A1 A2 A3 BACK
pub record EnterSeen : Type 0 where
  pub part : List ℕ
  pub name : List ℕ
  pub stk : List ℕ
  pub a0 : List ℕ
  pub a1 : List ℕ
  pub a2 : List ℕ
  pub a3 : List ℕ
  pub back : FeedBack

-- PART SITE BASE END A0 :
pub record RetSeen : Type 0 where
  pub part : List ℕ
  pub site : ℕ
  pub base : ℕ
  pub a0 : List ℕ

-- P0 P1 P2
pub record PassSeen : Type 0 where
  pub p0 : FeedPair
  pub p1 : FeedPair
  pub p2 : FeedPair
