-- That the refined meaning tells more than the meaning.
use Rattle.std.specs.Prelude.{◌≡◌, ◌≢◌, ℕ, List}
use Rattle.source_events.specs.declared.Item.{Item}
use Rattle.source_events.specs.declared.End.TheVariants.{Waiting}
use Rattle.proc_semantics.specs.Values.{World}
use Rattle.proc_semantics.specs.Meaning.{meaning}
use Rattle.proc_semantics.specs.Marked.{refined}

-- two lists of modules and a feed, of which both tell the same events and wait; their refined meanings tell
-- other words, by which the one and the other calls
pub record ToldApart : Type 0 where
  pub one : World
  pub other : World
  pub stack : ℕ
  pub feed : List Item
  pub fuel : ℕ
  pub waits : (meaning one stack feed fuel).end ≡ Waiting
  pub waits_too : (meaning other stack feed fuel).end ≡ Waiting
  pub same_events : (meaning one stack feed fuel).events ≡ (meaning other stack feed fuel).events
  pub apart : (refined one stack feed fuel).events ≢ (refined other stack feed fuel).events
