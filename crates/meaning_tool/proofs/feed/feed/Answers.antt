use Rattle.file_plans.specs.Plans.{file, unless}
use Rattle.file_plans.proofs.Offers.{follows_meets}
use Rattle.line_fields.specs.Feed.{fed}
use Rattle.meaning_tool.specs.Subjects.{unfed, feed_at}
use Rattle.meaning_tool.proofs.feed.feed.Goals as goal

pub returns : goal.returns
unfolding feed_at
returns g c =
    follows_meets (file c.args.name.now c.args.index) (λ text. unless unfed (fed c.args.base text)) _ _
    c.in_ok-text.text c.items.result
    c.in_ok-text.ensures.came (rw c.as_slice.ensures at c.items.ensures)
