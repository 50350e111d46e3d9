use Rattle.std.proofs.Common.{List, ℕ}
use Rattle.std.specs.Prelude.{Result, Ok, Err}
use Rattle.outside_io.specs.FilesSeen.{FilesSeen}
use Rattle.linked_starts.specs.Started.{StartSeen}
use Rattle.file_plans.specs.declared.refusal.Stop.{Stop}
use Rattle.file_plans.specs.declared.refusal.Refusal.TheVariants.{Image}
use Rattle.file_plans.specs.Plans.{file, unless, Comes}
use Rattle.link_tool.specs.Parts.{loaded}
use Rattle.link_tool.specs.Linked.{image_plan, FollowsStart, MeetsStart}
use Rattle.file_plans.proofs.Offers.{follows_meets}
use Rattle.link_tool.proofs.starts.link_image.Goals as goal

-- the file came, and loading it gave this
start_follows : (name bytes : List ℕ) (old new : FilesSeen) (r : Result StartSeen Stop)
    → Comes (file name 0) old (Ok bytes) new → MeetsStart (unless Image (loaded bytes)) r
    → FollowsStart (image_plan name) old r new
unfolding image_plan
start_follows name bytes old new (Ok s) c m =
    (m.0, follows_meets (file name 0) (λ b. unless Image (loaded b)) old new bytes (Ok m.0) c m.1, m.2)
start_follows name bytes old new (Err stop) c m =
    follows_meets (file name 0) (λ b. unless Image (loaded b)) old new bytes (Err stop) c m

pub returns : goal.returns
returns g c = start_follows c.args.name.now c.in_ok-bytes.bytes _ _ c.load.result c.in_ok-bytes.ensures.came
    (rw c.as_slice.ensures at c.load.ensures.start)
