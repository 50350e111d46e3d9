use Rattle.run_picture.proofs.Open.{areas_are_free, boxes_nest, boxes_follow}
use Rattle.run_picture.proofs.laws.open_calls_are_seen.Goals as goal

pub returns : goal.returns
returns c = record { areas = areas_are_free; nest = boxes_nest; follow = boxes_follow }
