use Rattle.run_picture.proofs.Stands.{columns_rise, heights_fall, cuts_are_higher, frames_end_at_cuts}
use Rattle.run_picture.proofs.laws.lines_and_addresses_are_seen.Goals as goal

pub returns : goal.returns
returns c = record {
  columns = columns_rise;
  heights = heights_fall;
  cuts = cuts_are_higher;
  frames = frames_end_at_cuts;
}
