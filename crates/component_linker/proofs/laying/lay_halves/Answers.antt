-- One word, and then the next.
use Rattle.lcm_machine.specs.declared.Place.TheVariants.{Cell}
use Rattle.lcm_machine.specs.Row.{put}
use Rattle.std.proofs.Common.{◌+◌}
use Rattle.linked_starts.specs.Laying.{single}
use Rattle.linked_starts.specs.Start.{code_half, data_half}
use Rattle.linked_starts.proofs.Offers.{lays_put, lays_two, still_there}
use Rattle.component_linker.proofs.laying.lay_halves.Goals as goal

pub set-requires-2 : goal.set-requires-2
set-requires-2 c =
    let s = c.args.state.now in
    rw c.set.ensures
    (still_there (single c.args.at c.of.result)
    s (record s { maps = put s.maps (Cell c.args.at) c.of.result }) (c.args.at + 1)
    (lays_put s c.args.at c.of.result) c.requires.second)

pub returns : goal.returns
returns c =
    rw (
      c.set-2.ensures,
      c.set.ensures,
      c.of-2.ensures,
      c.of.ensures,
      c.data_half.ensures,
      c.code_half.ensures,
    )
    (lays_two c.args.state.now c.args.at (code_half c.args.entry.now) (data_half c.args.entry.now))
