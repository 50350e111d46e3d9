use Rattle.std.proofs.Common.{inl}
use Rattle.lcm_cli.proofs.top.give.Goals as goal

pub returns-in-Run : goal.returns-in-Run
returns-in-Run g c = rw c.in-Run.is (inl (c.give_run.ensures _))

pub returns-in-Generate : goal.returns-in-Generate
returns-in-Generate g c =
    rw c.in-Generate.is
    (inl (rw c.load_steps.ensures.is at (c.give_load.ensures (g.F.Files.seen c.args.files.now))))

pub returns-in-Debug : goal.returns-in-Debug
returns-in-Debug g c = rw c.in-Debug.is (c.give_debug.ensures _ _)

pub returns-in-Trace : goal.returns-in-Trace
returns-in-Trace g c = rw c.in-Trace.is (inl (c.give_trace.ensures _ _))

pub returns-in-Put : goal.returns-in-Put
returns-in-Put g c = rw c.in-Put.is (inl (c.give_file.ensures _))
