use Rattle.std.proofs.Common.{arith}
use Rattle.run_lines.specs.Layout.{layout}
use Rattle.run_lines.specs.Runs.{written}
use Rattle.drawn_runs.specs.Drawn.{text_of}
use Rattle.drawn_runs.proofs.Lines.{begins}
use Rattle.drawn_runs.proofs.Dark.{dark_there}
use Rattle.drawn_runs.proofs.laws.dark_is_left_alone.Goals as goal

pub returns-clause-alone : goal.returns-clause-alone
returns-clause-alone c = λ parts size s is steps n a t.
    (let fits = c.lines_fit.ensures.lines parts size s is in
    let b = begins c.lines_are_read.ensures.exact c.lines_are_read.ensures.fitting (layout s) s.state
    steps n t.within (fits steps) (fits n) in
    let seen = c.lines_and_addresses_are_seen.ensures in
    let k = dark_there seen.cuts seen.heights seen.frames (text_of s steps) (written s n) b
    (c.boxes_are_open_calls.ensures.boxes parts size s is steps n t.within) a t.dark in (
      k.told,
      k.is_open,
      k.over,
      (c.open_calls_are_kept.ensures.kept parts size s is).alone n a k.told
          (record {
            goes = t.goes;
            is_open = k.is_open;
            low = k.low;
            high = k.high;
            touches = t.touches;
          }),
    ))

pub returns-clause-of_some : goal.returns-clause-of_some
returns-clause-of_some c =
    let there = c.open_calls_are_kept.ensures.of_a_use in
    let used = there.used in
    record {
      parts = there.parts;
      size = there.size;
      start = there.start;
      linked = there.linked;
      steps = there.n;
      n = there.n;
      address = there.address;
      touched = record {
        within = omega arith;
        goes = used.goes;
        dark = (c.boxes_are_open_calls.ensures.dark there.parts there.size there.start there.linked there.n
            there.n there.address (omega arith)).1
            (there.told, used.is_open, used.low, used.high);
        touches = used.touches;
      };
    }
