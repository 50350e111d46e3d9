use Rattle.std.proofs.Common.{◌≡◌, ◌+◌, ◌-◌, ◌≤◌, length}
use Rattle.step_back.specs.Debug.{go_back}
use Rattle.step_back.proofs.debugger.Debugger.go_back.Given as goal

abbrev pub invariant-loop-made : goal.invariant-loop-made
invariant-loop-made l = record {
  left : go_back (l.n - l.made) l.self ≡ go_back l.n l.fn.self;
  count : l.self.now.count ≤ l.fn.self.now.count;
  made : l.made + length l.self.before ≡ length l.fn.self.before;
}
