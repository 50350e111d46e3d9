use Rattle.std.proofs.Common.{◌+◌, Some, ◌∙◌, ap, refl, sym, subst, arith, rules}
use Rattle.std.specs.Int.{w64}
use Rattle.std.proofs.lemmas.Int.{to_z-of_z}
use Rattle.lcm_machine.specs.declared.End.TheVariants.{Failed as AtFailure}
use Rattle.lcm_machine.specs.Ends.{Meets}
use Rattle.lcm_machine.specs.Row.{step_of}
use Rattle.lcm_machine.specs.declared.Step.TheVariants.{Halted, Failed}
use Rattle.lcm_machine.specs.Run.{Run, plain}
use Rattle.lcm_machine.specs.Within.{is_of}
use Rattle.lcm_machine.proofs.RunLemmas.{Making, making_none, making_went, making_ended, each_next}
use Rattle.lcm_machine.proofs.RunLemmas.{none_ended, none_of}
use Rattle.std.specs.Prelude.{is_some}
use Rattle.lcm_machine.proofs.machine.LcmState.go.Goals as goal

pub loop-made-init : goal.loop-made-init
loop-made-init c = making_none c.args.which c.args.self.now (search rules)

pub returns-then-is_some-clause-stops : goal.returns-then-is_some-clause-stops
returns-then-is_some-clause-stops c = λ lt. none_ended c.args.which c.args.self.now (search rules)

pub loop-made-preserved : goal.loop-made-preserved
loop-made-preserved c =
    let s = c.self-in-loop-made.inside in
    let t : Run = record { maps = s.maps; count = s.count; end = s.end } in
    let k = subst (Making c.args.which c.args.self.now c.loop-made.made) (sym c.self-in-loop-made.view_is)
    c.loop-made.invariant in
    let m = subst (λ r. Meets s.maps (step_of (λ w. w) (λ w. w) s.maps) r c.advance.new.self)
    c.in-Some-Went.field-0-is c.in-Some-Went.ensures.meets in
    making_went c.args.which c.args.self.now c.loop-made.made t (record t { maps = c.advance.new.self }) k m
    refl c.in-Some-Went.ensures.some

pub returns-in-Some-Halted : goal.returns-in-Some-Halted
returns-in-Some-Halted c =
    let s = c.self-in-loop-made.inside in
    let t : Run = record { maps = s.maps; count = s.count; end = s.end } in
    let k = subst (Making c.args.which c.args.self.now c.loop-made.made) (sym c.self-in-loop-made.view_is)
    c.loop-made.invariant in
    let m = subst (λ r. Meets s.maps (step_of (λ w. w) (λ w. w) s.maps) r c.advance.new.self)
    c.in-Some-Halted.field-0-is c.in-Some-Halted.ensures.meets in
    let lt = c.loop-made-test.true in
    let all = c.finish.ensures.all in
    record {
      after = making_ended c.args.which c.args.self.now c.loop-made.made t
          (record t { maps = c.advance.new.self }) c.finish.new.self Halted k
          m refl c.finish.ensures.ended
          ∙ ap (λ k. plain k c.args.self.now) (sym all);
      most = omega (arith, lt, all);
      made = rw all
          (each_next c.args.which c.args.self.now c.loop-made.made t k c.in-Some-Halted.ensures.some);
      stops = λ less. none_ended c.args.which c.finish.new.self
          (ap (λ (r : Run). is_some r.end) c.finish.ensures.ended);
    }

pub returns-in-Some-Failed : goal.returns-in-Some-Failed
returns-in-Some-Failed c =
    let s = c.self-in-loop-made.inside in
    let t : Run = record { maps = s.maps; count = s.count; end = s.end } in
    let k = subst (Making c.args.which c.args.self.now c.loop-made.made) (sym c.self-in-loop-made.view_is)
    c.loop-made.invariant in
    let m = subst (λ r. Meets s.maps (step_of (λ w. w) (λ w. w) s.maps) r c.advance.new.self)
    c.in-Some-Failed.field-0-is c.in-Some-Failed.ensures.meets in
    let at = to_z-of_z w64 c.in-Some-Failed.at (search rules) in
    let lt = c.loop-made-test.true in
    let all = c.finish-in-Some-Failed.ensures.all in
    record {
      after = making_ended c.args.which c.args.self.now c.loop-made.made t
          (record t { maps = c.advance.new.self }) c.finish-in-Some-Failed.new.self
          (Failed c.in-Some-Failed.cause c.in-Some-Failed.at) k m refl (c.finish-in-Some-Failed.ensures.ended
          ∙ ap (λ z. let r : Run = record {
            maps = c.advance.new.self;
            count = s.count + c.loop-made.made + 1;
            end = Some (AtFailure c.in-Some-Failed.cause z);
          } in r) at)
          ∙ ap (λ k. plain k c.args.self.now) (sym all);
      most = omega (arith, lt, all);
      made = rw all
          (each_next c.args.which c.args.self.now c.loop-made.made t k c.in-Some-Failed.ensures.some);
      stops = λ less. none_ended c.args.which c.finish-in-Some-Failed.new.self
          (ap (λ (r : Run). is_some r.end) c.finish-in-Some-Failed.ensures.ended);
    }

pub returns-in-None-clause-stops : goal.returns-in-None-clause-stops
returns-in-None-clause-stops c = λ lt.
    let s = c.self-in-loop-made.inside in
    none_of c.args.which
    (record { maps = c.advance.new.self; count = s.count + c.loop-made.made; end = s.end })
    (ap (is_of (λ w. w) c.args.which) c.in-None.ensures.same ∙ c.in-None.ensures.none)
