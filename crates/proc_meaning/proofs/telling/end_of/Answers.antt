use Rattle.std.proofs.Common.{◌-◌, ◌≤◌, ap, ◌∙◌, reverse, arith}
use Rattle.std.proofs.lemmas.List.{nil_from_length}
use Rattle.proc_meaning.specs.declared.work.Now.TheVariants as now
use Rattle.proc_semantics.specs.Meaning.{on_item}
use Rattle.proc_semantics.specs.Whole.{whole}
use Rattle.proc_meaning.specs.Rest.{ahead_of, waiting}
use Rattle.proc_meaning.proofs.Works.{kept}
use Rattle.proc_meaning.proofs.Ticking.{at_first, went, went_ticks, went_said, ran_out, stopped}
use Rattle.proc_meaning.proofs.Ticking.{none_left, took}
use Rattle.proc_meaning.proofs.telling.end_of.Goals as goal

pub loop-next-init : goal.loop-next-init
loop-next-init c =
    let le : c.args.fuel ≤ c.args.fuel = omega arith in
    (le, at_first c.args.events.now.items c.args.fuel _)

pub returns-then-left-ticks : goal.returns-then-left-ticks
returns-then-left-ticks c =
    let world = c.args.world.now in
    let same = c.in_ok-next.ensures.same
    ∙ ap (λ a. ahead_of world a c.turn.new.work.items c.turn.new.run c.turn.new.store.items)
    c.in-Ticked.is in
    ran_out c.args.fuel _ c.in-Ticked.ticks _ _ c.loop-next.events.items c.loop-next.left
    c.loop-next.coming.now c.if-left-ticks.true c.loop-next.invariant.0 same c.loop-next.invariant.1

pub loop-next-preserved-in-Ticked : goal.loop-next-preserved-in-Ticked
loop-next-preserved-in-Ticked c =
    let world = c.args.world.now in
    let same = c.in_ok-next.ensures.same
    ∙ ap (λ a. ahead_of world a c.turn.new.work.items c.turn.new.run c.turn.new.store.items)
    c.in-Ticked.is in
    let le : c.loop-next.left - c.in-Ticked.ticks ≤ c.args.fuel = omega
    (arith, c.loop-next.invariant.0) in (
      le,
      went_ticks c.args.fuel _ c.in-Ticked.ticks _ _ c.loop-next.events.items c.loop-next.left
          c.loop-next.coming.now c.if-left-ticks.false c.loop-next.invariant.0 same c.loop-next.invariant.1,
    )

pub loop-next-preserved-in-Free : goal.loop-next-preserved-in-Free
loop-next-preserved-in-Free c =
    let same = c.in_ok-next.ensures.same
    ∙ ap (λ a. ahead_of c.args.world.now a c.turn.new.work.items c.turn.new.run c.turn.new.store.items)
    c.in-Free.is in (
      c.loop-next.invariant.0,
      went c.args.fuel _ _ _ c.loop-next.events.items c.loop-next.left
          c.loop-next.coming.now same c.loop-next.invariant.1,
    )

pub loop-next-preserved-in-Said : goal.loop-next-preserved-in-Said
loop-next-preserved-in-Said c =
    let same = c.in_ok-next.ensures.same
    ∙ ap (λ a. ahead_of c.args.world.now a c.turn.new.work.items c.turn.new.run c.turn.new.store.items)
    c.in-Said.is in (
      c.loop-next.invariant.0,
      went_said c.args.fuel _ c.in-Said.event _ _ c.loop-next.events.items _
          c.loop-next.left c.loop-next.coming.now c.in_ok-push-in-Said.ensures.items same
          c.loop-next.invariant.1,
    )

pub returns-in-Stop : goal.returns-in-Stop
returns-in-Stop c =
    let same = c.in_ok-next.ensures.same
    ∙ ap (λ a. ahead_of c.args.world.now a c.turn.new.work.items c.turn.new.run c.turn.new.store.items)
    c.in-Stop.is in
    stopped c.args.fuel _ _ c.in-Stop.end c.loop-next.events.items c.loop-next.left c.loop-next.coming.now
    same c.loop-next.invariant.1

pub returns-in-None : goal.returns-in-None
returns-in-None c =
    let world = c.args.world.now in let items = c.turn.new.work.items in let st = c.turn.new.store.items in
    let same =
    c.in_ok-next.ensures.same ∙ ap (λ a. ahead_of world a items c.turn.new.run st) c.in-Asks.is in
    none_left c.args.fuel _ (on_item world (whole world) (waiting world (reverse items)) st) _
    c.loop-next.events.items c.loop-next.left c.loop-next.coming.now
    (nil_from_length c.loop-next.coming.now c.in-None.ensures.cases) same c.loop-next.invariant.1

pub loop-next-preserved : goal.loop-next-preserved
loop-next-preserved c =
    let world = c.args.world.now in let items = c.turn.new.work.items in let st = c.turn.new.store.items in
    let same =
    c.in_ok-next.ensures.same ∙ ap (λ a. ahead_of world a items c.turn.new.run st) c.in-Asks.is in (
      c.loop-next.invariant.0,
      took c.args.fuel _
          (on_item world (whole world) (waiting world (reverse items)) st) _ _ c.in-Some.item.now
          c.loop-next.events.items c.loop-next.left c.loop-next.coming.now c.in-Some.rest.now
          c.in-Some.ensures.cases.0 same (kept world (now.Take c.in-Some.item) items c.turn.new.run st)
          c.loop-next.invariant.1,
    )
