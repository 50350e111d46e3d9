use Rattle.std.proofs.Common.{◌+◌, ◌∙◌, sym, subst, arith}
use Rattle.std.specs.Prelude.{List, Result, Ok, Err, OnErr}
use Rattle.authority_report.specs.declared.set.Stretch.{Stretch}
use Rattle.authority_report.specs.Takes.{Takes, TakesFront}
use Rattle.authority_report.proofs.TakesLemmas.{takes_all, takes_as, takes_front, below_in, takes_more}
use Rattle.authority_report.proofs.set.PlaceSet.take_all.Goals as goal

on_err : {A E : Type 0} (r : Result A E) (P : Type 0) → P → OnErr r P
on_err (Ok x) P p = tt
on_err (Err e) P p = p

pub loop-from-preserved : goal.loop-from-preserved
loop-from-preserved c =
    let i = c.loop-from.invariant in
    let low = i.0 in
    let e = c.in-Some.ensures in
    let same = c.first_run.ensures.same in
    let w = e.within in
    let x = w.0 in
    let y = w.1 in
    let old = c.args.self.now in
    let left = c.args.left.now.items in
    let more = c.loop-from.left.items in
    let in_it = below_in c.args.base c.args.end c.loop-from.from in
    let run = c.in-Some.run' in
    let P : List Stretch → _ = λ rs. Takes (below_in c.args.base c.args.end (run.end + 1))
    old left c.take_run.new.self rs in (
      omega (arith, low, x, y),
      subst P (sym c.in_ok-push.ensures.items)
          (takes_more old left c.args.base c.args.end c.loop-from.from c.first_run.new.self more low
          (takes_as in_it old left c.loop-from.self more i.1 c.first_run.new.self same)
          run c.take_run.new.self w c.requires (λ a l h. same a ∙ e.before a l h)
          (λ a l h. same a ∙ e.free a l h) c.take_run.ensures),
    )

pub returns-in_default-clause-all : goal.returns-in_default-clause-all
returns-in_default-clause-all c =
    let e = c.in_default.ensures in
    takes_all c.args.self.now c.args.left.now.items c.args.base c.args.end c.loop-from.from c.loop-from.self
    c.first_run.new.self c.loop-from.left.items c.loop-from.invariant.0 c.loop-from.invariant.1 e.same e.none

pub returns-in_err-push-clause-front : goal.returns-in_err-push-clause-front
returns-in_err-push-clause-front c =
    let i = c.loop-from.invariant in
    let old = c.args.self.now in
    let left = c.args.left.now.items in
    let set = c.first_run.new.self in
    let in_it = below_in c.args.base c.args.end c.loop-from.from in
    let P : List Stretch → _ = λ rs. TakesFront c.args.base c.args.end old left set rs in
    on_err c.from_residual.result _ (subst P (sym c.in_err-push.ensures.items)
    (takes_front old left c.args.base c.args.end c.loop-from.from set c.loop-from.left.items i.0
    (takes_as in_it old left c.loop-from.self c.loop-from.left.items i.1 set c.first_run.ensures.same)
    c.loop-from-test.true))
