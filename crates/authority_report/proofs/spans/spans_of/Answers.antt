use Rattle.std.proofs.Common.{◌+◌, sym, subst, ◌∙◌, ap}
use Rattle.std.specs.Prelude.{List}
use Rattle.authority_report.specs.declared.spans.ReachSpan.{ReachSpan}
use Rattle.authority_report.specs.Listed.{Listed}
use Rattle.authority_report.specs.Spans.{allows}
use Rattle.authority_report.proofs.SpansListed.{push, skip, all_listed}
use Rattle.authority_report.proofs.spans.spans_of.Goals as goal
use Rattle.authority_report.proofs.spans.spans_of.Goals.{then-any+in_ok-push, else-any}

pub loop-at-preserved : goal.loop-at-preserved
loop-at-preserved c =
    let r = c.args.read.now in
    let w = c.args.write.now in
    let x = c.args.run.now in
    let at = c.loop-at.at in
    let end = c.span_end-end.result in
    let f = c.rights_at-rights.result in
    let items = c.loop-at.spans.items in
    let e = c.span_end-end.ensures in
    let P : List ReachSpan → _ = λ rs. Listed r w x (end + 1) rs in
    elim c.if-any.branch [
      | then-any+in_ok-push b ↦ subst P (sym (ap (λ v. v.items) b.spans-is ∙ b.in_ok-push.ensures.items))
          (push r w x at end f items e.within.0 e.within.1 c.rights_at-rights.ensures e.same e.maximal
          c.loop-at.invariant (sym c.any.ensures ∙ b.if-any.true))
      | else-any b ↦ subst P (sym (ap (λ v. v.items) b.spans-is))
          (skip r w x at end f items e.within.0 e.within.1 c.rights_at-rights.ensures e.same e.maximal
          c.loop-at.invariant (sym c.any.ensures ∙ b.if-any.false))
    ]

pub returns-clause-read : goal.returns-clause-read
returns-clause-read c a = ap (λ rs. allows (λ f. f.read) rs a) c.of.ensures
    ∙ all_listed c.args.read.now (λ a. allows (λ f. f.read) c.loop-at.spans.items a) c.loop-at.at
    c.ends.ensures c.loop-at-test.false c.loop-at.invariant.read_is a

pub returns-clause-write : goal.returns-clause-write
returns-clause-write c a = ap (λ rs. allows (λ f. f.write) rs a) c.of.ensures
    ∙ all_listed c.args.write.now (λ a. allows (λ f. f.write) c.loop-at.spans.items a) c.loop-at.at
    c.ends-2.ensures c.loop-at-test.false c.loop-at.invariant.write_is a

pub returns-clause-run : goal.returns-clause-run
returns-clause-run c a = ap (λ rs. allows (λ f. f.run) rs a) c.of.ensures
    ∙ all_listed c.args.run.now (λ a. allows (λ f. f.run) c.loop-at.spans.items a) c.loop-at.at
    c.ends-3.ensures c.loop-at-test.false c.loop-at.invariant.run_is a
