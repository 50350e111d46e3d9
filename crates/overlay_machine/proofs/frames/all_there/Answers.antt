use Rattle.std.proofs.Common.{arith, ◌≡◌, ◌<◌, ◌+◌, ◌-◌, ◌∙◌, sym, ap, subst, rules, true, false, is_some}
use Rattle.std.proofs.Common.{IsTrue, inl, inr}
use Rattle.std.specs.Prelude.{◌&&◌}
use Rattle.std.proofs.lemmas.Bool.{cases_lt}
use Rattle.lcm_machine.specs.Cells.{cell, all_there}
use Rattle.lcm_machine.specs.Spans.{in_spans}
use Rattle.lcm_machine.proofs.Offers.{there-step, there-none}
use Rattle.overlay_machine.proofs.frames.all_there.Goals as goal

pub returns-then-not-has_cell-clause-is : goal.returns-then-not-has_cell-clause-is
returns-then-not-has_cell-clause-is c =
    let p : 0 < c.loop-left.left = search rules in
    let b : is_some (cell c.args.maps.now.cells c.loop-left.at) ≡ false = search rules in
    sym (sym c.loop-left.invariant.0 ∙ there-step _ _ _ p
    ∙ ap (λ k. k && all_there c.args.maps.now.cells (c.loop-left.at + 1) (c.loop-left.left - 1)) b)

pub loop-left-preserved : goal.loop-left-preserved
loop-left-preserved c =
    let p : 0 < c.loop-left.left = search rules in
    let b : is_some (cell c.args.maps.now.cells c.loop-left.at) ≡ true = search rules in
    let s : IsTrue (in_spans c.loop-left.at c.args.maps.now.spans) = search rules in
    let q = c.loop-left.invariant.1 in (
      sym (ap (λ k. k && all_there c.args.maps.now.cells (c.loop-left.at + 1) (c.loop-left.left - 1)) b)
          ∙ sym (there-step _ _ _ p) ∙ c.loop-left.invariant.0,
      omega (arith, p, q),
      (λ a lo hi. elim (cases_lt a c.loop-left.at) [
        | inl lt ↦ c.loop-left.invariant.2 a lo lt
        | inr ge ↦
            subst (λ k. IsTrue (in_spans k c.args.maps.now.spans))
            (let e : c.loop-left.at ≡ a = omega (arith, ge, hi) in e) s
      ]),
    )

pub returns-clause-is : goal.returns-clause-is
returns-clause-is c =
    let z : c.loop-left.left ≡ 0 = search rules in
    sym (there-none c.args.maps.now.cells c.loop-left.at)
    ∙ ap (all_there c.args.maps.now.cells c.loop-left.at) (sym z) ∙ c.loop-left.invariant.0

pub returns-clause-spanned : goal.returns-clause-spanned
returns-clause-spanned c = λ t q lo hi.
    let z : c.loop-left.left ≡ 0 = search rules in
    let p = c.loop-left.invariant.1 in
    c.loop-left.invariant.2 q lo (omega (arith, z, p, hi))
