use Rattle.std.proofs.Common.{arith, ◌≤◌, ◌<◌, ◌+◌, ◌-◌, sym, ap, subst, ◌∙◌, rules, IsTrue, ℕ}
use Rattle.lcm_machine.specs.Row.{planned}
use Rattle.lcm_machine.specs.Spans.{in_spans}
use Rattle.lcm_machine.specs.Cells.{all_there}
use Rattle.overlay_machine.specs.Machine.{FitsRegion}
use Rattle.overlay_machine.proofs.CallLemmas.{own-base, base-is, call-goes, call-fails}
use Rattle.overlay_machine.proofs.FitsLemmas.{fits-room, fits-called}
use Rattle.lcm_isa.specs.declared.Reg.TheVariants.{C1, C2}
use Rattle.lcm_machine.proofs.Offers.{plan-jump}
use Rattle.overlay_machine.specs.Words.{look}
use Rattle.overlay_machine.proofs.machine.Machine.call.Goals as goal

pub make_call-requires-clause-stack : goal.make_call-requires-clause-stack
make_call-requires-clause-stack c =
    let b = base-is c.args.layout.now c.in-Some-own_stack.c c.in-Some-frame_base.at
    (sym c.frame_base.ensures ∙ c.in-Some-frame_base.is) in
    let o = own-base c.args.layout.now c.args.self.now.maps c.in-Some-own_stack.c
    (sym c.own_stack.ensures.is ∙ c.in-Some-own_stack.is) in
    let u = b.above in
    let v = b.below in
    let w : c.in-Some-own_stack.c.end ≤ 1048575 = search rules in
    (omega (arith, u, o), v, w)

pub make_call-requires-clause-room : goal.make_call-requires-clause-room
make_call-requires-clause-room c =
    let b = base-is c.args.layout.now c.in-Some-own_stack.c c.in-Some-frame_base.at
    (sym c.frame_base.ensures ∙ c.in-Some-frame_base.is) in
    let h : c.in-Some-own_stack.c.end ≤ c.args.layout.now.stack.end = search rules in
    let t : IsTrue
    (all_there c.args.self.now.maps.cells c.in-Some-frame_base.at
    (c.in-Some-own_stack.c.end + 1 - c.in-Some-frame_base.at)) = search rules in
    fits-room c.args.layout.now c.args.self.now c.in-Some-frame_base.at c.in-Some-own_stack.c.end
    c.requires.fits b.above b.below h t

pub make_call-requires-clause-effect : goal.make_call-requires-clause-effect
make_call-requires-clause-effect c =
    plan-jump look c.args.self.now.maps C1 C2 _ c.in-Ok.effect
    (sym c.plan_xjmp.ensures ∙ ap planned c.in-Ok.is)

pub returns-in-Err-clause-ends : goal.returns-in-Err-clause-ends
returns-in-Err-clause-ends c =
    call-fails c.args.layout.now c.args.self.now c.args.site c.in-Some.code c.in-Some-own_stack.c
    c.in-Some-frame_base.at _ (record {
      site = sym c.site_code.ensures.is ∙ c.in-Some.is;
      stack = sym c.own_stack.ensures.is ∙ c.in-Some-own_stack.is;
      base = base-is c.args.layout.now c.in-Some-own_stack.c c.in-Some-frame_base.at
          (sym c.frame_base.ensures ∙ c.in-Some-frame_base.is);
      there = search rules;
      high = search rules;
      first = search rules;
      second = search rules;
      plan = sym c.plan_xjmp.ensures ∙ ap planned c.in-Err.is;
    })

pub returns-in-Ok-clause-ends : goal.returns-in-Ok-clause-ends
returns-in-Ok-clause-ends c =
    call-goes c.args.layout.now c.args.self.now c.make_call.new.self c.args.site c.in-Some.code
    c.in-Some-own_stack.c c.in-Some-frame_base.at c.in-Ok.effect (record {
      site = sym c.site_code.ensures.is ∙ c.in-Some.is;
      stack = sym c.own_stack.ensures.is ∙ c.in-Some-own_stack.is;
      base = base-is c.args.layout.now c.in-Some-own_stack.c c.in-Some-frame_base.at
          (sym c.frame_base.ensures ∙ c.in-Some-frame_base.is);
      there = search rules;
      high = search rules;
      first = search rules;
      second = search rules;
      plan = sym c.plan_xjmp.ensures ∙ ap planned c.in-Ok.is;
    }) c.make_call.ensures

pub returns-in-Ok-clause-fits : goal.returns-in-Ok-clause-fits
returns-in-Ok-clause-fits c =
    let b = base-is c.args.layout.now c.in-Some-own_stack.c c.in-Some-frame_base.at
    (sym c.frame_base.ensures ∙ c.in-Some-frame_base.is) in
    let h : c.in-Some-own_stack.c.end ≤ c.args.layout.now.stack.end = search rules in
    let w : c.in-Some-own_stack.c.end ≤ 1048575 = search rules in
    let t : IsTrue
    (all_there c.args.self.now.maps.cells c.in-Some-frame_base.at
    (c.in-Some-own_stack.c.end + 1 - c.in-Some-frame_base.at)) = search rules in
    let s : (q : ℕ) → c.in-Some-frame_base.at ≤ q
    → q < c.in-Some-frame_base.at + (c.in-Some-own_stack.c.end + 1 - c.in-Some-frame_base.at)
    → IsTrue (in_spans q c.args.self.now.maps.spans)
    = c.all_there.ensures.spanned (c.all_there.ensures.is ∙ t) in
    let v = b.below in
    subst (FitsRegion c.args.layout.now) (sym c.make_call.ensures)
    (fits-called c.args.layout.now c.args.self.now c.args.site c.in-Some.code c.in-Some-own_stack.c
    c.in-Some-frame_base.at c.in-Ok.effect c.requires.fits b.above b.below h w
    (λ q lo hi. s q lo (omega (arith, lo, hi, v)))
    t (plan-jump look c.args.self.now.maps C1 C2 _ c.in-Ok.effect
    (sym c.plan_xjmp.ensures ∙ ap planned c.in-Ok.is)))
