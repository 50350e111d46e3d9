use Rattle.std.proofs.Common.{◌≡◌, ◌∙◌, refl, suc, sym, ap, subst, arith}
use Rattle.call_sequence.specs.declared.flow.Walk.TheVariants.{Before, Ended, Broken}
use Rattle.std.specs.Option.{option_or}
use Rattle.call_sequence.specs.Places.{declared}
use Rattle.call_sequence.specs.Walk.{Arrives, next, next_from}
use Rattle.call_sequence.proofs.Offers.{each_outside, entry_outside, no_row, none_behind, passed_over, rises}
use Rattle.call_sequence.proofs.Offers.{row_is, row_none}
use Rattle.flow_check.proofs.rows.row_of.Goals as goal

pub returns-then-begins_entry-clause-outside : goal.returns-then-begins_entry-clause-outside
returns-then-begins_entry-clause-outside c =
    entry_outside c.args.c.now c.requires.fits c.requires.kept c.args.offset
    (sym c.begins_entry.ensures ∙ c.if-begins_entry.true)

pub returns-then-offset-next-clause-none : goal.returns-then-offset-next-clause-none
returns-then-offset-next-clause-none c =
    let e : next_from c.args.c.now c.loop-at.at c.loop-at.current ≡ Before c.in-Before.next c.in-Before.row =
    cc c.in-Before.ensures in
    no_row c.args.c.now c.args.offset (sym c.begins_entry.ensures ∙ c.if-begins_entry.false)
    (λ z h. passed_over c.args.c.now c.loop-at.at c.in-Before.next c.args.offset c.loop-at.current
    c.in-Before.row z c.loop-at.invariant.comes e c.loop-at-test.true c.if-offset-next.true h)

pub loop-at-smaller : goal.loop-at-smaller
loop-at-smaller c =
    let e : next_from c.args.c.now c.loop-at.at c.loop-at.current ≡ Before c.in-Before.next c.in-Before.row =
    cc c.in-Before.ensures in
    let up = rises c.args.c.now c.loop-at.at c.in-Before.next c.loop-at.current c.in-Before.row e in
    omega (arith, up.0, c.loop-at-test.true)

pub loop-at-preserved : goal.loop-at-preserved
loop-at-preserved c =
    let e : next_from c.args.c.now c.loop-at.at c.loop-at.current ≡ Before c.in-Before.next c.in-Before.row =
    cc c.in-Before.ensures in
    record {
      comes = (suc c.loop-at.invariant.comes.0, ap (next c.args.c.now) c.loop-at.invariant.comes.1 ∙ e);
      short = c.if-offset-next.false;
    }

pub returns-in-Ended-clause-none : goal.returns-in-Ended-clause-none
returns-in-Ended-clause-none c =
    let e : next_from c.args.c.now c.loop-at.at c.loop-at.current ≡ Ended = cc c.in-Ended.ensures in
    no_row c.args.c.now c.args.offset (sym c.begins_entry.ensures ∙ c.if-begins_entry.false)
    (λ z h. none_behind c.args.c.now c.loop-at.at c.args.offset c.loop-at.current z Ended refl (λ k. cc)
    c.loop-at.invariant.comes e c.loop-at-test.true h)

pub returns-in-Broken-clause-none : goal.returns-in-Broken-clause-none
returns-in-Broken-clause-none c =
    let e : next_from c.args.c.now c.loop-at.at c.loop-at.current
    ≡ Broken c.in-Broken.field-0 c.in-Broken.field-1 = cc c.in-Broken.ensures in
    no_row c.args.c.now c.args.offset (sym c.begins_entry.ensures ∙ c.if-begins_entry.false)
    (λ z h. none_behind c.args.c.now c.loop-at.at c.args.offset c.loop-at.current z
    (Broken c.in-Broken.field-0 c.in-Broken.field-1) refl (λ k. cc)
    c.loop-at.invariant.comes e c.loop-at-test.true h)

pub returns-clause-is : goal.returns-clause-is
returns-clause-is c =
    let C = c.args.c.now in
    let o = c.args.offset in
    let here : c.loop-at.at ≡ o = omega (arith, c.loop-at-test.false, c.loop-at.invariant.short) in
    let come = subst (λ p. Arrives C (Before p c.loop-at.current)) here c.loop-at.invariant.comes in
    let e : c.or.result ≡ option_or (declared C o) c.loop-at.current =
    c.or.ensures ∙ ap (λ d. option_or d c.loop-at.current) c.declared.ensures in
    row_is C o c.loop-at.current c.or.result (sym c.begins_entry.ensures ∙ c.if-begins_entry.false) come e

pub returns-clause-outside : goal.returns-clause-outside
returns-clause-outside c =
    let C = c.args.c.now in
    let o = c.args.offset in
    let here : c.loop-at.at ≡ o = omega (arith, c.loop-at-test.false, c.loop-at.invariant.short) in
    let come = subst (λ p. Arrives C (Before p c.loop-at.current)) here c.loop-at.invariant.comes in
    let e : c.or.result ≡ option_or (declared C o) c.loop-at.current =
    c.or.ensures ∙ ap (λ d. option_or d c.loop-at.current) c.declared.ensures in
    each_outside C c.requires.fits c.requires.kept o c.or.result
    (row_is C o c.loop-at.current c.or.result (sym c.begins_entry.ensures ∙ c.if-begins_entry.false)
    come e)

pub returns-clause-none : goal.returns-clause-none
returns-clause-none c =
    let C = c.args.c.now in
    let o = c.args.offset in
    let here : c.loop-at.at ≡ o = omega (arith, c.loop-at-test.false, c.loop-at.invariant.short) in
    let come = subst (λ p. Arrives C (Before p c.loop-at.current)) here c.loop-at.invariant.comes in
    let e : c.or.result ≡ option_or (declared C o) c.loop-at.current =
    c.or.ensures ∙ ap (λ d. option_or d c.loop-at.current) c.declared.ensures in
    row_none C o c.loop-at.current c.or.result (sym c.begins_entry.ensures ∙ c.if-begins_entry.false) come e
