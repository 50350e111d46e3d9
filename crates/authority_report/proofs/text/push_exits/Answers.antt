use Rattle.std.proofs.Common.{◌≡◌, ◌<◌, ◌≤◌, length, sym, subst, ap, ◌∙◌, ◌++◌, append-nil}
use Rattle.std.specs.List.{flat_map}
use Rattle.std.proofs.Math.ListN.{get_or}
use Rattle.std.proofs.lemmas.List.{take_all}
use Rattle.component_file.proofs.Offers.{one_more}
use Rattle.authority_report.specs.Text.{exit_line}
use Rattle.authority_report.proofs.text.push_exits.Goals as goal

pub loop-call-init : goal.loop-call-init
loop-call-init c = sym (append-nil c.args.text.now.items)

pub loop-call-preserved : goal.loop-call-preserved
loop-call-preserved c =
    let i = c.loop-call.call-index in
    let call = c.call-item.result in
    let same = c.as_slice-call-items.ensures in
    rw (c.in_ok-push_exit.ensures, c.loop-call.invariant)
    (one_more (exit_line c.args.owner.now) c.args.text.now.items c.args.owner.now.calls i call
    (subst (λ xs. i < length xs) same c.loop-call-test.true)
    (subst (λ xs. call ≡ get_or xs i call) same c.call-item.is))

pub returns : goal.returns
returns c =
    c.loop-call.invariant
    ∙ ap (λ xs. c.args.text.now.items ++ flat_map (exit_line c.args.owner.now) xs)
    (take_all c.loop-call.call-index c.args.owner.now.calls
    (subst (λ xs. length xs ≤ c.loop-call.call-index) c.as_slice-call-items.ensures c.loop-call-test.false))
