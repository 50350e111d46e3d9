use Rattle.std.proofs.Common.{◌≡◌, ◌∙◌, ◌-◌, ap, subst, arith, Some, Ok}
use Rattle.std.specs.Option.{option_copied}
use Rattle.std.proofs.lemmas.Result.{err_from_is_err_and}
use Rattle.readers.specs.Answers.{Fails}
use Rattle.readers.proofs.Offers.{begins, read_one, read_none, read_all}
use Rattle.component_file.specs.Fault.{is_refusal}
use Rattle.component_file.proofs.Lists.{newest, newest_push}
use Rattle.component_file.proofs.listed.items.Goals as goal

pub loop-init : goal.loop-init
loop-init g c = rw c.new-items.ensures.items
    (rw (let k : c.args.count - 0 ≡ c.args.count = omega arith in k) (begins _))

pub returns-in_err-item : goal.returns-in_err-item
returns-in_err-item g c =
    let p = err_from_is_err_and c.from_residual.result c.from_residual.ensures.1 in
    let before : option_copied c.last.result ≡ newest c.loop.items.items = c.last.ensures.value
    ∙ ap newest c.deref.ensures.value in
    let failed = subst (λ b. Fails is_refusal c.in_err-item.field-0.0 (g.T.Listed.next_item b c.loop.bytes))
    before c.in_err-item.ensures in
    rw (p.1, p.2)
    (read_none (λ _ x. Some x) g.T.Listed.next_item is_refusal c.in_err-item.field-0.0 _ _ c.args.count
    c.loop.counter _ _ (omega arith) failed c.loop.invariant)

pub loop-preserved : goal.loop-preserved
loop-preserved g c =
    let before : option_copied c.last.result ≡ newest c.loop.items.items = c.last.ensures.value
    ∙ ap newest c.deref.ensures.value in
    let read = subst (λ b. g.T.Listed.next_item b c.loop.bytes ≡ Ok (c.in_ok-item.item, c.read.new.bytes))
    before c.in_ok-item.ensures in
    let more = read_one (λ _ x. Some x) g.T.Listed.next_item _ _ c.args.count c.loop.counter _ _
    c.in_ok-item.item _ (omega arith) read c.loop.invariant in
    rw (c.in_ok-push.ensures.items, newest_push) more

pub returns : goal.returns
returns g c = rw c.of.ensures
    (read_all (λ _ x. Some x) g.T.Listed.next_item _ _ c.args.count c.loop.counter _ _
    (omega arith) c.loop.invariant)
