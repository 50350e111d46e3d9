use Rattle.std.proofs.Common.{◌≡◌, ◌+◌, subst, arith, rules, Ok}
use Rattle.std.proofs.lemmas.Result.{err_from_is_err_and}
use Rattle.readers.specs.Answers.{Fails}
use Rattle.readers.proofs.Offers.{read_one, read_none, read_all}
use Rattle.image_loader.specs.Fault.{is_refusal}
use Rattle.image_loader.specs.Reading.{next_part}
use Rattle.image_loader.proofs.reading.parts.Goals as goal

pub returns-in_err-part : goal.returns-in_err-part
returns-in_err-part c =
    let p = err_from_is_err_and c.from_residual.result c.from_residual.ensures.1 in
    let index : c.from.result ≡ c.loop-index.index = search rules in
    let failed = subst (λ i. Fails is_refusal c.in_err-part.field-0.0 (next_part i c.loop-index.bytes)) index
    c.in_err-part.ensures in
    rw (p.1, p.2)
    (read_none (λ i _. i + 1) next_part is_refusal c.in_err-part.field-0.0 c.loop-index.parts.items
    c.loop-index.index c.args.count c.loop-index.index c.loop-index.bytes _
    (omega arith) failed c.loop-index.invariant)

pub loop-index-preserved : goal.loop-index-preserved
loop-index-preserved c =
    let index : c.from.result ≡ c.loop-index.index = search rules in
    let read = subst (λ i. next_part i c.loop-index.bytes ≡ Ok (c.in_ok-part.part, c.part.new.bytes)) index
    c.in_ok-part.ensures in
    rw c.in_ok-push.ensures.items
    (read_one (λ i _. i + 1) next_part c.loop-index.parts.items c.loop-index.index c.args.count
    c.loop-index.index c.loop-index.bytes c.part.new.bytes c.in_ok-part.part _
    (omega arith) read c.loop-index.invariant)

pub returns : goal.returns
returns c = rw c.of.ensures
    (read_all (λ i _. i + 1) next_part c.loop-index.parts.items c.loop-index.index c.args.count
    c.loop-index.index c.loop-index.bytes _ (omega arith) c.loop-index.invariant)
