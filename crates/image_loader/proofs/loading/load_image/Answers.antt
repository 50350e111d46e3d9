use Rattle.std.proofs.Common.{Ok, Err, subst, arith}
use Rattle.std.proofs.lemmas.Result.{err_from_is_err_and}
use Rattle.linked_starts.specs.Answer.{AnswersParts}
use Rattle.image_loader.proofs.ImageLaws.{found_whole}
use Rattle.image_loader.proofs.Loaded.{fault_told, linking_told, loads_found, loads_only}
use Rattle.image_loader.proofs.loading.load_image.Goals as goal

pub returns-in_err-image-clause-only : goal.returns-in_err-image-clause-only
returns-in_err-image-clause-only c = λ i spelled none.
    let p = err_from_is_err_and c.from_residual.result c.from_residual.ensures.1 in
    let fault = c.in_err-image.field-0.0 in
    rw (p.1, p.2)
    (loads_only c.args.bytes.now (Err fault) i (fault_told c.args.bytes.now fault c.in_err-image.ensures)
    spelled none)

pub link-requires : goal.link-requires
link-requires c =
    let image = found_whole c.args.bytes.now c.in_ok-image.image
    (λ i. omega (arith, c.type_inv.bytes i)) c.in_ok-image.ensures in
    rw c.as_slice.ensures (omega (arith, image.0.count.1))

pub returns-in_err-start-clause-only : goal.returns-in_err-start-clause-only
returns-in_err-start-clause-only c = λ i spelled none.
    let p = err_from_is_err_and c.from_residual-in_err-start.result c.from_residual-in_err-start.ensures.1 in
    let image = c.in_ok-image.image in
    let fault = c.in_err-start.field-0.0 in
    let answers = subst (λ parts. AnswersParts parts image.stack (Err fault)) c.as_slice.ensures
    c.in_err-start.ensures in
    rw (p.1, p.2)
    (loads_only c.args.bytes.now _ i
    (linking_told c.args.bytes.now image (Err fault) c.in_ok-image.ensures answers) spelled none)

pub returns-clause-found : goal.returns-clause-found
returns-clause-found c =
    let image = c.in_ok-image.image in
    let start = c.in_ok-start.start in
    let answers = subst (λ parts. AnswersParts parts image.stack (Ok start)) c.as_slice.ensures
    c.in_ok-start.ensures in
    loads_found c.args.bytes.now start (λ i. omega (arith, c.type_inv.bytes i))
    (linking_told c.args.bytes.now image (Ok start) c.in_ok-image.ensures answers)
