use Rattle.std.proofs.Common.{◌∙◌, ◌&&◌, None, Some, refl, ap, sym, position, true, false}
use Rattle.proc_names.specs.Names.{same, index_of, callback_index, is_taken}
use Rattle.proc_language.specs.declared.module.Import.{Import}
use Rattle.token_language.specs.declared.module.TokenProc.{TokenProc}
use Rattle.token_language.specs.Erased.{erased, erased_params, erased_proc}
use Rattle.token_language.proofs.FoundLemmas.{passed_else}
use Rattle.token_language.proofs.scope.passed_named.Goals as goal

pub returns-in-Some-shared_index : goal.returns-in-Some-shared_index
returns-in-Some-shared_index c =
    let m = c.args.m.now in
    let p = c.args.p.now in
    let f = c.args.f.now in
    passed_else m p f
    (ap (λ ps. callback_index (erased_params ps) f) (sym c.as_slice.ensures)
    ∙ sym c.callback_index.ensures.is ∙ c.in_default.is)
    (ap (λ is. index_of (λ (i : Import). i.name) is f) (sym c.as_slice-2.ensures)
    ∙ sym c.index_of.ensures ∙ c.in_default-index_of.is)
    (Some c.in-Some-shared_index.i)
    (ap (position (λ (q : TokenProc). q.shared && same q.name f)) (sym c.as_slice-3.ensures)
    ∙ sym c.shared_index.ensures ∙ c.in-Some-shared_index.is)
    (is_taken (erased m) (erased_proc p) f) refl

pub returns-then-is_taken : goal.returns-then-is_taken
returns-then-is_taken c =
    let f = c.args.f.now in
    passed_else c.args.m.now c.args.p.now f
    (ap (λ ps. callback_index (erased_params ps) f) (sym c.as_slice.ensures)
    ∙ sym c.callback_index.ensures.is ∙ c.in_default.is)
    (ap (λ is. index_of (λ (i : Import). i.name) is f) (sym c.as_slice-2.ensures)
    ∙ sym c.index_of.ensures ∙ c.in_default-index_of.is)
    None
    (ap (position (λ (q : TokenProc). q.shared && same q.name f)) (sym c.as_slice-3.ensures)
    ∙ sym c.shared_index.ensures ∙ c.in_default-shared_index.is)
    true (sym c.is_taken.ensures ∙ c.if-is_taken.true)

pub returns-else-is_taken : goal.returns-else-is_taken
returns-else-is_taken c =
    let f = c.args.f.now in
    passed_else c.args.m.now c.args.p.now f
    (ap (λ ps. callback_index (erased_params ps) f) (sym c.as_slice.ensures)
    ∙ sym c.callback_index.ensures.is ∙ c.in_default.is)
    (ap (λ is. index_of (λ (i : Import). i.name) is f) (sym c.as_slice-2.ensures)
    ∙ sym c.index_of.ensures ∙ c.in_default-index_of.is)
    None
    (ap (position (λ (q : TokenProc). q.shared && same q.name f)) (sym c.as_slice-3.ensures)
    ∙ sym c.shared_index.ensures ∙ c.in_default-shared_index.is)
    false (sym c.is_taken.ensures ∙ c.if-is_taken.false)
