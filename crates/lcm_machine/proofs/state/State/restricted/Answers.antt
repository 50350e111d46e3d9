use Rattle.std.proofs.Common.{◌≡◌, Some, None, sym, ◌∙◌, refl, rules}
use Rattle.cap_words.specs.Faces.{perm_at}
use Rattle.lcm_machine.specs.Table.{ask, need}
use Rattle.lcm_machine.specs.Row.{plan_in}
use Rattle.lcm_machine.proofs.RowsMet.{got}
use Rattle.lcm_machine.proofs.TestedRows.{lacked, told_on}
use Rattle.lcm_machine.proofs.state.State.restricted.Goals as goal

pub returns : goal.returns
unfolding plan_in ask need
returns g c = λ next.
    let memory = got _ _ _ c.in_ok-c.ensures.is in
    let z = got _ _ _ c.in_ok-z.ensures in
    let perm : perm_at c.in_ok-z.z ≡ Some c.in_ok-perm.perm = search rules in
    let below = sym c.is_below.ensures ∙ c.in_ok-ask.ensures in
    rw (c.in_ok-into.ensures, memory, z, perm, below) (search rules)

pub returns-in_err-into : goal.returns-in_err-into
unfolding plan_in ask
returns-in_err-into g c = λ next.
    rw (told_on _ _ _ c.from_residual.ensures.1 c.in_err-into.ensures.1, c.in_err-into.ensures.0) refl

pub returns-in_err-c : goal.returns-in_err-c
unfolding plan_in ask need
returns-in_err-c g c = λ next.
    let no = lacked _ _ _ c.in_err-c.ensures.is in
    rw (told_on _ _ _ c.from_residual-in_err-c.ensures.1 no.1, c.in_ok-into.ensures, no.0) refl

pub returns-in_err-z : goal.returns-in_err-z
unfolding plan_in ask need
returns-in_err-z g c = λ next.
    let memory = got _ _ _ c.in_ok-c.ensures.is in
    let no = lacked _ _ _ c.in_err-z.ensures in
    rw (told_on _ _ _ c.from_residual-in_err-z.ensures.1 no.1, c.in_ok-into.ensures, memory, no.0) refl

pub returns-in_err-perm : goal.returns-in_err-perm
unfolding plan_in ask need
returns-in_err-perm g c = λ next.
    let memory = got _ _ _ c.in_ok-c.ensures.is in
    let z = got _ _ _ c.in_ok-z.ensures in
    let perm : perm_at c.in_ok-z.z ≡ None = search rules in
    let no = lacked _ _ _ c.in_err-perm.ensures.value in
    rw (told_on _ _ _ c.from_residual-in_err-perm.ensures.1 no.1, c.in_ok-into.ensures, memory, z, perm) refl

pub returns-in_err-ask : goal.returns-in_err-ask
unfolding plan_in ask need
returns-in_err-ask g c = λ next.
    let memory = got _ _ _ c.in_ok-c.ensures.is in
    let z = got _ _ _ c.in_ok-z.ensures in
    let perm : perm_at c.in_ok-z.z ≡ Some c.in_ok-perm.perm = search rules in
    let below = sym c.is_below.ensures ∙ c.in_err-ask.ensures.0 in
    let no = told_on _ _ _ c.from_residual-in_err-ask.ensures.1 c.in_err-ask.ensures.1 in
    rw (no, c.in_ok-into.ensures, memory, z, perm, below) refl
