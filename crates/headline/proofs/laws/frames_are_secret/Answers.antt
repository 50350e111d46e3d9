use Rattle.std.proofs.Common.{refl}
use Rattle.linked_starts.proofs.Offers.{pair, start}
use Rattle.overlay_machine.specs.Keeping.{link_of}
use Rattle.overlay_machine.specs.Starting.{overlay_at}
use Rattle.overlay_machine.proofs.Offers.{is_linked}
use Rattle.headline.proofs.Agreeing.{start_fresh}
use Rattle.headline.proofs.secrecy.Secret.{secret_of}
use Rattle.headline.proofs.secrecy.SecretInstance.{secret_there}
use Rattle.headline.proofs.laws.frames_are_secret.Goals as goal

pub returns-clause-secret : goal.returns-clause-secret
returns-clause-secret c = λ parts size s is.
    (let o = overlay_at s in
    let g = link_of parts size o in
    let h = c.starts_begin.ensures s o ((c.a_start_has_one_overlay.ensures parts size s is o).1 refl)
    parts size is in
    secret_of parts size s h (start_fresh s is.starts.state.count is.starts.state.end)
    c.a_halt_weighs_one.ensures (c.linked_starts_agree.ensures parts size s is).runs
    (c.start_lines_agree.ensures.agree parts size s is)
    (c.lines_are_bracketed.ensures.steps g o.state s.state.maps h.linked h.holds)
    (c.open_calls_are_kept.ensures.kept parts size s is))

pub returns-clause-of_some : goal.returns-clause-of_some
returns-clause-of_some c =
    let o = overlay_at start in
    let h = c.starts_begin.ensures start o
    ((c.a_start_has_one_overlay.ensures pair 4 start is_linked o).1 refl) pair 4 is_linked in
    secret_there h c.a_halt_weighs_one.ensures (c.linked_starts_agree.ensures pair 4 start is_linked).runs
    (c.start_lines_agree.ensures.agree pair 4 start is_linked)
