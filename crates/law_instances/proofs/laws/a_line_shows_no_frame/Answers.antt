use Rattle.law_instances.proofs.Teller.{parts}
use Rattle.law_instances.proofs.Start.{start, is_linked_start}
use Rattle.law_instances.proofs.SecretRun.{secret_line}
use Rattle.law_instances.proofs.laws.a_line_shows_no_frame.Goals as goal

pub returns : goal.returns
returns c =
    secret_line (c.start_lines_agree.ensures.agree parts 4 start is_linked_start)
    (c.the_headline.ensures.holds parts 4 start is_linked_start).agrees
    (c.frames_are_secret.ensures.secret parts 4 start is_linked_start)
