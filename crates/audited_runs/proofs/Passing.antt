-- A text of lines that fit and spoil nothing, and of an end line, is a trace.
use Rattle.std.proofs.Common.{◌≡◌, ℕ, ◌+◌, false, List, [], ◌∷◌, ◌++◌, Some, Ok, refl, ap, ◌∙◌, arith}
use Rattle.std.specs.Prelude.{map}
use Rattle.run_lines.specs.Lines.{Line, call, ret, enter, pass, leave}
use Rattle.run_lines.specs.Texts.{lines_text}
use Rattle.run_lines.specs.Fits.{LinesFit}
use Rattle.line_fields.specs.Fields.{lines}
use Rattle.audited_runs.proofs.Offers.{body, IsPassedOver, lines_are, end_line_is}
use Rattle.run_audit.specs.declared.line.Line.TheVariants.{End}
use Rattle.run_audit.specs.Lines.{line_in, is_end}
use Rattle.run_audit.specs.Audit.{OpenSeen, nothing_open, audit_on, judged, stepped, followed, audited}
use Rattle.run_audit.specs.Audit.{audited_from}
use Rattle.run_audit.specs.Traces.{IsTrace}
use Rattle.run_audit.proofs.Offers.{before_more, first_went, judged_event, answered_trace}
use Rattle.line_fields.proofs.Offers.{parts_some}
use Rattle.audited_runs.specs.Audited.{line_seen}
use Rattle.audited_runs.proofs.Spelled.{line_read}

pub no_end : (l : Line) → is_end (line_seen l) ≡ false
no_end (call inward part site base last args words) = refl
no_end (ret inward part site base last a0 words) = refl
no_end (enter part export stk args back) = refl
no_end (pass p0 p1 p2) = refl
no_end (leave part a0) = refl

module _ (t : List ℕ) (e : IsPassedOver t) (read : line_in e.0 ≡ Some End) where
  at_last : (s : OpenSeen) (n : ℕ) → audited_from s n (lines t) ≡ Ok tt
  at_last s n =
      ap (audited_from s n) (end_line_is t e) ∙ before_more s n e.0 ([] ∷ []) (omega arith)
      ∙ ap (λ l. judged s n l ([] ∷ []) (λ u. audited_from u (n + 1) ([] ∷ []))) read

  pass_from : (ls : List Line) (s o : OpenSeen) (n : ℕ) → LinesFit ls
      → followed s n (map line_seen ls) ≡ Ok o → audited_from s n (lines (lines_text ls ++ t)) ≡ Ok tt
  pass_from [] s o n fit h = at_last s n
  pass_from (l ∷ ls) s o n fit h =
      let rest = lines (lines_text ls ++ t) in
      let k = first_went (stepped s n (line_seen l)) (λ u. followed u (n + 1) (map line_seen ls)) o h in
      ap (audited_from s n) (lines_are l ls t fit.0)
      ∙ before_more s n (body l) rest (parts_some 10 (lines_text ls ++ t))
      ∙ ap (λ x. judged s n x rest (λ u. audited_from u (n + 1) rest)) (line_read l fit.0)
      ∙ judged_event s n (line_seen l) rest (λ u. audited_from u (n + 1) rest) (no_end l)
      ∙ ap (λ q. audit_on q (λ u. audited_from u (n + 1) rest)) k.1
      ∙ pass_from ls k.0 o (n + 1) fit.1 k.2

  pub passes : (ls : List Line) (o : OpenSeen) → LinesFit ls
      → followed nothing_open 1 (map line_seen ls) ≡ Ok o → IsTrace (lines_text ls ++ t)
  unfolding audited
  passes ls o fit h = answered_trace (lines_text ls ++ t) (pass_from ls nothing_open o 1 fit h)
