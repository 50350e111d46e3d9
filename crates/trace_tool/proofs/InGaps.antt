-- A stretch of a run in a gap: it writes nothing.
use Rattle.std.proofs.Common.{◌≡◌, ℕ, zero, suc, ◌+◌, ◌≤◌, Bool, true, List, refl, sym, ap, ◌∙◌, subst, arith}
use Rattle.outside_io.specs.SinkSeen.{SinkSeen}
use Rattle.outside_io.specs.Writes.{AddsPieces}
use Rattle.outside_io.proofs.Offers.{pieces_none}
use Rattle.lcm_machine.specs.declared.Step.{Step}
use Rattle.lcm_machine.specs.declared.Step.TheVariants.{Went}
use Rattle.lcm_machine.specs.Run.{plain, answer, answer_by}
use Rattle.lcm_machine.specs.Within.{within}
use Rattle.lcm_machine.proofs.Offers.{within_parts}
use Rattle.linked_starts.specs.Started.{StartSeen}
use Rattle.trace_tool.specs.declared.gap.Gap.{Gap}
use Rattle.run_lines.specs.declared.run.RunEnd.{RunEnd}
use Rattle.run_lines.specs.Layout.{layout}
use Rattle.trace_tool.specs.Gaps.{IsGap, AreWithin}
use Rattle.run_lines.specs.Texts.{lines_pieces}
use Rattle.run_lines.specs.EndLines.{end_line}
use Rattle.run_lines.specs.Runs.{watching, line_next, end_of, Runs, EndsBy}
use Rattle.trace_tool.proofs.Gaps.{HasNone, none_in_gap}
use Rattle.run_lines.proofs.Offers.{Going, going_more, ends_early}

-- k instructions on
abbrev on : StartSeen → ℕ → StartSeen
on s k = record s { state = plain k s.state }

module _ (init : StartSeen) (sink : SinkSeen) (n : ℕ) (start : StartSeen) (inward : Bool) (now : SinkSeen)
    (g : Gap) (going : Going init sink n start inward now) (free : IsGap start.sites g) where
  -- the next one has no line
  quiet : (k : ℕ) → within g.from g.to (plain k start.state) ≡ true
      → HasNone (layout (on start k)) (watching (on start k) inward)
  quiet k e =
      let p = within_parts g.from g.to (plain k start.state) e in
      none_in_gap (on start k) g inward free p.1 p.2

  silent : (k : ℕ) → within g.from g.to (plain k start.state) ≡ true
      → AddsPieces now (lines_pieces (line_next (layout (on start k)) (watching (on start k) inward))) now
  silent k e = subst (λ lines. AddsPieces now (lines_pieces lines) now) (sym (quiet k e).0) (pieces_none now)

  went_in : (k : ℕ) → within g.from g.to (plain k start.state) ≡ true → answer (plain k start.state) ≡ Went
  went_in k e = ap answer_by (within_parts g.from g.to (plain k start.state) e).0

  pub going_in : (m : ℕ) → AreWithin g start.state m → answer (plain m start.state) ≡ Went
      → Going init sink (n + m) (on start m) inward now
  going_in zero each went =
      let same : n ≡ n + 0 = omega arith in subst (λ k. Going init sink k start inward now) same going
  going_in (suc m) each went =
      let e = each m (omega arith) in
      let same : n + m + 1 ≡ n + suc m = omega arith in
      subst (λ k. Going init sink k (on start (suc m)) inward now) same
      (going_more init sink (n + m) (on start m) inward now (on start (suc m)) inward now
      (going_in m (λ k lt. each k (omega (arith, lt))) (went_in m e)) refl (sym (quiet m e).1) went
      (silent m e))

  -- where the machine ends in it, that is the end of the run
  ends_at : (m steps : ℕ) (after : SinkSeen) (step : Step) (line : List ℕ) (result : RunEnd)
      → AreWithin g start.state m → n + m ≤ steps → step ≡ answer (plain m start.state) → (step ≡ Went → ⊥)
      → line ≡ end_line (plain m start.state) → EndsBy now line (end_of step) after result
      → Runs init steps sink (on start m) after result
  ends_at zero steps after step line result each le is ended last w = absurd (ended (is ∙ going.gone.went))
  ends_at (suc m) steps after step line result each le is ended last w =
      let e = each m (omega arith) in
      ends_early init sink (n + m) steps (on start m) inward now (on start (suc m)) now after step line result
      (going_in m (λ k lt. each k (omega (arith, lt))) (went_in m e)) (omega (arith, le)) refl is ended
      (silent m e) last w

  pub going_on : (m : ℕ) (next : StartSeen) → AreWithin g start.state m → next ≡ on start m
      → answer next.state ≡ Went → Going init sink (n + m) next inward now
  going_on m next each same went =
      subst (λ s. Going init sink (n + m) s inward now) (sym same)
      (going_in m each (ap (λ (s : StartSeen). answer s.state) (sym same) ∙ went))

  pub ends_in : (m steps : ℕ) (next : StartSeen) (after : SinkSeen) (step : Step) (line : List ℕ)
      (result : RunEnd) → AreWithin g start.state m → n + m ≤ steps → next ≡ on start m
      → step ≡ answer next.state → (step ≡ Went → ⊥) → line ≡ end_line next.state
      → EndsBy now line (end_of step) after result → Runs init steps sink next after result
  ends_in m steps next after step line result each le same is ended last w =
      subst (λ s. Runs init steps sink s after result) (sym same)
      (ends_at m steps after step line result each le (is ∙ ap (λ (s : StartSeen). answer s.state) same)
      ended (last ∙ ap (λ (s : StartSeen). end_line s.state) same) w)
