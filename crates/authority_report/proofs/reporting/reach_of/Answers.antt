use Rattle.std.proofs.Common.{map, sym, ap, subst, ◌∙◌}
use Rattle.std.specs.List.{All}
use Rattle.authority_report.specs.SealRanges.{is_in, AreRanges, Fits, range_of}
use Rattle.authority_report.proofs.FoundLemmas.{found_all, found_told}
use Rattle.authority_report.proofs.Ranges.{ranges_have, ranges_apart, all_fit}
use Rattle.authority_report.proofs.reporting.reach_of.Goals as goal

pub ranges_of-requires : goal.ranges_of-requires
ranges_of-requires c =
    let m = c.args.state.now.maps in
    let o = c.args.owner.now in
    let just = found_all m o c.finish.new.self c.in_ok-finish.ensures.none c.in_ok-finish.ensures.closed in
    let stretches = c.in_ok-stretches.ensures in
    subst (All Fits) (sym c.as_slice.ensures)
    (all_fit _ o.seals stretches.tidy.each
    (λ n e. c.requires.seals n ((just.seal n).0 (sym (stretches.are n) ∙ e))) c.requires.few)

pub returns : goal.returns
returns c =
    let m = c.args.state.now.maps in
    let o = c.args.owner.now in
    let f = c.finish.new.self in
    let spans = c.in_ok-spans.ensures in
    let stretches = c.in_ok-stretches.ensures in
    let are = c.in_ok-seals.ensures ∙ ap (map range_of) c.as_slice.ensures in
    record {
      just = found_told m o f (record { spans = c.in_ok-spans.spans; seals = c.in_ok-seals.seals }) spans.read
          spans.write spans.run
          (λ n. ap (λ rs. is_in rs n) are ∙ ranges_have _ n stretches.tidy.each ∙ stretches.are n)
          (found_all m o f c.in_ok-finish.ensures.none c.in_ok-finish.ensures.closed);
      spans = spans.tidy;
      seals = subst AreRanges (sym are) (ranges_apart _ stretches.tidy);
    }
