use Rattle.std.proofs.Common.{sym, subst, ap, ◌∙◌, ◌++◌, append-nil}
use Rattle.std.specs.List.{flat_map}
use Rattle.std.proofs.lemmas.List.{take_all}
use Rattle.component_file.proofs.Offers.{one_more}
use Rattle.authority_report.specs.SealRanges.{IsRange}
use Rattle.authority_report.specs.Text.{seals_line}
use Rattle.authority_report.proofs.text.push_all_seals.Goals as goal

pub loop-seals-init : goal.loop-seals-init
loop-seals-init c = sym (append-nil c.args.text.now.items)

pub push_seals-requires : goal.push_seals-requires
push_seals-requires c = subst IsRange (sym c.seals-item.is)
    (c.requires c.loop-seals.seals-index c.seals-item.result c.loop-seals-test.true)

pub loop-seals-preserved : goal.loop-seals-preserved
loop-seals-preserved c = rw (c.in_ok-push_seals.ensures, c.loop-seals.invariant)
    (one_more seals_line c.args.text.now.items c.args.ranges.now c.loop-seals.seals-index
    c.seals-item.result c.loop-seals-test.true c.seals-item.is)

pub returns : goal.returns
returns c =
    c.loop-seals.invariant
    ∙ ap (λ xs. c.args.text.now.items ++ flat_map seals_line xs)
    (take_all c.loop-seals.seals-index c.args.ranges.now c.loop-seals-test.false)
