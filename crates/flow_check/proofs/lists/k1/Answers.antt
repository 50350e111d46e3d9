use Rattle.std.proofs.Common.{Some, None, length, sym, ap, ◌∙◌, arith}
use Rattle.std.specs.Prelude.{slice_index}
use Rattle.call_sequence.specs.Lists.{k1, site_of, site_is_bad}
use Rattle.flow_check.proofs.Found.{found}
use Rattle.flow_check.proofs.lists.k1.Goals as goal

pub returns-then-site_is_bad : goal.returns-then-site_is_bad
unfolding k1
returns-then-site_is_bad c =
    let C = c.args.c.now in
    let e = c.as_slice-sites.ensures in
    ap (λ sites. Some (slice_index sites c.loop-i.i)) e
    ∙ found (record { count = length C.sites; broken = site_is_bad C; place = site_of C }) (Some c.loop-i.i) (
      omega (arith, c.loop-i-test.true, ap length e),
      sym c.site_is_bad.ensures ∙ c.if-site_is_bad.true,
      c.loop-i.invariant,
    )

pub returns : goal.returns
unfolding k1
returns c =
    let C = c.args.c.now in
    found (record { count = length C.sites; broken = site_is_bad C; place = site_of C }) None
    (λ j lt. c.loop-i.invariant j (omega (arith, c.loop-i-test.false, ap length c.as_slice-sites.ensures)))
