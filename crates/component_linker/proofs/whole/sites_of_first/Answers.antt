use Rattle.std.proofs.Common.{sym, arith}
use Rattle.linked_starts.specs.Links.{trusted_sites}
use Rattle.linked_starts.proofs.Offers.{sum_more}
use Rattle.component_linker.proofs.whole.sites_of_first.Goals as goal

pub loop-i-preserved : goal.loop-i-preserved
loop-i-preserved c = record {
  is = rw (c.trusted_sites.ensures.is, c.loop-i.invariant.is)
      (sym (sum_more trusted_sites c.args.parts.now c.loop-i.i c.part.result c.part.ensures));
  few = omega (arith, c.loop-i.invariant.few, c.trusted_sites.ensures.few);
}
