-- A site is listed after those before it; where the part has no more, or isn't trusted, its sites are all
-- listed.
use Rattle.std.proofs.Common.{◌+◌, get_or, length, refl, sym, ap, ◌∙◌, arith, None}
use Rattle.std.specs.Prelude.{slice_get}
use Rattle.std.proofs.lemmas.Option.{slice_get-get_or}
use Rattle.linked_starts.specs.declared.owners.Site.{Site}
use Rattle.linked_starts.specs.Owners.{IsSite}
use Rattle.linked_starts.proofs.Offers.{next_site, site_fits, sites_done, untrusted_done}
use Rattle.component_linker.proofs.owners.push_sites.Goals as goal

pub returns-then-not-trusted : goal.returns-then-not-trusted
returns-then-not-trusted c =
    untrusted_done c.args.parts.now c.args.number c.part-part.result c.args.sites.now.items c.requires.before
    c.part-part.ensures (sym c.trusted.ensures ∙ c.if-not-trusted.true)

pub overflow_add-base : goal.overflow_add-base
overflow_add-base c =
    let os = c.sites-offset-items.result.now in
    let at = ap (λ xs. slice_get xs c.loop-index.index) (sym c.sites-offset-items.ensures.is)
    ∙ slice_get-get_or os c.loop-index.index 0 c.loop-index-test.true in
    let kept = c.requires.closed.kept c.args.number c.part-part.result c.part-part.ensures in
    let high =
    site_fits c.part-part.result.component.sites None c.loop-index.index (get_or os c.loop-index.index 0)
    kept.limits.sites.1 at in
    let low = c.code_base-base.ensures.in_space in
    omega (arith, high, low)

pub loop-index-preserved : goal.loop-index-preserved
loop-index-preserved c =
    let os = c.sites-offset-items.result.now in
    let j = c.loop-index.index in
    let at = ap (λ xs. slice_get xs j) (sym c.sites-offset-items.ensures.is)
    ∙ slice_get-get_or os j 0 c.loop-index-test.true in
    let y : Site =
    record {
      part = c.args.number;
      index = j;
      seal = c.base-first.result + j;
      at =
          c.code_base-base.result + get_or os j 0;
    } in
    let site : IsSite c.args.parts.now y = record {
      of = c.part-part.result;
      of_is = c.part-part.ensures;
      trusted = sym c.trusted.ensures ∙ c.if-not-trusted.false;
      offset = get_or os j 0;
      offset_is = at;
      seal = ap (λ b. b + j) (c.base-first.ensures.same ∙ ap (λ r. r.base) c.seals.ensures);
      at = ap (λ b. b + get_or os j 0) c.code_base-base.ensures.is;
    } in
    rw c.in_ok-push.ensures.items
    (next_site c.args.parts.now c.args.number j c.loop-index.sites.items y c.requires.closed
    c.requires.separate c.loop-index.invariant site refl refl)

pub returns : goal.returns
returns c =
    let e = ap length c.sites-offset-items.ensures.is in
    sites_done c.args.parts.now c.args.number c.loop-index.index c.part-part.result c.loop-index.sites.items
    c.loop-index.invariant c.part-part.ensures (omega (arith, e))
