-- What halving finds is the first.
use Rattle.std.proofs.Common.{rules, sym}
use Rattle.std.proofs.lemmas.List.Sorted.{answers_always}
use Rattle.linked_starts.specs.declared.owners.Site.{Site}
use Rattle.linked_starts.proofs.SiteSearch.{at_place, at_none, no_site}
use Rattle.linked_starts.proofs.site_list.place_at.Goals as goal

pub returns-in-Ok : goal.returns-in-Ok
returns-in-Ok c =
    sym (at_place c.args.sites.now c.args.at c.in-Ok.place no_site c.requires c.in-Ok.ensures.bound
    (c.in-Ok.ensures.position (λ (s : Site). s.at)
    (answers_always _ _ _ (λ f a r g called. search rules))))

pub returns-in-Err : goal.returns-in-Err
returns-in-Err c =
    sym (at_none c.args.sites.now c.args.at c.in-Err.field-0 no_site c.requires
    (c.in-Err.ensures.position (λ (s : Site). s.at)
    (answers_always _ _ _ (λ f a r g called. search rules))))
