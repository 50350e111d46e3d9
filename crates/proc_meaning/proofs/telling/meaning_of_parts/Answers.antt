use Rattle.std.proofs.Common.{sym, ap, ◌∙◌, reverse}
use Rattle.proc_meaning.specs.declared.places.Run.{Run}
use Rattle.proc_semantics.specs.Told.{Comp}
use Rattle.proc_semantics.specs.Values.{main_target}
use Rattle.proc_semantics.specs.Meaning.{start}
use Rattle.proc_semantics.specs.Whole.{whole}
use Rattle.proc_meaning.specs.Rest.{now_of}
use Rattle.proc_meaning.proofs.Works.{kept}
use Rattle.proc_meaning.proofs.Ticking.{none_more}
use Rattle.proc_semantics.proofs.Offers.{starts}
use Rattle.proc_meaning.proofs.telling.meaning_of_parts.Goals as goal

pub returns : goal.returns
returns c =
    let world = c.args.world.now in let n = c.first-now.result in let st = c.in_ok-store.store.items in
    let feed = c.args.feed.now in let fuel = c.args.fuel in let r : Run = c.none-run.result in
    c.told.ensures ∙ c.in_ok-end.ensures
    ∙ none_more c.new-events.result.items _ c.new-events.ensures.items
    ∙ ap (λ (m : Comp). m fuel feed)
    (kept world n c.new-work.result.items r st
    ∙ ap (λ l. now_of world n (reverse l) r st) c.new-work.ensures.items
    ∙ sym (c.first-now.ensures r st)
    ∙ ap (start world (whole world) c.args.stack (main_target world)) c.in_ok-store.ensures)
    ∙ starts world c.args.stack feed fuel
