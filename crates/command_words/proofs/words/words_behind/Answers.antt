use Rattle.std.proofs.Common.{◌≡◌, drop, refl, vec_len, length, IfOk}
use Rattle.std.specs.Prelude.{Result, Ok, Err}
use Rattle.std.proofs.lemmas.Iterator.{YieldsList}
use Rattle.std.proofs.lemmas.Iterator.Adapters.{fact_from_collect, YieldsList-from_skip, YieldsList-from_vec}
use Rattle.std.specs.Iterator.Adapters.{skip_source}
use Rattle.std.specs.Vec.Iter.{into_iter_items, into_iter_steps}
use Rattle.command_words.proofs.words.words_behind.Goals as goal

the_first : {T E : Type 0} (P Q : T → Type 0) (r : Result T E) → IfOk r (λ v. P v × Q v) → IfOk r P
the_first P Q (Ok v) h = h.0
the_first P Q (Err e) h = h

pub returns : goal.returns
returns c =
    let items = into_iter_items c.args.args in
    let whole = YieldsList-from_vec items refl c.args.args.rest.ok.0 in
    let skipped : YieldsList into_iter_steps (λ y. y) (skip_source c.skip.result) items =
    rw c.skip.ensures.source whole in
    the_first (λ v. v.items ≡ drop 1 items) (λ v. vec_len v ≡ length (drop 1 items)) c.collect.result
    (fact_from_collect (λ xs v. (v.items ≡ xs) × (vec_len v ≡ length xs)) c.collect.result
    c.collect.ensures.ran (YieldsList-from_skip 1 skipped c.skip.ensures.count))
