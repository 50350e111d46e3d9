-- A turn lays one word more.
use Rattle.std.proofs.Common.{◌≡◌, ◌+◌, length, ap, ◌∙◌, sym, arith}
use Rattle.std.specs.Prelude.{slice_get, None, Some}
use Rattle.std.specs.Option.{option_or}
use Rattle.lcm_machine.specs.declared.Place.TheVariants.{Cell}
use Rattle.lcm_machine.specs.Row.{put}
use Rattle.linked_starts.specs.Laying.{single}
use Rattle.linked_starts.specs.Start.{from}
use Rattle.linked_starts.proofs.Offers.{lays_as, lays_none, lays_put, lays_then, still_there, upto, upto_all}
use Rattle.linked_starts.proofs.Offers.{upto_more, upto_none}
use Rattle.component_linker.proofs.laying.lay_words.Goals as goal

pub loop-index-init : goal.loop-index-init
loop-index-init c =
    lays_as (λ a. None) (from c.args.base (upto 0 (slice_get c.args.words.now)))
    c.args.state.now c.args.state.now (upto_none (slice_get c.args.words.now) c.args.base)
    (lays_none c.args.state.now)

pub set-requires : goal.set-requires
set-requires c =
    still_there (from c.args.base (upto c.loop-index.index (slice_get c.args.words.now)))
    c.args.state.now c.loop-index.state (c.args.base + c.loop-index.index) c.loop-index.invariant
    (c.requires.room (c.args.base + c.loop-index.index) (omega arith) (omega arith))

pub loop-index-preserved : goal.loop-index-preserved
loop-index-preserved c =
    let f = from c.args.base (upto c.loop-index.index (slice_get c.args.words.now)) in
    let at = c.args.base + c.loop-index.index in
    let here = c.word-word.ensures ∙ ap Some (sym c.of.ensures) in
    rw c.set.ensures
    (lays_as (λ a. option_or (single at c.of.result a) (f a))
    (from c.args.base (upto (c.loop-index.index + 1) (slice_get c.args.words.now)))
    c.args.state.now
    (record c.loop-index.state { maps = put c.loop-index.state.maps (Cell at) c.of.result })
    (upto_more (slice_get c.args.words.now) c.args.base c.loop-index.index c.of.result here)
    (lays_then f (single at c.of.result)
    c.args.state.now c.loop-index.state
    (record c.loop-index.state { maps = put c.loop-index.state.maps (Cell at) c.of.result })
    c.loop-index.invariant (lays_put c.loop-index.state at c.of.result)))

pub returns : goal.returns
returns c =
    let n : c.loop-index.index ≡ length c.args.words.now = omega arith in
    lays_as (from c.args.base (upto c.loop-index.index (slice_get c.args.words.now)))
    (from c.args.base (slice_get c.args.words.now)) c.args.state.now c.loop-index.state
    (λ a. ap (λ k. from c.args.base (upto k (slice_get c.args.words.now)) a) n
    ∙ upto_all c.args.words.now c.args.base a) c.loop-index.invariant
