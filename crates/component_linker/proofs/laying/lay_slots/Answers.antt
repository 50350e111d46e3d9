-- Each import names an entry of a part; its two words come after those of the imports before.
use Rattle.std.proofs.Common.{◌≡◌, ◌+◌, length, sym, ap, ◌∙◌, arith}
use Rattle.linked_starts.specs.Start.{from}
use Rattle.linked_starts.proofs.Offers.{entry_kept, item_at, not_none, slots_end, slots_laid, slots_upto}
use Rattle.linked_starts.proofs.Offers.{still_there}
use Rattle.component_linker.proofs.laying.lay_slots.Goals as goal

pub unreachable-requires : goal.unreachable-requires
unreachable-requires c =
    let at = item_at c.args.part.now.component.imports c.imports-import-items.result.now
    c.loop-import.import-index c.import-item.result c.imports-import-items.ensures.is
    c.loop-import-test.true c.import-item.is in
    not_none _ (c.requires.found c.loop-import.import-index c.import-item.result at)
    (sym c.imported.ensures ∙ c.in_default.is)

pub overflow_add-data_base : goal.overflow_add-data_base
overflow_add-data_base c =
    let p = c.args.part.now in
    let i = c.import-item.result in
    let at = item_at p.component.imports c.imports-import-items.result.now c.loop-import.import-index i
    c.imports-import-items.ensures.is c.loop-import-test.true c.import-item.is in
    let within = c.requires.kept.slots_in c.loop-import.import-index i at in
    let end = c.requires.kept.data_end in
    let base = c.data_base.ensures.is in
    omega (arith, base, within, end)

pub lay_halves-requires : goal.lay_halves-requires
lay_halves-requires c =
    let p = c.args.part.now in
    let i = c.import-item.result in
    let at = item_at p.component.imports c.imports-import-items.result.now c.loop-import.import-index i
    c.imports-import-items.ensures.is c.loop-import-test.true c.import-item.is in
    let within = c.requires.kept.slots_in c.loop-import.import-index i at in
    let end = c.requires.kept.data_end in
    let base = c.data_base.ensures.is in
    let f = from p.component.data_base
    (slots_upto c.args.parts.now p.component.imports c.loop-import.import-index) in
    record {
      kept = entry_kept c.args.parts.now i c.in-Some.entry c.requires.closed
          (sym c.imported.ensures ∙ c.in-Some.is);
      fits = omega (arith, base, within, end);
      first = still_there f c.args.state.now c.loop-import.state (c.data_base.result + i.slot)
          c.loop-import.invariant
          (c.requires.room (c.data_base.result + i.slot) (omega (arith, base)) (omega (arith, base, within)));
      second = still_there f c.args.state.now c.loop-import.state (c.data_base.result + i.slot + 1)
          c.loop-import.invariant
          (c.requires.room (c.data_base.result + i.slot + 1) (omega (arith, base))
          (omega (arith, base, within)));
    }

pub loop-import-preserved : goal.loop-import-preserved
loop-import-preserved c =
    let p = c.args.part.now in
    let i = c.import-item.result in
    let at = item_at p.component.imports c.imports-import-items.result.now c.loop-import.import-index i
    c.imports-import-items.ensures.is c.loop-import-test.true c.import-item.is in
    slots_laid c.args.parts.now p c.args.state.now c.loop-import.state c.lay_halves.new.state
    c.loop-import.import-index c.data_base.result i c.in-Some.entry c.requires.kept at
    (sym c.imported.ensures ∙ c.in-Some.is)
    c.data_base.ensures.is c.loop-import.invariant c.lay_halves.ensures

pub returns : goal.returns
returns c =
    let n : c.loop-import.import-index ≡ length c.imports-import-items.result.now = omega arith in
    slots_end c.args.parts.now c.args.part.now c.args.state.now c.loop-import.state c.loop-import.import-index
    (n ∙ ap length c.imports-import-items.ensures.is) c.loop-import.invariant
