-- Data, slots and code are there, and laid over one another they are the part's words.
use Rattle.std.proofs.Common.{length, ap, arith}
use Rattle.std.specs.Prelude.{IsSome, slice_get}
use Rattle.lcm_machine.specs.Cells.{cell}
use Rattle.linked_starts.specs.Start.{from, first_given, slot_word, part_word}
use Rattle.linked_starts.proofs.Offers.{code_there, data_there, part_laid, still_there, with_some}
use Rattle.component_linker.proofs.laying.lay_part.Goals as goal

pub lay_words-requires-clause-room : goal.lay_words-requires-clause-room
lay_words-requires-clause-room c a low high =
    let base = c.data_base.ensures.is in
    let same = ap length c.data_words.ensures.is in
    with_some (part_word c.args.parts.now a c.args.part.now) (IsSome (cell c.args.state.now.maps.cells a))
    (data_there c.args.parts.now c.args.part.now a (omega (arith, base, low))
    (omega (arith, base, same, high)))
    (λ w h. c.requires.room a w h)

pub lay_slots-requires-clause-room : goal.lay_slots-requires-clause-room
lay_slots-requires-clause-room c a low high =
    still_there (from c.data_base.result (slice_get c.data_words.result))
    c.args.state.now c.lay_words.new.state a c.lay_words.ensures
    (with_some (part_word c.args.parts.now a c.args.part.now) (IsSome (cell c.args.state.now.maps.cells a))
    (data_there c.args.parts.now c.args.part.now a low high) (λ w h. c.requires.room a w h))

pub lay_words-requires-2-clause-room : goal.lay_words-requires-2-clause-room
lay_words-requires-2-clause-room c a low high =
    let base = c.code_base.ensures.is in
    let same = ap length c.code.ensures.is in
    still_there
    (from c.args.part.now.component.data_base
    (λ o. first_given (slot_word c.args.parts.now o) c.args.part.now.component.imports))
    c.lay_words.new.state c.lay_slots.new.state a c.lay_slots.ensures
    (still_there (from c.data_base.result (slice_get c.data_words.result))
    c.args.state.now c.lay_words.new.state a c.lay_words.ensures
    (with_some (part_word c.args.parts.now a c.args.part.now) (IsSome (cell c.args.state.now.maps.cells a))
    (code_there c.args.parts.now c.args.part.now a (omega (arith, base, low))
    (omega (arith, base, same, high)))
    (λ w h. c.requires.room a w h)))

pub returns : goal.returns
returns c =
    part_laid c.args.parts.now c.args.part.now c.args.state.now c.lay_words.new.state c.lay_slots.new.state
    c.lay_words-2.new.state c.data_base.result c.code_base.result c.data_words.result c.code.result
    c.data_base.ensures.is c.data_words.ensures.is c.code_base.ensures.is c.code.ensures.is
    c.lay_words.ensures c.lay_slots.ensures c.lay_words-2.ensures
