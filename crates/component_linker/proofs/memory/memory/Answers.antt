-- The machine is made of the regions' spans, and the words of the parts come over its zeros.
use Rattle.std.proofs.Common.{List, subst, sym, ap, refl, ◌∙◌, Some, None, pos}
use Rattle.std.specs.Prelude.{IsSome, if◌then◌else◌}
use Rattle.cap_words.specs.declared.Word.TheVariants.{Int}
use Rattle.lcm_machine.specs.declared.cells.Span.{Span}
use Rattle.lcm_machine.specs.Spans.{in_spans}
use Rattle.lcm_machine.specs.Run.{Run}
use Rattle.linked_starts.specs.Regions.{regions_of, in_regions, AreSpansOf}
use Rattle.linked_starts.proofs.Offers.{are_spans, are_spans_of, in_spans_is, is_slot, room, separate}
use Rattle.linked_starts.proofs.Offers.{sorted_cells_are as cells_are}
use Rattle.component_linker.proofs.memory.memory.Goals as goal

pub make-requires : goal.make-requires
make-requires c =
    rw c.deref.ensures.value
    (are_spans c.args.parts.now c.args.size c.stack_of.result c.in_ok-spans.spans.items c.requires
    c.stack_of.ensures.is c.in_ok-spans.ensures.same c.in_ok-spans.ensures.ascend)

pub lay_parts-requires-clause-separate : goal.lay_parts-requires-clause-separate
lay_parts-requires-clause-separate c =
    separate c.args.parts.now c.args.size c.requires.closed c.requires.apart

pub lay_parts-requires-clause-room : goal.lay_parts-requires-clause-room
lay_parts-requires-clause-room c k a p w at h =
    let e = in_spans_is c.args.parts.now c.args.size c.stack_of.result c.in_ok-spans.spans.items
    c.stack_of.ensures.is c.in_ok-spans.ensures.same a in
    let in' = room c.args.parts.now c.args.size c.requires.closed k a p w at h in
    let m = c.in_ok-state.ensures.cells a in
    let z = is_slot c.args.parts.now c.args.size a c.deref.result.now
    (ap (λ ss. in_spans a ss) c.deref.ensures.value ∙ e) in
    let there : IsSome
    (if in_regions a (regions_of c.args.parts.now c.args.size) then Some (Int (pos 0)) else None) =
    rw in' refl in
    subst IsSome (sym (m ∙ z)) there

pub returns-clause-cells : goal.returns-clause-cells
returns-clause-cells c a =
    let e = in_spans_is c.args.parts.now c.args.size c.stack_of.result c.in_ok-spans.spans.items
    c.stack_of.ensures.is c.in_ok-spans.ensures.same a in
    cells_are c.args.parts.now c.args.size a c.deref.result.now c.in_ok-state.state c.lay_parts.new.state
    (ap (λ ss. in_spans a ss) c.deref.ensures.value ∙ e) (c.in_ok-state.ensures.cells a)
    (c.lay_parts.ensures.cells a)

pub returns-clause-spans : goal.returns-clause-spans
returns-clause-spans c =
    let P : List Span → Type 0 = λ ss. AreSpansOf c.args.parts.now c.args.size ss in
    subst P (sym
    (ap (λ (r : Run). r.maps.spans) c.lay_parts.ensures.rest ∙ c.in_ok-state.ensures.spans
    ∙ c.deref.ensures.value))
    (are_spans_of c.args.parts.now c.args.size c.stack_of.result c.in_ok-spans.spans.items
    c.stack_of.ensures.is c.in_ok-spans.ensures.same c.in_ok-spans.ensures.ascend)
