use Rattle.std.proofs.Common.{sym, ap, ◌∙◌}
use Rattle.lcm_machine.specs.declared.cells.Span.{Span}
use Rattle.component_linker.specs.declared.grant.StackGrant.{StackGrant}
use Rattle.linked_starts.specs.Start.{registered}
use Rattle.linked_starts.proofs.Offers.{main_kept, started}
use Rattle.component_linker.proofs.machine.machine.Goals as goal

pub set_registers-requires-clause-kept : goal.set_registers-requires-clause-kept
set_registers-requires-clause-kept c =
    main_kept c.args.parts.now c.in-Some.main c.requires.closed (sym c.main_of.ensures ∙ c.in-Some.is)

pub returns : goal.returns
returns c =
    started c.args.parts.now c.args.size c.in-Some.main c.in_ok-state.state c.set_registers.new.state
    c.stack_of.result (sym c.main_of.ensures ∙ c.in-Some.is)
    c.in_ok-state.ensures.cells c.in_ok-state.ensures.regs c.in_ok-state.ensures.spans
    c.in_ok-state.ensures.fresh c.stack_of.ensures.ends
    (c.set_registers.ensures
    ∙ ap (λ (s : Span).
    record c.in_ok-state.state { maps = registered c.in_ok-state.state.maps c.in-Some.main s })
    (ap (λ (g : StackGrant). g.stack) c.of-grant.ensures))
