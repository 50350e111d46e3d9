use Rattle.std.proofs.Common.{◌≡◌, ap, ◌∙◌, sym, true, is_some, Some}
use Rattle.lcm_machine.specs.Cells.{cell}
use Rattle.lcm_machine.proofs.Offers.{cell-set_same, cell-set_other, cell-drop_other}
use Rattle.overlay_machine.specs.declared.words.OWord.TheVariants.{Plain}
use Rattle.overlay_machine.proofs.CopyLemmas.{copied_there}
use Rattle.overlay_machine.proofs.copies.copy_cell.Goals as goal

pub returns-then-has_cell-clause-here : goal.returns-then-has_cell-clause-here
returns-then-has_cell-clause-here c =
    let t : is_some (cell c.args.maps.now.cells c.args.at) ≡ true =
    sym (sym c.if-not-has_cell.false ∙ c.has_cell.ensures.is) in
    ap (λ s. cell s.cells c.args.at) c.swap.ensures.now
    ∙ cell-set_same c.args.maps.now.cells c.args.at (Plain c.made_anew.result)
    ∙ copied_there (cell c.args.maps.now.cells c.args.at) (cell c.args.state.now.maps.cells c.args.at)
    c.made_anew.result t (c.cell.ensures ∙ ap Some (sym c.made_anew.ensures))

pub returns-then-has_cell-clause-elsewhere : goal.returns-then-has_cell-clause-elsewhere
returns-then-has_cell-clause-elsewhere c = λ a ne.
    ap (λ s. cell s.cells a) c.swap.ensures.now
    ∙ cell-set_other c.args.maps.now.cells c.args.at a (Plain c.made_anew.result) ne

pub returns-else-has_cell-clause-elsewhere : goal.returns-else-has_cell-clause-elsewhere
returns-else-has_cell-clause-elsewhere c = λ a ne.
    ap (λ s. cell s.cells a) c.remove_cell.ensures.now ∙ cell-drop_other c.args.maps.now.cells c.args.at a ne
