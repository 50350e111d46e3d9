use Rattle.std.proofs.Common.{rules, sym, ap, ◌∙◌, subst, ◌≤◌, length}
use Rattle.std.specs.Prelude.{slice_get}
use Rattle.cap_words.specs.declared.TheConstants.{LONGEST_NAME}
use Rattle.run_lines.specs.Layout.{layout}
use Rattle.trace_tool.proofs.Names.{entry_is_short, no_entry}
use Rattle.trace_tool.proofs.find.entry_name.Goals as goal

pub returns-in-Some-entry_at-clause-short : goal.returns-in-Some-entry_at-clause-short
returns-in-Some-entry_at-clause-short c =
    subst (λ n. length n ≤ LONGEST_NAME) (sym c.as_slice-in-Some-entry_at.ensures)
    (entry_is_short c.args.start.now.sites c.args.start.now.owners c.is_laid.ensures c.args.part
    c.in-Some.owner.now (search rules) c.args.entry c.in-Some-entry_at.entry.now
    (ap (λ es. slice_get es c.args.entry) (sym c.as_slice.ensures) ∙ sym c.in-Some-entry_at.ensures))

pub returns-in-None-clause-is : goal.returns-in-None-clause-is
returns-in-None-clause-is c =
    sym (no_entry (layout c.args.start.now) c.args.part c.args.entry c.in-Some.owner.now (search rules)
    (ap (λ es. slice_get es c.args.entry) (sym c.as_slice.ensures) ∙ sym c.in-None.ensures))
