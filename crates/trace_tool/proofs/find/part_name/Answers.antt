use Rattle.std.proofs.Common.{rules, sym, subst, ◌≤◌, length}
use Rattle.cap_words.specs.declared.TheConstants.{LONGEST_NAME}
use Rattle.trace_tool.proofs.Names.{part_is_short}
use Rattle.trace_tool.proofs.find.part_name.Goals as goal

pub returns-in-Some-clause-short : goal.returns-in-Some-clause-short
returns-in-Some-clause-short c =
    subst (λ n. length n ≤ LONGEST_NAME) (sym c.as_slice.ensures)
    (part_is_short c.args.start.now.sites c.args.start.now.owners c.is_laid.ensures c.args.part
    c.in-Some.owner.now (search rules))
