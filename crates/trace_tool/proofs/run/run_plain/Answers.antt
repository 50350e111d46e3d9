use Rattle.trace_tool.proofs.run.run_plain.Goals as goal

pub returns-then-has_trusted-clause-headline : goal.returns-then-has_trusted-clause-headline
returns-then-has_trusted-clause-headline g c =
    λ parts size is. c.the_headline.ensures.holds parts size c.args.start.now is

pub returns-then-has_trusted-clause-calls : goal.returns-then-has_trusted-clause-calls
returns-then-has_trusted-clause-calls g c =
    λ parts size is. c.open_calls_are_kept.ensures.kept parts size c.args.start.now is

pub returns-else-has_trusted-clause-headline : goal.returns-else-has_trusted-clause-headline
returns-else-has_trusted-clause-headline g c =
    λ parts size is. c.the_headline.ensures.holds parts size c.args.start.now is

pub returns-else-has_trusted-clause-calls : goal.returns-else-has_trusted-clause-calls
returns-else-has_trusted-clause-calls g c =
    λ parts size is. c.open_calls_are_kept.ensures.kept parts size c.args.start.now is
