use Rattle.file_plans.specs.declared.refusal.Refusal.TheVariants.{Source}
use Rattle.file_plans.specs.Plans.{file, unless}
use Rattle.file_plans.proofs.Offers.{follows_meets}
use Rattle.proc_sources.specs.Sources.{module_in}
use Rattle.meaning_tool.specs.Subjects.{language_of, module_at}
use Rattle.meaning_tool.proofs.modules.module.Goals as goal

pub returns-clause-is : goal.returns-clause-is
unfolding module_at
returns-clause-is g c =
    follows_meets (file c.args.word.now.name c.args.index)
    (λ text. unless (Source c.args.index) (module_in (language_of c.args.word.now.ending) text)) _ _
    c.in_ok-text.text c.form.result c.in_ok-text.ensures.came
    (rw (c.as_slice.ensures, c.language_of.ensures) at c.form.ensures.exact)
