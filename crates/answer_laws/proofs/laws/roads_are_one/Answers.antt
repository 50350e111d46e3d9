use Rattle.std.proofs.Common.{List, ℕ, subst, sym}
use Rattle.proc_language.specs.declared.dialect.Dialect.TheVariants.{Tokens}
use Rattle.alike_modules.specs.Alike.{IsSourceOf}
use Rattle.answer_laws.specs.Roads.{IsErasure}
use Rattle.answer_laws.proofs.Roads.{roads_are_one}
use Rattle.answer_laws.proofs.laws.roads_are_one.Goals as goal

pub returns : goal.returns
returns c =
    roads_are_one (record {
      rules = c.alike_modules_mean_the_same.ensures.rules;
      base = c.alike_modules_mean_the_same.ensures.base;
      programs = c.alike_modules_mean_the_same.ensures.programs;
      again = again;
      text_is_read = c.text_is_read.ensures.again;
      limits = record {
        spelled = c.what_is_spelled_keeps_the_limits.ensures;
        limits = c.sources_are_modules.ensures.limits;
        resolved = c.sources_are_modules.ensures.resolved;
        programs = c.programs_keep_limits.ensures;
        calls = c.calls_are_kept.ensures;
        differ = c.names_differ.ensures;
        components = c.components_keep_rules.ensures.limits;
      };
    })
  where
    again : (text erased : List ℕ) (e : IsErasure text erased) → IsSourceOf erased e.m
    again text erased e =
        subst (λ t. IsSourceOf t e.m) (sym e.is)
        (c.printed_modules_are_sources.ensures e.m
        (c.sources_are_modules.ensures.limits Tokens text e.m e.spelled)
        (c.sources_are_modules.ensures.resolved Tokens text e.m e.spelled) e.readable)
