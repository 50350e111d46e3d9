-- All of it follows from the answer that was given.
use Rattle.command_words.specs.Action.{asked_in}
use Rattle.command_words.specs.Texts.{texts}
use Rattle.lcm_cli.proofs.Caused.{promised, usage}
use Rattle.lcm_cli.proofs.Put.{files_stay, put_whole}
use Rattle.lcm_cli.proofs.LoadsMade.{loads}
use Rattle.lcm_cli.proofs.Audits.{audits}
use Rattle.lcm_cli.proofs.DebugsMade.{debugs}
use Rattle.lcm_cli.proofs.MeaningMade.{means}
use Rattle.lcm_cli.proofs.SourcesMade.{modules_told, sources_told}
use Rattle.lcm_cli.proofs.RunsMade.{all_of, runs, traces, reaches, run_cut, trace_cut}
use Rattle.lcm_cli.proofs.top.stk_main.Goals as goal

pub returns-clause-promised : goal.returns-clause-promised
returns-clause-promised g c = promised
    (asked_in (texts c.args.words.now.items)) (c.commands_fit.ensures (texts c.args.words.now.items)) _ _ _
    (rw c.as_slice.ensures.value at c.answer.ensures)

pub returns-clause-ran : goal.returns-clause-ran
returns-clause-ran g c = λ l steps e r a.
    runs
    (all_of c.open_calls_are_kept.ensures.kept c.frames_are_secret.ensures.secret
    c.code_outside_is_confined.ensures c.the_headline.ensures.holds)
    c.runs_pass.ensures
    (asked_in (texts c.args.words.now.items)) (c.commands_fit.ensures (texts c.args.words.now.items)) _ _ _
    a l steps e r

pub returns-clause-traced : goal.returns-clause-traced
returns-clause-traced g c = λ l steps e r a.
    traces
    (all_of c.open_calls_are_kept.ensures.kept c.frames_are_secret.ensures.secret
    c.code_outside_is_confined.ensures c.the_headline.ensures.holds)
    c.a_start_has_one_overlay.ensures
    (asked_in (texts c.args.words.now.items)) _ _ _ a l steps e r

pub returns-clause-reached : goal.returns-clause-reached
returns-clause-reached g c = λ l e r a.
    reaches
    (all_of c.open_calls_are_kept.ensures.kept c.frames_are_secret.ensures.secret
    c.code_outside_is_confined.ensures c.the_headline.ensures.holds)
    c.reports_bound_runs.ensures.bound
    c.reports_bound_influence.ensures.influence
    (asked_in (texts c.args.words.now.items)) _ _ _ a l e r

pub returns-clause-debugged : goal.returns-clause-debugged
returns-clause-debugged g c = λ l script e r a.
    debugs
    (all_of c.open_calls_are_kept.ensures.kept c.frames_are_secret.ensures.secret
    c.code_outside_is_confined.ensures c.the_headline.ensures.holds)
    c.commands_remember.ensures
    (asked_in (texts c.args.words.now.items)) _ _ _ a l script e r

pub returns-clause-audited : goal.returns-clause-audited
returns-clause-audited g c = λ name e a.
    audits (asked_in (texts c.args.words.now.items)) _ _ _ a name e

pub returns-clause-run_cut : goal.returns-clause-run_cut
returns-clause-run_cut g c = λ l steps e r a.
    run_cut
    (all_of c.open_calls_are_kept.ensures.kept c.frames_are_secret.ensures.secret
    c.code_outside_is_confined.ensures c.the_headline.ensures.holds)
    (asked_in (texts c.args.words.now.items)) _ _ _ a l steps e r

pub returns-clause-trace_cut : goal.returns-clause-trace_cut
returns-clause-trace_cut g c = λ l steps e r a.
    trace_cut
    (all_of c.open_calls_are_kept.ensures.kept c.frames_are_secret.ensures.secret
    c.code_outside_is_confined.ensures c.the_headline.ensures.holds)
    (asked_in (texts c.args.words.now.items)) _ _ _ a l steps e r

pub returns-clause-usage : goal.returns-clause-usage
returns-clause-usage g c = usage (asked_in (texts c.args.words.now.items)) _ _ _
    (rw c.as_slice.ensures.value at c.answer.ensures)

pub returns-clause-files_stay : goal.returns-clause-files_stay
returns-clause-files_stay g c = files_stay (asked_in (texts c.args.words.now.items)) _ _ _
    (rw c.as_slice.ensures.value at c.answer.ensures)

pub returns-clause-put_whole : goal.returns-clause-put_whole
returns-clause-put_whole g c = put_whole (asked_in (texts c.args.words.now.items)) _ _ _

pub returns-clause-meant : goal.returns-clause-meant
returns-clause-meant g c = λ words size fuel feed e r a.
    means (asked_in (texts c.args.words.now.items)) _ _ _ a words size fuel feed e r

pub returns-clause-generated : goal.returns-clause-generated
returns-clause-generated g c = loads
    (all_of c.open_calls_are_kept.ensures.kept c.frames_are_secret.ensures.secret
    c.code_outside_is_confined.ensures c.the_headline.ensures.holds)
    (asked_in (texts c.args.words.now.items)) _ _ _ (rw c.as_slice.ensures.value at c.answer.ensures)

pub returns-clause-sourced : goal.returns-clause-sourced
returns-clause-sourced g c = λ words stack steps e sources a.
    sources_told
    (record {
      starts =
          all_of c.open_calls_are_kept.ensures.kept c.frames_are_secret.ensures.secret
          c.code_outside_is_confined.ensures c.the_headline.ensures.holds;
      pass = c.runs_pass.ensures;
      sources = record {
        limits = c.sources_are_modules.ensures.limits;
        resolved = c.sources_are_modules.ensures.resolved;
        compiled_from = c.sources_are_modules.ensures.compiled;
      };
      mean = c.runs_mean.ensures;
      show = c.sources_show_nothing_else.ensures;
      begin = c.stacks_begin.ensures;
      tells = c.texts_tell_items.ensures.runs;
      keep = c.linked_modules_keep_rules.ensures;
    })
    (asked_in (texts c.args.words.now.items)) (c.commands_fit.ensures (texts c.args.words.now.items)) _ _ _
    a words stack steps e sources

pub returns-clause-compiled : goal.returns-clause-compiled
returns-clause-compiled g c = λ l steps e a.
    modules_told
    (record {
      starts =
          all_of c.open_calls_are_kept.ensures.kept c.frames_are_secret.ensures.secret
          c.code_outside_is_confined.ensures c.the_headline.ensures.holds;
      pass = c.runs_pass.ensures;
      sources = record {
        limits = c.sources_are_modules.ensures.limits;
        resolved = c.sources_are_modules.ensures.resolved;
        compiled_from = c.sources_are_modules.ensures.compiled;
      };
      mean = c.runs_mean.ensures;
      show = c.sources_show_nothing_else.ensures;
      begin = c.stacks_begin.ensures;
      tells = c.texts_tell_items.ensures.runs;
      keep = c.linked_modules_keep_rules.ensures;
    })
    (asked_in (texts c.args.words.now.items)) (c.commands_fit.ensures (texts c.args.words.now.items)) _ _ _
    a l steps e
