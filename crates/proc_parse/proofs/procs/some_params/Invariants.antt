use Rattle.std.proofs.Common.{◌≡◌, ◌-◌, true, length}
use Rattle.std.specs.Prelude.{sum_by}
use Rattle.proc_language.specs.declared.TheConstants.{MOST_REGISTERS}
use Rattle.proc_grammar.specs.Grammar.{behind_param, none_taken}
use Rattle.proc_grammar.specs.Lexemes.{sign, comma}
use Rattle.proc_grammar.specs.Reading.{full, another_param, next_param}
use Rattle.proc_parse.specs.Answers.{AreFew}
use Rattle.proc_parse.specs.Loops.{item_on, behind_some}
use Rattle.proc_parse.proofs.procs.some_params.Given as goal

abbrev pub invariant-loop-params : goal.invariant-loop-params
invariant-loop-params g l =
    let another = another_param g.L.Language.made true full in
    let item = next_param g.L.Language.made true full in
    record {
      told : behind_some (sign comma) (behind_param g.L.Language.made) another item l.params.items l.used
          l.tokens
          ≡ item_on (sign comma) (behind_param g.L.Language.made) another item full none_taken
          l.initial.tokens;
      count : l.used.tokens ≡ sum_by g.L.Language.made.param_tokens l.params.items;
      few : AreFew MOST_REGISTERS l.used;
    }

abbrev pub decreases-loop-params : goal.decreases-loop-params
decreases-loop-params g l = full - length l.params.items
