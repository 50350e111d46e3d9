use Rattle.std.proofs.Common.{◌≡◌, ◌≤◌, ◌+◌, ◌*◌, ◌-◌, true, length}
use Rattle.proc_parse.specs.Loops.{terms_behind, item_on, behind_some}
use Rattle.proc_grammar.specs.Grammar.{behind_arg}
use Rattle.proc_grammar.specs.Lexemes.{sign, comma}
use Rattle.proc_language.specs.declared.TheConstants.{MOST_TERMS, MOST_REGISTERS}
use Rattle.proc_grammar.specs.Reading.{full, inner_expr, another_arg, next_arg}
use Rattle.proc_parse.proofs.exprs.+expr.Given as goal

abbrev pub decreases-expr : goal.decreases-expr
decreases-expr g l = l.room * 8 + 6

abbrev pub decreases-sum : goal.decreases-sum
decreases-sum g l = l.room * 8 + 5

abbrev pub decreases-term : goal.decreases-term
decreases-term g l = l.room * 8 + 4

abbrev pub decreases-name_term : goal.decreases-name_term
decreases-name_term g l = l.room * 8 + 3

abbrev pub decreases-bracketed : goal.decreases-bracketed
decreases-bracketed g l = l.room * 8

abbrev pub decreases-args : goal.decreases-args
decreases-args g l = l.room * 8 + 1

abbrev pub decreases-arg : goal.decreases-arg
decreases-arg g l = l.room * 8

abbrev pub invariant-sum-loop-sum : goal.invariant-sum-loop-sum
invariant-sum-loop-sum g l = record {
  told : terms_behind g.L.Language.made l.room (full + 1 - l.count) l.count l.sum l.tokens
      ≡ terms_behind g.L.Language.made l.room
      (full + 1 - l.initial.count) l.initial.count l.initial.sum l.initial.tokens;
  some : 1 ≤ l.count;
  few : l.count ≤ MOST_TERMS;
}

abbrev pub decreases-sum-loop-sum : goal.decreases-sum-loop-sum
decreases-sum-loop-sum g l = MOST_TERMS + 1 - l.count

abbrev pub invariant-args-loop-args : goal.invariant-args-loop-args
invariant-args-loop-args g l =
    let inner = inner_expr g.L.Language.made true full l.room in
    let another = another_arg g.L.Language.made true full l.room inner in
    let item = next_arg g.L.Language.made true full l.room inner in
    record {
      told : behind_some (sign comma) (behind_arg g.L.Language.made) another item l.args.items l.used l.tokens
          ≡ item_on (sign comma) (behind_arg g.L.Language.made) another item full 0 l.initial.tokens;
      few : l.used ≤ MOST_REGISTERS;
    }

abbrev pub decreases-args-loop-args : goal.decreases-args-loop-args
decreases-args-loop-args g l = full - length l.args.items
