use Rattle.std.proofs.Common.{◌≡◌, ◌≤◌, ◌-◌, ◌+◌, true, length}
use Rattle.proc_language.specs.declared.TheConstants.{MOST_ITEMS}
use Rattle.proc_grammar.specs.Grammar.{one_more, room_in_body}
use Rattle.proc_grammar.specs.Lexemes.{a_proc}
use Rattle.proc_grammar.specs.Reading.{full, next_proc}
use Rattle.proc_parse.specs.Loops.{item_on, behind_some}
use Rattle.proc_parse.proofs.procs.procs.Given as goal

abbrev pub invariant-loop-procs : goal.invariant-loop-procs
invariant-loop-procs g l =
    let item = next_proc g.L.Language.made true full room_in_body in
    record {
      told : behind_some a_proc one_more item item l.procs.items (length l.procs.items) l.tokens
          ≡ item_on a_proc one_more item item full 0 l.initial.tokens;
      few : length l.procs.items ≤ MOST_ITEMS;
    }

abbrev pub decreases-loop-procs : goal.decreases-loop-procs
decreases-loop-procs g l = MOST_ITEMS + 1 - length l.procs.items
