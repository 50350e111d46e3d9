use Rattle.std.proofs.Common.{◌≡◌, ◌≤◌, ◌-◌, ◌+◌, true, length}
use Rattle.std.specs.Prelude.{codes}
use Rattle.proc_language.specs.declared.TheConstants.{MOST_ITEMS}
use Rattle.proc_grammar.specs.Lexemes.{word, words_of}
use Rattle.proc_grammar.specs.Grammar.{one_more}
use Rattle.proc_grammar.specs.Reader.{many}
use Rattle.proc_grammar.specs.Reading.{full, next_global}
use Rattle.proc_parse.specs.Loops.{in_all}
use Rattle.proc_parse.proofs.items.globals.Given as goal

abbrev pub invariant-loop-alloc : goal.invariant-loop-alloc
invariant-loop-alloc g l = record {
  told : in_all (word (codes "global")) one_more (next_global (words_of g.L.Language.made.tokens) true) full
      l.globals.items
      (length l.globals.items) l.tokens
      ≡ many full (word (codes "global")) one_more (next_global (words_of g.L.Language.made.tokens) true) 0
      l.initial.tokens;
  few : length l.globals.items ≤ MOST_ITEMS;
}

abbrev pub decreases-loop-alloc : goal.decreases-loop-alloc
decreases-loop-alloc g l = MOST_ITEMS + 1 - length l.globals.items
