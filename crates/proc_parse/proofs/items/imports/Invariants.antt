use Rattle.std.proofs.Common.{◌≡◌, ◌≤◌, ◌-◌, ◌+◌, true, length}
use Rattle.std.specs.Prelude.{codes}
use Rattle.proc_language.specs.declared.TheConstants.{MOST_ITEMS}
use Rattle.proc_grammar.specs.Lexemes.{word, words_of}
use Rattle.proc_grammar.specs.Grammar.{one_more}
use Rattle.proc_grammar.specs.Reader.{many}
use Rattle.proc_grammar.specs.Reading.{full, next_import}
use Rattle.proc_parse.specs.Loops.{in_all}
use Rattle.proc_parse.proofs.items.imports.Given as goal

abbrev pub invariant-loop-alloc : goal.invariant-loop-alloc
invariant-loop-alloc g l = record {
  told : in_all (word (codes "import")) one_more (next_import (words_of g.L.Language.made.tokens) true) full
      l.imports.items
      (length l.imports.items) l.tokens
      ≡ many full (word (codes "import")) one_more (next_import (words_of g.L.Language.made.tokens) true) 0
      l.initial.tokens;
  few : length l.imports.items ≤ MOST_ITEMS;
}

abbrev pub decreases-loop-alloc : goal.decreases-loop-alloc
decreases-loop-alloc g l = MOST_ITEMS + 1 - length l.imports.items
