use Rattle.std.proofs.Common.{◌≡◌, ◌-◌, true, length}
use Rattle.proc_language.specs.declared.TheConstants.{MOST_LOCALS}
use Rattle.proc_grammar.specs.Grammar.{behind_local}
use Rattle.proc_grammar.specs.Lexemes.{a_local}
use Rattle.proc_grammar.specs.Reader.{many}
use Rattle.proc_grammar.specs.Reading.{full, next_local}
use Rattle.proc_parse.specs.Answers.{AreFew}
use Rattle.proc_parse.specs.Loops.{in_all}
use Rattle.proc_parse.proofs.procs.locals.Given as goal

abbrev pub invariant-loop-alloc : goal.invariant-loop-alloc
invariant-loop-alloc g l = record {
  told : in_all (a_local g.L.Language.made.tokens) (behind_local g.L.Language.made)
      (next_local g.L.Language.made true full) full l.locals.items
      l.used l.tokens
      ≡ many full (a_local g.L.Language.made.tokens) (behind_local g.L.Language.made)
      (next_local g.L.Language.made true full)
      (record { slots = 0; tokens = l.held }) l.initial.tokens;
  few : AreFew MOST_LOCALS l.used;
}

abbrev pub decreases-loop-alloc : goal.decreases-loop-alloc
decreases-loop-alloc g l = full - length l.locals.items
