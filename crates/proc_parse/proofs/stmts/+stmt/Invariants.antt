use Rattle.std.proofs.Common.{◌≡◌, ◌+◌, ◌*◌, ◌-◌, true, length}
use Rattle.proc_parse.specs.Loops.{in_all}
use Rattle.proc_grammar.specs.Lexemes.{a_start}
use Rattle.proc_grammar.specs.Reader.{many}
use Rattle.proc_grammar.specs.Reading.{full, next_stmt, inner_stmts}
use Rattle.proc_parse.proofs.stmts.+stmt.Given as goal

abbrev pub decreases-stmts : goal.decreases-stmts
decreases-stmts g l = l.room * 8 + 7

abbrev pub decreases-stmt : goal.decreases-stmt
decreases-stmt g l = l.room * 8 + 6

abbrev pub decreases-if_stmt : goal.decreases-if_stmt
decreases-if_stmt g l = l.room * 8 + 4

abbrev pub decreases-while_stmt : goal.decreases-while_stmt
decreases-while_stmt g l = l.room * 8 + 4

abbrev pub decreases-block : goal.decreases-block
decreases-block g l = l.room * 8

abbrev pub invariant-stmts-loop-alloc : goal.invariant-stmts-loop-alloc
invariant-stmts-loop-alloc g l =
    in_all (a_start g.L.Language.made.tokens) (λ u s. u) (λ (u : Unit {0}). next_stmt g.L.Language.made true
    full l.room
    (inner_stmts g.L.Language.made true full l.room)) full l.stmts.items tt l.tokens
    ≡ many full (a_start g.L.Language.made.tokens) (λ u s. u) (λ (u : Unit {0}). next_stmt g.L.Language.made
    true full l.room
    (inner_stmts g.L.Language.made true full l.room)) tt l.initial.tokens

abbrev pub decreases-stmts-loop-alloc : goal.decreases-stmts-loop-alloc
decreases-stmts-loop-alloc g l = full - length l.stmts.items

abbrev pub decreases-plain_stmt : goal.decreases-plain_stmt
decreases-plain_stmt g l = l.room * 8 + 5
