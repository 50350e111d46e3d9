use Rattle.std.proofs.Common.{◌∙◌, ◌<◌, sym, subst, arith, true}
use Rattle.std.specs.Prelude.{codes}
use Rattle.std.proofs.lemmas.Result.{err_from_is_err_and}
use Rattle.readers.specs.Readers.{◌>>=◌}
use Rattle.proc_language.specs.declared.TheConstants.{MOST_ITEMS}
use Rattle.proc_grammar.specs.Grammar.{room_in_body}
use Rattle.proc_grammar.specs.Lexemes.{word}
use Rattle.proc_grammar.specs.Reader.{one}
use Rattle.proc_grammar.specs.Reading.{full, next_proc, shared_behind, own_behind}
use Rattle.proc_parse.specs.Answers.{Gives}
use Rattle.proc_parse.proofs.Steps.{read_on, fails_on, case_there, case_none}
use Rattle.proc_parse.proofs.Parts.{shared_on, own_is}
use Rattle.proc_parse.proofs.procs.proc.Goals as goal

pub returns-in_err-word-clause-exact : goal.returns-in_err-word-clause-exact
unfolding next_proc
returns-in_err-word-clause-exact g c =
    let p = err_from_is_err_and c.from_residual.result c.from_residual.ensures.1 in
    let made = g.L.Language.made in
    let few : c.args.count < MOST_ITEMS = omega arith in
    rw (p.1, p.2) (fails_on _ _ _ (case_there (word (codes "export"))
    (shared_behind made true full room_in_body c.args.count)
    (one (word (codes "proc")) >>= own_behind made true full room_in_body c.args.count) c.args.tokens.now
    c.take_word.new.self c.in-Some.at (sym c.in-Some.ensures.value) c.in-Some.ensures.left
    ∙ shared_on made c.args.count c.in-Some.at c.take_word.new.self few) c.in_err-word.ensures)

pub returns-in-Some-clause-exact : goal.returns-in-Some-clause-exact
unfolding next_proc
returns-in-Some-clause-exact g c =
    let made = g.L.Language.made in
    let few : c.args.count < MOST_ITEMS = omega arith in
    subst (Gives c.behind_proc.result c.behind_proc.new.tokens) (sym (read_on _ (case_there
    (word (codes "export")) (shared_behind made true full room_in_body c.args.count)
    (one (word (codes "proc")) >>= own_behind made true full room_in_body c.args.count) c.args.tokens.now
    c.take_word.new.self c.in-Some.at (sym c.in-Some.ensures.value) c.in-Some.ensures.left
    ∙ shared_on made c.args.count c.in-Some.at c.take_word.new.self few)
    c.in_ok-word.ensures)) c.behind_proc.ensures

pub returns-in_err-at-clause-exact : goal.returns-in_err-at-clause-exact
unfolding next_proc
returns-in_err-at-clause-exact g c =
    let p = err_from_is_err_and c.from_residual-in_err-at.result c.from_residual-in_err-at.ensures.1 in
    let made = g.L.Language.made in
    rw (p.1, p.2) (fails_on _ _ _ (case_none (word (codes "export"))
    (shared_behind made true full room_in_body c.args.count)
    (one (word (codes "proc")) >>= own_behind made true full room_in_body c.args.count) c.args.tokens.now
    c.take_word.new.self (sym c.in_default.ensures.value) c.in_default.ensures.left
    ∙ own_is made c.args.count c.take_word.new.self) c.in_err-at.ensures.exact)

pub returns-clause-exact : goal.returns-clause-exact
unfolding next_proc
returns-clause-exact g c =
    let made = g.L.Language.made in
    subst (Gives c.behind_proc-2.result c.behind_proc-2.new.tokens) (sym (read_on _ (case_none
    (word (codes "export")) (shared_behind made true full room_in_body c.args.count)
    (one (word (codes "proc")) >>= own_behind made true full room_in_body c.args.count) c.args.tokens.now
    c.take_word.new.self (sym c.in_default.ensures.value) c.in_default.ensures.left
    ∙ own_is made c.args.count c.take_word.new.self) c.in_ok-at.ensures.exact)) c.behind_proc-2.ensures
