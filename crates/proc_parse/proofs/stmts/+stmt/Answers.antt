use Rattle.std.proofs.Common.{◌≡◌, ◌∙◌, ◌<◌, ℕ, List, Result, Ok, refl, sym, ap, arith, true, length, ◌∷◌, []}
use Rattle.std.proofs.Common.{length-append}
use Rattle.std.specs.Prelude.{codes, not}
use Rattle.std.proofs.lemmas.Result.{err_from_is_err_and}
use Rattle.proc_grammar.specs.Reading.{full, next_stmt, inner_stmts, stmts_with, token_behind, plain_stmt}
use Rattle.proc_grammar.specs.Reading.{if_behind, while_behind}
use Rattle.proc_grammar.specs.Lexemes.{a_start}
use Rattle.proc_grammar.specs.Makes.{TokenActions}
use Rattle.proc_grammar.specs.Reader.{case_token, Input}
use Rattle.proc_grammar.specs.declared.fault.ParseFault.{ParseFault}
use Rattle.proc_parse.proofs.Steps.{stored_few, all_begin, all_step, all_fault, all_end, block_bad}
use Rattle.proc_parse.proofs.Steps.{block_open, block_shut}
use Rattle.proc_parse.proofs.Steps.{of_token, of_none, read_on, fails_on}
use Rattle.proc_parse.proofs.Parts.{if_alone, other_bad, if_other}
use Rattle.proc_parse.proofs.stmts.+stmt.Goals as goal

-- a block whose statements were put into a list
block_as : {S : Type 0} (read : Result ((List S × ℕ) × Input) ParseFault) (body stmts : List S) (end : ℕ)
    (l : Input) → read ≡ Ok ((body, end), l) → stmts ≡ body → read ≡ Ok ((stmts, end), l)
block_as read body stmts end l reads same = reads ∙ ap (λ w. Ok ((w, end), l)) (sym same)

pub block-returns-in_err-stmts : goal.block-returns-in_err-stmts
block-returns-in_err-stmts g n c =
    let p = err_from_is_err_and c.from_residual-in_err-stmts.result c.from_residual-in_err-stmts.ensures.1 in
    let lt : 0 < c.args.room = grind (arith, c.if-room-eq0.false) in
    rw (p.1, p.2) (block_bad g.L.Language.made c.args.room c.args.tokens.now c.sign.new.self c.in_ok-at.at
    c.in_ok-at.ensures lt c.in_err-stmts.field-0.0 c.in_err-stmts.ensures)

pub block-returns-in_err-end : goal.block-returns-in_err-end
block-returns-in_err-end g n c =
    let p = err_from_is_err_and c.from_residual-in_err-end.result c.from_residual-in_err-end.ensures.1 in
    let lt : 0 < c.args.room = grind (arith, c.if-room-eq0.false) in
    rw (p.1, p.2) (block_open g.L.Language.made c.args.room c.args.tokens.now c.sign.new.self c.in_ok-at.at
    c.in_ok-at.ensures lt c.in_ok-stmts.field-0.items c.stmts.new.tokens c.in_err-end.field-0.0
    c.in_ok-stmts.ensures c.in_err-end.ensures)

pub block-returns : goal.block-returns
block-returns g n c =
    let lt : 0 < c.args.room = grind (arith, c.if-room-eq0.false) in
    block_as _ _ c.of-stmts.result c.in_ok-end.end _ (block_shut g.L.Language.made c.args.room
    c.args.tokens.now c.sign.new.self c.in_ok-at.at c.in_ok-at.ensures lt c.in_ok-stmts.field-0.items
    c.stmts.new.tokens _ c.in_ok-end.end c.in_ok-stmts.ensures c.in_ok-end.ensures) c.of-stmts.ensures

pub stmts-loop-alloc-init : goal.stmts-loop-alloc-init
stmts-loop-alloc-init g n c = all_begin (a_start g.L.Language.made.tokens) (λ u s. u)
    (λ (u : Unit {0}). next_stmt g.L.Language.made true full c.args.room
    (inner_stmts g.L.Language.made true full c.args.room)) full tt c.args.tokens.now c.new-stmts.result.items
    c.new-stmts.ensures.items

pub stmts-returns-in_err-next : goal.stmts-returns-in_err-next
unfolding stmts_with
stmts-returns-in_err-next g n c =
    let p = err_from_is_err_and c.from_residual.result c.from_residual.ensures.1 in
    rw (p.1, p.2) (all_fault (a_start g.L.Language.made.tokens) (λ u s. u)
    (λ (u : Unit {0}). next_stmt g.L.Language.made true full c.args.room
    (inner_stmts g.L.Language.made true full c.args.room)) full c.loop-alloc.stmts.items tt
    c.loop-alloc.tokens
    c.in_err-next.field-0.0 _ c.loop-alloc.invariant
    (stored_few c.loop-alloc.stmts.ok c.loop-alloc.stmts.small)
    (sym c.starts_stmt.ensures ∙ c.loop-alloc-test.true) c.in_err-next.ensures)

pub stmts-loop-alloc-smaller : goal.stmts-loop-alloc-smaller
stmts-loop-alloc-smaller g n c =
    let len = ap length c.in_ok-push.ensures.items ∙ length-append c.loop-alloc.stmts.items
    (c.in_ok-next.next ∷ []) in
    let few = stored_few c.loop-alloc.stmts.ok c.loop-alloc.stmts.small in
    omega (arith, len, few)

pub stmts-loop-alloc-preserved : goal.stmts-loop-alloc-preserved
stmts-loop-alloc-preserved g n c =
    all_step (a_start g.L.Language.made.tokens) (λ u s. u) (λ (u : Unit {0}). next_stmt g.L.Language.made
    true full c.args.room
    (inner_stmts g.L.Language.made true full c.args.room)) full c.loop-alloc.stmts.items tt
    c.loop-alloc.tokens
    c.in_ok-next.next c.stmt.new.tokens _ c.push.new.self.items tt c.loop-alloc.invariant
    (stored_few c.loop-alloc.stmts.ok c.loop-alloc.stmts.small)
    (sym c.starts_stmt.ensures ∙ c.loop-alloc-test.true) c.in_ok-next.ensures
    c.in_ok-push.ensures.items refl

pub stmts-returns : goal.stmts-returns
unfolding stmts_with
stmts-returns g n c = all_end (a_start g.L.Language.made.tokens) (λ u s. u)
    (λ (u : Unit {0}). next_stmt g.L.Language.made true full c.args.room
    (inner_stmts g.L.Language.made true full c.args.room)) full c.loop-alloc.stmts.items tt
    c.loop-alloc.tokens _
    c.loop-alloc.invariant (sym c.starts_stmt.ensures ∙ c.loop-alloc-test.false)

pub stmt-returns-in-Some : goal.stmt-returns-in-Some
unfolding next_stmt
stmt-returns-in-Some g n c =
    let makes = λ (k : TokenActions _ _ _ _). token_behind g.L.Language.made true full k.make in
    let spends = λ (k : TokenActions _ _ _ _). token_behind g.L.Language.made true full k.spend in
    let plain = plain_stmt g.L.Language.made true full c.args.room
    (inner_stmts g.L.Language.made true full c.args.room) in
    let others = case_token g.L.Language.made.tokens (codes "spend") spends plain in
    of_token (codes "make") makes others c.args.tokens.now (λ x. x) c.token_stmt.result
    c.token_stmt.new.tokens
    g.L.Language.made.tokens _ c.take_token_word.new.self (sym c.in-Some.ensures.value)
    c.in-Some.ensures.left c.token_stmt.ensures

pub stmt-returns-in-Some-take_token_word : goal.stmt-returns-in-Some-take_token_word
unfolding next_stmt
stmt-returns-in-Some-take_token_word g n c =
    let makes = λ (k : TokenActions _ _ _ _). token_behind g.L.Language.made true full k.make in
    let spends = λ (k : TokenActions _ _ _ _). token_behind g.L.Language.made true full k.spend in
    let plain = plain_stmt g.L.Language.made true full c.args.room
    (inner_stmts g.L.Language.made true full c.args.room) in
    let others = case_token g.L.Language.made.tokens (codes "spend") spends plain in
    of_none (codes "make") makes others c.args.tokens.now (λ x. x)
    c.token_stmt-in-Some-take_token_word.result c.token_stmt-in-Some-take_token_word.new.tokens
    g.L.Language.made.tokens c.take_token_word.new.self (sym c.in_default.ensures.value)
    c.in_default.ensures.left
    (of_token (codes "spend") spends plain c.take_token_word.new.self (λ x. x)
    c.token_stmt-in-Some-take_token_word.result
    c.token_stmt-in-Some-take_token_word.new.tokens g.L.Language.made.tokens _ c.take_token_word-2.new.self
    (sym c.in-Some-take_token_word.ensures.value) c.in-Some-take_token_word.ensures.left
    c.token_stmt-in-Some-take_token_word.ensures)

pub stmt-returns : goal.stmt-returns
unfolding next_stmt
stmt-returns g n c =
    let makes = λ (k : TokenActions _ _ _ _). token_behind g.L.Language.made true full k.make in
    let spends = λ (k : TokenActions _ _ _ _). token_behind g.L.Language.made true full k.spend in
    let plain = plain_stmt g.L.Language.made true full c.args.room
    (inner_stmts g.L.Language.made true full c.args.room) in
    let others = case_token g.L.Language.made.tokens (codes "spend") spends plain in
    of_none (codes "make") makes others c.args.tokens.now (λ x. x) c.plain_stmt.result c.plain_stmt.new.tokens
    g.L.Language.made.tokens c.take_token_word.new.self (sym c.in_default.ensures.value)
    c.in_default.ensures.left
    (of_none (codes "spend") spends plain c.take_token_word.new.self (λ x. x) c.plain_stmt.result
    c.plain_stmt.new.tokens g.L.Language.made.tokens c.take_token_word-2.new.self
    (sym c.in_default-take_token_word.ensures.value) c.in_default-take_token_word.ensures.left
    c.plain_stmt.ensures)

pub if_stmt-returns-in_err-condition : goal.if_stmt-returns-in_err-condition
unfolding if_behind
if_stmt-returns-in_err-condition g n c =
    let p = err_from_is_err_and c.from_residual.result c.from_residual.ensures.1 in
    rw (p.1, p.2) (fails_on _ _ _ refl c.in_err-condition.ensures)

pub if_stmt-returns-in_err-body : goal.if_stmt-returns-in_err-body
unfolding if_behind
if_stmt-returns-in_err-body g n c =
    let p = err_from_is_err_and c.from_residual-in_err-body.result c.from_residual-in_err-body.ensures.1 in
    rw (p.1, p.2) (fails_on _ _ _ (read_on _ refl c.in_ok-condition.ensures) c.in_err-body.ensures)

pub if_stmt-returns-then-is_none : goal.if_stmt-returns-then-is_none
if_stmt-returns-then-is_none g n c =
    if_alone g.L.Language.made c.args.room c.args.at c.args.tokens.now c.whole.new.tokens
    c.block.new.tokens c.in_ok-condition.condition c.in_ok-body.body.stmts c.in_ok-body.body.end
    c.in_ok-condition.ensures c.in_ok-body.ensures c.take_word.new.self c.take_word.result
    c.take_word.ensures.value c.take_word.ensures.left _
    (c.is_none.ensures ∙ ap not c.if-is_none.true) c.if_then_of.ensures

pub if_stmt-returns-in_err-other : goal.if_stmt-returns-in_err-other
if_stmt-returns-in_err-other g n c =
    let p = err_from_is_err_and c.from_residual-in_err-other.result c.from_residual-in_err-other.ensures.1 in
    rw (p.1, p.2) (other_bad g.L.Language.made c.args.room c.args.at c.args.tokens.now c.whole.new.tokens
    c.block.new.tokens c.in_ok-condition.condition c.in_ok-body.body.stmts c.in_ok-body.body.end
    c.in_ok-condition.ensures c.in_ok-body.ensures c.take_word.new.self c.take_word.result
    c.take_word.ensures.value c.take_word.ensures.left
    c.in_err-other.field-0.0 (c.is_none.ensures ∙ ap not c.if-is_none.false) c.in_err-other.ensures)

pub if_stmt-returns : goal.if_stmt-returns
if_stmt-returns g n c =
    if_other g.L.Language.made c.args.room c.args.at c.args.tokens.now c.whole.new.tokens
    c.block.new.tokens c.in_ok-condition.condition c.in_ok-body.body.stmts c.in_ok-body.body.end
    c.in_ok-condition.ensures c.in_ok-body.ensures c.take_word.new.self c.take_word.result
    c.take_word.ensures.value c.take_word.ensures.left
    c.in_ok-other.other.stmts c.in_ok-other.other.end _ _ (c.is_none.ensures ∙ ap not c.if-is_none.false)
    c.in_ok-other.ensures c.if_else_of.ensures

pub while_stmt-returns-in_err-condition : goal.while_stmt-returns-in_err-condition
unfolding while_behind
while_stmt-returns-in_err-condition g n c =
    let p = err_from_is_err_and c.from_residual.result c.from_residual.ensures.1 in
    rw (p.1, p.2) (fails_on _ _ _ refl c.in_err-condition.ensures)

pub while_stmt-returns-in_err-body : goal.while_stmt-returns-in_err-body
unfolding while_behind
while_stmt-returns-in_err-body g n c =
    let p = err_from_is_err_and c.from_residual-in_err-body.result c.from_residual-in_err-body.ensures.1 in
    rw (p.1, p.2) (fails_on _ _ _ (read_on _ refl c.in_ok-condition.ensures) c.in_err-body.ensures)

pub while_stmt-returns : goal.while_stmt-returns
unfolding while_behind
while_stmt-returns g n c =
    read_on _ (read_on _ refl c.in_ok-condition.ensures) c.in_ok-body.ensures
    ∙ ap (λ s. Ok (s, c.block.new.tokens)) (sym c.while_of.ensures)
