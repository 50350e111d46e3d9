-- Statements are read again.
use Rattle.std.proofs.Common.{◌≡◌, ℕ, zero, suc, ◌+◌, ◌≤◌, true, List, [], ◌∷◌, ◌++◌, refl, sym, subst, arith}
use Rattle.std.proofs.Common.{append_assoc}
use Rattle.std.specs.Prelude.{codes}
use Rattle.std.proofs.lemmas.List.{append-nil}
use Rattle.proc_grammar.specs.PlainTrees.{plain_trees}
use Rattle.proc_language.specs.declared.tree.Name.{Name}
use Rattle.proc_language.specs.Tree.{Expr, Args, Stmt, set, set_at, do_call, if_then, if_else, while, return}
use Rattle.proc_language.specs.Tree.{halt, Block, no_stmts, stmt}
use Rattle.proc_language.specs.Limits.{NameFits, ExprFits, ArgsFit, StmtFits, BlockFits, arg_registers}
use Rattle.proc_language.specs.StmtView.{block_of}
use Rattle.proc_language.specs.Unplaced.{unplaced_stmt, unplaced_block}
use Rattle.proc_grammar.specs.Lexemes.{sign, round, square, assign, semicolon, curly, end_curly}
use Rattle.phrases.specs.Phrase.{◌>>=◌, one, only, many, nothing}
use Rattle.proc_grammar.specs.Grammar.{Phrase, expr, set_part, set_at_part, calls_part, target_part}
use Rattle.proc_grammar.specs.Grammar.{name_stmt, block, if_stmt, while_stmt, return_stmt, halt_stmt}
use Rattle.proc_grammar.specs.Grammar.{plain_stmt, stmt as a_stmt, stmts_with, stmts}
use Rattle.proc_print.specs.Printed.{sign as a_sign, between_signs, in_curly, expr_pieces, stmt_pieces}
use Rattle.proc_print.specs.Printed.{block_pieces}
use Rattle.alike_modules.specs.Written.{Again}
use Rattle.alike_modules.proofs.Steps.{step, done, test, good, left, right, at, no_items, item}
use Rattle.alike_modules.proofs.Leaves.{a_word_again, a_sign_again, name_again}
use Rattle.alike_modules.proofs.Nesting.{nesting, args_nesting, stmt_nesting, block_nesting}
use Rattle.alike_modules.proofs.Exprs.{AlikeE, expr_again, args_all, args_again, index_again, renamed}
use Rattle.alike_modules.proofs.Exprs.{has_room}

abbrev pub AlikeS : Stmt → Stmt → Type 0
AlikeS s x = unplaced_stmt x ≡ unplaced_stmt s

abbrev pub AlikeB : Block → List Stmt → Type 0
AlikeB b xs = unplaced_block (block_of xs) ≡ unplaced_block b

-- the statements inside one more bracket
abbrev pub inner_stmts : ℕ → Phrase (List Stmt)
inner_stmts zero = nothing
inner_stmts (suc room) = stmts plain_trees true room

pub stmts_is : (room : ℕ) → stmts plain_trees true room ≡ stmts_with plain_trees true room (inner_stmts room)
stmts_is zero = refl
stmts_is (suc room) = refl

abbrev pub BlockAgain : Block → Type 0
BlockAgain b = (room : ℕ) → block_nesting b ≤ room → Again (stmts plain_trees true room) (block_pieces b)
    (AlikeB b)

inner_block : (b : Block) → BlockAgain b → (room : ℕ) → block_nesting b + 1 ≤ room → Again (inner_stmts room)
    (block_pieces b) (AlikeB b)
inner_block b again zero h = absurd (omega arith)
inner_block b again (suc room) h = again room (omega arith)

curly_again : (b : Block) → BlockAgain b → (room : ℕ) → block_nesting b + 1 ≤ room
    → Again (block plain_trees true room (inner_stmts room)) (in_curly (block_pieces b)) (λ xs. AlikeB b xs.0)
unfolding block
curly_again b again room h =
    step (a_sign_again curly (codes "{") refl) (λ _ _. step (test (has_room room (omega arith)))
    (λ _ _. step (inner_block b again room h) (λ xs alike. step (a_sign_again end_curly (codes "}") refl)
    (λ _ _. done alike))))

-- ---- statements that begin with a name

-- an expression and a semicolon
ended_again : (e : Expr) → ExprFits e → (room : ℕ) → nesting e ≤ room
    → (f : Expr → ℕ → Stmt) (Alike : Stmt → Type 0) → ((x : Expr) (end : ℕ) → AlikeE e x → Alike (f x end))
    → Again (expr plain_trees true room true >>= λ x. one (sign semicolon) >>= λ end. only (f x end))
    (expr_pieces e ++ (a_sign (codes ";") ∷ [])) Alike
ended_again e fits room h f Alike alike =
    step (expr_again e fits room h true refl) (λ x same. step (a_sign_again semicolon (codes ";") refl)
    (λ end _. done (alike x end same)))

set_again : (place : ℕ) (x : Name) (e : Expr) → NameFits x → ExprFits e → (room : ℕ) → nesting e ≤ room
    → Again (name_stmt plain_trees true room (inner_stmts room)) (stmt_pieces (set place x e))
    (AlikeS (set place x e))
unfolding name_stmt target_part set_part
set_again place x e fit fits room h =
    step (name_again x fit) (λ y same.
    left (step (a_sign_again assign (codes "=") refl) (λ _ _.
    ended_again e fits room h (λ f end. plain_trees.set y.at end y f) (AlikeS (set place x e))
    (λ f end alike. λ i. set 0 (renamed x y same i) (alike i)))))

set_at_again : (place : ℕ) (x : Name) (e f : Expr) → NameFits x → ExprFits e → ExprFits f → (room : ℕ)
    → nesting e + 1 ≤ room → nesting f ≤ room → Again (name_stmt plain_trees true room (inner_stmts room))
    (stmt_pieces (set_at place x e f)) (AlikeS (set_at place x e f))
unfolding name_stmt target_part set_at_part
set_at_again place x e f fit fits fits' room h k =
    step (name_again x fit) (λ y same.
    at (sym (append_assoc (between_signs (codes "[") (expr_pieces e) (codes "]"))
    (a_sign (codes "=") ∷ expr_pieces f) (a_sign (codes ";") ∷ [])))
    (right (left (step (a_sign_again square (codes "[") refl)
    (λ _ _. step (index_again e (expr_again e fits) room h)
    (λ z alike. step (a_sign_again assign (codes "=") refl) (λ _ _.
    ended_again f fits' room k (λ v end. plain_trees.set_at y.at end y z v) (AlikeS (set_at place x e f))
    (λ v end alike'. λ i. set_at 0 (renamed x y same i) (alike i) (alike' i)))))))))

do_call_again : (place : ℕ) (f : Name) (given : Args) → NameFits f → ArgsFit given → arg_registers given ≤ 4
    → (room : ℕ) → args_nesting given + 1 ≤ room → Again (name_stmt plain_trees true room (inner_stmts room))
    (stmt_pieces (do_call place f given)) (AlikeS (do_call place f given))
unfolding name_stmt target_part calls_part
do_call_again place f given fit fits few room h =
    step (name_again f fit) (λ y same.
    right (right (step (a_sign_again round (codes "(") refl) (λ _ _.
    step (args_again given (args_all given fits) fits room h few)
    (λ xs alike. step (a_sign_again semicolon (codes ";") refl)
    (λ end _. done (λ i. do_call 0 (renamed f y same i) (alike i))))))))

-- ---- statements that begin with a word

if_then_again : (place : ℕ) (c : Expr) (b : Block) → ExprFits c → BlockAgain b → (room : ℕ)
    → nesting c ≤ room → block_nesting b + 1 ≤ room
    → Again (if_stmt plain_trees true room (inner_stmts room)) (stmt_pieces (if_then place c b))
    (AlikeS (if_then place c b))
unfolding if_stmt
if_then_again place c b fits again room h k =
    step (a_word_again (codes "if")) (λ _ _. step (expr_again c fits room h true refl)
    (λ x same. at (append-nil (in_curly (block_pieces b)))
    (step (curly_again b again room k) (λ xs alike. right (done (λ i. if_then 0 (same i) (alike i)))))))

if_else_again : (place : ℕ) (c : Expr) (b d : Block) → ExprFits c → BlockAgain b → BlockAgain d → (room : ℕ)
    → nesting c ≤ room → block_nesting b + 1 ≤ room → block_nesting d + 1 ≤ room
    → Again (if_stmt plain_trees true room (inner_stmts room)) (stmt_pieces (if_else place c b d))
    (AlikeS (if_else place c b d))
unfolding if_stmt
if_else_again place c b d fits again again' room h k k' =
    step (a_word_again (codes "if")) (λ _ _. step (expr_again c fits room h true refl) (λ x same.
    step (curly_again b again room k)
    (λ xs alike. left (step (a_word_again (codes "else"))
    (λ _ _. at (append-nil (in_curly (block_pieces d)))
    (step (curly_again d again' room k')
    (λ ys alike'. done (λ i. if_else 0 (same i) (alike i) (alike' i)))))))))

while_again : (place : ℕ) (c : Expr) (b : Block) → ExprFits c → BlockAgain b → (room : ℕ) → nesting c ≤ room
    → block_nesting b + 1 ≤ room → Again (while_stmt plain_trees true room (inner_stmts room))
    (stmt_pieces (while place c b)) (AlikeS (while place c b))
unfolding while_stmt
while_again place c b fits again room h k =
    step (a_word_again (codes "while")) (λ _ _. step (expr_again c fits room h true refl)
    (λ x same. at (append-nil (in_curly (block_pieces b)))
    (step (curly_again b again room k) (λ xs alike. done (λ i. while 0 (same i) (alike i))))))

return_again : (place : ℕ) (e : Expr) → ExprFits e → (room : ℕ) → nesting e ≤ room
    → Again (return_stmt plain_trees true room (inner_stmts room)) (stmt_pieces (return place e))
    (AlikeS (return place e))
unfolding return_stmt
return_again place e fits room h =
    step (a_word_again (codes "return"))
    (λ at _. ended_again e fits room h (λ x end. plain_trees.return at end x) (AlikeS (return place e))
    (λ x end same. λ i. return 0 (same i)))

halt_again : (place : ℕ) (e : Expr) → ExprFits e → (room : ℕ) → nesting e ≤ room
    → Again (halt_stmt plain_trees true room (inner_stmts room)) (stmt_pieces (halt place e))
    (AlikeS (halt place e))
unfolding halt_stmt
halt_again place e fits room h =
    step (a_word_again (codes "halt"))
    (λ at _. ended_again e fits room h (λ x end. plain_trees.halt at end x) (AlikeS (halt place e))
    (λ x end same. λ i. halt 0 (same i)))

-- ---- the whole

abbrev pub StmtAgain : Stmt → Type 0
StmtAgain s = (room : ℕ) → stmt_nesting s ≤ room
    → Again (plain_stmt plain_trees true room (inner_stmts room)) (stmt_pieces s) (AlikeS s)

abbrev ManyAgain : Block → Type 0
ManyAgain b = (room : ℕ) → block_nesting b ≤ room
    → Again (many (λ u s. u) (λ (u : Unit {0}). a_stmt plain_trees true room (inner_stmts room)) tt)
    (block_pieces b) (AlikeB b)

of_many : (b : Block) → ManyAgain b → BlockAgain b
unfolding stmts_with
of_many b again room h =
    subst (λ (p : Phrase (List Stmt)). Again p (block_pieces b) (AlikeB b)) (sym (stmts_is room))
    (again room h)

mutual
  pub stmt_again : (s : Stmt) → StmtFits s → StmtAgain s
  stmt_again (set place x e) fits room h =
      right (right (right (right (set_again place x e fits.0 fits.1 room h))))
  stmt_again (set_at place x e f) fits room h =
      right (right (right
      (right (set_at_again place x e f fits.0 fits.1 fits.2 room (omega arith) (omega arith)))))
  stmt_again (do_call place f given) fits room h =
      right (right (right (right (do_call_again place f given fits.0.0 fits.1 fits.0.1 room h))))
  stmt_again (if_then place c b) fits room h =
      left (if_then_again place c b fits.0 (of_many b (many_stmts_again b fits.1)) room (omega arith)
      (omega arith))
  stmt_again (if_else place c b d) fits room h =
      left (if_else_again place c b d fits.0 (of_many b (many_stmts_again b fits.1))
      (of_many d (many_stmts_again d fits.2)) room (omega arith) (omega arith) (omega arith))
  stmt_again (while place c b) fits room h =
      right (left (while_again place c b fits.0 (of_many b (many_stmts_again b fits.1)) room (omega arith)
      (omega arith)))
  stmt_again (return place e) fits room h = right (right (left (return_again place e fits room h)))
  stmt_again (halt place e) fits room h = right (right (right (left (halt_again place e fits room h))))

  many_stmts_again : (b : Block) → BlockFits b → ManyAgain b
  many_stmts_again no_stmts fits room h = no_items refl
  many_stmts_again (stmt s b) fits room h =
      item (right (right (stmt_again s fits.0 room (omega arith))))
      (λ x same. good (λ xs alike. λ i. stmt (same i) (alike i))
      (many_stmts_again b fits.1 room (omega arith)))

-- a block that is printed is read again, as statements that are alike but for their places
pub block_again : (b : Block) → BlockFits b → BlockAgain b
block_again b fits = of_many b (many_stmts_again b fits)
