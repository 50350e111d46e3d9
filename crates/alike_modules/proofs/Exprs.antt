-- Expressions are read again.
use Rattle.std.proofs.Common.{◌≡◌, ℕ, zero, suc, ◌+◌, ◌≤◌, Bool, true, false, IsTrue, if◌then◌else◌, List, []}
use Rattle.std.proofs.Common.{◌∷◌, ◌++◌, Some, refl, sym, ap, subst, arith, append_assoc}
use Rattle.std.specs.Prelude.{nat_le, nat_lt, codes}
use Rattle.std.proofs.lemmas.List.{append-nil}
use Rattle.std.proofs.lemmas.Bool.Decides.{nat_tests}
use Rattle.proc_grammar.specs.PlainTrees.{plain_trees}
use Rattle.proc_language.specs.declared.tree.Name.{Name}
use Rattle.proc_language.specs.declared.tree.Op.{Op}
use Rattle.proc_language.specs.declared.tree.Op.TheVariants.{Plus, Minus, Less, Equal}
use Rattle.proc_language.specs.declared.tree.Arg.{Arg}
use Rattle.proc_language.specs.declared.tree.Arg.TheVariants.{Value, Proc}
use Rattle.proc_language.specs.declared.TheConstants.{LARGEST_LITERAL}
use Rattle.proc_language.specs.Tree.{Expr, number, var, element, call, op, Args, no_args, value, proc}
use Rattle.proc_language.specs.Limits.{NameFits, ExprFits, ArgsFit, arg_registers}
use Rattle.proc_language.specs.View.{args_of}
use Rattle.proc_language.specs.Unplaced.{unplaced_name, unplaced_expr, unplaced_args}
use Rattle.proc_grammar.specs.Lexemes.{Lexeme, adding, comparing, added, compared, round, end_round, square}
use Rattle.proc_grammar.specs.Lexemes.{end_square, comma}
use Rattle.phrases.specs.Phrase.{many}
use Rattle.proc_grammar.specs.Grammar.{Phrase, term, number_term, name_term, bracket_term, next_term, sum}
use Rattle.proc_grammar.specs.Grammar.{sum_of, comparison_part, expr_with, expr, inner_expr, index, args}
use Rattle.proc_grammar.specs.Grammar.{some_args, arg, next_arg, arg_value, arg_proc, behind_arg}
use Rattle.proc_print.specs.Printed.{Piece, word as a_word, numeral as a_numeral, sign as a_sign, named}
use Rattle.proc_print.specs.Printed.{between_signs, bracketed, is_op, expr_pieces, args_pieces, more_pieces}
use Rattle.proc_print.specs.Printed.{signs_of}
use Rattle.alike_modules.specs.Written.{IsWritten, Again}
use Rattle.alike_modules.proofs.Steps.{step, done, test, token, good, left, right, at, no_items, item}
use Rattle.alike_modules.proofs.Leaves.{a_word_again, a_sign_again, name_again, number_again, IsNamed}
use Rattle.alike_modules.proofs.Nesting.{nesting, args_nesting, operand_nesting}

abbrev pub AlikeE : Expr → Expr → Type 0
AlikeE e x = unplaced_expr x ≡ unplaced_expr e

abbrev pub AlikeA : Args → List Arg → Type 0
AlikeA args xs = unplaced_args (args_of xs) ≡ unplaced_args args

-- whatever brackets are open around it, it is read again
abbrev pub ExprAgain : Expr → Type 0
ExprAgain e = (room : ℕ) → nesting e ≤ room → (fits : Bool) → IsTrue fits
    → Again (expr plain_trees true room fits) (expr_pieces e) (AlikeE e)

-- the terms where so many brackets may be opened
abbrev a_term : ℕ → Bool → Phrase Expr
a_term room = term plain_trees true room (inner_expr plain_trees true room)

abbrev TermAgain : Expr → List Piece → ℕ → Type 0
TermAgain e pieces room = (fits : Bool) → IsTrue fits → Again (a_term room fits) pieces (AlikeE e)

pub expr_is : (room : ℕ) (fits : Bool) → expr plain_trees true room fits ≡ expr_with plain_trees true room
    (inner_expr plain_trees true room) fits
expr_is zero fits = refl
expr_is (suc room) fits = refl

pub has_room : (room : ℕ) → 1 ≤ room → IsTrue (nat_lt 0 room)
has_room room h = grind (arith, nat_tests)

pub inner_again : (e : Expr) → ExprAgain e → (room : ℕ) → nesting e + 1 ≤ room → (fits : Bool) → IsTrue fits
    → Again (inner_expr plain_trees true room fits) (expr_pieces e) (AlikeE e)
inner_again e again zero h fits f = absurd (omega arith)
inner_again e again (suc room) h fits f = again room (omega arith) fits f

-- ---- terms

in_brackets : (e : Expr) → ExprAgain e → (room : ℕ) → nesting e + 1 ≤ room
    → TermAgain e (between_signs (codes "(") (expr_pieces e) (codes ")")) room
unfolding bracket_term
in_brackets e again room h fits f =
    right (left (step (a_sign_again round (codes "(") refl)
    (λ _ _. step (test f) (λ _ _. step (test (has_room room (omega arith)))
    (λ _ _. step (inner_again e again room h true refl)
    (λ x same. step (a_sign_again end_round (codes ")") refl) (λ _ _. done same)))))))

number_again_term : (at n : ℕ) → n ≤ LARGEST_LITERAL → (room : ℕ) → TermAgain (number at n)
    (a_numeral n ∷ []) room
unfolding number_term
number_again_term at n le room fits f =
    left (step (number_again n)
    (λ m same. step {P = λ u. Unit {0}}
    (test (subst (λ k. nat_le k LARGEST_LITERAL ≡ true) (sym same) (literal n le)))
    (λ _ _. step (test f) (λ _ _. done (ap (λ k. number 0 k) same)))))
  where
    literal : (n : ℕ) → n ≤ LARGEST_LITERAL → nat_le n LARGEST_LITERAL ≡ true
    literal n le = grind (arith, nat_tests)

var_again : (at : ℕ) (x : Name) → NameFits x → (room : ℕ) → TermAgain (var at x) (named x) room
unfolding name_term
var_again at x fit room fits f =
    right (right (step (name_again x fit)
    (λ y same. step (test f)
    (λ _ _. right (right
    (done (ap (λ text. let z : Name = record { text = text; at = 0 } in var 0 z) same)))))))

pub renamed : (x y : Name) → IsNamed x y → unplaced_name y ≡ unplaced_name x
renamed x y same = ap (λ text. let z : Name = record { text = text; at = 0 } in z) same

-- after its opening bracket
pub index_again : (e : Expr) → ExprAgain e → (room : ℕ) → nesting e + 1 ≤ room
    → Again (index plain_trees true room (inner_expr plain_trees true room))
    (expr_pieces e ++ a_sign (codes "]") ∷ []) (AlikeE e)
unfolding index
index_again e again room h =
    step (test (has_room room (omega arith))) (λ _ _. step (inner_again e again room h true refl)
    (λ x same. step (a_sign_again end_square (codes "]") refl) (λ _ _. done same)))

element_again : (at : ℕ) (x : Name) (e : Expr) → NameFits x → ExprAgain e → (room : ℕ) → nesting e + 1 ≤ room
    → TermAgain (element at x e) (named x ++ between_signs (codes "[") (expr_pieces e) (codes "]")) room
unfolding name_term
element_again a x e fit again room h fits f =
    right (right (step (name_again x fit)
    (λ y same. step (test f) (λ _ _. left (step (a_sign_again square (codes "[") refl)
    (λ _ _. at (append-nil (expr_pieces e ++ a_sign (codes "]") ∷ []))
    (step (index_again e again room h)
    (λ z alike. done (λ i. element 0 (renamed x y same i) (alike i))))))))))

-- ---- arguments

-- each expression among them is read again
abbrev pub AllAgain : Args → Type 0
AllAgain no_args = Unit {0}
AllAgain (value e args) = ExprAgain e × AllAgain args
AllAgain (proc f args) = AllAgain args

abbrev IsValue : Expr → Arg → Type 0
IsValue e (Value x) = AlikeE e x
IsValue e (Proc f) = ⊥

abbrev IsProc : Name → Arg → Type 0
IsProc f (Value x) = ⊥
IsProc f (Proc g) = IsNamed f g

below_four : (used : ℕ) → used + 1 ≤ 4 → nat_lt used 4 ≡ true
below_four used h = grind (arith, nat_tests)

value_again : (e : Expr) → ExprAgain e → (room : ℕ) → nesting e + 1 ≤ room → (used : ℕ) → used + 1 ≤ 4
    → Again (arg plain_trees true room (inner_expr plain_trees true room) used) (expr_pieces e) (IsValue e)
unfolding arg_value
value_again e again room h used few =
    right (right (at (append-nil (expr_pieces e))
    (step (inner_again e again room h (nat_lt used 4) (below_four used few)) (λ x same. done same))))

proc_again : (f : Name) → NameFits f → (room : ℕ) → (used : ℕ) → used + 2 ≤ 4
    → Again (arg plain_trees true room (inner_expr plain_trees true room) used)
    (a_word (codes "proc") ∷ named f) (IsProc f)
unfolding arg_proc
proc_again f fit room used few =
    right (left (step (a_word_again (codes "proc")) (λ _ _. step (test (below_four (used + 1) (omega arith)))
    (λ _ _. step (name_again f fit) (λ g same. done same)))))

abbrev many_args : ℕ → ℕ → Phrase (List Arg)
many_args room used = many (behind_arg plain_trees)
    (next_arg plain_trees true room (inner_expr plain_trees true room)) used

behind_value : (e : Expr) (args : Args) (room used : ℕ) → Again (many_args room (used + 1))
    (more_pieces args) (AlikeA args)
    → (x : Arg) → IsValue e x → Again (many_args room (behind_arg plain_trees used x)) (more_pieces args)
    (λ xs. AlikeA (value e args) (x ∷ xs))
behind_value e args room used others (Value x) same = good (λ xs alike. λ i. value (same i) (alike i)) others
behind_value e args room used others (Proc g) same = absurd same

behind_proc : (f : Name) (args : Args) (room used : ℕ) → Again (many_args room (used + 2)) (more_pieces args)
    (AlikeA args)
    → (x : Arg) → IsProc f x → Again (many_args room (behind_arg plain_trees used x)) (more_pieces args)
    (λ xs. AlikeA (proc f args) (x ∷ xs))
behind_proc f args room used others (Value x) same = absurd same
behind_proc f args room used others (Proc g) same =
    good (λ xs alike. λ i. proc (renamed f g same i) (alike i)) others

-- arguments after others, which use so many registers
more_again : (args : Args) → AllAgain args → ArgsFit args → (room : ℕ) → args_nesting args + 1 ≤ room
    → (used : ℕ) → used + arg_registers args ≤ 4
    → Again (many_args room used) (more_pieces args) (AlikeA args)
more_again no_args again fits room h used few = no_items refl
more_again (value e args) again fits room h used few =
    item (step {P = λ u. Unit {0}} {Q = IsValue e} (a_sign_again comma (codes ",") refl)
    (λ _ _. value_again e again.0 room (omega arith) used (omega arith)))
    (behind_value e args room used (more_again args again.1 fits.1 room (omega arith) (used + 1)
    (omega arith)))
more_again (proc f args) again fits room h used few =
    item (step {P = λ u. Unit {0}} {Q = IsProc f} (a_sign_again comma (codes ",") refl)
    (λ _ _. proc_again f fits.0 room used (omega arith)))
    (behind_proc f args room used (more_again args again fits.1 room h (used + 2) (omega arith)))

-- after its opening bracket
pub args_again : (args_given : Args) → AllAgain args_given → ArgsFit args_given → (room : ℕ)
    → args_nesting args_given + 1 ≤ room → arg_registers args_given ≤ 4
    → Again (args plain_trees true room (inner_expr plain_trees true room))
    (args_pieces args_given ++ a_sign (codes ")") ∷ []) (AlikeA args_given)
unfolding args some_args
args_again no_args again fits room h few =
    step (test (has_room room (omega arith))) (λ _ _. left (step (a_sign_again end_round (codes ")") refl)
    (λ _ _. done refl)))
args_again (value e rest) again fits room h few =
    step (test (has_room room (omega arith)))
    (λ _ _. right (at (sym (append_assoc (expr_pieces e) (more_pieces rest) (a_sign (codes ")") ∷ [])))
    (step {P = IsValue e} (value_again e again.0 room (omega arith) 0 (omega arith))
    (λ x same. step (behind_value e rest room 0 (more_again rest again.1 fits.1 room (omega arith) (0 + 1)
    (omega arith)) x same)
    (λ xs alike. step (a_sign_again end_round (codes ")") refl) (λ _ _. done alike))))))
args_again (proc f rest) again fits room h few =
    step (test (has_room room (omega arith))) (λ _ _. right
    (step {P = IsProc f} (proc_again f fits.0 room 0 (omega arith))
    (λ x same. step (behind_proc f rest room 0 (more_again rest again fits.1 room h (0 + 2) (omega arith)) x
    same)
    (λ xs alike. step (a_sign_again end_round (codes ")") refl) (λ _ _. done alike)))))

call_again : (place : ℕ) (f : Name) (given : Args) → NameFits f → AllAgain given → ArgsFit given
    → arg_registers given ≤ 4 → (room : ℕ) → args_nesting given + 1 ≤ room
    → TermAgain (call place f given)
    (named f ++ between_signs (codes "(") (args_pieces given) (codes ")")) room
unfolding name_term
call_again place f given fit again fits few room h b ok =
    right (right (step (name_again f fit)
    (λ y same. step (test ok) (λ _ _. right (left (step (a_sign_again round (codes "(") refl)
    (λ _ _. at (append-nil (args_pieces given ++ a_sign (codes ")") ∷ []))
    (step (args_again given again fits room h few)
    (λ xs alike. done (λ i. call 0 (renamed f y same i) (alike i)))))))))))

-- ---- sums and comparisons

-- a term alone
sum_alone : (e : Expr) (pieces : List Piece) (room : ℕ) → TermAgain e pieces room → (fits : Bool)
    → IsTrue fits → Again (sum plain_trees true room (inner_expr plain_trees true room) fits) pieces
    (AlikeE e)
unfolding sum
sum_alone e pieces room again fits ok =
    at (append-nil pieces) (step (again fits ok) (λ x same. step {P = λ others. others ≡ []} (no_items refl)
    (λ others none. done (subst (λ os. AlikeE e (sum_of plain_trees x os)) (sym none) same))))

pub expr_alone : (e : Expr) (pieces : List Piece) (room : ℕ) → TermAgain e pieces room → (fits : Bool)
    → IsTrue fits → Again (expr plain_trees true room fits) pieces (AlikeE e)
unfolding expr_with comparison_part
expr_alone e pieces room again fits ok =
    subst (λ (p : Phrase Expr). Again p pieces (AlikeE e)) (sym (expr_is room fits))
    (at (append-nil pieces) (step (sum_alone e pieces room again fits ok) (λ x same. right (done same))))

abbrev IsTerm : Op → Expr → Op × Expr → Type 0
IsTerm o b x = (x.0 ≡ o) × AlikeE b x.1

sum_of_two : (place : ℕ) (o : Op) (a b : Expr) (pa pb : List Piece) (room : ℕ) → TermAgain a pa room
    → TermAgain b pb room
    → ((t : Lexeme) → IsWritten t (a_sign (signs_of o)) → adding t ≡ Some o)
    → (fits : Bool) → IsTrue fits → Again (sum plain_trees true room (inner_expr plain_trees true room) fits)
    (pa ++ (a_sign (signs_of o) ∷ pb)) (AlikeE (op place o a b))
unfolding sum next_term
sum_of_two place o a b pa pb room first second is_added fits ok =
    step (first fits ok) (λ x same.
    at (append-nil (a_sign (signs_of o) ∷ pb))
    (step {P = λ (others : List (Op × Expr)). (y : Op × Expr) × (others ≡ y ∷ []) × IsTerm o b y}
    (at (append-nil (a_sign (signs_of o) ∷ pb))
    (item {P = IsTerm o b}
    (step {P = λ n. n ≡ o} (token (a_sign (signs_of o)) (λ t h. (o, is_added t h, refl)))
    (λ n is. at (append-nil pb) (step (second true refl) (λ y alike. done (is, alike)))))
    (λ y is. no_items (y, refl, is))))
    (λ others h. done (subst (λ os. AlikeE (op place o a b) (sum_of plain_trees x os)) (sym h.1)
    (λ i. op 0 (h.2.0 i) (same i) (h.2.1 i))))))

sum_again : (place : ℕ) (o : Op) (a b : Expr) (pa pb : List Piece) (room : ℕ) → TermAgain a pa room
    → TermAgain b pb room
    → ((t : Lexeme) → IsWritten t (a_sign (signs_of o)) → adding t ≡ Some o)
    → (fits : Bool) → IsTrue fits → Again (expr plain_trees true room fits)
    (pa ++ (a_sign (signs_of o) ∷ pb)) (AlikeE (op place o a b))
unfolding expr_with comparison_part
sum_again place o a b pa pb room first second is_added fits ok =
    subst (λ (p : Phrase Expr). Again p (pa ++ (a_sign (signs_of o) ∷ pb)) (AlikeE (op place o a b)))
    (sym (expr_is room fits))
    (at (append-nil (pa ++ (a_sign (signs_of o) ∷ pb)))
    (step (sum_of_two place o a b pa pb room first second is_added fits ok)
    (λ x same. right (done same))))

comparison_again : (place : ℕ) (o : Op) (a b : Expr) (pa pb : List Piece) (room : ℕ) → TermAgain a pa room
    → TermAgain b pb room
    → ((t : Lexeme) → IsWritten t (a_sign (signs_of o)) → comparing t ≡ Some o)
    → (fits : Bool) → IsTrue fits → Again (expr plain_trees true room fits)
    (pa ++ (a_sign (signs_of o) ∷ pb)) (AlikeE (op place o a b))
unfolding expr_with comparison_part
comparison_again place o a b pa pb room first second is_compared fits ok =
    subst (λ (p : Phrase Expr). Again p (pa ++ (a_sign (signs_of o) ∷ pb)) (AlikeE (op place o a b)))
    (sym (expr_is room fits))
    (step (sum_alone a pa room first fits ok) (λ x same. left
    (step {P = λ n. n ≡ o} (token (a_sign (signs_of o)) (λ t h. (o, is_compared t h, refl)))
    (λ n is. at (append-nil pb)
    (step (sum_alone b pb room second true refl)
    (λ y alike. done (λ i. op 0 (is i) (same i) (alike i))))))))

plus_is : (t : Lexeme) → IsWritten t (a_sign (codes "+")) → adding t ≡ Some Plus
unfolding adding
plus_is t h = ap added h

minus_is : (t : Lexeme) → IsWritten t (a_sign (codes "-")) → adding t ≡ Some Minus
unfolding adding
minus_is t h = ap added h

less_is : (t : Lexeme) → IsWritten t (a_sign (codes "<")) → comparing t ≡ Some Less
unfolding comparing
less_is t h = ap compared h

equal_is : (t : Lexeme) → IsWritten t (a_sign (codes "==")) → comparing t ≡ Some Equal
unfolding comparing
equal_is t h = ap compared h

op_again : (place : ℕ) (o : Op) (a b : Expr) (pa pb : List Piece) (room : ℕ) → TermAgain a pa room
    → TermAgain b pb room
    → (fits : Bool) → IsTrue fits → Again (expr plain_trees true room fits)
    (pa ++ (a_sign (signs_of o) ∷ pb)) (AlikeE (op place o a b))
op_again place Plus a b pa pb room first second = sum_again place Plus a b pa pb room first second plus_is
op_again place Minus a b pa pb room first second = sum_again place Minus a b pa pb room first second minus_is
op_again place Less a b pa pb room first second = comparison_again place Less a b pa pb room first second
    less_is
op_again place Equal a b pa pb room first second = comparison_again place Equal a b pa pb room first second
    equal_is

-- ---- the whole

-- an expression is read again, and as an operand too
record Both (e : Expr) : Type 0 where
  whole : ExprAgain e
  operand : (room : ℕ) → operand_nesting e (nesting e) ≤ room → TermAgain e (bracketed e (expr_pieces e)) room

of_term : (e : Expr) → is_op e ≡ false → ((room : ℕ) → nesting e ≤ room → TermAgain e (expr_pieces e) room)
    → Both e
of_term e plain again =
    let same : bracketed e (expr_pieces e) ≡ expr_pieces e =
    ap (λ b. if b then between_signs (codes "(") (expr_pieces e) (codes ")") else expr_pieces e) plain in
    let as_deep : operand_nesting e (nesting e) ≡ nesting e =
    ap (λ b. if b then nesting e + 1 else nesting e) plain in
    record {
      whole = λ room h fits ok. expr_alone e (expr_pieces e) room (again room h) fits ok;
      operand = λ room h fits ok. at (sym same) (again room (subst (λ n. n ≤ room) as_deep h) fits ok);
    }

mutual
  expr_both : (e : Expr) → ExprFits e → Both e
  expr_both (number place n) fits = of_term (number place n) refl
      (λ room h. number_again_term place n fits room)
  expr_both (var place x) fits = of_term (var place x) refl (λ room h. var_again place x fits room)
  expr_both (element place x e) fits = of_term (element place x e) refl
      (λ room h. element_again place x e fits.0 (expr_both e fits.1).whole room h)
  expr_both (call place f given) fits = of_term (call place f given) refl
      (λ room h. call_again place f given fits.0.0 (args_all given fits.1) fits.1 fits.0.1 room h)
  expr_both (op place o a b) fits =
      let first = expr_both a fits.0 in
      let second = expr_both b fits.1 in
      let all : ExprAgain (op place o a b) = λ room h t ok.
      op_again place o a b (bracketed a (expr_pieces a)) (bracketed b (expr_pieces b)) room
      (first.operand room (omega arith)) (second.operand room (omega arith)) t ok in
      record { whole = all; operand = λ room h. in_brackets (op place o a b) all room h }

  pub args_all : (given : Args) → ArgsFit given → AllAgain given
  args_all no_args fits = tt
  args_all (value e given) fits = ((expr_both e fits.0).whole, args_all given fits.1)
  args_all (proc f given) fits = args_all given fits.1

-- an expression that is printed is read again, as an expression that is alike but for its places
pub expr_again : (e : Expr) → ExprFits e → ExprAgain e
expr_again e fits = (expr_both e fits).whole
