-- The items of a module are read again.
use Rattle.std.proofs.Common.{◌≡◌, ℕ, suc, ◌+◌, ◌^◌, ◌<◌, ◌≤◌, Bool, true, false, IsTrue, List, [], ◌∷◌, ◌++◌}
use Rattle.std.proofs.Common.{Option, Some, None, refl, sym, ◌∙◌, ap, subst, arith, append_assoc, length, map}
use Rattle.std.proofs.Common.{flat_map}
use Rattle.std.specs.Prelude.{codes, ℤ, pos, negsuc, IfSome}
use Rattle.std.proofs.lemmas.Bool.Decides.{nat_tests}
use Rattle.std.proofs.lemmas.List.Sums.{sum_by-cons}
use Rattle.std.proofs.lemmas.Bool.{lt-ltb, le-leb}
use Rattle.proc_grammar.specs.PlainTrees.{plain_trees}
use Rattle.cap_words.specs.declared.TheConstants.{LAST_PLACE}
use Rattle.proc_language.specs.declared.TheConstants.{MOST_ITEMS, MOST_LOCALS, MOST_REGISTERS}
use Rattle.proc_language.specs.declared.tree.Name.{Name}
use Rattle.proc_language.specs.declared.module.Import.{Import}
use Rattle.proc_language.specs.declared.module.Global.{Global}
use Rattle.proc_language.specs.declared.module.Param.{Param}
use Rattle.proc_language.specs.declared.module.Proc.{Proc}
use Rattle.proc_language.specs.declared.module.ModuleFields.{ModuleFields}
use Rattle.proc_language.specs.Tree.{Stmt, Block, no_stmts, stmt}
use Rattle.proc_language.specs.Limits.{Each, NameFits, ImportFits, LengthFits, GlobalFits, ParamFits}
use Rattle.proc_language.specs.Limits.{ArityFits, ProcFits, SealsFit, IsModule, param_registers}
use Rattle.proc_language.specs.Limits.{params_registers}
use Rattle.proc_language.specs.StmtView.{block_of}
use Rattle.proc_language.specs.Unplaced.{unplaced_name, unplaced_stmt, unplaced_block, unplaced_import}
use Rattle.proc_language.specs.Unplaced.{unplaced_global, unplaced_param, unplaced_proc}
use Rattle.proc_grammar.specs.declared.header.ModuleHeader.{ModuleHeader}
use Rattle.proc_grammar.specs.Lexemes.{dot, slash, comma, semicolon, square, end_square, assign, dash, round}
use Rattle.proc_grammar.specs.Lexemes.{end_round, curly, end_curly}
use Rattle.phrases.specs.Phrase.{many}
use Rattle.proc_grammar.specs.Grammar.{Phrase, import_item, length_part, minus_part, initial_part}
use Rattle.proc_grammar.specs.Grammar.{global_item, arity_part, plain_param, param, next_param, some_params}
use Rattle.proc_grammar.specs.Grammar.{params, plain_local, local_item, Taken, none_taken, behind_local}
use Rattle.proc_grammar.specs.Grammar.{behind_params, movable_part, field, header, proc_behind, proc_item}
use Rattle.proc_grammar.specs.Grammar.{one_more, room_in_body, behind_param, signed, is_initial, is_arity}
use Rattle.proc_grammar.specs.Grammar.{is_length, is_address, is_return_count}
use Rattle.proc_print.specs.Printed.{Piece, word as a_word, numeral as a_numeral, sign as a_sign, named}
use Rattle.proc_print.specs.Printed.{between_signs, in_curly, block_pieces, import_pieces, length_pieces}
use Rattle.proc_print.specs.Printed.{initial_pieces, global_pieces, arity_pieces, param_pieces, more_params}
use Rattle.proc_print.specs.Printed.{params_pieces, local_pieces, proc_pieces, export_pieces, field_pieces}
use Rattle.proc_print.specs.Printed.{movable_pieces, base_pieces, seal_pieces, header_pieces}
use Rattle.alike_modules.specs.Written.{Again}
use Rattle.alike_modules.proofs.Steps.{step, done, test, good, left, right, at, no_items, item}
use Rattle.alike_modules.proofs.Leaves.{IntegerFits, a_word_again, a_sign_again, name_again, num_again}
use Rattle.alike_modules.proofs.Leaves.{IsNamed}
use Rattle.alike_modules.proofs.Nesting.{block_nesting}
use Rattle.alike_modules.proofs.Exprs.{renamed}
use Rattle.alike_modules.proofs.Stmts.{block_again}

-- ---- lists of items, of which there are at most so many

-- by what is counted of those before
module _ {S A : Type 0} (next : S → A → S) (count : S → ℕ) (counts : (s : S) (x : A) → count (next s x)
    ≡ count s + 1) (pieces_of : A → List Piece) (unplaced_item : A → A) (p : S → Phrase A) (most : ℕ)
    (Fits : A → Type 0)
    (again : (x : A) → Fits x → (s : S) → count s < most → Again (p s) (pieces_of x)
    (λ y. unplaced_item y ≡ unplaced_item x)) where
  pub items_by_again : (xs : List A) → Each Fits xs → (s : S) → count s + length xs ≤ most
      → Again (many next p s) (flat_map pieces_of xs)
      (λ ys. map unplaced_item ys ≡ map unplaced_item xs)
  items_by_again [] fits s few = no_items refl
  items_by_again (x ∷ xs) fits s few =
      item (again x fits.0 s (omega arith)) (λ y same. good (λ ys alike. λ i. same i ∷ alike i)
      (items_by_again xs fits.1 (next s y) (let one = counts s y in omega (arith, one))))

pub items_again : {A : Type 0} (pieces_of : A → List Piece) (unplaced_item : A → A) (p : ℕ → Phrase A)
    (most : ℕ) (Fits : A → Type 0)
    → ((x : A) → Fits x → (n : ℕ) → n < most → Again (p n) (pieces_of x)
    (λ y. unplaced_item y ≡ unplaced_item x))
    → (xs : List A) → Each Fits xs → (n : ℕ) → n + length xs ≤ most
    → Again (many one_more p n) (flat_map pieces_of xs) (λ ys. map unplaced_item ys ≡ map unplaced_item xs)
items_again = items_by_again one_more (λ n. n) (λ n x. refl)

-- ---- imports

pub import_again : (i : Import) → ImportFits i → (count : ℕ) → count < MOST_ITEMS
    → Again (import_item [] true count) (import_pieces i) (λ x. unplaced_import x ≡ unplaced_import i)
unfolding import_item
import_again i fits count few =
    step (a_word_again (codes "import")) (λ _ _. step (test (lt-ltb count MOST_ITEMS few))
    (λ _ _. step (name_again i.part fits.0) (λ part same.
    step (a_sign_again dot (codes ".") refl)
    (λ _ _. step (name_again i.name fits.1) (λ x same'. step (a_sign_again slash (codes "/") refl) (λ _ _.
    step (num_again is_arity i.arity (le-leb i.arity 4 fits.2))
    (λ n is. step (a_sign_again semicolon (codes ";") refl) (λ _ _.
    done (λ j. record {
      at = 0;
      part = renamed i.part part same j;
      name = renamed i.name x same' j;
      arity =
          is j;
    })))))))))

-- ---- globals

is_length_of : (n : ℕ) → LengthFits n → is_length n ≡ true
is_length_of n h = grind (arith, nat_tests)

length_again : (given : Option ℕ) → IfSome given LengthFits → Again (length_part true) (length_pieces given)
    (λ n. n ≡ given)
unfolding length_part
length_again None fits = right (done refl)
length_again (Some n) fits =
    left (step (a_sign_again square (codes "[") refl)
    (λ _ _. step (num_again is_length n (is_length_of n fits))
    (λ m is. step (a_sign_again end_square (codes "]") refl) (λ _ _. done (ap Some is)))))

minus_again : Again (minus_part true) (a_sign (codes "-") ∷ []) (λ b. b ≡ true)
unfolding minus_part
minus_again = left (step (a_sign_again dash (codes "-") refl) (λ _ _. done refl))

no_minus_again : Again (minus_part true) [] (λ b. b ≡ false)
unfolding minus_part
no_minus_again = right (done refl)

initial_again : (given : Option ℤ) → IfSome given IntegerFits → Again (initial_part true)
    (initial_pieces given) (λ z. z ≡ given)
unfolding initial_part
initial_again None fits = right (done refl)
initial_again (Some (pos n)) fits =
    left (step (a_sign_again assign (codes "=") refl)
    (λ _ _. step no_minus_again
    (λ b is. step (num_again (is_initial b) n (subst (λ b. IsTrue (is_initial b n)) (sym is)
    (lt-ltb n (2 ^ 63) fits)))
    (λ m same. done (ap (λ z. Some z) (ap (λ b. signed b m) is ∙ ap (λ k. pos k) same))))))
initial_again (Some (negsuc n)) fits =
    left (step (a_sign_again assign (codes "=") refl)
    (λ _ _. step minus_again
    (λ b is. step (num_again (is_initial b) (suc n)
    (subst (λ b. IsTrue (is_initial b (suc n))) (sym is) (le-leb (suc n) (2 ^ 63) (omega arith))))
    (λ m same. done (ap (λ z. Some z) (ap (λ b. signed b m) is ∙ ap (λ k. signed true k) same))))))

pub record InitialFits (g : Global) : Type 0 where
  pub global : GlobalFits g
  pub initial : IfSome g.initial IntegerFits

pub global_again : (g : Global) → InitialFits g → (count : ℕ) → count < MOST_ITEMS
    → Again (global_item [] true count) (global_pieces g) (λ x. unplaced_global x ≡ unplaced_global g)
unfolding global_item
global_again g fits count few =
    step (a_word_again (codes "global")) (λ _ _. step (test (lt-ltb count MOST_ITEMS few))
    (λ _ _. step (name_again g.name fits.global.0) (λ x same.
    at (sym (append_assoc (length_pieces g.length) (initial_pieces g.initial) (a_sign (codes ";") ∷ [])))
    (step (length_again g.length fits.global.1) (λ n is. step (initial_again g.initial fits.initial) (λ z is'.
    step (a_sign_again semicolon (codes ";") refl) (λ _ _.
    done (λ j. record { at = 0; name = renamed g.name x same j; length = is j; initial = is' j }))))))))

-- ---- parameters and locals

arity_again : (x : Name) (y : Name) (given : Option ℕ) (used : ℕ) → IsNamed x y → ArityFits given
    → used + param_registers given ≤ MOST_REGISTERS
    → Again (arity_part plain_trees true y used) (arity_pieces given)
    (λ q. (unplaced_param q ≡ record { name = unplaced_name x; arity = given })
    × (param_registers q.arity ≡ param_registers given))
unfolding arity_part
arity_again x y None used same fits few =
    right (done ((λ i. record { name = renamed x y same i; arity = None }), refl))
arity_again x y (Some n) used same fits few =
    left (step (a_sign_again slash (codes "/") refl) (λ _ _. step (test (lt-ltb (used + 1) 4 (omega arith)))
    (λ _ _. step (num_again is_arity n (le-leb n 4 fits))
    (λ m is. done ((λ i. record { name = renamed x y same i; arity = Some (is i) }), refl)))))

abbrev AlikeP : Param → Param → Type 0
AlikeP p q = (unplaced_param q ≡ unplaced_param p) × (param_registers q.arity ≡ param_registers p.arity)

registers_some : (given : Option ℕ) → 1 ≤ param_registers given
registers_some None = omega arith
registers_some (Some n) = omega arith

param_again : (p : Param) → ParamFits p → (used : Taken)
    → used.slots + param_registers p.arity ≤ MOST_REGISTERS
    → Again (param plain_trees true used) (param_pieces p) (AlikeP p)
unfolding plain_param
param_again p fits used few =
    let some = registers_some p.arity in
    right (step (name_again p.name fits.0) (λ y same. step (test (lt-ltb used.slots 4 (omega arith)))
    (λ _ _. arity_again p.name y p.arity used.slots same fits.1 few)))

params_more : (p : Param) (ps : List Param) → params_registers (p ∷ ps) ≡ param_registers p.arity +
    params_registers ps
params_more p ps = sum_by-cons (λ q. param_registers q.arity) p ps

more_params_again : (ps : List Param) → Each ParamFits ps → (used : Taken)
    → used.slots + params_registers ps ≤ MOST_REGISTERS
    → Again (many (behind_param plain_trees) (next_param plain_trees true) used) (more_params ps)
    (λ qs. map unplaced_param qs ≡ map unplaced_param ps)
more_params_again [] fits used few = no_items refl
more_params_again (p ∷ ps) fits used few =
    item (step {P = λ u. Unit {0}} {Q = AlikeP p} (a_sign_again comma (codes ",") refl)
    (λ _ _. param_again p fits.0 used (omega (arith, params_more p ps))))
    (λ q same. good (λ qs alike. λ i. same.0 i ∷ alike i)
    (more_params_again ps fits.1 (behind_param plain_trees used q)
    (let registers = same.1 in omega (arith, registers, params_more p ps))))

pub params_again : (ps : List Param) → Each ParamFits ps → params_registers ps ≤ MOST_REGISTERS
    → Again (params plain_trees true) (between_signs (codes "(") (params_pieces ps) (codes ")"))
    (λ qs. map unplaced_param qs ≡ map unplaced_param ps)
unfolding params some_params
params_again [] fits few =
    step (a_sign_again round (codes "(") refl) (λ _ _. left (step (a_sign_again end_round (codes ")") refl)
    (λ _ _. done refl)))
params_again (p ∷ ps) fits few =
    step (a_sign_again round (codes "(") refl)
    (λ _ _. right (at (sym (append_assoc (param_pieces p) (more_params ps) (a_sign (codes ")") ∷ [])))
    (step {P = AlikeP p} (param_again p fits.0 none_taken (omega (arith, params_more p ps))) (λ q same.
    step (more_params_again ps fits.1 (behind_param plain_trees none_taken q)
    (let registers = same.1 in omega (arith, registers, params_more p ps)))
    (λ qs alike. step (a_sign_again end_round (codes ")") refl) (λ _ _. done (λ i. same.0 i ∷ alike i)))))))

local_again : (x : Name) → NameFits x → (used : Taken) → used.slots < MOST_LOCALS
    → Again (local_item plain_trees true used) (local_pieces x) (λ y. unplaced_name y ≡ unplaced_name x)
unfolding plain_local
local_again x fits used few =
    right (step (a_word_again (codes "local")) (λ _ _. step (test (lt-ltb used.slots MOST_LOCALS few))
    (λ _ _. step (name_again x fits) (λ y same. step (a_sign_again semicolon (codes ";") refl)
    (λ _ _. done (renamed x y same))))))

-- ---- procedures

stmts_in : Block → List Stmt
stmts_in no_stmts = []
stmts_in (stmt s b) = s ∷ stmts_in b

stmts_back : (xs : List Stmt) → stmts_in (unplaced_block (block_of xs)) ≡ map unplaced_stmt xs
unfolding stmts_in
stmts_back [] = refl
stmts_back (s ∷ xs) = ap (λ l. unplaced_stmt s ∷ l) (stmts_back xs)

same_stmts : (xs ys : List Stmt) → unplaced_block (block_of xs) ≡ unplaced_block (block_of ys)
    → map unplaced_stmt xs ≡ map unplaced_stmt ys
same_stmts xs ys h = sym (stmts_back xs) ∙ ap stmts_in h ∙ stmts_back ys

pub record ProcAgain (p : Proc) : Type 0 where
  pub fits : ProcFits p
  pub shallow : block_nesting (block_of p.body) ≤ room_in_body

pub behind_pieces : Proc → List Piece
behind_pieces p = named p.name ++ (between_signs (codes "(") (params_pieces p.params) (codes ")") ++ in_curly
    (flat_map local_pieces p.locals ++ block_pieces (block_of p.body)))

proc_behind_again : (p : Proc) → ProcAgain p → (place : ℕ)
    → Again (proc_behind plain_trees true room_in_body place p.shared) (behind_pieces p)
    (λ q. unplaced_proc q ≡ unplaced_proc p)
unfolding proc_behind behind_pieces
proc_behind_again p h place =
    step (name_again p.name h.fits.name)
    (λ x same. step (params_again p.params h.fits.params h.fits.registers) (λ ps same_params.
    step (a_sign_again curly (codes "{") refl)
    (λ _ _. at (sym (append_assoc (flat_map local_pieces p.locals) (block_pieces (block_of p.body))
    (a_sign (codes "}") ∷ [])))
    (step (items_by_again (behind_local plain_trees) (λ used. used.slots) (λ used x. refl) local_pieces
    unplaced_name (local_item plain_trees true) MOST_LOCALS NameFits local_again p.locals h.fits.locals.1
    (behind_params plain_trees ps) (omega (arith, h.fits.locals.0))) (λ ls same_locals.
    step (block_again (block_of p.body) h.fits.body room_in_body h.shallow) (λ body alike.
    step (a_sign_again end_curly (codes "}") refl) (λ _ _.
    done (λ i. record {
      at = 0;
      shared = p.shared;
      name = renamed p.name x same i;
      params =
          same_params i;
      locals = same_locals i;
      body = same_stmts body p.body alike i;
    }))))))))

proc_again_by : (p : Proc) → ProcAgain p → (count : ℕ) → count < MOST_ITEMS → (b : Bool) → p.shared ≡ b
    → Again (proc_item plain_trees true room_in_body count)
    (export_pieces b ++ (a_word (codes "proc") ∷ behind_pieces p))
    (λ q. unplaced_proc q ≡ unplaced_proc p)
proc_again_by p h count few true is =
    left (step (a_word_again (codes "export")) (λ place _. step (test (lt-ltb count MOST_ITEMS few))
    (λ _ _. step (a_word_again (codes "proc"))
    (λ _ _. subst (λ b. Again (proc_behind plain_trees true room_in_body place b) (behind_pieces p)
    (λ q. unplaced_proc q ≡ unplaced_proc p)) is (proc_behind_again p h place)))))
proc_again_by p h count few false is =
    right (step (a_word_again (codes "proc")) (λ place _. step (test (lt-ltb count MOST_ITEMS few))
    (λ _ _. subst (λ b. Again (proc_behind plain_trees true room_in_body place b) (behind_pieces p)
    (λ q. unplaced_proc q ≡ unplaced_proc p)) is (proc_behind_again p h place))))

pub a_proc_again : (p : Proc) → ProcAgain p → (count : ℕ) → count < MOST_ITEMS
    → Again (proc_item plain_trees true room_in_body count) (proc_pieces p)
    (λ q. unplaced_proc q ≡ unplaced_proc p)
unfolding behind_pieces
a_proc_again p h count few = proc_again_by p h count few p.shared refl

-- ---- the header

field_again : (w : List ℕ) (n : ℕ) → n ≤ LAST_PLACE → Again (field true w) (field_pieces w n) (λ m. m ≡ n)
unfolding field field_pieces
field_again w n fits = step (a_word_again w) (λ _ _. num_again is_address n (le-leb n LAST_PLACE fits))

movable_again : (movable : Bool) → Again (movable_part true) (movable_pieces movable) (λ b. b ≡ movable)
unfolding movable_part
movable_again true = left (step (a_word_again (codes "movable")) (λ _ _. done refl))
movable_again false = right (done refl)

count_fits : (first n : ℕ) → SealsFit first n → is_return_count first n ≡ true
count_fits first n h = grind (arith, nat_tests)

-- the header is the same but for its places
pub record SameHeader (m : ModuleFields) (h : ModuleHeader) : Type 0 where
  pub name : unplaced_name h.name ≡ unplaced_name m.name
  pub code : h.code ≡ m.code
  pub data_base : h.data_base ≡ m.data_base
  pub closure : h.closure ≡ m.closure
  pub returns : h.returns ≡ m.returns
  pub return_count : h.return_count ≡ m.return_count
  pub stack : h.stack ≡ m.stack
  pub movable : h.movable ≡ m.movable

flat_header : ModuleFields → List Piece
flat_header m =
    a_word (codes "module") ∷ (named m.name
    ++ (field_pieces (codes "code") m.code ++ (field_pieces (codes "data") m.data_base
    ++ (field_pieces (codes "closure") m.closure ++ (field_pieces (codes "returns") m.returns
    ++ (a_numeral m.return_count ∷
    (field_pieces (codes "stack") m.stack ++ (movable_pieces m.movable ++ a_sign (codes ";") ∷ []))))))))

is_flat : (m : ModuleFields) → flat_header m ≡ header_pieces m
unfolding flat_header header_pieces base_pieces seal_pieces field_pieces
is_flat m = refl

flat_again : (m : ModuleFields) → IsModule m → Again (header [] true) (flat_header m) (SameHeader m)
unfolding header flat_header
flat_again m fits =
    step (a_word_again (codes "module")) (λ _ _. step (name_again m.name fits.name) (λ x same.
    step (field_again (codes "code") m.code fits.code)
    (λ c is1. step (field_again (codes "data") m.data_base fits.data_base) (λ d is2.
    step (field_again (codes "closure") m.closure fits.closure)
    (λ s is3. step (field_again (codes "returns") m.returns fits.returns.0) (λ r is4.
    step (num_again (is_return_count r) m.return_count (subst (λ r. is_return_count r m.return_count ≡ true)
    (sym is4) (count_fits m.returns m.return_count fits.returns))) (λ n is5.
    step (field_again (codes "stack") m.stack fits.stack) (λ k is6. step (movable_again m.movable) (λ b is7.
    step (a_sign_again semicolon (codes ";") refl) (λ _ _.
    done (record {
      name = renamed m.name x same;
      code = is1;
      data_base = is2;
      closure = is3;
      returns =
          is4;
      return_count = is5;
      stack = is6;
      movable = is7;
    })))))))))))

pub header_again : (m : ModuleFields) → IsModule m → Again (header [] true) (header_pieces m) (SameHeader m)
header_again m fits = at (is_flat m) (flat_again m fits)
