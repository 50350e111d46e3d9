-- What the grammar reads step by step, read in parts.
use Rattle.std.proofs.Common.{◌<◌, ◌≡◌, ◌∙◌, Bool, true, false, ℕ, List}
use Rattle.std.proofs.Common.{Option, Some, None, Result, Ok, Err, refl, sym, ap}
use Rattle.std.specs.Prelude.{nat_lt, codes, option_map, sum_by, is_some}
use Rattle.std.proofs.lemmas.Bool.{lt-ltb}
use Rattle.readers.specs.Readers.{◌>>=◌, goes_on, done, holds}
use Rattle.phrases.specs.Reading.{case_next, next_means, behind}
use Rattle.proc_language.specs.declared.TheConstants.{MOST_ITEMS, MOST_REGISTERS, MOST_LOCALS, MOST_TOKENS}
use Rattle.proc_language.specs.declared.tree.Name.{Name}
use Rattle.proc_language.specs.declared.tree.Op.{Op}
use Rattle.proc_grammar.specs.declared.fault.ParseFault.{ParseFault}
use Rattle.proc_grammar.specs.declared.fault.ParseFault.TheVariants.{TooMany}
use Rattle.proc_grammar.specs.Fault.{Fails}
use Rattle.proc_grammar.specs.Lexemes.{word, words_of, sign, dot, slash, semicolon, curly, end_curly}
use Rattle.proc_grammar.specs.Lexemes.{a_local, a_proc, comparing, assign, square, round, end_square}
use Rattle.proc_grammar.specs.Makes.{Actions, TokenActions}
use Rattle.proc_grammar.specs.Grammar.{is_arity, is_return_count, behind_local, one_more, operated}
use Rattle.proc_grammar.specs.Grammar.{room_in_body}
use Rattle.proc_grammar.specs.Reader.{Input, Reader, one, many}
use Rattle.proc_grammar.specs.Reading.{full, next_name, next_num, next_length, next_initial, next_field}
use Rattle.proc_grammar.specs.Reading.{next_movable, next_import, next_global, next_header, next_local}
use Rattle.proc_grammar.specs.Reading.{next_params, next_locals, next_expr, next_stmts, next_proc}
use Rattle.proc_grammar.specs.Reading.{plain_param, token_param, arity_behind, plain_local, token_local}
use Rattle.proc_grammar.specs.Reading.{next_index, name_stmt, behind_target}
use Rattle.proc_grammar.specs.Reading.{set_behind, set_at_behind, calls_behind}
use Rattle.proc_grammar.specs.Reading.{next_block, inner_stmts, if_behind, next_else, else_behind}
use Rattle.proc_grammar.specs.Reading.{next_sum, inner_expr, expr_with, next_comparison, compared_behind}
use Rattle.proc_grammar.specs.Reading.{shared_behind, own_behind, proc_behind, next_module}
use Rattle.proc_parse.specs.Loops.{item_on, procs_list, bracketed}
use Rattle.proc_parse.specs.Parts.{fitting_word, fitting_name, header_numbers, imported, global_form}
use Rattle.proc_parse.specs.Parts.{ended_value, proc_inner}
use Rattle.proc_parse.specs.Answers.{left_by}
use Rattle.proc_parse.proofs.Steps.{within, fit_by, read_on, fails_on, case_taken, case_left}
use Rattle.proc_parse.proofs.Steps.{case_there, case_none}

-- what is the same after any first part
same_on : {A B : Type 0} (q : Result (A × Input) ParseFault) {f g : A → Reader B}
    → ((x : A) (i : Input) → f x i ≡ g x i) → goes_on q f ≡ goes_on q g
same_on (Ok x) e = e x.0 x.1
same_on (Err d) e = refl

-- what tokens make of a name
pub made_by : {K X : Type 0} (f : K → X) (tokens : Option K) (k : K) (made : Option X) (x : X) → tokens ≡
    Some k
    → made ≡ option_map f tokens → made ≡ Some x → x ≡ f k
made_by f None k made x e is there = absurd cc
made_by f (Some m) k made x e is there = cc

-- ---- items

module _ (words : List (List ℕ)) where
  pub import_is : (count : ℕ) (i : Input) → next_import words true count i
      ≡ goes_on (fitting_word (codes "import") (nat_lt count MOST_ITEMS) i) (λ at. next_name words true
      >>= λ part.
      one (sign dot) >>= λ u. imported words >>= λ called.
      done (record { at = at; part = part; name = called.name; arity = called.arity }))
  unfolding next_import fitting_word imported
  import_is count i =
      fit_by (one (word (codes "import")) i) (nat_lt count MOST_ITEMS) TooMany _
      ∙ same_on _ (λ at i.
      same_on (next_name words true i) (λ part i.
      same_on (one (sign dot) i) (λ u i. sym (
      within (next_name words true i) _ _ (λ x i.
      within (one (sign slash) i) _ _ (λ u i.
      within (next_num true is_arity i) _ _ (λ arity i.
      within (one (sign semicolon) i) _ _ (λ u i. refl))))))))

  pub global_is : (count : ℕ) (i : Input) → next_global words true count i
      ≡ goes_on (fitting_word (codes "global") (nat_lt count MOST_ITEMS) i) (λ at. next_name words true
      >>= λ x.
      global_form >>= λ form. done (record { at = at; name = x; length = form.0; initial = form.1 }))
  unfolding next_global fitting_word global_form
  global_is count i =
      fit_by (one (word (codes "global")) i) (nat_lt count MOST_ITEMS) TooMany _
      ∙ same_on _ (λ at i.
      same_on (next_name words true i) (λ x i. sym (
      within (next_length true i) _ _ (λ len i.
      within (next_initial true i) _ _ (λ initial i.
      within (one (sign semicolon) i) _ _ (λ u i. refl))))))

  pub header_is : (i : Input) → next_header words true i
      ≡ goes_on (one (word (codes "module")) i) (λ at. next_name words true >>= λ x. header_numbers >>= λ n.
      done (record {
        at = at;
        name = x;
        code = n.code;
        data_base = n.data_base;
        closure = n.closure;
        returns = n.returns;
        return_count = n.return_count;
        stack = n.stack;
        movable = n.movable;
      }))
  unfolding next_header header_numbers
  header_is i =
      same_on (one (word (codes "module")) i) (λ at i.
      same_on (next_name words true i) (λ x i. sym (
      within (next_field true (codes "code") i) _ _ (λ code i.
      within (next_field true (codes "data") i) _ _ (λ data_base i.
      within (next_field true (codes "closure") i) _ _ (λ closure i.
      within (next_field true (codes "returns") i) _ _ (λ returns i.
      within (next_num true (is_return_count returns) i) _ _ (λ return_count i.
      within (next_field true (codes "stack") i) _ _ (λ stack i.
      within (next_movable true i) _ _ (λ movable i.
      within (one (sign semicolon) i) _ _ (λ u i. refl)))))))))))

module _ {E A S P V R M : Type 0} (T : Actions E A S P V R M) where
  -- ---- expressions

  -- after a sum
  module _ (room : ℕ) (fits : Bool) (i j k : Input) (left : E)
      (summed : next_sum T true full room (inner_expr T true full room) fits i ≡ Ok (left, j)) where
    pub sum_alone : next_means comparing j ≡ None → k ≡ j
        → expr_with T true full room (inner_expr T true full room) fits i ≡ Ok (left, k)
    unfolding expr_with next_comparison
    sum_alone none same = read_on _ refl summed
        ∙ case_none comparing (compared_behind T true full room (inner_expr T true full room) left)
        (done left)
        j k none same

    module _ (o : Op) (there : next_means comparing j ≡ Some o) (past : k ≡ behind j) where
      right_on : expr_with T true full room (inner_expr T true full room) fits i
          ≡ goes_on (next_sum T true full room (inner_expr T true full room) true k)
          (λ right. done (operated T o left right))
      unfolding expr_with next_comparison
      right_on = read_on _ refl summed
          ∙ case_there comparing (compared_behind T true full room (inner_expr T true full room) left)
          (done left)
          j k o there past

      pub right_bad : (f : ParseFault)
          → Fails f (next_sum T true full room (inner_expr T true full room) true k)
          → Fails f (expr_with T true full room (inner_expr T true full room) fits i)
      right_bad f = fails_on _ _ f right_on

      pub compared : (right : E) (l : Input)
          → next_sum T true full room (inner_expr T true full room) true k ≡ Ok (right, l)
          → expr_with T true full room (inner_expr T true full room) fits i
          ≡ Ok (operated T o left right, l)
      compared right l reads = read_on _ right_on reads

  -- ---- statements

  pub ended_by : (made : ℕ → E → S) (room : ℕ) (i : Input)
      → goes_on (next_expr T true full room true i) (λ e. one (sign semicolon) >>= λ end. done (made end e))
      ≡ goes_on (ended_value T room i) (λ v. done (made v.1 v.0))
  unfolding ended_value
  ended_by made room i = sym (
      within (next_expr T true full room true i) _ _ (λ e i.
      within (one (sign semicolon) i) _ _ (λ end i. refl)))

  pub set_at_is : (room : ℕ) (x : Name) (at : ℕ) (i : Input)
      → set_at_behind T true full room (inner_stmts T true full room) x at i
      ≡ goes_on (bracketed T room true end_square at i) (λ index. one (sign assign) >>= λ u.
      ended_value T room >>= λ v. done (T.set_at x.at v.1 x index v.0))
  unfolding set_at_behind next_index bracketed
  set_at_is room x at i =
      same_on (bracketed T room true end_square at i) (λ index i.
      same_on (one (sign assign) i) (λ u i. ended_by (λ end e. T.set_at x.at end x index e) room i))

  -- a statement that begins with this name, by what stands behind it
  module _ (room : ℕ) (i j : Input) (x : Name) (named : next_name (words_of T.tokens) true i ≡ Ok (x, j))
      (k : Input) (o : Option ℕ) (means : o ≡ next_means (sign assign) j) (left : k ≡ left_by o j) where
    others : Reader S
    others = case_next (sign square) (set_at_behind T true full room (inner_stmts T true full room) x)
        (one (sign round) >>= calls_behind T true full room (inner_stmts T true full room) x)

    pub is_set : is_some o ≡ true → name_stmt T true full room (inner_stmts T true full room) i
        ≡ set_behind T true full room (inner_stmts T true full room) x k
    unfolding name_stmt behind_target others
    is_set there = read_on _ refl named
        ∙ case_taken (sign assign) (set_behind T true full room (inner_stmts T true full room) x) others
        j k o means there left

    not_set : is_some o ≡ false → name_stmt T true full room (inner_stmts T true full room) i ≡ others k
    unfolding name_stmt behind_target others
    not_set none = read_on _ refl named
        ∙ case_left (sign assign) (set_behind T true full room (inner_stmts T true full room) x) others
        j k o means none left

    module _ (none : is_some o ≡ false) (l : Input) where
      pub is_set_at : (at : ℕ) → next_means (sign square) k ≡ Some at → l ≡ behind k
          → name_stmt T true full room (inner_stmts T true full room) i
          ≡ set_at_behind T true full room (inner_stmts T true full room) x at l
      unfolding others
      is_set_at at there past = not_set none ∙ case_there (sign square) _ _ k l at there past

      pub is_call : next_means (sign square) k ≡ None → l ≡ k
          → name_stmt T true full room (inner_stmts T true full room) i
          ≡ goes_on (one (sign round) l) (calls_behind T true full room (inner_stmts T true full room) x)
      unfolding others
      is_call nowhere same = not_set none ∙ case_none (sign square) _ _ k l nowhere same

  -- after the condition of an `if`, and after what stands in its brackets
  module _ (room at : ℕ) (i j k : Input) (e : E) (body : List S) (end : ℕ)
      (tested : next_expr T true full room true i ≡ Ok (e, j))
      (guarded : next_block T true full room (inner_stmts T true full room) j ≡ Ok ((body, end), k)) where
    if_on : if_behind T true full room (inner_stmts T true full room) at i
        ≡ next_else T true full room (inner_stmts T true full room) at e body end k
    unfolding if_behind
    if_on =
        let inner = inner_stmts T true full room in
        ap (λ q. goes_on q (λ x. next_block T true full room inner >>= λ b.
        next_else T true full room inner at x b.0 b.1)) tested
        ∙ ap (λ q. goes_on q (λ b. next_else T true full room inner at e b.0 b.1)) guarded

    module _ (l : Input) (o : Option ℕ) (means : o ≡ next_means (word (codes "else")) k)
        (left : l ≡ left_by o k)
      where
        pub if_alone : (s : S) → is_some o ≡ false → s ≡ T.if_then at end e body
            → if_behind T true full room (inner_stmts T true full room) at i ≡ Ok (s, l)
        unfolding next_else
        if_alone s none made = if_on
            ∙ case_left (word (codes "else")) (else_behind T true full room
            (inner_stmts T true full room) at e body)
            (done (T.if_then at end e body)) k l o means none left ∙ ap (λ x. Ok (x, l)) (sym made)

        other_on : is_some o ≡ true → if_behind T true full room (inner_stmts T true full room) at i
            ≡ goes_on (next_block T true full room (inner_stmts T true full room) l)
            (λ b. done (T.if_else at b.1 e body b.0))
        unfolding next_else
        other_on there = if_on
            ∙ case_taken (word (codes "else")) (else_behind T true full room
            (inner_stmts T true full room) at e body)
            (done (T.if_then at end e body)) k l o means there left

        pub other_bad : (f : ParseFault) → is_some o ≡ true
            → Fails f (next_block T true full room (inner_stmts T true full room) l)
            → Fails f (if_behind T true full room (inner_stmts T true full room) at i)
        other_bad f there = fails_on _ _ f (other_on there)

        pub if_other : (other : List S) (last : ℕ) (m : Input) (s : S) → is_some o ≡ true
            → next_block T true full room (inner_stmts T true full room) l ≡ Ok ((other, last), m)
            → s ≡ T.if_else at last e body other
            → if_behind T true full room (inner_stmts T true full room) at i ≡ Ok (s, m)
        if_other other last m s there reads made = read_on _ (other_on there) reads
            ∙ ap (λ x. Ok (x, m)) (sym made)

  -- ---- parameters and locals

  pub param_is : (used : ℕ) (i : Input) → plain_param T true full used i
      ≡ goes_on (fitting_name T (nat_lt used MOST_REGISTERS) i) (λ x.
      case_next (sign slash) (λ at. arity_behind T true full x used) (done (T.param x)))
  unfolding plain_param fitting_name
  param_is used i =
      fit_by (next_name (words_of T.tokens) true i) (nat_lt used MOST_REGISTERS) (λ x. TooMany x.at) _

  pub token_param_is : (held : ℕ) (makes : TokenActions A S P V) (i : Input)
      → token_param T true full held makes i
      ≡ goes_on (fitting_name T (nat_lt held MOST_TOKENS) i) (λ x. done (makes.param x))
  unfolding token_param fitting_name
  token_param_is held makes i =
      fit_by (next_name (words_of T.tokens) true i) (nat_lt held MOST_TOKENS) (λ x. TooMany x.at) _

  pub local_is : (count : ℕ) (i : Input) → plain_local T true full count i
      ≡ goes_on (fitting_word (codes "local") (nat_lt count MOST_LOCALS) i) (λ at.
      next_name (words_of T.tokens) true >>= λ x. one (sign semicolon) >>= λ u. done (T.local x))
  unfolding plain_local fitting_word
  local_is count i = fit_by (one (word (codes "local")) i) (nat_lt count MOST_LOCALS) TooMany _

  pub token_local_is : (held : ℕ) (makes : TokenActions A S P V) (i : Input)
      → token_local T true full held makes i
      ≡ goes_on (fitting_name T (nat_lt held MOST_TOKENS) i) (λ x.
      one (sign semicolon) >>= λ u. done (makes.local x))
  unfolding token_local fitting_name
  token_local_is held makes i =
      fit_by (next_name (words_of T.tokens) true i) (nat_lt held MOST_TOKENS) (λ x. TooMany x.at) _

  pub own_is : (count : ℕ) (i : Input)
      → (one (word (codes "proc")) >>= own_behind T true full room_in_body count) i
      ≡ goes_on (fitting_word (codes "proc") (nat_lt count MOST_ITEMS) i) (λ at.
      proc_behind T true full room_in_body at false)
  unfolding fitting_word
  own_is count i = fit_by (one (word (codes "proc")) i) (nat_lt count MOST_ITEMS) TooMany _

  pub shared_on : (count at : ℕ) (i : Input) → count < MOST_ITEMS
      → shared_behind T true full room_in_body count at i
      ≡ goes_on (one (word (codes "proc")) i) (λ u. proc_behind T true full room_in_body at true)
  shared_on count at i few = ap (λ b. goes_on (holds b (TooMany at) i) (λ u. one (word (codes "proc"))
      >>= λ v. proc_behind T true full room_in_body at true)) (lt-ltb count MOST_ITEMS few)

  -- ---- procedures and modules

  pub proc_is : (at : ℕ) (shared : Bool) (i : Input) → proc_behind T true full room_in_body at shared i
      ≡ goes_on (next_name (words_of T.tokens) true i) (λ x. next_params T true full >>= λ params.
      proc_inner T (sum_by T.param_tokens params) >>= λ p.
      done (T.proc at p.1 shared x params p.0.0 p.0.1))
  unfolding proc_behind next_locals proc_inner
  proc_is at shared i =
      same_on (next_name (words_of T.tokens) true i) (λ x i.
      same_on (next_params T true full i) (λ params i. sym (
      within (one (sign curly) i) _ _ (λ u i.
      within (many full (a_local T.tokens) (behind_local T) (next_local T true full)
      (record { slots = 0; tokens = sum_by T.param_tokens params }) i) _ _ (λ locals i.
      within (next_stmts T true full room_in_body i) _ _ (λ body i.
      within (one (sign end_curly) i) _ _ (λ end i. refl)))))))

  pub module_is : (i : Input) → next_module T true full room_in_body i
      ≡ goes_on (next_header (words_of T.tokens) true i) (λ header.
      many full (word (codes "import")) one_more (next_import (words_of T.tokens) true) 0 >>= λ imports.
      many full (word (codes "global")) one_more (next_global (words_of T.tokens) true) 0 >>= λ globals.
      procs_list T >>= λ procs. done (T.module_of header imports globals procs))
  unfolding next_module procs_list item_on
  module_is i =
      same_on (next_header (words_of T.tokens) true i) (λ header i.
      same_on (many full (word (codes "import")) one_more (next_import (words_of T.tokens) true) 0 i) (λ
      imports i.
      same_on (many full (word (codes "global")) one_more (next_global (words_of T.tokens) true) 0 i) (λ
      globals i.
      sym (
      within (next_proc T true full room_in_body 0 i) _ _ (λ first i.
      within (many full a_proc one_more (next_proc T true full room_in_body) 1 i) _ _ (λ procs i. refl))))))
