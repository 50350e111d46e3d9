-- Where the faults of a source's reader stand.
use Rattle.std.proofs.Common.{◌≡◌, Bool, true, false, cond, ℕ, zero, suc, ◌≤◌, ◌+◌, arith, inl, inr, ◌⊎◌}
use Rattle.std.proofs.Common.{List, [], ◌∷◌, length, Option, Some, None, refl, sym, ap}
use Rattle.std.specs.Prelude.{codes, nat_lt, ◌==◌}
use Rattle.std.specs.Str.{bytes_eq}
use Rattle.text_scan.specs.declared.token.TokenKind.{TokenKind}
use Rattle.text_scan.specs.declared.token.TokenKind.TheVariants as kinds
use Rattle.proc_language.specs.declared.TheConstants.{MOST_ITEMS, MOST_REGISTERS, MOST_LOCALS, MOST_TERMS}
use Rattle.proc_language.specs.declared.TheConstants.{MOST_TOKENS}
use Rattle.proc_language.specs.declared.tree.Name.{Name}
use Rattle.proc_language.specs.declared.tree.Op.{Op}
use Rattle.proc_language.specs.declared.module.Import.{Import}
use Rattle.proc_language.specs.declared.module.Global.{Global}
use Rattle.readers.specs.Readers.{◌>>=◌, done}
use Rattle.phrases.specs.Phrase as phrases
use Rattle.phrases.specs.Phrase.{then, only, ◌or◌}
use Rattle.phrases.proofs.Offers as blames
use Rattle.phrases.proofs.Offers.{IsToken, is_token, is_tested, blames_then, blames_token, blames_done}
use Rattle.phrases.proofs.Offers.{blames_none, blames_known, blames_map, blames_holds, blames_one, blames_as}
use Rattle.phrases.proofs.Offers.{blames_case, blames_either, blames_many, Is, Head, Heads, heads_one}
use Rattle.phrases.proofs.Offers.{heads_then, heads_or, heads_as}
use Rattle.proc_grammar.specs.declared.fault.ParseFault.TheVariants.{Range, TooMany}
use Rattle.proc_grammar.specs.Fault.{limit_place}
use Rattle.proc_grammar.specs.Makes.{Actions}
use Rattle.proc_grammar.specs.Lexemes.{Lexeme, Meaning, Numeral, word, word_in, words_of, token_word, sign}
use Rattle.proc_grammar.specs.Lexemes.{sign_in, a_name, a_local, name_in, name_text, taken, a_number}
use Rattle.proc_grammar.specs.Lexemes.{number_in, a_start, a_proc, adding, dot, comma, semicolon, slash}
use Rattle.proc_grammar.specs.Lexemes.{assign, dash, round, square, curly, end_round, end_square, end_curly}
use Rattle.proc_grammar.specs.Grammar.{Phrase, kept, is_short, is_address, is_return_count, is_arity}
use Rattle.proc_grammar.specs.Grammar.{is_length, is_literal, is_initial, signed, behind_param, behind_arg}
use Rattle.proc_grammar.specs.Grammar.{behind_local, behind_params, one_more, operated, sum_of, Taken}
use Rattle.proc_grammar.specs.Grammar.{none_taken, from_tokens}
use Rattle.proc_grammar.specs.Grammar as grammar
use Rattle.proc_grammar.specs.Reader.{Reader, tells, one, expected, case_token}
use Rattle.proc_grammar.specs.Reading as reading
use Rattle.proc_grammar.proofs.Tokens.{name_token, number_token, word_token, sign_token, adding_token}
use Rattle.proc_grammar.proofs.Added.{heads_added}
use Rattle.proc_grammar.proofs.Exprs.{number_spelled, open_next}
use Rattle.proc_grammar.proofs.Stmts.{stmt_heads}

abbrev pub Blames : {A : Type 0} → ℕ → (ℕ → Type 0) → Phrase A → Reader A → Type 0
Blames = blames.Blames tells limit_place

-- ---- tokens and their places

chosen_at : (b : Bool) (at a : ℕ) → cond b (Some at) None ≡ Some a → a ≡ at
chosen_at true at a e = let same : at ≡ a = cc in sym same
chosen_at false at a e = absurd cc

word_place : (w : List ℕ) (o : Option (List ℕ)) (at a : ℕ) → word_in w at o ≡ Some a → a ≡ at
word_place w None at a e = absurd cc
word_place w (Some text) at a e = chosen_at (bytes_eq text w) at a e

word_places : (w : List ℕ) (t : Lexeme) (a : ℕ) → word w t ≡ Some a → a ≡ t.at
unfolding word
word_places w t a e = word_place w (name_text t.kind t.text) t.at a e

sign_place : (s : ℕ) (k : TokenKind) (at a : ℕ) → sign_in s k at ≡ Some a → a ≡ at
sign_place s kinds.Name at a e = absurd cc
sign_place s (kinds.Number n) at a e = absurd cc
sign_place s (kinds.Sign b) at a e = chosen_at (b == s) at a e
sign_place s kinds.Equal at a e = absurd cc
sign_place s kinds.NewLine at a e = absurd cc

sign_places : (s : ℕ) (t : Lexeme) (a : ℕ) → sign s t ≡ Some a → a ≡ t.at
unfolding sign
sign_places s t a e = sign_place s t.kind t.at a e

number_place : (k : TokenKind) (at : ℕ) (n : Numeral) → number_in k at ≡ Some n → n.at ≡ at
number_place kinds.Name at n e = absurd cc
number_place (kinds.Number m) at n e =
    let same : record { value = m; at = at } ≡ n = cc in
    ap (λ (x : Numeral). x.at) (sym same)
number_place (kinds.Sign b) at n e = absurd cc
number_place kinds.Equal at n e = absurd cc
number_place kinds.NewLine at n e = absurd cc

number_places : (t : Lexeme) (n : Numeral) → a_number t ≡ Some n → n.at ≡ t.at
unfolding a_number
number_places t n e = number_place t.kind t.at n e

free_place : (b : Bool) (text : List ℕ) (at : ℕ) (x : Name)
    → cond b None (Some (record { text = text; at = at })) ≡ Some x → x.at ≡ at
free_place true text at x e = absurd cc
free_place false text at x e =
    let same : record { text = text; at = at } ≡ x = cc in
    ap (λ (y : Name). y.at) (sym same)

name_place : (words : List (List ℕ)) (o : Option (List ℕ)) (at : ℕ) (x : Name) → name_in words at o ≡ Some x
    → x.at ≡ at
name_place words None at x e = absurd cc
name_place words (Some text) at x e = free_place (taken words text) text at x e

name_places : (words : List (List ℕ)) (t : Lexeme) (x : Name) → a_name words t ≡ Some x → x.at ≡ t.at
unfolding a_name
name_places words t x e = name_place words (name_text t.kind t.text) t.at x e

-- no token is nothing
full_head : {C : Lexeme → Type 0} (t : List Lexeme) → Head C t → 1 ≤ length t
full_head t (u, rest, e, c) = let len : length t ≡ suc (length rest) = ap length e in omega (arith, len)

-- ---- readers of one token

module _ (fuel : ℕ) {K : ℕ → Type 0} where
  a_token : {A : Type 0} (m : Meaning A) → ((tokens : List Lexeme) × (a : A) × phrases.one m tokens a)
      → Blames fuel K (phrases.one m) (one m)
  a_token m (tokens, a, (t, is, means)) = blames_one m t a means

  word_one : (w : List ℕ) → Blames fuel K (phrases.one (word w)) (one (word w))
  word_one w = a_token (word w) (word_token fuel w).some

  sign_one : (s : ℕ) → (s == s) ≡ true → Blames fuel K (phrases.one (sign s)) (one (sign s))
  sign_one s same = a_token (sign s) (sign_token fuel s same).some

  number_one : Blames fuel K (phrases.one a_number) (one a_number)
  number_one = a_token a_number (number_token fuel).some

  name_one : (words : List (List ℕ)) → Blames fuel K (phrases.one (a_name words)) (one (a_name words))
  name_one words = a_token (a_name words) (name_token fuel words).some

  adding_one : Blames fuel K (phrases.one adding) (one adding)
  adding_one = a_token adding (adding_token fuel).some

-- a word, a sign, to be blamed after it
word_is : (w : List ℕ) → IsToken tells (phrases.one (word w)) (one (word w)) (λ a. a)
word_is w = is_token tells (word w) (λ a. a) (word_places w)

sign_is : (s : ℕ) → IsToken tells (phrases.one (sign s)) (one (sign s)) (λ a. a)
sign_is s = is_token tells (sign s) (λ a. a) (sign_places s)

-- what begins with a word of tokens, before others
blames_added : {N A : Type 0} {fuel : ℕ} {K : ℕ → Type 0} {Q : N → ℕ → Phrase A} {R : Phrase A}
    {f : N → ℕ → Reader A} {r : Reader A} (o : Option N) (w : List ℕ)
    → ((k : N) (at : ℕ) → Blames fuel (λ n. K n ⊎ (n ≡ at)) (Q k at) (f k at)) → Blames fuel K R r
    → Blames fuel K (from_tokens o (λ k. then (phrases.one (word w)) (Q k)) or R) (case_token o w f r)
blames_added None w added other = blames_as (λ l x h. inr h) other
blames_added (Some k) w added other = blames_case (λ a. a) (word_places w) (added k) other

module _ (limits : Bool) (fuel : ℕ) {K : ℕ → Type 0} where
  num_blames : (test : ℕ → Bool) → Blames fuel K (grammar.num false test) (reading.next_num limits test)
  unfolding grammar.num reading.next_num
  num_blames test = blames_token (λ n. n.at) (is_token tells a_number (λ n. n.at) number_places)
      (number_one fuel) (λ n.
      blames_holds _ (kept limits (test n.value)) true (Range n.at) n.at refl (inr refl) refl
      (blames_done n.value))

  minus_blames : Blames fuel K (grammar.minus_part false) (reading.next_minus limits)
  unfolding grammar.minus_part reading.next_minus
  minus_blames = blames_case (λ a. a) (sign_places dash) (λ at. blames_done true) (blames_done false)

  movable_blames : Blames fuel K (grammar.movable_part false) (reading.next_movable limits)
  unfolding grammar.movable_part reading.next_movable
  movable_blames = blames_case (λ a. a) (word_places (codes "movable")) (λ at. blames_done true)
      (blames_done false)

module _ (limits : Bool) (fuel : ℕ) {K : ℕ → Type 0} where
  length_blames : Blames fuel K (grammar.length_part false) (reading.next_length limits)
  unfolding grammar.length_part reading.next_length
  length_blames = blames_case (λ a. a) (sign_places square) (λ at.
      blames_then (num_blames limits fuel is_length) (λ n.
      blames_then (sign_one fuel end_square refl) (λ _. blames_done (Some n)))) (blames_done None)

  initial_blames : Blames fuel K (grammar.initial_part false) (reading.next_initial limits)
  unfolding grammar.initial_part reading.next_initial
  initial_blames = blames_case (λ a. a) (sign_places assign) (λ at.
      blames_then (minus_blames limits fuel) (λ negative.
      blames_then (num_blames limits fuel (is_initial negative))
      (λ n. blames_done (Some (signed negative n))))) (blames_done None)

  field_blames : (w : List ℕ) → Blames fuel K (grammar.field false w) (reading.next_field limits w)
  unfolding grammar.field reading.next_field
  field_blames w = blames_then (word_one fuel w) (λ _. num_blames limits fuel is_address)

-- ---- names, imports, globals, the header

module _ (words : List (List ℕ)) (limits : Bool) (fuel : ℕ) where
  name_blames : {K : ℕ → Type 0} → Blames fuel K (grammar.name words false) (reading.next_name words limits)
  unfolding grammar.name reading.next_name
  name_blames = blames_token (λ x. x.at) (is_token tells (a_name words) (λ x. x.at) (name_places words))
      (name_one fuel words) (λ x.
      blames_holds _ (kept limits (is_short x)) true (Range x.at) x.at refl (inr refl) refl (blames_done x))

  import_blames : {K : ℕ → Type 0} (count : ℕ) → Blames fuel K (grammar.import_item words false count)
      (reading.next_import words limits count)
  unfolding grammar.import_item reading.next_import
  import_blames count =
      blames_token (λ a. a) (word_is (codes "import")) (word_one fuel (codes "import")) (λ at.
      blames_holds _ (kept limits (nat_lt count MOST_ITEMS)) true (TooMany at) at refl (inr refl) refl (
      blames_then name_blames (λ part.
      blames_then (sign_one fuel dot refl) (λ _.
      blames_then name_blames (λ x.
      blames_then (sign_one fuel slash refl) (λ _.
      blames_then (num_blames limits fuel is_arity) (λ arity.
      blames_then (sign_one fuel semicolon refl) (λ _.
      blames_done (record { at = at; part = part; name = x; arity = arity })))))))))

  global_blames : {K : ℕ → Type 0} (count : ℕ) → Blames fuel K (grammar.global_item words false count)
      (reading.next_global words limits count)
  unfolding grammar.global_item reading.next_global
  global_blames count =
      blames_token (λ a. a) (word_is (codes "global")) (word_one fuel (codes "global")) (λ at.
      blames_holds _ (kept limits (nat_lt count MOST_ITEMS)) true (TooMany at) at refl (inr refl) refl (
      blames_then name_blames (λ x.
      blames_then (length_blames limits fuel) (λ len.
      blames_then (initial_blames limits fuel) (λ initial.
      blames_then (sign_one fuel semicolon refl) (λ _.
      blames_done (record { at = at; name = x; length = len; initial = initial })))))))

  header_blames : {K : ℕ → Type 0} → Blames fuel K (grammar.header words false)
      (reading.next_header words limits)
  unfolding grammar.header reading.next_header
  header_blames =
      blames_then (word_one fuel (codes "module")) (λ at.
      blames_then name_blames (λ x.
      blames_then (field_blames limits fuel (codes "code")) (λ code.
      blames_then (field_blames limits fuel (codes "data")) (λ data_base.
      blames_then (field_blames limits fuel (codes "closure")) (λ closure.
      blames_then (field_blames limits fuel (codes "returns")) (λ first_return.
      blames_then (num_blames limits fuel (is_return_count first_return)) (λ return_count.
      blames_then (field_blames limits fuel (codes "stack")) (λ stack.
      blames_then (movable_blames limits fuel) (λ movable.
      blames_then (sign_one fuel semicolon refl) (λ _.
      blames_done _))))))))))

  name_is : IsToken tells (grammar.name words false) (reading.next_name words limits) (λ x. x.at)
  unfolding grammar.name reading.next_name
  name_is = is_tested tells (λ x. x.at) (λ x. kept limits (is_short x)) (λ x. Range x.at)
      (is_token tells (a_name words) (λ x. x.at) (name_places words))

-- nothing is known yet
abbrev pub Nowhere : ℕ → Type 0
Nowhere n = ⊥

lift : {A : Type 0} {fuel : ℕ} {K : ℕ → Type 0} {P : Phrase A} {r : Reader A} → Blames fuel Nowhere P r
    → Blames fuel K P r
lift h = blames_known (λ n e. absurd e) h

-- ---- parameters and locals

module _ {E A S P V R M : Type 0} (T : Actions E A S P V R M) (limits : Bool) (fuel : ℕ) where
  plain_param_blames : {K : ℕ → Type 0} (used : ℕ) → Blames fuel K (grammar.plain_param T false used)
      (reading.plain_param T limits fuel used)
  unfolding grammar.plain_param reading.plain_param grammar.arity_part reading.arity_behind
  plain_param_blames used =
      blames_token (λ x. x.at) (name_is (words_of T.tokens) limits fuel)
      (name_blames (words_of T.tokens) limits fuel) (λ x.
      blames_holds _ (kept limits (nat_lt used MOST_REGISTERS)) true (TooMany x.at) x.at refl (inr refl) refl
      (
      blames_case (λ a. a) (sign_places slash) (λ at.
      blames_holds _ (kept limits (nat_lt (used + 1) MOST_REGISTERS)) true (TooMany x.at) x.at refl
      (inl (inr refl)) refl (
      blames_map (T.callback x) (num_blames limits fuel is_arity)))
      (blames_done (T.param x))))

  param_blames : {K : ℕ → Type 0} (used : Taken) → Blames fuel K (grammar.param T false used)
      (reading.next_param T limits fuel used)
  unfolding reading.next_param grammar.token_param reading.token_param
  param_blames used =
      blames_added T.tokens (codes "token") (λ makes at.
      blames_token (λ x. x.at) (name_is (words_of T.tokens) limits fuel)
      (name_blames (words_of T.tokens) limits fuel) (λ x.
      blames_holds _ (kept limits (nat_lt used.tokens MOST_TOKENS)) true (TooMany x.at) x.at refl (inr refl)
      refl (blames_done (makes.param x)))) (plain_param_blames used.slots)

  another_param_blames : {K : ℕ → Type 0} (used : Taken) → Blames fuel K (grammar.next_param T false used)
      (reading.another_param T limits fuel used)
  unfolding reading.another_param
  another_param_blames used = blames_then (sign_one fuel comma refl) (λ _. param_blames used)

  param_full : (used : Taken) (t : List Lexeme) (x : P) → grammar.next_param T false used t x → 1 ≤ length t
  param_full used t x p = let h : Heads (Is (sign comma)) (grammar.next_param T false used) =
      heads_then _ (heads_one (sign comma)) in full_head t (h t x p)

  params_blames : {K : ℕ → Type 0} → Blames fuel K (grammar.params T false)
      (reading.next_params T limits fuel)
  unfolding grammar.params reading.next_params grammar.some_params reading.some_params
  params_blames =
      blames_then (sign_one fuel round refl) (λ _.
      blames_case (λ a. a) (sign_places end_round) (λ end. blames_done [])
      (blames_then (param_blames none_taken) (λ first.
      blames_then (blames_many (sign comma) (behind_param T) (reading.another_param T limits fuel)
      another_param_blames param_full fuel (behind_param T none_taken first) (omega arith)) (λ others.
      blames_then (sign_one fuel end_round refl) (λ _. blames_done (first ∷ others))))))

  plain_local_blames : {K : ℕ → Type 0} (count : ℕ) → Blames fuel K (grammar.plain_local T false count)
      (reading.plain_local T limits fuel count)
  unfolding grammar.plain_local reading.plain_local
  plain_local_blames count =
      blames_token (λ a. a) (word_is (codes "local")) (word_one fuel (codes "local")) (λ at.
      blames_holds _ (kept limits (nat_lt count MOST_LOCALS)) true (TooMany at) at refl (inr refl) refl (
      blames_then (name_blames (words_of T.tokens) limits fuel) (λ x.
      blames_then (sign_one fuel semicolon refl) (λ _. blames_done (T.local x)))))

  local_blames : {K : ℕ → Type 0} (used : Taken) → Blames fuel K (grammar.local_item T false used)
      (reading.next_local T limits fuel used)
  unfolding reading.next_local grammar.token_local reading.token_local
  local_blames used =
      blames_added T.tokens (codes "token") (λ makes at.
      blames_token (λ x. x.at) (name_is (words_of T.tokens) limits fuel)
      (name_blames (words_of T.tokens) limits fuel) (λ x.
      blames_holds _ (kept limits (nat_lt used.tokens MOST_TOKENS)) true (TooMany x.at) x.at refl (inr refl)
      refl (blames_then (sign_one fuel semicolon refl) (λ _. blames_done (makes.local x)))))
      (plain_local_blames used.slots)

  local_full : (used : Taken) (t : List Lexeme) (x : V) → grammar.local_item T false used t x → 1 ≤ length t
  unfolding grammar.plain_local grammar.token_local
  local_full used t x p =
      let h : Heads (λ u. Is (token_word T.tokens (codes "token")) u ⊎ Is (word (codes "local")) u)
      (grammar.local_item T false used) =
      heads_or (heads_as (heads_added _ T.tokens (codes "token")) (λ u g. inl g))
      (heads_as (heads_then _ (heads_one (word (codes "local")))) (λ u g. inr g)) in
      full_head t (h t x p)

  locals_blames : {K : ℕ → Type 0} (ps : List P)
      → Blames fuel K (phrases.many (behind_local T) (grammar.local_item T false) (behind_params T ps))
      (reading.next_locals T limits fuel ps)
  unfolding reading.next_locals
  locals_blames ps = blames_many (a_local T.tokens) (behind_local T) (reading.next_local T limits fuel)
      local_blames local_full fuel (behind_params T ps) (omega arith)

  -- ---- expressions

  module _ (room : ℕ) (inner' : Bool → Phrase E) (r : Bool → Reader E) (each : (fits : Bool)
      → Blames fuel Nowhere (inner' true) (r fits)) where
    index_blames : {K : ℕ → Type 0} (at : ℕ) → K at → Blames fuel K (grammar.index T false (suc room) inner')
        (reading.next_index T limits fuel room r at)
    unfolding grammar.index reading.next_index
    index_blames at known =
        blames_holds _ (nat_lt 0 room) (nat_lt 0 (suc room)) (TooMany at) at refl known (open_next room) (
        blames_then (lift (each true)) (λ e. blames_then (sign_one fuel end_square refl)
        (λ _. blames_done e)))

    arg_blames : {K : ℕ → Type 0} (used : ℕ) → Blames fuel K (grammar.arg T false (suc room) inner' used)
        (reading.next_arg T limits fuel room r used)
    unfolding grammar.token_arg grammar.arg_proc grammar.arg_value reading.next_arg reading.token_arg
        reading.plain_arg reading.arg_proc reading.arg_value
    arg_blames used =
        blames_added T.tokens (codes "token")
        (λ makes at. blames_map makes.arg (name_blames (words_of T.tokens) limits fuel))
        (blames_case (λ a. a) (word_places (codes "proc")) (λ at.
        blames_holds _ (kept limits (nat_lt (used + 1) MOST_REGISTERS)) true (TooMany at) at refl
        (inr refl) refl (
        blames_map T.pass (name_blames (words_of T.tokens) limits fuel)))
        (blames_map T.value (lift (each (kept limits (nat_lt used MOST_REGISTERS))))))

    another_arg_blames : {K : ℕ → Type 0} (used : ℕ)
        → Blames fuel K (grammar.next_arg T false (suc room) inner' used)
        (reading.another_arg T limits fuel room r used)
    unfolding reading.another_arg
    another_arg_blames used = blames_then (sign_one fuel comma refl) (λ _. arg_blames used)

    arg_full : (used : ℕ) (t : List Lexeme) (x : A) → grammar.next_arg T false (suc room) inner' used t x
        → 1 ≤ length t
    arg_full used t x p = let h : Heads (Is (sign comma)) (grammar.next_arg T false (suc room) inner' used) =
        heads_then _ (heads_one (sign comma)) in full_head t (h t x p)

    args_blames : {K : ℕ → Type 0} (at : ℕ) → K at → Blames fuel K (grammar.args T false (suc room) inner')
        (reading.next_args T limits fuel room r at)
    unfolding grammar.args reading.next_args grammar.some_args reading.some_args
    args_blames at known =
        blames_holds _ (nat_lt 0 room) (nat_lt 0 (suc room)) (TooMany at) at refl known (open_next room) (
        blames_case (λ a. a) (sign_places end_round) (λ end. blames_done [])
        (blames_then (arg_blames 0) (λ first.
        blames_then (blames_many (sign comma) (behind_arg T) (reading.another_arg T limits fuel room r)
        another_arg_blames arg_full fuel (behind_arg T 0 first) (omega arith)) (λ others.
        blames_then (sign_one fuel end_round refl) (λ _. blames_done (first ∷ others))))))

    behind_name_blames : {K : ℕ → Type 0} (x : Name)
        → Blames fuel K (grammar.of_index T false (suc room) inner' x or grammar.of_call T false
        (suc room) inner' x or only (T.var x.at x)) (reading.behind_name T limits fuel room r x)
    unfolding reading.behind_name
    behind_name_blames x =
        blames_case (λ a. a) (sign_places square)
        (λ at. blames_map (T.element x.at x) (index_blames at (inr refl)))
        (blames_case (λ a. a) (sign_places round) (λ at. blames_map (λ args. T.call x.at x args)
        (args_blames at (inr refl)))
        (blames_done (T.var x.at x)))

    name_term_blames : {K : ℕ → Type 0} (fits : Bool)
        → Blames fuel K (grammar.name_term T false (suc room) inner' true)
        (reading.name_term T limits fuel room r fits)
    unfolding grammar.name_term reading.name_term
    name_term_blames fits =
        blames_token (λ x. x.at) (name_is (words_of T.tokens) limits fuel)
        (name_blames (words_of T.tokens) limits fuel) (λ x.
        blames_holds _ fits true (TooMany x.at) x.at refl (inr refl) refl (behind_name_blames x))

    term_blames : {K : ℕ → Type 0} (fits : Bool)
        → Blames fuel K (grammar.term T false (suc room) inner' true)
        (reading.next_term T limits fuel room r fits)
    unfolding reading.next_term grammar.number_term reading.number_term grammar.bracket_term
        reading.bracket_term
    term_blames fits =
        blames_case (λ n. n.at) number_places (λ n.
        blames_holds _ (kept limits (is_literal n.value)) true (Range n.at) n.at refl (inr refl) refl (
        blames_holds _ fits true (TooMany n.at) n.at refl (inr refl) refl
        (blames_done (T.number n.at n.value))))
        (blames_case (λ a. a) (sign_places round) (λ at.
        blames_holds _ fits true (TooMany at) at refl (inr refl) refl (
        blames_holds _ (nat_lt 0 room) (nat_lt 0 (suc room)) (TooMany at) at refl (inr refl)
        (open_next room) (
        blames_then (lift (each true)) (λ e. blames_then (sign_one fuel end_round refl)
        (λ _. blames_done e)))))
        (name_term_blames fits))

    another_term_blames : {K : ℕ → Type 0} (count : ℕ)
        → Blames fuel K (grammar.next_term T false (suc room) inner' count)
        (reading.another_term T limits fuel room r count)
    unfolding grammar.next_term reading.another_term
    another_term_blames count = blames_then (adding_one fuel)
        (λ o. blames_map (λ e. (o, e)) (term_blames (kept limits (nat_lt count MOST_TERMS))))

    term_full : (count : ℕ) (t : List Lexeme) (x : Op × E) → grammar.next_term T false
        (suc room) inner' count t x → 1 ≤ length t
    unfolding grammar.next_term
    term_full count t x p = let h : Heads (Is adding) (grammar.next_term T false (suc room) inner' count) =
        heads_then _ (heads_one adding) in full_head t (h t x p)

    sum_blames : {K : ℕ → Type 0} (fits : Bool) → Blames fuel K (grammar.sum T false (suc room) inner' true)
        (reading.next_sum T limits fuel room r fits)
    unfolding grammar.sum reading.next_sum
    sum_blames fits = blames_then (term_blames fits) (λ first.
        blames_map (sum_of T first) (blames_many adding one_more (reading.another_term T limits fuel room r)
        another_term_blames term_full fuel 1 (omega arith)))

    expr_with_blames : {K : ℕ → Type 0} (fits : Bool)
        → Blames fuel K (grammar.expr_with T false (suc room) inner' true)
        (reading.expr_with T limits fuel room r fits)
    unfolding grammar.expr_with reading.expr_with grammar.comparison_part reading.next_comparison
    expr_with_blames fits = blames_then (sum_blames fits) (λ left.
        blames_either (λ o. blames_map (operated T o left) (sum_blames true)) (blames_done left))

-- ---- expressions and statements to any depth

module _ {E A S P V R M : Type 0} (T : Actions E A S P V R M) (limits : Bool) (fuel : ℕ) where
  expr_blames : (room : ℕ) (fits : Bool) → Blames fuel Nowhere (grammar.expr T false (suc room) true)
      (reading.next_expr T limits fuel room fits)
  expr_blames zero fits = expr_with_blames T limits fuel zero (grammar.expr T false zero) (λ f. expected)
      (λ f. blames_none (number_spelled T zero (λ g. phrases.nothing))) fits
  expr_blames (suc room) fits = expr_with_blames T limits fuel (suc room) (grammar.expr T false (suc room))
      (reading.next_expr T limits fuel room) (expr_blames room) fits

  inner_blames : (room : ℕ) (fits : Bool) → Blames fuel Nowhere (grammar.inner_expr T false (suc room) true)
      (reading.inner_expr T limits fuel room fits)
  inner_blames zero fits = blames_none (number_spelled T zero (λ g. phrases.nothing))
  inner_blames (suc room) fits = expr_blames room fits

  module _ (room : ℕ) (inner' : Phrase (List S)) (r : Reader (List S)) (each : Blames fuel Nowhere inner' r)
    where
      expr : {K : ℕ → Type 0} → Blames fuel K (grammar.expr T false (suc room) true)
          (reading.next_expr T limits fuel room true)
      expr = lift (expr_blames room true)

      block_blames : {K : ℕ → Type 0} → Blames fuel K (grammar.block T false (suc room) inner')
          (reading.next_block T limits fuel room r)
      unfolding grammar.block reading.next_block
      block_blames =
          blames_token (λ a. a) (sign_is curly) (sign_one fuel curly refl) (λ at.
          blames_holds _ (nat_lt 0 room) (nat_lt 0 (suc room)) (TooMany at) at refl (inr refl)
          (open_next room)
          (
          blames_then (lift each) (λ body. blames_then (sign_one fuel end_curly refl)
          (λ end. blames_done (body, end)))))

      else_blames : {K : ℕ → Type 0} (at : ℕ) (e : E) (body : List S) (end : ℕ)
          → Blames fuel K (grammar.else_part T false (suc room) inner' at e body or only
          (T.if_then at end e body)) (reading.next_else T limits fuel room r at e body end)
      unfolding reading.next_else
      else_blames at e body end =
          blames_either (λ there. blames_map (λ other. T.if_else at other.1 e body other.0) block_blames)
          (blames_done (T.if_then at end e body))

      -- an expression, a semicolon, and what is made of them
      ended_blames : {K : ℕ → Type 0} (f : E → ℕ → S)
          → Blames fuel K (then (grammar.expr T false (suc room) true)
          (λ e. then (phrases.one (sign semicolon)) (λ end. only (f e end))))
          (reading.next_expr T limits fuel room true >>= λ e. one (sign semicolon) >>= λ end.
          done (f e end))
      ended_blames f = blames_then expr (λ e. blames_then (sign_one fuel semicolon refl)
          (λ end. blames_done (f e end)))

      target_blames : {K : ℕ → Type 0} (x : Name)
          → Blames fuel K (grammar.target_part T false (suc room) inner' x)
          (reading.behind_target T limits fuel room r x)
      unfolding grammar.target_part reading.behind_target grammar.set_part grammar.set_at_part
          grammar.calls_part reading.set_behind reading.set_at_behind reading.calls_behind
      target_blames x =
          blames_either (λ at. ended_blames (λ e end. T.set x.at end x e))
          (blames_case (λ a. a) (sign_places square) (λ at.
          blames_then (index_blames T limits fuel room (grammar.inner_expr T false (suc room))
          (reading.inner_expr T limits fuel room) (inner_blames room) at (inr refl)) (λ i.
          blames_then (sign_one fuel assign refl) (λ _. ended_blames (λ e end. T.set_at x.at end x i e))))
          (blames_token (λ a. a) (sign_is round) (sign_one fuel round refl) (λ at.
          blames_then (args_blames T limits fuel room (grammar.inner_expr T false (suc room))
          (reading.inner_expr T limits fuel room) (inner_blames room) at (inr refl)) (λ args.
          blames_then (sign_one fuel semicolon refl) (λ end. blames_done (T.do_call x.at end x args))))))

      name_stmt_blames : {K : ℕ → Type 0} → Blames fuel K (grammar.name_stmt T false (suc room) inner')
          (reading.name_stmt T limits fuel room r)
      unfolding grammar.name_stmt reading.name_stmt
      name_stmt_blames = blames_then (name_blames (words_of T.tokens) limits fuel) target_blames

      plain_stmt_blames : {K : ℕ → Type 0} → Blames fuel K (grammar.plain_stmt T false (suc room) inner')
          (reading.plain_stmt T limits fuel room r)
      unfolding reading.plain_stmt grammar.if_stmt grammar.while_stmt grammar.return_stmt grammar.halt_stmt
          reading.if_behind reading.while_behind reading.return_behind reading.halt_behind
      plain_stmt_blames =
          blames_either (λ at.
          blames_then expr (λ e. blames_then block_blames (λ body. else_blames at e body.0 body.1)))
          (blames_either (λ at.
          blames_then expr (λ e. blames_map (λ body. T.while at body.1 e body.0) block_blames))
          (blames_either (λ at. ended_blames (λ e end. T.return at end e))
          (blames_either (λ at. ended_blames (λ e end. T.halt at end e))
          name_stmt_blames)))

      token_blames : {K : ℕ → Type 0} (made : ℕ → ℕ → Name → S) (at : ℕ)
          → Blames fuel K (then (grammar.a_word T false) (λ x. then (phrases.one (sign semicolon))
          (λ end. only (made at end x)))) (reading.token_behind T limits fuel made at)
      unfolding reading.token_behind
      token_blames made at = blames_then (name_blames (words_of T.tokens) limits fuel) (λ x.
          blames_then (sign_one fuel semicolon refl) (λ end. blames_done (made at end x)))

      stmt_blames : {K : ℕ → Type 0} → Blames fuel K (grammar.stmt T false (suc room) inner')
          (reading.next_stmt T limits fuel room r)
      unfolding reading.next_stmt grammar.token_stmt
      stmt_blames =
          blames_added T.tokens (codes "make") (λ makes at. token_blames makes.make at)
          (blames_added T.tokens (codes "spend") (λ makes at. token_blames makes.spend at) plain_stmt_blames)

      stmts_with_blames : {K : ℕ → Type 0} → Blames fuel K (grammar.stmts_with T false (suc room) inner')
          (reading.stmts_with T limits fuel room r)
      unfolding grammar.stmts_with reading.stmts_with
      stmts_with_blames = blames_many (a_start T.tokens) (λ u s. u)
          (λ (u : Unit {0}). reading.next_stmt T limits fuel room r) (λ u. stmt_blames)
          (λ u t x p. full_head t (stmt_heads T false (suc room) inner' t x p)) fuel tt (omega arith)

  no_stmts : Blames fuel Nowhere (grammar.stmts T false zero) expected
  unfolding grammar.stmts_with
  no_stmts = blames_none ([], [], refl)

  stmts_blames : (room : ℕ) → Blames fuel Nowhere (grammar.stmts T false (suc room))
      (reading.next_stmts T limits fuel room)
  stmts_blames zero = stmts_with_blames zero (grammar.stmts T false zero) expected no_stmts
  stmts_blames (suc room) = stmts_with_blames (suc room) (grammar.stmts T false (suc room))
      (reading.next_stmts T limits fuel room) (stmts_blames room)

  -- ---- procedures and modules

  proc_behind_blames : {K : ℕ → Type 0} (room at : ℕ) (shared : Bool)
      → Blames fuel K (grammar.proc_behind T false (suc room) at shared)
      (reading.proc_behind T limits fuel room at shared)
  unfolding grammar.proc_behind reading.proc_behind
  proc_behind_blames room at shared =
      blames_then (name_blames (words_of T.tokens) limits fuel) (λ x.
      blames_then (params_blames T limits fuel) (λ params.
      blames_then (sign_one fuel curly refl) (λ _.
      blames_then (locals_blames T limits fuel params) (λ locals.
      blames_then (lift (stmts_blames room)) (λ body.
      blames_then (sign_one fuel end_curly refl) (λ end.
      blames_done (T.proc at end shared x params locals body)))))))

  proc_blames : {K : ℕ → Type 0} (room count : ℕ)
      → Blames fuel K (grammar.proc_item T false (suc room) count)
      (reading.next_proc T limits fuel room count)
  unfolding reading.next_proc
  proc_blames room count =
      blames_case (λ a. a) (word_places (codes "export")) (λ at.
      blames_holds _ (kept limits (nat_lt count MOST_ITEMS)) true (TooMany at) at refl (inr refl) refl (
      blames_then (word_one fuel (codes "proc")) (λ _. proc_behind_blames room at true)))
      (blames_token (λ a. a) (word_is (codes "proc")) (word_one fuel (codes "proc")) (λ at.
      blames_holds _ (kept limits (nat_lt count MOST_ITEMS)) true (TooMany at) at refl (inr refl) refl
      (proc_behind_blames room at false)))

  proc_full : (room count : ℕ) (t : List Lexeme) (x : R) → grammar.proc_item T false room count t x
      → 1 ≤ length t
  proc_full room count t x p =
      let h : Heads (λ u. Is (word (codes "export")) u ⊎ Is (word (codes "proc")) u)
      (grammar.proc_item T false room count) =
      heads_or (heads_as (heads_then _ (heads_one (word (codes "export")))) (λ u g. inl g))
      (heads_as (heads_then _ (heads_one (word (codes "proc")))) (λ u g. inr g)) in
      full_head t (h t x p)

  import_full : (count : ℕ) (t : List Lexeme) (x : Import) → grammar.import_item
      (words_of T.tokens) false count t x
      → 1 ≤ length t
  unfolding grammar.import_item
  import_full count t x p = let h : Heads (Is (word (codes "import")))
      (grammar.import_item (words_of T.tokens) false count) = heads_then _
      (heads_one (word (codes "import"))) in
      full_head t (h t x p)

  global_full : (count : ℕ) (t : List Lexeme) (x : Global) → grammar.global_item
      (words_of T.tokens) false count t x
      → 1 ≤ length t
  unfolding grammar.global_item
  global_full count t x p = let h : Heads (Is (word (codes "global")))
      (grammar.global_item (words_of T.tokens) false count) = heads_then _
      (heads_one (word (codes "global"))) in
      full_head t (h t x p)

  pub module_blames : (room : ℕ) → Blames fuel Nowhere (grammar.a_module T false (suc room))
      (reading.next_module T limits fuel room)
  unfolding grammar.a_module reading.next_module
  module_blames room =
      blames_then (header_blames (words_of T.tokens) limits fuel) (λ head.
      blames_then
      (blames_many (word (codes "import")) one_more (reading.next_import (words_of T.tokens) limits)
      (import_blames (words_of T.tokens) limits fuel) import_full fuel 0 (omega arith)) (λ imports.
      blames_then
      (blames_many (word (codes "global")) one_more (reading.next_global (words_of T.tokens) limits)
      (global_blames (words_of T.tokens) limits fuel) global_full fuel 0 (omega arith)) (λ globals.
      blames_then (proc_blames room 0) (λ first.
      blames_map (λ procs. T.module_of head imports globals (first ∷ procs))
      (blames_many a_proc one_more (reading.next_proc T limits fuel room) (proc_blames room)
      (proc_full (suc room)) fuel 1 (omega arith))))))
