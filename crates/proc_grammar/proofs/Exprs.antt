-- The readers of expressions.
use Rattle.std.proofs.Common.{◌≡◌, Bool, true, false, ℕ, zero, suc, ◌+◌, List, [], ◌∷◌}
use Rattle.std.proofs.Common.{Option, Some, None, refl, ap, inl, inr, ◌⊎◌, arith, cond}
use Rattle.std.specs.Prelude.{codes, nat_lt, ◌==◌, IsTrue}
use Rattle.text_scan.specs.declared.token.TokenKind.TheVariants as kinds
use Rattle.proc_language.specs.declared.tree.Name.{Name}
use Rattle.proc_language.specs.Words.{is_reserved}
use Rattle.proc_grammar.specs.Makes.{Actions}
use Rattle.proc_grammar.specs.Lexemes.{Lexeme, Meaning, word, words_of, token_word, taken, token_words, sign}
use Rattle.proc_grammar.specs.Lexemes.{a_name, a_number, adding, added, comparing, compared, square, round}
use Rattle.proc_grammar.specs.Lexemes.{end_square, end_round, comma}
use Rattle.phrases.specs.Phrase as phrases
use Rattle.phrases.specs.Phrase.{only, ◌or◌}
use Rattle.proc_language.specs.declared.TheConstants.{MOST_REGISTERS, MOST_TERMS}
use Rattle.proc_grammar.specs.Grammar.{Phrase, kept, is_literal, behind_arg, one_more, sum_of}
use Rattle.proc_grammar.specs.Grammar as grammar
use Rattle.proc_grammar.specs.declared.fault.ParseFault.TheVariants.{Range, TooMany}
use Rattle.phrases.specs.Reading.{meant_in, is_there}
use Rattle.proc_grammar.specs.Reader.{Reader, expected, many}
use Rattle.proc_grammar.specs.Reading as reading
use Rattle.proc_grammar.proofs.Told.{Reads, distinct, many_apart}
use Rattle.phrases.proofs.Offers.{Any, reads_then, reads_next, reads_done, reads_case, reads_holds}
use Rattle.phrases.proofs.Offers.{reads_before, reads_none, Begins, Ends, reads_many, Is, Head, Heads}
use Rattle.phrases.proofs.Offers.{head_more, heads_one, heads_then, heads_or, heads_as, heads_many}
use Rattle.phrases.proofs.Offers.{none_there, began, begins_head, reads_up_to, reads_map, map_ahead}
use Rattle.phrases.proofs.Offers.{many_ahead, or_ahead, head_ahead, only_ahead, Lacks}
use Rattle.proc_grammar.proofs.Tokens.{sign_token, adding_token, sign_kind, name_kind, adding_kind}
use Rattle.proc_grammar.proofs.Tokens.{comparing_kind, no_sign, no_adding, no_comparing, no_number}
use Rattle.proc_grammar.proofs.Tokens.{sign_apart, number_apart, name_apart, word_apart, sign_no_word}
use Rattle.proc_grammar.proofs.Tokens.{number_no_word, name_no_word}
use Rattle.proc_grammar.proofs.Items.{reads_any, name_reads, range_apart}
use Rattle.proc_grammar.proofs.Added.{reads_added, heads_added, name_no_token, word_no_token, sign_no_token}
use Rattle.proc_grammar.proofs.Added.{number_no_token, token_no_sign}

-- ---- what ends them

abbrev pub TermEnds : List Lexeme → Type 0
TermEnds k = (meant_in (sign square) k ≡ None) × (meant_in (sign round) k ≡ None)

abbrev pub SumEnds : List Lexeme → Type 0
SumEnds k = TermEnds k × (meant_in adding k ≡ None)

abbrev pub ExprEnds : List Lexeme → Type 0
ExprEnds k = SumEnds k × (meant_in comparing k ≡ None)

-- a token that begins a term
abbrev pub Starts : List (List ℕ) → Lexeme → Type 0
Starts words u = Is a_number u ⊎ Is (sign round) u ⊎ Is (a_name words) u

-- a sign that ends an expression
pub ends_by : (s : ℕ) → (s == square) ≡ false → (s == round) ≡ false → added (kinds.Sign s) ≡ None
    → compared (kinds.Sign s) ≡ None → (k : List Lexeme) → Head (Is (sign s)) k → ExprEnds k
ends_by s a b c d k h = (
  (
    (
      none_there (sign square) h (λ u (at, e). sign_apart s square a u at e),
      none_there (sign round) h
          (λ u (at, e). sign_apart s round b u at e),
    ),
    none_there adding h (λ u (at, e). no_adding u (kinds.Sign s) (sign_kind s u at e) c),
  ),
  none_there comparing h (λ u (at, e). no_comparing u (kinds.Sign s) (sign_kind s u at e) d),
)

sign_in_none : (s b : ℕ) → (b == s) ≡ false → (u : Lexeme) → u.kind ≡ kinds.Sign b → sign s u ≡ None
sign_in_none s b h u k = no_sign s u (kinds.Sign b) k (ap (λ c. cond c (Some u.at) None) h)

adding_no_sign : (s : ℕ) → (43 == s) ≡ false → (45 == s) ≡ false → (u : Lexeme) → Is adding u
    → sign s u ≡ None
adding_no_sign s a b u (o, e) =
    elim (adding_kind u o e) [ inl k ↦ sign_in_none s 43 a u k | inr k ↦ sign_in_none s 45 b u k ]

comparing_no_sign : (s : ℕ) → (60 == s) ≡ false → (u : Lexeme) → Is comparing u → sign s u ≡ None
comparing_no_sign s a u (o, e) =
    elim (comparing_kind u o e) [ inl k ↦ sign_in_none s 60 a u k | inr k ↦ no_sign s u kinds.Equal k refl ]

comparing_no_adding : (u : Lexeme) → Is comparing u → adding u ≡ None
comparing_no_adding u (o, e) =
    elim (comparing_kind u o e) [
      | inl k ↦ no_adding u (kinds.Sign 60) k refl
      | inr k ↦ no_adding u
          kinds.Equal k refl
    ]

pub ends_adding : (k : List Lexeme) → Head (Is adding) k → TermEnds k
ends_adding k h = (
  none_there (sign square) h (adding_no_sign square refl refl),
  none_there (sign round) h
      (adding_no_sign round refl refl),
)

pub ends_comparing : (k : List Lexeme) → Head (Is comparing) k → SumEnds k
ends_comparing k h = (
  (
    none_there (sign square) h (comparing_no_sign square refl),
    none_there (sign round) h
        (comparing_no_sign round refl),
  ),
  none_there adding h comparing_no_adding,
)

pub starts_no_sign : (words : List (List ℕ)) (s : ℕ) → (round == s) ≡ false → (u : Lexeme) → Starts words u
    → sign s u ≡ None
starts_no_sign words s h u = elim [
  | inl (n, e) ↦ number_apart s u n e
  | inr c ↦ elim c [ inl (at, e) ↦ sign_apart round s h u at e | inr (x, e) ↦ name_apart words s u x e ]
]

pub starts_no_word : (words : List (List ℕ)) (w : List ℕ) → is_reserved w ≡ true → (u : Lexeme)
    → Starts words u → word w u ≡ None
starts_no_word words w h u = elim [
  | inl (n, e) ↦ number_no_word w u n e
  | inr c ↦ elim c [
    | inl (at, e) ↦ sign_no_word w round u at e
    | inr (x, e) ↦ name_no_word words w h u x
        e
  ]
]

starts_no_token : {K : Type 0} (o : Option K) (w : List ℕ) → taken token_words w ≡ true → (u : Lexeme)
    → Starts (words_of o) u → token_word o w u ≡ None
starts_no_token o w own u = elim [
  | inl h ↦ number_no_token o w u h
  | inr c ↦ elim c [ inl h ↦ sign_no_token o w round u h | inr h ↦ name_no_token o w own u h ]
]

none_ends : {A : Type 0} (m : Meaning A) (k : List Lexeme) → meant_in m k ≡ None → Ends m k
none_ends m k e = ap is_there e

pub open_next : (room : ℕ) → IsTrue (nat_lt 0 (suc room))
open_next room = grind arith

module _ {E A S P V R M : Type 0} (T : Actions E A S P V R M) (limits : Bool) (fuel : ℕ) (room : ℕ)
    (inner inner' : Bool → Phrase E) (r : Bool → Reader E)
    (each : (fits : Bool) → Reads fuel (inner fits) (inner' true) ExprEnds (r fits))
    (heads : (fits : Bool) → Heads (Starts (words_of T.tokens)) (inner fits)) where
  pub index_reads : (at : ℕ) → Reads fuel (grammar.index T limits room inner)
      (grammar.index T false (suc room) inner') Any (reading.next_index T limits fuel room r at)
  unfolding grammar.index reading.next_index
  index_reads at =
      reads_holds _ (nat_lt 0 room) (nat_lt 0 (suc room)) (TooMany at) (many_apart at) (open_next room) (
      reads_up_to (each true) (λ e. reads_next (sign_token fuel end_square refl) (λ _. reads_done e))
      (λ e. heads_then _ (heads_one (sign end_square))) (ends_by end_square refl refl refl refl))

  pub arg_reads : (used : ℕ) → Reads fuel (grammar.arg T limits room inner used)
      (grammar.arg T false (suc room) inner' used) ExprEnds (reading.next_arg T limits fuel room r used)
  unfolding grammar.token_arg grammar.arg_proc grammar.arg_value reading.next_arg reading.token_arg
      reading.plain_arg reading.arg_proc reading.arg_value is_reserved
  arg_reads used =
      reads_added T.tokens (codes "token")
      (λ makes at. reads_any (reads_map makes.arg (name_reads (words_of T.tokens) limits fuel)))
      (reads_case (λ at. reads_any (reads_holds _ (kept limits (nat_lt (used + 1) MOST_REGISTERS)) true
      (TooMany at) (many_apart at) refl (reads_map T.pass (name_reads (words_of T.tokens) limits fuel))))
      (reads_map T.value (each (kept limits (nat_lt used MOST_REGISTERS))))
      (head_ahead (Lacks (word (codes "proc"))) ExprEnds
      (heads_then _ (heads (kept limits (nat_lt used MOST_REGISTERS))))
      (λ k h. none_there (word (codes "proc")) h (starts_no_word (words_of T.tokens) (codes "proc") refl))))
      (or_ahead (Lacks (token_word T.tokens (codes "token"))) ExprEnds
      (heads_then _ (heads_one (word (codes "proc"))))
      (λ k h. none_there _ h (word_no_token T.tokens (codes "proc") (codes "token") refl))
      (head_ahead (Lacks (token_word T.tokens (codes "token"))) ExprEnds
      (heads_then _ (heads (kept limits (nat_lt used MOST_REGISTERS))))
      (λ k h. none_there _ h (starts_no_token T.tokens (codes "token") refl))))

  -- `token`, `proc`, or what begins a term
  ArgStarts : Lexeme → Type 0
  ArgStarts u = Is (token_word T.tokens (codes "token")) u ⊎ Is (word (codes "proc")) u
      ⊎ Starts (words_of T.tokens) u

  arg_heads : (used : ℕ) → Heads ArgStarts (grammar.arg T limits room inner used)
  unfolding grammar.token_arg grammar.arg_proc grammar.arg_value ArgStarts
  arg_heads used = heads_or (heads_as (heads_added _ T.tokens (codes "token")) (λ u h. inl h))
      (heads_or (heads_as (heads_then _ (heads_one (word (codes "proc")))) (λ u h. inr (inl h)))
      (heads_as (heads_then _ (heads (kept limits (nat_lt used MOST_REGISTERS)))) (λ u h. inr (inr h))))

  another_reads : (used : ℕ) → Reads fuel (grammar.next_arg T limits room inner used)
      (grammar.next_arg T false (suc room) inner' used) ExprEnds
      (reading.another_arg T limits fuel room r used)
  unfolding reading.another_arg
  another_reads used = reads_next (sign_token fuel comma refl) (λ _. arg_reads used)

  comma_ends : (k : List Lexeme) → Begins (sign comma) k → ExprEnds k
  comma_ends k h = ends_by comma refl refl refl refl k (begins_head (sign comma) k h)

  round_ends : (k : List Lexeme) → Head (Is (sign end_round)) k → ExprEnds k
  round_ends = ends_by end_round refl refl refl refl

  commas : (used : ℕ) → Heads (Is (sign comma)) (grammar.next_arg T limits room inner used)
  commas used = heads_then _ (heads_one (sign comma))

  others_reads : (used : ℕ)
      → Reads fuel (phrases.many (behind_arg T) (grammar.next_arg T limits room inner) used)
      (phrases.many (behind_arg T) (grammar.next_arg T false (suc room) inner') used)
      (Head (Is (sign end_round)))
      (many fuel (sign comma) (behind_arg T) (reading.another_arg T limits fuel room r) used)
  others_reads used = reads_many distinct (sign comma) (behind_arg T)
      (reading.another_arg T limits fuel room r) another_reads
      (λ s t x k q. began (sign comma) (head_more t k (commas s t x q))) comma_ends round_ends
      (λ k h. none_ends (sign comma) k
      (none_there (sign comma) h (λ u (at, e). sign_apart end_round comma refl u at e))) fuel used
      (omega arith)

  -- `,` or `)`
  ListEnds : Lexeme → Type 0
  ListEnds u = Is (sign comma) u ⊎ Is (sign end_round) u

  list_ends : (k : List Lexeme) → Head ListEnds k → ExprEnds k
  unfolding ListEnds
  list_ends k (u, rest, e, c) = elim c [
    | inl h ↦ ends_by comma refl refl refl refl k (u, rest, e, h)
    | inr h ↦ ends_by end_round refl refl refl refl k (u, rest, e, h)
  ]

  some_args_reads : Reads fuel (grammar.some_args T limits room inner)
      (grammar.some_args T false (suc room) inner') Any (reading.some_args T limits fuel room r)
  unfolding grammar.some_args reading.some_args ListEnds
  some_args_reads =
      reads_up_to (arg_reads 0) (λ first.
      reads_up_to (others_reads (behind_arg T 0 first)) (λ others.
      reads_next (sign_token fuel end_round refl) (λ _. reads_done (first ∷ others)))
      (λ others. heads_then _ (heads_one (sign end_round))) (λ k h. h))
      (λ first. heads_many _ _ _ _ (λ used. heads_as (commas used) (λ u h. inl h))
      (λ others. heads_as (heads_then _ (heads_one (sign end_round))) (λ u h. inr h)))
      list_ends

  some_args_heads : Heads ArgStarts (grammar.some_args T limits room inner)
  unfolding grammar.some_args
  some_args_heads = heads_then _ (arg_heads 0)

  no_end : (u : Lexeme) → ArgStarts u → sign end_round u ≡ None
  unfolding ArgStarts
  no_end u = elim [
    | inl h ↦ token_no_sign T.tokens end_round (codes "token") u h
    | inr c ↦ elim c [
      | inl (at, e) ↦ word_apart end_round (codes "proc") u at e
      | inr h ↦ starts_no_sign (words_of T.tokens) end_round refl u h
    ]
  ]

  pub args_reads : (at : ℕ) → Reads fuel (grammar.args T limits room inner)
      (grammar.args T false (suc room) inner') Any (reading.next_args T limits fuel room r at)
  unfolding grammar.args reading.next_args
  args_reads at =
      reads_holds _ (nat_lt 0 room) (nat_lt 0 (suc room)) (TooMany at) (many_apart at) (open_next room) (
      reads_case (λ end. reads_done []) some_args_reads
      (head_ahead (Lacks (sign end_round)) Any some_args_heads (λ k h. none_there (sign end_round) h no_end)))

  behind_name_reads : (x : Name)
      → Reads fuel (grammar.of_index T limits room inner x or grammar.of_call T limits room inner x or only
      (T.var x.at x)) (grammar.of_index T false (suc room) inner' x or grammar.of_call T false
      (suc room) inner' x or only (T.var x.at x)) TermEnds
      (reading.behind_name T limits fuel room r x)
  unfolding reading.behind_name
  behind_name_reads x =
      reads_case (λ at. reads_any (reads_map (T.element x.at x) (index_reads at)))
      (reads_case (λ at. reads_any (reads_map (λ args. T.call x.at x args) (args_reads at)))
      (reads_any (reads_done (T.var x.at x)))
      (only_ahead (Lacks (sign round)) TermEnds (T.var x.at x) (λ k h. h.1)))
      (or_ahead (Lacks (sign square)) TermEnds (heads_then _ (heads_one (sign round)))
      (λ k h. none_there (sign square) h (λ u (at, e). sign_apart round square refl u at e))
      (only_ahead (Lacks (sign square)) TermEnds (T.var x.at x) (λ k h. h.0)))

  name_heads : Heads (Is (a_name (words_of T.tokens))) (grammar.name (words_of T.tokens) limits)
  unfolding grammar.name
  name_heads = heads_then _ (heads_one (a_name (words_of T.tokens)))

  name_term_reads : (fits : Bool) → Reads fuel (grammar.name_term T limits room inner fits)
      (grammar.name_term T false (suc room) inner' true) TermEnds
      (reading.name_term T limits fuel room r fits)
  unfolding grammar.name_term reading.name_term
  name_term_reads fits = reads_next (name_reads (words_of T.tokens) limits fuel) (λ x.
      reads_holds _ fits true (TooMany x.at) (many_apart x.at) refl (behind_name_reads x))

  name_term_heads : (fits : Bool) → Heads (Is (a_name (words_of T.tokens)))
      (grammar.name_term T limits room inner fits)
  unfolding grammar.name_term
  name_term_heads fits = heads_then _ name_heads

  pub term_reads : (fits : Bool) → Reads fuel (grammar.term T limits room inner fits)
      (grammar.term T false (suc room) inner' true) TermEnds (reading.next_term T limits fuel room r fits)
  unfolding reading.next_term grammar.number_term reading.number_term grammar.bracket_term
      reading.bracket_term
  term_reads fits =
      reads_case (λ n. reads_any (
      reads_holds _ (kept limits (is_literal n.value)) true (Range n.at) (range_apart n.at) refl (
      reads_holds _ fits true (TooMany n.at) (many_apart n.at) refl
      (reads_done (T.number n.at n.value)))))
      (reads_case (λ at. reads_any (
      reads_holds _ fits true (TooMany at) (many_apart at) refl (
      reads_holds _ (nat_lt 0 room) (nat_lt 0 (suc room)) (TooMany at) (many_apart at) (open_next room) (
      reads_up_to (each true) (λ e. reads_next (sign_token fuel end_round refl) (λ _. reads_done e))
      (λ e. heads_then _ (heads_one (sign end_round))) (ends_by end_round refl refl refl refl)))))
      (name_term_reads fits)
      (head_ahead (Lacks (sign round)) TermEnds (name_term_heads fits)
      (λ k h. none_there (sign round) h (λ u (x, e). name_apart (words_of T.tokens) round u x e))))
      (or_ahead (Lacks a_number) TermEnds (heads_then _ (heads_one (sign round)))
      (λ k h. none_there a_number h
      (λ u (at, e). no_number u (kinds.Sign round) (sign_kind round u at e) refl))
      (head_ahead (Lacks a_number) TermEnds (name_term_heads fits)
      (λ k h. none_there a_number h
      (λ u (x, e). no_number u kinds.Name (name_kind (words_of T.tokens) u x e).0 refl))))

  pub term_heads : (fits : Bool) → Heads (Starts (words_of T.tokens)) (grammar.term T limits room inner fits)
  unfolding grammar.number_term grammar.bracket_term
  term_heads fits = heads_or (heads_as (heads_then _ (heads_one a_number)) (λ u h. inl h))
      (heads_or (heads_as (heads_then _ (heads_one (sign round))) (λ u h. inr (inl h)))
      (heads_as (name_term_heads fits) (λ u h. inr (inr h))))

  next_term_reads : (count : ℕ) → Reads fuel (grammar.next_term T limits room inner count)
      (grammar.next_term T false (suc room) inner' count) TermEnds
      (reading.another_term T limits fuel room r count)
  unfolding grammar.next_term reading.another_term
  next_term_reads count = reads_next (adding_token fuel)
      (λ o. reads_map (λ e. (o, e)) (term_reads (kept limits (nat_lt count MOST_TERMS))))

  next_term_heads : (count : ℕ) → Heads (Is adding) (grammar.next_term T limits room inner count)
  unfolding grammar.next_term
  next_term_heads count = heads_then _ (heads_one adding)

  terms_reads : (count : ℕ)
      → Reads fuel (phrases.many one_more (grammar.next_term T limits room inner) count)
      (phrases.many one_more (grammar.next_term T false (suc room) inner') count) SumEnds
      (many fuel adding one_more (reading.another_term T limits fuel room r) count)
  terms_reads count = reads_many distinct adding one_more (reading.another_term T limits fuel room r)
      next_term_reads
      (λ s t x k q. began adding (head_more t k (next_term_heads s t x q)))
      (λ k h. ends_adding k (begins_head adding k h)) (λ k h. h.0)
      (λ k h. none_ends adding k h.1) fuel count (omega arith)

  pub sum_reads : (fits : Bool) → Reads fuel (grammar.sum T limits room inner fits)
      (grammar.sum T false (suc room) inner' true) SumEnds (reading.next_sum T limits fuel room r fits)
  unfolding grammar.sum reading.next_sum
  sum_reads fits = reads_then (term_reads fits) (λ first. reads_map (sum_of T first) (terms_reads 1))
      (λ first. map_ahead TermEnds SumEnds (sum_of T first)
      (many_ahead TermEnds SumEnds one_more (grammar.next_term T limits room inner) next_term_heads
      ends_adding (λ k h. h.0) 1))

  comparison_reads : (left : E) → Reads fuel (grammar.comparison_part T limits room inner left)
      (grammar.comparison_part T false (suc room) inner' left) ExprEnds
      (reading.next_comparison T limits fuel room r left)
  unfolding grammar.comparison_part reading.next_comparison
  comparison_reads left =
      reads_case (λ o. reads_before (reads_map (λ right. T.op (T.place left) o left right) (sum_reads true))
      (λ k h. h.0)) (reads_any (reads_done left))
      (only_ahead (Lacks comparing) ExprEnds left (λ k h. h.1))

  pub expr_with_reads : (fits : Bool) → Reads fuel (grammar.expr_with T limits room inner fits)
      (grammar.expr_with T false (suc room) inner' true) ExprEnds
      (reading.expr_with T limits fuel room r fits)
  unfolding grammar.expr_with reading.expr_with grammar.comparison_part
  expr_with_reads fits = reads_then (sum_reads fits) comparison_reads
      (λ left. or_ahead SumEnds ExprEnds (heads_then _ (heads_one comparing)) ends_comparing
      (only_ahead SumEnds ExprEnds left (λ k h. h.0)))

  pub expr_with_heads : (fits : Bool) → Heads (Starts (words_of T.tokens))
      (grammar.expr_with T limits room inner fits)
  unfolding grammar.expr_with grammar.sum
  expr_with_heads fits = heads_then _ (heads_then _ (term_heads fits))

-- ---- to any depth

a_one : Lexeme
a_one = record { kind = kinds.Number 1; at = 0; text = [] }

-- a number is an expression
pub number_spelled : {E A S P V R M : Type 0} (T : Actions E A S P V R M) (room : ℕ) (inner : Bool → Phrase E)
    → (tokens : List Lexeme) × (x : E) × grammar.expr_with T false room inner true tokens x
unfolding grammar.expr_with grammar.sum grammar.number_term grammar.comparison_part a_number a_one
number_spelled T room inner =
    let term : grammar.term T false room inner true (a_one ∷ []) (T.number 0 1) =
    inl (
      record { value = 1; at = 0 },
      a_one ∷ [],
      [],
      refl,
      (a_one, refl, refl),
      (tt, [], [], refl, (refl, refl), (tt, [], [], refl, (refl, refl), (refl, refl))),
    ) in
    let sum : grammar.sum T false room inner true (a_one ∷ []) (T.number 0 1) =
    (T.number 0 1, a_one ∷ [], [], refl, term, ([], [], [], refl, refl, (refl, refl))) in
    (a_one ∷ [], T.number 0 1, (T.number 0 1, a_one ∷ [], [], refl, sum, inr (refl, refl)))

module _ {E A S P V R M : Type 0} (T : Actions E A S P V R M) (limits : Bool) (fuel : ℕ) where
  no_reads : (fits : Bool) → Reads fuel phrases.nothing (grammar.expr T false zero true) ExprEnds expected
  no_reads fits = reads_any (reads_none distinct (number_spelled T zero (λ f. phrases.nothing)))

  no_heads : (fits : Bool) → Heads (Starts (words_of T.tokens)) (phrases.nothing {A = E})
  no_heads fits t x p = absurd p

  expr_both : (room : ℕ)
      → ((fits : Bool) → Reads fuel (grammar.expr T limits room fits) (grammar.expr T false (suc room) true)
      ExprEnds (reading.next_expr T limits fuel room fits))
      × ((fits : Bool) → Heads (Starts (words_of T.tokens)) (grammar.expr T limits room fits))
  expr_both zero = (
    expr_with_reads T limits fuel zero (λ f. phrases.nothing) (grammar.expr T false zero)
        (λ f. expected) no_reads no_heads,
    expr_with_heads T limits fuel zero (λ f. phrases.nothing) (grammar.expr T false zero)
        (λ f. expected) no_reads no_heads,
  )
  expr_both (suc room) =
      let (each, heads) = expr_both room in (
        expr_with_reads T limits fuel (suc room) (grammar.expr T limits room)
            (grammar.expr T false (suc room)) (reading.next_expr T limits fuel room) each heads,
        expr_with_heads T limits fuel (suc room) (grammar.expr T limits room)
            (grammar.expr T false (suc room)) (reading.next_expr T limits fuel room) each heads,
      )

  pub expr_reads : (room : ℕ) (fits : Bool) → Reads fuel (grammar.expr T limits room fits)
      (grammar.expr T false (suc room) true) ExprEnds (reading.next_expr T limits fuel room fits)
  expr_reads room = (expr_both room).0

  pub expr_heads : (room : ℕ) (fits : Bool) → Heads (Starts (words_of T.tokens))
      (grammar.expr T limits room fits)
  expr_heads room = (expr_both room).1

  pub inner_reads : (room : ℕ) (fits : Bool) → Reads fuel (grammar.inner_expr T limits room fits)
      (grammar.inner_expr T false (suc room) true) ExprEnds (reading.inner_expr T limits fuel room fits)
  inner_reads zero fits = no_reads fits
  inner_reads (suc room) fits = expr_reads room fits

  pub inner_heads : (room : ℕ) (fits : Bool) → Heads (Starts (words_of T.tokens))
      (grammar.inner_expr T limits room fits)
  inner_heads zero fits = no_heads fits
  inner_heads (suc room) fits = expr_heads room fits
