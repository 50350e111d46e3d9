-- The readers of statements.
use Rattle.std.proofs.Common.{◌≡◌, Bool, true, false, ℕ, zero, suc, List, [], ◌++◌, Option}
use Rattle.std.proofs.Common.{Some, None, refl, ap, ◌∙◌, inl, inr, ◌⊎◌, arith, cond}
use Rattle.std.specs.Prelude.{codes, nat_lt, not, ◌||◌}
use Rattle.std.specs.List.{list_any}
use Rattle.std.specs.Str.{bytes_eq}
use Rattle.std.proofs.lemmas.Bool.{or_right}
use Rattle.proc_language.specs.declared.tree.Name.{Name}
use Rattle.proc_language.specs.Words.{is_reserved}
use Rattle.proc_grammar.specs.Makes.{Actions}
use Rattle.proc_grammar.specs.Lexemes.{Lexeme, word, words_of, token_word, token_words, sign, a_name}
use Rattle.proc_grammar.specs.Lexemes.{a_start, start_in, name_text, taken, stmt_words, plain_stmt_words}
use Rattle.proc_grammar.specs.Lexemes.{square, round, curly, end_curly, assign, semicolon}
use Rattle.phrases.specs.Phrase as phrases
use Rattle.phrases.specs.Phrase.{then, only, ◌or◌}
use Rattle.proc_grammar.specs.Grammar.{Phrase}
use Rattle.proc_grammar.specs.Grammar as grammar
use Rattle.proc_grammar.specs.declared.fault.ParseFault.TheVariants.{TooMany}
use Rattle.readers.specs.Readers.{◌>>=◌, done}
use Rattle.phrases.specs.Reading.{is_there}
use Rattle.proc_grammar.specs.Reader.{Reader, one, expected}
use Rattle.proc_grammar.specs.Reading as reading
use Rattle.proc_grammar.proofs.Told.{Reads, distinct, many_apart}
use Rattle.phrases.proofs.Offers.{Any, reads_next, reads_done, reads_case, reads_holds, reads_none}
use Rattle.phrases.proofs.Offers.{reads_many, Is, Head, Heads, head_more, heads_one, heads_then, heads_or}
use Rattle.phrases.proofs.Offers.{heads_as, head_as, none_there, began, begins_head, reads_up_to, reads_map}
use Rattle.phrases.proofs.Offers.{or_ahead, head_ahead, only_ahead, Lacks}
use Rattle.proc_grammar.proofs.Tokens.{sign_token, sign_kind, name_kind, word_kind, sign_apart, sign_no_word}
use Rattle.proc_grammar.proofs.Tokens.{name_no_word, word_other}
use Rattle.proc_grammar.proofs.Added.{reads_added, heads_added, name_no_token, word_no_token, tokens_apart}
use Rattle.proc_grammar.proofs.Items.{reads_any, name_reads}
use Rattle.proc_grammar.proofs.Exprs.{ExprEnds, ends_by, expr_reads, inner_reads, inner_heads, index_reads}
use Rattle.proc_grammar.proofs.Exprs.{args_reads, open_next}

-- ---- how they begin

abbrev pub PlainStarts : List (List ℕ) → Lexeme → Type 0
PlainStarts words u = Is (word (codes "if")) u ⊎ Is (word (codes "while")) u ⊎ Is (word (codes "return")) u
    ⊎ Is (word (codes "halt")) u ⊎ Is (a_name words) u

abbrev pub StmtStarts : {K : Type 0} → Option K → Lexeme → Type 0
StmtStarts o u = Is (token_word o (codes "make")) u ⊎ Is (token_word o (codes "spend")) u
    ⊎ PlainStarts (words_of o) u

module _ {K : Type 0} where
  begins_plain : (o : Option K) (w : List ℕ) → list_any (bytes_eq w) plain_stmt_words ≡ true
      → list_any (bytes_eq w) (stmt_words o) ≡ true
  begins_plain None w h = h
  begins_plain (Some k) w h = or_right (bytes_eq w (codes "make")) _
      (or_right (bytes_eq w (codes "spend")) _ h)

  word_starts : (o : Option K) (w : List ℕ) → list_any (bytes_eq w) (stmt_words o) ≡ true → (u : Lexeme)
      → Is (word w) u → Is (a_start o) u
  unfolding a_start
  word_starts o w h u (at, e) =
      let k = word_kind w u at e in (
        tt,
        ap (λ z. start_in o (name_text z u.text)) k.0 ∙ ap (λ z. start_in o (Some z)) k.1
            ∙ ap (λ b. cond b (Some tt) None) (or_right (not (taken (words_of o) w)) _ h),
      )

  token_starts : (o : Option K) (w : List ℕ) → ((k : K) → list_any (bytes_eq w) (stmt_words (Some k)) ≡ true)
      → (u : Lexeme) → Is (token_word o w) u → Is (a_start o) u
  token_starts None w h u (at, e) = absurd cc
  token_starts (Some k) w h u is = word_starts (Some k) w (h k) u is

  name_starts : (o : Option K) (u : Lexeme) → Is (a_name (words_of o)) u → Is (a_start o) u
  unfolding a_start
  name_starts o u (x, e) =
      let k = name_kind (words_of o) u x e in (
        tt,
        ap (λ z. start_in o (name_text z u.text)) k.0
            ∙ ap (λ b. cond (not b || list_any (bytes_eq u.text) (stmt_words o)) (Some tt) None) k.1,
      )

  plain_starts : (o : Option K) (u : Lexeme) → PlainStarts (words_of o) u → Is (a_start o) u
  plain_starts o u = elim [
    | inl h ↦ word_starts o (codes "if") (begins_plain o (codes "if") refl) u h
    | inr c ↦ elim c [
      | inl h ↦ word_starts o (codes "while") (begins_plain o (codes "while") refl) u h
      | inr d ↦ elim d [
        | inl h ↦ word_starts o (codes "return") (begins_plain o (codes "return") refl) u h
        | inr f ↦ elim f [
          | inl h ↦ word_starts o (codes "halt") (begins_plain o (codes "halt") refl) u h
          | inr h ↦ name_starts o u h
        ]
      ]
    ]
  ]

  stmt_starts : (o : Option K) (u : Lexeme) → StmtStarts o u → Is (a_start o) u
  stmt_starts o u = elim [
    | inl h ↦ token_starts o (codes "make") (λ k. refl) u h
    | inr c ↦ elim c [
      | inl h ↦ token_starts o (codes "spend") (λ k. refl) u h
      | inr h ↦ plain_starts o u h
    ]
  ]

  -- what begins a statement that any language has is no word of tokens
  pub plain_no_token : (o : Option K) (w : List ℕ) → taken token_words w ≡ true
      → (bytes_eq (codes "if") w ≡ false) × (bytes_eq (codes "while") w ≡ false)
      × (bytes_eq (codes "return") w ≡ false) × (bytes_eq (codes "halt") w ≡ false)
      → (u : Lexeme) → PlainStarts (words_of o) u → token_word o w u ≡ None
  plain_no_token o w own apart u = elim [
    | inl h ↦ word_no_token o (codes "if") w apart.0 u h
    | inr c ↦ elim c [
      | inl h ↦ word_no_token o (codes "while") w apart.1 u h
      | inr d ↦ elim d [
        | inl h ↦ word_no_token o (codes "return") w apart.2 u h
        | inr f ↦ elim f [
          | inl h ↦ word_no_token o (codes "halt") w apart.3 u h
          | inr h ↦ name_no_token o w own u h
        ]
      ]
    ]
  ]

unless : {A : Type 0} (o : Option A) → ((x : A) → o ≡ Some x → ⊥) → o ≡ None
unless None h = refl
unless (Some x) h = absurd (h x refl)

none_is_some : {A : Type 0} (o : Option A) (x : A) → o ≡ None → o ≡ Some x → ⊥
none_is_some o x e h = absurd cc

module _ {K : Type 0} where
  else_starts_none : (o : Option K) → start_in o (Some (codes "else")) ≡ None
  unfolding is_reserved
  else_starts_none None = refl
  else_starts_none (Some k) = refl

  start_no_else : (o : Option K) (u : Lexeme) → Is (a_start o) u → word (codes "else") u ≡ None
  unfolding a_start
  start_no_else o u (x, e) = unless (word (codes "else") u) (λ at h.
      let k = word_kind (codes "else") u at h in
      none_is_some (start_in o (name_text u.kind u.text)) x
      (ap (λ z. start_in o (name_text z u.text)) k.0 ∙ ap (λ z. start_in o (Some z)) k.1
      ∙ else_starts_none o) e)

  sign_no_start : (o : Option K) (s : ℕ) (u : Lexeme) (at : ℕ) → sign s u ≡ Some at → a_start o u ≡ None
  unfolding a_start
  sign_no_start o s u at e = ap (λ z. start_in o (name_text z u.text)) (sign_kind s u at e)

-- no `else` follows
abbrev pub NoElse : List Lexeme → Type 0
NoElse = Lacks (word (codes "else"))

-- `}` follows
abbrev pub BlockEnds : List Lexeme → Type 0
BlockEnds = Head (Is (sign end_curly))

module _ {E A S P V R M : Type 0} (T : Actions E A S P V R M) (limits : Bool) (room : ℕ)
    (inner : Phrase (List S)) where
  name_heads : Heads (Is (a_name (words_of T.tokens))) (grammar.name_stmt T limits room inner)
  unfolding grammar.name_stmt grammar.name
  name_heads = heads_then _ (heads_then _ (heads_one (a_name (words_of T.tokens))))

  plain_heads : Heads (PlainStarts (words_of T.tokens)) (grammar.plain_stmt T limits room inner)
  unfolding grammar.if_stmt grammar.while_stmt grammar.return_stmt grammar.halt_stmt
  plain_heads =
      heads_or (heads_as (heads_then _ (heads_one (word (codes "if")))) (λ u h. inl h))
      (heads_or (heads_as (heads_then _ (heads_one (word (codes "while")))) (λ u h. inr (inl h)))
      (heads_or (heads_as (heads_then _ (heads_one (word (codes "return")))) (λ u h. inr (inr (inl h))))
      (heads_or (heads_as (heads_then _ (heads_one (word (codes "halt")))) (λ u h. inr (inr (inr (inl h)))))
      (heads_as name_heads (λ u h. inr (inr (inr (inr h))))))))

  pub stmt_heads : Heads (StmtStarts T.tokens) (grammar.stmt T limits room inner)
  unfolding grammar.token_stmt
  stmt_heads =
      heads_or (heads_as (heads_added _ T.tokens (codes "make")) (λ u h. inl h))
      (heads_or (heads_as (heads_added _ T.tokens (codes "spend")) (λ u h. inr (inl h)))
      (heads_as plain_heads (λ u h. inr (inr h))))

module _ {E A S P V R M : Type 0} (T : Actions E A S P V R M) (limits : Bool) (fuel : ℕ) (room : ℕ)
    (inner inner' : Phrase (List S)) (r : Reader (List S))
    (each : Reads fuel inner inner' BlockEnds r) where
  expr : Reads fuel (grammar.expr T limits room true) (grammar.expr T false (suc room) true) ExprEnds
      (reading.next_expr T limits fuel room true)
  expr = expr_reads T limits fuel room true

  block_reads : Reads fuel (grammar.block T limits room inner) (grammar.block T false (suc room) inner') Any
      (reading.next_block T limits fuel room r)
  unfolding grammar.block reading.next_block
  block_reads = reads_next (sign_token fuel curly refl) (λ at.
      reads_holds _ (nat_lt 0 room) (nat_lt 0 (suc room)) (TooMany at) (many_apart at) (open_next room) (
      reads_up_to each (λ body. reads_next (sign_token fuel end_curly refl) (λ end. reads_done (body, end)))
      (λ body. heads_then _ (heads_one (sign end_curly))) (λ k h. h)))

  block_heads : Heads (Is (sign curly)) (grammar.block T limits room inner)
  unfolding grammar.block
  block_heads = heads_then _ (heads_one (sign curly))

  curly_ends : (k : List Lexeme) → Head (Is (sign curly)) k → ExprEnds k
  curly_ends = ends_by curly refl refl refl refl

  semicolon_ends : (k : List Lexeme) → Head (Is (sign semicolon)) k → ExprEnds k
  semicolon_ends = ends_by semicolon refl refl refl refl

  else_reads : (at : ℕ) (e : E) (body : List S) (end : ℕ)
      → Reads fuel (grammar.else_part T limits room inner at e body or only (T.if_then at end e body))
      (grammar.else_part T false (suc room) inner' at e body or only (T.if_then at end e body)) NoElse
      (reading.next_else T limits fuel room r at e body end)
  unfolding reading.next_else
  else_reads at e body end =
      reads_case (λ there. reads_any (reads_map (λ other. T.if_else at other.1 e body other.0) block_reads))
      (reads_any (reads_done (T.if_then at end e body)))
      (only_ahead NoElse NoElse (T.if_then at end e body) (λ k h. h))

  -- an expression, a semicolon, and what is made of them
  ended_reads : (f : E → ℕ → S)
      → Reads fuel (then (grammar.expr T limits room true)
      (λ e. then (phrases.one (sign semicolon)) (λ end. only (f e end))))
      (then (grammar.expr T false (suc room) true)
      (λ e. then (phrases.one (sign semicolon)) (λ end. only (f e end)))) Any
      (reading.next_expr T limits fuel room true >>= λ e. one (sign semicolon) >>= λ end.
      done (f e end))
  ended_reads f = reads_up_to expr (λ e. reads_next (sign_token fuel semicolon refl)
      (λ end. reads_done (f e end))) (λ e. heads_then _ (heads_one (sign semicolon))) semicolon_ends

  target_reads : (x : Name) → Reads fuel (grammar.target_part T limits room inner x)
      (grammar.target_part T false (suc room) inner' x) Any (reading.behind_target T limits fuel room r x)
  unfolding grammar.target_part reading.behind_target grammar.set_part grammar.set_at_part grammar.calls_part
      reading.set_behind reading.set_at_behind reading.calls_behind
  target_reads x =
      reads_case (λ at. ended_reads (λ e end. T.set x.at end x e))
      (reads_case (λ at.
      reads_next (index_reads T limits fuel room (grammar.inner_expr T limits room)
      (grammar.inner_expr T false (suc room)) (reading.inner_expr T limits fuel room)
      (inner_reads T limits fuel room) (inner_heads T limits fuel room) at) (λ i.
      reads_next (sign_token fuel assign refl) (λ _.
      ended_reads (λ e end. T.set_at x.at end x i e))))
      (reads_next (sign_token fuel round refl) (λ at.
      reads_next (args_reads T limits fuel room (grammar.inner_expr T limits room)
      (grammar.inner_expr T false (suc room)) (reading.inner_expr T limits fuel room)
      (inner_reads T limits fuel room) (inner_heads T limits fuel room) at) (λ args.
      reads_next (sign_token fuel semicolon refl) (λ end. reads_done (T.do_call x.at end x args)))))
      (head_ahead (Lacks (sign square)) Any (heads_then _ (heads_one (sign round)))
      (λ k h. none_there (sign square) h (λ u (at, e). sign_apart round square refl u at e))))
      (or_ahead (Lacks (sign assign)) Any (heads_then _ (heads_one (sign square)))
      (λ k h. none_there (sign assign) h (λ u (at, e). sign_apart square assign refl u at e))
      (head_ahead (Lacks (sign assign)) Any (heads_then _ (heads_one (sign round)))
      (λ k h. none_there (sign assign) h (λ u (at, e). sign_apart round assign refl u at e))))

  name_stmt_reads : Reads fuel (grammar.name_stmt T limits room inner)
      (grammar.name_stmt T false (suc room) inner') NoElse (reading.name_stmt T limits fuel room r)
  unfolding grammar.name_stmt reading.name_stmt
  name_stmt_reads = reads_any (reads_next (name_reads (words_of T.tokens) limits fuel) target_reads)

  -- a reserved word begins no such statement
  name_end : (w : List ℕ) → is_reserved w ≡ true → (t : List Lexeme) (y : S) (k : List Lexeme)
      → grammar.name_stmt T limits room inner t y → NoElse k → Lacks (word w) (t ++ k)
  name_end w h = head_ahead (Lacks (word w)) NoElse (name_heads T limits room inner)
      (λ k g. none_there (word w) g (λ u (x, e). name_no_word (words_of T.tokens) w h u x e))

  plain_reads : Reads fuel (grammar.plain_stmt T limits room inner)
      (grammar.plain_stmt T false (suc room) inner') NoElse (reading.plain_stmt T limits fuel room r)
  unfolding reading.plain_stmt is_reserved grammar.if_stmt grammar.while_stmt grammar.return_stmt
      grammar.halt_stmt reading.if_behind reading.while_behind reading.return_behind reading.halt_behind
  plain_reads =
      reads_case (λ at. reads_up_to expr
      (λ e. reads_next block_reads (λ body. else_reads at e body.0 body.1))
      (λ e. heads_then _ block_heads) curly_ends)
      (reads_case (λ at. reads_any
      (reads_up_to expr (λ e. reads_map (λ body. T.while at body.1 e body.0) block_reads)
      (λ e. heads_then _ block_heads) curly_ends))
      (reads_case (λ at. reads_any (ended_reads (λ e end. T.return at end e)))
      (reads_case (λ at. reads_any (ended_reads (λ e end. T.halt at end e)))
      name_stmt_reads
      (name_end (codes "halt") refl))
      (or_ahead (Lacks (word (codes "return"))) NoElse (heads_then _ (heads_one (word (codes "halt"))))
      (λ k h. none_there (word (codes "return")) h (word_other (codes "halt") (codes "return") refl))
      (name_end (codes "return") refl)))
      (or_ahead (Lacks (word (codes "while"))) NoElse (heads_then _ (heads_one (word (codes "return"))))
      (λ k h. none_there (word (codes "while")) h (word_other (codes "return") (codes "while") refl))
      (or_ahead (Lacks (word (codes "while"))) NoElse (heads_then _ (heads_one (word (codes "halt"))))
      (λ k h. none_there (word (codes "while")) h (word_other (codes "halt") (codes "while") refl))
      (name_end (codes "while") refl))))
      (or_ahead (Lacks (word (codes "if"))) NoElse (heads_then _ (heads_one (word (codes "while"))))
      (λ k h. none_there (word (codes "if")) h (word_other (codes "while") (codes "if") refl))
      (or_ahead (Lacks (word (codes "if"))) NoElse (heads_then _ (heads_one (word (codes "return"))))
      (λ k h. none_there (word (codes "if")) h (word_other (codes "return") (codes "if") refl))
      (or_ahead (Lacks (word (codes "if"))) NoElse (heads_then _ (heads_one (word (codes "halt"))))
      (λ k h. none_there (word (codes "if")) h (word_other (codes "halt") (codes "if") refl))
      (name_end (codes "if") refl))))

  -- what stands after the word of a statement of a token
  token_reads : (made : ℕ → ℕ → Name → S) (at : ℕ)
      → Reads fuel (then (grammar.a_word T limits) (λ x. then (phrases.one (sign semicolon))
      (λ end. only (made at end x))))
      (then (grammar.a_word T false) (λ x. then (phrases.one (sign semicolon)) (λ end. only (made at end x))))
      NoElse (reading.token_behind T limits fuel made at)
  unfolding reading.token_behind
  token_reads made at = reads_any (reads_next (name_reads (words_of T.tokens) limits fuel) (λ x.
      reads_next (sign_token fuel semicolon refl) (λ end. reads_done (made at end x))))

  pub stmt_reads : Reads fuel (grammar.stmt T limits room inner) (grammar.stmt T false (suc room) inner')
      NoElse (reading.next_stmt T limits fuel room r)
  unfolding reading.next_stmt grammar.token_stmt
  stmt_reads =
      reads_added T.tokens (codes "make") (λ makes at. token_reads makes.make at)
      (reads_added T.tokens (codes "spend") (λ makes at. token_reads makes.spend at) plain_reads
      (head_ahead (Lacks (token_word T.tokens (codes "spend"))) NoElse (plain_heads T limits room inner)
      (λ k h. none_there _ h (plain_no_token T.tokens (codes "spend") refl (refl, refl, refl, refl)))))
      (or_ahead (Lacks (token_word T.tokens (codes "make"))) NoElse (heads_added _ T.tokens (codes "spend"))
      (λ k h. none_there _ h (tokens_apart T.tokens (codes "spend") (codes "make") refl))
      (head_ahead (Lacks (token_word T.tokens (codes "make"))) NoElse (plain_heads T limits room inner)
      (λ k h. none_there _ h (plain_no_token T.tokens (codes "make") refl (refl, refl, refl, refl)))))

  pub stmts_with_reads : Reads fuel (grammar.stmts_with T limits room inner)
      (grammar.stmts_with T false (suc room) inner') BlockEnds (reading.stmts_with T limits fuel room r)
  unfolding grammar.stmts_with reading.stmts_with
  stmts_with_reads = reads_many distinct (a_start T.tokens) (λ u s. u)
      (λ (u : Unit {0}). reading.next_stmt T limits fuel room r) (λ u. stmt_reads)
      (λ u t x k q. began (a_start T.tokens)
      (head_more t k (head_as (stmt_heads T limits room inner t x q) (stmt_starts T.tokens))))
      (λ k h. none_there (word (codes "else")) (begins_head (a_start T.tokens) k h) (start_no_else T.tokens))
      (λ k h. none_there (word (codes "else")) h (λ u (at, e). sign_no_word (codes "else") end_curly u at e))
      (λ k h. ap is_there
      (none_there (a_start T.tokens) h (λ u (at, e). sign_no_start T.tokens end_curly u at e))) fuel tt
      (omega arith)

-- ---- to any depth

module _ {E A S P V R M : Type 0} (T : Actions E A S P V R M) (limits : Bool) (fuel : ℕ) where
  none_reads : Reads fuel phrases.nothing (grammar.stmts T false zero) BlockEnds expected
  unfolding grammar.stmts_with
  none_reads = reads_any (reads_none distinct ([], [], refl))

  pub stmts_reads : (room : ℕ) → Reads fuel (grammar.stmts T limits room) (grammar.stmts T false (suc room))
      BlockEnds (reading.next_stmts T limits fuel room)
  stmts_reads zero = stmts_with_reads T limits fuel zero phrases.nothing (grammar.stmts T false zero)
      expected none_reads
  stmts_reads (suc room) = stmts_with_reads T limits fuel (suc room) (grammar.stmts T limits room)
      (grammar.stmts T false (suc room)) (reading.next_stmts T limits fuel room) (stmts_reads room)
