-- The readers of procedures and modules.
use Rattle.std.proofs.Common.{◌≡◌, Bool, true, false, ℕ, zero, suc, ◌+◌, List, [], ◌∷◌, ◌++◌}
use Rattle.std.proofs.Common.{Option, Some, None, refl, ap, inl, inr, ◌⊎◌, arith}
use Rattle.std.specs.Prelude.{codes, nat_lt, ◌==◌}
use Rattle.proc_language.specs.declared.tree.Name.{Name}
use Rattle.proc_language.specs.Words.{is_reserved}
use Rattle.proc_grammar.specs.Makes.{Actions}
use Rattle.proc_grammar.specs.Lexemes.{Lexeme, word, words_of, token_word, sign, a_name, a_local, a_proc}
use Rattle.proc_grammar.specs.Lexemes.{either_way, comma, slash, round, end_round, curly, end_curly}
use Rattle.proc_grammar.specs.Lexemes.{semicolon}
use Rattle.phrases.specs.Phrase as phrases
use Rattle.phrases.specs.Phrase.{◌or◌}
use Rattle.proc_language.specs.declared.TheConstants.{MOST_REGISTERS, MOST_ITEMS, MOST_LOCALS, MOST_TOKENS}
use Rattle.proc_grammar.specs.Grammar.{Phrase, kept, is_arity, behind_param, behind_local, behind_params}
use Rattle.proc_grammar.specs.Grammar.{one_more, Taken, none_taken}
use Rattle.proc_grammar.specs.Grammar as grammar
use Rattle.proc_grammar.specs.declared.fault.ParseFault.TheVariants.{TooMany}
use Rattle.readers.specs.Readers.{done}
use Rattle.phrases.specs.Reading.{case_next, is_there}
use Rattle.proc_grammar.specs.Reader.{many}
use Rattle.proc_grammar.specs.Reading as reading
use Rattle.proc_grammar.proofs.Told.{Reads, distinct, many_apart}
use Rattle.phrases.proofs.Offers.{Any, reads_then, reads_next, reads_done, reads_case, reads_holds, Ends}
use Rattle.phrases.proofs.Offers.{reads_many, Is, Head, Heads, head_more, heads_one, heads_then, heads_or}
use Rattle.phrases.proofs.Offers.{heads_as, head_as, heads_many, none_there, began, begins_head, reads_up_to}
use Rattle.phrases.proofs.Offers.{reads_map, many_ahead, then_ahead, head_ahead, only_ahead, Lacks}
use Rattle.proc_grammar.proofs.Tokens.{word_token, sign_token, sign_apart, name_apart}
use Rattle.proc_grammar.proofs.Tokens.{sign_no_word, name_no_word, word_other}
use Rattle.proc_grammar.proofs.Items.{reads_any, name_reads, num_reads, import_reads, global_reads}
use Rattle.proc_grammar.proofs.Items.{header_reads}
use Rattle.proc_grammar.proofs.Added.{reads_added, heads_added, name_no_token, token_no_sign, token_other}
use Rattle.proc_grammar.proofs.Added.{tokens_apart, sign_no_token, word_no_token}
use Rattle.proc_grammar.proofs.Stmts.{StmtStarts, PlainStarts, BlockEnds, stmts_reads, stmt_heads}
use Rattle.proc_grammar.proofs.Stmts.{plain_no_token}

-- no number of registers follows
abbrev pub NoSlash : List Lexeme → Type 0
NoSlash = Lacks (sign slash)

-- no local follows
abbrev pub NoLocal : {K : Type 0} → Option K → List Lexeme → Type 0
NoLocal o = Lacks (a_local o)

way_none : (o p : Option ℕ) → o ≡ None → p ≡ None → either_way o p ≡ None
way_none None None e h = refl
way_none None (Some b) e h = absurd cc
way_none (Some c) p e h = absurd cc

way_one : (o p : Option ℕ) (a : ℕ) → o ≡ Some a → either_way o p ≡ Some tt
way_one None None a e = absurd cc
way_one None (Some b) a e = refl
way_one (Some c) None a e = refl
way_one (Some c) (Some b) a e = refl

way_two : (o p : Option ℕ) (a : ℕ) → p ≡ Some a → either_way o p ≡ Some tt
way_two None None a e = absurd cc
way_two None (Some b) a e = refl
way_two (Some c) None a e = absurd cc
way_two (Some c) (Some b) a e = refl

plain_no_local : (words : List (List ℕ)) (u : Lexeme) → PlainStarts words u → word (codes "local") u ≡ None
unfolding is_reserved
plain_no_local words u = elim [
  | inl h ↦ word_other (codes "if") (codes "local") refl u h
  | inr c ↦ elim c [
    | inl h ↦ word_other (codes "while") (codes "local") refl u h
    | inr d ↦ elim d [
      | inl h ↦ word_other (codes "return") (codes "local") refl u h
      | inr f ↦ elim f [
        | inl h ↦ word_other (codes "halt") (codes "local") refl u h
        | inr
            (x, e) ↦ name_no_word words (codes "local") refl u x e
      ]
    ]
  ]
]

module _ {K : Type 0} where
  stmt_no_local : (o : Option K) (u : Lexeme) → StmtStarts o u → a_local o u ≡ None
  unfolding a_local
  stmt_no_local o u = elim [
    | inl h ↦ way_none _ _ (token_other o (codes "make") (codes "local") refl u h)
        (tokens_apart o (codes "make") (codes "token") refl u h)
    | inr c ↦ elim c [
      | inl h ↦ way_none _ _ (token_other o (codes "spend") (codes "local") refl u h)
          (tokens_apart o (codes "spend") (codes "token") refl u h)
      | inr h ↦ way_none _ _ (plain_no_local (words_of o) u h)
          (plain_no_token o (codes "token") refl (refl, refl, refl, refl) u h)
    ]
  ]

  sign_no_local : (o : Option K) (s : ℕ) (u : Lexeme) → Is (sign s) u → a_local o u ≡ None
  unfolding a_local
  sign_no_local o s u (at, e) = way_none _ _ (sign_no_word (codes "local") s u at e)
      (sign_no_token o (codes "token") s u (at, e))

  -- `token`, or `local`
  abbrev LocalStarts : Option K → Lexeme → Type 0
  LocalStarts o u = Is (token_word o (codes "token")) u ⊎ Is (word (codes "local")) u

  local_starts : (o : Option K) (u : Lexeme) → LocalStarts o u → Is (a_local o) u
  unfolding a_local
  local_starts o u = elim [
    | inl (a, e) ↦ (tt, way_two (word (codes "local") u) (token_word o (codes "token") u) a e)
    | inr (a, e) ↦ (tt, way_one (word (codes "local") u) (token_word o (codes "token") u) a e)
  ]

  -- `token`, or a name
  abbrev ParamStarts : Option K → Lexeme → Type 0
  ParamStarts o u = Is (token_word o (codes "token")) u ⊎ Is (a_name (words_of o)) u

  param_no_sign : (o : Option K) (s : ℕ) (u : Lexeme) → ParamStarts o u → sign s u ≡ None
  param_no_sign o s u = elim [
    | inl h ↦ token_no_sign o s (codes "token") u h
    | inr (x, e) ↦ name_apart (words_of o) s u x e
  ]

abbrev ProcStarts : Lexeme → Type 0
ProcStarts u = Is (word (codes "export")) u ⊎ Is (word (codes "proc")) u

proc_starts : (u : Lexeme) → ProcStarts u → Is a_proc u
unfolding a_proc
proc_starts u = elim [
  | inl (a, e) ↦ (tt, way_one (word (codes "export") u) (word (codes "proc") u) a e)
  | inr (a, e) ↦ (tt, way_two (word (codes "export") u) (word (codes "proc") u) a e)
]

proc_no_global : (u : Lexeme) → ProcStarts u → word (codes "global") u ≡ None
proc_no_global u = elim [
  | inl h ↦ word_other (codes "export") (codes "global") refl u h
  | inr h ↦ word_other
      (codes "proc") (codes "global") refl u h
]

items_no_import : (u : Lexeme) → (Is (word (codes "global")) u ⊎ ProcStarts u)
    → word (codes "import") u ≡ None
items_no_import u = elim [
  | inl h ↦ word_other (codes "global") (codes "import") refl u h
  | inr c ↦ elim c [
    | inl h ↦ word_other (codes "export") (codes "import") refl u h
    | inr h ↦ word_other
        (codes "proc") (codes "import") refl u h
  ]
]

module _ {E A S P V R M : Type 0} (T : Actions E A S P V R M) (limits : Bool) (fuel : ℕ) where
  arity_reads : (x : Name) (used : ℕ) → Reads fuel (grammar.arity_part T limits x used)
      (grammar.arity_part T false x used) NoSlash
      (case_next (sign slash) (λ at. reading.arity_behind T limits fuel x used) (done (T.param x)))
  unfolding grammar.arity_part reading.arity_behind
  arity_reads x used =
      reads_case (λ at. reads_any (reads_holds _ (kept limits (nat_lt (used + 1) MOST_REGISTERS)) true
      (TooMany x.at) (many_apart x.at) refl (reads_map (T.callback x) (num_reads limits fuel is_arity))))
      (reads_any (reads_done (T.param x))) (only_ahead NoSlash NoSlash (T.param x) (λ k h. h))

  plain_reads : (used : ℕ) → Reads fuel (grammar.plain_param T limits used)
      (grammar.plain_param T false used) NoSlash (reading.plain_param T limits fuel used)
  unfolding grammar.plain_param reading.plain_param
  plain_reads used = reads_next (name_reads (words_of T.tokens) limits fuel)
      (λ x. reads_holds _ (kept limits (nat_lt used MOST_REGISTERS)) true (TooMany x.at)
      (many_apart x.at) refl (arity_reads x used))

  plain_heads : (used : ℕ) → Heads (Is (a_name (words_of T.tokens))) (grammar.plain_param T limits used)
  unfolding grammar.plain_param grammar.name
  plain_heads used = heads_then _ (heads_then _ (heads_one (a_name (words_of T.tokens))))

  param_reads : (used : Taken) → Reads fuel (grammar.param T limits used) (grammar.param T false used)
      NoSlash (reading.next_param T limits fuel used)
  unfolding grammar.token_param reading.token_param reading.next_param
  param_reads used =
      reads_added T.tokens (codes "token") (λ makes at. reads_any (
      reads_next (name_reads (words_of T.tokens) limits fuel) (λ x.
      reads_holds _ (kept limits (nat_lt used.tokens MOST_TOKENS)) true (TooMany x.at)
      (many_apart x.at) refl (reads_done (makes.param x)))))
      (plain_reads used.slots)
      (head_ahead (Lacks (token_word T.tokens (codes "token"))) NoSlash (plain_heads used.slots)
      (λ k h. none_there _ h (name_no_token T.tokens (codes "token") refl)))

  param_heads : (used : Taken) → Heads (ParamStarts T.tokens) (grammar.param T limits used)
  unfolding grammar.token_param
  param_heads used = heads_or (heads_as (heads_added _ T.tokens (codes "token")) (λ u h. inl h))
      (heads_as (plain_heads used.slots) (λ u h. inr h))

  another_reads : (used : Taken) → Reads fuel (grammar.next_param T limits used)
      (grammar.next_param T false used) NoSlash (reading.another_param T limits fuel used)
  unfolding reading.another_param
  another_reads used = reads_next (sign_token fuel comma refl) (λ _. param_reads used)

  commas : (used : Taken) → Heads (Is (sign comma)) (grammar.next_param T limits used)
  commas used = heads_then _ (heads_one (sign comma))

  sign_ends : (s : ℕ) → (s == slash) ≡ false → (k : List Lexeme) → Head (Is (sign s)) k → NoSlash k
  sign_ends s h k g = none_there (sign slash) g (λ u (at, e). sign_apart s slash h u at e)

  others_reads : (used : Taken) → Reads fuel
      (phrases.many (behind_param T) (grammar.next_param T limits) used)
      (phrases.many (behind_param T) (grammar.next_param T false) used) (Head (Is (sign end_round)))
      (many fuel (sign comma) (behind_param T) (reading.another_param T limits fuel) used)
  others_reads used = reads_many distinct (sign comma) (behind_param T) (reading.another_param T limits fuel)
      another_reads
      (λ s t x k q. began (sign comma) (head_more t k (commas s t x q)))
      (λ k h. sign_ends comma refl k (begins_head (sign comma) k h)) (sign_ends end_round refl)
      (λ k h. ap is_there (none_there (sign comma) h (λ u (at, e). sign_apart end_round comma refl u at e)))
      fuel used (omega arith)

  ListEnds : Lexeme → Type 0
  ListEnds u = Is (sign comma) u ⊎ Is (sign end_round) u

  list_ends : (k : List Lexeme) → Head ListEnds k → NoSlash k
  unfolding ListEnds
  list_ends k (u, rest, e, c) = elim c [
    | inl h ↦ sign_ends comma refl k (u, rest, e, h)
    | inr h ↦ sign_ends end_round refl k (u, rest, e, h)
  ]

  some_reads : Reads fuel (grammar.some_params T limits) (grammar.some_params T false) Any
      (reading.some_params T limits fuel)
  unfolding grammar.some_params reading.some_params ListEnds
  some_reads =
      reads_up_to (param_reads none_taken) (λ first.
      reads_up_to (others_reads (behind_param T none_taken first)) (λ others.
      reads_next (sign_token fuel end_round refl) (λ _. reads_done (first ∷ others)))
      (λ others. heads_then _ (heads_one (sign end_round))) (λ k h. h))
      (λ first. heads_many _ _ _ _ (λ used. heads_as (commas used) (λ u h. inl h))
      (λ others. heads_as (heads_then _ (heads_one (sign end_round))) (λ u h. inr h)))
      list_ends

  some_heads : Heads (ParamStarts T.tokens) (grammar.some_params T limits)
  unfolding grammar.some_params
  some_heads = heads_then _ (param_heads none_taken)

  params_reads : Reads fuel (grammar.params T limits) (grammar.params T false) Any
      (reading.next_params T limits fuel)
  unfolding grammar.params reading.next_params
  params_reads = reads_next (sign_token fuel round refl) (λ _.
      reads_case (λ end. reads_done []) some_reads (head_ahead (Lacks (sign end_round)) Any some_heads
      (λ k h. none_there (sign end_round) h (param_no_sign T.tokens end_round))))

  plain_local_reads : (count : ℕ) → Reads fuel (grammar.plain_local T limits count)
      (grammar.plain_local T false count) Any (reading.plain_local T limits fuel count)
  unfolding grammar.plain_local reading.plain_local
  plain_local_reads count =
      reads_next (word_token fuel (codes "local")) (λ at.
      reads_holds _ (kept limits (nat_lt count MOST_LOCALS)) true (TooMany at) (many_apart at) refl (
      reads_next (name_reads (words_of T.tokens) limits fuel) (λ x.
      reads_next (sign_token fuel semicolon refl) (λ _. reads_done (T.local x)))))

  plain_local_heads : (count : ℕ) → Heads (Is (word (codes "local"))) (grammar.plain_local T limits count)
  unfolding grammar.plain_local
  plain_local_heads count = heads_then _ (heads_one (word (codes "local")))

  local_reads : (used : Taken) → Reads fuel (grammar.local_item T limits used)
      (grammar.local_item T false used) Any (reading.next_local T limits fuel used)
  unfolding grammar.token_local reading.token_local reading.next_local
  local_reads used =
      reads_added T.tokens (codes "token") (λ makes at.
      reads_next (name_reads (words_of T.tokens) limits fuel) (λ x.
      reads_holds _ (kept limits (nat_lt used.tokens MOST_TOKENS)) true (TooMany x.at)
      (many_apart x.at) refl (
      reads_next (sign_token fuel semicolon refl) (λ _. reads_done (makes.local x)))))
      (plain_local_reads used.slots)
      (head_ahead (Lacks (token_word T.tokens (codes "token"))) Any (plain_local_heads used.slots)
      (λ k h. none_there _ h (word_no_token T.tokens (codes "local") (codes "token") refl)))

  local_heads : (used : Taken) → Heads (LocalStarts T.tokens) (grammar.local_item T limits used)
  unfolding grammar.token_local
  local_heads used = heads_or (heads_as (heads_added _ T.tokens (codes "token")) (λ u h. inl h))
      (heads_as (plain_local_heads used.slots) (λ u h. inr h))

  locals_reads : (ps : List P)
      → Reads fuel (phrases.many (behind_local T) (grammar.local_item T limits) (behind_params T ps))
      (phrases.many (behind_local T) (grammar.local_item T false) (behind_params T ps)) (NoLocal T.tokens)
      (reading.next_locals T limits fuel ps)
  unfolding reading.next_locals
  locals_reads ps = reads_many distinct (a_local T.tokens) (behind_local T)
      (reading.next_local T limits fuel) local_reads
      (λ s t x k q. began (a_local T.tokens)
      (head_more t k (head_as (local_heads s t x q) (local_starts T.tokens)))) (λ k h. tt)
      (λ k h. tt) (λ k h. ap is_there h) fuel (behind_params T ps) (omega arith)

  stmts_with_ahead : (room : ℕ) (inner : Phrase (List S)) (t : List Lexeme) (body : List S) (k : List Lexeme)
      → grammar.stmts_with T limits room inner t body → BlockEnds k → NoLocal T.tokens (t ++ k)
  unfolding grammar.stmts_with
  stmts_with_ahead room inner = many_ahead (NoLocal T.tokens) BlockEnds (λ u s. u)
      (λ (u : Unit {0}). grammar.stmt T limits room inner) (λ u. stmt_heads T limits room inner)
      (λ k h. none_there (a_local T.tokens) h (stmt_no_local T.tokens))
      (λ k h. none_there (a_local T.tokens) h (sign_no_local T.tokens end_curly)) tt

  import_heads : (count : ℕ) → Heads (Is (word (codes "import")))
      (grammar.import_item (words_of T.tokens) limits count)
  unfolding grammar.import_item
  import_heads count = heads_then _ (heads_one (word (codes "import")))

  imports_reads : (count : ℕ) → Reads fuel
      (phrases.many one_more (grammar.import_item (words_of T.tokens) limits) count)
      (phrases.many one_more (grammar.import_item (words_of T.tokens) false) count)
      (Lacks (word (codes "import")))
      (many fuel (word (codes "import")) one_more (reading.next_import (words_of T.tokens) limits) count)
  imports_reads count = reads_many distinct (word (codes "import")) one_more
      (reading.next_import (words_of T.tokens) limits) (import_reads (words_of T.tokens) limits fuel)
      (λ s t x k q. began (word (codes "import")) (head_more t k (import_heads s t x q))) (λ k h. tt)
      (λ k h. tt) (λ k h. ap is_there h) fuel count (omega arith)

  global_heads : (count : ℕ) → Heads (Is (word (codes "global")))
      (grammar.global_item (words_of T.tokens) limits count)
  unfolding grammar.global_item
  global_heads count = heads_then _ (heads_one (word (codes "global")))

  globals_reads : (count : ℕ) → Reads fuel
      (phrases.many one_more (grammar.global_item (words_of T.tokens) limits) count)
      (phrases.many one_more (grammar.global_item (words_of T.tokens) false) count)
      (Lacks (word (codes "global")))
      (many fuel (word (codes "global")) one_more (reading.next_global (words_of T.tokens) limits) count)
  globals_reads count = reads_many distinct (word (codes "global")) one_more
      (reading.next_global (words_of T.tokens) limits) (global_reads (words_of T.tokens) limits fuel)
      (λ s t x k q. began (word (codes "global")) (head_more t k (global_heads s t x q))) (λ k h. tt)
      (λ k h. tt) (λ k h. ap is_there h) fuel count (omega arith)

  stmts_ahead : (room : ℕ) (t : List Lexeme) (body : List S) (k : List Lexeme)
      → grammar.stmts T limits room t body → BlockEnds k → NoLocal T.tokens (t ++ k)
  stmts_ahead zero = stmts_with_ahead zero phrases.nothing
  stmts_ahead (suc room) = stmts_with_ahead (suc room) (grammar.stmts T limits room)

  module _ (room : ℕ) where
    proc_reads : (at : ℕ) (shared : Bool) → Reads fuel (grammar.proc_behind T limits room at shared)
        (grammar.proc_behind T false (suc room) at shared) Any
        (reading.proc_behind T limits fuel room at shared)
    unfolding grammar.proc_behind reading.proc_behind
    proc_reads at shared =
        reads_next (name_reads (words_of T.tokens) limits fuel) (λ x.
        reads_next params_reads (λ params.
        reads_next (sign_token fuel curly refl) (λ _.
        reads_then (locals_reads params) (λ locals.
        reads_up_to (stmts_reads T limits fuel room) (λ body.
        reads_next (sign_token fuel end_curly refl) (λ end.
        reads_done (T.proc at end shared x params locals body)))
        (λ body. heads_then _ (heads_one (sign end_curly))) (λ k h. h))
        (λ locals. then_ahead (NoLocal T.tokens) BlockEnds Any (stmts_ahead room)
        (λ body. heads_then _ (heads_one (sign end_curly))) (λ k h. h)))))

    item_reads : (count : ℕ) → Reads fuel (grammar.proc_item T limits room count)
        (grammar.proc_item T false (suc room) count) Any (reading.next_proc T limits fuel room count)
    unfolding reading.next_proc
    item_reads count =
        reads_case (λ at. reads_holds _ (kept limits (nat_lt count MOST_ITEMS)) true (TooMany at)
        (many_apart at) refl (reads_next (word_token fuel (codes "proc")) (λ _. proc_reads at true)))
        (reads_next (word_token fuel (codes "proc"))
        (λ at. reads_holds _ (kept limits (nat_lt count MOST_ITEMS)) true (TooMany at)
        (many_apart at) refl (proc_reads at false)))
        (head_ahead (Lacks (word (codes "export"))) Any (heads_then _ (heads_one (word (codes "proc"))))
        (λ k h. none_there (word (codes "export")) h (word_other (codes "proc") (codes "export") refl)))

    item_heads : (count : ℕ) → Heads ProcStarts (grammar.proc_item T limits room count)
    item_heads count = heads_or (heads_as (heads_then _ (heads_one (word (codes "export")))) (λ u h. inl h))
        (heads_as (heads_then _ (heads_one (word (codes "proc")))) (λ u h. inr h))

    procs_reads : (count : ℕ) → Reads fuel (phrases.many one_more (grammar.proc_item T limits room) count)
        (phrases.many one_more (grammar.proc_item T false (suc room)) count) (Ends a_proc)
        (many fuel a_proc one_more (reading.next_proc T limits fuel room) count)
    procs_reads count = reads_many distinct a_proc one_more (reading.next_proc T limits fuel room) item_reads
        (λ s t x k q. began a_proc (head_more t k (head_as (item_heads s t x q) proc_starts))) (λ k h. tt)
        (λ k h. tt) (λ k h. h) fuel count (omega arith)

    pub module_reads : Reads fuel (grammar.a_module T limits room) (grammar.a_module T false (suc room))
        (Ends a_proc) (reading.next_module T limits fuel room)
    unfolding grammar.a_module reading.next_module
    module_reads =
        reads_next (header_reads (words_of T.tokens) limits fuel) (λ head.
        reads_up_to (imports_reads 0) (λ imports.
        reads_up_to (globals_reads 0) (λ globals.
        reads_next (item_reads 0) (λ first.
        reads_map (λ procs. T.module_of head imports globals (first ∷ procs)) (procs_reads 1)))
        (λ globals. heads_then _ (item_heads 0)) (λ k h. none_there (word (codes "global")) h proc_no_global))
        (λ imports. heads_many _ _ _ _ (λ count. heads_as (global_heads count) (λ u h. inl h))
        (λ globals. heads_as (heads_then _ (item_heads 0)) (λ u h. inr h)))
        (λ k h. none_there (word (codes "import")) h items_no_import))
