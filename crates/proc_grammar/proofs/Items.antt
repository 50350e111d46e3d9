-- The readers of names, numbers, imports, globals and the header.
use Rattle.std.proofs.Common.{◌≡◌, Bool, true, false, ℕ, List, ◌++◌, Some, None, refl, ap, ◌∙◌, inl, inr, ◌⊎◌}
use Rattle.std.specs.Prelude.{codes, nat_lt}
use Rattle.proc_grammar.specs.Lexemes.{Lexeme, Meaning, word, a_number, sign, dot, slash, semicolon, square}
use Rattle.proc_grammar.specs.Lexemes.{end_square, dash, assign}
use Rattle.phrases.specs.Phrase as phrases
use Rattle.phrases.specs.Phrase.{then, only, ◌or◌}
use Rattle.proc_language.specs.declared.TheConstants.{MOST_ITEMS}
use Rattle.proc_grammar.specs.Grammar.{Phrase, kept, is_short, is_arity, is_length, is_initial, signed}
use Rattle.proc_grammar.specs.Grammar.{is_address, is_return_count}
use Rattle.proc_grammar.specs.Grammar as grammar
use Rattle.proc_grammar.specs.declared.fault.ParseFault.TheVariants.{Expected, Range, TooMany}
use Rattle.readers.specs.Readers.{done}
use Rattle.phrases.specs.Reading.{case_next, meant_in}
use Rattle.proc_grammar.specs.Reader.{Reader}
use Rattle.proc_grammar.specs.Reading as reading
use Rattle.proc_grammar.proofs.Told.{Reads, many_apart}
use Rattle.phrases.proofs.Offers.{Any, reads_next, reads_done, reads_case, reads_holds, reads_before, Is}
use Rattle.phrases.proofs.Offers.{Heads, heads_one, heads_then, heads_optional, heads_as, none_there}
use Rattle.phrases.proofs.Offers.{reads_up_to}
use Rattle.proc_grammar.proofs.Tokens.{name_token, number_token, word_token, sign_token, sign_apart}
use Rattle.proc_grammar.proofs.Tokens.{number_apart, sign_no_word}

pub range_apart : (n at : ℕ) → Range n ≡ Expected at → ⊥
range_apart n at e = absurd cc

pub reads_any : {A : Type 0} {fuel : ℕ} {P P' : Phrase A} {S : List Lexeme → Type 0} {r : Reader A}
    → Reads fuel P P' Any r → Reads fuel P P' S r
reads_any h = reads_before h (λ k s. tt)

-- what may be left out, where what follows doesn't begin so
pub reads_optional : {A B : Type 0} {fuel : ℕ} {m : Meaning A} {Q Q' : A → Phrase B} {f : A → Reader B}
    (x : B) → ((a : A) → Reads fuel (Q a) (Q' a) Any (f a)) → Reads fuel (then (phrases.one m) Q or only x)
    (then (phrases.one m) Q' or only x) (λ k. meant_in m k ≡ None) (case_next m f (done x))
reads_optional {m = m} x h = reads_case (λ a. reads_any (h a)) (reads_any (reads_done x))
    (λ t y k q stop. ap (λ l. meant_in m (l ++ k)) q.0 ∙ stop)

module _ (limits : Bool) (fuel : ℕ) where
  pub num_reads : (test : ℕ → Bool) → Reads fuel (grammar.num limits test) (grammar.num false test) Any
      (reading.next_num limits test)
  unfolding grammar.num reading.next_num
  num_reads test = reads_next (number_token fuel) (λ n. reads_holds _ (kept limits (test n.value)) true
      (Range n.at) (range_apart n.at) refl (reads_done n.value))

  pub num_heads : (test : ℕ → Bool) → Heads (Is a_number) (grammar.num limits test)
  unfolding grammar.num
  num_heads test = heads_then _ (heads_one a_number)

  pub length_reads : Reads fuel (grammar.length_part limits) (grammar.length_part false)
      (λ k. meant_in (sign square) k ≡ None) (reading.next_length limits)
  unfolding grammar.length_part reading.next_length
  length_reads = reads_optional None (λ at.
      reads_next (num_reads is_length) (λ n.
      reads_next (sign_token fuel end_square refl) (λ _. reads_done (Some n))))

  pub minus_reads : Reads fuel (grammar.minus_part limits) (grammar.minus_part false)
      (λ k. meant_in (sign dash) k ≡ None) (reading.next_minus limits)
  unfolding grammar.minus_part reading.next_minus
  minus_reads = reads_optional false (λ at. reads_done true)

  pub initial_reads : Reads fuel (grammar.initial_part limits) (grammar.initial_part false)
      (λ k. meant_in (sign assign) k ≡ None) (reading.next_initial limits)
  unfolding grammar.initial_part reading.next_initial
  initial_reads = reads_optional None (λ at.
      reads_up_to minus_reads (λ negative.
      reads_next (num_reads (is_initial negative)) (λ n. reads_done (Some (signed negative n))))
      (λ negative. heads_then _ (num_heads (is_initial negative)))
      (λ k h. none_there (sign dash) h (λ u (n, e). number_apart dash u n e)))

  pub field_reads : (w : List ℕ) → Reads fuel (grammar.field limits w) (grammar.field false w) Any
      (reading.next_field limits w)
  unfolding grammar.field reading.next_field
  field_reads w = reads_next (word_token fuel w) (λ _. num_reads is_address)

  pub movable_reads : Reads fuel (grammar.movable_part limits) (grammar.movable_part false)
      (λ k. meant_in (word (codes "movable")) k ≡ None) (reading.next_movable limits)
  unfolding grammar.movable_part reading.next_movable
  movable_reads = reads_optional false (λ at. reads_done true)

module _ (words : List (List ℕ)) (limits : Bool) (fuel : ℕ) where
  pub name_reads : Reads fuel (grammar.name words limits) (grammar.name words false) Any
      (reading.next_name words limits)
  unfolding grammar.name reading.next_name
  name_reads = reads_next (name_token fuel words) (λ x. reads_holds _ (kept limits (is_short x)) true
      (Range x.at) (range_apart x.at) refl (reads_done x))

  pub import_reads : (count : ℕ) → Reads fuel (grammar.import_item words limits count)
      (grammar.import_item words false count) Any (reading.next_import words limits count)
  unfolding grammar.import_item reading.next_import
  import_reads count =
      reads_next (word_token fuel (codes "import")) (λ at.
      reads_holds _ (kept limits (nat_lt count MOST_ITEMS)) true (TooMany at) (many_apart at) refl (
      reads_next name_reads (λ part.
      reads_next (sign_token fuel dot refl) (λ _.
      reads_next name_reads (λ x.
      reads_next (sign_token fuel slash refl) (λ _.
      reads_next (num_reads limits fuel is_arity) (λ arity.
      reads_next (sign_token fuel semicolon refl) (λ _.
      reads_done (record { at = at; part = part; name = x; arity = arity })))))))))

  -- `=` or `;`
  Closes : Lexeme → Type 0
  Closes u = Is (sign assign) u ⊎ Is (sign semicolon) u

  pub global_reads : (count : ℕ) → Reads fuel (grammar.global_item words limits count)
      (grammar.global_item words false count) Any (reading.next_global words limits count)
  unfolding grammar.global_item reading.next_global grammar.initial_part Closes
  global_reads count =
      reads_next (word_token fuel (codes "global")) (λ at.
      reads_holds _ (kept limits (nat_lt count MOST_ITEMS)) true (TooMany at) (many_apart at) refl (
      reads_next name_reads (λ x.
      reads_up_to (length_reads limits fuel) (λ len.
      reads_up_to (initial_reads limits fuel) (λ initial.
      reads_next (sign_token fuel semicolon refl) (λ _.
      reads_done (record { at = at; name = x; length = len; initial = initial })))
      (λ initial. heads_then _ (heads_one (sign semicolon)))
      (λ k h. none_there (sign assign) h (λ u (a, e). sign_apart semicolon assign refl u a e)))
      (λ len. heads_optional {C = Closes} None _ (heads_as (heads_then _ (heads_one (sign assign)))
      (λ u h. inl h)) (λ i. heads_as (heads_then _ (heads_one (sign semicolon))) (λ u h. inr h)))
      (λ k h. none_there (sign square) h
      (λ u. elim [
        | inl (a, e) ↦ sign_apart assign square refl u a e
        | inr (a, e) ↦ sign_apart semicolon
            square refl u a e
      ])))))

  pub header_reads : Reads fuel (grammar.header words limits) (grammar.header words false) Any
      (reading.next_header words limits)
  unfolding grammar.header reading.next_header
  header_reads =
      reads_next (word_token fuel (codes "module")) (λ at.
      reads_next name_reads (λ x.
      reads_next (field_reads limits fuel (codes "code")) (λ code.
      reads_next (field_reads limits fuel (codes "data")) (λ data_base.
      reads_next (field_reads limits fuel (codes "closure")) (λ closure.
      reads_next (field_reads limits fuel (codes "returns")) (λ first_return.
      reads_next (num_reads limits fuel (is_return_count first_return)) (λ return_count.
      reads_next (field_reads limits fuel (codes "stack")) (λ stack.
      reads_up_to (movable_reads limits fuel) (λ movable.
      reads_next (sign_token fuel semicolon refl) (λ _.
      reads_done _))
      (λ movable. heads_then _ (heads_one (sign semicolon))) (λ k h. none_there (word (codes "movable")) h
      (λ u (a, e). sign_no_word (codes "movable") semicolon u a e))))))))))
