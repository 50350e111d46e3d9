-- Whole texts: what is read is spelled, what is spelled is read, and where nothing goes on.
use Rattle.std.proofs.Common.{◌≡◌, Bool, true, false, cond, ℕ, zero, suc, ◌+◌, ◌≤◌, ◌<◌, List, [], ◌∷◌}
use Rattle.std.proofs.Common.{◌++◌, length, Some, None, Result, Ok, Err, refl, sym, ap, subst, ◌∙◌, arith}
use Rattle.std.proofs.Common.{append-nil, inl, inr, ◌⊎◌}
use Rattle.std.specs.Prelude.{◌==◌}
use Rattle.std.proofs.lemmas.Bool.{eqb-true}
use Rattle.proc_grammar.specs.declared.fault.ParseFault.{ParseFault}
use Rattle.proc_grammar.specs.declared.fault.ParseFault.TheVariants.{Expected}
use Rattle.proc_grammar.specs.Makes.{Actions}
use Rattle.proc_grammar.specs.Lexemes.{Lexeme}
use Rattle.proc_grammar.specs.Grammar.{a_module, IsText, room_in_body}
use Rattle.proc_grammar.specs.Reader.{Input, place_in, place}
use Rattle.proc_grammar.specs.Reading.{next_module, finished, parsed}
use Rattle.proc_grammar.specs.Stuck.{IsExpected}
use Rattle.phrases.specs.Reading.{first}
use Rattle.phrases.proofs.Offers.{at_end, ok_value}
use Rattle.proc_grammar.proofs.Modules.{module_reads}
use Rattle.proc_grammar.proofs.Loosely.{l_module}

module _ {E A S P V R M : Type 0} (T : Actions E A S P V R M) where
  nil_from_length : (l : List Lexeme) → length l ≡ 0 → l ≡ []
  nil_from_length [] e = refl
  nil_from_length (t ∷ l) e = absurd (omega (arith, e))

  -- a text of a module is read, whatever limits
  pub read_again : (limits : Bool) (n room : ℕ) (tokens : List Lexeme) (m : M) (end : ℕ) → length tokens ≤ n
      → a_module T limits room tokens m → next_module T limits n room (at_end tokens end) ≡ Ok
      (m, at_end [] end)
  read_again limits n room tokens m end len p =
      ap (λ l. next_module T limits n room (at_end l end)) (sym (append-nil tokens))
      ∙ (module_reads T limits n room).again tokens m [] end len p refl

  -- how the reading ended
  by_test : (b : Bool) (x : M × Input) (m : M) → (length x.1.rest == 0) ≡ b
      → cond b (Ok x.0) (Err (Expected (place x.1))) ≡ Ok m → (j : Input) × (x ≡ (m, j)) × (j.rest ≡ [])
  by_test true x m e h = (
    x.1,
    ap (λ y. (y, x.1)) (let same : x.0 ≡ m = cc in same),
    nil_from_length x.1.rest (eqb-true _ _ e),
  )
  by_test false x m e h = absurd cc

  ended_ok : (r : Result (M × Input) ParseFault) (m : M) → finished r ≡ Ok m → (j : Input) × (r ≡ Ok (m, j))
      × (j.rest ≡ [])
  ended_ok (Err e) m h = absurd cc
  ended_ok (Ok x) m h = let (j, e, none) = by_test (length x.1.rest == 0) x m refl h in
      (j, ap (λ y. Ok y) e, none)

  pub found : (n : ℕ) (tokens : List Lexeme) (end : ℕ) (m : M) → parsed T n tokens end ≡ Ok m
      → IsText T tokens m
  unfolding parsed
  found n tokens end m h =
      let (j, e, none) = ended_ok (next_module T true n room_in_body (at_end tokens end)) m h in
      let took = (module_reads T true n room_in_body).takes (at_end tokens end) m j e in
      let whole : tokens ≡ took.tokens = took.parts ∙ ap (λ l. took.tokens ++ l) none
      ∙ append-nil took.tokens in
      subst (λ l. IsText T l m) (sym whole) took.spelled

  pub only : (n : ℕ) (tokens : List Lexeme) (end : ℕ) (m : M) → length tokens ≤ n → IsText T tokens m
      → parsed T n tokens end ≡ Ok m
  unfolding parsed
  only n tokens end m len p = ap finished (read_again true n room_in_body tokens m end len p)

  ok_is : (m m' : M) → (let r : Result M ParseFault = Ok m in r) ≡ Ok m' → m ≡ m'
  ok_is m m' e = cc

  pub one_module : (tokens : List Lexeme) (m m' : M) → IsText T tokens m → IsText T tokens m' → m ≡ m'
  one_module tokens m m' p q =
      let same : Ok m ≡ Ok m' = sym (only (length tokens) tokens 0 m (omega arith) p)
      ∙ only (length tokens) tokens 0 m' (omega arith) q in
      ok_is m m' same

  -- ---- more room

  one_more_room : (room : ℕ) (tokens : List Lexeme) (m : M) → a_module T false room tokens m
      → a_module T false (suc room) tokens m
  one_more_room room tokens m p =
      let took = (module_reads T false (length tokens) room).takes (at_end tokens 0) m (at_end [] 0)
      (read_again false (length tokens) room tokens m 0 (omega arith) p) in
      let whole : tokens ≡ took.tokens = took.parts ∙ append-nil took.tokens in
      subst (λ l. a_module T false (suc room) l m) (sym whole) took.loose

  more_room : (k room : ℕ) (tokens : List Lexeme) (m : M) → a_module T false room tokens m → (large : ℕ)
      × (k ≤ large) × (room ≤ large) × a_module T false large tokens m
  more_room zero room tokens m p = (room, omega arith, omega arith, p)
  more_room (suc k) room tokens m p =
      let (large, a, b, q) = more_room k room tokens m p in
      (suc large, omega (arith, a), omega (arith, b), one_more_room large tokens m q)

  -- ---- where nothing goes on

  by_rest : (b : Bool) (x : M × Input) (at : ℕ) → (length x.1.rest == 0) ≡ b
      → cond b (Ok x.0) (Err (Expected (place x.1))) ≡ Err (Expected at) → (m : M) × (j : Input)
      × (x ≡ (m, j)) × (at ≡ place j) × (0 < length j.rest)
  by_rest true x at e h = absurd cc
  by_rest false x at e h = (x.0, x.1, refl, (let same : place x.1 ≡ at = cc in sym same), grind (arith, e))

  ends_err : (r : Result (M × Input) ParseFault) (at : ℕ) → finished r ≡ Err (Expected at)
      → (r ≡ Err (Expected at)) ⊎ ((m : M) × (j : Input) × (r ≡ Ok (m, j)) × (at ≡ place j)
      × (0 < length j.rest))
  ends_err (Err e) at h = inl (let same : e ≡ Expected at = cc in ap (λ z. Err z) same)
  ends_err (Ok x) at h = let (m, j, e, there, some) = by_rest (length x.1.rest == 0) x at refl h in
      inr (m, j, ap (λ y. Ok y) e, there, some)

  fault_not_ok : (at : ℕ) (m : M) (j : Input) → (let r : Result (M × Input) ParseFault = Err (Expected at) in
      r) ≡ Ok (m, j) → ⊥
  fault_not_ok at m j e = absurd cc

  no_more : (more rest : List Lexeme) → first more ≡ first rest → 0 < length rest → more ≡ [] → ⊥
  no_more more [] is some none = absurd (omega (arith, some))
  no_more more (t ∷ rest) is some none = absurd (let there : None ≡ Some t = ap first (sym none) ∙ is in cc)

  pub expected_is : (n : ℕ) (tokens : List Lexeme) (end at : ℕ) → parsed T n tokens end ≡ Err (Expected at)
      → IsExpected T tokens end at
  unfolding parsed
  expected_is n tokens end at h =
      elim (ends_err (next_module T true n room_in_body (at_end tokens end)) at h) [
        | inl e ↦
            let f = (module_reads T true n room_in_body).fails (at_end tokens end) at e in
            let v = f.viable in
            record {
              before = f.tokens;
              rest = f.rest;
              parts = f.parts;
              there = f.there;
              begun = (v.0, v.1, (suc room_in_body, v.2));
              stuck = λ more m is loose.
                  let (room, p) = loose in
                  let (large, a, b, q) = more_room room_in_body room (f.tokens ++ more) m p in
                  let k = n + length (f.tokens ++ more) in
                  let strict = f.same more 0 (sym is) in
                  let lax = (l_module T n k (omega arith) room_in_body large a).expects
                  (at_end (f.tokens ++ more) 0) (place_in more 0) strict in
                  fault_not_ok (place_in more 0) m (at_end [] 0)
                  (sym lax ∙ read_again false k large (f.tokens ++ more) m 0 (omega arith) q);
            }
        | inr (x, j, e, place_is, some) ↦
            let took = (module_reads T true n room_in_body).takes (at_end tokens end) x j e in
            record {
              before = took.tokens;
              rest = j.rest;
              parts = took.parts;
              there = place_is ∙ ap (λ z. place_in j.rest z) (sym took.ends);
              begun = (
                [],
                x,
                (
                  suc room_in_body,
                  subst (λ l. a_module T false (suc room_in_body) l x)
                      (sym (append-nil took.tokens)) took.loose,
                ),
              );
              stuck = λ more m is loose.
                  let (room, p) = loose in
                  let (large, a, b, q) = more_room room_in_body room (took.tokens ++ more) m p in
                  let k = n + length (took.tokens ++ more) in
                  let strict = took.same more 0 (sym is) in
                  let lax = (l_module T n k (omega arith) room_in_body large a).reads
                  (at_end (took.tokens ++ more) 0) (x, at_end more 0) strict in
                  let both = ok_value x m (at_end more 0) (at_end [] 0)
                  (sym lax ∙ read_again false k large (took.tokens ++ more) m 0 (omega arith) q) in
                  no_more more j.rest is some (ap (λ (i : Input). i.rest) both.1);
            }
      ]
