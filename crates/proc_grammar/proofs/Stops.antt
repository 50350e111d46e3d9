-- A text that stops to be the beginning of a module is told so, unless it passes a limit before.
use Rattle.std.proofs.Common.{◌≡◌, Bool, true, false, cond, ℕ, suc, ◌≤◌, List, [], ◌∷◌, ◌++◌, length}
use Rattle.std.proofs.Common.{Some, Result, Ok, Err, refl, sym, ap, subst, ◌∙◌, arith}
use Rattle.std.proofs.Common.{append-nil, append_assoc, inl, inr, ◌⊎◌}
use Rattle.std.specs.Prelude.{◌==◌}
use Rattle.phrases.specs.Reading.{first}
use Rattle.phrases.proofs.Offers.{at_end}
use Rattle.proc_grammar.specs.declared.fault.ParseFault.{ParseFault}
use Rattle.proc_grammar.specs.declared.fault.ParseFault.TheVariants.{Expected}
use Rattle.proc_grammar.specs.Makes.{Actions}
use Rattle.proc_grammar.specs.Lexemes.{Lexeme}
use Rattle.proc_grammar.specs.Grammar.{a_module, IsText, IsLoose, room_in_body}
use Rattle.proc_grammar.specs.Reader.{Input, place_in, place}
use Rattle.proc_grammar.specs.Reading.{next_module, finished, parsed}
use Rattle.proc_grammar.specs.Stuck.{IsExpected, IsBeyond, StandsIn}
use Rattle.proc_grammar.proofs.Modules.{module_reads}
use Rattle.proc_grammar.proofs.Blamed.{module_blames}
use Rattle.proc_grammar.proofs.Whole.{found, expected_is, read_again}

-- ---- two cuts of one list

tail_of : {A : Type 0} (x y : A) (k l : List A) → x ∷ k ≡ y ∷ l → (x ≡ y) × (k ≡ l)
tail_of x y k l e = (cc, cc)

-- a token of a list stands in the front of another cut, or after it
token_cut : (a : List Lexeme) (t : Lexeme) (b before rest : List Lexeme) → a ++ t ∷ b ≡ before ++ rest
    → ((u : List Lexeme) × (before ≡ a ++ t ∷ u))
    ⊎ ((u : List Lexeme) × (a ≡ before ++ u) × (rest ≡ u ++ t ∷ b))
token_cut a t b [] rest e = inr (a, refl, sym e)
token_cut [] t b (x ∷ before) rest e =
    inl (before, ap (λ y. y ∷ before) (sym (tail_of t x b (before ++ rest) e).0))
token_cut (y ∷ a) t b (x ∷ before) rest e =
    let same = tail_of y x (a ++ t ∷ b) (before ++ rest) e in
    elim (token_cut a t b before rest same.1) [
      | inl (u, is) ↦ inl (u, (λ i. (sym same.0) i ∷ is i))
      | inr (u, is, left) ↦ inr (u, (λ i. same.0 i ∷ is i), left)
    ]

-- of two cuts one is after the other, or they are the same
two_cuts : (a b c d : List Lexeme) → a ++ b ≡ c ++ d
    → ((a ≡ c) × (b ≡ d)) ⊎ (((t : Lexeme) × (u : List Lexeme) × (c ≡ a ++ t ∷ u) × (b ≡ t ∷ (u ++ d)))
    ⊎ ((t : Lexeme) × (u : List Lexeme) × (a ≡ c ++ t ∷ u) × (d ≡ t ∷ (u ++ b))))
two_cuts [] b [] d e = inl (refl, e)
two_cuts [] b (x ∷ c) d e = inr (inl (x, c, refl, e))
two_cuts (x ∷ a) b [] d e = inr (inr (x, a, refl, sym e))
two_cuts (x ∷ a) b (y ∷ c) d e =
    let same = tail_of x y (a ++ b) (c ++ d) e in
    elim (two_cuts a b c d same.1) [
      | inl (is, left) ↦ inl ((λ i. same.0 i ∷ is i), left)
      | inr one ↦ elim one [
        | inl (t, u, is, left) ↦ inr (inl (t, u, (λ i. (sym same.0) i ∷ is i), left))
        | inr (t, u, is, left) ↦ inr (inr (t, u, (λ i. same.0 i ∷ is i), left))
      ]
    ]

first_front : (u : List Lexeme) (t : Lexeme) (j k : List Lexeme) → first (u ++ t ∷ j) ≡ first (u ++ t ∷ k)
first_front [] t j k = refl
first_front (x ∷ u) t j k = refl

by_result : {A : Type 0} (r : Result A ParseFault) → ((x : A) × (r ≡ Ok x)) ⊎ ((e : ParseFault) × (r ≡ Err e))
by_result (Ok x) = inl (x, refl)
by_result (Err e) = inr (e, refl)

module _ {E A S P V R M : Type 0} (T : Actions E A S P V R M) where
  -- a text within limits is one without
  loosely : (tokens : List Lexeme) (m : M) → IsText T tokens m → IsLoose T tokens m
  loosely tokens m p =
      let took = (module_reads T true (length tokens) room_in_body).takes (at_end tokens 0) m (at_end [] 0)
      (read_again T true (length tokens) room_in_body tokens m 0 (omega arith) p) in
      let whole : tokens ≡ took.tokens = took.parts ∙ append-nil took.tokens in
      (suc room_in_body, subst (λ l. a_module T false (suc room_in_body) l m) (sym whole) took.loose)

  -- there is one such place
  one_place : (tokens : List Lexeme) (end at other : ℕ) → IsExpected T tokens end at
      → IsExpected T tokens end other → at ≡ other
  one_place tokens end at other h g =
      elim (two_cuts h.before h.rest g.before g.rest (sym h.parts ∙ g.parts)) [
        | inl (is, left) ↦ h.there ∙ ap (λ l. place_in l end) left ∙ sym g.there
        | inr one ↦ elim one [
          | inl (t, u, is, left) ↦
              let (more, m, loose) = g.begun in
              absurd (h.stuck (t ∷ (u ++ more)) m (ap first (sym left))
              (subst (λ l. IsLoose T l m) (ap (λ l. l ++ more) is ∙ append_assoc h.before (t ∷ u) more)
              loose))
          | inr (t, u, is, left) ↦
              let (more, m, loose) = h.begun in
              absurd (g.stuck (t ∷ (u ++ more)) m (ap first (sym left))
              (subst (λ l. IsLoose T l m) (ap (λ l. l ++ more) is ∙ append_assoc g.before (t ∷ u) more)
              loose))
        ]
      ]

  by_rest : (b : Bool) (x : M × Input) (e : ParseFault) → cond b (Ok x.0) (Err (Expected (place x.1))) ≡ Err
      e → e ≡ Expected (place x.1)
  by_rest true x e h = absurd cc
  by_rest false x e h = let same : Expected (place x.1) ≡ e = cc in sym same

  ends_at : (r : Result (M × Input) ParseFault) (e : ParseFault) → finished r ≡ Err e → (r ≡ Err e)
      ⊎ ((at : ℕ) × (e ≡ Expected at))
  ends_at (Err d) e h = inl (let same : d ≡ e = cc in ap (λ z. Err z) same)
  ends_at (Ok x) e h = inr (place x.1, by_rest (length x.1.rest == 0) x e h)

  -- a fault is that a token was not expected, or that of a limit
  pub fault_is : (n : ℕ) (tokens : List Lexeme) (end : ℕ) (e : ParseFault) → length tokens ≤ n
      → parsed T n tokens end ≡ Err e → ((at : ℕ) × (e ≡ Expected at)) ⊎ IsBeyond T tokens e
  unfolding parsed
  fault_is n tokens end e len h = elim (ends_at (next_module T true n room_in_body (at_end tokens end)) e h) [
    | inr at ↦ inl at
    | inl g ↦ elim ((module_blames T true n room_in_body).blames (at_end tokens end) e len g) [
      | inl at ↦ inl at
      | inr (at, limit, place_) ↦ elim place_ [
        | inl nowhere ↦ absurd nowhere
        | inr w ↦
            let v = w.viable in
            inr (record {
              before = w.tokens;
              token = w.token;
              behind = w.rest;
              parts = w.parts;
              there = limit ∙ ap (λ z. Some z) w.there;
              begun = (
                v.0,
                v.1,
                (
                  suc room_in_body,
                  subst (λ l. a_module T false (suc room_in_body) l v.1)
                      (sym (append_assoc w.tokens (w.token ∷ []) v.0)) v.2,
                ),
              );
            })
      ]
    ]
  ]

  -- a token beyond a limit stands before the place at which no module goes on
  sooner : (tokens : List Lexeme) (end at : ℕ) (e : ParseFault) (h : IsExpected T tokens end at)
      → IsBeyond T tokens e → StandsIn h.before e
  sooner tokens end at e h w =
      elim (token_cut w.before w.token w.behind h.before h.rest (sym w.parts ∙ h.parts)) [
        | inl (u, is) ↦ (w.before, w.token, u, is, w.there)
        | inr (u, is, left) ↦
            let (more, m, loose) = w.begun in
            let front : (w.before ++ w.token ∷ []) ++ more ≡ h.before ++ (u ++ w.token ∷ more) =
            append_assoc w.before (w.token ∷ []) more ∙ ap (λ l. l ++ w.token ∷ more) is
            ∙ append_assoc h.before u (w.token ∷ more) in
            absurd (h.stuck (u ++ w.token ∷ more) m (first_front u w.token more w.behind
            ∙ ap first (sym left)) (subst (λ l. IsLoose T l m) front loose))
      ]

  pub told : (n : ℕ) (tokens : List Lexeme) (end at : ℕ) → length tokens ≤ n
      → (h : IsExpected T tokens end at) → (parsed T n tokens end ≡ Err (Expected at))
      ⊎ ((e : ParseFault) × (parsed T n tokens end ≡ Err e) × StandsIn h.before e)
  told n tokens end at len h = elim (by_result (parsed T n tokens end)) [
    | inl (m, is) ↦ absurd
        (h.stuck h.rest m refl
        (subst (λ l. IsLoose T l m) h.parts (loosely tokens m (found T n tokens end m is))))
    | inr (e, is) ↦ elim (fault_is n tokens end e len is) [
      | inl (other, same) ↦
          let told = is ∙ ap (λ z. Err z) same in
          inl (told ∙ ap (λ z. Err (Expected z))
          (one_place tokens end other at (expected_is T n tokens end other told) h))
      | inr beyond ↦ inr (e, is, sooner tokens end at e h beyond)
    ]
  ]
