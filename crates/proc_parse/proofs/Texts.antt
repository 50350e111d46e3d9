-- The tokens of a text that end no line, and what is read of them.
use Rattle.std.proofs.Common.{◌≡◌, Bool, true, false, cond, ℕ, ◌+◌, ◌-◌, ◌≤◌, ◌<◌, map, List, [], ◌∷◌, ◌++◌}
use Rattle.std.proofs.Common.{append_assoc, add-one, drop-cons, get_or}
use Rattle.std.proofs.Common.{length, drop, Some, None, refl, sym, ap, ◌∙◌, arith, subst, inl, inr, ◌⊎◌}
use Rattle.std.specs.Prelude.{Result, Ok, Err, IfOk, IfErr, IsOkAnd, All, slice_range}
use Rattle.std.proofs.lemmas.List.{length-take}
use Rattle.std.proofs.lemmas.List.Elements.{All-head, All-tail, All-cons, All-nil}
use Rattle.std.proofs.lemmas.Option.{same_Some}
use Rattle.text_scan.specs.declared.token.TokenKind.{TokenKind}
use Rattle.text_scan.specs.declared.token.TokenKind.TheVariants as kinds
use Rattle.text_scan.specs.declared.token.Token.{Token}
use Rattle.text_scan.specs.declared.fault.ScanFault.{ScanFault}
use Rattle.text_scan.specs.Tokens.{scanned}
use Rattle.text_scan.specs.Grammar.{HasTokens, IsSpelled, IsTokenText, Placed}
use Rattle.text_scan.proofs.Offers.{placed_ends}
use Rattle.proc_grammar.specs.declared.fault.ParseFault.{ParseFault}
use Rattle.proc_grammar.specs.declared.fault.ParseFault.TheVariants.{Scan, Expected, Range, TooMany, NoMemory}
use Rattle.proc_grammar.specs.Fault.{AnswersAs, Fails, limit_place}
use Rattle.proc_grammar.specs.Makes.{Actions}
use Rattle.proc_grammar.specs.Grammar.{IsText}
use Rattle.proc_grammar.specs.Lexemes.{Lexeme, lexemes, seen, is_line_end}
use Rattle.proc_grammar.specs.Reader.{place_in}
use Rattle.proc_grammar.specs.Reading.{full, parsed}
use Rattle.proc_grammar.specs.Stuck.{IsExpected, IsBeyond, StandsIn}
use Rattle.proc_grammar.specs.Tokens.{IsLexeme}
use Rattle.proc_grammar.proofs.Offers.{found, only, one_module, expected_is, told, fault_is}
use Rattle.proc_parse.specs.Answers.{InText}
use Rattle.proc_parse.specs.Texts.{proper, parsed_scan, parsed_text, Spells, Stops, Passes, IsFault}
use Rattle.proc_parse.specs.Texts.{PassesBefore}

-- one token more in the loop that drops the ends of lines
module _ (tokens kept : List Token) (i : ℕ) (d : Token) (lt : i < length tokens)
    (told : kept ++ proper (drop i tokens) ≡ proper tokens) where
  here : drop i tokens ≡ get_or tokens i d ∷ drop (i + 1) tokens
  here = rw (add-one, drop-cons tokens i d)

  split_at : (b : Bool) → is_line_end (get_or tokens i d).kind ≡ b → kept
      ++ cond b (proper (drop (i + 1) tokens)) (get_or tokens i d ∷ proper (drop (i + 1) tokens))
      ≡ proper tokens
  split_at b is =
      ap (λ e. kept ++ cond e (proper (drop (i + 1) tokens)) (get_or tokens i d ∷ proper (drop
      (i + 1) tokens)))
      (sym is) ∙ ap (λ l. kept ++ proper l) (sym here) ∙ told

  pub token_kept : is_line_end (get_or tokens i d).kind ≡ false
      → (kept ++ get_or tokens i d ∷ []) ++ proper (drop (i + 1) tokens) ≡ proper tokens
  token_kept is = append_assoc kept (get_or tokens i d ∷ []) (proper (drop (i + 1) tokens))
      ∙ split_at false is

  pub token_left : is_line_end (get_or tokens i d).kind ≡ true
      → kept ++ proper (drop (i + 1) tokens) ≡ proper tokens
  token_left is = split_at true is

map_cond : (text : List ℕ) (b : Bool) (t : Token) (xs ys : List Token)
    → map (seen text) (cond b xs (t ∷ ys)) ≡ cond b (map (seen text) xs) (seen text t ∷ map (seen text) ys)
map_cond text true t xs ys = refl
map_cond text false t xs ys = refl

pub lexemes_are : (text : List ℕ) (tokens : List Token)
    → map (seen text) (proper tokens) ≡ lexemes text tokens
lexemes_are text [] = refl
lexemes_are text (t ∷ tokens) =
    map_cond text (is_line_end t.kind) t (proper tokens) (proper tokens)
    ∙ ap (λ l. cond (is_line_end t.kind) l (seen text t ∷ l)) (lexemes_are text tokens)

in_cond : (text : List ℕ) (b : Bool) (t : Token) (xs : List Token) → t.at + t.len ≤ length text
    → InText text xs → InText text (cond b xs (t ∷ xs))
in_cond text true t xs le p = p
in_cond text false t xs le p = (le, p)

pub in_text : (text : List ℕ) (low : ℕ) (tokens : List Token) → Placed low (length text) tokens
    → InText text (proper tokens)
in_text text low [] p = tt
in_text text low (t ∷ tokens) p = in_cond text (is_line_end t.kind) t (proper tokens)
    (placed_ends (t.at + t.len) (length text) tokens p.1) (in_text text (t.at + t.len) tokens p.1)

-- ---- as many tokens as bytes

le_cond : (b : Bool) (l : List Lexeme) (x : Lexeme) (n : ℕ) → length l ≤ n → length (cond b l (x ∷ l)) ≤ n + 1
le_cond true l x n h = omega (arith, h)
le_cond false l x n h = omega (arith, h)

lexemes_le : (text : List ℕ) (tokens : List Token) → length (lexemes text tokens) ≤ length tokens
lexemes_le text [] = omega arith
lexemes_le text (t ∷ tokens) = let h = le_cond (is_line_end t.kind) (lexemes text tokens) (seen text t)
    (length tokens) (lexemes_le text tokens) in omega (arith, h)

-- ---- places ascend

len_some : (text : List ℕ) (at len : ℕ) → 0 < length (slice_range text at (at + len)) → 0 < len
len_some text at len h =
    let le = length-take (at + len - at) (drop at text) in
    omega (arith, h, le)

spelled_some : (k : TokenKind) (text : List ℕ) (at len : ℕ) → IsTokenText k (slice_range text at (at + len))
    → 0 < len
spelled_some kinds.Name text at len h = len_some text at len h.some
spelled_some (kinds.Number n) text at len h = len_some text at len h.some
spelled_some (kinds.Sign s) text at len h = len_some text at len (let one = ap length h.0 in
    omega (arith, one))
spelled_some kinds.Equal text at len h = len_some text at len (let two = ap length h in omega (arith, two))
spelled_some kinds.NewLine text at len h = len_some text at len (let one = ap length h in omega (arith, one))

abbrev Ascends : List Lexeme → ℕ → Type 0
Ascends [] end = Unit {0}
Ascends (t ∷ l) end = (t.at < place_in l end) × Ascends l end

place_cond : (b : Bool) (low end : ℕ) (t : Lexeme) (l : List Lexeme) → low ≤ t.at → low ≤ place_in l end
    → low ≤ place_in (cond b l (t ∷ l)) end
place_cond true low end t l h g = g
place_cond false low end t l h g = h

places_from : (text : List ℕ) (low : ℕ) (tokens : List Token) → Placed low (length text) tokens
    → low ≤ place_in (lexemes text tokens) (length text)
places_from text low [] p = p
places_from text low (t ∷ tokens) p =
    let rest = places_from text (t.at + t.len) tokens p.1 in
    place_cond (is_line_end t.kind) low (length text) (seen text t) (lexemes text tokens) p.0
    (omega (arith, p.0, rest))

ascend_cond : (b : Bool) (end : ℕ) (t : Lexeme) (l : List Lexeme) → t.at < place_in l end → Ascends l end
    → Ascends (cond b l (t ∷ l)) end
ascend_cond true end t l lt h = h
ascend_cond false end t l lt h = (lt, h)

ascend : (text : List ℕ) (low : ℕ) (tokens : List Token) → Placed low (length text) tokens
    → All (IsSpelled text) tokens → Ascends (lexemes text tokens) (length text)
ascend text low [] p h = tt
ascend text low (t ∷ tokens) p h =
    let rest = places_from text (t.at + t.len) tokens p.1 in
    let some = spelled_some t.kind text t.at t.len (All-head (IsSpelled text) t tokens h) in
    ascend_cond (is_line_end t.kind) (length text) (seen text t) (lexemes text tokens)
    (omega (arith, rest, some))
    (ascend text (t.at + t.len) tokens p.1 (All-tail (IsSpelled text) t tokens h))

-- a token stands before what is after it
from_front : (u rest : List Lexeme) (end n : ℕ) → Ascends (u ++ rest) end → n < place_in (u ++ rest) end
    → n < place_in rest end
from_front [] rest end n h lt = lt
from_front (x ∷ u) rest end n h lt = from_front u rest end n h.1 (let next = h.0 in omega (arith, lt, next))

stands_before : (b : List Lexeme) (t : Lexeme) (u rest : List Lexeme) (end : ℕ)
    → Ascends ((b ++ t ∷ u) ++ rest) end → t.at < place_in rest end
stands_before [] t u rest end h = from_front u rest end t.at h.1 h.0
stands_before (x ∷ b) t u rest end h = stands_before b t u rest end h.1

-- ---- faults

no_limit : (e : ParseFault) (at n : ℕ) → e ≡ Expected at → limit_place e ≡ Some n → ⊥
no_limit e at n is limit = let none : None ≡ Some n = sym (ap limit_place is) ∙ limit in cc

-- ---- the bytes of tokens are those of their kinds

proper_cond : (b : Bool) (l : List Lexeme) (x : Lexeme) → IsLexeme x → All IsLexeme l
    → All IsLexeme (cond b l (x ∷ l))
proper_cond true l x h hs = hs
proper_cond false l x h hs = All-cons IsLexeme x l h hs

pub lexemes_proper : (text : List ℕ) (tokens : List Token) → All (IsSpelled text) tokens
    → All IsLexeme (lexemes text tokens)
lexemes_proper text [] h = All-nil IsLexeme
lexemes_proper text (t ∷ tokens) h =
    proper_cond (is_line_end t.kind) (lexemes text tokens) (seen text t)
    (All-head (IsSpelled text) t tokens h)
    (lexemes_proper text tokens (All-tail (IsSpelled text) t tokens h))

pub ok_tokens : (tokens others : List Token) → (let r : Result (List Token) ScanFault = Ok tokens in r) ≡ Ok
    others → tokens ≡ others
ok_tokens tokens others e = cc

-- ---- a text has no more tokens than bytes

few_cond : (b : Bool) (l : List Lexeme) (x : Lexeme) (low at len high : ℕ) → low ≤ at → 0 < len
    → at + len + length l ≤ high → low + length (cond b l (x ∷ l)) ≤ high
few_cond true l x low at len high a b h = omega (arith, a, b, h)
few_cond false l x low at len high a b h = omega (arith, a, b, h)

few_from : (text : List ℕ) (low : ℕ) (tokens : List Token) → Placed low (length text) tokens
    → All (IsSpelled text) tokens → low + length (lexemes text tokens) ≤ length text
few_from text low [] p h = omega (arith, p)
few_from text low (t ∷ tokens) p h =
    few_cond (is_line_end t.kind) (lexemes text tokens) (seen text t) low t.at t.len (length text) p.0
    (spelled_some t.kind text t.at t.len (All-head (IsSpelled text) t tokens h))
    (few_from text (t.at + t.len) tokens p.1 (All-tail (IsSpelled text) t tokens h))

pub lexemes_few : (text : List ℕ) (tokens : List Token) → Placed 0 (length text) tokens
    → All (IsSpelled text) tokens → length (lexemes text tokens) ≤ length text
lexemes_few text tokens p h = let few = few_from text 0 tokens p h in omega (arith, few)

module _ {E A S P V R M : Type 0} (T : Actions E A S P V R M) where
  passes_before : (text : List ℕ) (at : ℕ) (e : ParseFault) (n : ℕ) → limit_place e ≡ Some n → n < at
      → Passes T text e → PassesBefore T text at e
  passes_before text at (Scan s) n is lt h = absurd (let none : None ≡ Some n = is in cc)
  passes_before text at (Expected p) n is lt h = absurd (let none : None ≡ Some n = is in cc)
  passes_before text at (Range p) n is lt h = (let same = same_Some p n is in omega (arith, same, lt), h)
  passes_before text at (TooMany p) n is lt h = (let same = same_Some p n is in omega (arith, same, lt), h)
  passes_before text at NoMemory n is lt h = absurd (let none : None ≡ Some n = is in cc)

  -- a text spells one module
  pub one_module_spelled : (text : List ℕ) (m m' : M)
      → ((tokens others : List Token) → HasTokens text tokens → HasTokens text others → tokens ≡ others)
      → Spells T text m → Spells T text m' → m ≡ m'
  one_module_spelled text m m' same (tokens, has, is) (others, there, other) =
      one_module T (lexemes text tokens) m m' is (subst (λ l. IsText T (lexemes text l) m')
      (same others tokens there has) other)

  -- a text spells one module, which is what is read of it
  pub spelled_read : (text : List ℕ) (m : M) → length text ≤ full
      → ((tokens : List Token) → HasTokens text tokens → Placed 0 (length text) tokens)
      → ((tokens : List Token) → HasTokens text tokens → All (IsSpelled text) tokens)
      → ((tokens : List Token) → HasTokens text tokens → scanned text ≡ Ok tokens)
      → Spells T text m → parsed_text T text ≡ Ok m
  spelled_read text m short placed spelled scans (tokens, has, is) =
      let few = lexemes_few text tokens (placed tokens has) (spelled tokens has) in
      ap (parsed_scan T text) (scans tokens has)
      ∙ only T full (lexemes text tokens) (length text) m (omega (arith, short, few)) is

  pub spelled_proper : (text : List ℕ) (m : M)
      → ((tokens : List Token) → HasTokens text tokens → All (IsSpelled text) tokens) → Spells T text m
      → (tokens : List Lexeme) × All IsLexeme tokens × IsText T tokens m
  spelled_proper text m spelled (tokens, has, is) =
      (lexemes text tokens, lexemes_proper text tokens (spelled tokens has), is)

  -- ---- what is answered of the tokens of a text

  no_scan : {tokens : List Lexeme} (s : ScanFault) → ((at : ℕ) × (Scan s ≡ Expected at))
      ⊎ IsBeyond T tokens (Scan s) → ⊥
  no_scan s = elim [
    | inl (at, e) ↦ absurd cc
    | inr beyond ↦ (let none : None ≡ Some beyond.token.at = beyond.there in absurd cc)
  ]

  answer_ok : (result read : Result M ParseFault) (m : M)
      → AnswersAs (λ m. m) result read → read ≡ Ok m → IsOkAnd result (λ v. v ≡ m) ⊎ (result ≡ Err NoMemory)
  answer_ok (Ok x) read m e is = inl (let same : Ok x ≡ Ok m = sym e ∙ is in cc)
  answer_ok (Err (Scan s)) read m e is = absurd (let same : Err (Scan s) ≡ Ok m = sym e ∙ is in cc)
  answer_ok (Err (Expected at)) read m e is = absurd (let same : Err (Expected at) ≡ Ok m = sym e ∙ is in cc)
  answer_ok (Err (Range at)) read m e is = absurd (let same : Err (Range at) ≡ Ok m = sym e ∙ is in cc)
  answer_ok (Err (TooMany at)) read m e is = absurd (let same : Err (TooMany at) ≡ Ok m = sym e ∙ is in cc)
  answer_ok (Err NoMemory) read m e is = inr refl

  answer_err : (result read : Result M ParseFault) (f : ParseFault) → AnswersAs (λ m. m) result read
      → read ≡ Err f → (result ≡ Err f) ⊎ (result ≡ Err NoMemory)
  answer_err (Ok x) read f e is = absurd (let same : Ok x ≡ Err f = sym e ∙ is in cc)
  answer_err (Err (Scan s)) read f e is = inl (sym e ∙ is)
  answer_err (Err (Expected at)) read f e is = inl (sym e ∙ is)
  answer_err (Err (Range at)) read f e is = inl (sym e ∙ is)
  answer_err (Err (TooMany at)) read f e is = inl (sym e ∙ is)
  answer_err (Err NoMemory) read f e is = inr refl

  module _ (text : List ℕ) (tokens : List Token) (has : HasTokens text tokens) (short : length tokens ≤ full)
    where
      few : length (lexemes text tokens) ≤ full
      few = let le = lexemes_le text tokens in omega (arith, le, short)

      passed : (e : ParseFault) (n : ℕ) → limit_place e ≡ Some n → parsed T full (lexemes text tokens)
          (length text) ≡ Err e → Passes T text e
      passed e n limit is = elim (fault_is T full (lexemes text tokens) (length text) e few is) [
        | inl (at, same) ↦ absurd (no_limit e at n same limit)
        | inr beyond ↦ (tokens, has, beyond)
      ]

      fault_found : (f : ParseFault) → Fails f (parsed T full (lexemes text tokens) (length text))
          → IsFault T text f
      fault_found (Scan s) e =
          absurd (no_scan s (fault_is T full (lexemes text tokens) (length text) (Scan s) few e))
      fault_found (Expected at) e =
          (tokens, has, expected_is T full (lexemes text tokens) (length text) at e)
      fault_found (Range at) e = passed (Range at) at refl e
      fault_found (TooMany at) e = passed (TooMany at) at refl e
      fault_found NoMemory e = tt

      pub answer_found : (result : Result M ParseFault) → AnswersAs (λ m. m) result
          (parsed T full (lexemes text tokens) (length text)) → IfOk result (Spells T text)
      answer_found (Ok m) e = (tokens, has, found T full (lexemes text tokens) (length text) m e)
      answer_found (Err f) e = tt

      pub answer_fails : (result : Result M ParseFault) → AnswersAs (λ m. m) result
          (parsed T full (lexemes text tokens) (length text)) → IfErr result (IsFault T text)
      answer_fails (Ok m) e = tt
      answer_fails (Err f) e = fault_found f e

      -- these are the text's tokens
      module _ (one : (others : List Token) → HasTokens text others → tokens ≡ others) where
        pub answer_only : (result : Result M ParseFault) → AnswersAs (λ m. m) result
            (parsed T full (lexemes text tokens) (length text)) → (m : M) → Spells T text m
            → IsOkAnd result (λ v. v ≡ m) ⊎ (result ≡ Err NoMemory)
        answer_only result e m (others, there, is) =
            answer_ok result (parsed T full (lexemes text tokens) (length text)) m e
            (only T full (lexemes text tokens) (length text) m few
            (subst (λ l. IsText T (lexemes text l) m) (sym (one others there)) is))

        module _ (placed : Placed 0 (length text) tokens) (spelled : All (IsSpelled text) tokens) where
          before : (at : ℕ) (stop : IsExpected T (lexemes text tokens) (length text) at)
              (e : ParseFault) → parsed T full (lexemes text tokens) (length text) ≡ Err e
              → StandsIn stop.before e → PassesBefore T text at e
          before at stop e is (front, t, behind, parts, limit) =
              let whole : lexemes text tokens ≡ (front ++ t ∷ behind) ++ stop.rest = stop.parts
              ∙ ap (λ l. l ++ stop.rest) parts in
              let ascends = subst (λ l. Ascends l (length text)) whole
              (ascend text 0 tokens placed spelled) in
              let lt = stands_before front t behind stop.rest (length text) ascends in
              let place = stop.there in
              passes_before text at e t.at limit (omega (arith, lt, place)) (passed e t.at limit is)

          pub answer_stops : (result : Result M ParseFault) → AnswersAs (λ m. m) result
              (parsed T full (lexemes text tokens) (length text)) → (at : ℕ) → Stops T text at
              → (result ≡ Err (Expected at))
              ⊎ (((fault : ParseFault) × (result ≡ Err fault) × PassesBefore T text at fault)
              ⊎ (result ≡ Err NoMemory))
          answer_stops result e at (others, there, other) =
              let stop = subst (λ l. IsExpected T (lexemes text l) (length text) at)
              (sym (one others there)) other in
              elim (told T full (lexemes text tokens) (length text) at few stop) [
                | inl is ↦ elim (answer_err result (parsed T full (lexemes text tokens) (length text))
                    (Expected at) e is) [ inl same ↦ inl same | inr none ↦ inr (inr none) ]
                | inr (fault, is, stands) ↦ elim (answer_err result
                    (parsed T full (lexemes text tokens) (length text)) fault e is) [
                      | inl same ↦ inr (inl (fault, same, before at stop fault is stands))
                      | inr none ↦ inr
                          (inr none)
                    ]
              ]

-- ---- what is read is spelled

pub read_spelled : {E A S P V R M : Type 0} (T : Actions E A S P V R M) (text : List ℕ) (m : M)
    → ((tokens : List Token) → scanned text ≡ Ok tokens → HasTokens text tokens)
    → (r : Result (List Token) ScanFault) → scanned text ≡ r → parsed_scan T text r ≡ Ok m → Spells T text m
read_spelled T text m has (Ok tokens) s e =
    (tokens, has tokens s, found T full (lexemes text tokens) (length text) m e)
read_spelled T text m has (Err f) s e = absurd (cc)
