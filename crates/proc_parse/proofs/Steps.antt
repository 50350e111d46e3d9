-- One item more, in loops that read lists.
use Rattle.std.proofs.Common.{◌≡◌, Bool, true, false, ℕ, zero, suc, ◌+◌, ◌-◌, ◌≤◌, ◌<◌, ◌^◌, List, []}
use Rattle.std.proofs.Common.{◌∷◌, ◌++◌, length, Option, Some, None, Result, Ok, Err, refl, sym, ap, subst}
use Rattle.std.proofs.Common.{◌∙◌, append_assoc, arith, length-append, append-nil}
use Rattle.std.proofs.lemmas.Bool.{lt-ltb}
use Rattle.std.specs.Prelude.{nat_lt, is_some, IfOk, IfErr}
use Rattle.proc_language.specs.declared.TheConstants.{MOST_TERMS, MOST_REGISTERS}
use Rattle.proc_language.specs.declared.tree.Name.{Name}
use Rattle.proc_language.specs.declared.tree.Op.{Op}
use Rattle.readers.specs.Readers.{◌>>=◌, goes_on, done, holds}
use Rattle.phrases.specs.Reading.{next_means, meant_in, behind, is_there, going, case_next}
use Rattle.phrases.specs.Reading as readers
use Rattle.phrases.proofs.Offers.{many_stop, many_go, more_behind}
use Rattle.proc_grammar.specs.declared.fault.ParseFault.{ParseFault}
use Rattle.proc_grammar.specs.declared.fault.ParseFault.TheVariants.{Scan, Expected, Range, TooMany, NoMemory}
use Rattle.proc_grammar.specs.Fault.{Fails}
use Rattle.proc_grammar.specs.Lexemes.{Meaning, adding, sign, square, round, end_round, end_square}
use Rattle.proc_grammar.specs.Lexemes.{curly, end_curly}
use Rattle.proc_grammar.specs.Lexemes.{Lexeme, word, token_word, words_of}
use Rattle.proc_grammar.specs.Makes.{Actions}
use Rattle.proc_grammar.specs.Grammar.{one_more, operated, sum_of}
use Rattle.proc_grammar.specs.Reader.{Input, Reader, tells, many, one, expected, case_token}
use Rattle.proc_grammar.specs.Reading.{full, another_term, next_term, inner_expr, next_expr, expr_with}
use Rattle.proc_grammar.specs.Reading.{next_index, next_args, behind_name, of_index, of_call, next_stmts}
use Rattle.proc_grammar.specs.Reading.{next_block, next_sum, next_name, name_term, some_args, arg_value}
use Rattle.proc_grammar.specs.Reading.{stmts_with, inner_stmts}
use Rattle.proc_parse.specs.Answers.{GivesAs, Gives, left_by}
use Rattle.proc_parse.specs.Loops.{with_front, in_all, item_on, behind_some, listed}
use Rattle.proc_parse.specs.Loops.{terms_behind, bracketed}
use Rattle.proc_parse.specs.Parts.{fitting_name}

pub large : 600 ≤ full
unfolding full
large = omega arith

pub full_is : full ≡ 2 ^ 64
unfolding full
full_is = refl

-- fewer than a word holds
pub below_full : (n : ℕ) → n < 2 ^ 64 → n ≤ full
unfolding full
below_full n few = omega (arith, few)

-- what lies in memory is fewer
pub stored_few : {n len cap : ℕ} → (len ≡ n) × (len ≤ cap) → cap < 2 ^ 63 → n < full
unfolding full
stored_few ok small = omega (arith, ok.0, ok.1, small)

pub fails_map : {A B : Type 0} (f : ParseFault) (read : Result A ParseFault) (all : Result B ParseFault)
    → (read ≡ Err f → all ≡ Err f) → Fails f read → Fails f all
fails_map (Scan s) read all h e = h e
fails_map (Expected at) read all h e = h e
fails_map (Range at) read all h e = h e
fails_map (TooMany at) read all h e = h e
fails_map NoMemory read all h e = tt

-- ---- one reader after another

-- the first was read
pub read_on : {A B : Type 0} {q : Result (A × Input) ParseFault} (f : A → Reader B)
    {all : Result (B × Input) ParseFault} {x : A} {j : Input} → all ≡ goes_on q f → q ≡ Ok (x, j)
    → all ≡ f x j
read_on f first reads = first ∙ ap (λ p. goes_on p f) reads

-- it wasn't
pub fails_on : {A B : Type 0} (q : Result (A × Input) ParseFault) (f : A → Reader B)
    {all : Result (B × Input) ParseFault} (e : ParseFault) → all ≡ goes_on q f → Fails e q → Fails e all
fails_on q f {all} e first fails = fails_map e q all (λ h. first ∙ ap (λ p. goes_on p f) h) fails

-- one reader in a part, and then what the rest of the part and of the whole is
pub within : {A B C : Type 0} (q : Result (A × Input) ParseFault) (f : A → Reader B) (g : B → Reader C)
    {h : A → Reader C} → ((x : A) (i : Input) → goes_on (f x i) g ≡ h x i) → goes_on (goes_on q f) g ≡
    goes_on q h
within (Ok x) f g e = e x.0 x.1
within (Err d) f g e = refl

-- a part by itself is tested as it is before what follows
pub fit_by : {A B : Type 0} (q : Result (A × Input) ParseFault) (fits : Bool) (fault : A → ParseFault)
    (f : A → Reader B) → goes_on q (λ x. holds fits (fault x) >>= λ u. f x)
    ≡ goes_on (goes_on q (λ x. holds fits (fault x) >>= λ u. done x)) f
fit_by (Ok x) true fault f = refl
fit_by (Ok x) false fault f = refl
fit_by (Err d) fits fault f = refl

-- ---- words that stand only where there are tokens

no_word_is : (K : Type 0) (w : List ℕ) (rest : List Lexeme) → meant_in (token_word {K = K} None w) rest ≡ None
no_word_is K w [] = refl
no_word_is K w (t ∷ rest) = refl

some_word_is : {K : Type 0} (k : K) (w : List ℕ) (rest : List Lexeme) → meant_in (token_word (Some k) w) rest
    ≡ meant_in (word w) rest
some_word_is k w [] = refl
some_word_is k w (t ∷ rest) = refl

none_not_some : (m : Option ℕ) (at : ℕ) → m ≡ None → m ≡ Some at → ⊥
none_not_some m at e h = absurd cc

module _ {K X A : Type 0} (w : List ℕ) (f : K → ℕ → Reader A) (r : Reader A) (i : Input) (view : X → A)
    (answer : Result X ParseFault) (left : Input) where
  -- the word stands there
  pub of_token : (tokens : Option K) (at : ℕ) (j : Input) → next_means (token_word tokens w) i ≡ Some at
      → j ≡ behind i → ((k : K) → tokens ≡ Some k → GivesAs view answer left (f k at j))
      → GivesAs view answer left (case_token tokens w f r i)
  unfolding case_next
  of_token None at j e same h = absurd (none_not_some _ at (no_word_is K w i.rest) e)
  of_token (Some k) at j e same h =
      subst (GivesAs view answer left) (sym (ap (λ m. going m (f k) r i) (sym (some_word_is k w i.rest) ∙ e)))
      (subst (λ x. GivesAs view answer left (f k at x)) same (h k refl))

  -- it doesn't
  pub of_none : (tokens : Option K) (j : Input) → next_means (token_word tokens w) i ≡ None → j ≡ i
      → GivesAs view answer left (r j) → GivesAs view answer left (case_token tokens w f r i)
  unfolding case_next
  of_none None j e same h = subst (λ x. GivesAs view answer left (r x)) same h
  of_none (Some k) j e same h =
      subst (GivesAs view answer left) (sym (ap (λ m. going m (f k) r i) (sym (some_word_is k w i.rest) ∙ e)))
      (subst (λ x. GivesAs view answer left (r x)) same h)

-- how a word of tokens stands next
pub token_word_there : {K : Type 0} (tokens : Option K) (w : List ℕ) (i : Input) → is_some tokens ≡ true
    → next_means (token_word tokens w) i ≡ next_means (word w) i
token_word_there None w i e = absurd cc
token_word_there (Some k) w i e = some_word_is k w i.rest

pub token_word_nowhere : {K : Type 0} (tokens : Option K) (w : List ℕ) (i : Input) → is_some tokens ≡ false
    → next_means (token_word tokens w) i ≡ None
token_word_nowhere {K} None w i e = no_word_is K w i.rest
token_word_nowhere (Some k) w i e = absurd cc

module _ {A B : Type 0} (m : Meaning A) (f : A → Reader B) (r : Reader B) (i k : Input) where
  -- how it goes on after a token that is there
  pub case_there : (x : A) → next_means m i ≡ Some x → k ≡ behind i → case_next m f r i ≡ f x k
  unfolding case_next
  case_there x there left = ap (λ q. going q f r i) there ∙ ap (f x) (sym left)

  -- and where it isn't there
  pub case_none : next_means m i ≡ None → k ≡ i → case_next m f r i ≡ r k
  unfolding case_next
  case_none none same = ap (λ q. going q f r i) none ∙ ap r (sym same)

-- how it goes on after a token that was taken, whatever it is, and where it wasn't
module _ {A B : Type 0} (m : Meaning A) (f r : Reader B) (i k : Input) where
  pub case_taken : (o : Option A) → o ≡ next_means m i → is_some o ≡ true → k ≡ left_by o i
      → case_next m (λ x. f) r i ≡ f k
  case_taken None means is left = absurd cc
  case_taken (Some x) means is left = case_there m (λ y. f) r i k x (sym means) left

  pub case_left : (o : Option A) → o ≡ next_means m i → is_some o ≡ false → k ≡ left_by o i
      → case_next m (λ x. f) r i ≡ r k
  case_left None means is left = case_none m (λ y. f) r i k (sym means) left
  case_left (Some x) means is left = absurd cc

-- what was made, unless memory was refused
pub unless_refused : {A : Type 0} (made : Result A ParseFault) (x : A) (left : Input)
    (read : Result (A × Input) ParseFault) → IfOk made (λ y. y ≡ x) → IfErr made (λ e. e ≡ NoMemory)
    → read ≡ Ok (x, left) → Gives made left read
unless_refused (Ok y) x left read is fails reads = reads ∙ ap (λ z. Ok (z, left)) (sym is)
unless_refused (Err e) x left read is fails reads = subst (λ f. Fails f read) (sym fails) tt

-- what goes on after a token, where it was taken, and where it wasn't
module _ {A B : Type 0} (m : Meaning A) (i k : Input) where
  pub was_taken : (o : Option A) → o ≡ next_means m i → is_some o ≡ true → k ≡ left_by o i
      → (is_there (next_means m i) ≡ true) × ((g : Reader B) → (one m >>= λ z. g) i ≡ g k)
  unfolding readers.one case_next
  was_taken None means is left = absurd cc
  was_taken (Some x) means is left = (
    ap is_there (sym means),
    λ g. ap (λ q. goes_on (going q done expected i) (λ z. g)) (sym means) ∙ ap g (sym left),
  )

pub was_left : {A : Type 0} (m : Meaning A) (i k : Input) (o : Option A) → o ≡ next_means m i
    → is_some o ≡ false → k ≡ left_by o i → (is_there (next_means m i) ≡ false) × (k ≡ i)
was_left m i k None means is left = (ap is_there (sym means), left)
was_left m i k (Some x) means is left = absurd cc

-- ---- lists

module _ {Q A B : Type 0} (begins : Meaning B) (next : Q → A → Q) (r : Q → Reader A) where
  front_of : (front : List A) (x : A) (read : Result (List A × Input) ParseFault)
      → with_front front (goes_on read (λ xs. done (x ∷ xs))) ≡ with_front (front ++ x ∷ []) read
  unfolding with_front
  front_of front x (Ok y) = ap (λ l. Ok (l, y.1)) (sym (append_assoc front (x ∷ []) y.0))
  front_of front x (Err e) = refl

  front_go : (n : ℕ) (q : Q) (front : List A) (i : Input) (x : A) (j : Input)
      → is_there (next_means begins i) ≡ true → r q i ≡ Ok (x, j)
      → with_front front (many (suc n) begins next r q i) ≡ with_front (front ++ x ∷ [])
      (many n begins next r (next q x) j)
  unfolding more_behind
  front_go n q front i x j there e =
      ap (with_front front) (many_go tells begins next r n q i there
      ∙ ap (λ p. goes_on p (more_behind tells begins next r n q)) e)
      ∙ front_of front x (many n begins next r (next q x) j)

  front_end : (n : ℕ) (q : Q) (front : List A) (i : Input) → is_there (next_means begins i) ≡ false
      → with_front front (many n begins next r q i) ≡ Ok (front, i)
  unfolding with_front
  front_end n q front i none = ap (λ p. goes_on p (λ xs. done (front ++ xs)))
      (many_stop tells begins next r n q i none) ∙ ap (λ l. Ok (l, i)) (append-nil front)

  front_fail : (n : ℕ) (q : Q) (front : List A) (i : Input) (e : ParseFault)
      → is_there (next_means begins i) ≡ true → r q i ≡ Err e
      → with_front front (many (suc n) begins next r q i) ≡ Err e
  unfolding with_front
  front_fail n q front i e there h =
      ap (λ p. goes_on p (λ xs. done (front ++ xs))) (many_go tells begins next r n q i there
      ∙ ap (λ p. goes_on p (more_behind tells begins next r n q)) h)

  -- one item more
  pub all_step : (n : ℕ) (front : List A) (q : Q) (i : Input) (x : A) (j : Input)
      (all : Result (List A × Input) ParseFault) (v : List A) (w : Q)
      → in_all begins next r n front q i ≡ all → length front < n
      → is_there (next_means begins i) ≡ true → r q i ≡ Ok (x, j) → v ≡ front ++ x ∷ [] → w ≡ next q x
      → in_all begins next r n v w j ≡ all
  unfolding in_all
  all_step n front q i x j all v w told few there reads whole takes =
      let len : length v ≡ length front + 1 = ap length whole ∙ length-append front (x ∷ []) in
      let more : n - length front ≡ suc (n - length v) = omega (arith, few, len) in
      ap (λ l. with_front l (many (n - length v) begins next r w j)) whole
      ∙ ap (λ u. with_front (front ++ x ∷ []) (many (n - length v) begins next r u j)) takes
      ∙ sym (front_go (n - length v) q front i x j there reads)
      ∙ ap (λ m. with_front front (many m begins next r q i)) (sym more) ∙ told

  -- an item that isn't one
  pub all_fault : (n : ℕ) (front : List A) (q : Q) (i : Input) (f : ParseFault)
      (all : Result (List A × Input) ParseFault) → in_all begins next r n front q i ≡ all → length front < n
      → is_there (next_means begins i) ≡ true → Fails f (r q i) → Fails f all
  unfolding in_all
  all_fault n front q i f all told few there fails =
      let more : n - length front ≡ suc (n - length front - 1) = omega (arith, few) in
      fails_map f (r q i) all (λ e. sym told ∙ ap (λ m. with_front front (many m begins next r q i)) more
      ∙ front_fail (n - length front - 1) q front i f there e) fails

  -- no item more
  pub all_end : (n : ℕ) (front : List A) (q : Q) (i : Input) (all : Result (List A × Input) ParseFault)
      → in_all begins next r n front q i ≡ all → is_there (next_means begins i) ≡ false → all ≡ Ok (front, i)
  unfolding in_all
  all_end n front q i all told none = sym told ∙ front_end (n - length front) q front i none

  front_none : (read : Result (List A × Input) ParseFault) → with_front [] read ≡ read
  unfolding with_front
  front_none (Ok y) = refl
  front_none (Err f) = refl

  -- none yet
  pub all_begin : (n : ℕ) (q : Q) (i : Input) (v : List A) → v ≡ []
      → in_all begins next r n v q i ≡ many n begins next r q i
  unfolding in_all
  all_begin n q i v none =
      let more : n - 0 ≡ n = omega arith in
      ap (λ l. with_front l (many (n - length l) begins next r q i)) none
      ∙ ap (λ m. with_front [] (many m begins next r q i)) more
      ∙ front_none (many n begins next r q i)

  -- ---- from the first one on

  module _ (item : Q → Reader A) where
    -- none yet
    some_none : (q : Q) (i : Input) → behind_some begins next r item [] q i ≡ item_on begins next r item full
        q i
    unfolding behind_some
    some_none q i =
        let more : full - 0 ≡ full = omega arith in
        ap (λ m. with_front [] (item_on begins next r item m q i)) more
        ∙ front_none (item_on begins next r item full q i)

    -- the beginning of a loop
    pub some_begin : (v : List A) (w q : Q) (i : Input) → v ≡ [] → w ≡ q
        → behind_some begins next r item v w i ≡ item_on begins next r item full q i
    some_begin v w q i none same =
        ap (λ l. behind_some begins next r item l w i) none
        ∙ ap (λ u. behind_some begins next r item [] u i) same ∙ some_none q i

    -- one item more, and another stands next
    pub some_step : (front : List A) (q : Q) (i : Input) (x : A) (j k : Input)
        (all : Result (List A × Input) ParseFault) (v : List A) (w : Q)
        → behind_some begins next r item front q i ≡ all → length front < full → item q i ≡ Ok (x, j)
        → is_there (next_means begins j) ≡ true → ((u : Q) → r u j ≡ item u k)
        → v ≡ front ++ x ∷ [] → w ≡ next q x → behind_some begins next r item v w k ≡ all
    unfolding behind_some item_on more_behind
    some_step front q i x j k all v w told few reads there same whole takes =
        let len : length v ≡ length front + 1 = ap length whole ∙ length-append front (x ∷ []) in
        let more : full - length front ≡ suc (full - length v) = omega (arith, few, len) in
        let m = full - length v in
        ap (λ l. with_front l (item_on begins next r item m w k)) whole
        ∙ ap (λ u. with_front (front ++ x ∷ []) (item_on begins next r item m u k)) takes
        ∙ ap (λ p. with_front (front ++ x ∷ []) (goes_on p (more_behind tells begins next r m (next q x))))
        (sym (same (next q x)))
        ∙ ap (with_front (front ++ x ∷ [])) (sym (many_go tells begins next r m (next q x) j there))
        ∙ sym (front_of front x (many (suc m) begins next r (next q x) j))
        ∙ ap (λ p. with_front front (goes_on p (more_behind tells begins next r (suc m) q))) (sym reads)
        ∙ ap (λ n. with_front front (item_on begins next r item n q i)) (sym more) ∙ told

    -- an item that isn't one
    pub some_fault : (front : List A) (q : Q) (i : Input) (f : ParseFault)
        (all : Result (List A × Input) ParseFault) → behind_some begins next r item front q i ≡ all
        → Fails f (item q i) → Fails f all
    unfolding behind_some item_on with_front more_behind
    some_fault front q i f all told fails = fails_map f (item q i) all (λ e. sym told
        ∙ ap (λ p. with_front front (goes_on p (more_behind tells begins next r (full - length front) q))) e)
        fails

    -- the last item
    pub some_end : (front : List A) (q : Q) (i : Input) (x : A) (j : Input)
        (all : Result (List A × Input) ParseFault) (v : List A)
        → behind_some begins next r item front q i ≡ all → item q i ≡ Ok (x, j)
        → is_there (next_means begins j) ≡ false → v ≡ front ++ x ∷ [] → all ≡ Ok (v, j)
    unfolding behind_some item_on more_behind
    some_end front q i x j all v told reads none whole =
        let m = full - length front in
        sym told ∙ ap (λ p. with_front front (goes_on p (more_behind tells begins next r m q))) reads
        ∙ front_of front x (many m begins next r (next q x) j)
        ∙ front_end m (next q x) (front ++ x ∷ []) j none ∙ ap (λ l. Ok (l, j)) (sym whole)

    -- ---- up to the closing bracket

    close : List A → Reader (List A)
    close w = one (sign end_round) >>= λ z. done w

    closed_by : (x : A) (read : Result (List A × Input) ParseFault) → goes_on read (λ xs. close (x ∷ xs))
        ≡ goes_on (goes_on read (λ xs. done (x ∷ xs))) close
    closed_by x (Ok y) = refl
    closed_by x (Err e) = refl

    listed_by : (q : Q) (read : Result (A × Input) ParseFault)
        → goes_on read (λ x. many full begins next r (next q x) >>= λ xs. close (x ∷ xs))
        ≡ goes_on (goes_on read (λ x. many full begins next r (next q x) >>= λ xs. done (x ∷ xs))) close
    listed_by q (Ok y) = closed_by y.0 (many full begins next r (next q y.0) y.1)
    listed_by q (Err e) = refl

    listed_is : (q : Q) (i : Input) → listed begins next r item q i
        ≡ goes_on (item_on begins next r item full q i) close
    unfolding item_on close
    listed_is q i = listed_by q (item q i)

    pub listed_fault : (q : Q) (i : Input) (f : ParseFault)
        → Fails f (item_on begins next r item full q i) → Fails f (listed begins next r item q i)
    listed_fault q i f fails = fails_map f (item_on begins next r item full q i) (listed begins next r item q
        i)
        (λ e. listed_is q i ∙ ap (λ p. goes_on p close) e) fails

    -- the last item of a loop was read, and no other stands next
    module _ (q0 : Q) (i0 : Input) (front : List A) (q : Q) (i : Input) (x : A) (j k : Input) (o : Option B)
        (v : List A) (told : behind_some begins next r item front q i ≡ item_on begins next r item full
        q0 i0)
        (reads : item q i ≡ Ok (x, j)) (means : o ≡ next_means begins j) (none : is_some o ≡ false)
        (left : k ≡ left_by o j) (whole : v ≡ front ++ x ∷ []) where
      ended : (item_on begins next r item full q0 i0 ≡ Ok (v, j)) × (k ≡ j)
      ended =
          let stays = was_left begins j k o means none left in (
            some_end front q i x j (item_on begins next r item full q0 i0) v told reads stays.0 whole,
            stays.1,
          )

      pub listed_open : (f : ParseFault) → Fails f (one (sign end_round) k)
          → Fails f (listed begins next r item q0 i0)
      unfolding close
      listed_open f fails =
          fails_map f (one (sign end_round) k) (listed begins next r item q0 i0) (λ e. listed_is q0 i0
          ∙ ap (λ p. goes_on p close) ended.0
          ∙ ap (λ p. goes_on p (λ z. done v)) (ap (one (sign end_round)) (sym ended.1) ∙ e)) fails

      pub listed_shut : (l : Input) (u : ℕ) → one (sign end_round) k ≡ Ok (u, l)
          → listed begins next r item q0 i0 ≡ Ok (v, l)
      unfolding close
      listed_shut l u closes = listed_is q0 i0 ∙ ap (λ p. goes_on p close) ended.0
          ∙ ap (λ p. goes_on p (λ z. done v)) (ap (one (sign end_round)) (sym ended.1) ∙ closes)

-- a bracket may be opened
opens : (room : ℕ) → 0 < room → nat_lt 0 room ≡ true
opens room lt = lt-ltb 0 room lt

module _ {E A S P V R M : Type 0} (T : Actions E A S P V R M) where
  -- ---- brackets

  pub of_room : (n : ℕ) (fits : Bool) (i : Input) → next_expr T true full n fits i ≡ expr_with
      T true full n (inner_expr T true full n) fits i
  of_room zero fits i = refl
  of_room (suc n) fits i = refl

  pub inner_is : (room : ℕ) (fits : Bool) (i : Input) → 0 < room
      → inner_expr T true full room fits i ≡ expr_with T true full (room - 1)
      (inner_expr T true full (room - 1)) fits i
  inner_is zero fits i lt = absurd (omega (arith, lt))
  inner_is (suc n) fits i lt =
      let same : suc n - 1 ≡ n = omega arith in
      subst (λ m. next_expr T true full n fits i ≡ expr_with T true full m
      (inner_expr T true full m) fits i) (sym same) (of_room n fits i)

  pub of_block : (n : ℕ) (i : Input) → next_stmts T true full n i ≡ stmts_with T true full
      n (inner_stmts T true full n) i
  of_block zero i = refl
  of_block (suc n) i = refl

  pub inner_stmts_is : (room : ℕ) (i : Input) → 0 < room
      → inner_stmts T true full room i ≡ stmts_with T true full (room - 1)
      (inner_stmts T true full (room - 1)) i
  inner_stmts_is zero i lt = absurd (omega (arith, lt))
  inner_stmts_is (suc n) i lt =
      let same : suc n - 1 ≡ n = omega arith in
      subst (λ m. next_stmts T true full n i ≡ stmts_with T true full m
      (inner_stmts T true full m) i) (sym same) (of_block n i)

  module _ (room : ℕ) (i j : Input) (at : ℕ) (opened : one (sign curly) i ≡ Ok (at, j)) (lt : 0 < room) where
    in_block : next_block T true full room (inner_stmts T true full room) i ≡ goes_on (stmts_with T true full
        (room - 1) (inner_stmts T true full (room - 1)) j)
        (λ body. one (sign end_curly) >>= λ end. done (body, end))
    unfolding next_block
    in_block =
        let rest = λ (body : List S). one (sign end_curly) >>= λ end. done (body, end) in
        ap (λ q. goes_on q (λ at. holds (nat_lt 0 room) (TooMany at) >>= λ u. inner_stmts T true full room
        >>= rest)) opened
        ∙ ap (λ b. goes_on (holds b (TooMany at) j) (λ u. inner_stmts T true full room >>= rest)) (opens room
        lt)
        ∙ ap (λ q. goes_on q rest) (inner_stmts_is room j lt)

    pub block_bad : (f : ParseFault) → Fails f (stmts_with T true full (room - 1)
        (inner_stmts T true full (room - 1)) j)
        → Fails f (next_block T true full room (inner_stmts T true full room) i)
    block_bad f fails = fails_map f (stmts_with T true full (room - 1)
        (inner_stmts T true full (room - 1)) j) _ (λ h. in_block
        ∙ ap (λ q. goes_on q (λ body. one (sign end_curly) >>= λ end. done (body, end))) h) fails

    pub block_open : (body : List S) (k : Input) (f : ParseFault) → stmts_with T true full (room - 1)
        (inner_stmts T true full (room - 1)) j ≡ Ok (body, k) → Fails f (one (sign end_curly) k)
        → Fails f (next_block T true full room (inner_stmts T true full room) i)
    block_open body k f reads fails = fails_map f (one (sign end_curly) k) _ (λ h. in_block
        ∙ ap (λ q. goes_on q (λ body. one (sign end_curly) >>= λ end. done (body, end))) reads
        ∙ ap (λ q. goes_on q (λ end. done (body, end))) h) fails

    pub block_shut : (body : List S) (k l : Input) (end : ℕ) → stmts_with T true full (room - 1)
        (inner_stmts T true full (room - 1)) j ≡ Ok (body, k) → one (sign end_curly) k ≡ Ok (end, l)
        → next_block T true full room (inner_stmts T true full room) i ≡ Ok ((body, end), l)
    block_shut body k l end reads closes = in_block
        ∙ ap (λ q. goes_on q (λ body. one (sign end_curly) >>= λ end. done (body, end))) reads
        ∙ ap (λ q. goes_on q (λ end. done (body, end))) closes

  -- ---- sums

  terms_as : (room n count : ℕ) (sum : E) (i : Input) → terms_behind T room n count sum i ≡ goes_on
      (many n adding one_more (another_term T true full room (inner_expr T true full room))
      count i) (λ others. done (sum_of T sum others))
  unfolding terms_behind
  terms_as room n count sum i = refl

  folded : (sum : E) (o : Op) (e : E) (read : Result (List (Op × E) × Input) ParseFault)
      → goes_on (goes_on read (λ xs. done ((o, e) ∷ xs))) (λ others. done (sum_of T sum others)) ≡
      goes_on read (λ others. done (sum_of T (operated T o sum e) others))
  folded sum o e (Ok y) = refl
  folded sum o e (Err f) = refl

  pub terms_end : (room n count : ℕ) (sum : E) (i : Input) → next_means adding i ≡ None
      → terms_behind T room n count sum i ≡ Ok (sum, i)
  unfolding terms_behind
  terms_end room n count sum i none = ap (λ q. goes_on q (λ others. done (sum_of T sum others)))
      (many_stop tells adding one_more
      (another_term T true full room (inner_expr T true full room)) n count i
      (ap is_there none))

  -- one term more
  pub terms_go : (room n count : ℕ) (sum : E) (i : Input) (o : Op) (e : E) (j : Input)
      → next_means adding i ≡ Some o
      → next_term T true full room (inner_expr T true full room) (nat_lt count MOST_TERMS)
      (behind i) ≡ Ok (e, j)
      → terms_behind T room (suc n) count sum i ≡ terms_behind T room n (count + 1) (operated T o sum e) j
  unfolding terms_behind another_term readers.one case_next more_behind
  terms_go room n count sum i o e j adds reads =
      let r : ℕ → Reader (Op × E) = another_term T true full room
      (inner_expr T true full room) in
      let item : r count i ≡ Ok ((o, e), j) =
      ap (λ q. goes_on (going q done expected i)
      (λ p. next_term T true full room (inner_expr T true full room)
      (nat_lt count MOST_TERMS) >>= λ x. done (p, x))) adds
      ∙ ap (λ q. goes_on q (λ x. done (o, x))) reads in
      ap (λ q. goes_on q (λ others. done (sum_of T sum others)))
      (many_go tells adding one_more r n count i (ap is_there adds)
      ∙ ap (λ q. goes_on q (more_behind tells adding one_more r n count)) item)
      ∙ folded sum o e (many n adding one_more r (count + 1) j)

  -- the loop's step, exit and fault
  pub terms_step : (room count : ℕ) (sum : E) (i k : Input) (o : Op) (e : E) (j : Input)
      (all : Result (E × Input) ParseFault) → terms_behind T room (full + 1 - count) count sum i ≡ all
      → 1 ≤ count → count ≤ 64
      → next_means adding i ≡ Some o → k ≡ behind i → next_term T true full room
      (inner_expr T true full room) (nat_lt count MOST_TERMS) k ≡ Ok (e, j)
      → terms_behind T room (full + 1 - (count + 1)) (count + 1) (operated T o sum e) j ≡ all
  terms_step room count sum i k o e j all told some few adds left reads =
      let n : full + 1 - count ≡ suc (full + 1 - (count + 1)) = omega (arith, large, some, few) in
      sym (terms_go room (full + 1 - (count + 1)) count sum i o e j adds
      (ap (next_term T true full room (inner_expr T true full room)
      (nat_lt count MOST_TERMS)) (sym left) ∙ reads))
      ∙ ap (λ m. terms_behind T room m count sum i) (sym n) ∙ told

  terms_bad : (room n count : ℕ) (sum : E) (i : Input) (o : Op) (f : ParseFault)
      → next_means adding i ≡ Some o
      → next_term T true full room (inner_expr T true full room) (nat_lt count MOST_TERMS)
      (behind i) ≡ Err f
      → terms_behind T room (suc n) count sum i ≡ Err f
  unfolding terms_behind another_term readers.one case_next more_behind
  terms_bad room n count sum i o f adds reads =
      let r : ℕ → Reader (Op × E) = another_term T true full room
      (inner_expr T true full room) in
      let item : r count i ≡ Err f =
      ap (λ q. goes_on (going q done expected i)
      (λ p. next_term T true full room (inner_expr T true full room)
      (nat_lt count MOST_TERMS) >>= λ x. done (p, x))) adds
      ∙ ap (λ q. goes_on q (λ x. done (o, x))) reads in
      ap (λ q. goes_on q (λ others. done (sum_of T sum others)))
      (many_go tells adding one_more r n count i (ap is_there adds)
      ∙ ap (λ q. goes_on q (more_behind tells adding one_more r n count)) item)

  pub terms_fault : (room count : ℕ) (sum : E) (i k : Input) (o : Op) (f : ParseFault)
      (all : Result (E × Input) ParseFault) → terms_behind T room (full + 1 - count) count sum i ≡ all
      → 1 ≤ count → count ≤ 64
      → next_means adding i ≡ Some o → k ≡ behind i
      → Fails f (next_term T true full room (inner_expr T true full room)
      (nat_lt count MOST_TERMS) k) → Fails f all
  terms_fault room count sum i k o f all told some few adds left fails =
      let n : full + 1 - count ≡ suc (full + 1 - (count + 1)) = omega (arith, large, some, few) in
      fails_map f (next_term T true full room (inner_expr T true full room)
      (nat_lt count MOST_TERMS) k) all (λ e.
      sym told ∙ ap (λ m. terms_behind T room m count sum i) n
      ∙ terms_bad room (full + 1 - (count + 1)) count sum i o f adds
      (ap (next_term T true full room (inner_expr T true full room)
      (nat_lt count MOST_TERMS)) (sym left) ∙ e)) fails

  pub sum_begin : (room : ℕ) (fits : Bool) (i j : Input) (e : E)
      → next_term T true full room (inner_expr T true full room) fits i ≡ Ok (e, j)
      → next_sum T true full room (inner_expr T true full room) fits i ≡ terms_behind T room full 1 e j
  unfolding next_sum terms_behind
  sum_begin room fits i j e reads =
      let more = many full adding one_more (another_term T true full room (inner_expr T true full room)) 1 in
      ap (λ q. goes_on q (λ first. more >>= λ others. done (sum_of T first others))) reads

  -- ---- in brackets

  in_brackets : (room : ℕ) (fits : Bool) (end at : ℕ) (i : Input) → fits ≡ true → 0 < room
      → bracketed T room fits end at i ≡ goes_on (expr_with T true full (room - 1)
      (inner_expr T true full (room - 1)) true i) (λ e. one (sign end) >>= λ z. done e)
  unfolding bracketed
  in_brackets zero fits end at i fit lt = absurd (omega (arith, lt))
  in_brackets (suc n) false end at i fit lt = absurd cc
  in_brackets (suc n) true end at i fit lt =
      ap (λ b. goes_on (holds b (TooMany at) i) (λ u. inner_expr T true full (suc n) true >>= λ e.
      one (sign end) >>= λ z. done e)) (opens (suc n) lt)
      ∙ ap (λ q. goes_on q (λ e. one (sign end) >>= λ z. done e)) (inner_is (suc n) true i lt)

  module _ (room : ℕ) (fits : Bool) (end at : ℕ) (i : Input) (fit : fits ≡ true) (lt : 0 < room) where
    pub bracketed_bad : (f : ParseFault) → Fails f (expr_with T true full (room - 1)
        (inner_expr T true full (room - 1)) true i) → Fails f (bracketed T room fits end at i)
    bracketed_bad f fails = fails_map f (expr_with T true full (room - 1)
        (inner_expr T true full (room - 1)) true i) _ (λ h. in_brackets room fits end at i fit lt
        ∙ ap (λ q. goes_on q (λ e. one (sign end) >>= λ z. done e)) h) fails

    pub bracketed_open : (e : E) (j : Input) (f : ParseFault) → expr_with T true full (room - 1)
        (inner_expr T true full (room - 1)) true i ≡ Ok (e, j) → Fails f (one (sign end) j)
        → Fails f (bracketed T room fits end at i)
    bracketed_open e j f reads fails = fails_map f (one (sign end) j) _ (λ h. in_brackets room fits end at i
        fit lt
        ∙ ap (λ q. goes_on q (λ y. one (sign end) >>= λ z. done y)) reads
        ∙ ap (λ q. goes_on q (λ z. done e)) h) fails

    pub bracketed_shut : (e : E) (j k : Input) (u : ℕ) → expr_with T true full (room - 1)
        (inner_expr T true full (room - 1)) true i ≡ Ok (e, j) → one (sign end) j ≡ Ok (u, k)
        → bracketed T room fits end at i ≡ Ok (e, k)
    bracketed_shut e j k u reads closes = in_brackets room fits end at i fit lt
        ∙ ap (λ q. goes_on q (λ y. one (sign end) >>= λ z. done y)) reads
        ∙ ap (λ q. goes_on q (λ z. done e)) closes

  -- ---- after a name

  module _ (room : ℕ) where
    pub unfit : (fits : Bool) (i : Input) (d : ParseFault) → Fails d (fitting_name T fits i)
        → Fails d (name_term T true full room (inner_expr T true full room) fits i)
    unfolding fitting_name name_term
    unfit fits i d h = fails_on _ _ _ (fit_by (next_name (words_of T.tokens) true i) fits (λ x. TooMany x.at)
        (behind_name T true full room (inner_expr T true full room))) h

    module _ (fits : Bool) (x : Name) (h i : Input) (named : fitting_name T fits h ≡ Ok (x, i)) where
      fitted : name_term T true full room (inner_expr T true full room) fits h
          ≡ behind_name T true full room (inner_expr T true full room) x i
      unfolding fitting_name name_term
      fitted = read_on _ (fit_by (next_name (words_of T.tokens) true h) fits (λ y. TooMany y.at)
          (behind_name T true full room (inner_expr T true full room))) named

      module _ (k : Input) (at : ℕ) (there : next_means (sign square) i ≡ Some at) (left : k ≡ behind i) where
        at_index : name_term T true full room (inner_expr T true full room) fits h
            ≡ goes_on (bracketed T room true end_square at k) (λ e. done (T.element x.at x e))
        unfolding behind_name case_next bracketed next_index
        at_index = fitted ∙ ap (λ q. going q (of_index T true full room (inner_expr T true full room) x)
            (case_next (sign round) (of_call T true full room (inner_expr T true full room) x)
            (done (T.var x.at x))) i) there
            ∙ ap (of_index T true full room (inner_expr T true full room) x at) (sym left)

        pub name_index : (j : Input) (e : E) → bracketed T room true end_square at k ≡ Ok (e, j)
            → name_term T true full room (inner_expr T true full room) fits h ≡ Ok (T.element x.at x e, j)
        name_index j e reads = at_index ∙ ap (λ q. goes_on q (λ y. done (T.element x.at x y))) reads

        pub name_index_bad : (f : ParseFault) → Fails f (bracketed T room true end_square at k)
            → Fails f (name_term T true full room (inner_expr T true full room) fits h)
        name_index_bad f fails = fails_map f (bracketed T room true end_square at k) _ (λ e. at_index
            ∙ ap (λ q. goes_on q (λ y. done (T.element x.at x y))) e) fails

      module _ (i1 : Input) (none : next_means (sign square) i ≡ None) (same : i1 ≡ i) where
        no_index : name_term T true full room (inner_expr T true full room) fits h
            ≡ case_next (sign round) (of_call T true full room (inner_expr T true full room) x)
            (done (T.var x.at x)) i1
        unfolding behind_name case_next
        no_index = fitted ∙ ap (λ q. going q (of_index T true full room (inner_expr T true full room) x)
            (case_next (sign round) (of_call T true full room (inner_expr T true full room) x)
            (done (T.var x.at x))) i) none
            ∙ ap (case_next (sign round) (of_call T true full room (inner_expr T true full room) x)
            (done (T.var x.at x))) (sym same)

        pub name_var : (i2 : Input) (b : E) → next_means (sign round) i1 ≡ None → i2 ≡ i1 → b ≡ T.var x.at x
            → name_term T true full room (inner_expr T true full room) fits h ≡ Ok (b, i2)
        unfolding case_next
        name_var i2 b nowhere stays made = no_index
            ∙ ap (λ q. going q (of_call T true full room (inner_expr T true full room) x)
            (done (T.var x.at x)) i1) nowhere ∙ ap (λ y. Ok (T.var x.at x, y)) (sym stays)
            ∙ ap (λ y. Ok (y, i2)) (sym made)

        module _ (k : Input) (at : ℕ) (there : next_means (sign round) i1 ≡ Some at) (left : k ≡ behind i1)
          where
            at_call : name_term T true full room (inner_expr T true full room) fits h
                ≡ goes_on (next_args T true full room (inner_expr T true full room) at k)
                (λ v. done (T.call x.at x v))
            unfolding case_next
            at_call = no_index ∙ ap (λ q. going q (of_call T true full room (inner_expr T true full room) x)
                (done (T.var x.at x)) i1) there
                ∙ ap (of_call T true full room (inner_expr T true full room) x at) (sym left)

            pub name_call : (j : Input) (v w : List A) (b : E)
                → next_args T true full room (inner_expr T true full room) at k ≡ Ok (v, j) → w ≡ v
                → b ≡ T.call x.at x w
                → name_term T true full room (inner_expr T true full room) fits h ≡ Ok (b, j)
            name_call j v w b reads whole made = at_call
                ∙ ap (λ q. goes_on q (λ y. done (T.call x.at x y))) reads
                ∙ ap (λ y. Ok (T.call x.at x y, j)) (sym whole) ∙ ap (λ y. Ok (y, j)) (sym made)

            pub name_call_bad : (f : ParseFault)
                → Fails f (next_args T true full room (inner_expr T true full room) at k)
                → Fails f (name_term T true full room (inner_expr T true full room) fits h)
            name_call_bad f fails =
                fails_map f (next_args T true full room (inner_expr T true full room) at k) _ (λ e. at_call
                ∙ ap (λ q. goes_on q (λ y. done (T.call x.at x y))) e) fails

  -- ---- arguments

  pub args_some : (room at : ℕ) (i j : Input) (o : Option ℕ) → 0 < room → o ≡ next_means (sign end_round) i
      → is_some o ≡ false → j ≡ left_by o i → next_args T true full room (inner_expr T true full room) at i
      ≡ some_args T true full room (inner_expr T true full room) j
  unfolding next_args case_next
  args_some room at i j None lt means is left =
      let some = some_args T true full room (inner_expr T true full room) in
      ap (λ b. goes_on (holds b (TooMany at) i) (λ u. case_next (sign end_round) (λ end. done []) some))
      (opens room lt)
      ∙ ap (λ q. going q (λ end. done []) some i) (sym means) ∙ ap some (sym left)
  args_some room at i j (Some x) lt means is left = absurd cc

  module _ (room used : ℕ) (i : Input) (lt : 0 < room) where
    value_is : arg_value T true full room (inner_expr T true full room) used i ≡ goes_on (expr_with T true
        full
        (room - 1) (inner_expr T true full (room - 1)) (nat_lt used MOST_REGISTERS) i) (λ e. done (T.value e))
    unfolding arg_value
    value_is = ap (λ q. goes_on q (λ e. done (T.value e))) (inner_is room (nat_lt used MOST_REGISTERS) i lt)

    pub value_read : (e : E) (j : Input) → expr_with T true full (room - 1)
        (inner_expr T true full (room - 1)) (nat_lt used MOST_REGISTERS) i ≡ Ok (e, j)
        → arg_value T true full room (inner_expr T true full room) used i ≡ Ok (T.value e, j)
    value_read e j reads = value_is ∙ ap (λ q. goes_on q (λ y. done (T.value y))) reads

    pub value_bad : (f : ParseFault) → Fails f (expr_with T true full (room - 1)
        (inner_expr T true full (room - 1)) (nat_lt used MOST_REGISTERS) i)
        → Fails f (arg_value T true full room (inner_expr T true full room) used i)
    value_bad f fails = fails_map f (expr_with T true full (room - 1)
        (inner_expr T true full (room - 1)) (nat_lt used MOST_REGISTERS) i) _
        (λ h. value_is ∙ ap (λ q. goes_on q (λ y. done (T.value y))) h) fails
