-- The component keeps the rules of its own slots, exports and words.
use Rattle.std.proofs.lemmas.Bool.{and_parts, or_right, lt-leb}
use Rattle.std.proofs.lemmas.List.{length-replicate}
use Rattle.std.proofs.Math.Bool.{and-false}
use Rattle.std.proofs.Common.{◌≡◌, ℕ, zero, suc, ◌+◌, ◌-◌, ◌*◌, ◌<◌, ◌≤◌, Bool, true, false, List, [], ◌∷◌}
use Rattle.std.proofs.Common.{◌++◌, length, map, Option, Some, None, refl, sym, ap, ◌∙◌, subst, arith}
use Rattle.std.proofs.Common.{append_assoc, length-append, le-ltb, le-leb, lt-ltb, eqb-true, eq-eqb, ne_eqb}
use Rattle.std.proofs.Common.{ℤ, pos}
use Rattle.std.specs.Prelude.{if◌then◌else◌, ◌&&◌, ◌==◌, not, nat_lt, nat_le, slice_get, slice_index}
use Rattle.std.specs.Prelude.{is_some, replicate}
use Rattle.std.specs.List.{list_any, list_all}
use Rattle.cap_words.specs.declared.Word.{Word}
use Rattle.cap_words.specs.declared.Word.TheVariants.{Int, Mem, Seal, Sealed}
use Rattle.lcm_isa.specs.declared.Instr.{Instr}
use Rattle.lcm_isa.specs.Numbers.{number_of}
use Rattle.component_file.specs.declared.TheConstants.{MOST_WORDS}
use Rattle.component_file.specs.declared.component.Import.{Import}
use Rattle.component_file.specs.declared.component.Export.{Export}
use Rattle.component_file.specs.declared.component.ComponentFields.{ComponentFields}
use Rattle.component_check.specs.Places.{first_below}
use Rattle.component_check.specs.Verdict.{NoneBroken}
use Rattle.component_check.specs.Rules.{c4, c5, c6, c7, c8, c9, c10, c11, c12, rules_of_trusted, slot_of}
use Rattle.component_check.specs.Rules.{slot_is_bad, slot_is_free, export_offset, words}
use Rattle.component_check.specs.Rules.{holds_of, is_foreign, linear_in, linear_at, meet, meets_before}
use Rattle.component_check.specs.Rules.{is_foreign_seal, is_no_int, is_at, code_at, is_over_seals, has_sites}
use Rattle.proc_program.specs.declared.program.Program.{Program}
use Rattle.proc_program.specs.declared.program.ProgramImport as program
use Rattle.proc_program.specs.declared.program.Procedure.{Procedure}
use Rattle.call_sequence.specs.Places.{begins_entry}
use Rattle.proc_templates.specs.Items.{Spot, Item, Laid, instrs, put, lay, word_of}
use Rattle.proc_templates.specs.Templates.{proc_code}
use Rattle.proc_program.specs.StepView.{block_of}
use Rattle.proc_templates.specs.Compiled.{frame_of, int_word, seals_word, pair_count, literal_of, head_of}
use Rattle.proc_templates.specs.Compiled.{lay_proc, lay_procs, laid_of, first_data, import_slots, own_slots}
use Rattle.proc_templates.specs.Compiled.{imports_of, component_of}
use Rattle.proc_program.specs.Calls.{part_calls}
use Rattle.proc_templates.proofs.Whole.{AllReady, spot_of, proc_laid}
use Rattle.proc_templates.proofs.Counted.{sites_are_calls}
use Rattle.proc_templates.proofs.Listed.{int_self, entries_inside, broken_not}

-- ---- words

abbrev is_int_word : Word → Bool
is_int_word w = not (is_no_int w)

abbrev AllInts : List Word → Type 0
AllInts ws = list_all is_int_word ws ≡ true

ints_both : (a b : List Word) → AllInts a → AllInts b → AllInts (a ++ b)
ints_both [] b x y = y
ints_both (w ∷ a) b x y = rw ((and_parts (is_int_word w) (list_all is_int_word a) x).0)
    (ints_both a b ((and_parts (is_int_word w) (list_all is_int_word a) x).1) y)

instrs_ints : (is : List Instr) → AllInts (map word_of is)
instrs_ints [] = refl
instrs_ints (i ∷ is) = instrs_ints is

same_ints : (n : ℕ) (z : ℤ) → AllInts (replicate n (Int z))
same_ints zero z = refl
same_ints (suc n) z = same_ints n z

-- code that goes on with integers
record Tail (base code : List Word) : Type 0 where
  tail : List Word
  is : code ≡ base ++ tail
  ints : AllInts tail

tail_on : (base code : List Word) (is : List Instr) → Tail base code → Tail base (code ++ map word_of is)
tail_on base code is t = record {
  tail = t.tail ++ map word_of is;
  is = ap (λ ws. ws ++ map word_of is) t.is ∙ append_assoc base t.tail (map word_of is);
  ints = ints_both t.tail (map word_of is) t.ints (instrs_ints is);
}

tail_lay : (base : List Word) (spot : Spot) (xs : List Item) (l : Laid) → Tail base l.code
    → Tail base (lay spot l xs).code
unfolding put
tail_lay base spot [] l t = t
tail_lay base spot (x ∷ xs) l t =
    tail_lay base spot xs (put spot l x)
    (tail_on base l.code (instrs spot (length l.code) (length l.sites) x) t)

tail_procs : (m : Program) (base : List Word) (ps : List Procedure) (l : Laid) → Tail base l.code
    → Tail base (lay_procs m l ps).code
tail_procs m base [] l t = t
tail_procs m base (p ∷ ps) l t =
    tail_procs m base ps (lay_proc m l p)
    (subst (λ (x : Laid). Tail base x.code) (sym (proc_laid m l p))
    (tail_lay base (spot_of m l p) (proc_code (frame_of m p) p.callbacks (block_of p.body)) l t))

tail_whole : (m : Program) → Tail (head_of m).code (laid_of m).code
unfolding laid_of
tail_whole m = tail_procs m (head_of m).code m.procs (head_of m)
    (record { tail = []; is = refl; ints = refl })

globals_ints : (zs : List ℤ) → AllInts (map int_word zs)
globals_ints [] = refl
globals_ints (z ∷ zs) = globals_ints zs

data_ints : (m : Program) → AllInts (first_data m)
unfolding first_data
data_ints m = ints_both (replicate (pair_count m) (Int (pos 0))) (map int_word m.globals)
    (same_ints (pair_count m) (pos 0)) (globals_ints m.globals)

-- a test that no integer passes fails at all of them
int_at : (test : Word → Bool) → ((z : ℤ) → test (Int z) ≡ false) → (ws : List Word) → AllInts ws → (i : ℕ)
    → holds_of test (slice_get ws i) ≡ false
int_at test f [] e i = refl
int_at test f (w ∷ ws) e zero = by w ((and_parts (is_int_word w) (list_all is_int_word ws) e).0)
  where
    by : (w : Word) → is_int_word w ≡ true → test w ≡ false
    by (Int z) e = f z
    by (Mem x) e = cc
    by (Seal x) e = cc
    by (Sealed o x) e = cc
int_at test f (w ∷ ws) e (suc i) = int_at test f ws
    ((and_parts (is_int_word w) (list_all is_int_word ws) e).1) i

-- ---- slots

abbrev Stepping : ℕ → List Import → Type 0
Stepping s [] = Unit {0}
Stepping s (i ∷ is) = (i.slot ≡ s) × Stepping (s + 2) is

imports_step : (s : ℕ) (xs : List program.ProgramImport) (ys : List Import) → Stepping (s + 2 * length xs) ys
    → Stepping s (import_slots s xs ++ ys)
imports_step s [] ys h = let e : s + 2 * 0 ≡ s = omega arith in subst (λ n. Stepping n ys) e h
imports_step s (x ∷ xs) ys h = let e : s + 2 * suc (length xs) ≡ s + 2 + 2 * length xs = omega arith in
    (refl, imports_step (s + 2) xs ys (subst (λ n. Stepping n ys) e h))

own_step : (part : List ℕ) (s : ℕ) (ps : List Procedure) → Stepping s (own_slots part s ps)
own_step part s [] = tt
own_step part s (p ∷ ps) = (refl, own_step part (s + 2) ps)

step_at : (s : ℕ) (is : List Import) (i : ℕ) → Stepping s is → i < length is
    → slice_index (map (λ x. x.slot) is) i ≡ s + 2 * i
step_at s [] i h lt = absurd (omega (arith, lt))
step_at s (x ∷ is) zero h lt = h.0 ∙ omega arith
step_at s (x ∷ is) (suc i) h lt = step_at (s + 2) is i h.1 (omega (arith, lt)) ∙ omega arith

pub imports_length : (s : ℕ) (xs : List program.ProgramImport) → length (import_slots s xs) ≡ length xs
imports_length s [] = refl
imports_length s (x ∷ xs) = ap suc (imports_length (s + 2) xs)

pub own_length : (part : List ℕ) (s : ℕ) (ps : List Procedure) → length (own_slots part s ps) ≡ length ps
own_length part s [] = refl
own_length part s (p ∷ ps) = ap suc (own_length part (s + 2) ps)

zeros_at : (n : ℕ) (ys : List Word) (j : ℕ) → j < n
    → slice_get (replicate n (Int (pos 0)) ++ ys) j ≡ Some (Int (pos 0))
zeros_at zero ys j h = absurd (omega (arith, h))
zeros_at (suc n) ys zero h = refl
zeros_at (suc n) ys (suc j) h = zeros_at n ys j (omega (arith, h))

no_first : (f : ℕ → Bool) (n : ℕ) → ((i : ℕ) → f i ≡ false) → first_below f n ≡ None
no_first f zero h = refl
no_first f (suc n) h = let e = no_first f n h in let g = h n in rw (e, g) refl

abbrev is_mem : Word → Bool
is_mem (Mem x) = true
is_mem (Int z) = false
is_mem (Seal x) = false
is_mem (Sealed o x) = false

pub one_at_least : (n k : ℕ) → (n == 0) ≡ false → n ≤ k → 1 ≤ k
one_at_least zero k e h = cc
one_at_least (suc n) k e h = omega (arith, h)

any_offset : (es : List Export) (i : ℕ) → i < length es
    → list_any (λ e. e.offset == slice_index (map (λ e. e.offset) es) i) es ≡ true
any_offset es i h = any_true_at es i h (slice_index (map (λ e. e.offset) es) i) refl
  where
    any_true_at : (es : List Export) (i : ℕ) → i < length es → (x : ℕ)
        → slice_index (map (λ e. e.offset) es) i ≡ x → list_any (λ e. e.offset == x) es ≡ true
    any_true_at [] i h x e = absurd (omega (arith, h))
    any_true_at (y ∷ es) zero h x e = let g = eq-eqb y.offset x e in rw g refl
    any_true_at (y ∷ es) (suc i) h x e =
        or_right (y.offset == x) (list_any (λ e. e.offset == x) es) (any_true_at es i (omega (arith, h)) x e)

module _ (m : Program) (ready : AllReady m m.procs) (most : length (laid_of m).code ≤ MOST_WORDS)
    (seals : part_calls m ≤ m.header.return_count) where
  c : ComponentFields
  c = component_of m

  slots : Stepping 0 (imports_of m)
  unfolding imports_of
  slots = imports_step 0 m.imports _
      (let e : 2 * length m.imports ≡ 0 + 2 * length m.imports = omega arith in
      subst (λ n. Stepping n (own_slots m.name (2 * length m.imports) m.procs)) e
      (own_step m.name (2 * length m.imports) m.procs))

  count : length (imports_of m) ≡ length m.imports + length m.procs
  unfolding imports_of
  count = length-append (import_slots 0 m.imports) (own_slots m.name (2 * length m.imports) m.procs)
      ∙ (let a = imports_length 0 m.imports in let b = own_length m.name (2 * length m.imports) m.procs in
      omega (arith, a, b))

  data_length : pair_count m ≤ length (first_data m)
  unfolding first_data
  data_length = let e = length-append (replicate (pair_count m) (Int (pos 0))) (map int_word m.globals) in
      let n = length-replicate (pair_count m) (Int (pos 0)) in omega (arith, e, n)

  slot_is : (i : ℕ) → i < length c.imports → slot_of c i ≡ 2 * i
  unfolding c component_of
  slot_is i h = step_at 0 (imports_of m) i slots h ∙ omega arith

  kept_4 : (i : ℕ) → i < length c.imports → slot_is_bad c i ≡ false
  unfolding c component_of
  kept_4 i h =
      let e = slot_is i h in
      let n = count in
      let d = data_length in
      let a : nat_le (length c.data_words) (slot_of c i + 1) ≡ false =
      lt-leb (length c.data_words) (slot_of c i + 1) (omega (arith, e, n, d, h)) in
      rw a (by i h)
    where
      by : (i : ℕ) → i < length (imports_of m)
          → (nat_lt 0 i && nat_lt (slot_of c i) (slot_of c (i - 1) + 2)) ≡ false
      by zero h = refl
      by (suc j) h =
          let e = slot_is (suc j) h in
          let k : suc j - 1 ≡ j = omega arith in
          let g = slot_is j (omega (arith, h)) in
          let b : nat_lt (slot_of c (suc j)) (slot_of c j + 2) ≡ false =
          le-ltb (slot_of c (suc j)) (slot_of c j + 2) (omega (arith, e, g)) in
          ap (λ z. nat_lt 0 (suc j) && nat_lt (slot_of c (suc j)) (slot_of c z + 2)) k
          ∙ rw b (and-false (nat_lt 0 (suc j)))

  kept_5 : (i : ℕ) → i < length c.imports → not (slot_is_free c i) ≡ false
  unfolding c component_of first_data
  kept_5 i h =
      let e = slot_is i h in
      let n = count in
      let a = zeros_at (pair_count m) (map int_word m.globals) (slot_of c i) (omega (arith, e, n, h)) in
      let b = zeros_at (pair_count m) (map int_word m.globals) (slot_of c i + 1) (omega (arith, e, n, h)) in
      rw (a, b) refl

  kept_6 : (i : ℕ) → i < length c.exports → nat_le (length c.code) (export_offset c i) ≡ false
  unfolding c begins_entry
  kept_6 i h =
      lt-leb (length c.code) (export_offset c i)
      (entries_inside m ready most (export_offset c i) (any_offset c.exports i h))

  the_words : Tail (head_of m).code (laid_of m).code
  the_words = tail_whole m

  words_are : words c ≡ (head_of m).code ++ (the_words.tail ++ first_data m)
  unfolding c component_of
  words_are = ap (λ ws. ws ++ first_data m) the_words.is
      ∙ append_assoc (head_of m).code the_words.tail (first_data m)

  rest_ints : AllInts (the_words.tail ++ first_data m)
  rest_ints = ints_both the_words.tail (first_data m) the_words.ints (data_ints m)

  -- a test that neither an integer nor the literal passes fails at all words
  word_at : (test : Word → Bool) → ((z : ℤ) → test (Int z) ≡ false) → test (literal_of m) ≡ false → (i : ℕ)
      → holds_of test (slice_get (words c) i) ≡ false
  word_at test f l i = ap (λ ws. holds_of test (slice_get ws i)) words_are ∙ by i
    where
      by : (i : ℕ) → holds_of test (slice_get ((head_of m).code ++ (the_words.tail ++ first_data m)) i)
          ≡ false
      by zero = f _
      by (suc zero) = l
      by (suc (suc i)) = int_at test f (the_words.tail ++ first_data m) rest_ints i

  literal_own : is_foreign c (literal_of m) ≡ false
  literal_own = by (part_calls m == 0)
    where
      by : (t : Bool) → is_foreign c (if t then Int (pos 0) else seals_word m.header) ≡ false
      by true = refl
      by false = refl

  literal_seals : is_foreign_seal c (literal_of m) ≡ false
  unfolding c component_of
  literal_seals = by (part_calls m == 0) refl
    where
      by : (t : Bool) → (part_calls m == 0) ≡ t
          → is_foreign_seal c (if t then Int (pos 0) else seals_word m.header) ≡ false
      by true e = refl
      by false e =
          let some : 1 ≤ m.header.return_count = one_at_least (part_calls m) m.header.return_count e seals in
          let n : (m.header.return_count == 0) ≡ false =
          ne_eqb m.header.return_count 0 (λ z. absurd (omega (arith, z, some))) in
          let a : nat_le m.header.returns m.header.returns ≡ true =
          le-leb m.header.returns m.header.returns (omega arith) in
          let b : nat_lt (m.header.returns + m.header.return_count - 1)
          (m.header.returns + m.header.return_count) ≡ true =
          lt-ltb (m.header.returns + m.header.return_count - 1) (m.header.returns + m.header.return_count)
          (omega (arith, some)) in
          rw (n, a, b) refl

  kept_8 : (j : ℕ) → meets_before c j ≡ false
  kept_8 j = ap is_some (no_first (λ i. meet (linear_at c i) (linear_at c j)) j
      (λ i. let e = none_linear i in rw e refl))
    where
      none_linear : (i : ℕ) → linear_at c i ≡ None
      none_linear i = from (slice_get (words c) i) (word_at is_mem (λ z. refl) (lit (part_calls m == 0)) i)
        where
          lit : (t : Bool) → is_mem (if t then Int (pos 0) else seals_word m.header) ≡ false
          lit true = refl
          lit false = refl

          from : (w : Option Word) → holds_of is_mem w ≡ false → linear_in w ≡ None
          from None h = refl
          from (Some (Int z)) h = refl
          from (Some (Mem x)) h = cc
          from (Some (Seal x)) h = refl
          from (Some (Sealed o x)) h = refl

  kept_11 : (i : ℕ) → holds_of is_no_int (slice_get c.data_words i) ≡ false
  unfolding c component_of
  kept_11 i = int_at is_no_int (λ z. refl) (first_data m) (data_ints m) i

  kept_10 : (i : ℕ) → (holds_of is_no_int (slice_get c.code i) && not (is_at c.literal_at i)) ≡ false
  unfolding c component_of
  kept_10 i = ap (λ ws. holds_of is_no_int (slice_get ws i) && not (is_at c.literal_at i)) the_words.is ∙ by i
    where
      lit : (t : Bool) → (is_no_int (if t then Int (pos 0) else seals_word m.header) && not
          (is_at (if t then None else Some 1) 1)) ≡ false
      lit true = refl
      lit false = refl

      by : (i : ℕ) → (holds_of is_no_int (slice_get ((head_of m).code ++ the_words.tail) i) && not
          (is_at c.literal_at i)) ≡ false
      by zero = refl
      by (suc zero) = lit (part_calls m == 0)
      by (suc (suc i)) = let e = int_at is_no_int (λ z. refl) the_words.tail the_words.ints i in rw e refl

  first_words : (j : ℕ) (w : Word) → slice_get (head_of m).code j ≡ Some w
      → slice_get (laid_of m).code j ≡ Some w
  first_words zero w h = ap (λ ws. slice_get ws 0) the_words.is ∙ h
  first_words (suc zero) w h = ap (λ ws. slice_get ws 1) the_words.is ∙ h
  first_words (suc (suc j)) w h = cc

  code-two : 2 ≤ length (laid_of m).code
  code-two = let e = ap length the_words.is in
      let n : length ((head_of m).code ++ the_words.tail) ≡ suc (suc (length the_words.tail)) = refl in
      omega (arith, e, n)

  seal_there : (part_calls m == 0) ≡ false → is_over_seals c (slice_get (laid_of m).code 1) ≡ true
  unfolding c component_of
  seal_there e =
      let w : Word = seals_word m.header in
      let h : slice_get (laid_of m).code 1 ≡ Some w = first_words 1 w (let k = e in rw k refl) in
      let some : 1 ≤ m.header.return_count = one_at_least (part_calls m) m.header.return_count e seals in
      let n : (m.header.return_count == 0) ≡ false =
      ne_eqb m.header.return_count 0 (λ z. absurd (omega (arith, z, some))) in
      let a = eq-eqb m.header.returns m.header.returns refl in
      let b : (m.header.returns + m.header.return_count - 1 + 1 == m.header.returns + m.header.return_count)
      ≡ true = eq-eqb (m.header.returns + m.header.return_count - 1 + 1)
      (m.header.returns + m.header.return_count) (omega (arith, some)) in
      let d = int_self (pos m.header.returns) in
      rw (h, n, a, b, d) refl

  no_sites : (part_calls m == 0) ≡ true → nat_lt 0 (length (laid_of m).sites) ≡ false
  no_sites e = let n = sites_are_calls m in let z = eqb-true (part_calls m) 0 e in
      le-ltb 0 (length (laid_of m).sites) (omega (arith, n, z))

  some_sites : (part_calls m == 0) ≡ false → nat_lt 0 (length (laid_of m).sites) ≡ true
  some_sites e = let n = sites_are_calls m in let z =
      one_at_least (part_calls m) (part_calls m) e (omega arith) in
      lt-ltb 0 (length (laid_of m).sites) (omega (arith, n, z))

  literal_kept : (t : Bool) → (part_calls m == 0) ≡ t
      → (has_sites c && not (is_over_seals c (code_at c c.literal_at))) ≡ false
  unfolding c component_of
  literal_kept true e = let a = no_sites e in rw a refl
  literal_kept false e = let a = some_sites e in
      let b : is_over_seals (component_of m) (slice_get (laid_of m).code 1) ≡ true = seal_there e in
      rw (e, b) (and-false (has_sites c))

  literal_bare : (t : Bool) → (part_calls m == 0) ≡ t → (not (has_sites c) && is_some c.literal_at) ≡ false
  unfolding c component_of
  literal_bare true e = rw e (and-false (not (has_sites c)))
  literal_bare false e = let a = some_sites e in rw a refl

  kept_12 : (i : ℕ) → (c12 c).broken i ≡ false
  unfolding c c12 component_of number_of
  kept_12 zero = refl
  kept_12 (suc zero) = let h = first_words 0 _ refl in rw h refl
  kept_12 (suc (suc zero)) = let n = sites_are_calls m in
      le-ltb m.header.return_count (length (laid_of m).sites) (omega (arith, n, seals))
  kept_12 (suc (suc (suc zero))) = literal_kept (part_calls m == 0) refl
  kept_12 (suc (suc (suc (suc zero)))) = literal_bare (part_calls m == 0) refl
  kept_12 (suc (suc (suc (suc (suc i))))) = refl

  own : NoneBroken (c4 c ∷ c5 c ∷ c6 c ∷ c7 c ∷ c8 c ∷ c9 c ∷ rules_of_trusted true c)
  unfolding c4 c5 c6 c7 c8 c9 c10 c11
  own zero i t e b = cc
  own (suc zero) i t e b = broken_not (c4 c) i t e kept_4 b
  own (suc (suc zero)) i t e b = broken_not (c5 c) i t e kept_5 b
  own (suc (suc (suc zero))) i t e b = broken_not (c6 c) i t e kept_6 b
  own (suc (suc (suc (suc zero)))) i t e b =
      broken_not (c7 c) i t e (λ j h. word_at (is_foreign c) (λ z. refl) literal_own j) b
  own (suc (suc (suc (suc (suc zero))))) i t e b = broken_not (c8 c) i t e (λ j h. kept_8 j) b
  own (suc (suc (suc (suc (suc (suc zero)))))) i t e b =
      broken_not (c9 c) i t e (λ j h. word_at (is_foreign_seal c) (λ z. refl) literal_seals j) b
  own (suc (suc (suc (suc (suc (suc (suc zero))))))) i t e b = broken_not (c10 c) i t e (λ j h. kept_10 j) b
  own (suc (suc (suc (suc (suc (suc (suc (suc zero)))))))) i t e b =
      broken_not (c11 c) i t e (λ j h. kept_11 j) b
  own (suc (suc (suc (suc (suc (suc (suc (suc (suc zero))))))))) i t e b =
      broken_not (c12 c) i t e (λ j h. kept_12 j) b
  own (suc (suc (suc (suc (suc (suc (suc (suc (suc (suc n)))))))))) i t e b = cc

  pub own_kept : NoneBroken (c4 (component_of m) ∷ c5 (component_of m) ∷ c6 (component_of m)
      ∷ c7 (component_of m) ∷ c8 (component_of m) ∷ c9 (component_of m)
      ∷ rules_of_trusted true (component_of m))
  unfolding c
  own_kept = own
