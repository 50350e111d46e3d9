-- What doesn't differ from some code is that code, word by word, and that code doesn't differ from itself.
use Rattle.std.proofs.Common.{◌≡◌, ℕ, zero, suc, ◌+◌, Bool, true, false, List, [], ◌∷◌, Option, Some, None}
use Rattle.std.proofs.Common.{refl, ap, arith, ◌<◌, le-leb}
use Rattle.std.specs.Prelude.{ℤ, pos, slice_get, slice_index, nat_le, is_some, if◌then◌else◌, length, not}
use Rattle.std.specs.Bool.{Decides}
use Rattle.std.specs.Option.{option_or}
use Rattle.std.proofs.lemmas.Bool.Decides.{Decides-int_eq}
use Rattle.std.proofs.lemmas.Bool.{and_parts, not-true}
use Rattle.std.proofs.lemmas.Option.{slice_get_within}
use Rattle.cap_words.specs.declared.Word.{Word}
use Rattle.cap_words.specs.declared.Word.TheVariants.{Int, Mem, Seal, Sealed}
use Rattle.lcm_isa.specs.declared.Instr.{Instr}
use Rattle.lcm_isa.specs.Numbers.{number_of}
use Rattle.component_file.specs.declared.component.ComponentFields.{ComponentFields}
use Rattle.call_sequence.specs.declared.TheConstants.{CALL_WORDS, SITE_WORDS, ENTRY_WORDS}
use Rattle.call_sequence.specs.Sequences.{call_code, return_code, entry_code}
use Rattle.call_sequence.specs.Standing.{is_int, code_difference, sequence_difference, site_difference}
use Rattle.call_sequence.specs.Standing.{is_site, is_entry, CodeStands, SiteStands, EntryStands}

int_is : (o : Option Word) (z : ℤ) → is_int o z ≡ true → o ≡ Some (Int z)
int_is None z e = cc
int_is (Some (Int n)) z e = ap (λ k. Some (Int k)) ((Decides-int_eq n z).0 e)
int_is (Some (Mem m)) z e = cc
int_is (Some (Seal s)) z e = cc
int_is (Some (Sealed s x)) z e = cc

some_none : (b : Bool) (x : ℕ) (o : Option ℕ) → is_some (if b then o else Some x) ≡ false
    → (b ≡ true) × (is_some o ≡ false)
some_none true x o e = (refl, e)
some_none false x o e = cc

stands : (words : List Word) (at : ℕ) (code : List Instr) → is_some (code_difference words at code) ≡ false
    → CodeStands words at code
stands words at [] e = λ k i h. cc
stands words at (x ∷ xs) e =
    by_place (some_none (is_int (slice_get words at) (pos (number_of x)))
    at (code_difference words (at + 1) xs) e) (stands words (at + 1) xs)
  where
    by_place : (is_int (slice_get words at) (pos (number_of x)) ≡ true)
        × (is_some (code_difference words (at + 1) xs) ≡ false)
        → (is_some (code_difference words (at + 1) xs) ≡ false → CodeStands words (at + 1) xs)
        → (k : ℕ) (i : Instr) → slice_get (x ∷ xs) k ≡ Some i
        → slice_get words (at + k) ≡ Some (Int (pos (number_of i)))
    by_place d more zero i h =
        let same : x ≡ i = cc in
        let e : at + 0 ≡ at = omega arith in
        rw (e, ← same) (int_is (slice_get words at) (pos (number_of x)) d.0)
    by_place d more (suc k) i h =
        let e : at + suc k ≡ at + 1 + k = omega arith in
        rw e (more d.1 k i h)

-- the same words don't differ
no_difference : (words : List Word) (at : ℕ) (code : List Instr) → CodeStands words at code
    → is_some (code_difference words at code) ≡ false
no_difference words at [] h = refl
no_difference words at (x ∷ xs) h =
    let first : at + 0 ≡ at = omega arith in
    let here : slice_get words at ≡ Some (Int (pos (number_of x))) = rw first at (h 0 x refl) in
    let same : is_int (slice_get words at) (pos (number_of x)) ≡ true =
    rw here ((Decides-int_eq (pos (number_of x)) (pos (number_of x))).1 refl) in
    rw same (no_difference words (at + 1) xs
    (λ k i e. let next : at + suc k ≡ at + 1 + k = omega arith in rw next at (h (suc k) i e)))

-- and each lies within
within : (words : List Word) (at : ℕ) (code : List Instr) (k : ℕ) (i : Instr) → CodeStands words at code
    → slice_get code k ≡ Some i → at + k < length words
within words at code k i h e = slice_get_within words (at + k) _ (h k i e)

neither : (a b : Option ℕ) → is_some (option_or a b) ≡ false → (is_some a ≡ false) × (is_some b ≡ false)
neither None b e = (refl, e)
neither (Some x) b e = cc

both_none : (a b : Option ℕ) → is_some a ≡ false → is_some b ≡ false → is_some (option_or a b) ≡ false
both_none None b d e = e
both_none (Some x) b d e = cc

site_code : (c : ComponentFields) (index : ℕ) → is_site c index ≡ true → SiteStands c index
unfolding is_site sequence_difference
site_code c index e =
    by_offsets c.fail_at c.literal_at refl refl
    (not-true (is_some (site_difference c index))
    (and_parts (nat_le (slice_index c.sites index + SITE_WORDS) (length c.code)) _ e).1)
  where
    by_code : (fail literal : ℕ) → c.fail_at ≡ Some fail → c.literal_at ≡ Some literal
        → is_some (sequence_difference c index fail literal) ≡ false → SiteStands c index
    by_code fail literal f l d =
        let at = slice_index c.sites index in
        let n = neither (code_difference c.code at (call_code literal at index))
        (code_difference c.code (at + CALL_WORDS) (return_code fail (at + CALL_WORDS) c.stack_base)) d in
        record {
          fail = fail;
          literal = literal;
          fail_is = f;
          literal_is = l;
          call = stands c.code at (call_code literal at index) n.0;
          back = stands c.code (at + CALL_WORDS) (return_code fail (at + CALL_WORDS) c.stack_base) n.1;
        }

    by_offsets : (f l : Option ℕ) → c.fail_at ≡ f → c.literal_at ≡ l
        → is_some (site_difference c index) ≡ false → SiteStands c index
    by_offsets None l e m d = cc (rw e at d)
    by_offsets (Some fail) None e m d = cc (rw (e, m) at d)
    by_offsets (Some fail) (Some literal) e m d = by_code fail literal e m (rw (e, m) at d)

site_found : (c : ComponentFields) (index : ℕ) → SiteStands c index
    → is_some (site_difference c index) ≡ false
unfolding sequence_difference
site_found c index h =
    let at = slice_index c.sites index in
    rw (h.fail_is, h.literal_is)
    (both_none _ _ (no_difference c.code at (call_code h.literal at index) h.call)
    (no_difference c.code (at + CALL_WORDS) (return_code h.fail (at + CALL_WORDS) c.stack_base) h.back))

site_told : (c : ComponentFields) (index : ℕ) → SiteStands c index → is_site c index ≡ true
unfolding is_site return_code
site_told c index h =
    let at = slice_index c.sites index in
    let last = within c.code (at + CALL_WORDS) (return_code h.fail (at + CALL_WORDS) c.stack_base) 9 _
    h.back refl in
    let room : nat_le (at + SITE_WORDS) (length c.code) ≡ true = le-leb _ _ (omega (arith, last)) in
    rw room (ap not (site_found c index h))

pub site_decides : (c : ComponentFields) (index : ℕ) → Decides (is_site c index) (SiteStands c index)
site_decides c index = (site_code c index, site_told c index)

entry_words_stand : (c : ComponentFields) (at : ℕ) → is_entry c at ≡ true → EntryStands c at
unfolding is_entry
entry_words_stand c at e = by_fail c.fail_at refl e
  where
    by_fail : (f : Option ℕ) → c.fail_at ≡ f → is_entry c at ≡ true → EntryStands c at
    by_fail None m e = cc (rw m at e)
    by_fail (Some fail) m e =
        let b = and_parts (nat_le (at + ENTRY_WORDS) (length c.code)) _ (rw m at e) in
        record {
          fail = fail;
          fail_is = m;
          entry = stands c.code at (entry_code fail at c.stack_base)
              (not-true (is_some (code_difference c.code at (entry_code fail at c.stack_base))) b.1);
        }

entry_told : (c : ComponentFields) (at : ℕ) → EntryStands c at → is_entry c at ≡ true
unfolding is_entry entry_code
entry_told c at h =
    let code = entry_code h.fail at c.stack_base in
    let last = within c.code at code 19 _ h.entry refl in
    let room : nat_le (at + ENTRY_WORDS) (length c.code) ≡ true = le-leb _ _ (omega (arith, last)) in
    rw (h.fail_is, room) (ap not (no_difference c.code at code h.entry))

pub entry_decides : (c : ComponentFields) (at : ℕ) → Decides (is_entry c at) (EntryStands c at)
entry_decides c at = (entry_words_stand c at, entry_told c at)
