-- The code of a start: each part's words, and in a trusted part's its sequences.
use Rattle.std.proofs.Common.{◌≡◌, ℕ, zero, suc, ◌+◌, ◌-◌, ◌<◌, Bool, true, false, not, List, [], ◌∷◌, length}
use Rattle.std.proofs.Common.{Option, Some, None, refl, sym, ap, subst, ◌∙◌, arith, eq-eqb, lt-ltb}
use borrow.Author.Tests.{eqb-true}
use Rattle.std.specs.Prelude.{slice_get, slice_index, ◌==◌, ◌&&◌, pos, if◌then◌else◌}
use Rattle.std.specs.Option.{option_or}
use Rattle.std.specs.Ordering.{int_eq, nat_cmp}
use Rattle.std.specs.FinMap.{FinMap}
use Rattle.std.specs.List.{Contains, list_any}
use Rattle.std.proofs.lemmas.Bool.Decides.{Decides-int_eq}
use Rattle.std.proofs.lemmas.Option.{slice_get_within, get_or_from_slice_get}
use Rattle.std.proofs.lemmas.Bool.{not-false, or_right}
use Rattle.cap_words.specs.declared.Word.{Word}
use Rattle.cap_words.specs.declared.Word.TheVariants.{Int, Mem, Seal, Sealed}
use Rattle.cap_words.specs.declared.SealFields.{SealFields}
use Rattle.cap_words.specs.declared.Face.TheVariants.{Number}
use Rattle.lcm_isa.specs.declared.Instr.{Instr}
use Rattle.lcm_isa.specs.declared.Instr.TheVariants.{Fail}
use Rattle.lcm_isa.specs.Numbers.{number_of}
use Rattle.lcm_machine.specs.Cells.{cell}
use Rattle.lcm_machine.specs.Row.{look_face}
use Rattle.lcm_machine.specs.Runs.{Stands}
use Rattle.lcm_machine.specs.Run.{Run}
use Rattle.component_file.specs.declared.component.ComponentFields.{ComponentFields}
use Rattle.component_file.specs.declared.component.Export.{Export}
use Rattle.component_file.specs.Limits.{IsComponent}
use Rattle.component_check.specs.Rules.{c12, is_zero_word, code_at, is_over_seals, has_sites}
use Rattle.call_sequence.specs.declared.TheConstants.{CALL_WORDS}
use Rattle.call_sequence.specs.Sequences.{call_code, return_code, entry_code}
use Rattle.call_sequence.specs.Standing as seq
use Rattle.call_sequence.specs.Verdict.{IsKept}
use Rattle.call_sequence.specs.Places.{begins_entry}
use Rattle.linked_starts.specs.Parts.{PartSeen, IsPart}
use Rattle.linked_starts.specs.Regions.{regions_of, in_regions}
use Rattle.linked_starts.specs.Start.{first_given, part_word, start_cell, from, data_word, IsStart}
use Rattle.linked_starts.specs.Linked.{Linked}
use Rattle.linked_starts.specs.TrustedCode.{CodeInCells, StandsIn, SiteInCells, TrustedInCells, all_seals}
use Rattle.linked_starts.proofs.PartWords.{from_yes, separate}
use Rattle.linked_starts.proofs.PartKept.{kept, twelfth}

-- ---- each word

-- what one item gives, and none before it
pub given_at : {X Y : Type 0} (f : X → Option Y) (xs : List X) (k : ℕ) (x : X) (y : Y)
    → slice_get xs k ≡ Some x → f x ≡ Some y
    → ((j : ℕ) (z : X) (u : Y) → j < k → slice_get xs j ≡ Some z → f z ≡ Some u → ⊥)
    → first_given f xs ≡ Some y
given_at f [] k x y at is none = absurd cc
given_at f (z ∷ zs) zero x y at is none = let e : z ≡ x =
    cc in ap (λ o. option_or o (first_given f zs)) (ap f e ∙ is)
given_at f (z ∷ zs) (suc k) x y at is none =
    by_first (f z) refl (given_at f zs k x y at is (λ j w u lt a b. none (suc j) w u (omega (arith, lt)) a b))
  where
    by_first : (o : Option _) → f z ≡ o → first_given f zs ≡ Some y → option_or o (first_given f zs) ≡ Some y
    by_first None e more = more
    by_first (Some u) e more = absurd (none 0 z u (omega arith) refl e)

own_word : (parts : List PartSeen) (p : PartSeen) (o : ℕ) (w : Word) → slice_get p.component.code o ≡ Some w
    → part_word parts (p.component.code_base + o) p ≡ Some w
unfolding part_word
own_word parts p o w is =
    let c = p.component in
    let back : c.code_base + o - c.code_base ≡ o = omega arith in
    let here : from c.code_base (slice_get c.code) (c.code_base + o) ≡ Some w =
    from_yes c.code_base (slice_get c.code) (c.code_base + o) (omega arith) ∙ ap (slice_get c.code) back
    ∙ is in
    ap (λ x. option_or x (from c.data_base (data_word parts c) (c.code_base + o))) here

-- the word that a part has at an address stands there
pub part_stands : (parts : List PartSeen) (size : ℕ) (s : Run) → Linked parts size → IsStart parts size s
    → (k a : ℕ) (p : PartSeen) (w : Word) → slice_get parts k ≡ Some p → part_word parts a p ≡ Some w
    → cell s.maps.cells a ≡ Some w
unfolding start_cell
part_stands parts size s linked start k a p w at here =
    let first = given_at (part_word parts a) parts k p w at here before in
    start.cells a
    ∙ ap (λ x. option_or x (if in_regions a (regions_of parts size) then Some (Int (pos 0)) else None))
    first
  where
    before : (j : ℕ) (q : PartSeen) (u : Word) → j < k → slice_get parts j ≡ Some q
        → part_word parts a q ≡ Some u → ⊥
    before j q u lt at_j is_j =
        (separate parts size linked.closed linked.apart).apart j k a q p u w lt at_j at is_j here

pub code_stands : (parts : List PartSeen) (size : ℕ) (s : Run) → Linked parts size → IsStart parts size s
    → CodeInCells parts s.maps
code_stands parts size s linked start k o p w at is =
    part_stands parts size s linked start k (p.component.code_base + o) p w at (own_word parts p o w is)

-- ---- instructions

-- code that stands in the words of a part stands in cells that have them
stands_in : (cells : FinMap nat_cmp Word) (base : ℕ) (words : List Word)
    → ((o : ℕ) (w : Word) → slice_get words o ≡ Some w → cell cells (base + o) ≡ Some w)
    → (at : ℕ) (code : List Instr) → seq.CodeStands words at code → Stands (λ w. w) cells (base + at) code
stands_in cells base words each at [] h = tt
stands_in cells base words each at (i ∷ is) h =
    let zero_more : at + 0 ≡ at = omega arith in
    let here : slice_get words at ≡ Some (Int (pos (number_of i))) =
    ap (slice_get words) (sym zero_more) ∙ h 0 i refl in
    let further : base + (at + 1) ≡ base + at + 1 = omega arith in (
      ap (look_face (λ w. w)) (each at (Int (pos (number_of i))) here),
      subst (λ a. Stands (λ w. w) cells a is) further (stands_in cells base words each (at + 1) is (later h)),
    )
  where
    later : seq.CodeStands words at (i ∷ is) → seq.CodeStands words (at + 1) is
    later h k j e = let n : at + 1 + k ≡ at + suc k = omega arith in ap (slice_get words) n ∙ h (suc k) j e

-- ---- C12

-- the offset of `fail`
pub record FailAt (c : ComponentFields) : Type 0 where
  pub offset : ℕ
  pub is : c.fail_at ≡ Some offset
  pub word : slice_get c.code offset ≡ Some (Int (pos 0))

zero_is : (o : Option Word) → is_zero_word o ≡ true → o ≡ Some (Int (pos 0))
zero_is (Some (Int n)) e = let z : n ≡ pos 0 = (Decides-int_eq n (pos 0)).0 e in ap (λ x. Some (Int x)) z
zero_is (Some (Mem m)) e = absurd cc
zero_is (Some (Seal m)) e = absurd cc
zero_is (Some (Sealed m x)) e = absurd cc
zero_is None e = absurd cc

pub fail_of : (p : PartSeen) → IsPart p → p.trusted ≡ true → FailAt p.component
unfolding c12
fail_of p h trusted =
    by_offset p.component.fail_at refl
    (not-false _ (kept p h 12 1 (c12 p.component) (twelfth p trusted) (omega arith)))
  where
    by_offset : (o : Option ℕ) → p.component.fail_at ≡ o
        → is_zero_word (code_at p.component p.component.fail_at) ≡ true → FailAt p.component
    by_offset None e z = let f : false ≡ true =
        sym (ap (λ o. is_zero_word (code_at p.component o)) e) ∙ z in absurd cc
    by_offset (Some o) e z =
        record {
          offset = o;
          is = e;
          word =
              zero_is (slice_get p.component.code o)
              (sym (ap (λ o. is_zero_word (code_at p.component o)) e) ∙ z);
        }

-- the offset of the literal
pub record LiteralAt (c : ComponentFields) : Type 0 where
  pub offset : ℕ
  pub is : c.literal_at ≡ Some offset
  pub word : slice_get c.code offset ≡ Some (Seal (all_seals c))

same_seals : (a b : SealFields) → a.base ≡ b.base → a.end ≡ b.end → a.cur ≡ b.cur → a ≡ b
same_seals a b base end cur = λ i. record { base = base i; end = end i; cur = cur i }

tests : (a b c : Bool) → ((a && b) && c) ≡ true → (a ≡ true) × (b ≡ true) × (c ≡ true)
tests true true true e = (refl, refl, refl)
tests true true false e = absurd cc
tests true false c e = absurd cc
tests false b c e = absurd cc

over_seals : (c : ComponentFields) (o : Option Word) → is_over_seals c o ≡ true
    → o ≡ Some (Seal (all_seals c))
over_seals c (Some (Seal s)) e =
    let t = tests (s.base == c.seals.base) (s.end + 1 == c.seals.base + c.seals.count)
    (int_eq s.cur (pos c.seals.base)) e in
    let base = eqb-true s.base c.seals.base t.0 in
    let end = eqb-true (s.end + 1) (c.seals.base + c.seals.count) t.1 in
    let last : s.end ≡ c.seals.base + c.seals.count - 1 = omega (arith, end) in
    let same : s ≡ all_seals c =
    same_seals s (all_seals c) base last ((Decides-int_eq s.cur (pos c.seals.base)).0 t.2) in
    ap (λ x. Some (Seal x)) same
over_seals c (Some (Int n)) e = absurd cc
over_seals c (Some (Mem m)) e = absurd cc
over_seals c (Some (Sealed m x)) e = absurd cc
over_seals c None e = absurd cc

pub literal_of : (p : PartSeen) → IsPart p → p.trusted ≡ true → 0 < length p.component.sites
    → LiteralAt p.component
unfolding c12
literal_of p h trusted some =
    let fine :
    (has_sites p.component
    && not (is_over_seals p.component (code_at p.component p.component.literal_at))) ≡ false =
    kept p h 12 3 (c12 p.component) (twelfth p trusted) (omega arith) in
    by_offset p.component.literal_at refl (asked _ _ (lt-ltb 0 (length p.component.sites) some) fine)
  where
    asked : (a b : Bool) → a ≡ true → (a && not b) ≡ false → b ≡ true
    asked true b e f = not-false b f
    asked false b e f = absurd cc

    by_offset : (o : Option ℕ) → p.component.literal_at ≡ o
        → is_over_seals p.component (code_at p.component p.component.literal_at) ≡ true
        → LiteralAt p.component
    by_offset None e z = let f : false ≡ true =
        sym (ap (λ o. is_over_seals p.component (code_at p.component o)) e) ∙ z in absurd cc
    by_offset (Some o) e z = record {
      offset = o;
      is = e;
      word = over_seals p.component (slice_get p.component.code o)
          (sym (ap (λ o. is_over_seals p.component (code_at p.component o)) e) ∙ z);
    }

-- ---- the code of a trusted part

-- what the rules K say of sites and of entries
abbrev pub SitesStand : Type 0
SitesStand = (c : ComponentFields) → IsComponent c → IsKept c → (i : ℕ) → i < length c.sites
    → seq.SiteStands c i

abbrev pub EntriesStand : Type 0
EntriesStand = (c : ComponentFields) → IsComponent c → IsKept c → (o : ℕ) → begins_entry c o ≡ true
    → seq.EntryStands c o

one : {x y : ℕ} (o : Option ℕ) → o ≡ Some x → o ≡ Some y → x ≡ y
one {x} {y} o e f = let g : Some x ≡ Some y = sym e ∙ f in cc

pub any_of : {A : Type 0} (f : A → Bool) (xs : List A) (x : A) → Contains xs x → f x ≡ true
    → list_any f xs ≡ true
any_of f [] x m t = absurd (omega (arith, m.1))
any_of f (y ∷ ys) x (zero, lt, e) t = let h : f y ≡ true = ap f e ∙ t in rw h refl
any_of f (y ∷ ys) x (suc k, lt, e) t = let h : list_any f ys ≡ true =
    any_of f ys x (k, omega (arith, lt), e) t in rw h (or_right (f y) true refl)

entry_begins : (c : ComponentFields) (e : Export) → Contains c.exports e → begins_entry c e.offset ≡ true
unfolding begins_entry
entry_begins c e m = any_of (λ x. x.offset == e.offset) c.exports e m (eq-eqb e.offset e.offset refl)

fail_number : number_of Fail ≡ 0
unfolding number_of
fail_number = refl

pub trusted_stand : SitesStand → EntriesStand → (parts : List PartSeen) (size : ℕ) (s : Run)
    → ((k : ℕ) (p : PartSeen) → slice_get parts k ≡ Some p → IsPart p)
    → Linked parts size → IsStart parts size s → TrustedInCells parts s.maps
trusted_stand sites entries parts size s each linked start k p at trusted =
    record { fail = fail.offset; fail_is = fail.is; fails = fails; entries = at_entry; sites = at_site }
  where
    c : ComponentFields
    c = p.component

    part : IsPart p
    part = each k p at

    fail : FailAt p.component
    fail = fail_of p (each k p at) trusted

    word : (o : ℕ) (w : Word) → slice_get p.component.code o ≡ Some w
        → cell s.maps.cells (p.component.code_base + o) ≡ Some w
    word o w is = code_stands parts size s linked start k o p w at is

    stands : (o : ℕ) (code : List Instr) → seq.CodeStands p.component.code o code
        → StandsIn s.maps p.component o code
    stands = stands_in s.maps.cells p.component.code_base p.component.code word

    fails : StandsIn s.maps p.component fail.offset (Fail ∷ [])
    fails = (
      ap (look_face (λ w. w)) (word fail.offset (Int (pos 0)) fail.word)
          ∙ ap (λ n. Some (Number (pos n))) (sym fail_number),
      tt,
    )

    at_entry : (e : Export) → Contains p.component.exports e
        → StandsIn s.maps p.component e.offset (entry_code fail.offset e.offset p.component.stack_base)
    at_entry e m =
        let x = entries p.component part.limits (part.flow trusted) e.offset (entry_begins p.component e m) in
        let same : x.fail ≡ fail.offset = one p.component.fail_at x.fail_is fail.is in
        subst (λ f. StandsIn s.maps p.component e.offset (entry_code f e.offset p.component.stack_base))
        same (stands e.offset (entry_code x.fail e.offset p.component.stack_base) x.entry)

    at_site : (index offset : ℕ) → slice_get p.component.sites index ≡ Some offset
        → SiteInCells s.maps p.component fail.offset index offset
    at_site index offset is =
        let within = slice_get_within p.component.sites index offset is in
        let x = sites p.component part.limits (part.flow trusted) index within in
        let o : slice_index p.component.sites index ≡ offset =
        get_or_from_slice_get p.component.sites index offset 0 is in
        let same : x.fail ≡ fail.offset = one p.component.fail_at x.fail_is fail.is in
        let literal = literal_of p part trusted (omega (arith, within)) in
        let lit : x.literal ≡ literal.offset = one p.component.literal_at x.literal_is literal.is in
        record {
          literal = literal.offset;
          literal_is = literal.is;
          seals = word literal.offset (Seal (all_seals p.component)) literal.word;
          call = stands offset (call_code literal.offset offset index)
              (subst (λ n. seq.CodeStands p.component.code n (call_code literal.offset n index))
              o (subst (λ l. seq.CodeStands p.component.code (slice_index p.component.sites index)
              (call_code l (slice_index p.component.sites index) index)) lit x.call));
          back = stands (offset + CALL_WORDS)
              (return_code fail.offset (offset + CALL_WORDS) p.component.stack_base)
              (subst (λ n. seq.CodeStands p.component.code (n + CALL_WORDS)
              (return_code fail.offset (n + CALL_WORDS) p.component.stack_base)) o
              (subst (λ f. seq.CodeStands p.component.code (slice_index p.component.sites index + CALL_WORDS)
              (return_code f (slice_index p.component.sites index + CALL_WORDS) p.component.stack_base))
              same x.back));
        }
