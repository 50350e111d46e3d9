-- The rules that a component keeps by itself, C1 to C12: each as the places at which it is tried
-- and what breaks it there. docs/RULES.md has the same in words.
use Rattle.std.specs.Prelude.{ℕ, ◌+◌, ◌-◌, ◌==◌, nat_le, nat_lt, Bool, true, false, not, ◌&&◌, ◌||◌, List, []}
use Rattle.std.specs.Prelude.{◌∷◌, ◌++◌, length, map, slice_index, slice_get, pos, Option, Some, None}
use Rattle.std.specs.Prelude.{is_some, if◌then◌else◌}
use Rattle.std.specs.Ordering.{int_eq}
use Rattle.cap_words.specs.declared.Word.{Word}
use Rattle.cap_words.specs.declared.Word.TheVariants.{Int, Mem, Seal, Sealed}
use Rattle.cap_words.specs.declared.CapFields.{CapFields}
use Rattle.cap_words.specs.Linear.{lin_is}
use Rattle.cap_words.specs.Faces.{may_run}
use Rattle.component_file.specs.declared.component.ComponentFields.{ComponentFields}
use Rattle.seal_space.specs.Seals.{has_seal}
use Rattle.component_check.specs.Places.{Test, plainly, each_of, first_below}
use Rattle.component_check.specs.Areas.{code_area, data_area, is_past_end, are_near, has_all}

-- ---- areas and seals

-- 0 code, 1 data, 2 linear area
unfoldable pub c1 : ComponentFields → Test ℕ
c1 c = each_of (
    is_past_end c.code_base (length c.code)
    ∷ is_past_end c.data_base (length c.data_words)
    ∷ is_past_end c.linear.base c.linear.count ∷ [])

-- 0 code and data, 1 code and linear area, 2 data and linear area
unfoldable pub c2 : ComponentFields → Test ℕ
c2 c = each_of (
    are_near (code_area c) (data_area c)
    ∷ are_near (code_area c) c.linear
    ∷ are_near (data_area c) c.linear ∷ [])

-- they end past the last seal, or the closure seal is one of them
abbrev pub seals_are_bad : ComponentFields → Bool
seals_are_bad c = is_past_end c.seals.base c.seals.count || has_seal c.seals c.closure

unfoldable pub c3 : ComponentFields → Test ℕ
c3 c = each_of (seals_are_bad c ∷ [])

-- ---- slots and exports

abbrev pub slot_of : ComponentFields → ℕ → ℕ
slot_of c i = slice_index (map (λ x. x.slot) c.imports) i

-- its two words are not both in the data, or it is less than 2 above the one before
abbrev pub slot_is_bad : ComponentFields → ℕ → Bool
slot_is_bad c i =
    nat_le (length c.data_words) (slot_of c i + 1)
    || (nat_lt 0 i && nat_lt (slot_of c i) (slot_of c (i - 1) + 2))

unfoldable pub c4 : ComponentFields → Test ℕ
c4 c = plainly (length c.imports) (slot_is_bad c)

abbrev pub is_zero_word : Option Word → Bool
is_zero_word (Some (Int n)) = int_eq n (pos 0)
is_zero_word (Some _) = false
is_zero_word None = false

abbrev pub slot_is_free : ComponentFields → ℕ → Bool
slot_is_free c i =
    is_zero_word (slice_get c.data_words (slot_of c i))
    && is_zero_word (slice_get c.data_words (slot_of c i + 1))

unfoldable pub c5 : ComponentFields → Test ℕ
c5 c = plainly (length c.imports) (λ i. not (slot_is_free c i))

abbrev pub export_offset : ComponentFields → ℕ → ℕ
export_offset c i = slice_index (map (λ e. e.offset) c.exports) i

unfoldable pub c6 : ComponentFields → Test ℕ
c6 c = plainly (length c.exports) (λ i. nat_le (length c.code) (export_offset c i))

-- ---- words

-- the words of code and data, one after another
abbrev pub words : ComponentFields → List Word
words c = c.code ++ c.data_words

abbrev pub holds_of : (Word → Bool) → Option Word → Bool
holds_of test (Some w) = test w
holds_of test None = false

-- linear in the own linear area without x, or normal in the own code, or in the own data without x
abbrev pub is_own : ComponentFields → CapFields → Bool
is_own c m =
    if lin_is m.lin then not (may_run m.perm) && has_all c.linear m.base m.end
    else has_all (code_area c) m.base m.end || (not (may_run m.perm) && has_all (data_area c) m.base m.end)

abbrev pub is_foreign : ComponentFields → Word → Bool
is_foreign c (Mem m) = not (is_own c m)
is_foreign c (Int n) = false
is_foreign c (Seal s) = false
is_foreign c (Sealed o x) = false

unfoldable pub c7 : ComponentFields → Test ℕ
c7 c = plainly (length (words c)) (λ i. holds_of (is_foreign c) (slice_get (words c) i))

abbrev pub linear_in : Option Word → Option CapFields
linear_in (Some (Mem m)) = if lin_is m.lin then Some m else None
linear_in (Some _) = None
linear_in None = None

abbrev pub linear_at : ComponentFields → ℕ → Option CapFields
linear_at c i = linear_in (slice_get (words c) i)

-- two linear capabilities over one address
abbrev pub meet : Option CapFields → Option CapFields → Bool
meet (Some a) (Some b) = nat_le a.base b.end && nat_le b.base a.end
meet (Some a) None = false
meet None b = false

-- one before it meets it
abbrev pub meets_before : ComponentFields → ℕ → Bool
meets_before c j = is_some (first_below (λ i. meet (linear_at c i) (linear_at c j)) j)

unfoldable pub c8 : ComponentFields → Test ℕ
c8 c = plainly (length (words c)) (meets_before c)

abbrev pub is_foreign_seal : ComponentFields → Word → Bool
is_foreign_seal c (Seal s) = not (nat_le c.seals.base s.base && nat_lt s.end (c.seals.base + c.seals.count))
is_foreign_seal c (Int n) = false
is_foreign_seal c (Mem m) = false
is_foreign_seal c (Sealed o x) = false

unfoldable pub c9 : ComponentFields → Test ℕ
c9 c = plainly (length (words c)) (λ i. holds_of (is_foreign_seal c) (slice_get (words c) i))

-- ---- trusted parts

abbrev pub is_no_int : Word → Bool
is_no_int (Int n) = false
is_no_int (Mem m) = true
is_no_int (Seal s) = true
is_no_int (Sealed o x) = true

-- the offset is given, and it is this one
abbrev pub is_at : Option ℕ → ℕ → Bool
is_at (Some o) i = o == i
is_at None i = false

unfoldable pub c10 : ComponentFields → Test ℕ
c10 c = plainly (length c.code) (λ i. holds_of is_no_int (slice_get c.code i) && not (is_at c.literal_at i))

-- the place is a word index, counted from the first code word
unfoldable pub c11 : ComponentFields → Test ℕ
c11 c = record {
  count = length c.data_words;
  broken = λ i. holds_of is_no_int (slice_get c.data_words i);
  place = λ i. length c.code + i;
}

-- the code word at an offset that may be missing
abbrev pub code_at : ComponentFields → Option ℕ → Option Word
code_at c (Some o) = slice_get c.code o
code_at c None = None

-- the seal capability over the own seals, at the first of them
abbrev pub is_over_seals : ComponentFields → Option Word → Bool
is_over_seals c (Some (Seal s)) =
    ((s.base == c.seals.base) && (s.end + 1 == c.seals.base + c.seals.count))
    && int_eq s.cur (pos c.seals.base)
is_over_seals c (Some _) = false
is_over_seals c None = false

abbrev pub has_sites : ComponentFields → Bool
has_sites c = nat_lt 0 (length c.sites)

-- 0 no linear area; 1 fail; 2 a seal for each site; 3 the literal, with sites; 4 none, without
unfoldable pub c12 : ComponentFields → Test ℕ
c12 c = each_of (
    nat_lt 0 c.linear.count
    ∷ not (is_zero_word (code_at c c.fail_at))
    ∷ nat_lt c.seals.count (length c.sites)
    ∷ (has_sites c && not (is_over_seals c (code_at c c.literal_at)))
    ∷ (not (has_sites c) && is_some c.literal_at) ∷ [])

-- ---- all of them, in their order

abbrev pub rules_of_trusted : Bool → ComponentFields → List (Test ℕ)
rules_of_trusted true c = c10 c ∷ c11 c ∷ c12 c ∷ []
rules_of_trusted false c = []

abbrev pub rules_c : ComponentFields → Bool → List (Test ℕ)
rules_c c trusted =
    c1 c ∷ c2 c ∷ c3 c ∷ c4 c ∷ c5 c ∷ c6 c ∷ c7 c ∷ c8 c ∷ c9 c ∷ rules_of_trusted trusted c
