-- The walk over the code, once from its first word to its end: which row is current where, and the
-- first rule of K5 to K10 that is broken.
use Rattle.std.specs.Prelude.{◌≡◌, ℕ, zero, suc, ◌+◌, ◌⊎◌, nat_lt, Bool, true, false, ◌&&◌, ◌||◌}
use Rattle.std.specs.Prelude.{List, [], ◌∷◌, length, slice_get, Option, Some, None, if◌then◌else◌}
use Rattle.std.specs.Option.{option_or}
use Rattle.std.specs.List.{list_all}
use Rattle.cap_words.specs.declared.Word.{Word}
use Rattle.cap_words.specs.declared.Word.TheVariants.{Int}
use Rattle.component_file.specs.declared.component.Kind.{Kind}
use Rattle.component_file.specs.declared.component.Kind.TheVariants as kind
use Rattle.component_file.specs.declared.component.ComponentFields.{ComponentFields}
use Rattle.component_check.specs.Rules.{is_at}
use Rattle.lcm_isa.specs.declared.Instr.{Instr}
use Rattle.lcm_isa.specs.declared.Reg.{Reg}
use Rattle.lcm_isa.specs.declared.Reg.TheVariants.{Stk, Dat, C1, C2, A0, A1, A2, A3, G0, G1, G2}
use Rattle.lcm_isa.specs.Numbers.{decode_of}
use Rattle.call_sequence.specs.declared.TheConstants.{SITE_WORDS, ENTRY_WORDS}
use Rattle.call_sequence.specs.Kinds.{Row, kind_of, below_any, row_below, entry_row, clean_row}
use Rattle.call_sequence.specs.declared.flow.Flow.{Flow}
use Rattle.call_sequence.specs.declared.flow.Flow.TheVariants.{Breaks as breaks, Flows as flows}
use Rattle.call_sequence.specs.declared.flow.Walk.{Walk}
use Rattle.call_sequence.specs.declared.flow.Walk.TheVariants.{Before as before, Ended as ended}
use Rattle.call_sequence.specs.declared.flow.Walk.TheVariants.{Broken as broken}
use Rattle.call_sequence.specs.Flow.{flow, is_stk}
use Rattle.call_sequence.specs.Places.{begins_entry, begins_site, declared}

-- the instruction that stands here
abbrev pub instr_in : Option Word → Option Instr
instr_in (Some (Int z)) = decode_of z
instr_in (Some _) = None
instr_in None = None

unfoldable pub instr_at : ComponentFields → ℕ → Option Instr
instr_at c o = instr_in (slice_get c.code o)

-- the walk goes on where the rule is kept
unfoldable pub keep : ℕ → ℕ → Bool → Walk → Walk
keep rule o b w = if b then w else broken rule o

-- where a row is current, it is below another
abbrev pub comes_in : Option Row → Row → Bool
comes_in None there = true
comes_in (Some r) there = row_below r there

abbrev pub is_data : Kind → Bool
is_data kind.DataCap = true
is_data _ = false

-- the registers that a call passes on as they are
abbrev pub passed : List Reg
passed = C1 ∷ C2 ∷ A0 ∷ A1 ∷ A2 ∷ A3 ∷ G0 ∷ G1 ∷ G2 ∷ []

abbrev pub passes : Row → Bool
passes r = list_all (λ p. below_any (kind_of r p)) passed

-- what a site asks of the registers
unfoldable pub site_ready : Row → Bool
site_ready r = is_stk (kind_of r Stk) && (is_data (kind_of r Dat) && passes r)

-- there is a row, and this one is below it
abbrev pub goes_into : Row → Option Row → Bool
goes_into r None = false
goes_into r (Some there) = row_below r there

-- where a jump may go: to the `fail`, to an entry, or to a declared row
unfoldable pub good_target : ComponentFields → Row → ℕ → Bool
good_target c r t =
    is_at c.fail_at t || ((row_below r entry_row && begins_entry c t) || goes_into r (declared c t))

abbrev pub flow_of : Option Instr → ℕ → Row → Flow
flow_of None o r = breaks 5
flow_of (Some i) o r = flow i o r

abbrev pub after_flow : ComponentFields → ℕ → Row → Flow → Walk
after_flow c o r (breaks rule) = broken rule o
after_flow c o r (flows None after) = before (o + 1) after
after_flow c o r (flows (Some t) after) = keep 7 o (good_target c r t) (before (o + 1) after)

-- a word before which a row is current
unfoldable pub at_row : ComponentFields → ℕ → Row → Walk
at_row c o r =
    if begins_site c o
    then keep 10 o (site_ready r) (before (o + SITE_WORDS) (Some clean_row))
    else after_flow c o r (flow_of (instr_at c o) o r)

-- a word before which no row is current
unfoldable pub past : ComponentFields → ℕ → Walk
past c o = before (if begins_site c o then o + SITE_WORDS else o + 1) None

-- a word that isn't an entry's first, with the row that is declared here and the one that is current
unfoldable pub at_word : ComponentFields → ℕ → Option Row → Option Row → Walk
at_word c o (Some d) current = keep 8 o (comes_in current d) (at_row c o d)
at_word c o None (Some r) = at_row c o r
at_word c o None None = past c o

-- an entry's first word
abbrev pub at_entry : ℕ → Option Row → Walk
at_entry o current = keep 8 o (comes_in current entry_row) (before (o + ENTRY_WORDS) (Some clean_row))

-- the end of the code
abbrev pub at_end : ComponentFields → Option Row → Walk
at_end c None = ended
at_end c (Some r) = broken 9 (length c.code)

unfoldable pub next_from : ComponentFields → ℕ → Option Row → Walk
next_from c o current =
    if nat_lt o (length c.code)
    then (if begins_entry c o then at_entry o current else at_word c o (declared c o) current)
    else at_end c current

abbrev pub next : ComponentFields → Walk → Walk
next c (before o current) = next_from c o current
next c ended = ended
next c (broken rule o) = broken rule o

-- where it stands after so many steps
abbrev pub walk : ComponentFields → ℕ → Walk
walk c zero = before 0 None
walk c (suc n) = next c (walk c n)

-- the walk comes here
abbrev pub Arrives : ComponentFields → Walk → Type 0
Arrives c w = (n : ℕ) × (walk c n ≡ w)

-- the row at an offset: at an entry's first word the entry's, elsewhere the one that is current
-- when the walk comes here, once a declared row here has become the current one
abbrev pub RowAt : ComponentFields → ℕ → Row → Type 0
RowAt c o r =
    ((begins_entry c o ≡ true) × (r ≡ entry_row))
    ⊎ ((begins_entry c o ≡ false)
    × ((current : Option Row) × Arrives c (before o current) × (option_or (declared c o) current ≡ Some r)))
