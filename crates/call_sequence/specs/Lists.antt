-- The rules of the lists of sites, exports and declared rows, K1 to K4: each as the places at which
-- it is tried and what breaks it there. docs/RULES.md has the same in words.
use Rattle.std.specs.Prelude.{ℕ, ◌+◌, ◌-◌, ◌==◌, nat_le, nat_lt, Bool, not, ◌&&◌, ◌||◌, List, [], ◌∷◌}
use Rattle.std.specs.Prelude.{length, map, slice_index, unwrap_or, min, Option, Some, None, is_some}
use Rattle.std.specs.List.{list_any}
use Rattle.component_file.specs.declared.TheConstants.{LAST_OFFSET}
use Rattle.component_file.specs.declared.component.ComponentFields.{ComponentFields}
use Rattle.component_check.specs.Places.{Test, plainly}
use Rattle.call_sequence.specs.declared.TheConstants.{SITE_WORDS, ENTRY_WORDS}
use Rattle.call_sequence.specs.Standing.{site_difference, is_entry}
use Rattle.call_sequence.specs.Places.{begins_entry, in_site}

abbrev pub site_of : ComponentFields → ℕ → ℕ
site_of c i = slice_index c.sites i

-- its words are not all in the code, or it begins within the one before
abbrev pub site_is_bad : ComponentFields → ℕ → Bool
site_is_bad c i =
    nat_lt (length c.code) (site_of c i + SITE_WORDS)
    || (nat_lt 0 i && nat_lt (site_of c i) (site_of c (i - 1) + SITE_WORDS))

unfoldable pub k1 : ComponentFields → Test ℕ
k1 c = record { count = length c.sites; broken = site_is_bad c; place = site_of c }

-- the place is the first word that isn't the one of a call and a return
unfoldable pub k2 : ComponentFields → Test ℕ
k2 c = record {
  count = length c.sites;
  broken = λ i. is_some (site_difference c i);
  place = λ i. unwrap_or (site_difference c i) 0;
}

-- two stretches, by their first offsets and how many words they have, have a word in common
abbrev pub overlap : ℕ → ℕ → ℕ → ℕ → Bool
overlap a size b many = nat_lt a (b + many) && nat_lt b (a + size)

-- an entry that begins elsewhere has a word in common with the one that begins here
abbrev pub meets_entry : ComponentFields → ℕ → Bool
meets_entry c o = list_any (λ e. not (e.offset == o) && overlap e.offset ENTRY_WORDS o ENTRY_WORDS) c.exports

abbrev pub meets_site : ComponentFields → ℕ → Bool
meets_site c o = list_any (λ s. overlap s SITE_WORDS o ENTRY_WORDS) c.sites

-- the words of an entry don't stand here, or it meets a site or another entry
unfoldable pub entry_is_bad : ComponentFields → ℕ → Bool
entry_is_bad c o = not (is_entry c o) || (meets_entry c o || meets_site c o)

-- by the offsets of the code, as exports are in the order of their names
unfoldable pub k3 : ComponentFields → Test ℕ
k3 c = plainly (LAST_OFFSET + 1) (λ o. begins_entry c o && entry_is_bad c o)

-- the smaller of two offsets, the first of which may be missing
abbrev pub least_of : Option ℕ → ℕ → ℕ
least_of (Some least) o = min least o
least_of None o = o

abbrev pub row_offset : ComponentFields → ℕ → ℕ
row_offset c i = slice_index (map (λ r. r.offset) c.rows) i

-- it is one of an entry's words
unfoldable pub of_entry : ComponentFields → ℕ → Bool
of_entry c o = list_any (λ e. nat_le e.offset o && nat_lt o (e.offset + ENTRY_WORDS)) c.exports

-- no row may be declared here
unfoldable pub is_misplaced : ComponentFields → ℕ → Bool
is_misplaced c o = nat_le (length c.code) o || (of_entry c o || in_site c o)

unfoldable pub k4 : ComponentFields → Test ℕ
k4 c = record {
  count = length c.rows;
  broken = λ i. is_misplaced c (row_offset c i);
  place = row_offset c;
}

abbrev pub lists : ComponentFields → List (Test ℕ)
lists c = k1 c ∷ k2 c ∷ k3 c ∷ k4 c ∷ []
