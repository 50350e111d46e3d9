-- Where entries, sites and declared rows stand in the code.
use Rattle.std.specs.Prelude.{ℕ, ◌+◌, ◌==◌, nat_lt, Bool, ◌&&◌, ◌||◌, Option, option_map}
use Rattle.std.specs.List.{list_any, find}
use Rattle.component_file.specs.declared.component.ComponentFields.{ComponentFields}
use Rattle.call_sequence.specs.declared.TheConstants.{SITE_WORDS, ENTRY_WORDS}
use Rattle.call_sequence.specs.Kinds.{Row}

-- an export begins here
unfoldable pub begins_entry : ComponentFields → ℕ → Bool
begins_entry c o = list_any (λ e. e.offset == o) c.exports

-- a site begins here
unfoldable pub begins_site : ComponentFields → ℕ → Bool
begins_site c o = list_any (λ s. s == o) c.sites

-- the offset is one of so many words after the first
abbrev pub is_behind : ℕ → ℕ → ℕ → Bool
is_behind first size o = nat_lt first o && nat_lt o (first + size)

-- within an entry, past its first word
unfoldable pub in_entry : ComponentFields → ℕ → Bool
in_entry c o = list_any (λ e. is_behind e.offset ENTRY_WORDS o) c.exports

-- within a site, past its first word
unfoldable pub in_site : ComponentFields → ℕ → Bool
in_site c o = list_any (λ s. is_behind s SITE_WORDS o) c.sites

abbrev pub is_inside : ComponentFields → ℕ → Bool
is_inside c o = in_entry c o || in_site c o

-- the row that is declared here
unfoldable pub declared : ComponentFields → ℕ → Option Row
declared c o = option_map (λ r. r.kinds) (find (λ r. r.offset == o) c.rows)
