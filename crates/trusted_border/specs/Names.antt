-- The names of numbers: of the parts, entries and sites of a layout.
use Rattle.std.specs.Prelude.{ℕ, ◌==◌, List, [], Option, Some, None, find, slice_get}
use Rattle.linked_starts.specs.declared.owners.Site.{Site}
use Rattle.linked_starts.specs.declared.owners.Entry.{Entry}
use Rattle.linked_starts.specs.declared.owners.Owner.{Owner}
use Rattle.trusted_border.specs.declared.layout.Layout.{Layout}

-- empty where a number is of none, which no event of a start has
abbrev pub name_of : Option Owner → List ℕ
name_of None = []
name_of (Some o) = o.name

abbrev pub numbered_owner : Layout → ℕ → Option Owner
numbered_owner l part = find (λ o. o.part == part) l.owners

unfoldable pub part_name : Layout → ℕ → List ℕ
part_name l part = name_of (numbered_owner l part)

abbrev pub entry_text : Option Entry → List ℕ
entry_text None = []
entry_text (Some e) = e.name

abbrev pub entry_of : ℕ → Option Owner → Option Entry
entry_of k None = None
entry_of k (Some o) = slice_get o.entries k

unfoldable pub entry_name : Layout → ℕ → ℕ → List ℕ
entry_name l part k = entry_text (entry_of k (numbered_owner l part))

-- the site of a number, and that of part 0 at index 0 where it is of none
abbrev pub no_site : Site
no_site = record { part = 0; index = 0; seal = 0; at = 0 }

abbrev pub site_or : Option Site → Site
site_or None = no_site
site_or (Some s) = s

unfoldable pub site_of : Layout → ℕ → Site
site_of l i = site_or (slice_get l.sites i)
