-- Whose code pc runs, and which sites and entries there are.
use Rattle.std.specs.Prelude.{ℕ, ◌==◌, ◌^◌, nat_lt, nat_le, Bool, ◌&&◌, not, List, Option, Some, None}
use Rattle.std.specs.Prelude.{is_some, if◌then◌else◌, slice_get, find, position, option_and_then}
use Rattle.std.specs.List.{list_any}
use Rattle.cap_words.specs.declared.TheConstants.{LAST_PLACE}
use Rattle.cap_words.specs.declared.CapFields.{CapFields}
use Rattle.cap_words.specs.declared.Face.{Face}
use Rattle.cap_words.specs.declared.Face.TheVariants.{Memory}
use Rattle.cap_words.specs.Faces.{perm_number, target_of}
use Rattle.cap_words.specs.Linear.{lin_is}
use Rattle.lcm_machine.specs.declared.cells.Span.{Span}
use Rattle.linked_starts.specs.declared.owners.Site.{Site}
use Rattle.linked_starts.specs.declared.owners.Owner.{Owner}
use Rattle.trusted_border.specs.declared.layout.Layout.{Layout}
use Rattle.trusted_border.specs.declared.layout.SiteCode.{SiteCode}

-- normal, with rx, over the whole code of a trusted part
abbrev pub runs_part : CapFields → Owner → Bool
runs_part c o =
    o.trusted && (perm_number c.perm == 3) && not (lin_is c.lin)
    && (c.base == o.code.base) && (c.end == o.code.end)

-- the trusted part whose code pc runs: pc is trusted where there is one
abbrev pub trusted_owner : Layout → Face → Option Owner
trusted_owner l (Memory c) = find (runs_part c) l.owners
trusted_owner l _ = None

-- where pc is trusted, the address at which it stands, if that is in its range
abbrev pub trusted_at : Layout → Face → Option ℕ
trusted_at l pc = if is_some (trusted_owner l pc) then target_of pc else None

-- sites and entries are numbered by their places, in 32 bits
abbrev pub numbered : ℕ → Option ℕ
numbered i = if nat_lt i (2 ^ 32) then Some i else None

abbrev pub number_of : {X : Type 0} → (X → Bool) → List X → Option ℕ
number_of test xs = option_and_then numbered (position test xs)

-- the site whose call begins at an address
abbrev pub site_at : Layout → ℕ → Option ℕ
site_at l a = number_of (λ s. s.at == a) l.sites

-- whether an entry of a trusted part is at an address
abbrev pub has_entry_at : Layout → ℕ → Bool
has_entry_at l a = list_any (λ o. o.trusted && list_any (λ e. e.at == a) o.entries) l.owners

-- the addresses of a span are some, and within the address space
abbrev pub is_code : Span → Bool
is_code s = nat_le s.base s.end && nat_le s.end LAST_PLACE

-- a site with its part's code
abbrev pub with_code : Site → Owner → Option SiteCode
with_code s o =
    if is_code o.code
    then Some (record { seal = s.seal; base = o.code.base; end = o.code.end; at = s.at })
    else None

abbrev pub code_in : List Owner → Site → Option SiteCode
code_in os s = option_and_then (with_code s) (find (λ o. o.part == s.part) os)

-- the site of a number, where there is one
unfoldable pub site_code : Layout → ℕ → Option SiteCode
site_code l i = option_and_then (code_in l.owners) (slice_get l.sites i)
