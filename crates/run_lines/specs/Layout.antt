-- The sites and parts of a start, and where pc stands among them.
use Rattle.std.specs.Prelude.{ℕ, ◌-◌, nat_le, Bool, Option, None, if◌then◌else◌}
use Rattle.std.specs.Prelude.{is_some, option_map, option_and_then}
use Rattle.cap_words.specs.declared.Face.{Face}
use Rattle.linked_starts.specs.Started.{StartSeen}
use Rattle.trusted_border.specs.declared.layout.Layout.{Layout}
use Rattle.trusted_border.specs.Layout.{trusted_owner, trusted_at, site_at}
-- the names of numbers are a layout's own
pub use Rattle.trusted_border.specs.Names.{name_of, numbered_owner, entry_text, entry_of, no_site, site_or}
unfoldable pub use Rattle.trusted_border.specs.Names.{part_name, entry_name, site_of}

abbrev pub layout : StartSeen → Layout
layout s = record { sites = s.sites; owners = s.owners; stack = s.stack }

-- ---- where pc stands

abbrev pub is_trusted : Layout → Face → Bool
is_trusted l pc = is_some (trusted_owner l pc)

-- the trusted part whose code pc runs
abbrev pub trusted_part : Layout → Face → Option ℕ
trusted_part l pc = option_map (λ o. o.part) (trusted_owner l pc)

-- the site whose call begins so many words before an address
abbrev pub site_before : Layout → ℕ → ℕ → Option ℕ
site_before l offset a = if nat_le offset a then site_at l (a - offset) else None

-- the site whose word of this offset pc names, where pc is trusted
unfoldable pub site_word : Layout → ℕ → Face → Option ℕ
site_word l offset pc = option_and_then (site_before l offset) (trusted_at l pc)
