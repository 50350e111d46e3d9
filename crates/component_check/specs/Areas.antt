-- The areas of a component: its code, its data and its linear area.
use Rattle.std.specs.Prelude.{ℕ, ◌+◌, ◌==◌, nat_le, nat_lt, Bool, not, ◌&&◌, length}
use Rattle.cap_words.specs.declared.TheConstants.{LAST_PLACE}
use Rattle.component_file.specs.declared.component.Area.{Area}
use Rattle.component_file.specs.declared.component.ComponentFields.{ComponentFields}

abbrev pub code_area : ComponentFields → Area
code_area c = record { base = c.code_base; count = length c.code }

abbrev pub data_area : ComponentFields → Area
data_area c = record { base = c.data_base; count = length c.data_words }

-- it ends past the last address, or the last seal. What is empty ends nowhere
abbrev pub is_past_end : ℕ → ℕ → Bool
is_past_end base count = not (count == 0) && nat_lt (LAST_PLACE + 1) (base + count)

-- two areas meet, or no address lies between them. An empty one is near to nothing
abbrev pub are_near : Area → Area → Bool
are_near a b =
    (not (a.count == 0) && not (b.count == 0))
    && (nat_le b.base (a.base + a.count) && nat_le a.base (b.base + b.count))

-- the addresses from one to another, both included, are all in it
abbrev pub has_all : Area → ℕ → ℕ → Bool
has_all a from to = nat_le a.base from && nat_lt to (a.base + a.count)
