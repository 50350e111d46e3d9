-- Where parts stand: those that are movable stand after the others, in their order.
use Rattle.std.specs.Prelude.{ℕ, zero, suc, ◌+◌, ◌-◌, ◌==◌, nat_lt, min, ℤ, pos, ◌+ℤ◌, ◌-ℤ◌, Bool, true}
use Rattle.std.specs.Prelude.{not, ◌||◌, List, map, length, Option, Some, None, if◌then◌else◌}
use Rattle.std.specs.List.{list_all}
use Rattle.cap_words.specs.declared.TheConstants.{LAST_PLACE}
use Rattle.cap_words.specs.declared.Word.{Word}
use Rattle.cap_words.specs.declared.CapFields.{CapFields}
use Rattle.cap_words.specs.declared.SealFields.{SealFields}
use Rattle.cap_words.specs.declared.Word.TheVariants.{Int, Mem, Seal, Sealed}
use Rattle.component_file.specs.declared.component.ComponentFields.{ComponentFields}
use Rattle.component_check.specs.Areas.{is_past_end}
use Rattle.component_check.specs.Rules.{words}
use Rattle.lcm_machine.specs.Table.{fits_64}
use Rattle.linked_starts.specs.declared.moving.Shift.{Shift}
use Rattle.linked_starts.specs.declared.moving.Move.{Move}

-- ---- one part, moved

abbrev pub shifted : Shift → ℕ → ℕ
shifted s n = s.to + (n - s.from)

-- an address or a current seal rises as far, whatever it is
abbrev pub shifted_int : Shift → ℤ → ℤ
shifted_int s z = z +ℤ (pos s.to -ℤ pos s.from)

-- where there is nothing, the base stays
abbrev pub shifted_base : Shift → ℕ → ℕ → ℕ
shifted_base s base zero = base
shifted_base s base (suc n) = shifted s base

abbrev pub moved_cap : Shift → CapFields → CapFields
moved_cap s c = record c { base = shifted s c.base; end = shifted s c.end; addr = shifted_int s c.addr }

abbrev pub moved_seals : Shift → SealFields → SealFields
moved_seals s c = record c { base = shifted s c.base; end = shifted s c.end; cur = shifted_int s c.cur }

-- code and data have no sealed words
abbrev pub moved_word : Move → Word → Word
moved_word m (Int n) = Int n
moved_word m (Mem c) = Mem (moved_cap m.addresses c)
moved_word m (Seal s) = Seal (moved_seals m.seals s)
moved_word m (Sealed o x) = Sealed o x

-- words, moved where they are
abbrev pub words_at : Option Move → List Word → List Word
words_at None ws = ws
words_at (Some m) ws = map (moved_word m) ws

abbrev pub moved : Move → ComponentFields → ComponentFields
moved m c = record c {
  closure = shifted m.seals c.closure;
  seals = record { base = shifted_base m.seals c.seals.base c.seals.count; count = c.seals.count };
  linear = record { base = shifted_base m.addresses c.linear.base c.linear.count; count = c.linear.count };
  code_base = shifted m.addresses c.code_base;
  code = map (moved_word m) c.code;
  data_base = shifted m.addresses c.data_base;
  data_words = map (moved_word m) c.data_words;
}

-- moved, or where it is
abbrev pub moved_by : Option Move → ComponentFields → ComponentFields
moved_by None c = c
moved_by (Some m) c = moved m c

-- ---- how far

-- where something begins, and another number where it is empty
abbrev pub base_or : ℕ → ℕ → ℕ → ℕ
base_or other base count = if count == 0 then other else base

abbrev pub lowest_address : ComponentFields → ℕ
lowest_address c = min c.code_base (min c.data_base (base_or c.code_base c.linear.base c.linear.count))

abbrev pub lowest_seal : ComponentFields → ℕ
lowest_seal c = min c.closure (base_or c.closure c.seals.base c.seals.count)

-- ---- L10: a moved part has addresses and seals that there are, and integers of the machine

abbrev pub areas_end_late : ComponentFields → Bool
areas_end_late c =
    is_past_end c.code_base (length c.code) || is_past_end c.data_base (length c.data_words)
    || is_past_end c.linear.base c.linear.count

abbrev pub seals_end_late : ComponentFields → Bool
seals_end_late c = nat_lt LAST_PLACE c.closure || is_past_end c.seals.base c.seals.count

abbrev pub points_in_range : Word → Bool
points_in_range (Mem c) = fits_64 c.addr
points_in_range (Seal s) = fits_64 s.cur
points_in_range _ = true

abbrev pub points_too_far : ComponentFields → Bool
points_too_far c = not (list_all points_in_range (words c))
