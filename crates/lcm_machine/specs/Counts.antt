-- How many places have a capability over an address.
use Rattle.std.specs.Prelude.{ℕ, List, ◌++◌, map}
use Rattle.std.specs.List.{count_by}
use Rattle.std.specs.FinMap.{keys}
use Rattle.cap_words.specs.declared.Word.{Word}
use Rattle.lcm_isa.specs.Numbers.{all_regs}
use Rattle.lcm_machine.specs.declared.Place.{Place}
use Rattle.lcm_machine.specs.declared.Place.TheVariants.{R, Cell}
use Rattle.lcm_machine.specs.Maps.{State}
use Rattle.lcm_machine.specs.Row.{word_at}
use Rattle.lcm_machine.specs.Regions.{word_over}

-- the places of a state: the sixteen registers, and the cells by their addresses
abbrev pub places : {W : Type 0} → State W → List Place
places s = map R all_regs ++ map Cell (keys s.cells)

-- how many places have, as their word or under its seal, a memory capability over an address
unfoldable pub cover_count : {W : Type 0} → (W → Word) → State W → ℕ → ℕ
cover_count look s a = count_by (λ p. word_over look (word_at s p) a) (places s)
