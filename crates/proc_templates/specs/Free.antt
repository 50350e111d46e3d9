-- Which items need nothing of their surroundings, and the offset after items.
use Rattle.std.specs.Prelude.{ℕ, ◌+◌, Bool, true, false, List, [], ◌∷◌, length}
use Rattle.std.specs.List.{list_all}
use Rattle.lcm_isa.specs.declared.Reg.TheVariants.{T2}
use Rattle.lcm_isa.specs.declared.Instr.{Instr}
use Rattle.lcm_isa.specs.declared.Instr.TheVariants.{Halt, Jnz}
use Rattle.call_sequence.specs.declared.TheConstants.{RETURN_WORDS, SITE_WORDS, ENTRY_WORDS}
use Rattle.proc_templates.specs.Items.{Item, does, guards, goes, goes_if, finishes, label, site, entry}
use Rattle.proc_templates.specs.Items.{leaves}
use Rattle.proc_templates.specs.Ready.{is_low, is_quiet}

-- during which t2 may lead to the `fail`
unfoldable pub is_guarded : Instr → Bool
is_guarded (Jnz T2 r) = is_low r
is_guarded i = is_quiet i

unfoldable pub ends_or_goes : Instr → Bool
ends_or_goes Halt = true
ends_or_goes i = is_quiet i

unfoldable pub is_free : Item → Bool
is_free (does i) = ends_or_goes i
is_free (guards is) = list_all is_guarded is
is_free site = true
is_free label = true
is_free _ = false

-- the offset after an item, and after items
abbrev pub behind : ℕ → Item → ℕ
behind o (does i) = o + 1
behind o (guards is) = o + 3 + length is
behind o (goes far) = o + 3
behind o (goes_if far r) = o + 3
behind o finishes = o + 3
behind o label = o
behind o site = o + SITE_WORDS
behind o entry = o + ENTRY_WORDS
behind o leaves = o + RETURN_WORDS

abbrev pub after : ℕ → List Item → ℕ
after o [] = o
after o (x ∷ xs) = after (behind o x) xs
