-- Where an instruction stands, and what a word is to a layout.
use Rattle.std.proofs.Common.{◌≡◌, ℕ, ◌-◌, ◌<◌, ◌≤◌, pos, Bool, true, false, Option, Some, None, ap, ◌∙◌}
use Rattle.std.proofs.Common.{refl}
use Rattle.std.specs.Prelude.{if◌then◌else◌, is_some, option_and_then}
use Rattle.cap_words.specs.declared.Word.{Word}
use Rattle.cap_words.specs.declared.Word.TheVariants.{Mem}
use Rattle.cap_words.specs.declared.Face.{Face}
use Rattle.cap_words.specs.declared.Face.TheVariants.{Memory}
use Rattle.cap_words.specs.Faces.{target_of}
use Rattle.lcm_isa.specs.declared.Reg.TheVariants.{Pc}
use Rattle.lcm_isa.specs.declared.Instr.{Instr}
use Rattle.lcm_isa.specs.Numbers.{number_of, IsInstr}
use Rattle.lcm_machine.specs.Maps.{State}
use Rattle.lcm_machine.specs.Row.{faces, jump_of, jump_in, jump_at}
use Rattle.lcm_machine.specs.Runs.{code_cap}
use Rattle.lcm_machine.proofs.Offers.{shows, fetch_at}
use Rattle.call_sequence.specs.declared.TheConstants.{SITE_WORDS}
use Rattle.trusted_border.specs.declared.layout.Layout.{Layout}
use Rattle.trusted_border.specs.Layout.{trusted_owner}
use Rattle.run_lines.specs.Layout.{site_before, site_word}
use Rattle.headline.proofs.alike.Calm.{id, Num}

-- an instruction that stands at pc
pub jump_is : (s : State Word) (base last at : ℕ) (i : Instr) → s.regs.pc ≡ Mem (code_cap base last at)
    → base ≤ at → at ≤ last → Num s at (pos (number_of i)) → IsInstr i
    → jump_at id s ≡ jump_of i
unfolding jump_at
jump_is s base last at i e low high h ok = ap jump_in (fetch_at id id s base last at i e low high h ok)

-- where pc stands, trusted or not
pub word_at : (l : Layout) (off a : ℕ) (f : Face) (r : Option ℕ) → target_of f ≡ Some a
    → site_before l off a ≡ r → is_some (trusted_owner l f) ≡ true → site_word l off f ≡ r
unfolding site_word
word_at l off a f r t e k = ap (λ b. option_and_then (site_before l off) (if b then target_of f else None)) k
    ∙ ap (option_and_then (site_before l off)) t ∙ e

pub word_none : (l : Layout) (off a : ℕ) (f : Face) → target_of f ≡ Some a → site_before l off a ≡ None
    → site_word l off f ≡ None
unfolding site_word
word_none l off a f t e = by_trust (is_some (trusted_owner l f))
  where
    by_trust : (b : Bool) → option_and_then (site_before l off) (if b then target_of f else None) ≡ None
    by_trust true = ap (option_and_then (site_before l off)) t ∙ e
    by_trust false = refl

pub shown_at : (s : State Word) (base last at : ℕ) → s.regs.pc ≡ Mem (code_cap base last at)
    → faces id s Pc ≡ Memory (code_cap base last at)
shown_at s base last at e = shows id id s Pc (Mem (code_cap base last at)) e

-- no site ends at these addresses
abbrev pub NoEnd : Layout → ℕ → ℕ → Type 0
NoEnd l low high = (a : ℕ) → low ≤ a → a < high → site_before l (SITE_WORDS - 1) a ≡ None
