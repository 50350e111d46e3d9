-- The registers and cells of a start, copied.
use Rattle.std.specs.Prelude.{◌≡◌, ◌⊎◌, ◌≤◌, ◌<◌, ℕ, Option, Some, None, option_map}
use Rattle.cap_words.specs.declared.Word.{Word}
use Rattle.lcm_machine.specs.Maps.{Regs, State}
use Rattle.lcm_machine.specs.Cells.{cell}
use Rattle.overlay_machine.specs.declared.words.OWord.{OWord}
use Rattle.overlay_machine.specs.declared.words.OWord.TheVariants.{Plain}
use Rattle.overlay_machine.specs.State.{Cells}

-- registers, each word mapped
abbrev pub mapped_regs : {W V : Type 0} → (W → V) → Regs W → Regs V
mapped_regs f rs = record {
  pc = f rs.pc;
  rcode = f rs.rcode;
  rdata = f rs.rdata;
  stk = f rs.stk;
  dat = f rs.dat;
  t1 = f rs.t1;
  t2 = f rs.t2;
  c1 = f rs.c1;
  c2 = f rs.c2;
  a0 = f rs.a0;
  a1 = f rs.a1;
  a2 = f rs.a2;
  a3 = f rs.a3;
  g0 = f rs.g0;
  g1 = f rs.g1;
  g2 = f rs.g2;
}

abbrev pub plain_regs : Regs Word → Regs OWord
plain_regs rs = mapped_regs Plain rs

-- what a place of memory has when the start's word was copied to it: none stays none, and where the start has
-- no word none is left
abbrev pub copied : Option OWord → Option Word → Option OWord
copied None w = None
copied (Some v) w = option_map Plain w

-- so many addresses from a first one on are copied, up to one
pub record AreCopiedTo (s : State Word) (base at : ℕ) (m m' : Cells) : Type 0 where
  pub inside : (a : ℕ) → base ≤ a → a < at → cell m' a ≡ copied (cell m a) (cell s.cells a)
  pub outside : (a : ℕ) → (a < base) ⊎ (at ≤ a) → cell m' a ≡ cell m a
