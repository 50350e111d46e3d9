-- Where `xjmp` fails.
use Rattle.std.proofs.Common.{◌≡◌, inl, inr, ℕ, true, false, Some, None, refl, ap, eq-eqb, ne_eqb}
use Rattle.std.specs.Prelude.{Option, Bool, ◌==◌}
use Rattle.cap_words.specs.declared.Word.{Word}
use Rattle.cap_words.specs.declared.Word.TheVariants.{Int, Mem, Seal, Sealed}
use Rattle.cap_words.specs.declared.Sealable.TheVariants.{Mem as MemIn, Seal as SealIn}
use Rattle.cap_words.specs.declared.Content.TheVariants.{Mem as MemC}
use Rattle.cap_words.specs.declared.CapFields.{CapFields}
use Rattle.cap_words.specs.declared.Opened.{Opened}
use Rattle.cap_words.specs.Face.{opened_of}
use Rattle.cap_words.specs.Faces.{may_run}
use Rattle.cap_words.specs.Linear.{lin_is}
use Rattle.lcm_isa.specs.declared.Reg.{Reg}
use Rattle.lcm_isa.specs.declared.Instr.TheVariants.{Xjmp}
use Rattle.lcm_machine.specs.Maps.{State}
use Rattle.lcm_machine.specs.Places.{reg}
use Rattle.lcm_machine.specs.Table.{ask, need, runs_in, memory_content}
use Rattle.lcm_machine.specs.Row.{opens, row, plan_in}
use Rattle.lcm_machine.specs.Regions.{memory_of}
use Rattle.lcm_machine.specs.Refusals.{HasFailed, Refuses}

module _ {W : Type 0} (look : W → Word) (plain : Word → W) where
  opens_is : (s : State W) (r : Reg) (o : Option Opened) → opened_of (look (reg s.regs r)) ≡ o
      → opens look s r ≡ o
  unfolding opens
  opens_is s r o h = h

  linear_fails : (a b : Reg) (next : Word) (s : State W) (x y : Opened) (c : CapFields) (e : Bool)
      → opens look s a ≡ Some x → opens look s b ≡ Some y → (x.seal == y.seal) ≡ e → x.content ≡ MemC c
      → lin_is c.lin ≡ true → HasFailed (row look plain (Xjmp a b) next s)
  unfolding row plan_in ask need
  linear_fails a b next s x y c true ha hb he hc hl = rw (ha, hb, he, hc, hl) tt
  linear_fails a b next s x y c false ha hb he hc hl = rw (ha, hb, he) tt

  differ_fails : (a b : Reg) (next : Word) (s : State W) (x y : Opened) → opens look s a ≡ Some x
      → opens look s b ≡ Some y → (x.seal == y.seal) ≡ false → HasFailed (row look plain (Xjmp a b) next s)
  unfolding row plan_in ask need
  differ_fails a b next s x y ha hb he = rw (ha, hb, he) tt

  none_fails : (a b : Reg) (next : Word) (s : State W) → opens look s a ≡ None
      → HasFailed (row look plain (Xjmp a b) next s)
  unfolding row plan_in ask need
  none_fails a b next s ha = rw ha tt

  second_fails : (a b : Reg) (next : Word) (s : State W) (x : Opened) → opens look s a ≡ Some x
      → opens look s b ≡ None → HasFailed (row look plain (Xjmp a b) next s)
  unfolding row plan_in ask need
  second_fails a b next s x ha hb = rw (ha, hb) tt

  pub xjmp_fails : (a b : Reg) (next : Word) (s : State W) (x y : Option Opened)
      → opened_of (look (reg s.regs a)) ≡ x → opened_of (look (reg s.regs b)) ≡ y → Refuses x y
      → HasFailed (row look plain (Xjmp a b) next s)
  xjmp_fails a b next s None y ha hb h = none_fails a b next s (opens_is s a _ ha)
  xjmp_fails a b next s (Some x) None ha hb h =
      second_fails a b next s x (opens_is s a _ ha) (opens_is s b _ hb)
  xjmp_fails a b next s (Some x) (Some y) ha hb (inl ne) =
      differ_fails a b next s x y (opens_is s a _ ha) (opens_is s b _ hb) (ne_eqb x.seal y.seal ne)
  xjmp_fails a b next s (Some x) (Some y) ha hb (inr l) =
      linear_fails a b next s x y l.0 (x.seal == y.seal) (opens_is s a _ ha) (opens_is s b _ hb) refl l.1 l.2

  runs_fail : (a b : Reg) (next : Word) (s : State W) (x y : Opened) (c : CapFields) → opens look s a ≡ Some x
      → opens look s b ≡ Some y → (x.seal == y.seal) ≡ true → x.content ≡ MemC c → lin_is c.lin ≡ false
      → may_run c.perm ≡ true → runs_in y.content ≡ true → HasFailed (row look plain (Xjmp a b) next s)
  unfolding row plan_in ask need
  runs_fail a b next s x y c ha hb he hc hl hr hy = rw (ha, hb, he, hc, hl, hr, hy) tt

  -- data may not be code
  pub xjmp_runs_fails : (a b : Reg) (next : Word) (s : State W) (x y : Opened) (c : CapFields)
      → opened_of (look (reg s.regs a)) ≡ Some x → opened_of (look (reg s.regs b)) ≡ Some y → x.seal ≡ y.seal
      → x.content ≡ MemC c → lin_is c.lin ≡ false → may_run c.perm ≡ true → runs_in y.content ≡ true
      → HasFailed (row look plain (Xjmp a b) next s)
  xjmp_runs_fails a b next s x y c ha hb he hc hl hr hy =
      runs_fail a b next s x y c (opens_is s a _ ha) (opens_is s b _ hb) (eq-eqb x.seal y.seal he) hc hl hr hy

abbrev content_memory : Option Opened → Option CapFields
content_memory None = None
content_memory (Some o) = memory_content o.content

-- the memory that a sealed word has under its seal
pub opened-memory : (w : Word) (seal : ℕ) (d : CapFields)
    → opened_of w ≡ Some (record { seal = seal; content = MemC d }) → memory_of w ≡ Some d
opened-memory (Int z) seal d e = cc
opened-memory (Mem c) seal d e = cc
opened-memory (Seal s) seal d e = cc
opened-memory (Sealed o (MemIn c)) seal d e = ap content_memory e
opened-memory (Sealed o (SealIn s)) seal d e = ap content_memory e
