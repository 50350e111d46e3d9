-- Calls that the lines of a run leave open, told of the plain machine alone: each ret line closes the newest,
-- and while one is open no instruction touches an address of its range, but the two of its own return that
-- read and wipe its first word. docs/HEADLINE.md has it in words.
use Rattle.std.specs.Prelude.{◌≡◌, ◌⊎◌, ℕ, ◌+◌, ◌≤◌, ◌++◌, Bool, List, [], ◌∷◌, None, ℤ}
use Rattle.std.specs.List.{Contains}
use Rattle.cap_words.specs.declared.Word.{Word}
use Rattle.cap_words.specs.declared.Word.TheVariants.{Mem, Sealed}
use Rattle.cap_words.specs.declared.Sealable.TheVariants.{Mem as MemIn}
use Rattle.lcm_isa.specs.declared.Reg.{Reg}
use Rattle.lcm_isa.specs.declared.Reg.TheVariants.{Pc, Stk}
use Rattle.lcm_isa.specs.declared.Instr.TheVariants.{Xjmp}
use Rattle.lcm_machine.specs.Maps.{State}
use Rattle.lcm_machine.specs.Places.{reg}
use Rattle.lcm_machine.specs.Row.{faces, cell_faces, fetch, some}
use Rattle.lcm_machine.specs.Run.{plain}
use Rattle.lcm_machine.specs.Runs.{code_cap}
use Rattle.lcm_machine.specs.Touched.{Touches}
use Rattle.call_sequence.specs.declared.TheConstants.{CALL_WORDS}
use Rattle.call_sequence.specs.Sequences.{load_word, wipe_word}
use Rattle.call_sequence.specs.SequenceRuns.{stack_cap}
use Rattle.linked_starts.specs.declared.owners.Site.{Site}
use Rattle.linked_starts.specs.Parts.{PartSeen}
use Rattle.linked_starts.specs.Started.{StartSeen}
use Rattle.linked_starts.specs.LinkedStarts.{IsLinkedStart}
use Rattle.run_lines.specs.Layout.{layout, part_name}
use Rattle.run_lines.specs.Lines.{Line, call, ret, enter, pass, leave}
use Rattle.run_lines.specs.Runs.{written}

-- ---- calls that lines leave open

-- a call as its lines tell it
pub record LineTold : Type 0 where
  pub part : List ℕ
  pub site : ℕ
  pub base : ℕ
  pub last : ℕ
  pub words : List Word

-- those open after some lines, newest first: a call line opens one, and a ret line closes the newest
abbrev pub open_behind : List LineTold → List Line → List LineTold
open_behind opened [] = opened
open_behind opened (call inward part site base last args words ∷ ls) =
    open_behind (record { part = part; site = site; base = base; last = last; words = words } ∷ opened) ls
open_behind [] (ret inward part site base last a0 words ∷ ls) = open_behind [] ls
open_behind (c ∷ opened) (ret inward part site base last a0 words ∷ ls) = open_behind opened ls
open_behind opened (enter part export stk args back ∷ ls) = open_behind opened ls
open_behind opened (pass p0 p1 p2 ∷ ls) = open_behind opened ls
open_behind opened (leave part a0 ∷ ls) = open_behind opened ls

-- before each ret line that is written a call is open, and the newest one has its part, site, base, last and
-- words
abbrev pub RetsCloseTheNewest : StartSeen → Type 0
RetsCloseTheNewest s =
    (n : ℕ) (before more : List Line)
    → (inward : Bool) (part : List ℕ) (site base last : ℕ) (a0 : Word) (words : List Word)
    → written s n ≡ before ++ ret inward part site base last a0 words ∷ more
    → (older : List LineTold)
    × (open_behind [] before
    ≡ record { part = part; site = site; base = base; last = last; words = words } ∷ older)

-- ---- what is done to their ranges

-- the registers and cells after so many instructions
abbrev pub after : StartSeen → ℕ → State Word
after s n = (plain n s.state).maps

-- The instruction after n others is a word of the return of a call's own site. The `xjmp` that led there
-- opened that site's code with the call's very range, as the call sealed them; the call was the newest that
-- was open, and stk was the stack below its range.
pub record IsOwnReturn (s : StartSeen) (n : ℕ) (c : LineTold) (word : ℕ) : Type 0 where
  pub site : Site
  pub is_site : Contains s.sites site
  pub of_part : part_name (layout s) site.part ≡ c.part
  pub index : site.index ≡ c.site
  pub first : ℕ
  pub end : ℕ
  pub at_pc : reg (after s n).regs Pc ≡ Mem (code_cap first end (site.at + CALL_WORDS + word))
  pub before : ℕ
  pub so_many : n ≡ before + 1 + word
  pub r1 : Reg
  pub r2 : Reg
  pub next : Word
  pub jumps : fetch (faces (λ w. w) (after s before) Pc) (cell_faces (λ w. w) (after s before))
      ≡ some (Xjmp r1 r2) next
  pub code : reg (after s before).regs r1
      ≡ Sealed site.seal (MemIn (code_cap first end (site.at + CALL_WORDS)))
  pub range : reg (after s before).regs r2 ≡ Sealed site.seal (MemIn (stack_cap c.base c.last c.base))
  pub older : List LineTold
  pub newest : open_behind [] (written s before) ≡ c ∷ older
  pub last_below : ℕ
  pub right_below : last_below + 1 ≡ c.base
  pub stk_at : ℤ
  pub stk : reg (after s before).regs Stk
      ≡ Mem (record (stack_cap (layout s).stack.base last_below 0) { addr = stk_at })

-- two words of a return load the call's first word and wipe it
abbrev pub ReadsOrWipes : StartSeen → ℕ → LineTold → ℕ → Type 0
ReadsOrWipes s n c a = (a ≡ c.base) × (IsOwnReturn s n c load_word ⊎ IsOwnReturn s n c wipe_word)

-- the instruction after n others touches an address of an open call's range
pub record UsesRange (s : StartSeen) (n a : ℕ) (c : LineTold) : Type 0 where
  pub goes : (plain n s.state).end ≡ None
  pub is_open : Contains (open_behind [] (written s n)) c
  pub low : c.base ≤ a
  pub high : a ≤ c.last
  pub touches : Touches (λ w. w) (after s n) a

abbrev pub RangesAreLeftAlone : StartSeen → Type 0
RangesAreLeftAlone s = (n a : ℕ) (c : LineTold) → UsesRange s n a c → ReadsOrWipes s n c a

-- ---- both, of every linked start

pub record CallsAreKept (s : StartSeen) : Type 0 where
  pub bracketed : RetsCloseTheNewest s
  pub alone : RangesAreLeftAlone s

abbrev pub OpenCallsAreKept : Type 0
OpenCallsAreKept =
    (parts : List PartSeen) (size : ℕ) (s : StartSeen) → IsLinkedStart parts size s → CallsAreKept s

-- that it speaks of something: a start whose run uses the range of an open call
pub record UseThere : Type 0 where
  pub parts : List PartSeen
  pub size : ℕ
  pub start : StartSeen
  pub linked : IsLinkedStart parts size start
  pub n : ℕ
  pub address : ℕ
  pub told : LineTold
  pub used : UsesRange start n address told
