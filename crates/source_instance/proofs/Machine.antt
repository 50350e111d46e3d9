-- The overlay of the start: its cells, its states, and its steps by instruction.
use Rattle.std.proofs.Common.{◌≡◌, ℕ, ◌+◌, ◌≤◌, ◌<◌, pos, true, false, List, Option, Some, None, ℤ, ◌+ℤ◌}
use Rattle.std.proofs.Common.{refl, ap, ◌∙◌, arith, le-leb}
use Rattle.std.specs.Prelude.{option_map}
use Rattle.cap_words.specs.declared.Word.{Word}
use Rattle.cap_words.specs.declared.Word.TheVariants.{Mem, Sealed}
use Rattle.cap_words.specs.declared.Sealable.TheVariants.{Mem as MemIn}
use Rattle.cap_words.specs.declared.Perm.TheVariants.{Rw, Rwx}
use Rattle.cap_words.specs.declared.Lin.TheVariants.{Normal, Linear}
use Rattle.cap_words.specs.declared.CapFields.{CapFields}
use Rattle.cap_words.specs.Linear.{is_linear}
use Rattle.cap_words.specs.Face.{face_of}
use Rattle.cap_words.specs.Faces.{may_read, face_linear}
use Rattle.lcm_isa.specs.declared.Instr.{Instr}
use Rattle.lcm_isa.specs.declared.Reg.TheVariants.{Pc, Stk}
use Rattle.lcm_isa.specs.declared.Reg.{Reg}
use Rattle.lcm_isa.specs.declared.Operand.TheVariants.{R, Imm}
use Rattle.lcm_isa.specs.declared.Instr.TheVariants.{Load, Store, Cca, Move}
use Rattle.lcm_isa.specs.Numbers.{IsInstr}
use Rattle.lcm_isa.proofs.Offers.{decode_of-number_of}
use Rattle.lcm_machine.specs.declared.Place.{Place}
use Rattle.lcm_machine.specs.declared.Place.TheVariants.{R, Cell}
use Rattle.lcm_machine.specs.Table.{is_pc, fits_64}
use Rattle.lcm_machine.specs.Places.{reg}
use Rattle.lcm_machine.specs.Maps.{Regs, State}
use Rattle.lcm_machine.specs.Cells.{cell, set_cell}
use Rattle.lcm_machine.specs.Row.{faces, cell_faces, look_face, fetch, some, row, went, put}
use Rattle.lcm_machine.specs.Runs.{code_cap}
use Rattle.lcm_machine.proofs.Offers.{cell-set_other, shows, fetch_at, step_at, stays, load_goes, store_goes}
use Rattle.lcm_machine.proofs.Offers.{cca_goes, set_goes, move_goes}
use Rattle.linked_starts.specs.Start.{start_cell}
use Rattle.trusted_border.specs.declared.layout.Layout.{Layout}
use Rattle.trusted_border.specs.declared.events.Event.{Event}
use Rattle.trusted_border.specs.Layout.{trusted_at}
use Rattle.overlay_machine.specs.declared.words.OWord.{OWord}
use Rattle.overlay_machine.specs.declared.words.OWord.TheVariants.{Plain}
use Rattle.overlay_machine.specs.declared.cases.Case.TheVariants.{Other}
use Rattle.overlay_machine.specs.State.{OpenFrame, OState, Cells}
use Rattle.overlay_machine.specs.Words.{look}
use Rattle.overlay_machine.specs.Step.{goes, with_frames, case_fetched, case_trusted, case_of, other_step}
use Rattle.overlay_machine.specs.Step.{step_by, weight_by, overlay_step, weight_of}
use Rattle.overlay_machine.specs.Events.{jump_seal, note_by, note_jump, event_after, owner_now, step_event}
use Rattle.overlay_machine.specs.Seen.{IsOverlayOf}
use Rattle.overlay_machine.specs.Starting.{overlay_at}
use Rattle.overlay_machine.proofs.Offers.{is_overlay, start_word_is}
use Rattle.run_lines.specs.Layout.{layout}
use Rattle.headline.proofs.Offers.{zero_}
use Rattle.proc_templates.specs.Items.{zero_of}
use Rattle.source_instance.proofs.Module.{as_word, behind}
use Rattle.source_instance.proofs.Parts.{parts}
use Rattle.source_instance.proofs.Start.{start, spans, cells_are, is_start_of}

-- ---- cells

abbrev pub L : Layout
L = layout start

abbrev pub M : Cells
M = (overlay_at start).state.maps.cells

over : IsOverlayOf start (overlay_at start)
over = is_overlay parts 8 start is_start_of

pub has : (a : ℕ) (w : Word) → start_cell parts 8 a ≡ Some w → cell M a ≡ Some (Plain w)
has a w e =
    over.cells a ∙ start_word_is parts 8 start is_start_of a ∙ ap (option_map Plain) (cells_are a ∙ e)

-- memory that is as at the start, but for the stack's last three words
abbrev pub IsSame : Cells → Type 0
IsSame m = (a : ℕ) → a < 116 → cell m a ≡ cell M a

pub at_start : IsSame M
at_start a lt = refl

pub has_in : (m : Cells) → IsSame m → (a : ℕ) (w : Word) → a < 116 → start_cell parts 8 a ≡ Some w
    → cell m a ≡ Some (Plain w)
has_in m same a w lt e = same a lt ∙ has a w e

pub set_above : (m : Cells) (q : ℕ) (w : OWord) → IsSame m → 116 ≤ q → IsSame (set_cell m q w)
set_above m q w same high a lt = cell-set_other m q a w (omega (arith, high, lt)) ∙ same a lt

-- ---- states

abbrev pub maps : Regs OWord → Cells → State OWord
maps rs m = record { regs = rs; cells = m; spans = spans }

abbrev pub state : State OWord → List OpenFrame → ℕ → OState
state s fs n = record { maps = s; frames = fs; calls = n }

-- the module's code and data, the adversary's, and the stack up to an end
abbrev pub own_code : ℕ → CapFields
own_code n = code_cap 1 (behind 22) n

abbrev pub own_data : ℕ → CapFields
own_data n = record { perm = Rw; lin = Normal; base = 90; end = 93; addr = pos n }

abbrev pub its_code : ℕ → CapFields
its_code n = record { perm = Rwx; lin = Normal; base = 96; end = 104; addr = pos n }

abbrev pub its_data : ℕ → CapFields
its_data n = record { perm = Rw; lin = Normal; base = 106; end = 109; addr = pos n }

abbrev pub stack : ℕ → ℕ → CapFields
stack e n = record { perm = Rw; lin = Linear; base = 111; end = e; addr = pos n }

-- the pairs: the module's `f`, and the adversary's `g`
abbrev pub f_code : Word
f_code = Sealed 10 (MemIn (own_code 3))

abbrev pub f_data : Word
f_data = Sealed 10 (MemIn (own_data 90))

abbrev pub g_code : Word
g_code = Sealed 30 (MemIn (its_code 104))

abbrev pub g_data : Word
g_data = Sealed 30 (MemIn (its_data 106))

-- ---- steps

-- a step goes on to a state, with this weight and this event
pub record Makes (o q : OState) (n : ℕ) (e : Option Event) : Type 0 where
  pub goes_on : overlay_step L o ≡ goes q
  pub weight : weight_of L o ≡ n
  pub event : step_event L o q ≡ e

-- pc leads to an instruction, before another word of pc, where no call and no entry begins
pub record Stands (o : OState) (i : Instr) (next : CapFields) : Type 0 where
  pub fetched : fetch (faces look o.maps Pc) (cell_faces look o.maps) ≡ some i (Mem next)
  pub place : case_trusted L (trusted_at L (faces look o.maps Pc)) Other ≡ Other

pub own_stands : (o : OState) (a : ℕ) (i : Instr) → look o.maps.regs.pc ≡ Mem (own_code a) → 1 ≤ a
    → a ≤ behind 22
    → cell o.maps.cells a ≡ Some (Plain (as_word i)) → IsInstr i
    → case_trusted L (trusted_at L (faces look o.maps Pc)) Other ≡ Other → Stands o i (own_code (a + 1))
own_stands o a i pc low high there ok place = record {
  fetched = fetch_at look Plain o.maps 1 (behind 22) a i pc low high (ap (look_face look) there) ok;
  place = place;
}

-- what is fetched of the adversary's code
pub its_fetch : (s : State OWord) (a : ℕ) (i : Instr) → look s.regs.pc ≡ Mem (its_code a) → 96 ≤ a → a ≤ 104
    → cell s.cells a ≡ Some (Plain (as_word i)) → IsInstr i
    → fetch (faces look s Pc) (cell_faces look s) ≡ some i (Mem (its_code (a + 1)))
unfolding cell_faces
its_fetch s a i pc low high there ok =
    rw (
      shows look Plain s Pc (Mem (its_code a)) pc,
      le-leb 96 a low,
      le-leb a 104 high,
      ap (look_face look) there,
      decode_of-number_of i ok,
    )

pub its_stands : (o : OState) (a : ℕ) (i : Instr) → look o.maps.regs.pc ≡ Mem (its_code a) → 96 ≤ a → a ≤ 104
    → cell o.maps.cells a ≡ Some (Plain (as_word i)) → IsInstr i
    → case_trusted L (trusted_at L (faces look o.maps Pc)) Other ≡ Other → Stands o i (its_code (a + 1))
its_stands o a i pc low high there ok place =
    record { fetched = its_fetch o.maps a i pc low high there ok; place = place }

-- a step by the table: only an `xjmp` has an event, by the seal that it opens
pub by_row : (o : OState) (m : State OWord) (i : Instr) (next : CapFields) → Stands o i next
    → case_fetched o.maps (some i (Mem next)) ≡ Other → row look Plain i (Mem next) o.maps ≡ went m
    → Makes o (state m o.frames o.calls) 1
    (event_after L (note_jump (option_map (λ p. p.part) (owner_now L o))
    (jump_seal o.maps (some i (Mem next))))
    (state m o.frames o.calls))
unfolding overlay_step weight_of step_event case_of other_step
by_row o m i next at other does = record {
  goes_on =
      ap (λ c. step_by L c o) case
      ∙ ap (with_frames o.frames o.calls) (step_at look Plain o.maps i (Mem next) at.fetched ∙ does);
  weight = ap (weight_by o.maps) case;
  event =
      ap (λ c. event_after L (note_by L o c) q) case
      ∙ ap (λ x. event_after L (note_jump (option_map (λ p. p.part) (owner_now L o)) (jump_seal o.maps x)) q)
      at.fetched;
}
  where
    q : OState
    q = state m o.frames o.calls

    case : case_of L o.maps ≡ Other
    case =
        ap (λ x. case_trusted L (trusted_at L (faces look o.maps Pc)) (case_fetched o.maps x)) at.fetched
        ∙ ap (case_trusted L (trusted_at L (faces look o.maps Pc))) other ∙ at.place

-- ---- by instruction: a place is set, and pc goes on

abbrev pub after : OState → CapFields → Place → OWord → OState
after o next p w = state (put (put o.maps p w) (R Pc) (Plain (Mem next))) o.frames o.calls

pub loads : (o : OState) (next : CapFields) (r b : Reg) (c : CapFields) (at : ℕ) (w : Word)
    → Stands o (Load r b) next → is_pc r ≡ false → look (reg o.maps.regs b) ≡ Mem c → may_read c.perm ≡ true
    → c.addr ≡ pos at → c.base ≤ at → at ≤ c.end → cell o.maps.cells at ≡ Some (Plain w) → is_linear w ≡ false
    → face_linear (face_of w) ≡ false → Makes o (after o next (R r) (Plain w)) 1 None
loads o next r b c at w stands no_pc is may addr low high there normal shown =
    by_row o (after o next (R r) (Plain w)).maps (Load r b) next stands refl
    (load_goes look Plain r b (Mem next) o.maps c at (Plain w) w no_pc is may addr low high there refl normal
    shown)

pub stores : (o : OState) (next : CapFields) (r : Reg) (at : ℕ) (w : OWord) → Stands o (Store Stk r) next
    → look o.maps.regs.stk ≡ Mem (stack 118 at) → 111 ≤ at → at ≤ 118 → cell o.maps.cells at ≡ Some w
    → is_linear (look (reg o.maps.regs r)) ≡ false
    → Makes o (after o next (Cell at) (reg o.maps.regs r)) 1 None
stores o next r at w stands is low high there normal =
    by_row o (after o next (Cell at) (reg o.maps.regs r)).maps (Store Stk r) next stands refl
    (store_goes look Plain Stk r (Mem next) o.maps o.maps (stack 118 at) at w is refl refl low high there
    (stays look Plain o.maps (R r) normal))

pub adds : (o : OState) (next : CapFields) (r : Reg) (z : ℤ) (c : CapFields) (to : ℤ)
    → Stands o (Cca r (Imm z)) next → is_pc r ≡ false → look (reg o.maps.regs r) ≡ Mem c → c.addr +ℤ z ≡ to
    → fits_64 to ≡ true → Makes o (after o next (R r) (Plain (Mem (record c { addr = to })))) 1 None
adds o next r z c to stands no_pc is sum fits =
    by_row o (after o next (R r) (Plain (Mem (record c { addr = to })))).maps (Cca r (Imm z)) next stands refl
    (cca_goes look Plain r (Imm z) (Mem next) o.maps c z to no_pc is refl sum fits)

pub clears : (o : OState) (next : CapFields) (r : Reg) → Stands o (zero_of r) next → is_pc r ≡ false
    → Makes o (after o next (R r) zero_) 1 None
clears o next r stands no_pc =
    by_row o (after o next (R r) zero_).maps (zero_of r) next stands refl
    (set_goes look Plain r (pos 0) (Mem next) o.maps no_pc)

pub copies : (o : OState) (next : CapFields) (r b : Reg) → Stands o (Move r (R b)) next → is_pc r ≡ false
    → is_linear (look (reg o.maps.regs b)) ≡ false
    → Makes o (after o next (R r) (reg o.maps.regs b)) 1 None
copies o next r b stands no_pc normal =
    by_row o (after o next (R r) (reg o.maps.regs b)).maps (Move r (R b)) next stands refl
    (move_goes look Plain r b (Mem next) o.maps o.maps no_pc (stays look Plain o.maps (R b) normal))
