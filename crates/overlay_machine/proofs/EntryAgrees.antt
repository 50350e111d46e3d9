-- An entry is one overlay step and twenty plain ones.
use Rattle.std.proofs.Common.{◌≡◌, ℕ, ◌+◌, pos, false, Some, None, refl, ap, sym, ◌∙◌, arith}
use Rattle.std.specs.Prelude.{Option}
use Rattle.std.proofs.lemmas.Bool.{false_from_ne_true}
use Rattle.cap_words.specs.declared.Word.{Word}
use Rattle.cap_words.specs.declared.Word.TheVariants.{Int, Mem}
use Rattle.cap_words.specs.declared.CapFields.{CapFields}
use Rattle.cap_words.specs.declared.Face.{Face}
use Rattle.cap_words.specs.declared.Face.TheVariants.{Number, Memory, Seals, Sealed}
use Rattle.cap_words.specs.Face.{face_of, FaceInOrder}
use Rattle.cap_words.specs.Faces.{memory_in}
use Rattle.cap_words.specs.Linear.{zero_word}
use Rattle.cap_words.specs.Stacks.{is_stack_from}
use Rattle.lcm_isa.specs.declared.Reg.{Reg}
use Rattle.lcm_isa.specs.declared.Reg.TheVariants.{Pc, Rcode, Rdata, Stk, Dat, T1, T2, C1, C2, A0, A1, A2, A3}
use Rattle.lcm_isa.specs.declared.Reg.TheVariants.{G0, G1, G2}
use Rattle.lcm_machine.specs.declared.Place.TheVariants.{R, Cell}
use Rattle.lcm_machine.specs.Maps.{State}
use Rattle.lcm_machine.specs.Places.{reg}
use Rattle.lcm_machine.specs.Row.{faces}
use Rattle.lcm_machine.specs.Runs.{run_of, code_cap}
use Rattle.lcm_machine.specs.Mapped.{SameFaces}
use Rattle.call_sequence.specs.declared.TheConstants.{ENTRY_WORDS}
use Rattle.call_sequence.specs.SequenceRuns.{is_stack_at}
use Rattle.call_sequence.proofs.Offers.{entry_runs, entry_fails}
use Rattle.trusted_border.specs.declared.layout.Layout.{Layout}
use Rattle.overlay_machine.specs.declared.words.OWord.{OWord}
use Rattle.overlay_machine.specs.declared.words.OWord.TheVariants.{Plain}
use Rattle.overlay_machine.specs.Words.{look}
use Rattle.overlay_machine.specs.State.{OState}
use Rattle.overlay_machine.specs.Step.{goes, need, if_own, own_stack, entry_step}
use Rattle.overlay_machine.specs.Flat.{flat, IsFlat}
use Rattle.overlay_machine.specs.Agree.{EndsAgree, Looks, AtEntry}
use Rattle.overlay_machine.proofs.FlatLemmas.{flat-mem, flat-plain, mem_of_face, HasEntry-flat, both_fail}
use Rattle.overlay_machine.proofs.FlatLemmas.{both_go}
use Rattle.overlay_machine.proofs.OwnStack.{face_of_own, own_parts}

abbrev id : Word → Word
id w = w

not_own : (l : Layout) (x : Face) → if_own l (memory_in x) ≡ None → is_stack_at l.stack.base x ≡ false
not_own l (Number z) e = refl
not_own l (Seals z) e = refl
not_own l (Sealed z) e = refl
not_own l (Memory c) e =
    false_from_ne_true (is_stack_from l.stack.base c) (λ h. let k : Some c ≡ None = rw h at e in cc)

module _ (l : Layout) (a : ℕ) (o : OState) (t : State Word) (at_entry : AtEntry l a o) (m : IsFlat l o t)
    (k : Looks l o) where
  pc_is : t.regs.pc ≡ Mem (code_cap at_entry.base at_entry.end a)
  pc_is = m.regs Pc ∙ flat-mem l o.frames _ _ at_entry.pc

  module _ (c : CapFields) where
    abbrev o' : OState
    o' = record o {
      maps = record o.maps {
        regs = record o.maps.regs {
          pc = Plain (Mem (code_cap at_entry.base at_entry.end (a + ENTRY_WORDS)));
          stk = Plain (Mem (record c { addr = pos c.end }));
          t1 = zero_word Plain;
          t2 = zero_word Plain;
        };
      };
    }

    abbrev t' : State Word
    t' = record t {
      regs = record t.regs {
        pc = Mem (code_cap at_entry.base at_entry.end (a + ENTRY_WORDS));
        stk = Mem (record c { addr = pos c.end });
        t1 = Int (pos 0);
        t2 = Int (pos 0);
      };
    }

    plain_is : (x : Word) → x ≡ flat l o.frames (Plain x)
    plain_is x = sym (flat-plain l o.frames x)

    regs : (r : Reg) → reg t'.regs r ≡ flat l o.frames (reg o'.maps.regs r)
    regs Pc = plain_is _
    regs Stk = plain_is _
    regs T1 = plain_is _
    regs T2 = plain_is _
    regs Rcode = m.regs Rcode
    regs Rdata = m.regs Rdata
    regs Dat = m.regs Dat
    regs C1 = m.regs C1
    regs C2 = m.regs C2
    regs A0 = m.regs A0
    regs A1 = m.regs A1
    regs A2 = m.regs A2
    regs A3 = m.regs A3
    regs G0 = m.regs G0
    regs G1 = m.regs G1
    regs G2 = m.regs G2

    abbrev Shows : OWord → Type 0
    Shows w = face_of (flat l o.frames w) ≡ face_of (look w)

    shows : (r : Reg) → Shows (reg o'.maps.regs r)
    shows Pc = ap face_of (flat-plain l o.frames _)
    shows Stk = ap face_of (flat-plain l o.frames _)
    shows T1 = ap face_of (flat-plain l o.frames _)
    shows T2 = ap face_of (flat-plain l o.frames _)
    shows Rcode = k.0 (R Rcode) _ refl
    shows Rdata = k.0 (R Rdata) _ refl
    shows Dat = k.0 (R Dat) _ refl
    shows C1 = k.0 (R C1) _ refl
    shows C2 = k.0 (R C2) _ refl
    shows A0 = k.0 (R A0) _ refl
    shows A1 = k.0 (R A1) _ refl
    shows A2 = k.0 (R A2) _ refl
    shows A3 = k.0 (R A3) _ refl
    shows G0 = k.0 (R G0) _ refl
    shows G1 = k.0 (R G1) _ refl
    shows G2 = k.0 (R G2) _ refl

    places : SameFaces look id (flat l o.frames) o'.maps
    places (R r) w e = let same : reg o'.maps.regs r ≡ w = cc in rw (← same) (shows r)
    places (Cell q) w e = k.0 (Cell q) w e

    overlay_goes : own_stack l o.maps ≡ Some c → entry_step l a o ≡ goes o'
    unfolding entry_step need faces
    overlay_goes e = rw (at_entry.pc, e) refl

    goes_on : own_stack l o.maps ≡ Some c → EndsAgree l (entry_step l a o) (run_of id id ENTRY_WORDS t)
    unfolding own_stack faces
    goes_on e =
        let f = face_of_own l (face_of (look o.maps.regs.stk)) c e in
        let w = mem_of_face (look o.maps.regs.stk) c f.0 in
        let p = own_parts l c f.1 in
        let order : FaceInOrder (Memory c) = rw f.0 at at_entry.in_order in
        let base_is = p.2 in
        both_go l _ _ o' t' (overlay_goes e)
        (entry_runs id id (λ x. refl)
        t at_entry.base at_entry.end a l.stack.base c
        (HasEntry-flat l o t m k at_entry.base at_entry.end a l.stack.base at_entry.entry)
        pc_is (m.regs Stk ∙ flat-mem l o.frames _ c w) p.0 p.1 p.2 (omega (arith, order.0, base_is)) order.1)
        (record { regs = regs; cells = m.cells; spans = m.spans }) (places, k.1)

  refuses : own_stack l o.maps ≡ None → EndsAgree l (entry_step l a o) (run_of id id ENTRY_WORDS t)
  unfolding own_stack faces entry_step need
  refuses e =
      let face_is : face_of t.regs.stk ≡ face_of (look o.maps.regs.stk) =
      ap face_of (m.regs Stk) ∙ k.0 (R Stk) _ refl in
      both_fail l _ _ (rw (at_entry.pc, e) refl) (rw
      (entry_fails id id (λ x. refl)
      t at_entry.base at_entry.end a l.stack.base
      (HasEntry-flat l o t m k at_entry.base at_entry.end a l.stack.base at_entry.entry)
      pc_is (rw face_is at_entry.in_order)
      (ap (is_stack_at l.stack.base) face_is ∙ not_own l (face_of (look o.maps.regs.stk)) e)
      at_entry.small_stack) tt)

  by_stack : (x : Option CapFields) → own_stack l o.maps ≡ x → EndsAgree l (entry_step l a o)
      (run_of id id ENTRY_WORDS t)
  by_stack None e = refuses e
  by_stack (Some c) e = goes_on c e

  pub entry_agrees : EndsAgree l (entry_step l a o) (run_of id id ENTRY_WORDS t)
  entry_agrees = by_stack (own_stack l o.maps) refl
