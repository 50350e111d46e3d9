-- In the run of the instance code outside comes, enters the module at its export, and comes back after its
-- call.
use Rattle.std.proofs.Common.{◌≡◌, ℕ, ◌+◌, zero, suc, true, false, [], ◌∷◌, inl, Some, None, refl, sym, ap}
use Rattle.std.proofs.Common.{subst, ◌∙◌, arith}
use Rattle.std.specs.List.{Contains}
use Rattle.cap_words.specs.declared.Word.{Word}
use Rattle.cap_words.specs.declared.Word.TheVariants.{Mem}
use Rattle.cap_words.specs.declared.Content.TheVariants.{Mem as MemC}
use Rattle.cap_words.specs.Face.{opened_of}
use Rattle.cap_words.specs.Linear.{left_of}
use Rattle.lcm_isa.specs.declared.Reg.TheVariants.{Pc, Rcode, Rdata, Dat, C1, C2}
use Rattle.lcm_isa.specs.declared.Instr.TheVariants.{Xjmp}
use Rattle.lcm_isa.proofs.Offers.{decode_of-number_of}
use Rattle.lcm_machine.specs.declared.Place.TheVariants.{R}
use Rattle.lcm_machine.specs.Maps.{State}
use Rattle.lcm_machine.specs.Places.{reg}
use Rattle.lcm_machine.specs.Cells.{cell}
use Rattle.lcm_machine.specs.Row.{faces, cell_faces, fetch, some, put, step_of, went}
use Rattle.lcm_machine.specs.Run.{Run, moved, next_by, next_state, plain}
use Rattle.lcm_machine.specs.Acts.{Fetches}
use Rattle.lcm_machine.proofs.Offers.{left, plain_more, step_at, xjmp_goes}
use Rattle.call_sequence.specs.declared.TheConstants.{CALL_WORDS}
use Rattle.call_sequence.specs.Sequences.{call_code, return_code, entry_code}
use Rattle.call_sequence.specs.SequenceRuns.{stack_cap}
use Rattle.linked_starts.specs.Owners.{owner_of}
use Rattle.linked_starts.specs.Parts.{PartSeen}
use Rattle.linked_starts.specs.Start.{start_cell, part_word}
use Rattle.linked_starts.proofs.Offers.{site_of}
use Rattle.trusted_border.specs.Layout.{site_code}
use Rattle.overlay_machine.specs.declared.words.OWord.TheVariants.{Plain}
use Rattle.overlay_machine.specs.State.{OState, frame_of}
use Rattle.overlay_machine.specs.Flat.{flat, IsFlat}
use Rattle.overlay_machine.proofs.Offers.{cell-flat}
use Rattle.lcm_machine.proofs.Offers.{cell-without_out}
use Rattle.run_lines.specs.Layout.{part_name}
use Rattle.run_lines.specs.Runs.{written}
use Rattle.headline.specs.OpenCalls.{LineTold, open_behind, after}
use Rattle.headline.specs.Alike.{StartLinesAgree}
use Rattle.headline.specs.Headline.{HeadlineHolds}
use Rattle.confinement.specs.Confined.{IsAmong, InCode, Enters, AtExport, AtReturnPoint}
use Rattle.source_instance.specs.Entered.{EnteredThere}
use Rattle.source_instance.proofs.Module.{as_word, site_at, trusted}
use Rattle.source_instance.proofs.Parts.{first, parts}
use Rattle.source_instance.proofs.Start.{start, is_start_of}
use Rattle.source_instance.proofs.Machine.{L, has, has_in, its_code, own_code}
use Rattle.source_instance.proofs.Enters as enters
use Rattle.source_instance.proofs.Calls as calls
use Rattle.source_instance.proofs.Run.{to_enter, entered, called, frame_words, enter_line, call_line}

abbrev id : Word → Word
id w = w

-- ---- where instructions come from

-- an instruction is fetched from where pc leads, if there is a cell
fetches103 : (t : State Word) (w : Word) → t.regs.pc ≡ Mem (its_code 103) → cell t.cells 103 ≡ Some w
    → Fetches id t 103
unfolding faces cell_faces
fetches103 t w pc there = rw (pc, there) refl

fetches104 : (t : State Word) (w : Word) → t.regs.pc ≡ Mem (its_code 104) → cell t.cells 104 ≡ Some w
    → Fetches id t 104
unfolding faces cell_faces
fetches104 t w pc there = rw (pc, there) refl

fetches3 : (t : State Word) (w : Word) → t.regs.pc ≡ Mem (own_code 3) → cell t.cells 3 ≡ Some w
    → Fetches id t 3
unfolding faces cell_faces entry_code call_code return_code
fetches3 t w pc there = rw (pc, there) refl

-- the word after the call
abbrev back : ℕ
back = 1 + site_at + CALL_WORDS

fetches_back : (t : State Word) (w : Word) → t.regs.pc ≡ Mem (own_code back) → cell t.cells back ≡ Some w
    → Fetches id t back
unfolding faces cell_faces entry_code call_code return_code
fetches_back t w pc there = rw (pc, there) refl

-- ---- which addresses are the module's

none103 : InCode first 103 → ⊥
unfolding entry_code call_code return_code
none103 h = cc

none104 : InCode first 104 → ⊥
unfolding entry_code call_code return_code
none104 h = cc

outside : (a : ℕ) → (InCode first a → ⊥) → (p : PartSeen) → IsAmong parts true p → ¬ (InCode p a)
outside a free p ((zero, lt, e), trusted) h = free (subst (λ q. InCode q a) (sym e) h)
outside a free p ((suc zero, lt, e), trusted) h =
    let bad : false ≡ true = ap (λ (q : PartSeen). q.trusted) e ∙ trusted in cc
outside a free p ((suc (suc k), lt, e), trusted) h = absurd (omega (arith, lt))

inside3 : InCode first 3
unfolding entry_code call_code return_code
inside3 = refl

inside_back : InCode first back
unfolding entry_code call_code return_code
inside_back = refl

cell103 : start_cell parts 8 103 ≡ Some (as_word (Xjmp C1 C2))
unfolding start_cell part_word entry_code call_code return_code
cell103 = refl

cell3 : (w : Word) × (start_cell parts 8 3 ≡ Some w)
unfolding start_cell part_word entry_code call_code return_code
cell3 = (_, refl)

cell_back : (w : Word) × (start_cell parts 8 back ≡ Some w)
unfolding start_cell part_word entry_code call_code return_code
cell_back = (_, refl)

-- ---- the adversary goes back

-- the instruction after n others, once the machine has gone on
next_goes : (n : ℕ) (v : State Word) → (plain n start.state).end ≡ None
    → step_of id id (after start n) ≡ went v → ((plain (n + 1) start.state).end ≡ None)
    × (after start (n + 1) ≡ v)
unfolding next_state
next_goes n v e goes =
    let same : plain (n + 1) start.state ≡ moved (went v) (plain n start.state) =
    plain_more n start.state ∙ ap (λ x. next_by x (plain n start.state)) e
    ∙ ap (λ r. moved r (plain n start.state)) goes in
    (ap (λ (r : Run). r.end) same, ap (λ (r : Run). r.maps) same)

module _ (t : State Word) (m : IsFlat L calls.o26 t) where
  at_g : cell t.cells 104 ≡ Some (as_word (Xjmp Rcode Rdata))
  unfolding flat
  at_g = cell-flat L calls.o26 t 104 (Plain (as_word (Xjmp Rcode Rdata))) m calls.still

  pc_is : t.regs.pc ≡ Mem (its_code 104)
  unfolding flat
  pc_is = m.regs Pc

  fetched : fetch (faces id t Pc) (cell_faces id t) ≡ some (Xjmp Rcode Rdata) (Mem (its_code 105))
  unfolding faces cell_faces
  fetched = rw (pc_is, at_g, decode_of-number_of (Xjmp Rcode Rdata) tt) refl

  code_is : opened_of t.regs.rcode ≡ Some (record { seal = 12; content = MemC (own_code back) })
  unfolding flat site_code owner_of entry_code call_code return_code
  code_is = ap opened_of (m.regs Rcode)

  half_is : opened_of t.regs.rdata ≡ Some (record { seal = 12; content = MemC (stack_cap 116 118 116) })
  unfolding flat frame_of site_code owner_of entry_code call_code return_code
  half_is = ap opened_of (m.regs Rdata)

  abbrev gone_back : State Word
  gone_back =
      put (put (put t (R Rdata) (left_of id id (reg t.regs Rdata))) (R Pc) (Mem (own_code back))) (R Dat)
      (Mem (stack_cap 116 118 116))

  goes_back : step_of id id t ≡ went gone_back
  goes_back = step_at id id t (Xjmp Rcode Rdata) (Mem (its_code 105)) fetched
      ∙ xjmp_goes id id Rcode Rdata (Mem (its_code 105)) t
      (put t (R Rdata) (left_of id id (reg t.regs Rdata))) 12 (own_code back)
      (MemC (stack_cap 116 118 116)) code_is half_is refl refl refl (left id id t Rdata)

  there : (w : Word) × (cell t.cells back ≡ Some w)
  unfolding flat
  there = (
    cell_back.0,
    cell-flat L calls.o26 t back (Plain cell_back.0) m
        (cell-without_out calls.pushed 116 118 back (inl (omega arith))
        ∙ has_in calls.pushed calls.pushed_same back cell_back.0 (omega arith) cell_back.1),
  )

-- ---- both

-- the call of the module's site
abbrev told : LineTold
told = record { part = 116 ∷ []; site = 0; base = 116; last = 118; words = frame_words }

its_name : part_name L 0 ≡ 116 ∷ []
unfolding part_name owner_of
its_name = refl

-- after so many instructions it goes back
abbrev to_back : ℕ
to_back = 44 + CALL_WORDS

module _ (headline : HeadlineHolds) where
  abbrev Matched : ℕ → OState → Type 0
  Matched n o = ((plain n start.state).end ≡ None) × IsFlat L o (after start n)

  before : Matched 7 enters.o7
  before = (headline parts 8 start is_start_of).agrees.matched 7 enters.o7 to_enter.reached

  behind : Matched 8 enters.o8
  behind = (headline parts 8 start is_start_of).agrees.matched 8 enters.o8 entered.reached

  out : Matched to_back calls.o26
  out = (headline parts 8 start is_start_of).agrees.matched to_back calls.o26 called.reached

  comes_in : Enters parts start 7 first 3
  unfolding flat
  comes_in = record {
    from = record {
      at = 103;
      comes = (
        before.0,
        fetches103 (after start 7) (as_word (Xjmp C1 C2)) (before.1.regs Pc)
            (cell-flat L enters.o7 (after start 7) 103 (Plain (as_word (Xjmp C1 C2))) before.1
            (has 103 _ cell103)),
      );
      outside = outside 103 none103;
    };
    trusted = ((0, omega arith, refl), refl);
    comes = (
      behind.0,
      fetches3 (after start 8) cell3.0 (behind.1.regs Pc)
          (cell-flat L enters.o8 (after start 8) 3 (Plain cell3.0) behind.1 (has 3 _ cell3.1)),
    );
    inside = inside3;
  }

  at_its_export : AtExport start 7 first 3
  unfolding flat
  at_its_export = record {
    export = record { name = 102 ∷ []; offset = 2; shared = true };
    listed = (0, omega arith, refl);
    at = refl;
    own_data = behind.1.regs Dat;
  }

  next : ((plain (to_back + 1) start.state).end ≡ None)
      × (after start (to_back + 1) ≡ gone_back (after start to_back) out.1)
  next =
      next_goes to_back (gone_back (after start to_back) out.1) out.0
      (goes_back (after start to_back) out.1)

  comes_back : Enters parts start to_back first back
  comes_back =
      let t = after start to_back in
      record {
        from = record {
          at = 104;
          comes = (out.0, fetches104 t (as_word (Xjmp Rcode Rdata)) (pc_is t out.1) (at_g t out.1));
          outside = outside 104 none104;
        };
        trusted = ((0, omega arith, refl), refl);
        comes = (
          next.0,
          subst (λ y. Fetches id y back) (sym next.1)
              (fetches_back (gone_back t out.1) (there t out.1).0 refl (there t out.1).1),
        );
        inside = inside_back;
      }

  at_its_return : StartLinesAgree → AtReturnPoint parts start to_back first back
  at_its_return agree =
      let open_call : open_behind [] (written start to_back) ≡ told ∷ [] =
      ap (open_behind []) ((agree parts 8 start is_start_of).matched to_back (enter_line ∷ call_line ∷ [])
      calls.o26 called.lines) in
      record {
        site = site_of trusted site_at;
        is_site = (0, omega arith, refl);
        own = refl;
        at = refl;
        told = told;
        part = its_name;
        index = refl;
        is_open = subst (λ cs. Contains cs told) (sym open_call) (0, omega arith, refl);
        range = ap (λ (y : State Word). y.regs.dat) next.1;
        newest = λ ends. ([], open_call);
      }

  pub entered_there : StartLinesAgree → EnteredThere
  entered_there agree = record {
    parts = parts;
    size = 8;
    start = start;
    linked = is_start_of;
    part = first;
    n = 7;
    to = 3;
    enters = comes_in;
    at_export = at_its_export;
    m = to_back;
    back = back;
    comes_back = comes_back;
    at_return = at_its_return agree;
  }
