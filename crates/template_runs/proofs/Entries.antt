-- A procedure's entry, and the prologue.
use Rattle.std.proofs.Common.{◌≡◌, ℕ, suc, ◌+◌, ◌-◌, ◌*◌, ◌<◌, ◌≤◌, ℤ, pos, negsuc, ◌+ℤ◌, ◌-ℤ◌, List, [], ◌∷◌}
use Rattle.std.proofs.Common.{◌++◌, length, append_assoc, append-nil, Option, Some, None, Bool, true, false}
use Rattle.std.proofs.Common.{refl, sym, ap, ◌∙◌, subst, arith, length-append}
use Rattle.std.specs.Prelude.{if◌then◌else◌}
use Rattle.std.proofs.lemmas.Int.{ints}
use Rattle.cap_words.specs.declared.Word.{Word}
use Rattle.cap_words.specs.declared.Word.TheVariants.{Int, Mem, Seal, Sealed}
use Rattle.cap_words.specs.declared.CapFields.{CapFields}
use Rattle.cap_words.specs.declared.Sealable.TheVariants.{Mem as MemIn, Seal as SealIn}
use Rattle.cap_words.specs.Linear.{zero_word, left_of}
use Rattle.lcm_isa.specs.declared.Reg.{Reg}
use Rattle.lcm_isa.specs.declared.Reg.TheVariants.{Pc, Stk}
use Rattle.lcm_isa.specs.declared.Operand.TheVariants.{Imm}
use Rattle.lcm_isa.specs.declared.Instr.{Instr}
use Rattle.lcm_isa.specs.declared.Instr.TheVariants.{Store, Cca, Plus}
use Rattle.lcm_machine.specs.declared.FailCause.{FailCause}
use Rattle.lcm_machine.specs.declared.FailCause.TheVariants.{F6, F9}
use Rattle.lcm_machine.specs.Maps.{State, Regs}
use Rattle.lcm_machine.specs.Places.{reg, set_reg}
use Rattle.lcm_machine.specs.Table.{fits_64, ask, need, is_pc}
use Rattle.lcm_machine.specs.Row.{row, failed, faces, plan_in, pc_at}
use Rattle.lcm_machine.specs.Runs.{code_cap}
use Rattle.lcm_machine.proofs.Offers.{shows}
use Rattle.call_sequence.specs.declared.TheConstants.{ENTRY_WORDS}
use Rattle.call_sequence.specs.Holds.{data_cap, part_stack_cap}
use Rattle.call_sequence.specs.Places.{begins_entry}
use Rattle.linked_starts.specs.Parts.{PartSeen}
use Rattle.trusted_border.specs.Layout.{site_at}
use Rattle.overlay_machine.specs.declared.words.OWord.{OWord}
use Rattle.overlay_machine.specs.declared.words.OWord.TheVariants.{Plain}
use Rattle.overlay_machine.specs.declared.cases.Case.TheVariants.{Entry}
use Rattle.overlay_machine.specs.Words.{look}
use Rattle.overlay_machine.specs.State.{OpenFrame, OState}
use Rattle.overlay_machine.specs.Step.{goes, fails, case_of, step_by, entry_step, need as needs, own_stack}
use Rattle.overlay_machine.specs.Step.{overlay_step, weight_of, weight_by}
use Rattle.overlay_machine.specs.Events.{step_event, note_by, event_after}
use Rattle.overlay_machine.specs.Link.{Link, IsTrusted, ranges_of}
use Rattle.overlay_machine.specs.Linked.{IsLink}
use Rattle.overlay_machine.specs.Safe.{IsSafe}
use Rattle.overlay_machine.proofs.Offers.{own_is, mem_safe, in_stack, site_of}
use Rattle.run_lines.specs.Feed.{integer_in}
use Rattle.template_runs.proofs.Numbers.{zero_more}
use Rattle.template_runs.specs.Public.{IsPublic}
use Rattle.template_runs.specs.Runs.{Makes, RunsOn, Failing, no_cell}
use Rattle.template_runs.proofs.Valid.{Valid, valid_same}
use Rattle.template_runs.proofs.Steps.{At, Code, next_pc, inside_here, trusted_here}
use Rattle.template_runs.proofs.Rows.{Here, Free, DataIs}
use Rattle.template_runs.proofs.Frames.{push_law, pushed}

pub none_fits : (b : Bool) (z : ℤ) → (if b then Some z else None) ≡ None → b ≡ false
none_fits true z k = cc
none_fits false z k = refl

module _ (g : Link) (linked : IsLink g) (p : PartSeen) (k : ℕ) where
  -- ---- the entry

  module _ (o : OState) (v : Valid g linked o) (at : At g linked p k o)
      (entry : begins_entry p.component k ≡ true) where
    inside : k < length p.component.code
    inside = let z = (linked.entries p k at.trusted entry).inside in omega (arith, z)

    no_site : (x : Option ℕ) → site_at g.layout (p.component.code_base + k) ≡ x → x ≡ None
    no_site None e = refl
    no_site (Some j) e =
        let f = site_of g linked p k j at.trusted inside e in
        absurd (let t : true ≡ false = sym entry
        ∙ subst (λ x. begins_entry p.component x ≡ false) f.4 f.3.no_entry in cc)

    pub case_entry : case_of g.layout o.maps ≡ Entry (p.component.code_base + k)
    unfolding case_of
    case_entry = rw (trusted_here g linked p k o at inside)
        (rw (no_site (site_at g.layout (p.component.code_base + k)) refl)
        (rw (linked.entry_found p k at.trusted inside, entry) refl))

    weight_20 : weight_of g.layout o ≡ ENTRY_WORDS
    unfolding weight_of
    weight_20 = ap (weight_by o.maps) case_entry

    fails_by : own_stack g.layout o.maps ≡ None → entry_step g.layout (p.component.code_base + k) o ≡ fails
    unfolding entry_step needs faces
    fails_by none = rw (at.pc, none) refl

    pub entry_fails : (want : Failing g.layout) (c : ℕ) → own_stack g.layout o.maps ≡ None → ENTRY_WORDS ≤ c
        → want.runs.Good c o
    unfolding overlay_step
    entry_fails want c none le =
        let e : overlay_step g.layout o ≡ fails = ap (λ x. step_by g.layout x o) case_entry ∙ fails_by none in
        want.stop c o (inside_here g linked p k o at) e (subst (λ x. x ≤ c) (sym weight_20) le)

    module _ (cap : CapFields) (own : own_stack g.layout o.maps ≡ Some cap) where
      abbrev pub entered : OState
      entered = record o {
        maps = record o.maps {
          regs = record o.maps.regs {
            pc = Plain (Mem (record
                (code_cap (ranges_of p).code_base (ranges_of p).code_last (p.component.code_base + k)) {
                  addr
                      = pos (p.component.code_base + k + ENTRY_WORDS);
                }));
            stk = Plain (Mem (record cap { addr = pos cap.end }));
            t1 = zero_word Plain;
            t2 = zero_word Plain;
          };
        };
      }

      entry_goes : entry_step g.layout (p.component.code_base + k) o ≡ goes entered
      unfolding entry_step needs faces
      entry_goes = rw (at.pc, own) refl

      event_none : step_event g.layout o entered ≡ None
      unfolding step_event
      event_none = ap (λ x. event_after g.layout (note_by g.layout o x) entered) case_entry

      pub entry_makes : Makes g.layout ENTRY_WORDS None o entered
      unfolding overlay_step
      entry_makes = record {
        inside = inside_here g linked p k o at;
        goes_on = ap (λ x. step_by g.layout x o) case_entry ∙ entry_goes;
        weight = weight_20;
        event = event_none;
      }

      pub entry_law : (want : RunsOn g.layout) (mem : ℕ → OWord) (c b : ℕ) → IsSafe g o.frames o.maps.regs.stk
          → look o.maps.regs.dat ≡ Mem (data_cap (ranges_of p) (pos p.component.data_base))
          → DataIs g linked mem o.maps.cells
          → (Here g linked p 0 cap.end [] mem o.frames entered → At g linked p (k + ENTRY_WORDS) entered
          → want.Good b entered) → ENTRY_WORDS + b ≤ c → want.Good c o
      entry_law want mem c b safe dat globs u le =
          let is = own_is g.layout o.maps cap own in
          let s = mem_safe g o.frames o.maps.regs.stk cap is.0 safe in
          let base : cap.base ≡ g.layout.stack.base = ap (λ x. x.base) is.1 in
          let high = in_stack g linked o.frames cap s base in
          let ord = s.order in
          let zero : pos cap.end +ℤ pos 0 ≡ pos cap.end = omega (arith, ints) in
          let low : g.layout.stack.base + 0 ≤ cap.end + 1 = omega (arith, ord, base) in
          let none : 0 ≤ 0 = omega arith in
          let stk : Mem (record cap { addr = pos cap.end }) ≡ Mem
          (part_stack_cap (ranges_of p) cap.end (pos cap.end)) =
          ap (λ x. Mem (record x { addr = pos cap.end })) is.1
          ∙ ap (λ b. Mem (record (part_stack_cap (ranges_of p) cap.end (pos cap.end)) { base = b }))
          (sym (linked.stack_bases p at.trusted)) in
          let e20 : p.component.code_base + k + ENTRY_WORDS ≡ p.component.code_base + (k + ENTRY_WORDS) =
          omega arith in
          let h : Here g linked p 0 cap.end [] mem o.frames entered = record {
            valid = valid_same g linked o entered v entry_makes.goes_on refl refl;
            at = pos cap.end;
            stk = stk;
            cursor = zero;
            dat = dat;
            slots = tt;
            fit = none;
            globs = globs;
            frames = refl;
            low = low;
            high = high;
            free = λ a lo hi. s.free a (omega (arith, lo, base)) hi;
          } in
          let at20 : At g linked p (k + ENTRY_WORDS) entered =
          record {
            trusted = at.trusted;
            pc = ap (λ x. Mem (code_cap (ranges_of p).code_base (ranges_of p).code_last x)) e20;
          } in
          want.spend (ENTRY_WORDS + b) c o le (want.go_on ENTRY_WORDS b o entered entry_makes
          (inside_here g linked p (k + ENTRY_WORDS) entered at20) (no_cell refl) (u h at20))

  -- ---- a number is taken: integers of 64 bits alone

  pub plus_fails : (to r : Reg) (next : Word) (s : State OWord) → is_pc to ≡ false
      → integer_in (look (reg s.regs r)) ≡ None → (x : Word) → look (reg s.regs r) ≡ x
      → (c : FailCause) × (row look Plain (Plus to r (Imm (pos 0))) next s ≡ failed c (pc_at look s))
  unfolding row plan_in ask need
  plus_fails to r next s np none (Int z) e =
      let none' = none_fits (fits_64 z) z (sym (ap integer_in e) ∙ none) in
      (F9, rw (np, shows look Plain s r (Int z) e, zero_more z, none') refl)
  plus_fails to r next s np none (Mem c) e = (F6, rw (np, shows look Plain s r (Mem c) e) refl)
  plus_fails to r next s np none (Seal c) e = (F6, rw (np, shows look Plain s r (Seal c) e) refl)
  plus_fails to r next s np none (Sealed i (MemIn c)) e =
      (F6, rw (np, shows look Plain s r (Sealed i (MemIn c)) e) refl)
  plus_fails to r next s np none (Sealed i (SealIn c)) e =
      (F6, rw (np, shows look Plain s r (Sealed i (SealIn c)) e) refl)

-- ---- the prologue

module _ (g : Link) (linked : IsLink g) (p : PartSeen) (ip : IsTrusted g p) (top : ℕ) (mem : ℕ → OWord)
    (fs : List OpenFrame) where
  -- a slot for each of these registers
  abbrev pub prologue : List Reg → List Instr
  prologue [] = []
  prologue (r ∷ rs) = Store Stk r ∷ Cca Stk (Imm (negsuc 0)) ∷ prologue rs

  -- the words that a run of pushes finds in the registers: a linear one leaves 0 in its own
  abbrev pub Reads : Regs OWord → List Reg → List OWord → Type 0
  Reads regs [] ws = ws ≡ []
  Reads regs (r ∷ rs) [] = ⊥
  Reads regs (r ∷ rs) (w ∷ ws) = Free g linked r × (reg regs r ≡ w) × IsPublic g w
      × ((x y z : OWord) → Reads
      (set_reg (set_reg (set_reg (set_reg regs r (left_of look Plain w)) Pc x) Stk y) Pc z) rs ws)

  -- at the end each register that wasn't linear is as before: what is said of the state after is said of
  -- these words
  pub prologue_law : (rs : List Reg) (ws words : List OWord) (k : ℕ) (want : RunsOn g.layout) (c b : ℕ)
      (o : OState) → Code g linked p k (prologue rs) → Reads o.maps.regs rs ws → At g linked p k o
      → (h : Here g linked p (length words) top words mem fs o)
      → g.layout.stack.base + (length words + length ws) ≤ top + 1
      → ((j : ℕ) → j < length words + length ws → want.May (top - j))
      → ((q : OState) → Here g linked p (length (words ++ ws)) top (words ++ ws) mem fs q
      → At g linked p (k + 2 * length rs) q → want.Good b q)
      → 2 * length rs + b ≤ c → want.Good c o
  prologue_law [] ws words k want c b o code reads at h room mays u le =
      let e : words ++ ws ≡ words = ap (λ x. words ++ x) reads ∙ append-nil words in
      let k0 : k ≡ k + 2 * 0 = omega arith in
      want.spend b c o (omega (arith, le))
      (u o (subst (λ x. Here g linked p (length x) top x mem fs o) (sym e) h)
      (subst (λ x. At g linked p x o) k0 at))
  prologue_law (r ∷ rs) [] words k want c b o code reads at h room mays u le = absurd reads
  prologue_law (r ∷ rs) (w ∷ ws) words k want c b o code reads at h room mays u le =
      let len = length-append words (w ∷ []) in
      let one : length (words ++ w ∷ []) ≡ length words + 1 = omega (arith, len) in
      let room1 : g.layout.stack.base + length words ≤ top = omega (arith, room) in
      let le1 : 2 + (2 * length rs + b) ≤ c = omega (arith, le) in
      let room2 : g.layout.stack.base + (length (words ++ w ∷ []) + length ws) ≤ top + 1 =
      omega (arith, one, room) in
      let assoc : (words ++ w ∷ []) ++ ws ≡ words ++ w ∷ ws = append_assoc words (w ∷ []) ws in
      push_law g linked p ip top mem fs k want c (2 * length rs + b) r reads.0 words o
      (code.0, (code.1.0, tt)) at h room1 (subst (IsPublic g) (sym reads.1) reads.2)
      (mays (length words) (omega arith)) (λ h1 at1.
      let q = pushed g linked p ip top mem fs k o r (h.at -ℤ pos 1) (top - length words) in
      let h2 : Here g linked p (length (words ++ w ∷ [])) top (words ++ w ∷ []) mem fs q =
      subst (λ x. Here g linked p x top (words ++ w ∷ []) mem fs q) (sym one)
      (subst (λ x. Here g linked p (length words + 1) top (words ++ x ∷ []) mem fs q) reads.1 h1) in
      let reads2 : Reads q.maps.regs rs ws =
      subst (λ y. Reads (set_reg
      (set_reg (set_reg (set_reg o.maps.regs r (left_of look Plain y)) Pc (Plain (next_pc g linked p k)))
      Stk (Plain (Mem (part_stack_cap (ranges_of p) top (h.at -ℤ pos 1))))) Pc
      (Plain (next_pc g linked p (k + 1)))) rs ws) (sym reads.1)
      (reads.3 (Plain (next_pc g linked p k)) (Plain (Mem (part_stack_cap (ranges_of p) top (h.at -ℤ pos 1))))
      (Plain (next_pc g linked p (k + 1)))) in
      prologue_law rs ws (words ++ w ∷ []) (k + 1 + 1) want (2 * length rs + b) b q code.1.1 reads2 at1 h2
      room2 (λ j lt. mays j (omega (arith, one, lt)))
      (λ r2 hr atr.
      let ke : k + 1 + 1 + 2 * length rs ≡ k + 2 * suc (length rs) = omega arith in
      u r2 (subst (λ x. Here g linked p (length x) top x mem fs r2) assoc hr)
      (subst (λ x. At g linked p x r2) ke atr))
      (omega arith))
      le1
