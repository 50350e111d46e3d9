-- The ordinary step of trusted code, as its row of the table has it.
use Rattle.std.proofs.Common.{◌≡◌, ℕ, ◌+◌, ◌<◌, ◌≤◌, ℤ, pos, List, [], ◌∷◌, length, Option, Some, None, true}
use Rattle.std.proofs.Common.{false, refl, sym, ap, ◌∙◌, subst, arith, le-leb}
use Rattle.std.specs.Prelude.{slice_get}
use Rattle.cap_words.specs.declared.Word.{Word}
use Rattle.cap_words.specs.declared.Word.TheVariants.{Int, Mem}
use Rattle.lcm_isa.specs.declared.Reg.TheVariants.{Pc, A0}
use Rattle.lcm_isa.specs.declared.Instr.{Instr}
use Rattle.lcm_isa.specs.declared.Instr.TheVariants.{Xjmp}
use Rattle.lcm_isa.specs.Numbers.{number_of, IsInstr}
use Rattle.lcm_machine.specs.declared.FailCause.{FailCause}
use Rattle.lcm_machine.specs.Maps.{State}
use Rattle.lcm_machine.specs.Cells.{set_cell}
use Rattle.lcm_machine.specs.Row.{Outcome, went, halted, failed, look_face, faces, cell_faces, fetch, some}
use Rattle.lcm_machine.specs.Row.{row, jump_of}
use Rattle.lcm_machine.specs.Runs.{code_cap}
use Rattle.lcm_machine.proofs.Offers.{fetch_at, step_at}
use Rattle.call_sequence.specs.Holds.{PcAt}
use Rattle.call_sequence.specs.Places.{begins_entry, begins_site}
use Rattle.linked_starts.specs.Parts.{PartSeen}
use Rattle.trusted_border.specs.Layout.{trusted_at, site_at}
use Rattle.overlay_machine.specs.declared.words.OWord.{OWord}
use Rattle.overlay_machine.specs.declared.words.OWord.TheVariants.{Plain}
use Rattle.overlay_machine.specs.declared.cases.Case.TheVariants.{Other}
use Rattle.overlay_machine.specs.Words.{look}
use Rattle.overlay_machine.specs.State.{OState}
use Rattle.overlay_machine.specs.Step.{case_of, case_fetched, step_by, other_step, with_frames, overlay_step}
use Rattle.overlay_machine.specs.Step.{weight_of, weight_by}
use Rattle.overlay_machine.specs.Events.{step_event, note_by, event_after}
use Rattle.overlay_machine.specs.Link.{Link, IsTrusted, ranges_of}
use Rattle.overlay_machine.specs.Linked.{IsLink}
use Rattle.std.proofs.lemmas.Option.{slice_get_within}
use Rattle.overlay_machine.proofs.Offers.{in_code, site_of}
use Rattle.run_lines.specs.Views.{flat_view}
use Rattle.template_runs.specs.Public.{IsPublic, IsFreeAt}
use Rattle.template_runs.specs.Runs.{is_inside, Makes, RunsOn, Failing, Halting, Sets, no_cell, one_cell}
use Rattle.template_runs.proofs.Valid.{Valid, valid_same, valid_set}

module _ (g : Link) (linked : IsLink g) where
  -- trusted code runs, at an offset of a part
  pub record At (p : PartSeen) (k : ℕ) (o : OState) : Type 0 where
    pub trusted : IsTrusted g p
    pub pc : PcAt look (ranges_of p) k o.maps.regs

  -- an instruction stands in a part
  abbrev pub Has : PartSeen → ℕ → Instr → Type 0
  Has p k i = slice_get p.component.code k ≡ Some (Int (pos (number_of i)))

  -- an instruction stands there, and no sequence begins there
  pub record Placed (p : PartSeen) (k : ℕ) (i : Instr) : Type 0 where
    pub has : Has p k i
    pub ok : IsInstr i
    pub site : begins_site p.component k ≡ false
    pub entry : begins_entry p.component k ≡ false

  -- these, from an offset on
  abbrev pub Code : PartSeen → ℕ → List Instr → Type 0
  Code p k [] = Unit {0}
  Code p k (i ∷ is) = Placed p k i × Code p (k + 1) is

  module _ (p : PartSeen) (k : ℕ) (o : OState) (at : At p k o) where
    pub inside_here : is_inside g.layout o ≡ true
    unfolding faces
    inside_here = rw (at.pc, linked.owned p (pos (p.component.code_base + k)) at.trusted) refl

    module _ (within : k < length p.component.code) where
      low : p.component.code_base ≤ p.component.code_base + k
      low = omega arith

      high : p.component.code_base + k ≤ (ranges_of p).code_last
      high = in_code g linked p k at.trusted within

      pub trusted_here : trusted_at g.layout (faces look o.maps Pc) ≡ Some (p.component.code_base + k)
      unfolding faces
      trusted_here = rw (
        at.pc,
        linked.owned p (pos (p.component.code_base + k)) at.trusted,
        le-leb p.component.code_base (p.component.code_base + k) low,
        le-leb (p.component.code_base + k) (ranges_of p).code_last high,
      ) refl

      no_site_at : begins_site p.component k ≡ false → (n : Option ℕ)
          → site_at g.layout (p.component.code_base + k) ≡ n → n ≡ None
      no_site_at b None e = refl
      no_site_at b (Some j) e =
          let f = site_of g linked p k j at.trusted within e in
          absurd (let t : true ≡ false = sym (subst (λ x. begins_site p.component x ≡ true) f.4 f.3.site)
          ∙ b in cc)

      pub case_here : begins_site p.component k ≡ false → begins_entry p.component k ≡ false
          → case_of g.layout o.maps ≡ case_fetched o.maps
          (fetch (faces look o.maps Pc) (cell_faces look o.maps))
      unfolding case_of
      case_here s e = rw trusted_here
          (rw (no_site_at s (site_at g.layout (p.component.code_base + k)) refl)
          (rw (linked.entry_found p k at.trusted within, e) refl))

  no_jump : (s : State OWord) (i : Instr) (next : Word) → jump_of i ≡ None
      → case_fetched s (some i next) ≡ Other
  no_jump s (Xjmp r1 r2) next e = cc
  no_jump s _ next e = refl

  abbrev pub next_pc : PartSeen → ℕ → Word
  next_pc p k = Mem (code_cap (ranges_of p).code_base (ranges_of p).code_last (p.component.code_base + k + 1))

  module _ (p : PartSeen) (k : ℕ) (i : Instr) (o : OState) (v : Valid g linked o) (at : At p k o)
      (h : Placed p k i) where
    within : k < length p.component.code
    within = slice_get_within p.component.code k _ h.has

    pub fetched : fetch (faces look o.maps Pc) (cell_faces look o.maps) ≡ some i (next_pc p k)
    fetched = fetch_at look Plain o.maps (ranges_of p).code_base (ranges_of p).code_last
        (p.component.code_base + k) i at.pc (low p k o at within) (high p k o at within)
        (ap (look_face look) (v.holds.code p at.trusted k _ h.has)) h.ok

    module _ (calm : jump_of i ≡ None) where
      pub other_here : case_of g.layout o.maps ≡ Other
      other_here = case_here p k o at within h.site h.entry ∙ ap (case_fetched o.maps) fetched
          ∙ no_jump o.maps i (next_pc p k) calm

      pub weighs_one : weight_of g.layout o ≡ 1
      unfolding weight_of
      weighs_one = ap (weight_by o.maps) other_here

      steps_by : (r : Outcome OWord) → row look Plain i (next_pc p k) o.maps ≡ r
          → overlay_step g.layout o ≡ with_frames o.frames o.calls r
      unfolding overlay_step other_step
      steps_by r e = ap (λ c. step_by g.layout c o) other_here
          ∙ ap (with_frames o.frames o.calls) (step_at look Plain o.maps i (next_pc p k) fetched ∙ e)

      quiet_by : (i : Instr) (q : OState) → jump_of i ≡ None
          → fetch (faces look o.maps Pc) (cell_faces look o.maps) ≡ some i (next_pc p k)
          → event_after g.layout (note_by g.layout o Other) q ≡ None
      quiet_by (Xjmp r1 r2) q e f = cc
      quiet_by _ q e f = rw f refl

      quiet : (q : OState) → step_event g.layout o q ≡ None
      unfolding step_event
      quiet q = ap (λ c. event_after g.layout (note_by g.layout o c) q) other_here ∙ quiet_by i q calm fetched

      pub makes : (s : State OWord) → row look Plain i (next_pc p k) o.maps ≡ went s
          → Makes g.layout 1 None o (record o { maps = s })
      makes s e = record {
        inside = inside_here p k o at;
        goes_on = steps_by (went s) e;
        weight = weighs_one;
        event = quiet (record o { maps = s });
      }

      -- one step by the table, to an offset of the part
      go_by : (want : RunsOn g.layout) (c to : ℕ) (s : State OWord)
          → row look Plain i (next_pc p k) o.maps ≡ went s → PcAt look (ranges_of p) to s.regs
          → Valid g linked (record o { maps = s }) → Sets want.May o (record o { maps = s })
          → (Valid g linked (record o { maps = s }) → At p to (record o { maps = s })
          → want.Good c (record o { maps = s }))
          → want.Good (1 + c) o
      go_by want c to s e pc v2 sets u =
          let at2 : At p to (record o { maps = s }) = record { trusted = at.trusted; pc = pc } in
          want.go_on 1 c o (record o { maps = s }) (makes s e)
          (inside_here p to (record o { maps = s }) at2) sets (u v2 at2)

      pub go_to : (want : RunsOn g.layout) (c to : ℕ) (s : State OWord)
          → row look Plain i (next_pc p k) o.maps ≡ went s → PcAt look (ranges_of p) to s.regs
          → s.cells ≡ o.maps.cells
          → (Valid g linked (record o { maps = s }) → At p to (record o { maps = s })
          → want.Good c (record o { maps = s }))
          → want.Good (1 + c) o
      go_to want c to s e pc same u =
          let q = record o { maps = s } in
          go_by want c to s e pc (valid_same g linked o q v (makes s e).goes_on same refl) (no_cell same) u

      at_next : (s : State OWord) → s.regs.pc ≡ Plain (next_pc p k) → PcAt look (ranges_of p) (k + 1) s.regs
      at_next s pc =
          let r = ranges_of p in
          let b : p.component.code_base + k + 1 ≡ p.component.code_base + (k + 1) = omega arith in
          ap look pc ∙ ap (λ x. Mem (code_cap r.code_base r.code_last x)) b

      -- and to the next one
      pub go : (want : RunsOn g.layout) (c : ℕ) (s : State OWord)
          → row look Plain i (next_pc p k) o.maps ≡ went s → s.regs.pc ≡ Plain (next_pc p k)
          → s.cells ≡ o.maps.cells
          → (Valid g linked (record o { maps = s }) → At p (k + 1) (record o { maps = s })
          → want.Good c (record o { maps = s }))
          → want.Good (1 + c) o
      go want c s e pc same u = go_to want c (k + 1) s e (at_next s pc) same u

      -- where it sets a cell
      pub go_set : (want : RunsOn g.layout) (c : ℕ) (s : State OWord) (a : ℕ) (x : OWord)
          → row look Plain i (next_pc p k) o.maps ≡ went s → s.regs.pc ≡ Plain (next_pc p k)
          → s.cells ≡ set_cell o.maps.cells a x → (IsFreeAt g a → IsPublic g x) → want.May a
          → (Valid g linked (record o { maps = s }) → At p (k + 1) (record o { maps = s })
          → want.Good c (record o { maps = s }))
          → want.Good (1 + c) o
      go_set want c s a x e pc set public may u =
          let q = record o { maps = s } in
          go_by want c (k + 1) s e (at_next s pc)
          (valid_set g linked o q v (makes s e).goes_on a x set refl public) (one_cell a x may set) u

      pub stop : (want : Failing g.layout) (c : ℕ) (cause : FailCause) (z : ℤ)
          → row look Plain i (next_pc p k) o.maps ≡ failed cause z → 1 ≤ c → want.runs.Good c o
      stop want c cause z e le =
          want.stop c o (inside_here p k o at) (steps_by (failed cause z) e)
          (subst (λ x. x ≤ c) (sym weighs_one) le)

      pub halt : (z : ℤ) (want : Halting g.layout z) (c : ℕ) → row look Plain i (next_pc p k) o.maps ≡ halted
          → 1 ≤ c → (flat_view g.layout o).reg A0 ≡ Int z → want.runs.Good c o
      halt z want c e le a =
          want.halt c o (inside_here p k o at) (steps_by halted e) (subst (λ x. x ≤ c) (sym weighs_one) le) a
