-- Stretches of a run, computed.
use Rattle.std.proofs.Common.{◌≡◌, ℕ, zero, suc, true, false, List, Option, Some, None, Bool, refl, sym, ap}
use Rattle.std.proofs.Common.{◌∙◌, subst}
use Rattle.std.specs.Prelude.{if◌then◌else◌, option_and_then, option_map, not}
use Rattle.lcm_isa.specs.declared.Instr.TheVariants.{Halt, Xjmp}
use Rattle.lcm_isa.specs.declared.Reg.TheVariants.{Pc}
use Rattle.cap_words.specs.declared.Word.{Word}
use Rattle.lcm_machine.specs.declared.cells.Span.{Span}
use Rattle.lcm_machine.specs.Row.{faces, opens, Fetched, some, none, step_fetched, step_of, row, plan_in}
use Rattle.trusted_border.specs.declared.layout.Layout.{Layout}
use Rattle.trusted_border.specs.Layout.{trusted_owner}
use Rattle.overlay_machine.specs.declared.words.OWord.TheVariants.{Plain}
use Rattle.overlay_machine.specs.declared.cases.Case.{Case}
use Rattle.overlay_machine.specs.declared.cases.Case.TheVariants.{Other}
use Rattle.overlay_machine.specs.declared.notes.StepNote.{StepNote}
use Rattle.overlay_machine.specs.Events.{step_event, event_after, note_by, note_jump, jump_seal}
use Rattle.overlay_machine.specs.Words.{look}
use Rattle.overlay_machine.specs.State.{OpenFrame, OState, Cells}
use Rattle.overlay_machine.specs.Step.{goes, halts, overlay_step, step_by, other_step, with_frames}
use Rattle.run_lines.specs.Cuts.{is_inside}
use Rattle.known_steps.specs.Known.{Known, AreIn, Partly, blank, knows, fetched, at_blank, case_by, at_pc}
use Rattle.known_steps.specs.Known.{known_step, is_or_not, known_run, Stays, here, on}
use Rattle.known_steps.proofs.Known.{with_cells, whole, case_known, fetch_known, step_known}

is_so : (b c : Bool) → (if b then c else not c) ≡ true → c ≡ b
is_so true c e = e
is_so false true e = sym e
is_so false false e = refl

module _ (k : Known) (spans : List Span) (l : Layout) (fs : List OpenFrame) (n : ℕ) where
  abbrev at : Partly → Cells → OState
  at s m = whole k spans l fs n s m

  -- from one state to what is known of another
  abbrev pub RunsTo : Bool → Partly → OState → Type 0
  RunsTo b t o = (m : Cells) × AreIn k t.changes m × Stays l b o (at t m)

  inside_same : (s : Partly) (m : Cells) → is_inside l (at s m) ≡ is_inside l (at_blank k s)
  unfolding faces
  inside_same s m = refl

  further : (b d : Bool) (j : ℕ) (x t : Partly) (o : OState)
      → ((m : Cells) → AreIn k x.changes m → is_inside l (at x m) ≡ b → known_run k l b j x ≡ Some t
      → RunsTo b t (at x m))
      → is_inside l o ≡ b → is_or_not k b (is_inside l (at_blank k x)) ≡ d
      → (if d then known_run k l b j x else None) ≡ Some t
      → (m : Cells) × AreIn k x.changes m × (overlay_step l o ≡ goes (at x m)) → RunsTo b t o
  further b true j x t o more i is e c =
      let r = more c.0 c.1 (inside_same x c.0 ∙ is_so b _ is) e in
      (r.0, r.1, on i c.2 r.2)
  further b false j x t o more i is e c = absurd cc

  run_by : (b : Bool) (j : ℕ) (s t : Partly) (m : Cells) (o : Option Partly)
      → ((x : Partly) (m' : Cells) → AreIn k x.changes m' → is_inside l (at x m') ≡ b
      → known_run k l b j x ≡ Some t → RunsTo b t (at x m'))
      → AreIn k s.changes m → is_inside l (at s m) ≡ b → known_step k l s ≡ o
      → option_and_then (λ x. if is_or_not k b (is_inside l (at_blank k x)) then known_run k l b j x else
      None) o
      ≡ Some t → RunsTo b t (at s m)
  run_by b j s t m None more h i step e = absurd cc
  run_by b j s t m (Some x) more h i step e =
      further b _ j x t (at s m) (more x) i refl e (step_known k spans l fs n s x m h step)

  pub runs_known : (b : Bool) (j : ℕ) (s t : Partly) (m : Cells) → AreIn k s.changes m
      → is_inside l (at s m) ≡ b → known_run k l b j s ≡ Some t → RunsTo b t (at s m)
  unfolding known_run
  runs_known b zero s t m h i e =
      let same : s ≡ t = cc in subst (λ x. RunsTo b x (at s m)) same (m, h, here i)
  runs_known b (suc j) s t m h i e =
      run_by b j s t m _ (λ x m' g inside known. runs_known b j x t m' g inside known) h i refl e

  -- a state at which `halt` is next
  pub halts_known : (s : Partly) (m : Cells) (next : Word) → AreIn k s.changes m → knows k s (at_pc k s) ≡
      true
      → case_by k l s ≡ Other → fetched k s ≡ some Halt next → overlay_step l (at s m) ≡ halts
  unfolding overlay_step other_step step_of row plan_in
  halts_known s m next h there case is =
      ap (λ c. step_by l c (at s m)) (case_known k spans l s m h there ∙ case)
      ∙ ap (λ f. with_frames fs n (step_fetched look Plain (with_cells k spans s m) f))
      (fetch_known k spans s m h there ∙ is)

  -- ---- the event of a step

  pub event_by : (s : Partly) (m : Cells) (q : OState) (c : Case) → AreIn k s.changes m
      → knows k s (at_pc k s) ≡ true → case_by k l s ≡ c
      → step_event l (at s m) q ≡ event_after l (note_by l (at s m) c) q
  unfolding step_event
  event_by s m q c h there case =
      ap (λ x. event_after l (note_by l (at s m) x) q) (case_known k spans l s m h there ∙ case)

  seal_same : (s : Partly) (m : Cells) (f : Fetched)
      → jump_seal (with_cells k spans s m) f ≡ jump_seal (blank s.regs) f
  unfolding opens
  seal_same s m (some (Xjmp r1 r2) next) = refl
  seal_same s m (some _ next) = refl
  seal_same s m (none c) = refl

  -- of a step by the table, of which alone an `xjmp` has one
  abbrev pub jump_note : Partly → StepNote
  jump_note s =
      note_jump (option_map (λ p. p.part) (trusted_owner l (faces look (blank s.regs) Pc)))
      (jump_seal (blank s.regs) (fetched k s))

  pub jump_event : (s : Partly) (m : Cells) (q : OState) → AreIn k s.changes m → knows k s (at_pc k s) ≡ true
      → case_by k l s ≡ Other → step_event l (at s m) q ≡ event_after l (jump_note s) q
  unfolding faces
  jump_event s m q h there case =
      event_by s m q Other h there case
      ∙ ap (λ f. event_after l (note_jump (option_map (λ p. p.part) (trusted_owner l (faces look (blank
      s.regs) Pc)))
      f) q)
      (ap (jump_seal (with_cells k spans s m)) (fetch_known k spans s m h there) ∙ seal_same s m (fetched k
      s))
