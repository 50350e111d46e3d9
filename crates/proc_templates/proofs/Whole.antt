-- The walk over the whole code.
use Rattle.std.proofs.Common.{◌≡◌, ℕ, ◌+◌, ◌<◌, ◌≤◌, List, [], ◌∷◌, length, Some, None, refl, sym, ap, ◌∙◌}
use Rattle.std.proofs.Common.{subst, arith}
use Rattle.std.specs.Prelude.{sum_by}
use Rattle.std.proofs.lemmas.List.Sums.{sum_by-cons}
use Rattle.component_file.specs.declared.TheConstants.{LAST_OFFSET, MOST_WORDS}
use Rattle.component_file.specs.declared.component.ComponentFields.{ComponentFields}
use Rattle.proc_program.specs.declared.program.Program.{Program}
use Rattle.proc_program.specs.declared.program.Procedure.{Procedure}
use Rattle.proc_program.specs.StepView.{block_of}
use Rattle.call_sequence.specs.declared.flow.Walk.TheVariants.{Before as before, Ended as ended}
use Rattle.call_sequence.specs.Walk.{Arrives}
use Rattle.proc_templates.specs.Items.{Spot, Laid, lay, FAIL_AT}
use Rattle.proc_templates.specs.Templates.{proc_code, before_epilogue}
use Rattle.proc_templates.specs.Compiled.{frame_of, size_of_proc, head_of, lay_proc, lay_procs, laid_of}
use Rattle.proc_templates.specs.Fit.{ItemsFit}
use Rattle.proc_templates.proofs.Onwards.{over_idle, over_end}
use Rattle.proc_templates.proofs.Procs.{FrameFits, proc-size, over_proc}
use Rattle.proc_templates.proofs.Laying.{Rest, Sound, rest_lay, sound_lay, lay-length}
use Rattle.proc_templates.proofs.Standing.{carries, within_here}

-- a procedure whose numbers fit
pub record ProcReady (m : Program) (p : Procedure) : Type 0 where
  pub frame : FrameFits (frame_of m p) p.callbacks
  pub items : ItemsFit (proc_code (frame_of m p) p.callbacks (block_of p.body))

abbrev pub AllReady : Program → List Procedure → Type 0
AllReady m [] = Unit {0}
AllReady m (p ∷ ps) = ProcReady m p × AllReady m ps

-- where a procedure stands
abbrev pub spot_of : Program → Laid → Procedure → Spot
spot_of m l p = record {
  stack_base = m.stack;
  epilogue = length l.code + before_epilogue
      (frame_of m p) p.callbacks (block_of p.body);
}

module _ (m : Program) where
  pub proc_laid : (l : Laid) (p : Procedure)
      → lay_proc m l p ≡ lay (spot_of m l p) l (proc_code (frame_of m p) p.callbacks (block_of p.body))
  unfolding lay_proc
  proc_laid l p = refl

  pub laid-length : (l : Laid) (p : Procedure) → ProcReady m p
      → length (lay_proc m l p).code ≡ length l.code + size_of_proc p
  unfolding frame_of
  laid-length l p r =
      ap (λ (x : Laid). length x.code) (proc_laid l p)
      ∙ lay-length (spot_of m l p) (proc_code (frame_of m p) p.callbacks (block_of p.body)) l
      ∙ (proc-size (frame_of m p) p.callbacks r.frame (block_of p.body)).by (length l.code)

  pub sound_proc : (l : Laid) (p : Procedure) → Sound l → Sound (lay_proc m l p)
  sound_proc l p s = subst Sound (sym (proc_laid l p))
      (sound_lay (spot_of m l p) (proc_code (frame_of m p) p.callbacks (block_of p.body)) l s)

  pub procs-length : (ps : List Procedure) (l : Laid) → AllReady m ps
      → length (lay_procs m l ps).code ≡ length l.code + sum_by size_of_proc ps
  procs-length [] l r = omega arith
  procs-length (p ∷ ps) l r =
      let h = procs-length ps (lay_proc m l p) r.1 in
      let g = laid-length l p r.0 in
      let n = sum_by size_of_proc ps in
      let e : length (lay_proc m l p).code + n ≡ length l.code + (size_of_proc p + n) = omega (arith, g) in
      h ∙ e ∙ ap (λ k. length l.code + k) (sym (sum_by-cons size_of_proc p ps))

  module _ (c : ComponentFields) (fails : c.fail_at ≡ Some FAIL_AT) where
    pub rest_procs : (ps : List Procedure) (l : Laid) → Rest (lay_procs m l ps) c → Rest l c
    rest_procs [] l r = r
    rest_procs (p ∷ ps) l r = rest_lay (spot_of m l p)
        (proc_code (frame_of m p) p.callbacks (block_of p.body)) l c
        (subst (λ x. Rest x c) (proc_laid l p) (rest_procs ps (lay_proc m l p) r))

    one_proc : (l : Laid) (p : Procedure) → ProcReady m p → length (lay_proc m l p).code ≤ MOST_WORDS
        → Sound l → Rest (lay_proc m l p) c
        → Arrives c (before (length l.code) None) → Arrives c (before (length (lay_proc m l p).code) None)
    unfolding before_epilogue frame_of
    one_proc l p ready most s r on =
        let f = frame_of m p in
        let b = block_of p.body in
        let code = proc_code f p.callbacks b in
        let spot = spot_of m l p in
        let e = laid-length l p ready in
        let n : length (lay_proc m l p).code ≡ length (lay spot l code).code =
        ap (λ (x : Laid). length x.code) (proc_laid l p) in
        let low : spot.epilogue ≤ LAST_OFFSET = omega (arith, e, most) in
        let held = carries c spot (omega (arith, low)) code l ready.items (omega (arith, n, most)) s
        (subst (λ x. Rest x c) (proc_laid l p) r) in
        let went = over_proc c fails spot low f p.callbacks b ready.frame (length l.code) refl held on in
        subst (λ z. Arrives c (before z None)) (sym (n ∙ lay-length spot code l)) went

    pub over_procs : (ps : List Procedure) (l : Laid) → AllReady m ps
        → length (lay_procs m l ps).code ≤ MOST_WORDS → Sound l → Rest (lay_procs m l ps) c
        → Arrives c (before (length l.code) None) → Arrives c (before (length (lay_procs m l ps).code) None)
    over_procs [] l ready most s r on = on
    over_procs (p ∷ ps) l ready most s r on =
        let e = procs-length ps (lay_proc m l p) ready.1 in
        let last : length (lay_procs m (lay_proc m l p) ps).code ≤ MOST_WORDS = most in
        over_procs ps (lay_proc m l p) ready.1 most (sound_proc l p s) r
        (one_proc l p ready.0 (omega (arith, e, last)) s (rest_procs ps (lay_proc m l p) r) on)

    pub head_sound : Sound (head_of m)
    head_sound = record { sites = λ x h. refl; entries = λ x h. refl; labels = λ x h. refl }

    pub over_code : AllReady m m.procs → length (laid_of m).code ≤ MOST_WORDS
        → length c.code ≡ length (laid_of m).code → Rest (laid_of m) c → Arrives c ended
    unfolding laid_of
    over_code ready most same r =
        let h = rest_procs m.procs (head_of m) r in
        let idle = λ (o : ℕ) (lt : o < 2) (on : Arrives c (before o None)). over_idle c o
        (within_here c (head_of m) o h lt) (h.entries o lt) (h.sites o lt) (h.labels o lt) on in
        let on0 : Arrives c (before 0 None) = (0, refl) in
        let on1 = idle 0 (omega arith) on0 in
        let on2 = idle 1 (omega arith) on1 in
        let went = over_procs m.procs (head_of m) ready most head_sound r on2 in
        over_end c (length (lay_procs m (head_of m) m.procs).code) (sym same) went
