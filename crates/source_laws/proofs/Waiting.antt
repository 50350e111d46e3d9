-- A call that waits, whatever untrusted code does meanwhile.
use Rattle.std.proofs.Common.{◌≡◌, ℕ, suc, ◌-◌, ◌≤◌, ℤ, List, ◌∷◌, Option, Some, None, true, refl, sym, ◌∙◌}
use Rattle.std.proofs.Common.{subst, arith}
use Rattle.std.specs.Str.{bytes_eq}
use Rattle.lcm_isa.specs.declared.Reg.{Reg}
use Rattle.lcm_isa.specs.declared.Reg.TheVariants.{A0}
use Rattle.overlay_machine.specs.declared.words.OWord.{OWord}
use Rattle.overlay_machine.specs.State.{OpenFrame, OState}
use Rattle.overlay_machine.proofs.Offers.{Returned}
use Rattle.run_lines.specs.Layout.{part_name, site_of}
use Rattle.run_lines.specs.Views.{flat_view}
use Rattle.source_laws.proofs.Scenes.{Scene}
use Rattle.source_laws.proofs.Refined.{Wait, on_item, resumed, whole}
use Rattle.proc_semantics.specs.Values.{Store}
use Rattle.template_runs.proofs.Offers.{Owing, Valid, DataIs, Named}
use Rattle.source_laws.proofs.Upto.{UpTo, in_frame}
use Rattle.source_laws.proofs.Waits.{ret_item}
use Rattle.source_laws.proofs.CallsIn.{first_frame, older_frames, ProcLaw}
use Rattle.run_lines.specs.Feed.{integer_in}
use Rattle.source_laws.proofs.Meanwhile.{Meets, Beneath, RunsLaw, EndsLaw, ReturnsLaw, runs_law}

module _ (scene : Scene) where
  open scene use {world, g, linked, Begins, StoreIs, RegsAre}

  -- the waiting call is that of a frame
  pub record IsFor (c : Wait world) (f : OpenFrame) : Type 0 where
    pub part : bytes_eq (part_name g.layout (site_of g.layout f.site).part) c.part ≡ true
    pub site : (site_of g.layout f.site).index ≡ c.site
    pub base : f.base ≡ c.base
    pub given : f.base - g.layout.stack.base ≡ c.given

  -- what is open beneath, where the newest call waits
  abbrev pub call_waits : Wait world → OpenFrame → (fs : List OpenFrame) → Owing fs → Beneath scene
  call_waits w f fs ow = record {
    wait = Some w;
    frames = f ∷ fs;
    owes = ow.owes;
    deep = λ x m. (let d = ow.deep x m in omega (arith, d));
  }

  -- back from the call, with an integer or without
  abbrev pub Resumes : ℕ → ℕ → Wait world → OpenFrame → (fs : List OpenFrame) → Owing fs → Type 0
  Resumes n c w f fs ow =
      (r1 r2 : Reg) (t q : OState) (st : Store) (mem : ℕ → OWord) → Valid g linked q
      → (r : Returned g.layout r1 r2 t q) → r.frame ≡ f → r.older ≡ fs → DataIs g linked mem t.maps.cells
      → StoreIs st mem
      → (v : Option ℤ) → integer_in ((flat_view g.layout q).reg A0) ≡ v
      → UpTo g ow.owes (in_frame f) n c q
      (resumed world (Some w) (part_name g.layout (site_of g.layout f.site).part)
      (site_of g.layout f.site).index f.base None v st)

  abbrev pub WaitLaw : ℕ → Type 0
  WaitLaw n =
      (c : ℕ) (w : Wait world) (f : OpenFrame) (fs : List OpenFrame) (ow : Owing fs) → IsFor w f
      → ((m : ℕ) → m ≤ n → Resumes m c w f fs ow) → RunsLaw scene n c (call_waits w f fs ow)

  -- an entered procedure ends while a call waits
  abbrev pub LeaveLaw : ℕ → Type 0
  LeaveLaw n =
      (c : ℕ) (w : Wait world) (f : OpenFrame) (fs : List OpenFrame) (ow : Owing fs) → IsFor w f
      → ((m : ℕ) → m ≤ n → Resumes m c w f fs ow) → EndsLaw scene n c (call_waits w f fs ow)

  module _ (named : Named g) (meets : Meets scene named) where
    pub wait_law : (n : ℕ) → ProcLaw scene n → LeaveLaw n → WaitLaw n → WaitLaw (suc n)
    wait_law n procs leave waiting c w f fs ow for back =
        runs_law scene named meets n c (call_waits w f fs ow) procs (leave c w f fs ow for fewer)
        (waiting c w f fs ow for fewer) returns
      where
        fewer : (m : ℕ) → m ≤ n → Resumes m c w f fs ow
        fewer m le = back m (omega (arith, le))

        returns : ReturnsLaw scene n c (call_waits w f fs ow)
        returns st mem o fr globs store r1 r2 q v r =
            let same : r.frame ≡ f = first_frame r.frame f r.older fs (sym r.frames_are ∙ fr) in
            let older : r.older ≡ fs = older_frames r.frame f r.older fs (sym r.frames_are ∙ fr) in
            subst (λ x. UpTo g ow.owes (in_frame x) n c q
            (on_item world (whole world) (Some w) st
            (ret_item g linked q r.frame.site r.frame.base))) (sym same)
            (subst (λ x. UpTo g ow.owes (in_frame f) n c q
            (resumed world (Some w) (part_name g.layout (site_of g.layout x.site).part)
            (site_of g.layout x.site).index x.base None (integer_in ((flat_view g.layout q).reg A0)) st))
            (sym same)
            (fewer n (omega arith) r1 r2 o q st mem v r same older globs store
            (integer_in ((flat_view g.layout q).reg A0)) refl))
