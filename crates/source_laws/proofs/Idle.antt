-- No call waits: untrusted code runs, and procedures that it entered end.
use Rattle.std.proofs.Common.{◌≡◌, ℕ, suc, List, [], ◌∷◌, Some, None, refl, sym, ◌∙◌, subst}
use Rattle.lcm_isa.specs.declared.Reg.TheVariants.{Rdata}
use Rattle.lcm_machine.specs.declared.Place.TheVariants.{R}
use Rattle.overlay_machine.specs.declared.words.OWord.TheVariants.{RetData}
use Rattle.overlay_machine.specs.State.{OpenFrame, frame_of}
use Rattle.overlay_machine.specs.Safe.{IsMet}
use Rattle.overlay_machine.proofs.Offers.{frame_none}
use Rattle.source_laws.proofs.Scenes.{Scene}
use Rattle.template_runs.proofs.Offers.{Named}
use Rattle.source_laws.proofs.CallsIn.{ProcLaw}
use Rattle.source_laws.proofs.Meanwhile.{Meets, Beneath, RunsLaw, EndsLaw, ReturnsLaw, PairsLaw, runs_law}
use Rattle.source_laws.proofs.Meanwhile.{ends_law}

module _ (scene : Scene) where
  open scene use {world, g, linked, Begins, StoreIs, RegsAre}

  -- nothing is open beneath
  abbrev pub no_call : Beneath scene
  no_call = record { wait = None; frames = []; owes = []; deep = λ x m. absurd m }

  abbrev pub IdleLaw : ℕ → Type 0
  IdleLaw n = (c : ℕ) → RunsLaw scene n c no_call

  abbrev pub IdleLeaveLaw : ℕ → Type 0
  IdleLeaveLaw n = (c : ℕ) → EndsLaw scene n c no_call

  no_frame : (f : OpenFrame) (fs : List OpenFrame) → [] ≡ f ∷ fs → ⊥
  no_frame f fs e = cc

  -- there is no call to return from
  no_returns : (n c : ℕ) → ReturnsLaw scene n c no_call
  no_returns n c st mem o fr globs store r1 r2 q v r =
      absurd (no_frame r.frame r.older (sym fr ∙ r.frames_are))

  no_pairs : (n c : ℕ) → PairsLaw scene n c no_call
  no_pairs n c e i j ec ed =
      let met : IsMet g e.q.frames (RetData j) =
      subst (IsMet g e.q.frames) ed (e.a.valid.holds.met (R Rdata) e.q.maps.regs.rdata refl) in
      absurd (frame_none j met.0 (subst (λ x. frame_of x j ≡ Some met.0) (e.a.frames ∙ e.fr) met.1))

  module _ (named : Named g) (meets : Meets scene named) where
    pub idle_law : (n : ℕ) → ProcLaw scene n → IdleLeaveLaw n → IdleLaw n → IdleLaw (suc n)
    idle_law n procs leave idle c =
        runs_law scene named meets n c no_call procs (leave c) (idle c) (no_returns n c)

    pub idle_leave_law : (n : ℕ) → ProcLaw scene n → IdleLeaveLaw n → IdleLaw n → IdleLeaveLaw (suc n)
    idle_leave_law n procs leave idle c =
        ends_law scene named meets n c no_call procs (leave c) (idle c) (no_pairs (suc n) c)
