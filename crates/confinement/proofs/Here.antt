-- Where an instruction of code outside comes in the run of a linked start: a matched point, with its overlay.
use Rattle.std.proofs.Common.{◌≡◌, ℕ, ◌+◌, ◌-◌, ◌<◌, ◌≤◌, List, [], Option, Some, None, refl, sym, ap, subst}
use Rattle.std.proofs.Common.{◌∙◌, arith}
use Rattle.cap_words.specs.declared.Word.{Word}
use Rattle.lcm_machine.specs.declared.End.{End}
use Rattle.lcm_machine.specs.declared.End.TheVariants.{Halted, Failed}
use Rattle.lcm_machine.specs.Maps.{State}
use Rattle.lcm_machine.specs.Row.{Outcome, went, halted, failed, step_of}
use Rattle.lcm_machine.specs.Run.{Run, plain, fresh, EndsAs}
use Rattle.lcm_machine.specs.Runs.{run_of}
use Rattle.lcm_machine.specs.Acts.{Fetches}
use Rattle.lcm_machine.proofs.Offers.{plain_ends, run_one, run_then}
use Rattle.linked_starts.specs.Parts.{PartSeen}
use Rattle.linked_starts.specs.Started.{StartSeen}
use Rattle.overlay_machine.specs.State.{OState}
use Rattle.overlay_machine.specs.Step.{weight_of}
use Rattle.overlay_machine.specs.Runs.{Reached, plain_run}
use Rattle.overlay_machine.specs.Link.{Link}
use Rattle.overlay_machine.specs.Invariant.{Invariant}
use Rattle.overlay_machine.specs.Keeping.{link_of, HoldsFor}
use Rattle.overlay_machine.specs.Starting.{overlay_at, AgreesFromStart}
use Rattle.run_lines.specs.Layout.{layout}
use Rattle.run_lines.specs.Runs.{written}
use Rattle.headline.specs.Brackets.{lines_told, LinesAreBracketed}
use Rattle.headline.specs.OpenCalls.{open_behind, after}
use Rattle.run_lines.specs.Cuts.{cut, cut_overlay}
use Rattle.headline.specs.Headline.{WithinStep, Headline}
use Rattle.headline.proofs.Offers.{open_is}
use Rattle.confinement.specs.Confined.{ComesFromOutside}
use Rattle.confinement.proofs.Jumping.{id}
use Rattle.confinement.proofs.Areas.{away}
use Rattle.confinement.proofs.Coming.{IsOutside, comes}

-- the machine after n instructions that went
abbrev pub gone : State Word → ℕ → Run
gone u n = record { maps = u; count = n; end = None }

ended_none : (e : End) (o : Option End) → o ≡ Some e → o ≡ None → ⊥
ended_none e o h k = let bad : Some e ≡ None = sym h ∙ k in cc

module _ (s : StartSeen) (is : s.state ≡ fresh s.state.maps) where
  pub state_is : (n : ℕ) (u : State Word) → plain_run n s.state.maps ≡ went u → plain n s.state ≡ gone u n
  state_is n u e =
      ap (plain n) is ∙ subst (λ o. EndsAs n o (plain n (fresh s.state.maps))) e (plain_ends n s.state.maps)

  pub after_is : (n : ℕ) (u : State Word) → plain_run n s.state.maps ≡ went u → after s n ≡ u
  after_is n u e = ap (λ (r : Run). r.maps) (state_is n u e)

  -- what has not ended has gone on
  pub has_gone : (n : ℕ) → (plain n s.state).end ≡ None → (u : State Word) ×
      (plain_run n s.state.maps ≡ went u)
  has_gone n h =
      by_outcome (plain_run n s.state.maps) refl (plain_ends n s.state.maps)
      (sym (ap (λ (r : Run). (plain n r).end) is) ∙ h)
    where
      by_outcome : (o : Outcome Word) → plain_run n s.state.maps ≡ o
          → EndsAs n o (plain n (fresh s.state.maps))
          → (plain n (fresh s.state.maps)).end ≡ None
          → (u : State Word) × (plain_run n s.state.maps ≡ went u)
      by_outcome (went u) e k q = (u, e)
      by_outcome halted e k q = absurd (ended_none Halted _ k q)
      by_outcome (failed c at) e k q = absurd (ended_none (Failed c at) _ k q)

pub one_state : (n : ℕ) (t u v : State Word) → plain_run n t ≡ went u → plain_run n t ≡ went v → u ≡ v
one_state n t u v e f = let q : went u ≡ went v = sym e ∙ f in cc

-- the instruction after n others
pub next_step : (n : ℕ) (t u v : State Word) → plain_run n t ≡ went u → plain_run (n + 1) t ≡ went v
    → step_of id id u ≡ went v
next_step n t u v e f = sym (run_one id id u) ∙ sym (run_then id id n 1 t u _ e refl) ∙ f

module _ (parts : List PartSeen) (size : ℕ) (s : StartSeen)
    (h : HoldsFor parts size (overlay_at s) s.state.maps) (is : s.state ≡ fresh s.state.maps)
    (agrees : AgreesFromStart parts size s) (headline : Headline s)
    (brackets : LinesAreBracketed (layout s) (overlay_at s).state) where
  abbrev pub g : Link
  g = link_of parts size (overlay_at s)

  pub record Here (n : ℕ) : Type 0 where
    pub p : OState
    pub reached : Reached (layout s) (overlay_at s).state n p
    pub u : State Word
    pub ran : plain_run n s.state.maps ≡ went u
    pub inv : Invariant (link_of parts size (overlay_at s)) p u
    pub outside : IsOutside (link_of parts size (overlay_at s)) h.linked p u inv
    pub opened : open_behind [] (written s n) ≡ lines_told (layout s) p.frames

  pub here : (n : ℕ) → ComesFromOutside parts s n → Here n
  here n x =
      let j = (cut s n).at in
      let p = cut_overlay s n in
      let k : WithinStep s n j p = headline.agrees.goes n x.comes.0 in
      let le : j ≤ n = k.1 in
      let lt : n < j + weight_of (layout s) p = k.2 in
      let at = agrees.matched j p k.0 in
      let v = has_gone s is n x.comes.0 in
      let z : n ≡ j + (n - j) = omega (arith, le) in
      let ran : run_of id id (n - j) at.0 ≡ went v.0 =
      sym (run_then id id j (n - j) s.state.maps at.0 _ at.1 refl)
      ∙ subst (λ i. plain_run i s.state.maps ≡ went v.0) z v.1 in
      let c = comes g h.linked p at.0 at.2 (n - j) v.0 ran x.at
      (subst (λ y. Fetches id y x.at) (after_is s is n v.0 v.1) x.comes.1)
      (away g h.linked x.at x.outside) (omega (arith, le, lt)) in
      let none = c.0 in
      let same : j ≡ n = omega (arith, none, le) in
      let told = (headline.lines n).0 in
      record {
        p = p;
        reached = subst (λ i. Reached (layout s) (overlay_at s).state i p) same k.0;
        u = at.0;
        ran = subst (λ i. plain_run i s.state.maps ≡ went at.0) same at.1;
        inv = at.2;
        outside = c.1;
        opened = open_is [] (lines_told (layout s) p.frames) (written s n)
            (brackets j (written s n) p told);
      }

-- the machine of a start has made no step, and hasn't ended
pub start_fresh : (s : StartSeen) → s.state.count ≡ 0 → s.state.end ≡ None → s.state ≡ fresh s.state.maps
start_fresh s count end = λ i. record { maps = s.state.maps; count = count i; end = end i }
