-- What holds after a round, of two runs of linked parts: which cells are wiped, what came in, and which calls
-- are open.
use Rattle.std.proofs.Common.{◌≡◌, inl, inr, ◌↔◌, ℕ, ◌-◌, ◌<◌, List, Option, Some, None, true, false, refl}
use Rattle.std.proofs.Common.{sym, ap, ◌∙◌, subst, arith}
use Rattle.std.proofs.lemmas.Bool.{cases_lt}
use Rattle.std.specs.Prelude.{is_some}
use Rattle.cap_words.specs.declared.Word.TheVariants.{Mem}
use Rattle.call_sequence.specs.SequenceRuns.{IsOutsideRange, stack_cap}
use Rattle.lcm_machine.specs.Cells.{cell}
use Rattle.overlay_machine.specs.declared.words.OWord.{OWord}
use Rattle.overlay_machine.specs.declared.words.OWord.TheVariants.{Plain}
use Rattle.overlay_machine.specs.State.{OpenFrame, OState, frame_of}
use Rattle.overlay_machine.specs.Step.{goes, overlay_step}
use Rattle.overlay_machine.specs.Link.{Link}
use Rattle.overlay_machine.specs.Linked.{IsLink}
use Rattle.overlay_machine.specs.Runs.{Reached, goes_on}
use Rattle.run_lines.specs.Layout.{layout}
use Rattle.run_lines.specs.Cuts.{Matched}
use Rattle.template_runs.specs.Runs.{is_inside}
use Rattle.template_runs.specs.Public.{IsFreeAt}
use Rattle.template_runs.specs.Border.{zero, Shows, Wiped, low_at}
use Rattle.proc_semantics.specs.Marked.{Thing}
use Rattle.source_laws.specs.Seen.{Back}
use Rattle.source_laws.specs.Secrets.{Until}
use Rattle.source_laws.specs.Secrets as secrets
use Rattle.source_starts.specs.Links.{first_state}
use Rattle.source_starts.specs.Sources.{LinkedSources, SourcesLeaveNothing}
use Rattle.lockstep.specs.Related.{SameNames, Calls, SameWord, ours, code_halves, data_halves, ret_codes}
use Rattle.lockstep.specs.Related.{ret_datas, CellPair}
use Rattle.lockstep.specs.Lockstep.{Round, IsRound, SameCrossing, by_call, by_leave, SameWiped, HoldsAlong}
use Rattle.lockstep.proofs.Offers.{step_rises, until_reached, in_region_of}
use Rattle.context_laws.proofs.Open.{CallsAlike, step_kept, until_kept, calls_more}
use Rattle.context_laws.proofs.History.{AllAlike, all_more}
use Rattle.context_laws.proofs.Crossing.{ends_same}

-- where a word is 0, so is what stands for it
zero_same : (g h : Link) (names : SameNames g h) (cs : Calls) (w v : OWord) → SameWord g h names cs w v
    → (w ≡ zero) ↔ (v ≡ zero)
zero_same g h names cs _ _ (ours w o) = (λ e. e, λ e. e)
zero_same g h names cs _ _ (code_halves x y t) = (λ e. cc, λ e. cc)
zero_same g h names cs _ _ (data_halves x y t) = (λ e. cc, λ e. cc)
zero_same g h names cs _ _ (ret_codes i j t) = (λ e. cc, λ e. cc)
zero_same g h names cs _ _ (ret_datas i j t) = (λ e. cc, λ e. cc)

module _ (g h : Link) (names : SameNames g h) (og oh : OState) (hg : HoldsAlong g og)
    (hh : HoldsAlong h oh) where
  -- both wipe the same cells
  module _ (cs : Calls) (a b : Round)
      (cells : (x : ℕ) → IsFreeAt g x
      → CellPair (SameWord g h names cs) (IsFreeAt g) (cell a.before.maps.cells x)
      (cell b.before.maps.cells x)) (ga : (i : ℕ) × Reached g.layout og i a.after)
      (gb : (j : ℕ) × Reached h.layout oh j b.after) (low low' : Option ℕ)
      (wa : Wiped g low a.before a.after)
      (wb : Wiped h low' b.before b.after) (lows : low ≡ low') (ends : wa.end ≡ wb.end) where
    abbrev Low : ℕ
    Low = low_at g.layout.stack.base wa.end low

    same_low : low_at h.layout.stack.base wb.end low' ≡ Low
    same_low =
        sym (ap (λ z. low_at z wa.end low) names.stack ∙ ap (λ z. low_at h.layout.stack.base z low) ends
        ∙ ap (low_at h.layout.stack.base wb.end) lows)

    kept_pair : (x : ℕ) → IsFreeAt g x → (o o' : Option OWord) → cell a.before.maps.cells x ≡ o
        → cell b.before.maps.cells x ≡ o' → (w v : OWord) → o ≡ Some w → o' ≡ Some v
        → CellPair (SameWord g h names cs) (IsFreeAt g) o o' → (w ≡ zero) ↔ (v ≡ zero)
    kept_pair x free None o' e e' w v f f' p = absurd cc
    kept_pair x free (Some u) None e e' w v f f' p = absurd cc
    kept_pair x free (Some u) (Some t) e e' w v f f' p =
        let i : u ≡ w = cc in
        let j : t ≡ v = cc in
        zero_same g h names cs w v
        (subst (λ z. SameWord g h names cs z v) i (subst (λ z. SameWord g h names cs u z) j p))

    word_there : (o : Option OWord) → is_some o ≡ true → (w : OWord) × (o ≡ Some w)
    word_there None e = absurd cc
    word_there (Some w) e = (w, refl)

    pub wiped_same : SameWiped g a b
    wiped_same x free ta tb =
        let w = word_there (cell a.after.maps.cells x) ta in
        let v = word_there (cell b.after.maps.cells x) tb in
        some_same w.0 v.0 w.1 v.1 (by w.0 v.0 w.1 v.1)
      where
        some_same : (w v : OWord) → cell a.after.maps.cells x ≡ Some w → cell b.after.maps.cells x ≡ Some v
            → (w ≡ zero) ↔ (v ≡ zero)
            → (cell a.after.maps.cells x ≡ Some zero) ↔ (cell b.after.maps.cells x ≡ Some zero)
        some_same w v e f z = (
          λ h. f ∙ ap Some (z.0 (let y : Some w ≡ Some zero = sym e ∙ h in cc)),
          λ h. e ∙ ap Some (z.1 (let y : Some v ≡ Some zero = sym f ∙ h in cc)),
        )

        outside_pair : (w v : OWord) → cell a.after.maps.cells x ≡ Some w → cell b.after.maps.cells x ≡ Some v
            → IsOutsideRange x Low wa.end → (w ≡ zero) ↔ (v ≡ zero)
        outside_pair w v e f out =
            let ia = hg ga.0 a.after ga.1 in
            let ib = hh gb.0 b.after gb.1 in
            let free' : IsFreeAt h x = names.free x (in_region_of g a.after ia.0 ia.1 x w e)
            (in_region_of h b.after ib.0 ib.1 x v f) free in
            let out' : IsOutsideRange x (low_at h.layout.stack.base wb.end low') wb.end =
            subst (λ z. IsOutsideRange x z wb.end) (sym same_low) (subst (IsOutsideRange x Low) ends out) in
            kept_pair x free _ _ refl refl w v (wa.cells.kept x w free out e) (wb.cells.kept x v free' out' f)
            (cells x free)

        by : (w v : OWord) → cell a.after.maps.cells x ≡ Some w → cell b.after.maps.cells x ≡ Some v
            → (w ≡ zero) ↔ (v ≡ zero)
        by w v e f = elim (cases_lt x Low) as (λ _. (w ≡ zero) ↔ (v ≡ zero)) [
          | inl lt ↦ outside_pair w v e f (inl lt)
          | inr ge ↦ elim (cases_lt wa.end x) as (λ _. (w ≡ zero) ↔ (v ≡ zero)) [
            | inl gt ↦ outside_pair w v e f (inr gt)
            | inr le ↦ (
                let z = wa.cells.wiped x w ge le e in
                let sl = same_low in
                let y = wb.cells.wiped x v (omega (arith, ge, sl)) (omega (arith, le, ends)) f in
                (λ _. y, λ _. z)
                )
          ]
        ]

module _ (g h : Link) (names : SameNames g h) where
  -- both give the same stack away
  pub same_ends : (cs ds : Calls) (a b : Round) → SameCrossing g h names cs a b ds → (e t : ℕ)
      → a.after.maps.regs.stk ≡ Plain (Mem (stack_cap g.layout.stack.base e e))
      → b.after.maps.regs.stk ≡ Plain (Mem (stack_cap h.layout.stack.base t t)) → e ≡ t
  same_ends cs _ a b (by_call d f k sc tc ev ew base sites a0 a1 a2 a3) e t x y =
      ends_same e (f.base - 1) (ap Some (sym x ∙ sc.stk)) ∙ ap (λ z. z - 1) base
      ∙ sym (ends_same t (k.base - 1) (ap Some (sym y ∙ tc.stk)))
  same_ends cs _ a b (by_leave d top sl tl a0 newest) e t x y =
      ends_same e top (ap Some (sym x ∙ sl.stk)) ∙ sym (ends_same t top (ap Some (sym y ∙ tl.stk)))

  -- what came in, and which calls are open, after a crossing
  pub all_behind : (cs ds : Calls) (a b : Round) → SameCrossing g h names cs a b ds →
      (xs ys : List (Thing OWord Back))
      → AllAlike g h names cs xs ys → AllAlike g h names ds xs ys
  all_behind cs _ a b (by_call d f k sc tc ev ew base sites a0 a1 a2 a3) xs ys al =
      all_more g h names f.call k.call cs xs ys al
  all_behind cs _ a b (by_leave d top sl tl a0 newest) xs ys al = al

  pub calls_behind : (cs ds : Calls) (a b : Round) → SameCrossing g h names cs a b ds
      → CallsAlike g h names cs a.after.frames b.after.frames
      → CallsAlike g h names ds a.after.frames b.after.frames
  calls_behind cs _ a b (by_call d f k sc tc ev ew base sites a0 a1 a2 a3) al =
      calls_more g h names cs sc.older tc.older a.after.frames b.after.frames f k sc.newest tc.newest al sites
      base
  calls_behind cs _ a b (by_leave d top sl tl a0 newest) al = al

-- a call that was open before a round is open since
pub open_since : (g : Link) (linked : IsLink g) (o : OState) (holds : HoldsAlong g o) (i n : ℕ)
    (f : OpenFrame)
    (r : Round) → Reached g.layout o i r.before → IsRound g.layout r → n < r.before.calls
    → frame_of r.after.frames n ≡ Some f → frame_of r.before.frames n ≡ Some f
open_since g linked o holds i n f r reached ir lt e =
    let up = step_rises g linked o holds i r.before r.entered reached ir.comes in
    let u = until_reached g linked o holds r.entered r.last _ (goes_on reached ir.comes) ir.until in
    let more = u.2 in
    step_kept g linked o holds i r.before r.entered reached ir.comes n f lt
    (until_kept g linked o holds r.entered r.last _ (goes_on reached ir.comes) ir.until n f
    (omega (arith, lt, up))
    (step_kept g linked o holds u.0 r.last r.after u.1 ir.lets n f (omega (arith, lt, up, more)) e))

-- what trusted code shows where it lets go
pub round_shows : (leaves : SourcesLeaveNothing) (a : LinkedSources) (i : ℕ) (r : Round)
    → Matched a.start i r.before → IsRound (layout a.start) r → Shows (layout a.start) r.last r.after
round_shows leaves a i r reached ir =
    ((leaves a).shows r.entered r.last r.after
    (record {
      came = secrets.comes i r.before reached ir.outside ir.comes;
      until = ir.until;
      steps = ir.lets;
      gone = ir.gone;
    })).registers

-- and where it lets go for the first time
pub first_shows : (leaves : SourcesLeaveNothing) (a : LinkedSources) (q m : OState)
    → Until (layout a.start) (first_state a.link) q → overlay_step (layout a.start) q ≡ goes m
    → is_inside (layout a.start) m ≡ false → Shows (layout a.start) q m
first_shows leaves a q m until lets gone =
    ((leaves a).shows (first_state a.link) q m
    (record { came = secrets.begins refl; until = until; steps = lets; gone = gone })).registers
