-- While a call line is open, no instruction of a run touches an address of its range but the two of its own
-- return.
use Rattle.call_sequence.specs.declared.TheConstants.{CALL_WORDS}
use Rattle.call_sequence.specs.Sequences.{load_word, wipe_word}
use Rattle.std.proofs.Common.{◌≡◌, ◌⊎◌, inl, inr, ℕ, suc, ◌+◌, ◌-◌, ◌<◌, ◌≤◌, List, [], ◌∷◌, Some, refl}
use Rattle.std.proofs.Common.{sym, ap, ◌∙◌, subst, arith}
use Rattle.std.specs.Prelude.{slice_get}
use Rattle.std.specs.List.{Contains}
use Rattle.cap_words.specs.declared.Word.{Word}
use Rattle.cap_words.specs.declared.Word.TheVariants.{Mem}
use Rattle.lcm_machine.specs.Maps.{State}
use Rattle.lcm_machine.specs.Row.{went}
use Rattle.lcm_machine.specs.Run.{Run, plain, fresh}
use Rattle.lcm_machine.specs.Runs.{run_of, code_cap}
use Rattle.lcm_machine.specs.Touched.{Touches}
use Rattle.lcm_machine.proofs.Offers.{run_then}
use Rattle.linked_starts.specs.declared.owners.Site.{Site}
use Rattle.linked_starts.specs.Parts.{PartSeen}
use Rattle.linked_starts.specs.Started.{StartSeen}
use Rattle.trusted_border.specs.declared.layout.Layout.{Layout}
use Rattle.overlay_machine.specs.State.{OpenFrame, OState}
use Rattle.overlay_machine.specs.Step.{weight_of}
use Rattle.overlay_machine.specs.Runs.{plain_run, RunsAgree}
use Rattle.overlay_machine.specs.Brackets.{Brackets}
use Rattle.overlay_machine.specs.Link.{Link}
use Rattle.overlay_machine.specs.Invariant.{FramesLie, Invariant}
use Rattle.overlay_machine.specs.Keeping.{link_of, HoldsFor}
use Rattle.overlay_machine.specs.Starting.{overlay_at}
use Rattle.overlay_machine.proofs.Offers.{matched, listed_at, lies_of, has_word, framed_at}
use Rattle.run_lines.specs.Layout.{layout, part_name, site_of, site_or}
use Rattle.run_lines.specs.Runs.{begun, lines_of, written}
use Rattle.headline.specs.Brackets.{marks_in, lines_told, LinesAreBracketed}
use Rattle.headline.specs.Alike.{LinesAgree}
use Rattle.run_lines.specs.Cuts.{Matched, cut, cut_overlay}
use Rattle.headline.specs.Headline.{WithinStep, AreBracketed}
use Rattle.headline.proofs.Agreeing.{HaltsAlone, agrees, has_gone, state_is}
use Rattle.headline.proofs.LeftAlone.{told_of}
use Rattle.headline.proofs.alike.Calm.{id}
use Rattle.headline.proofs.alike.Sites.{site_listed}
use Rattle.headline.specs.OpenCalls.{LineTold, open_behind, RetsCloseTheNewest, after, IsOwnReturn}
use Rattle.headline.specs.OpenCalls.{ReadsOrWipes, RangesAreLeftAlone, CallsAreKept}
use Rattle.headline.proofs.privacy.OpenLemmas.{open_is, closes_newest}
use Rattle.headline.proofs.privacy.ReturnTail.{OwnTouch}
use Rattle.headline.proofs.privacy.StepOwn.{step_own}
use Rattle.headline.proofs.privacy.FramesTold.{IsCallOf, frame_of_call, only_newest, newest_line}

site_is : (l : Layout) (i : ℕ) (x : Site) → slice_get l.sites i ≡ Some x → site_of l i ≡ x
unfolding site_of
site_is l i x e = ap site_or e

module _ (parts : List PartSeen) (size : ℕ) (s : StartSeen)
    (h : HoldsFor parts size (overlay_at s) s.state.maps) (is : s.state ≡ fresh s.state.maps)
    (alone : HaltsAlone)
    (runs : RunsAgree (layout s) (overlay_at s).state s.state.maps)
    (agree : LinesAgree (layout s) (overlay_at s).state s.state.maps)
    (brackets : LinesAreBracketed (layout s) (overlay_at s).state) where
  abbrev l : Layout
  l = layout s

  abbrev g : Link
  g = link_of parts size (overlay_at s)

  abbrev first : OState
  first = (overlay_at s).state

  -- what is open after n instructions is what the frames of the last matched point tell
  pub open_are : (n j : ℕ) (p : OState) → Matched s j p → j ≤ n → n < j + weight_of l p
      → open_behind [] (written s n) ≡ lines_told l p.frames
  open_are n j p reach le lt =
      let told = told_of l first j p reach in
      let same : written s n ≡ told.0 =
      ap (λ (r : Run). lines_of l (begun r) n) is ∙ agree.between j n told.0 p told.1 le lt in
      ap (open_behind []) same ∙ open_is [] _ told.0 (brackets j told.0 p told.1)

  -- the instruction after n others, from the last matched point on
  after_is : (n : ℕ) (v : State Word) → plain_run n s.state.maps ≡ went v → after s n ≡ v
  after_is n v e = ap (λ (r : Run). r.maps) (state_is s is alone runs n v e)

  behind : (n j : ℕ) (u v : State Word) → j ≤ n → plain_run j s.state.maps ≡ went u
      → plain_run n s.state.maps ≡ went v
      → run_of id id (n - j) u ≡ went v
  behind n j u v le at e =
      let z : n ≡ j + (n - j) = omega (arith, le) in
      sym (run_then id id j (n - j) s.state.maps u _ at refl)
      ∙ subst (λ k. plain_run k s.state.maps ≡ went v) z e

  -- ---- its own return

  module _ (n j word : ℕ) (p : OState) (u v : State Word) (a : ℕ) (at_n : plain_run n s.state.maps ≡ went v)
      (at_j : plain_run j s.state.maps ≡ went u) (le : j ≤ n) (so_many : n - j ≡ suc word)
      (touch : OwnTouch l p u v a word) (c : LineTold) (is_call : IsCallOf l touch.frame c)
      (newest : open_behind [] (written s j) ≡ c ∷ lines_told l touch.older) where
    abbrev F : OpenFrame
    F = touch.frame

    own_return : IsOwnReturn s n c word
    own_return =
        let x = site_listed g h.linked F.site touch.site touch.site_is in
        let at : touch.site.at ≡ (x.0).at = sym x.3 in
        let seal : touch.site.seal ≡ (x.0).seal = sym x.2 in
        let here = sym (site_is l F.site x.0 x.1) in
        record {
          site = x.0;
          is_site = listed_at l.sites F.site x.0 x.1;
          of_part = ap (λ y. part_name l y.part) here ∙ is_call.part;
          index = ap (λ y. y.index) here ∙ is_call.site;
          first = touch.site.base;
          end = touch.site.end;
          at_pc = ap (λ (y : State Word). y.regs.pc) (after_is n v at_n) ∙ touch.used.2
              ∙ ap (λ y. Mem (code_cap touch.site.base touch.site.end (y + CALL_WORDS + word))) at;
          before = j;
          so_many = omega (arith, le, so_many);
          r1 = touch.r1;
          r2 = touch.r2;
          next = touch.next;
          jumps = rw (after_is j u at_j) touch.jumps;
          code = rw (after_is j u at_j, sym at, sym seal) touch.code;
          range = rw (after_is j u at_j, sym seal, sym is_call.base, sym is_call.last) touch.range;
          older = lines_told l touch.older;
          newest = newest;
          last_below = touch.last_below;
          right_below = touch.right_below ∙ is_call.base;
          stk_at = touch.stk_at;
          stk = ap (λ (y : State Word). y.regs.stk) (after_is j u at_j) ∙ touch.stk;
        }

    reads_or_wipes : ReadsOrWipes s n c a
    reads_or_wipes = (
      touch.used.0 ∙ is_call.base,
      elim touch.used.1 as (λ _. IsOwnReturn s n c load_word ⊎ IsOwnReturn s n c wipe_word) [
        | inl e ↦ inl (subst (λ y. IsOwnReturn s n c y) e own_return)
        | inr e ↦ inr (subst (λ y. IsOwnReturn s n c y) e own_return)
      ],
    )

  -- ---- the law

  left_alone : RangesAreLeftAlone s
  left_alone n a c used =
      let j = (cut s n).at in
      let p = cut_overlay s n in
      let k : WithinStep s n j p = (agrees s is alone runs).goes n used.goes in
      let le : j ≤ n = k.1 in
      let lt : n < j + weight_of l p = k.2 in
      let told =
      frame_of_call l p.frames c (subst (λ cs. Contains cs c) (open_are n j p k.0 le lt) used.is_open)
      in
      let f = told.0 in
      let low_f : f.base ≤ a = (let e = (told.2).base in let low = used.low in omega (arith, low, e)) in
      let high_f : a ≤ f.end = (let e = (told.2).last in let high = used.high in omega (arith, high, e)) in
      let at = matched g h.linked first s.state.maps h.holds j p k.0 in
      let u = at.0 in
      let inv : Invariant g p u = at.2 in
      let v = has_gone s.state.maps n (sym (ap (λ (r : Run). (plain n r).end) is) ∙ used.goes) in
      let lies = lies_of l p.maps.cells p.calls p.frames f inv.frames told.1 in
      let w = has_word l p.maps.cells f a lies low_f high_f in
      let in_frames = framed_at l p.maps.cells p.calls p.frames f a w.0 inv.frames told.1 w.1 in
      let ran = behind n j u v.0 le at.1 v.1 in
      let own =
      step_own g h.linked p u inv a w.0 in_frames (n - j)
      v.0 ran (subst (λ y. Touches id y a) (after_is n v.0 v.1) used.touches) (omega (arith, le, lt)) in
      let touch = own.2 in
      let base : a ≡ touch.frame.base = touch.used.0 in
      let newest : f ≡ touch.frame =
      only_newest l p.maps.cells p.calls touch.frame touch.older f
      (subst (λ fs. FramesLie l p.maps.cells p.calls fs) touch.frames_are inv.frames)
      (subst (λ fs. Contains fs f) touch.frames_are told.1) (omega (arith, low_f, base)) in
      let is_open =
      subst (λ fs. Contains (lines_told l fs) c) touch.frames_are
      (subst (λ cs. Contains cs c) (open_are n j p k.0 le lt) used.is_open) in
      let line =
      newest_line l p.maps.cells p.calls touch.frame touch.older c
      (subst (λ fs. FramesLie l p.maps.cells p.calls fs) touch.frames_are inv.frames)
      is_open (let low = used.low in omega (arith, low, base)) in
      let there : open_behind [] (written s j) ≡ lines_told l p.frames =
      open_are j j p k.0 (omega arith) (omega (arith, le, lt)) in
      reads_or_wipes n j own.0 p u v.0 a v.1 at.1 le own.1 touch c (subst (λ y. IsCallOf l y c) newest told.2)
      (there ∙ ap (lines_told l) touch.frames_are ∙ line)

  -- ---- brackets

  closes : ((n : ℕ) → AreBracketed (written s n)) → RetsCloseTheNewest s
  closes lines n before more inward part site base last a0 words e =
      let k = lines n in
      closes_newest inward part site base last a0 words more k.0 []
      before (subst (λ ls. Brackets LineTold [] (marks_in ls) k.0) e k.1)

  pub calls_kept : ((n : ℕ) → AreBracketed (written s n)) → CallsAreKept s
  calls_kept lines = record { bracketed = closes lines; alone = left_alone }
