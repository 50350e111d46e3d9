-- The range of a call line that is written is left alone, by the private ranges of the overlay's lines.
use Rattle.std.proofs.Common.{◌≡◌, ℕ, ◌+◌, List, [], ◌∷◌, ◌++◌, sym, ap, subst, ◌∙◌, arith, append_assoc}
use Rattle.std.proofs.lemmas.List.{append_cancel_left, append-nil}
use Rattle.cap_words.specs.declared.Word.{Word}
use Rattle.lcm_machine.specs.Maps.{State}
use Rattle.lcm_machine.specs.Run.{Run, plain, fresh}
use Rattle.lcm_machine.specs.Touched.{Untouched}
use Rattle.linked_starts.specs.Started.{StartSeen}
use Rattle.trusted_border.specs.declared.layout.Layout.{Layout}
use Rattle.overlay_machine.specs.State.{OState}
use Rattle.overlay_machine.specs.Step.{weight_of}
use Rattle.overlay_machine.specs.Runs.{Reached, begins, goes_on, RunsAgree}
use Rattle.overlay_machine.specs.Brackets.{Depth}
use Rattle.overlay_machine.specs.Starting.{overlay_at}
use Rattle.run_lines.specs.Layout.{layout}
use Rattle.run_lines.specs.Lines.{Line, call}
use Rattle.run_lines.specs.Runs.{begun, lines_of, written}
use Rattle.run_lines.specs.Told.{Told, none_yet, and_then, step_lines}
use Rattle.headline.specs.Brackets.{marks_in, IsRet, CallsArePrivate}
use Rattle.headline.specs.Alike.{LinesAgree}
use Rattle.run_lines.specs.Cuts.{cut, cut_overlay}
use Rattle.headline.specs.Headline.{LinesOfSteps, FramesAreLeftAlone, EachCallIsPrivate}
use Rattle.run_lines.proofs.Offers.{reached_by}
use Rattle.headline.proofs.CallLines.{one_tells}
use Rattle.headline.proofs.Agreeing.{HaltsAlone, state_is}

-- ---- lines of steps

pub told_of : (l : Layout) (o : OState) (j : ℕ) (p : OState) → Reached l o j p
    → (ls : List Line) × Told l o j ls p
told_of l o _ _ begins = ([], none_yet)
told_of l o _ q (goes_on {j = j} {p = p} r e) = let k =
    told_of l o j p r in (k.0 ++ step_lines l p q, and_then k.1 e)

-- one run of steps after another
then_told : (l : Layout) (o p : OState) (j : ℕ) (ls : List Line) → Told l o j ls p
    → (m : ℕ) (more : List Line) (r : OState) → Told l p m more r → Told l o (j + m) (ls ++ more) r
then_told l o p j ls t _ _ _ none_yet =
    let here : j ≡ j + 0 = omega arith in
    subst (λ n. Told l o n (ls ++ []) p) here (subst (λ xs. Told l o j xs p) (sym (append-nil ls)) t)
then_told l o p j ls t _ _ q (and_then {j = m} {ls = more} {p = r} k e) =
    let whole = and_then (then_told l o p j ls t m more r k) e in
    let here : j + m + weight_of l r ≡ j + (m + weight_of l r) = omega arith in
    subst (λ n. Told l o n (ls ++ (more ++ step_lines l r q)) q)
    here (subst (λ xs. Told l o (j + m + weight_of l r) xs q) (append_assoc ls more (step_lines l r q))
    whole)

-- ---- of a start

module _ (s : StartSeen) (is : s.state ≡ fresh s.state.maps) (alone : HaltsAlone)
    (runs : RunsAgree (layout s) (overlay_at s).state s.state.maps)
    (agree : LinesAgree (layout s) (overlay_at s).state s.state.maps)
    (private_lines : CallsArePrivate (layout s) (overlay_at s).state s.state.maps) where
  written_is : (j : ℕ) (ls : List Line) (p : OState) → Told (layout s) (overlay_at s).state j ls p
      → written s j ≡ ls
  written_is j ls p t = ap (λ (r : Run). lines_of (layout s) (begun r) j) is ∙ agree.matched j ls p t

  -- what is written after the lines of some steps is what further steps tell
  behind_is : (j k : ℕ) (ls more new : List Line) (p r : OState) → Told (layout s) (overlay_at s).state j ls p
      → Told (layout s) (overlay_at s).state k (ls ++ new) r
      → written s k ≡ written s j ++ more → more ≡ new
  behind_is j k ls more new p r t u e =
      append_cancel_left ls more new
      (sym (ap (λ xs. xs ++ more) (written_is j ls p t)) ∙ sym e ∙ written_is k (ls ++ new) r u)

  pub left_alone : FramesAreLeftAlone s
  left_alone j p q m moved inward part site base last args words line =
      let l = layout s in
      let o = (overlay_at s).state in
      let w = weight_of l p in
      let t = told_of l o j p m in
      let next : Told l o (j + w) (t.0 ++ step_lines l p q) q = and_then t.1 moved in
      let own : call inward part site base last args words ∷ [] ≡ step_lines l p q =
      behind_is j (j + w) t.0 (call inward part site base last args words ∷ []) (step_lines l p q)
      p q t.1 next line in
      let at = runs.matched (j + w) q (goes_on m moved) in
      let here : (plain (j + w) s.state).maps ≡ at.0 =
      ap (λ (r : Run). r.maps) (state_is s is alone runs (j + w) at.0 at.1) in
      let range =
      private_lines j t.0 p q at.0 inward part site base last args words t.1 moved at.1 (sym own) in
      record {
        while_open = λ n e a r more reach written_more depth low high.
            (let k = told_of l q n r reach in
            let whole = then_told l o q (j + w) (t.0 ++ step_lines l p q) next n k.0 r k.1 in
            let same =
            behind_is (j + w) (j + w + n) (t.0 ++ step_lines l p q)
            more k.0 q r next whole written_more in
            subst (λ (u : State Word). Untouched (λ x. x) (λ x. x) a n u) (sym here)
            (range.while_open n e a k.0 r k.1 (subst (λ (xs : List Line). Depth (marks_in xs) 0 e) same depth)
            low high));
        up_to_ret = λ n e a r after more lines reach written_more depth steps written_ret is_ret low high.
            (let k = told_of l q n r reach in
            let whole = then_told l o q (j + w) (t.0 ++ step_lines l p q) next n k.0 r k.1 in
            let same =
            behind_is (j + w) (j + w + n) (t.0 ++ step_lines l p q)
            more k.0 q r next whole written_more in
            let ret_is = behind_is (j + w + n) (j + w + n + weight_of l r) ((t.0 ++ step_lines l p q) ++ k.0)
            lines (step_lines l r after) r after whole (and_then whole steps) written_ret in
            subst (λ (u : State Word). Untouched (λ x. x) (λ x. x) a (n + 1) u) (sym here)
            (range.up_to_ret n e a k.0 r after k.1
            (subst (λ (xs : List Line). Depth (marks_in xs) 0 e) same depth) (subst IsRet ret_is is_ret)
            low high));
      }

  pub each_call : ((n : ℕ) → LinesOfSteps s n) → EachCallIsPrivate s
  each_call lines n before after inward part site base last args words e =
      let l = layout s in
      let o = (overlay_at s).state in
      let line = call inward part site base last args words in
      let k = lines n in
      let one =
      one_tells l o inward part site base last args words (cut s n).at (written s n) before after
      (cut_overlay s n) k.0 e in
      let m = reached_by l o one.at before one.caller one.told in
      let here = written_is one.at before one.caller one.told in
      let behind = written_is (one.at + weight_of l one.caller) (before ++ step_lines l one.caller one.called)
      one.called (and_then one.told one.moved)
      ∙ ap (λ ls. before ++ ls) one.only in
      let more = behind ∙ ap (λ ls. ls ++ line ∷ []) (sym here) in
      record {
        at = one.at;
        caller = one.caller;
        called = one.called;
        matched = m;
        goes = one.moved;
        within = (let le = one.within in let stops = k.1.0 in omega (arith, le, stops));
        before_it = here;
        with_it = behind;
        alone = left_alone one.at one.caller one.called m one.moved inward part site base last args words
            more;
      }
