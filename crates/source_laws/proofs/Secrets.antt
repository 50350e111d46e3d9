-- From quiet runs of every number of steps to what is shown at each point at which trusted code lets go.
use Rattle.std.proofs.Common.{Bool, [], ◌≡◌, ℕ, suc, ◌+◌, true, false, refl, sym, ap, ◌∙◌, subst, arith}
use Rattle.linked_starts.specs.Started.{StartSeen}
use Rattle.overlay_machine.specs.State.{OState}
use Rattle.overlay_machine.specs.Step.{goes, overlay_step}
use Rattle.overlay_machine.specs.Runs.{Reached}
use Rattle.overlay_machine.specs.Starting.{overlay_at}
use Rattle.overlay_machine.specs.Link.{Link}
use Rattle.run_lines.specs.Layout.{layout}
use Rattle.template_runs.specs.Runs.{is_inside}
use Rattle.template_runs.specs.Border.{Shows, GivesBack}
use Rattle.overlay_machine.specs.Events.{step_event}
use Rattle.template_runs.proofs.Offers.{Quiet, Stays, Lets, now, behind, Comes, now_in, later_in, depth, Ends}
use Rattle.template_runs.proofs.Offers.{ends_now, ends_later}
use Rattle.source_laws.specs.Secrets.{HasCome, begins, comes, Until, still_there, one_more, LetsGo, ComesFrom}
use Rattle.source_laws.specs.Secrets.{Goes, at_entry, and_then}
use Rattle.source_laws.specs.Secrets as secrets

module _ (g : Link) where
  abbrev S : OState → OState → Type 0
  S = Shows g.layout

  abbrev B : OState → OState → Type 0
  B = GivesBack g.layout

  until_inside : (o p : OState) → Until g.layout o p → is_inside g.layout p ≡ true
  until_inside o _ (still_there i) = i
  until_inside o _ (one_more u s i) = i

  lets_from : (o p : OState) → Until g.layout o p → (j : ℕ) (x q : OState) → Lets g S B j p x q
      → (i : ℕ) × Lets g S B i o x q
  lets_from o _ (still_there i) j x q k = (j, k)
  lets_from o _ (one_more {p} u s i) j x q k =
      lets_from o p u (suc j) x q (behind (until_inside o p u) s i k)

  comes_from : (o : OState) (at : ℕ) (p : OState) → Reached g.layout o at p → (i : ℕ) (b a : OState)
      → Comes g S B i p b a → (j : ℕ) × Comes g S B j o b a
  comes_from o _ _ Reached.begins i b a c = (i, c)
  comes_from o _ _ (Reached.goes_on {p = p} r s) i b a c = comes_from o _ p r (suc i) b a (later_in s c)

  first_inside : (o p : OState) → Until g.layout o p → is_inside g.layout o ≡ true
  first_inside o _ (still_there i) = i
  first_inside o _ (one_more u s i) = first_inside o _ u

  module _ (s : StartSeen) (same : g.layout ≡ layout s)
      (quiet : (n : ℕ) → Quiet g S B [] n (overlay_at s).state)
      (o p q : OState) (h : LetsGo s o p q) where
    until' : Until g.layout o p
    until' = subst (λ l. Until l o p) (sym same) h.until

    all : (i : ℕ) × Lets g S B i o p q
    all = lets_from o p until' 1 p q (now (until_inside o p until')
        (ap (λ l. overlay_step l p) same ∙ h.steps)
        (ap (λ l. is_inside l q) same ∙ h.gone))

    later : (b : OState) → ComesFrom s b o → Shows g.layout p q × Stays b o
    later b r =
        let c = comes_from (overlay_at s).state r.at b
        (subst (λ l. Reached l (overlay_at s).state r.at b) (sym same) r.matched) 1 b o
        (now_in (ap (λ l. is_inside l b) same ∙ r.outside) (ap (λ l. overlay_step l b) same ∙ r.steps)
        (first_inside o p until')) in
        (quiet (c.0 + all.0)).later c.0 all.0 b o p q (omega arith) c.1 all.1

    -- what is shown where it lets go
    pub shows : Shows g.layout p q
    shows = by h.came
      where
        by : HasCome s o → Shows g.layout p q
        by (begins e) = (quiet all.0).first all.0 p q (omega arith)
            (subst (λ y. Lets g S B all.0 y p q) e all.1)
        by (comes at b r i st) = (later b (record { at = at; matched = r; outside = i; steps = st })).0

    -- the step by which code outside came in has left each cell as it was
    pub stays : (b : OState) → ComesFrom s b o → Stays b o
    stays b r = (later b r).1

  ends_from : (a p : OState) → Goes g.layout a p → (j : ℕ) (x q : OState) → Ends g S B (depth a) j p x q
      → (i : ℕ) × Ends g S B (depth a) i a x q
  ends_from a _ at_entry j x q k = (j, k)
  ends_from a _ (and_then {p} u s lo hi) j x q k = ends_from a p u (suc j) x q (ends_later s lo hi k)

  pub gives_back : (s : StartSeen) → g.layout ≡ layout s
      → ((n : ℕ) → Quiet g S B [] n (overlay_at s).state) → (a p q : OState) → secrets.LeavesAt s a p q
      → GivesBack g.layout a q
  gives_back s same quiet a p q h =
      let r = h.entered in
      let c = comes_from (overlay_at s).state r.at r.from
      (subst (λ l. Reached l (overlay_at s).state r.at r.from) (sym same) r.matched) 1 r.from a
      (now_in (ap (λ l. is_inside l r.from) same ∙ r.outside) (ap (λ l. overlay_step l r.from) same ∙ r.steps)
      (ap (λ l. is_inside l a) same ∙ r.inside)) in
      let e = ends_from a p (subst (λ l. Goes l a p) (sym same) h.until) 1 p q
      (ends_now h.part (ap (λ l. is_inside l p) same ∙ h.inside) (ap (λ l. overlay_step l p) same ∙ h.steps)
      (ap (λ l. is_inside l q) same ∙ h.gone) (ap (λ l. step_event l p q) same ∙ h.leaves) h.as_many) in
      (quiet (c.0 + e.0)).later_ends c.0 e.0 r.from a p q (omega arith) c.1 r.no_return e.1

-- before a step to trusted code
come_by : (s : StartSeen) (j : ℕ) (p q : OState) → Reached (layout s) (overlay_at s).state j p
    → overlay_step (layout s) p ≡ goes q → is_inside (layout s) q ≡ true
    → (is_inside (layout s) p ≡ true → (o : OState) × HasCome s o × Until (layout s) o p)
    → (b : Bool) → is_inside (layout s) p ≡ b → (o : OState) × HasCome s o × Until (layout s) o q
come_by s j p q r e i before true k = let h = before k in (h.0, h.1, one_more h.2 e i)
come_by s j p q r e i before false k = (q, comes j p r k e, still_there i)

has_come : (s : StartSeen) (j : ℕ) (p : OState) → Reached (layout s) (overlay_at s).state j p
    → is_inside (layout s) p ≡ true → (o : OState) × HasCome s o × Until (layout s) o p
has_come s _ _ Reached.begins i = ((overlay_at s).state, begins refl, still_there i)
has_come s _ q (Reached.goes_on {j = j} {p = p} r e) i =
    come_by s j p q r e i (λ k. has_come s j p r k) (is_inside (layout s) p) refl

pub each_lets_go : secrets.EachLetsGo
each_lets_go s j p q r i e gone =
    let h = has_come s j p r i in
    (h.0, record { came = h.1; until = h.2; steps = e; gone = gone })
