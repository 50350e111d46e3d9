-- No code outside can tell trusted parts apart of which the same is observed on each feed.
use Rattle.std.proofs.Common.{◌≡◌, ℕ, suc, List, [], ◌∷◌, Option, Some, true, false, sym, ap, ◌∙◌, subst}
use Rattle.std.proofs.lemmas.Option.{same_Some}
use Rattle.overlay_machine.specs.State.{OState}
use Rattle.overlay_machine.specs.Step.{goes, overlay_step}
use Rattle.overlay_machine.specs.Link.{Link}
use Rattle.overlay_machine.specs.Linked.{IsLink}
use Rattle.overlay_machine.specs.Runs.{Reached, goes_on}
use Rattle.trusted_border.specs.declared.layout.Layout.{Layout}
use Rattle.template_runs.specs.Runs.{is_inside}
use Rattle.template_runs.proofs.Offers.{goes_same, halts_not, fails_not}
use Rattle.lockstep.specs.Related.{SameNames, Calls, Alike, StepsAlike, both_halt, both_fail, both_stay}
use Rattle.lockstep.specs.Related.{both_come, ComesAlike}
use Rattle.lockstep.specs.Lockstep.{Round, IsRound, Path, InStep, at_end, round, AreBelow, HoldsAlong, Tidies}
use Rattle.lockstep.specs.Lockstep as spec
use Rattle.lockstep.specs.Contexts.{Observer, RoundShows, firsts, seconds, TellAlike, none_yet, one_more}
use Rattle.lockstep.specs.Contexts.{Matches, NoContextTells}
use Rattle.lockstep.proofs.Counts.{step_rises}
use Rattle.lockstep.proofs.Arrive.{arrive_alike}
use Rattle.lockstep.proofs.Whole.{alike_step, runs_outside, below_later, below_after, comes_alike}
use Rattle.lockstep.proofs.Whole.{after_a, after_b, first_inside}

module _ {I O : Type 0} (l : Layout) (t : Observer I O) where
  -- after a step outside, and after a round
  stepped : (observed : List I → Option O) (ks : List ℕ) (p q : OState) → is_inside l p ≡ false
      → overlay_step l p ≡ goes q → is_inside l q ≡ false → Matches l t observed ks p
      → Matches l t observed ks q
  stepped observed ks p q io s iq f = record {
    comes = λ n rs z m later ms x k sh. f.comes (suc n) rs z m later ms x (spec.outside io s iq k) sh;
    shows = λ n rs r later ms k sh. f.shows (suc n) rs r later ms (spec.outside io s iq k) sh;
  }

  passed : (observed : List I → Option O) (ks ms : List ℕ) (r : Round) (x : O) → IsRound l r
      → observed (t.item r.before r.entered ∷ []) ≡ Some x → RoundShows t ks r x ms
      → Matches l t observed ks r.before
      → Matches l t (λ xs. observed (t.item r.before r.entered ∷ xs)) ms r.after
  passed observed ks ms r x ir e s f = record {
    comes = λ n rs z m later ns y k sh. f.comes (suc n) (r ∷ rs) z m later ns y (spec.inside r ir k)
        (one_more r x e s sh);
    shows = λ n rs v later ns k sh. f.shows (suc n) (r ∷ rs) v later ns (spec.inside r ir k)
        (one_more r x e s sh);
  }

module _ {I O : Type 0} (g h : Link) (names : SameNames g h) (lg : IsLink g) (lh : IsLink h) (o o' : OState)
    (hg : HoldsAlong g o) (hh : HoldsAlong h o') (tg : Tidies g o) (th : Tidies h o') (t u : Observer I O)
    (tell : TellAlike g h names o o' t u) where
  abbrev Other : ℕ → Calls → List Round → OState → OState → Type 0
  Other n cs as_ q p' =
      (q' : OState) × (bs : List Round) × Path h.layout n p' bs q' × InStep g h names cs as_ bs q q'

  -- what the other run does where the one stays outside, or comes in
  stays_too : (cs : Calls) (p p' q : OState) → StepsAlike g h names cs p p' → overlay_step g.layout p ≡ goes q
      → is_inside g.layout q ≡ false → (q' : OState) × (overlay_step h.layout p' ≡ goes q')
      × (is_inside h.layout q' ≡ false) × Alike g h names cs q q'
  stays_too cs p p' q (both_halt x y) e i = absurd (halts_not q (sym x ∙ e))
  stays_too cs p p' q (both_fail x y) e i = absurd (fails_not q (sym x ∙ e))
  stays_too cs p p' q (both_stay m m' x y im jm ev ew al) e i =
      (m', y, jm, subst (λ z. Alike g h names cs z m') (goes_same m q (sym x ∙ e)) al)
  stays_too cs p p' q (both_come m m' x y im jm c) e i =
      absurd (let bad : true ≡ false = sym im ∙ ap (is_inside g.layout) (goes_same m q (sym x ∙ e)) ∙ i in cc)

  comes_too : (cs : Calls) (p p' q : OState) → StepsAlike g h names cs p p' → overlay_step g.layout p ≡ goes q
      → is_inside g.layout q ≡ true → (q' : OState) × (overlay_step h.layout p' ≡ goes q')
      × (is_inside h.layout q' ≡ true) × ComesAlike g h names cs p q p' q'
  comes_too cs p p' q (both_halt x y) e i = absurd (halts_not q (sym x ∙ e))
  comes_too cs p p' q (both_fail x y) e i = absurd (fails_not q (sym x ∙ e))
  comes_too cs p p' q (both_stay m m' x y im jm ev ew al) e i =
      absurd (let bad : false ≡ true = sym im ∙ ap (is_inside g.layout) (goes_same m q (sym x ∙ e)) ∙ i in cc)
  comes_too cs p p' q (both_come m m' x y im jm c) e i =
      (m', y, jm, subst (λ z. ComesAlike g h names cs p z p' m') (goes_same m q (sym x ∙ e)) c)

  -- all that is known of the other run's state
  record Beside (observed : List I → Option O) (j : ℕ) (cs : Calls) (p p' : OState) : Type 0 where
    pub reached : Reached h.layout o' j p'
    pub outside : is_inside h.layout p' ≡ false
    pub alike : Alike g h names cs p p'
    pub below : AreBelow cs p p'
    pub follows : Matches h.layout u observed (seconds cs) p'

  other_run : (observed : List I → Option O) (n i j : ℕ) (cs : Calls) (p p' q : OState) (as_ : List Round)
      → Reached g.layout o i p → is_inside g.layout p ≡ false → Matches g.layout t observed (firsts cs) p
      → Beside observed j cs p p' → Path g.layout n p as_ q → Other n cs as_ q p'
  other_run observed _ i j cs p p' _ _ r io fg b spec.ends = (
    p',
    [],
    spec.ends,
    at_end b.alike
        (alike_step g h names lg lh o o' hg hh tg th cs i j p p' r b.reached io b.outside b.alike b.below),
  )
  other_run observed _ i j cs p p' q as_ r io fg b (spec.outside {n = n} {q = m} x s w k) =
      let st = alike_step g h names lg lh o o' hg hh tg th cs i j p p' r b.reached io b.outside b.alike
      b.below in
      let e = stays_too cs p p' m st s w in
      let rest = other_run observed n _ _ cs m e.0 q as_ (goes_on r s) w
      (stepped g.layout t observed (firsts cs) p m io s w fg)
      (record {
        reached = goes_on b.reached e.1;
        outside = e.2;
        alike = e.3;
        below = below_later cs p p' m e.0 (step_rises g lg o hg i p m r s)
            (step_rises h lh o' hh j p' e.0 b.reached e.1) b.below;
        follows = stepped h.layout u observed (seconds cs) p' e.0 b.outside e.1 e.2 b.follows;
      }) k in
      (rest.0, rest.1, spec.outside b.outside e.1 e.2 rest.2, rest.3)
  other_run observed _ i j cs _ p' q _ r io fg b (spec.inside {n = n} {rs = as_} a ia k) =
      let st = alike_step g h names lg lh o o' hg hh tg th cs i j a.before p' r b.reached io b.outside b.alike
      b.below in
      let ins = first_inside g.layout a.entered a.last ia.until in
      let e = comes_too cs a.before p' a.entered st ia.comes ins in
      let f = fg.shows 0 [] a observed (firsts cs) spec.ends none_yet ia in
      let c = b.follows.comes 0 [] p' e.0 observed (seconds cs) f.0 spec.ends none_yet b.outside e.1 e.2
      (sym (ap (λ y. observed (y ∷ []))
      (tell.items cs i j a.before a.entered p' e.0 r b.reached ia.comes e.1 e.3)) ∙ f.2) in
      subst (λ z. Other (suc n) cs (a ∷ as_) q z) c.2
      (by_round (λ later i' j' ds z ra fa be. other_run later n i' j' ds a.after z q as_ ra ia.gone fa be k)
      c.0 c.1 (subst (λ z. Beside observed j cs a.before z) (sym c.2) b))
    where
      by_round : ((later : List I → Option O) (i' j' : ℕ) (ds : Calls) (z : OState)
          → Reached g.layout o i' a.after
          → Matches g.layout t later (firsts ds) a.after → Beside later j' ds a.after z → Other n ds as_ q z)
          → (b : Round) → IsRound h.layout b → Beside observed j cs a.before b.before
          → Other (suc n) cs (a ∷ as_) q b.before
      by_round more b ib be =
          let st = alike_step g h names lg lh o o' hg hh tg th cs i j a.before b.before r be.reached io
          be.outside
          be.alike be.below in
          let ins = first_inside g.layout a.entered a.last ia.until in
          let c = comes_alike g h names lg lh o o' hg hh tg th cs a.before b.before a.entered b.entered st
          ia.comes
          ib.comes ins in
          let same = tell.items cs i j a.before a.entered b.before b.entered r be.reached ia.comes ib.comes c
          in
          let f = fg.shows 0 [] a observed (firsts cs) spec.ends none_yet ia in
          let v = be.follows.shows 0 [] b observed (seconds cs) spec.ends none_yet ib in
          let x : f.0 ≡ v.0 = same_Some f.0 v.0 (sym f.2 ∙ ap (λ y. observed (y ∷ [])) same ∙ v.2) in
          let sh = tell.shown cs i j a b f.0 f.1 v.1 r be.reached ia ib be.alike be.below f.3
          (subst (λ y. RoundShows u (seconds cs) b y v.1) (sym x) v.3) in
          let ra = after_a g h names lg lh o o' hg hh tg th cs a b i j r be.reached ia ib be.below in
          let rb = after_b g h names lg lh o o' hg hh tg th cs a b i j r be.reached ia ib be.below in
          let oa = runs_outside g o hg ra.0 a.after ra.1 ia.gone in
          let ob = runs_outside h o' hh rb.0 b.after rb.1 ib.gone in
          let fa = passed g.layout t observed (firsts cs) f.1 a f.0 ia f.2 f.3 fg in
          let fb = passed h.layout u observed (seconds cs) v.1 b v.0 ib v.2 v.3 be.follows in
          let rest = more (λ xs. observed (t.item a.before a.entered ∷ xs)) ra.0 rb.0 sh.0 b.after ra.1
          (subst (λ ks. Matches g.layout t (λ xs. observed (t.item a.before a.entered ∷ xs)) ks a.after)
          (sym sh.3) fa)
          (record {
            reached = rb.1;
            outside = ib.gone;
            alike = arrive_alike g h names lg lh cs a b oa ob be.alike.seen.1 (tg i a r ia)
                (th j b be.reached ib) sh.2 sh.0 sh.1;
            below = below_after g h names lg lh o o' hg hh tg th cs a b i j r be.reached ia ib be.below sh.0
                sh.1;
            follows = subst (λ y. Matches h.layout u (λ xs. observed (y ∷ xs)) (seconds sh.0) b.after)
                (sym same)
                (subst (λ ks. Matches h.layout u (λ xs. observed (u.item b.before b.entered ∷ xs)) ks b.after)
                (sym sh.4) fb);
          }) in
          (rest.0, b ∷ rest.1, spec.inside b ib rest.2, round a b c sh.1 rest.3)

pub no_context_tells : {I O : Type 0} → NoContextTells I O
no_context_tells g h names lg lh o o' hg hh tg th t u tell observed i j cs p p' r r' io io' al below fg fh n q
    as_ k =
    other_run g h names lg lh o o' hg hh tg th t u tell observed n i j cs p p' q as_ r io fg
    (record { reached = r'; outside = io'; alike = al; below = below; follows = fh }) k
