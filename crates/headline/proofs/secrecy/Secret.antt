-- The words of open calls' frames are secret, and stay.
use Rattle.std.proofs.Common.{◌≡◌, ℕ, zero, suc, ◌+◌, ◌≤◌, List, [], ◌++◌, Some, None}
use Rattle.std.proofs.Common.{refl, sym, ap, ◌∙◌, subst, arith, IsSome}
use Rattle.std.proofs.lemmas.List.{append-nil, append_assoc}
use Rattle.std.specs.List.{Contains}
use Rattle.cap_words.specs.declared.Word.{Word}
use Rattle.lcm_machine.specs.Maps.{State}
use Rattle.lcm_machine.specs.Cells.{cell}
use Rattle.lcm_machine.specs.Run.{Run, plain, next_state, fresh}
use Rattle.linked_starts.specs.Parts.{PartSeen}
use Rattle.linked_starts.specs.Started.{StartSeen}
use Rattle.trusted_border.specs.declared.layout.Layout.{Layout}
use Rattle.trusted_border.specs.declared.events.Event.{Event}
use Rattle.trusted_border.specs.declared.events.Event.TheVariants.{Called, Returned, Entered, Left}
use Rattle.overlay_machine.specs.Runs.{RunsAgree}
use Rattle.overlay_machine.specs.Keeping.{HoldsFor}
use Rattle.overlay_machine.specs.Starting.{overlay_at}
use Rattle.run_lines.specs.Layout.{layout}
use Rattle.run_lines.specs.Views.{view_of}
use Rattle.run_lines.specs.Lines.{lines_for}
use Rattle.run_lines.specs.Runs.{Watched, begun, watched, watched_next, event_next, line_next, lines_of}
use Rattle.run_lines.specs.Runs.{written}
use Rattle.headline.specs.OpenCalls.{LineTold, open_behind, after, CallsAreKept}
use Rattle.headline.specs.Alike.{LinesAgree}
use Rattle.headline.specs.Brackets.{LinesAreBracketed}
use Rattle.headline.proofs.Agreeing.{HaltsAlone}
use Rattle.run_lines.proofs.Offers.{watched_run}
use Rattle.lcm_machine.specs.Blind.{SameBut, Keeps}
use Rattle.headline.specs.Secrecy.{InRanges, StayOpen, instead, other_run, FramesAreSecret}
use Rattle.headline.proofs.secrecy.Beside.{Beside, OfNoUse, next_beside, event_goes, went_before}
use Rattle.headline.proofs.secrecy.Beside.{end_line_same, RangeIsOff, inward_same, line_next_same}
use Rattle.headline.proofs.secrecy.OpenRanges.{open_then, LieApart, lie_apart, cell_there}

abbrev id : Word → Word
id w = w

watched_plain : (l : Layout) (w : Watched) (n : ℕ) → (watched l w n).run ≡ plain n w.run
watched_plain l w zero = refl
watched_plain l w (suc n) = ap next_state (watched_plain l w n)

fewer : (s : StartSeen) (n m : ℕ) (cs : List LineTold) → StayOpen s n (suc m) cs → StayOpen s n m cs
fewer s n m cs h = record {
  opened = λ k c le. h.opened k c (omega (arith, le));
  unread = λ k c lt. h.unread k c (omega (arith, lt));
}

module _ (s : StartSeen) (calls : CallsAreKept s)
    (lie : (n : ℕ) → (plain n s.state).end ≡ None → LieApart (open_behind [] (written s n)))
    (there : (n : ℕ) → (plain n s.state).end ≡ None → (c : LineTold) (a : ℕ)
    → Contains (open_behind [] (written s n)) c → c.base ≤ a → a ≤ c.last → IsSome (cell (after s n).cells a))
  where
    abbrev l : Layout
    l = layout s

    module _ (n : ℕ) (cs : List LineTold) (t : State Word) (same : SameBut (InRanges cs) (after s n) t) where
      abbrev apart : ℕ → Type 0
      apart = InRanges cs

      -- the instruction after n + k others doesn't use these ranges
      no_use : (k : ℕ) (u : State Word) (q : Run) → StayOpen s n (suc k) cs
          → OfNoUse apart (plain (n + k) s.state) q
      no_use k u q h goes = (
        λ a p is. there (n + k) goes p.0 a (h.opened k p.0 (omega arith) p.1) p.2 p.3,
        λ a p touch. (let used = calls.alone (n + k) a p.0 (record {
          goes = goes;
          is_open = h.opened k p.0 (omega arith) p.1;
          low = p.2;
          high = p.3;
          touches = touch;
        }) in h.unread k p.0 (omega arith) p.1 used.1),
      )

      next_at : (m : ℕ) → plain (n + suc m) s.state ≡ next_state (plain (n + m) s.state)
      next_at m = (let e : n + suc m ≡ suc (n + m) = omega arith in ap (λ k. plain k s.state) e)

      abbrev Whole : ℕ → Type 0
      Whole m = Beside apart (plain (n + m) s.state) (other_run s n t m)
          × Keeps apart (after s n) (after s (n + m)) × Keeps apart t (other_run s n t m).maps

      beside : (m : ℕ) → StayOpen s n m cs → Whole m
      beside zero h =
          let e : n + 0 ≡ n = omega arith in
          subst (λ k. Beside apart (plain k s.state) (other_run s n t 0)
          × Keeps apart (after s n) (after s k) × Keeps apart t (other_run s n t 0).maps) (sym e)
          (record { end = refl; count = refl; maps = same }, λ a p. refl, λ a p. refl)
      beside (suc m) h =
          let k = beside m (fewer s n m cs h) in
          let r = plain (n + m) s.state in
          let q = other_run s n t m in
          let next = next_beside apart r q k.0 (no_use m t q h) in
          subst (λ (x : Run). Beside apart x (next_state q)
          × Keeps apart (after s n) x.maps × Keeps apart t (next_state q).maps) (sym (next_at m))
          (next.0, λ a p. next.1 a p ∙ k.1 a p, λ a p. next.2 a p ∙ k.2 a p)

      -- ---- lines

      -- the run watched after n + m instructions, and the other one
      abbrev W : ℕ → Watched
      W m = watched l (begun s.state) (n + m)

      abbrev X : ℕ → Watched
      X m = watched l (instead s n t) m

      W_run : (m : ℕ) → (W m).run ≡ plain (n + m) s.state
      W_run m = watched_run l s.state (n + m)

      X_run : (m : ℕ) → (X m).run ≡ other_run s n t m
      X_run m = watched_plain l (instead s n t) m

      watched_beside : (m : ℕ) → StayOpen s n m cs → Beside apart (W m).run (X m).run
      watched_beside m h =
          subst (λ (x : Run). Beside apart x (X m).run) (sym (W_run m))
          (subst (λ (x : Run). Beside apart (plain (n + m) s.state) x) (sym (X_run m)) (beside m h).0)

      watched_no_use : (m : ℕ) → StayOpen s n (suc m) cs → OfNoUse apart (W m).run (X m).run
      watched_no_use m h = subst (λ (x : Run). OfNoUse apart x (X m).run) (sym (W_run m))
          (no_use m t (X m).run h)

      W_next : (m : ℕ) → W (suc m) ≡ watched_next l (W m)
      W_next m = (let e : n + suc m ≡ suc (n + m) = omega arith in ap (λ k. watched l (begun s.state) k) e)

      written_next : (m : ℕ) → written s (n + suc m) ≡ written s (n + m) ++ line_next l (W m)
      written_next m = (let e : n + suc m ≡ suc (n + m) = omega arith in ap (written s) e)

      inwards : (m : ℕ) → StayOpen s n m cs → (X m).inward ≡ (W m).inward
      inwards zero h = (let e : n + 0 ≡ n = omega arith in
          ap (λ k. (watched l (begun s.state) k).inward) (sym e))
      inwards (suc m) h =
          let less = fewer s n m cs h in
          inward_same l apart (W m) (X m) (watched_beside m less) (inwards m less) (watched_no_use m h)
          ∙ ap (λ (w : Watched). w.inward) (sym (W_next m))

      -- the range of the next event lies apart from these
      off : (m : ℕ) → StayOpen s n (suc m) cs → (e : Event) → event_next l (W m) ≡ Some e
          → RangeIsOff l apart e
      unfolding line_next
      off m h (Called inward i base last) is = λ a low high p.
          (let goes = event_goes l (W m) _ is in
          let open_next : open_behind [] (written s (n + suc m)) ≡ _ =
          ap (open_behind []) (written_next m)
          ∙ open_then [] (written s (n + m)) (line_next l (W m))
          ∙ ap (λ o. open_behind (open_behind [] (written s (n + m)))
          (lines_for l (view_of (next_state (W m).run).maps) o)) is in
          let goes_next : (plain (n + suc m) s.state).end ≡ None =
          ap (λ (r : Run). r.end) (sym (W_run (suc m)) ∙ ap (λ (w : Watched). w.run) (W_next m)) ∙ goes in
          let below = (subst (λ cs. LieApart cs) open_next (lie (n + suc m) goes_next)).0 p.0
          (h.opened m p.0 (omega arith) p.1) in
          let at = p.2 in
          omega (arith, below, at, high))
      off m h (Returned inward i base last) is = λ a low high p.
          (let goes = event_goes l (W m) _ is in
          let lines_are = ap (λ o. written s (n + m) ++ lines_for l (view_of (next_state (W m).run).maps) o)
          is in
          let goes_now : (plain (n + m) s.state).end ≡ None =
          ap (λ (r : Run). r.end) (sym (W_run m)) ∙ went_before (W m).run goes in
          let newest = calls.bracketed (n + suc m) (written s (n + m)) [] _ _ _ base last _ _
          (written_next m ∙ lines_are) in
          let open_next : open_behind [] (written s (n + suc m)) ≡ newest.0 =
          ap (open_behind []) (written_next m ∙ lines_are) ∙ open_then [] (written s (n + m)) _
          ∙ ap (λ cs. open_behind cs (lines_for l (view_of (next_state (W m).run).maps)
          (Some (Returned inward i base last)))) newest.1 in
          let below = (subst (λ cs. LieApart cs) newest.1 (lie (n + m) goes_now)).0 p.0
          (subst (λ cs. Contains cs p.0) open_next (h.opened (suc m) p.0 (omega arith) p.1)) in
          let at = p.2 in
          omega (arith, below, at, high))
      off m h (Entered part k back) is = tt
      off m h (Left part) is = tt

      lines_alike : (m : ℕ) → StayOpen s n m cs → written s (n + m) ≡ written s n
          ++ lines_of l (instead s n t) m
      lines_alike zero h =
          let e : n + 0 ≡ n = omega arith in ap (written s) e ∙ sym (append-nil (written s n))
      lines_alike (suc m) h =
          let less = fewer s n m cs h in
          let one = line_next_same l apart (W m) (X m) (watched_beside m less) (inwards m less)
          (watched_no_use m h) (off m h) in
          written_next m ∙ ap (λ ls. ls ++ line_next l (W m)) (lines_alike m less)
          ∙ ap (λ x. (written s n ++ lines_of l (instead s n t) m) ++ x) (sym one)
          ∙ append_assoc (written s n) (lines_of l (instead s n t) m) (line_next l (X m))

    pub frames_are_secret : FramesAreSecret s
    frames_are_secret n m cs t h same =
        let k = beside n cs t same m h in
        record {
          end = (k.0).end;
          count = (k.0).count;
          maps = (k.0).maps;
          kept = k.1;
          kept_too = k.2;
          lines = lines_alike n cs t same m h;
          end_line = end_line_same (InRanges cs) (plain (n + m) s.state) (other_run s n t m) k.0;
        }

-- ---- from what the overlay shows of a start

pub secret_of : (parts : List PartSeen) (size : ℕ) (s : StartSeen)
    → HoldsFor parts size (overlay_at s) s.state.maps → s.state ≡ fresh s.state.maps → HaltsAlone
    → RunsAgree (layout s) (overlay_at s).state s.state.maps
    → LinesAgree (layout s) (overlay_at s).state s.state.maps
    → LinesAreBracketed (layout s) (overlay_at s).state → CallsAreKept s → FramesAreSecret s
secret_of parts size s h is alone runs agree brackets calls =
    frames_are_secret s calls (lie_apart parts size s h is alone runs agree brackets)
    (cell_there parts size s h is alone runs agree brackets)
