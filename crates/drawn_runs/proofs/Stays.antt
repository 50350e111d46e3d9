-- A call is open after lines exactly where none of them closes it in the picture.
use Rattle.std.proofs.Common.{◌≡◌, ℕ, suc, ◌+◌, ◌-◌, ◌<◌, ◌≤◌, false, List, [], ◌∷◌, ◌++◌, length}
use Rattle.std.proofs.Common.{Option, Some, None, refl, sym, ap, ◌∙◌, arith}
use Rattle.std.specs.Prelude.{nat_eq}
use Rattle.std.proofs.lemmas.Bool.{ne_eqb}
use Rattle.run_lines.specs.Lines.{Line, call, ret, enter, pass, leave}
use Rattle.headline.specs.OpenCalls.{LineTold, open_behind}
use Rattle.run_picture.specs.declared.turn.Side.{Side}
use Rattle.run_picture.specs.declared.turn.Extent.{Extent}
use Rattle.run_picture.specs.declared.turn.Turn.{Turn}
use Rattle.run_picture.specs.declared.turn.Turn.TheVariants.{Call, Ret, Enter, Leave, Other}
use Rattle.run_picture.specs.Events.{EventSeen, closes_or, closing_from, closing}
use Rattle.run_picture.specs.Events as picture
use Rattle.run_picture.specs.Laws.{IsNeither}
use Rattle.drawn_runs.proofs.Lines.{Tells}

-- ---- what is open, by one line

abbrev pub IsBetween : Line → Type 0
IsBetween (call inward part site base last args words) = ⊥
IsBetween (ret inward part site base last a0 words) = ⊥
IsBetween (enter part export stk args back) = Unit {0}
IsBetween (pass p0 p1 p2) = Unit {0}
IsBetween (leave part a0) = Unit {0}

pub goes_by : (opened : List LineTold) (l : Line) (ls : List Line) → IsBetween l
    → open_behind opened (l ∷ ls) ≡ open_behind opened ls
goes_by opened (call inward part site base last args words) ls h = absurd h
goes_by opened (ret inward part site base last a0 words) ls h = absurd h
goes_by [] (enter part export stk args back) ls h = refl
goes_by (o ∷ os) (enter part export stk args back) ls h = refl
goes_by [] (pass p0 p1 p2) ls h = refl
goes_by (o ∷ os) (pass p0 p1 p2) ls h = refl
goes_by [] (leave part a0) ls h = refl
goes_by (o ∷ os) (leave part a0) ls h = refl

-- ---- where a call is closed, by one line

neither_stays : (t : Turn) (w : ℕ) → IsNeither t → picture.open_behind t w ≡ Some w
neither_stays (Call side span) w h = absurd h
neither_stays (Ret side span) w h = absurd h
neither_stays (Enter end) w h = refl
neither_stays Leave w h = refl
neither_stays Other w h = refl

module _ (e : EventSeen) (es : List EventSeen) (k w : ℕ) where
  by_turn : (t : Turn) → e.turn ≡ t
      → closing_from k w (e ∷ es)
      ≡ closes_or (picture.open_behind t w) k (λ v. closing_from (k + 1) v es)
  by_turn t h = ap (λ u. closes_or (picture.open_behind u w) k (λ v. closing_from (k + 1) v es)) h

  at_call : (side : Side) (span : Extent) → e.turn ≡ Call side span
      → closing_from k w (e ∷ es) ≡ closing_from (k + 1) (w + 1) es
  at_call side span h = by_turn (Call side span) h

  at_last : (side : Side) (span : Extent) → e.turn ≡ Ret side span → w ≡ 0
      → closing_from k w (e ∷ es) ≡ Some k
  at_last side span h z =
      by_turn (Ret side span) h
      ∙ ap (λ x. closes_or (picture.open_behind (Ret side span) x) k (λ v. closing_from (k + 1) v es)) z

  at_ret : (side : Side) (span : Extent) (v : ℕ) → e.turn ≡ Ret side span → w ≡ suc v
      → closing_from k w (e ∷ es) ≡ closing_from (k + 1) v es
  at_ret side span v h z =
      let some : nat_eq w 0 ≡ false = ne_eqb w 0 (λ x. absurd (omega (arith, x, z))) in
      let less : w - 1 ≡ v = omega (arith, z) in
      let shut : picture.open_behind (Ret side span) w ≡ Some v = rw some (ap Some less) in
      by_turn (Ret side span) h ∙ ap (λ o. closes_or o k (λ u. closing_from (k + 1) u es)) shut

  at_other : IsNeither e.turn → closing_from k w (e ∷ es) ≡ closing_from (k + 1) w es
  at_other h = ap (λ o. closes_or o k (λ v. closing_from (k + 1) v es)) (neither_stays e.turn w h)

-- ---- after lines

-- a call that is closed there or isn't, and what is open above it
abbrev pub ends_with : Option ℕ → LineTold → List LineTold → List LineTold
ends_with None c above = above ++ c ∷ []
ends_with (Some j) c above = above

module _ (c : LineTold) where
  abbrev Holds : List Line → List EventSeen → ℕ → ℕ → List LineTold → Type 0
  Holds ls es k w above =
      open_behind (above ++ c ∷ []) ls ≡ ends_with (closing_from k w es) c (open_behind above ls)

  by_other : (l : Line) (ls : List Line) (e : EventSeen) (es : List EventSeen) (k w : ℕ)
      (above : List LineTold)
      → IsBetween l → IsNeither e.turn → Holds ls es (k + 1) w above → Holds (l ∷ ls) (e ∷ es) k w above
  by_other l ls e es k w above b n rec =
      goes_by (above ++ c ∷ []) l ls b ∙ rec
      ∙ ap (λ o. ends_with o c (open_behind above ls)) (sym (at_other e es k w n))
      ∙ ap (ends_with (closing_from k w (e ∷ es)) c) (sym (goes_by above l ls b))

  through : (ls : List Line) (es : List EventSeen) → Tells ls es → (k w : ℕ) (above : List LineTold)
      → w ≡ length above → Holds ls es k w above
  through [] [] h k w above len = refl
  through [] (e ∷ es) h k w above len = absurd h
  through (l ∷ ls) [] h k w above len = absurd h
  through (call inward part site base last args words ∷ ls) (e ∷ es) h k w above len =
      let t : LineTold = record { part = part; site = site; base = base; last = last; words = words } in
      through ls es h.1 (k + 1) (w + 1) (t ∷ above) (omega (arith, len))
      ∙ ap (λ o. ends_with o c (open_behind (t ∷ above) ls))
      (sym (at_call e es k w h.0.0 (record { base = base; last = last }) h.0.1))
  through (ret inward part site base last a0 words ∷ ls) (e ∷ es) h k w [] len =
      ap (λ o. ends_with o c (open_behind [] ls))
      (sym (at_last e es k w h.0.0 (record { base = base; last = last }) h.0.1 len))
  through (ret inward part site base last a0 words ∷ ls) (e ∷ es) h k w (a ∷ above) len =
      through ls es h.1 (k + 1) (length above) above refl
      ∙ ap (λ o. ends_with o c (open_behind above ls))
      (sym (at_ret e es k w h.0.0 (record { base = base; last = last }) (length above) h.0.1 len))
  through (enter part export stk args back ∷ ls) (e ∷ es) h k w above len =
      by_other (enter part export stk args back) ls e es k w above tt h.0
      (through ls es h.1 (k + 1) w above len)
  through (pass p0 p1 p2 ∷ ls) (e ∷ es) h k w above len =
      by_other (pass p0 p1 p2) ls e es k w above tt h.0 (through ls es h.1 (k + 1) w above len)
  through (leave part a0 ∷ ls) (e ∷ es) h k w above len =
      by_other (leave part a0) ls e es k w above tt h.0 (through ls es h.1 (k + 1) w above len)

-- after a call and lines it is the oldest that is open, or closed
pub opened_one : (c : LineTold) (ls : List Line) (es : List EventSeen) → Tells ls es
    → open_behind (c ∷ []) ls ≡ ends_with (closing es) c (open_behind [] ls)
unfolding closing
opened_one c ls es h = through c ls es h 1 0 [] refl

-- ---- a call that these lines don't close is closed after them, if it is

least_by : (es : List EventSeen) (k j : ℕ) → ((v : ℕ) → closing_from (k + 1) v es ≡ Some j → k + 1 ≤ j)
    → (o : Option ℕ) → closes_or o k (λ v. closing_from (k + 1) v es) ≡ Some j → k ≤ j
least_by es k j rec None h = (let is : k ≡ j = cc in omega (arith, is))
least_by es k j rec (Some v) h = (let le = rec v h in omega (arith, le))

at_least : (es : List EventSeen) (k w j : ℕ) → closing_from k w es ≡ Some j → k ≤ j
at_least [] k w j h = absurd (let no : None ≡ Some j = h in cc)
at_least (e ∷ es) k w j h =
    least_by es k j (λ v. at_least es (k + 1) v j) (picture.open_behind e.turn w) h

later_by : (es rest : List EventSeen) (k j : ℕ)
    → ((v : ℕ) → closing_from (k + 1) v es ≡ None → closing_from (k + 1) v (es ++ rest) ≡ Some j
    → k + 1 + length es ≤ j)
    → (o : Option ℕ) → closes_or o k (λ v. closing_from (k + 1) v es) ≡ None
    → closes_or o k (λ v. closing_from (k + 1) v (es ++ rest)) ≡ Some j → k + suc (length es) ≤ j
later_by es rest k j rec None none h = absurd (let no : Some k ≡ None = none in cc)
later_by es rest k j rec (Some v) none h = (let le = rec v none h in omega (arith, le))

later_from : (es rest : List EventSeen) (k w j : ℕ) → closing_from k w es ≡ None
    → closing_from k w (es ++ rest) ≡ Some j → k + length es ≤ j
later_from [] rest k w j none h = (let le = at_least rest k w j h in omega (arith, le))
later_from (e ∷ es) rest k w j none h =
    later_by es rest k j (λ v. later_from es rest (k + 1) v j) (picture.open_behind e.turn w) none h

pub closed_later : (es rest : List EventSeen) (j : ℕ) → closing es ≡ None → closing (es ++ rest) ≡ Some j
    → length es < j
unfolding closing
closed_later es rest j none h = (let le = later_from es rest 1 0 j none h in omega (arith, le))
