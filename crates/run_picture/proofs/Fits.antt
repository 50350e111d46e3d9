-- Lines whose calls lie below those that are open, and whose returns close the newest.
use Rattle.std.proofs.Common.{◌≡◌, ℕ, suc, ◌+◌, ◌-◌, ◌<◌, ◌≤◌, true, false, List, [], ◌∷◌, ◌++◌, length}
use Rattle.std.proofs.Common.{Option, Some, None, refl, sym, ap, ◌∙◌, subst, arith, append_assoc, map}
use Rattle.std.specs.Prelude.{min, drop, nat_eq}
use Rattle.run_picture.specs.declared.turn.Side.{Side}
use Rattle.run_picture.specs.declared.turn.Extent.{Extent}
use Rattle.run_picture.specs.declared.turn.Turn.{Turn}
use Rattle.run_picture.specs.declared.turn.Turn.TheVariants.{Call, Ret, Enter, Leave, Other}
use Rattle.run_picture.specs.Events.{EventSeen, open_behind, closes_or, closing_from, closing}
use Rattle.run_picture.specs.Held.{HeldSeen, held_after, cut_at, shown}
use Rattle.run_picture.specs.OpenLaws.{held_by, EndsBefore}
use Rattle.run_picture.specs.Laws.{IsCall, IsRet, IsNeither}
use Rattle.run_picture.proofs.Closing.{not_zero, found_closing}

-- ---- frames that lie below one another

abbrev pub LiesUnder : Extent → List Extent → Type 0
LiesUnder s [] = Unit {0}
LiesUnder s (o ∷ os) = (s.last < o.base) × LiesUnder s os

abbrev pub IsRange : Extent → Type 0
IsRange s = s.base ≤ s.last + 1

-- the newest first
abbrev pub Apart : List Extent → Type 0
Apart [] = Unit {0}
Apart (s ∷ os) = (IsRange s × LiesUnder s os) × Apart os

pub under_all : (s o : Extent) (os : List Extent) → s.last < o.base
    → IsRange o → LiesUnder o os → LiesUnder s os
under_all s o [] h r u = tt
under_all s o (p ∷ os) h r u =
    let k : o.last < p.base = u.0 in
    let lt : s.last < p.base = omega arith in
    (lt, under_all s o os h r u.1)

-- ---- lines

pub data Fits : List Extent → List EventSeen → Type 0 where
  ends : {now : List Extent} → Fits now []
  opens : {now : List Extent} {e : EventSeen} {es : List EventSeen} (side : Side) (s : Extent)
      → e.turn ≡ Call side s → IsRange s → LiesUnder s now → Fits (s ∷ now) es → Fits now (e ∷ es)
  closes : {now : List Extent} {s : Extent} {e : EventSeen} {es : List EventSeen} (side : Side)
      → e.turn ≡ Ret side s → Fits now es → Fits (s ∷ now) (e ∷ es)
  goes_by : {now : List Extent} {e : EventSeen} {es : List EventSeen} → IsNeither e.turn → Fits now es
      → Fits now (e ∷ es)

-- after a call
record Opened (s : Extent) (now : List Extent) (es : List EventSeen) : Type 0 where
  range : IsRange s
  under : LiesUnder s now
  fits : Fits (s ∷ now) es

no_call : (t : Turn) (side : Side) (s : Extent) → t ≡ Call side s → IsNeither t → ⊥
no_call t side s h k = subst IsNeither h k

no_ret : (t : Turn) (side : Side) (s : Extent) → t ≡ Ret side s → IsNeither t → ⊥
no_ret t side s h k = subst IsNeither h k

at_call : (now : List Extent) (e : EventSeen) (es : List EventSeen) (side : Side) (s : Extent)
    → e.turn ≡ Call side s → Fits now (e ∷ es) → Opened s now es
at_call now e es side s h (opens side2 s2 k r u f) =
    let same : Call side2 s2 ≡ Call side s = sym k ∙ h in
    let one : s2 ≡ s = cc in
    subst (λ (z : Extent). Opened z now es) one (record { range = r; under = u; fits = f })
at_call _ e es side s h (closes side2 k f) = absurd (subst IsRet (sym k ∙ h) tt)
at_call now e es side s h (goes_by k f) = absurd (no_call e.turn side s h k)

at_ret : (a : Extent) (now : List Extent) (e : EventSeen) (es : List EventSeen) (side : Side) (s : Extent)
    → e.turn ≡ Ret side s → Fits (a ∷ now) (e ∷ es) → Fits now es
at_ret a now e es side s h (opens side2 s2 k r u f) = absurd (subst IsCall (sym k ∙ h) tt)
at_ret a now e es side s h (closes side2 k f) = f
at_ret a now e es side s h (goes_by k f) = absurd (no_ret e.turn side s h k)

at_neither : (now : List Extent) (e : EventSeen) (es : List EventSeen) → IsNeither e.turn → Fits now (e ∷ es)
    → Fits now es
at_neither now e es h (opens side s k r u f) = absurd (no_call e.turn side s k h)
at_neither _ e es h (closes {s = s} side k f) = absurd (no_ret e.turn side s k h)
at_neither now e es h (goes_by k f) = f

-- ---- what is held

abbrev bases : List Extent → List ℕ
bases now = map (λ (s : Extent). s.base) now

-- the frames that are open, and what is held, after lines
record Behind (h : HeldSeen) (front rest : List EventSeen) : Type 0 where
  now : List Extent
  apart : Apart now
  fits : Fits now rest
  held : (held_by h front).bases ≡ bases now

after_call : (h : HeldSeen) (t : Turn) (side : Side) (s : Extent) → t ≡ Call side s
    → (held_after h t).bases ≡ s.base ∷ h.bases
after_call h t side s e = ap (λ u. (held_after h u).bases) e

after_ret : (h : HeldSeen) (t : Turn) (side : Side) (s : Extent) → t ≡ Ret side s
    → (held_after h t).bases ≡ drop 1 h.bases
after_ret h t side s e = ap (λ u. (held_after h u).bases) e

after_neither : (h : HeldSeen) (t : Turn) → IsNeither t → (held_after h t).bases ≡ h.bases
after_neither h (Call side s) k = absurd k
after_neither h (Ret side s) k = absurd k
after_neither h (Enter end) k = refl
after_neither h Leave k = refl
after_neither h Other k = refl

behind : (front rest : List EventSeen) (now : List Extent) (h : HeldSeen) → Apart now → h.bases ≡ bases now
    → Fits now (front ++ rest) → Behind h front rest
behind [] rest now h a b f = record { now = now; apart = a; fits = f; held = b }
behind (e ∷ es) rest now h a b (opens side s k r u f) =
    let after = held_after h e.turn in
    let d = behind es rest (s ∷ now) after ((r, u), a)
    (after_call h e.turn side s k ∙ ap (λ bs. s.base ∷ bs) b) f in
    record { now = d.now; apart = d.apart; fits = d.fits; held = d.held }
behind (e ∷ es) rest _ h a b (closes {now = now} {s = s} side k f) =
    let after = held_after h e.turn in
    let d = behind es rest now after a.1 (after_ret h e.turn side s k ∙ ap (λ bs. drop 1 bs) b) f in
    record { now = d.now; apart = d.apart; fits = d.fits; held = d.held }
behind (e ∷ es) rest now h a b (goes_by k f) =
    let after = held_after h e.turn in
    let d = behind es rest now after a (after_neither h e.turn k ∙ b) f in
    record { now = d.now; apart = d.apart; fits = d.fits; held = d.held }

-- ---- a call that stays open

-- after lines that don't close it, it is open still, below calls that were made since
pub record Still (now : List Extent) (s : Extent) (h : HeldSeen) (k w : ℕ)
    (inner rest : List EventSeen) : Type 0 where
  above : List Extent
  apart : Apart (above ++ s ∷ now)
  fits : Fits (above ++ s ∷ now) rest
  held : (held_by h inner).bases ≡ bases (above ++ s ∷ now)
  closing_is : closing_from k w (inner ++ rest) ≡ closing_from (k + length inner) (length above) rest

module _ (now : List Extent) (s : Extent) (rest : List EventSeen) where
  abbrev Holds : List EventSeen → Type 0
  Holds inner = (above : List Extent) (h : HeldSeen) (k : ℕ)
      → closing_from k (length above) inner ≡ None → Apart (above ++ s ∷ now)
      → h.bases ≡ bases (above ++ s ∷ now) → Fits (above ++ s ∷ now) (inner ++ rest)
      → Still now s h k (length above) inner rest

  -- one line further, where it leads to these
  further : (e : EventSeen) (es : List EventSeen) (above : List Extent) (h : HeldSeen) (k w : ℕ)
      → open_behind e.turn w ≡ Some (length above)
      → Still now s (held_after h e.turn) (k + 1) (length above) es rest → Still now s h k w (e ∷ es) rest
  further e es above h k w is d = record {
    above = d.above;
    apart = d.apart;
    fits = d.fits;
    held = d.held;
    closing_is =
        ap (λ o. closes_or o k (λ v. closing_from (k + 1) v (es ++ rest))) is ∙ d.closing_is
        ∙ ap (λ m. closing_from m (length d.above) rest) (omega arith);
  }

  -- nothing closes the call after such a line
  none_behind : (e : EventSeen) (es : List EventSeen) (k w v : ℕ) → open_behind e.turn w ≡ Some v
      → closing_from k w (e ∷ es) ≡ None → closing_from (k + 1) v es ≡ None
  none_behind e es k w v is h = sym (ap (λ o. closes_or o k (λ u. closing_from (k + 1) u es)) is) ∙ h

  by_turn : (e : EventSeen) (es : List EventSeen) → Holds es → (t : Turn) → e.turn ≡ t → Holds (e ∷ es)
  by_turn e es rec (Call side p) is above h k none a b f =
      let o = at_call (above ++ s ∷ now) e (es ++ rest) side p is f in
      let plus : length above + 1 ≡ length (p ∷ above) = omega arith in
      let step : open_behind e.turn (length above) ≡ Some (length (p ∷ above)) =
      ap (λ u. open_behind u (length above)) is ∙ ap Some plus in
      further e es (p ∷ above) h k (length above) step
      (rec (p ∷ above) (held_after h e.turn) (k + 1)
      (none_behind e es k (length above) (length (p ∷ above)) step none) ((o.range, o.under), a)
      (after_call h e.turn side p is ∙ ap (λ bs. p.base ∷ bs) b) o.fits)
  by_turn e es rec (Ret side p) is [] h k none a b f =
      let ends_here : closing_from k 0 (e ∷ es) ≡ Some k =
      ap (λ u. closes_or (open_behind u 0) k (λ v. closing_from (k + 1) v es)) is in
      absurd (let no : Some k ≡ None = sym ends_here ∙ none in cc)
  by_turn e es rec (Ret side p) is (q ∷ above) h k none a b f =
      let z : nat_eq (length (q ∷ above)) 0 ≡ false = not_zero (length above) in
      let less : length (q ∷ above) - 1 ≡ length above = omega arith in
      let shut : open_behind (Ret side p) (length (q ∷ above)) ≡ Some (length above) = rw z (ap Some less) in
      let step : open_behind e.turn (length (q ∷ above)) ≡ Some (length above) =
      ap (λ u. open_behind u (length (q ∷ above))) is ∙ shut in
      further e es above h k (length (q ∷ above)) step
      (rec above (held_after h e.turn) (k + 1)
      (none_behind e es k (length (q ∷ above)) (length above) step none) a.1
      (after_ret h e.turn side p is ∙ ap (λ bs. drop 1 bs) b)
      (at_ret q (above ++ s ∷ now) e (es ++ rest) side p is f))
  by_turn e es rec (Enter end) is above h k none a b f =
      let o : IsNeither e.turn = subst IsNeither (sym is) tt in
      let step : open_behind e.turn (length above) ≡ Some (length above) =
      ap (λ u. open_behind u (length above)) is in
      further e es above h k (length above) step
      (rec above (held_after h e.turn) (k + 1) (none_behind e es k (length above) (length above) step none) a
      (after_neither h e.turn o ∙ b) (at_neither (above ++ s ∷ now) e (es ++ rest) o f))
  by_turn e es rec Leave is above h k none a b f =
      let o : IsNeither e.turn = subst IsNeither (sym is) tt in
      let step : open_behind e.turn (length above) ≡ Some (length above) =
      ap (λ u. open_behind u (length above)) is in
      further e es above h k (length above) step
      (rec above (held_after h e.turn) (k + 1) (none_behind e es k (length above) (length above) step none) a
      (after_neither h e.turn o ∙ b) (at_neither (above ++ s ∷ now) e (es ++ rest) o f))
  by_turn e es rec Other is above h k none a b f =
      let o : IsNeither e.turn = subst IsNeither (sym is) tt in
      let step : open_behind e.turn (length above) ≡ Some (length above) =
      ap (λ u. open_behind u (length above)) is in
      further e es above h k (length above) step
      (rec above (held_after h e.turn) (k + 1) (none_behind e es k (length above) (length above) step none) a
      (after_neither h e.turn o ∙ b) (at_neither (above ++ s ∷ now) e (es ++ rest) o f))

  still : (inner : List EventSeen) → Holds inner
  still [] above h k none a b f = record {
    above = above;
    apart = a;
    fits = f;
    held = b;
    closing_is = ap (λ m. closing_from m (length above) rest) (omega arith);
  }
  still (e ∷ es) above h k none a b f = by_turn e es (still es) e.turn refl above h k none a b f

-- ---- the newest frame lies no higher than an open one

under_open : (p s : Extent) (above now : List Extent) → LiesUnder p (above ++ s ∷ now) → p.last < s.base
under_open p s [] now u = u.0
under_open p s (q ∷ above) now u = under_open p s above now u.1

cut_low : (above now : List Extent) (s : Extent) (o : Option ℕ) (top : ℕ) → Apart (above ++ s ∷ now)
    → cut_at (bases (above ++ s ∷ now)) o ≡ Some top → top ≤ s.base
cut_low [] now s None top a h = absurd (let e : None ≡ Some top = h in cc)
cut_low [] now s (Some t) top a h =
    let e : Some (min t s.base) ≡ Some top = h in
    let is : min t s.base ≡ top = cc in
    omega arith
cut_low (q ∷ above) now s None top a h = absurd (let e : None ≡ Some top = h in cc)
cut_low (q ∷ above) now s (Some t) top a h =
    let e : Some (min t q.base) ≡ Some top = h in
    let is : min t q.base ≡ top = cc in
    let r : q.base ≤ q.last + 1 = a.0.0 in
    let lt : q.last < s.base = under_open q s above now a.0.1 in
    omega arith

-- ---- a call in front of lines

-- the frames that are open before a call, and what is so after lines that don't close it
pub record AtCall (h : HeldSeen) (front : List EventSeen) (c : EventSeen) (s : Extent)
    (inner rest : List EventSeen) : Type 0 where
  pub now : List Extent
  pub still_is : Still now s (held_by h (front ++ c ∷ [])) 1 0 inner rest

held_append : (h : HeldSeen) (xs ys : List EventSeen) → held_by h (xs ++ ys) ≡ held_by (held_by h xs) ys
held_append h [] ys = refl
held_append h (x ∷ xs) ys = held_append (held_after h x.turn) xs ys

pub at_open : (h : HeldSeen) (front inner rest : List EventSeen) (c : EventSeen) (side : Side) (s : Extent)
    → h.bases ≡ [] → Fits [] (front ++ c ∷ (inner ++ rest)) → c.turn ≡ Call side s
    → closing_from 1 0 inner ≡ None → AtCall h front c s inner rest
at_open h front inner rest c side s b f is none =
    let d = behind front (c ∷ (inner ++ rest)) [] h tt b f in
    let o = at_call d.now c (inner ++ rest) side s is d.fits in
    let h2 = held_by h (front ++ c ∷ []) in
    let at : h2.bases ≡ bases (s ∷ d.now) =
    ap (λ (g : HeldSeen). g.bases) (held_append h front (c ∷ []))
    ∙ after_call (held_by h front) c.turn side s is ∙ ap (λ bs. s.base ∷ bs) d.held in
    record {
      now = d.now;
      still_is = still d.now s rest inner [] h2 1 none ((o.range, o.under), d.apart) at o.fits;
    }

-- what is handed over there lies below the frame
pub shown_low : (h : HeldSeen) (front inner rest : List EventSeen) (c : EventSeen) (s : Extent) (top : ℕ)
    → AtCall h front c s inner rest → shown (held_by h (front ++ c ∷ inner)) ≡ Some top → top ≤ s.base
shown_low h front inner rest c s top d is =
    let g = held_by (held_by h (front ++ c ∷ [])) inner in
    let same : held_by h (front ++ c ∷ inner) ≡ g =
    ap (held_by h) (sym (append_assoc front (c ∷ []) inner)) ∙ held_append h (front ++ c ∷ []) inner in
    let k : cut_at g.bases g.top ≡ Some top = sym (ap shown same) ∙ is in
    cut_low d.still_is.above d.now s g.top top d.still_is.apart
    (sym (ap (λ bs. cut_at bs g.top) d.still_is.held) ∙ k)

-- a call that is made there lies below it
pub call_low : (h : HeldSeen) (front inner back : List EventSeen) (c e : EventSeen)
    (s p : Extent) (side : Side)
    → AtCall h front c s inner (e ∷ back) → e.turn ≡ Call side p → p.last < s.base
call_low h front inner back c e s p side d is =
    let o = at_call (d.still_is.above ++ s ∷ d.now) e back side p is d.still_is.fits in
    under_open p s d.still_is.above d.now o.under

ends_before : (j : ℕ) (es : List EventSeen) (w : ℕ) (o : Option ℕ) → closing_from (j + 1) (suc w) es ≡ o
    → EndsBefore j (closing es) o
ends_before j es w None h = before_none j (closing es)
  where
    before_none : (j : ℕ) (i : Option ℕ) → EndsBefore j i None
    before_none j None = tt
    before_none j (Some i) = tt
ends_before j es w (Some k) h =
    let f = found_closing es (j + 1) w k h in
    let le = f.2 in
    let lt : j + f.0 < k = omega arith in
    subst (λ i. EndsBefore j i (Some k)) (sym f.1) lt

-- and ends before it
pub call_inside : (h : HeldSeen) (front inner back : List EventSeen) (c e : EventSeen) (s p : Extent)
    (side : Side)
    → AtCall h front c s inner (e ∷ back) → e.turn ≡ Call side p
    → EndsBefore (length inner + 1) (closing back) (closing_from 1 0 (inner ++ e ∷ back))
call_inside h front inner back c e s p side d is =
    let w = length d.still_is.above in
    let plus : w + 1 ≡ suc w = omega arith in
    let step : closing_from (1 + length inner) w (e ∷ back)
    ≡ closing_from (1 + length inner + 1) (suc w) back =
    ap (λ u. closes_or (open_behind u w) (1 + length inner)
    (λ v. closing_from (1 + length inner + 1) v back)) is
    ∙ ap (λ v. closing_from (1 + length inner + 1) v back) plus in
    let place : 1 + length inner + 1 ≡ length inner + 1 + 1 = omega arith in
    let whole : closing_from 1 0 (inner ++ e ∷ back) ≡ closing_from (length inner + 1 + 1) (suc w) back =
    d.still_is.closing_is ∙ step ∙ ap (λ m. closing_from m (suc w) back) place in
    ends_before (length inner + 1) back w (closing_from 1 0 (inner ++ e ∷ back)) (sym whole)
