-- The line that closes a call is its return.
use Rattle.std.proofs.Common.{◌≡◌, ℕ, zero, suc, ◌+◌, ◌-◌, ◌<◌, ◌≤◌, Bool, true, false, List, [], ◌∷◌, ◌++◌}
use Rattle.std.proofs.Common.{length, Some}
use Rattle.std.proofs.Common.{None, refl, sym, ap, ◌∙◌, subst, arith, append_assoc, length-append, eqb-true}
use Rattle.std.specs.Prelude.{nat_eq}
use Rattle.run_picture.specs.declared.turn.Turn.{Turn}
use Rattle.run_picture.specs.declared.turn.Turn.TheVariants.{Call, Ret, Enter, Leave, Other}
use Rattle.run_picture.specs.Events.{EventSeen, open_behind, closes_or, closing_from, closing}
use Rattle.run_picture.specs.Laws.{IsCall, IsRet, IsNeither, Closes, none, other, pair, ClosesAt}
use Rattle.run_picture.specs.Laws.{ClosingIsTheReturn}

-- ---- by one line

call_opens : (t : Turn) (w : ℕ) → IsCall t → open_behind t w ≡ Some (w + 1)
call_opens (Call side span) w h = refl
call_opens (Ret side span) w h = absurd h
call_opens (Enter end) w h = absurd h
call_opens Leave w h = absurd h
call_opens Other w h = absurd h

neither_stays : (t : Turn) (w : ℕ) → IsNeither t → open_behind t w ≡ Some w
neither_stays (Call side span) w h = absurd h
neither_stays (Ret side span) w h = absurd h
neither_stays (Enter end) w h = refl
neither_stays Leave w h = refl
neither_stays Other w h = refl

pub not_zero : (w : ℕ) → nat_eq (suc w) 0 ≡ false
not_zero w = by_bool (nat_eq (suc w) 0) refl
  where
    by_bool : (b : Bool) → nat_eq (suc w) 0 ≡ b → nat_eq (suc w) 0 ≡ false
    by_bool true e = absurd (let q : suc w ≡ 0 = eqb-true (suc w) 0 e in omega arith)
    by_bool false e = e

ret_closes : (t : Turn) (w : ℕ) → IsRet t → open_behind t (suc w) ≡ Some w
ret_closes (Call side span) w h = absurd h
ret_closes (Ret side span) w h =
    let e : suc w - 1 ≡ w = omega arith in
    let z = not_zero w in
    rw z (ap Some e)
ret_closes (Enter end) w h = absurd h
ret_closes Leave w h = absurd h
ret_closes Other w h = absurd h

ret_ends : (t : Turn) → IsRet t → open_behind t 0 ≡ None
ret_ends (Call side span) h = absurd h
ret_ends (Ret side span) h = refl
ret_ends (Enter end) h = absurd h
ret_ends Leave h = absurd h
ret_ends Other h = absurd h

-- ---- through lines that close all that they open

through : (inner rest : List EventSeen) (k w : ℕ) → Closes inner
    → closing_from k w (inner ++ rest) ≡ closing_from (k + length inner) w rest
through _ rest k w none = ap (λ m. closing_from m w rest) (omega arith)
through _ rest k w (other {e = e} {es = es} o c) =
    ap (λ b. closes_or b k (λ v. closing_from (k + 1) v (es ++ rest))) (neither_stays e.turn w o)
    ∙ through es rest (k + 1) w c
    ∙ ap (λ m. closing_from m w rest) (omega arith)
through _ rest k w (pair {c = c} {inner = inner} {es = es} r is_call d is_ret ds) =
    ap (λ b. closes_or b k (λ v. closing_from (k + 1) v ((inner ++ r ∷ es) ++ rest)))
    (call_opens c.turn w is_call)
    ∙ ap (λ ls. closing_from (k + 1) (w + 1) ls) (append_assoc inner (r ∷ es) rest)
    ∙ through inner (r ∷ (es ++ rest)) (k + 1) (w + 1) d
    ∙ ap (λ v. closing_from (k + 1 + length inner) v (r ∷ (es ++ rest))) (omega arith)
    ∙ ap (λ b. closes_or b (k + 1 + length inner)
    (λ v. closing_from (k + 1 + length inner + 1) v (es ++ rest))) (ret_closes r.turn w is_ret)
    ∙ through es rest (k + 1 + length inner + 1) w ds
    ∙ ap (λ m. closing_from m w rest) (omega (arith, length-append inner (r ∷ es)))

pub is_closed : (es : List EventSeen) (k : ℕ) → ClosesAt es k → closing es ≡ Some k
unfolding closing
is_closed es k c =
    ap (λ ls. closing_from 1 0 ls) c.are
    ∙ through c.inner (c.ret ∷ c.back) 1 0 c.closed
    ∙ ap (λ b. closes_or b (1 + length c.inner) (λ v. closing_from (1 + length c.inner + 1) v c.back))
    (ret_ends c.ret.turn c.is_ret)
    ∙ (let e : 1 + length c.inner ≡ k = omega (arith, c.place) in ap Some e)

-- ---- and back: lines that close so many calls, and then one more, by their m-th line

data Peels : ℕ → List EventSeen → ℕ → Type 0 where
  last : {inner : List EventSeen} (r : EventSeen) (back : List EventSeen) → Closes inner → IsRet r.turn
      → Peels 0 (inner ++ r ∷ back) (length inner + 1)
  more : {w m : ℕ} {inner es : List EventSeen} (r : EventSeen) → Closes inner → IsRet r.turn → Peels w es m
      → Peels (suc w) (inner ++ r ∷ es) (length inner + 1 + m)

behind_other : (e : EventSeen) {w m : ℕ} {es : List EventSeen} → IsNeither e.turn → Peels w es m
    → Peels w (e ∷ es) (m + 1)
behind_other e o (last {inner = inner} r back c h) =
    subst (Peels 0 (e ∷ (inner ++ r ∷ back))) (omega arith) (last {inner = e ∷ inner} r back (other o c) h)
behind_other e o (more {w = w} {m = m} {inner = inner} {es = es} r c h p) =
    subst (Peels (suc w) (e ∷ (inner ++ r ∷ es))) (omega arith)
    (more {w = w} {m = m} {inner = e ∷ inner} {es = es} r (other o c) h p)

behind_pair : (e : EventSeen) (inner : List EventSeen) (r : EventSeen) {w m : ℕ} {es : List EventSeen}
    → IsCall e.turn → Closes inner → IsRet r.turn → Peels w es m
    → Peels w (e ∷ (inner ++ r ∷ es)) (length inner + 2 + m)
behind_pair e inner r is_call c is_ret (last {inner = i2} r2 back d h) =
    subst (λ ls. Peels 0 ls (length inner + 2 + (length i2 + 1)))
    (ap (λ ls. e ∷ ls) (append_assoc inner (r ∷ i2) (r2 ∷ back)))
    (subst (Peels 0 (e ∷ ((inner ++ r ∷ i2) ++ r2 ∷ back))) (omega (arith, length-append inner (r ∷ i2)))
    (last {inner = e ∷ (inner ++ r ∷ i2)} r2 back (pair r is_call c is_ret d) h))
behind_pair e inner r is_call c is_ret (more {w = w} {m = m} {inner = i2} {es = es} r2 d h p) =
    subst (λ ls. Peels (suc w) ls (length inner + 2 + (length i2 + 1 + m)))
    (ap (λ ls. e ∷ ls) (append_assoc inner (r ∷ i2) (r2 ∷ es)))
    (subst (Peels (suc w) (e ∷ ((inner ++ r ∷ i2) ++ r2 ∷ es)))
    (omega (arith, length-append inner (r ∷ i2)))
    (more {w = w} {m = m} {inner = e ∷ (inner ++ r ∷ i2)} {es = es} r2 (pair r is_call c is_ret d) h p))

behind_call : (e : EventSeen) (w : ℕ) {m : ℕ} {es : List EventSeen} → IsCall e.turn → Peels (suc w) es m
    → Peels w (e ∷ es) (m + 1)
behind_call e w is_call (more {m = m} {inner = inner} {es = es} r c h p) =
    subst (Peels w (e ∷ (inner ++ r ∷ es))) (omega arith) (behind_pair e inner r is_call c h p)

-- where closing finds a line, so many lines are peeled
abbrev Found : List EventSeen → ℕ → ℕ → ℕ → Type 0
Found es k w m = (j : ℕ) × Peels w es j × (k + j ≡ m + 1)

by_line : (e : EventSeen) (es : List EventSeen)
    → ((k w m : ℕ) → closing_from k w es ≡ Some m → Found es k w m) → (t : Turn) → e.turn ≡ t → (k w m : ℕ)
    → closes_or (open_behind t w) k (λ v. closing_from (k + 1) v es) ≡ Some m → Found (e ∷ es) k w m
by_line e es rec (Call side span) is k w m h =
    let f = rec (k + 1) (w + 1) m h in
    let s : w + 1 ≡ suc w = omega arith in
    let at = f.2 in
    (f.0 + 1, behind_call e w (subst IsCall (sym is) tt) (subst (λ v. Peels v es f.0) s f.1), omega arith)
by_line e es rec (Ret side span) is k zero m h =
    let at : k ≡ m = cc in
    (1, last {inner = []} e es none (subst IsRet (sym is) tt), omega arith)
by_line e es rec (Ret side span) is k (suc w) m h =
    let s : suc w - 1 ≡ w = omega arith in
    let z = not_zero w in
    let h2 : closing_from (k + 1) (suc w - 1) es ≡ Some m = rw z at h in
    let f = rec (k + 1) w m (subst (λ v. closing_from (k + 1) v es ≡ Some m) s h2) in
    let at = f.2 in
    (1 + f.0, more {inner = []} e none (subst IsRet (sym is) tt) f.1, omega arith)
by_line e es rec (Enter end) is k w m h =
    let f = rec (k + 1) w m h in
    let at = f.2 in
    (f.0 + 1, behind_other e (subst IsNeither (sym is) tt) f.1, omega arith)
by_line e es rec Leave is k w m h =
    let f = rec (k + 1) w m h in
    let at = f.2 in
    (f.0 + 1, behind_other e (subst IsNeither (sym is) tt) f.1, omega arith)
by_line e es rec Other is k w m h =
    let f = rec (k + 1) w m h in
    let at = f.2 in
    (f.0 + 1, behind_other e (subst IsNeither (sym is) tt) f.1, omega arith)

peels : (es : List EventSeen) (k w m : ℕ) → closing_from k w es ≡ Some m → Found es k w m
peels [] k w m h = absurd (let e : None ≡ Some m = h in cc)
peels (e ∷ es) k w m h = by_line e es (peels es) e.turn refl k w m h

peeled : (es : List EventSeen) (j : ℕ) → Peels 0 es j → ClosesAt es j
peeled _ _ (last {inner = inner} r back c h) = record {
  inner = inner;
  ret = r;
  back = back;
  are = refl;
  closed = c;
  is_ret = h;
  place = refl;
}

pub closed_is : (es : List EventSeen) (k : ℕ) → closing es ≡ Some k → ClosesAt es k
unfolding closing
closed_is es k h =
    let f = peels es 1 0 k h in
    let at = f.2 in
    let s : f.0 ≡ k = omega arith in
    subst (ClosesAt es) s (peeled es f.0 f.1)

pub closing_is_the_return : ClosingIsTheReturn
closing_is_the_return es k = (closed_is es k, is_closed es k)

-- ---- a call that is made while another is open is closed before it

peels_some : (w : ℕ) (es : List EventSeen) (m : ℕ) → Peels w es m → 0 < m
peels_some _ _ _ (last {inner = inner} r back c h) = omega arith
peels_some _ _ _ (more {w = w} {m = m} {inner = inner} {es = es} r c h p) = omega arith

-- the first of several lines that close calls, and how far it stands before the last
first_peel : (w : ℕ) (es : List EventSeen) (m : ℕ) → Peels (suc w) es m
    → (i : ℕ) × ClosesAt es i × (i < m)
first_peel w _ _ (more {m = m} {inner = inner} {es = es} r c h p) =
    let some : 0 < m = peels_some w es m p in (
      length inner + 1,
      record { inner = inner; ret = r; back = es; are = refl; closed = c; is_ret = h; place = refl },
      omega arith,
    )

pub found_closing : (es : List EventSeen) (k w m : ℕ) → closing_from k (suc w) es ≡ Some m
    → (i : ℕ) × (closing es ≡ Some i) × (k + i ≤ m)
found_closing es k w m h =
    let f = peels es k (suc w) m h in
    let at = f.2 in
    let p = first_peel w es f.0 f.1 in
    let lt = p.2 in
    (p.0, is_closed es p.0 p.1, omega arith)

-- what closes a call closes it whatever comes after
pub closed_still : (inner back : List EventSeen) (k : ℕ) → closing inner ≡ Some k
    → (closing (inner ++ back) ≡ Some k) × (k < length inner + 1)
closed_still inner back k h =
    let c = closed_is inner k h in
    let len : length inner ≡ length (c.inner ++ c.ret ∷ c.back) = ap length c.are in (
      is_closed (inner ++ back) k
          (record {
            inner = c.inner;
            ret = c.ret;
            back = c.back ++ back;
            are = ap (λ ls. ls ++ back) c.are ∙ append_assoc c.inner (c.ret ∷ c.back) back;
            closed = c.closed;
            is_ret = c.is_ret;
            place = c.place;
          }),
      omega (arith, length-append c.inner (c.ret ∷ c.back), c.place),
    )
