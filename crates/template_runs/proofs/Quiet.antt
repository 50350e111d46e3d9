-- What a run of at most so many steps shows at each point at which trusted code lets go of control, told from
-- a state with live cells, in which the procedures that code outside entered at some states have not ended:
-- how it goes over one step.
use Rattle.std.proofs.Common.{◌≡◌, ◌⊎◌, inl, inr, ℕ, zero, suc, ◌+◌, ◌<◌, ◌≤◌, List, [], ◌∷◌, length, Some}
use Rattle.std.proofs.Common.{true, false, sym, ap, ◌∙◌, subst, arith}
use Rattle.trusted_border.specs.declared.events.Event.TheVariants.{Left}
use Rattle.overlay_machine.specs.State.{OpenFrame, OState}
use Rattle.overlay_machine.specs.Step.{goes, halts, fails, Ending, overlay_step}
use Rattle.overlay_machine.specs.Events.{step_event}
use Rattle.overlay_machine.specs.Link.{Link}
use Rattle.template_runs.specs.Runs.{is_inside}
use Rattle.lcm_machine.specs.Cells.{cell}
use Rattle.overlay_machine.specs.declared.words.OWord.{OWord}

-- the next state is one alone
next_is : (p q : OState) (e : Ending) → e ≡ goes p → e ≡ goes q → p ≡ q
next_is p q e h k = let s : goes p ≡ goes q = sym h ∙ k in by s
  where
    state : OState → Ending → OState
    state z (goes o) = o
    state z halts = z
    state z fails = z

    by : goes p ≡ goes q → p ≡ q
    by s = ap (λ x. state p x) s

-- one of some states
abbrev pub Among : List OState → OState → Type 0
Among [] a = ⊥
Among (b ∷ bs) a = (a ≡ b) ⊎ Among bs a

-- how many calls are open
abbrev pub depth : OState → ℕ
depth o = length o.frames

-- States at which code outside entered procedures that have not ended: in each of them no more calls were
-- open than these.
pub record Owing (fs : List OpenFrame) : Type 0 where
  pub owes : List OState
  pub deep : (a : OState) → Among owes a → depth a ≤ length fs

-- each cell of the first is as it was in the second
abbrev pub Stays : OState → OState → Type 0
Stays o q = (a : ℕ) (w : OWord) → cell o.maps.cells a ≡ Some w → cell q.maps.cells a ≡ Some w

module _ (g : Link) (Shown Pays : OState → OState → Type 0) where
  -- from a state in trusted code it lets go of control with a step from p to q, its last one of so many
  pub data Lets : ℕ → OState → OState → OState → Type 0 where
    now : {o q : OState} → is_inside g.layout o ≡ true → overlay_step g.layout o ≡ goes q
        → is_inside g.layout q ≡ false → Lets 1 o o q
    behind : {j : ℕ} {o m p q : OState} → is_inside g.layout o ≡ true → overlay_step g.layout o ≡ goes m
        → is_inside g.layout m ≡ true → Lets j m p q → Lets (suc j) o p q

  -- from a state, code outside comes in with the last one of so many steps
  pub data Comes : ℕ → OState → OState → OState → Type 0 where
    now_in : {o q : OState} → is_inside g.layout o ≡ false → overlay_step g.layout o ≡ goes q
        → is_inside g.layout q ≡ true → Comes 1 o o q
    later_in : {i : ℕ} {o m p q : OState} → overlay_step g.layout o ≡ goes m → Comes i m p q
        → Comes (suc i) o p q

  -- From a state, a procedure that was entered with so many calls open ends with the last one of so many
  -- steps, which leaves from p to q: up to there as many are open, and more where code outside runs.
  pub data Ends (d : ℕ) : ℕ → OState → OState → OState → Type 0 where
    ends_now : {o q : OState} (part : ℕ) → is_inside g.layout o ≡ true → overlay_step g.layout o ≡ goes q
        → is_inside g.layout q ≡ false → step_event g.layout o q ≡ Some (Left part) → depth q ≡ d
        → Ends d 1 o o q
    ends_later : {j : ℕ} {o m p q : OState} → overlay_step g.layout o ≡ goes m → d ≤ depth m
        → (is_inside g.layout m ≡ false → d < depth m) → Ends d j m p q → Ends d (suc j) o p q

  -- What is wanted of a run of so many steps: what is shown where trusted code lets go, that no cell is
  -- changed by the step by which code outside comes in, and that entries are paid, those that haven't ended
  -- and later ones.
  pub record Quiet (ws : List OState) (n : ℕ) (o : OState) : Type 0 where
    pub first : (j : ℕ) (p q : OState) → j ≤ n → Lets j o p q → Shown p q
    pub later : (i j : ℕ) (b a p q : OState) → i + j ≤ n → Comes i o b a → Lets j a p q
        → Shown p q × Stays b a
    pub ends : (a : OState) → Among ws a → (j : ℕ) (p q : OState) → j ≤ n → Ends (depth a) j o p q → Pays a q
    pub later_ends : (i j : ℕ) (b a p q : OState) → i + j ≤ n → Comes i o b a → a.frames ≡ b.frames
        → Ends (depth a) j a p q → Pays a q

  module _ (o : OState) (ws : List OState) where
    -- it has ended
    pub quiet_ended : (n : ℕ) → ((q : OState) → overlay_step g.layout o ≡ goes q → ⊥) → Quiet ws n o
    quiet_ended n never = record { first = first; later = later; ends = ends; later_ends = later_ends }
      where
        first : (j : ℕ) (p q : OState) → j ≤ n → Lets j o p q → Shown p q
        first _ p q le (now i s u) = absurd (never q s)
        first _ p q le (behind i s u k) = absurd (never _ s)

        none_come : (i : ℕ) (b a : OState) → Comes i o b a → ⊥
        none_come _ _ a (now_in i s u) = never a s
        none_come _ b a (later_in s c) = never _ s

        later : (i j : ℕ) (b a p q : OState) → i + j ≤ n → Comes i o b a → Lets j a p q
            → Shown p q × Stays b a
        later i j b a p q le c k = absurd (none_come i b a c)

        ends : (a : OState) → Among ws a → (j : ℕ) (p q : OState) → j ≤ n → Ends (depth a) j o p q → Pays a q
        ends a m _ p q le (ends_now part i s u e d) = absurd (never q s)
        ends a m _ p q le (ends_later s lo hi k) = absurd (never _ s)

        later_ends : (i j : ℕ) (b a p q : OState) → i + j ≤ n → Comes i o b a → a.frames ≡ b.frames
            → Ends (depth a) j a p q → Pays a q
        later_ends i j b a p q le c e k = absurd (none_come i b a c)

    -- nothing is left to run
    pub quiet_none : Quiet ws zero o
    quiet_none = record { first = first; later = later; ends = ends; later_ends = later_ends }
      where
        first : (j : ℕ) (p q : OState) → j ≤ zero → Lets j o p q → Shown p q
        first _ p q le (now i s u) = absurd (omega (arith, le))
        first _ p q le (behind i s u k) = absurd (omega (arith, le))

        some : (i j : ℕ) (b a : OState) → i + j ≤ zero → Comes i o b a → ⊥
        some _ j _ a le (now_in i s u) = omega (arith, le)
        some _ j b a le (later_in s c) = omega (arith, le)

        later : (i j : ℕ) (b a p q : OState) → i + j ≤ zero → Comes i o b a → Lets j a p q
            → Shown p q × Stays b a
        later i j b a p q le c k = absurd (some i j b a le c)

        ends : (a : OState) → Among ws a → (j : ℕ) (p q : OState) → j ≤ zero → Ends (depth a) j o p q
            → Pays a q
        ends a m _ p q le (ends_now part i s u e d) = absurd (omega (arith, le))
        ends a m _ p q le (ends_later s lo hi k) = absurd (omega (arith, le))

        later_ends : (i j : ℕ) (b a p q : OState) → i + j ≤ zero → Comes i o b a → a.frames ≡ b.frames
            → Ends (depth a) j a p q → Pays a q
        later_ends i j b a p q le c e k = absurd (some i j b a le c)

    -- of fewer steps
    pub quiet_fewer : (m n : ℕ) → m ≤ n → Quiet ws n o → Quiet ws m o
    quiet_fewer m n le h = record {
      first = λ j p q lj k. h.first j p q (omega (arith, lj, le)) k;
      later = λ i j b a p q lj c k. h.later i j b a p q (omega (arith, lj, le)) c k;
      ends = λ a w j p q lj k. h.ends a w j p q (omega (arith, lj, le)) k;
      later_ends = λ i j b a p q lj c e k. h.later_ends i j b a p q (omega (arith, lj, le)) c e k;
    }

  module _ (n : ℕ) (ws vs : List OState) (o q : OState)
      (step : overlay_step g.layout o ≡ goes q) where
    -- what comes later is told after the step
    module _ (io : is_inside g.layout o ≡ true) (h : Quiet vs n q) where
      behind_later : (i j : ℕ) (b a p x : OState) → i + j ≤ suc n → Comes i o b a → Lets j a p x
          → Shown p x × Stays b a
      behind_later _ j _ a p x le (now_in i s u) k = absurd (let bad : true ≡ false = sym io ∙ i in cc)
      behind_later _ j b a p x le (later_in {i} {m = m'} s c') k =
          let e = next_is m' q _ s step in
          h.later i j b a p x (omega (arith, le)) (subst (λ y. Comes i y b a) e c') k

      behind_ends : (i j : ℕ) (b a p x : OState) → i + j ≤ suc n → Comes i o b a → a.frames ≡ b.frames
          → Ends (depth a) j a p x → Pays a x
      behind_ends _ j _ a p x le (now_in i s u) f k = absurd (let bad : true ≡ false = sym io ∙ i in cc)
      behind_ends _ j b a p x le (later_in {i} {m = m'} s c') f k =
          let e = next_is m' q _ s step in
          h.later_ends i j b a p x (omega (arith, le)) (subst (λ y. Comes i y b a) e c') f k

    -- A step of trusted code to trusted code: a word of a template, a call or a return inside. What is owed
    -- is still owed, or fewer calls are open.
    pub quiet_step : is_inside g.layout o ≡ true → is_inside g.layout q ≡ true
        → ((a : OState) → Among ws a → Among vs a ⊎ (depth q < depth a))
        → Quiet vs n q → Quiet ws (suc n) o
    quiet_step io iq owed h = record {
      first = first;
      later = behind_later io h;
      ends = ends;
      later_ends = behind_ends io h;
    }
      where
        first : (j : ℕ) (p x : OState) → j ≤ suc n → Lets j o p x → Shown p x
        first _ p x le (now i s u) =
            absurd (let e = next_is q x _ step s in
            let bad : true ≡ false = sym iq ∙ ap (is_inside g.layout) e ∙ u in cc)
        first _ p x le (behind {j} {m = m'} i s u k) =
            let e = next_is m' q _ s step in
            h.first j p x (omega (arith, le)) (subst (λ y. Lets j y p x) e k)

        ends : (a : OState) → Among ws a → (j : ℕ) (p x : OState) → j ≤ suc n → Ends (depth a) j o p x
            → Pays a x
        ends a w _ p x le (ends_now part i s u ev d) =
            absurd (let e = next_is q x _ step s in
            let bad : true ≡ false = sym iq ∙ ap (is_inside g.layout) e ∙ u in cc)
        ends a w _ p x le (ends_later {j} {m = m'} s lo hi k) =
            let e = next_is m' q _ s step in
            elim (owed a w) as (λ _. Pays a x) [
              | inl v ↦ h.ends a v j p x (omega (arith, le)) (subst (λ y. Ends (depth a) j y p x) e k)
              | inr lt ↦ absurd (let f : depth m' ≡ depth q = ap depth e in omega (arith, lo, lt, f))
            ]

    -- A step by which it lets go: where it is the end of a procedure, what was owed is paid.
    pub quiet_out : is_inside g.layout o ≡ true → is_inside g.layout q ≡ false → Shown o q
        → ((a : OState) → Among ws a → (part : ℕ) → step_event g.layout o q ≡ Some (Left part)
        → depth q ≡ depth a → Pays a q)
        → ((a : OState) → Among ws a → Among vs a ⊎ (depth q ≤ depth a))
        → Quiet vs n q → Quiet ws (suc n) o
    quiet_out io iq sh pays owed h = record {
      first = first;
      later = behind_later io h;
      ends = ends;
      later_ends = behind_ends io h;
    }
      where
        first : (j : ℕ) (p x : OState) → j ≤ suc n → Lets j o p x → Shown p x
        first _ p x le (now i s u) =
            let e = next_is q x _ step s in
            subst (λ y. Shown o y) e sh
        first _ p x le (behind {m = m'} i s u k) =
            absurd (let e = next_is q m' _ step s in
            let bad : false ≡ true = sym iq ∙ ap (is_inside g.layout) e ∙ u in cc)

        ends : (a : OState) → Among ws a → (j : ℕ) (p x : OState) → j ≤ suc n → Ends (depth a) j o p x
            → Pays a x
        ends a w _ p x le (ends_now part i s u ev d) =
            let e = next_is q x _ step s in
            subst (λ y. Pays a y) e
            (pays a w part (ap (step_event g.layout o) e ∙ ev) (ap depth e ∙ d))
        ends a w _ p x le (ends_later {j} {m = m'} s lo hi k) =
            let e = next_is m' q _ s step in
            let more = hi (ap (is_inside g.layout) e ∙ iq) in
            elim (owed a w) as (λ _. Pays a x) [
              | inl v ↦ h.ends a v j p x (omega (arith, le)) (subst (λ y. Ends (depth a) j y p x) e k)
              | inr few ↦ absurd (let f : depth m' ≡ depth q = ap depth e in omega (arith, more, few, f))
            ]

    -- A step of code outside, which stays there or comes in, by which no cell is changed; where it enters a
    -- procedure, that owes its end from now on.
    pub quiet_outside : is_inside g.layout o ≡ false
        → ((a : OState) → Among ws a → Among vs a)
        → (is_inside g.layout q ≡ true → q.frames ≡ o.frames → Among vs q)
        → (is_inside g.layout q ≡ true → Stays o q)
        → Quiet vs n q → Quiet ws (suc n) o
    quiet_outside io owed enters before h = record {
      first = first;
      later = later;
      ends = ends;
      later_ends = later_ends;
    }
      where
        first : (j : ℕ) (p x : OState) → j ≤ suc n → Lets j o p x → Shown p x
        first _ p x le (now i s u) = absurd (let bad : true ≡ false = sym i ∙ io in cc)
        first _ p x le (behind i s u k) = absurd (let bad : true ≡ false = sym i ∙ io in cc)

        later : (i j : ℕ) (b a p x : OState) → i + j ≤ suc n → Comes i o b a → Lets j a p x
            → Shown p x × Stays b a
        later _ j _ a p x le (now_in i s u) k =
            let e = next_is q a _ step s in (
              h.first j p x (omega (arith, le)) (subst (λ y. Lets j y p x) (sym e) k),
              subst (Stays o) e (before (ap (is_inside g.layout) e ∙ u)),
            )
        later _ j b a p x le (later_in {i} {m = m'} s c') k =
            let e = next_is m' q _ s step in
            h.later i j b a p x (omega (arith, le)) (subst (λ y. Comes i y b a) e c') k

        ends : (a : OState) → Among ws a → (j : ℕ) (p x : OState) → j ≤ suc n → Ends (depth a) j o p x
            → Pays a x
        ends a w _ p x le (ends_now part i s u ev d) = absurd (let bad : true ≡ false = sym i ∙ io in cc)
        ends a w _ p x le (ends_later {j} {m = m'} s lo hi k) =
            let e = next_is m' q _ s step in
            h.ends a (owed a w) j p x (omega (arith, le)) (subst (λ y. Ends (depth a) j y p x) e k)

        later_ends : (i j : ℕ) (b a p x : OState) → i + j ≤ suc n → Comes i o b a → a.frames ≡ b.frames
            → Ends (depth a) j a p x → Pays a x
        later_ends _ j _ a p x le (now_in i s u) f k =
            let e = next_is q a _ step s in
            let v = enters (ap (is_inside g.layout) e ∙ u) (ap (λ y. y.frames) e ∙ f) in
            h.ends a (subst (Among vs) e v) j p x (omega (arith, le))
            (subst (λ y. Ends (depth a) j y p x) (sym e) k)
        later_ends _ j b a p x le (later_in {i} {m = m'} s c') f k =
            let e = next_is m' q _ s step in
            h.later_ends i j b a p x (omega (arith, le)) (subst (λ y. Comes i y b a) e c') f k
