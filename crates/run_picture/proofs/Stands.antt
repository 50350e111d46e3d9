-- Where lines and addresses stand.
use Rattle.std.proofs.Common.{◌≡◌, ℕ, ◌+◌, ◌-◌, ◌*◌, ◌<◌, ◌≤◌, Bool, true, false, List, [], ◌∷◌, ◌++◌, length}
use Rattle.std.proofs.Common.{Some, None, refl, sym, ap, subst, arith, inl, inr}
use Rattle.std.specs.Prelude.{min, nat_le, nat_lt, nat_eq, if◌then◌else◌}
use Rattle.std.proofs.lemmas.Bool.{leb-true, leb-false, lt-ltb, le-ltb, eqb-true, eqb-false, cond_both}
use Rattle.std.proofs.lemmas.Bool.{cases_lt}
use Rattle.std.proofs.Math.Nat.{mul-lt-mul_of_pos_left, mul-le-mul_left}
use Rattle.run_picture.specs.declared.heights.Scale.{Scale}
use Rattle.run_picture.specs.declared.turn.Side.{Side}
use Rattle.run_picture.specs.declared.turn.Extent.{Extent}
use Rattle.run_picture.specs.declared.turn.Turn.{Turn}
use Rattle.run_picture.specs.declared.turn.Turn.TheVariants.{Call, Ret, Enter, Leave, Other}
use Rattle.run_picture.specs.Events.{EventSeen}
use Rattle.run_picture.specs.Heights.{with_cut, with_turn, cuts_from, below, fits, scale_of}
use Rattle.run_picture.specs.Page.{column_of}
use Rattle.run_picture.specs.HeightLaws.{IsCut, ColumnsRise, HeightsFall, CutsFall, FramesEndAtCuts}

-- ---- columns

column_some : (n : ℕ) → 0 < column_of n
column_some n =
    cond_both (nat_le n 5) _ _ (λ c. 0 < c) (λ e. omega arith) (λ e.
    cond_both (nat_le n 12) _ _ (λ c. 0 < c) (λ e. omega arith) (λ e.
    cond_both (nat_le n 30) _ _ (λ c. 0 < c) (λ e. omega arith) (λ e.
    cond_both (nat_le n 80) _ _ (λ c. 0 < c) (λ e. omega arith) (λ e.
    cond_both (nat_le n 400) _ _ (λ c. 0 < c) (λ e. omega arith) (λ e.
    cond_both (nat_le n 2000) _ _ (λ c. 0 < c) (λ e. omega arith) (λ e. omega arith))))))

pub columns_rise : ColumnsRise
columns_rise es m n h =
    let c = column_of (length es) in
    let lt : c * m < c * n = mul-lt-mul_of_pos_left h (column_some (length es)) in
    omega arith

-- ---- cuts fall

-- all are below this, and each is below the one before it
abbrev pub Under : ℕ → List ℕ → Type 0
Under b [] = Unit {0}
Under b (c ∷ cs) = (c < b) × Under c cs

pub under_more : (a b : ℕ) (cs : List ℕ) → a ≤ b → Under a cs → Under b cs
under_more a b [] h u = tt
under_more a b (c ∷ cs) h u = let lt : c < a = u.0 in (omega arith, u.1)

put_here : (a b c : ℕ) (cs : List ℕ) → a < b → Under b (c ∷ cs) → c ≤ a → (t : Bool) → nat_eq c a ≡ t
    → Under b (if t then c ∷ cs else a ∷ c ∷ cs)
put_here a b c cs h u le true e = u
put_here a b c cs h u le false e =
    let ne : (c ≡ a → ⊥) = eqb-false c a e in
    (h, (omega (arith, ne), u.1))

pub with_cut_under : (a b : ℕ) (cs : List ℕ) → a < b → Under b cs → Under b (with_cut a cs)
with_cut_under a b [] h u = (h, tt)
with_cut_under a b (c ∷ cs) h u =
    cond_both (nat_le c a) _ _ (Under b)
    (λ e. put_here a b c cs h u (leb-true c a e) (nat_eq c a) refl)
    (λ e. (u.0, with_cut_under a c cs (leb-false c a e) u.1))

-- they fall
abbrev Fall : List ℕ → Type 0
Fall cs = (b : ℕ) × Under b cs

with_cut_falls : (a : ℕ) (cs : List ℕ) → Fall cs → Fall (with_cut a cs)
with_cut_falls a cs f =
    let le : f.0 ≤ f.0 + a + 1 = omega arith in
    let lt : a < f.0 + a + 1 = omega arith in
    (f.0 + a + 1, with_cut_under a (f.0 + a + 1) cs lt (under_more f.0 (f.0 + a + 1) cs le f.1))

with_turn_falls : (t : Turn) (cs : List ℕ) → Fall cs → Fall (with_turn t cs)
with_turn_falls (Call side s) cs f =
    with_cut_falls s.base (with_cut (s.last + 1) cs) (with_cut_falls (s.last + 1) cs f)
with_turn_falls (Ret side s) cs f = f
with_turn_falls (Enter None) cs f = f
with_turn_falls (Enter (Some end)) cs f = with_cut_falls (end + 1) cs f
with_turn_falls Leave cs f = f
with_turn_falls Other cs f = f

cuts_fall : (es : List EventSeen) (cs : List ℕ) → Fall cs → Fall (cuts_from cs es)
cuts_fall [] cs f = f
cuts_fall (e ∷ es) cs f = cuts_fall es (with_turn e.turn cs) (with_turn_falls e.turn cs f)

-- ---- heights fall

pub no_lower : (m : ℕ) (cs : List ℕ) (a b : ℕ) → a ≤ b → below m cs b ≤ below m cs a
no_lower m [] a b h = omega arith
no_lower m (c ∷ []) a b h = omega arith
no_lower m (c ∷ d ∷ cs) a b h = elim (cases_lt b c) [
  | inl lt ↦
      let one : nat_lt b c ≡ true = lt-ltb b c lt in
      let two : nat_lt a c ≡ true = lt-ltb a c (omega arith) in
      let rec : below m (d ∷ cs) b ≤ below m (d ∷ cs) a = no_lower m (d ∷ cs) a b h in
      rw (one, two) (omega arith)
  | inr le ↦
      let one : nat_lt b c ≡ false = le-ltb b c le in
      rw one (omega arith)
]

cut_under : (a b : ℕ) (cs : List ℕ) → Under b cs → IsCut a cs → a < b
cut_under a b [] u h = absurd h
cut_under a b (c ∷ cs) u (inl e) = let lt : c < b = u.0 in omega arith
cut_under a b (c ∷ cs) u (inr h) =
    let lt : c < b = u.0 in
    let rec : a < c = cut_under a c cs u.1 h in
    omega arith

some_words : (m c d : ℕ) → 0 < m → d < c → 0 < min (c - d) m
some_words m c d h lt = omega arith

higher : (m : ℕ) (cs : List ℕ) (top a b : ℕ) → 0 < m → Under top cs → a < b → IsCut a cs → IsCut b cs
    → below m cs b < below m cs a
higher m [] top a b some u h p q = absurd p
higher m (c ∷ []) top a b some u h (inl p) (inl q) = absurd (omega arith)
higher m (c ∷ []) top a b some u h (inl p) (inr q) = absurd q
higher m (c ∷ []) top a b some u h (inr p) q = absurd p
higher m (c ∷ d ∷ cs) top a b some u h (inl p) (inl q) = absurd (omega arith)
higher m (c ∷ d ∷ cs) top a b some u h (inl p) (inr q) =
    let lt : b < c = cut_under b c (d ∷ cs) u.1 q in
    absurd (omega arith)
higher m (c ∷ d ∷ cs) top a b some u h (inr p) (inl q) =
    let lt : a < c = cut_under a c (d ∷ cs) u.1 p in
    let one : nat_lt b c ≡ false = le-ltb b c (omega arith) in
    let two : nat_lt a c ≡ true = lt-ltb a c lt in
    let down : d < c = u.1.0 in
    let words : 0 < min (c - d) m = some_words m c d some down in
    rw (one, two) (omega arith)
higher m (c ∷ d ∷ cs) top a b some u h (inr p) (inr q) =
    let one : nat_lt b c ≡ true = lt-ltb b c (cut_under b c (d ∷ cs) u.1 q) in
    let two : nat_lt a c ≡ true = lt-ltb a c (cut_under a c (d ∷ cs) u.1 p) in
    let rec : below m (d ∷ cs) b < below m (d ∷ cs) a = higher m (d ∷ cs) c a b some u.1 h p q in
    rw (one, two) (omega arith)

-- ---- on the page

scale_some : (cs : List ℕ) → (0 < (scale_of cs).most) × (0 < (scale_of cs).px)
unfolding scale_of
scale_some cs =
    let near : Scale = record { most = 16; px = 16 } in
    let half : Scale = record { most = 16; px = 8 } in
    let less : Scale = record { most = 8; px = 4 } in
    let far : Scale = record { most = 4; px = 2 } in
    cond_both (fits cs near) _ _ (λ (s : Scale). (0 < s.most) × (0 < s.px))
    (λ e. (omega arith, omega arith)) (λ e.
    cond_both (fits cs half) _ _ (λ (s : Scale). (0 < s.most) × (0 < s.px))
    (λ e. (omega arith, omega arith)) (λ e.
    cond_both (fits cs less) _ _ (λ (s : Scale). (0 < s.most) × (0 < s.px))
    (λ e. (omega arith, omega arith)) (λ e.
    cond_both (fits cs far) _ _ (λ (s : Scale). (0 < s.most) × (0 < s.px)) (λ e. (omega arith, omega arith))
    (λ e. (omega arith, omega arith)))))

pub heights_fall : HeightsFall
heights_fall es a b h =
    let cs = cuts_from [] es in
    let s = scale_of cs in
    let le : s.px * below s.most cs b ≤ s.px * below s.most cs a =
    mul-le-mul_left s.px (no_lower s.most cs a b h) in
    omega arith

pub cuts_are_higher : CutsFall
cuts_are_higher es a b h p q =
    let cs = cuts_from [] es in
    let s = scale_of cs in
    let f = cuts_fall es [] (0, tt) in
    let some = scale_some cs in
    let lt : s.px * below s.most cs b < s.px * below s.most cs a =
    mul-lt-mul_of_pos_left (higher s.most cs f.0 a b some.0 f.1 h p q) some.1 in
    omega arith

-- ---- where frames end

is_cut_or : (a c b : ℕ) (cs : List ℕ) (t : Bool) → IsCut a (c ∷ cs)
    → IsCut a (if t then c ∷ cs else b ∷ c ∷ cs)
is_cut_or a c b cs true h = h
is_cut_or a c b cs false h = inr h

stays_cut : (a b : ℕ) (cs : List ℕ) → IsCut a cs → IsCut a (with_cut b cs)
stays_cut a b [] h = absurd h
stays_cut a b (c ∷ cs) h =
    cond_both (nat_le c b) _ _ (IsCut a) (λ e. is_cut_or a c b cs (nat_eq c b) h)
    (λ e. further (stays_cut a b cs) h)
  where
    further : (IsCut a cs → IsCut a (with_cut b cs)) → IsCut a (c ∷ cs) → IsCut a (c ∷ with_cut b cs)
    further rec (inl e) = inl e
    further rec (inr k) = inr (rec k)

put_is : (a c : ℕ) (cs : List ℕ) (t : Bool) → nat_eq c a ≡ t → IsCut a (if t then c ∷ cs else a ∷ c ∷ cs)
put_is a c cs true e = inl (sym (eqb-true c a e))
put_is a c cs false e = inl refl

is_cut : (a : ℕ) (cs : List ℕ) → IsCut a (with_cut a cs)
is_cut a [] = inl refl
is_cut a (c ∷ cs) =
    cond_both (nat_le c a) _ _ (IsCut a) (λ e. put_is a c cs (nat_eq c a) refl) (λ e. inr (is_cut a cs))

turn_keeps : (a : ℕ) (t : Turn) (cs : List ℕ) → IsCut a cs → IsCut a (with_turn t cs)
turn_keeps a (Call side s) cs h =
    stays_cut a s.base (with_cut (s.last + 1) cs) (stays_cut a (s.last + 1) cs h)
turn_keeps a (Ret side s) cs h = h
turn_keeps a (Enter None) cs h = h
turn_keeps a (Enter (Some end)) cs h = stays_cut a (end + 1) cs h
turn_keeps a Leave cs h = h
turn_keeps a Other cs h = h

lines_keep : (a : ℕ) (es : List EventSeen) (cs : List ℕ) → IsCut a cs → IsCut a (cuts_from cs es)
lines_keep a [] cs h = h
lines_keep a (e ∷ es) cs h = lines_keep a es (with_turn e.turn cs) (turn_keeps a e.turn cs h)

call_cuts : (front back : List EventSeen) (e : EventSeen) (side : Side) (s : Extent) (cs : List ℕ)
    → e.turn ≡ Call side s
    → IsCut s.base (cuts_from cs (front ++ e ∷ back)) × IsCut (s.last + 1) (cuts_from cs (front ++ e ∷ back))
call_cuts [] back e side s cs is =
    let after = with_cut s.base (with_cut (s.last + 1) cs) in
    let same : with_turn e.turn cs ≡ after = ap (λ t. with_turn t cs) is in
    let low : IsCut s.base after = is_cut s.base (with_cut (s.last + 1) cs) in
    let high : IsCut (s.last + 1) after =
    stays_cut (s.last + 1) s.base (with_cut (s.last + 1) cs) (is_cut (s.last + 1) cs) in (
      lines_keep s.base back (with_turn e.turn cs) (subst (IsCut s.base) (sym same) low),
      lines_keep (s.last + 1) back (with_turn e.turn cs) (subst (IsCut (s.last + 1)) (sym same) high),
    )
call_cuts (f ∷ front) back e side s cs is = call_cuts front back e side s (with_turn f.turn cs) is

pub frames_end_at_cuts : FramesEndAtCuts
frames_end_at_cuts es front back e side s are is =
    let p = call_cuts front back e side s [] is in (
      subst (λ ls. IsCut s.base (cuts_from [] ls)) (sym are) p.0,
      subst (λ ls. IsCut (s.last + 1) (cuts_from [] ls)) (sym are) p.1,
    )
