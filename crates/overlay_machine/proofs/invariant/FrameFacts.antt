-- What frames in order say of calls and addresses.
use Rattle.std.proofs.Common.{◌≡◌, ◌≢◌, ◌⊎◌, inl, inr, ℕ, zero, suc, ◌-◌, ◌<◌, ◌≤◌, Bool, true, false, List}
use Rattle.std.proofs.Common.{[], ◌∷◌, length, Option, Some, None, refl, sym, ap, ◌∙◌, subst, arith, eqb-true}
use Rattle.std.proofs.Common.{eq-eqb}
use Rattle.std.specs.Prelude.{◌==◌, if◌then◌else◌, find, slice_get}
use Rattle.std.specs.Option.{option_or}
use Rattle.std.specs.List.{Contains}
use Rattle.std.proofs.lemmas.Bool.{cases_lt}
use Rattle.std.proofs.lemmas.Option.{slice_get_past}
use Rattle.lcm_machine.specs.Cells.{cell}
use Rattle.trusted_border.specs.declared.layout.Layout.{Layout}
use Rattle.overlay_machine.specs.declared.words.OWord.{OWord}
use Rattle.overlay_machine.specs.State.{OpenFrame, Cells, framed, frame_of, word_of}
use Rattle.overlay_machine.specs.Step.{rest_words}
use Rattle.overlay_machine.specs.Invariant.{FrameLies, FramesLie}
use Rattle.overlay_machine.proofs.FrameWords.{word_of-below, word_of-within}
use Rattle.component_file.proofs.Offers.{inside}

pub contains_first : {A : Type 0} (x : A) (xs : List A) → Contains (x ∷ xs) x
contains_first x xs = (0, omega arith, refl)

pub contains_rest : {A : Type 0} (x y : A) (xs : List A) → Contains xs y → Contains (x ∷ xs) y
contains_rest x y xs h = (suc h.0, omega (arith, h.1), h.2)

pub first_of : (ws : List OWord) (w : OWord) → slice_get ws 0 ≡ Some w → ws ≡ w ∷ rest_words ws
first_of [] w e = cc
first_of (x ∷ ws) w e = let q : x ≡ w = cc in ap (λ y. y ∷ ws) q

-- ---- the frame of a call

pub frame_of-cons : (f : OpenFrame) (fs : List OpenFrame) (k : ℕ) (g : OpenFrame)
    → frame_of (f ∷ fs) k ≡ Some g → ((f.call ≡ k) × (f ≡ g)) ⊎ ((f.call ≢ k) × (frame_of fs k ≡ Some g))
unfolding frame_of
frame_of-cons f fs k g e = by_call (f.call == k) refl e
  where
    by_call : (b : Bool) → (f.call == k) ≡ b → (if b then Some f else find (λ x. x.call == k) fs) ≡ Some g
        → ((f.call ≡ k) × (f ≡ g)) ⊎ ((f.call ≢ k) × (find (λ x. x.call == k) fs ≡ Some g))
    by_call true m e = inl (eqb-true f.call k m, cc)
    by_call false m e =
        inr (
          (λ q. let h : (f.call == k) ≡ true = eq-eqb f.call k q in let bad : false ≡ true =
              sym m ∙ h in cc),
          e,
        )

pub frame_none : (k : ℕ) (g : OpenFrame) → frame_of [] k ≡ Some g → ⊥
unfolding frame_of
frame_none k g e = cc

pub frame_in : (fs : List OpenFrame) (k : ℕ) (g : OpenFrame) → frame_of fs k ≡ Some g
    → Contains fs g × (g.call ≡ k)
frame_in [] k g e = absurd (frame_none k g e)
frame_in (f ∷ fs) k g e = elim (frame_of-cons f fs k g e) as (λ _. Contains (f ∷ fs) g × (g.call ≡ k)) [
  | inl h ↦ (rw (h.1) (contains_first g fs), sym (ap (λ x. x.call) h.1) ∙ h.0)
  | inr h ↦ (let r = frame_in fs k g h.1 in (contains_rest f g fs r.0, r.1))
]

pub frame_known : (l : Layout) (m : Cells) (n : ℕ) (fs : List OpenFrame) (k : ℕ) (g : OpenFrame)
    → FramesLie l m n fs → frame_of fs k ≡ Some g → k < n
frame_known l m n [] k g h e = absurd (frame_none k g e)
frame_known l m n (f ∷ fs) k g h e = elim (frame_of-cons f fs k g e) as (λ _. k < n) [
  | inl q ↦ (let c = q.0 in let d = h.1 in omega (arith, c, d))
  | inr q ↦ (let r = frame_known l m f.call fs k g h.3 q.1 in let d = h.1 in omega (arith, r, d))
]

-- ---- addresses of frames

pub lies_of : (l : Layout) (m : Cells) (n : ℕ) (fs : List OpenFrame) (g : OpenFrame) → FramesLie l m n fs
    → Contains fs g → FrameLies l m g
lies_of l m n [] g h c = absurd (omega (arith, c.1))
lies_of l m n (f ∷ fs) g h (zero, lt, e) = subst (λ x. FrameLies l m x) e h.0
lies_of l m n (f ∷ fs) g h (suc k, lt, e) = lies_of l m f.call fs g h.3 (k, omega (arith, lt), e)

-- a frame has words exactly at its addresses
pub has_word : (l : Layout) (m : Cells) (f : OpenFrame) (a : ℕ) → FrameLies l m f → f.base ≤ a → a ≤ f.end
    → (w : OWord) × (word_of f a ≡ Some w)
has_word l m f a s low high =
    let long = s.words in
    let lt : a - f.base < length f.words = omega (arith, long, low, high) in
    let k = inside f.words (a - f.base) lt in
    (k.0, word_of-within f a low ∙ k.1)

pub word_in_frame : (l : Layout) (m : Cells) (f : OpenFrame) (a : ℕ) (w : OWord) → FrameLies l m f
    → word_of f a ≡ Some w → (f.base ≤ a) × (a ≤ f.end)
word_in_frame l m f a w s e = elim (cases_lt a f.base) as (λ _. (f.base ≤ a) × (a ≤ f.end)) [
  | inl lt ↦ (let none = word_of-below f a lt in let bad : None ≡ Some w = sym none ∙ e in cc)
  | inr ge ↦ elim (cases_lt f.end a) as (λ _. (f.base ≤ a) × (a ≤ f.end)) [
    | inl gt ↦ (let long = s.words in
        let past : length f.words ≤ a - f.base = (let o = s.order in omega (arith, long, gt, o)) in
        let none : word_of f a ≡ None = word_of-within f a ge ∙ slice_get_past f.words (a - f.base) past in
        let bad : None ≡ Some w = sym none ∙ e in cc)
    | inr le ↦ (ge, le)
  ]
]

-- outside it a frame has no word
pub word_out : (l : Layout) (m : Cells) (f : OpenFrame) (a : ℕ) → FrameLies l m f → (a < f.base) ⊎ (f.end < a)
    → word_of f a ≡ None
word_out l m f a lies out = by_word (word_of f a) refl
  where
    by_word : (w : Option OWord) → word_of f a ≡ w → w ≡ None
    by_word None e = refl
    by_word (Some w) e =
        let r = word_in_frame l m f a w lies e in
        let low = r.0 in
        let high = r.1 in
        elim out as (λ _. Some w ≡ None)
        [ inl lt ↦ absurd (omega (arith, lt, low)) | inr lt ↦ absurd (omega (arith, lt, high)) ]

pub framed_in : (l : Layout) (m : Cells) (n : ℕ) (fs : List OpenFrame) (g : OpenFrame) (a : ℕ)
    → FramesLie l m n fs → Contains fs g → g.base ≤ a → a ≤ g.end → framed fs a ≡ None → ⊥
framed_in l m n [] g a h c low high e = absurd (omega (arith, c.1))
framed_in l m n (f ∷ fs) g a h (zero, lt, q) low high e =
    let s : FrameLies l m g = subst (λ x. FrameLies l m x) q h.0 in
    let k = has_word l m g a s low high in
    let w : word_of f a ≡ Some k.0 = ap (λ x. word_of x a) q ∙ k.1 in
    let bad : Some k.0 ≡ None = sym (ap (λ x. option_or x (framed fs a)) w) ∙ e in cc
framed_in l m n (f ∷ fs) g a h (suc k, lt, q) low high e =
    framed_in l m f.call fs g a h.3 (k, omega (arith, lt), q) low high (rest (word_of f a) e)
  where
    rest : (o : Option OWord) → option_or o (framed fs a) ≡ None → framed fs a ≡ None
    rest None e = e
    rest (Some w) e = cc

-- a word at an address of frames is one of a frame
pub framed_by : (fs : List OpenFrame) (a : ℕ) (w : OWord) → framed fs a ≡ Some w
    → (f : OpenFrame) × Contains fs f × (word_of f a ≡ Some w)
framed_by [] a w e = cc
framed_by (f ∷ fs) a w e = by_word (word_of f a) refl (framed_by fs a w) e
  where
    by_word : (o : Option OWord) → word_of f a ≡ o
        → (framed fs a ≡ Some w → (g : OpenFrame) × Contains fs g × (word_of g a ≡ Some w))
        → option_or o (framed fs a) ≡ Some w → (g : OpenFrame) × Contains (f ∷ fs) g × (word_of g a ≡ Some w)
    by_word None m more e = (let k = more e in (k.0, contains_rest f k.0 fs k.1, k.2))
    by_word (Some v) m more e = (f, contains_first f fs, (let q : Some v ≡ Some w = e in m ∙ q))

-- a frame lies below each older one
pub below_all : (l : Layout) (cs : Cells) (n : ℕ) (f : OpenFrame) (gs : List OpenFrame) (h : OpenFrame)
    → FramesLie l cs n (f ∷ gs) → Contains gs h → f.end < h.base
below_all l cs n f [] h k c = absurd (omega (arith, c.1))
below_all l cs n f (x ∷ gs) h k (zero, lt, e) = subst (λ y. f.end < y.base) e k.2
below_all l cs n f (x ∷ gs) h k (suc i, lt, e) =
    let a = below_all l cs f.call x gs h k.3 (i, omega (arith, lt), e) in
    let b = k.2 in let s = (k.3.0).order in omega (arith, a, b, s)

-- outside the stack there are no frames
pub unframed : (l : Layout) (m : Cells) (n : ℕ) (fs : List OpenFrame) (a : ℕ) → FramesLie l m n fs
    → (l.stack.base ≤ a → a ≤ l.stack.end → ⊥) → framed fs a ≡ None
unframed l m n fs a h never = by_word (framed fs a) refl
  where
    by_word : (w : Option OWord) → framed fs a ≡ w → w ≡ None
    by_word None e = refl
    by_word (Some w) e =
        let b = framed_by fs a w e in
        let s = lies_of l m n fs b.0 h b.1 in
        let r = word_in_frame l m b.0 a w s b.2 in
        absurd (never (let x = s.above in let y = r.0 in omega (arith, x, y))
        (let x = s.within in let y = r.1 in omega (arith, x, y)))

-- frames lie where no cell of theirs comes back
pub frames_same : (l : Layout) (m m' : Cells) (n : ℕ) (fs : List OpenFrame)
    → ((q : ℕ) → cell m q ≡ None → cell m' q ≡ None) → FramesLie l m n fs → FramesLie l m' n fs
frames_same l m m' n [] h k = tt
frames_same l m m' n (f ∷ fs) h k = (
  record {
    above = (k.0).above;
    order = (k.0).order;
    within = (k.0).within;
    words = (k.0).words;
    gone =
        λ a low high. h a ((k.0).gone a low high);
  },
  k.1,
  k.2,
  frames_same l m m' f.call fs h k.3,
)

-- no older frame has an address of the newest
pub frames_apart : (l : Layout) (m : Cells) (n : ℕ) (f : OpenFrame) (fs : List OpenFrame) (a : ℕ) (w : OWord)
    → FramesLie l m n (f ∷ fs) → framed fs a ≡ Some w → word_of f a ≡ None
frames_apart l m n f fs a w k e = by_word (word_of f a) refl
  where
    by_word : (x : Option OWord) → word_of f a ≡ x → x ≡ None
    by_word None h = refl
    by_word (Some v) h =
        let b = framed_by fs a w e in
        let r = word_in_frame l m b.0 a w (lies_of l m f.call fs b.0 k.3 b.1) b.2 in
        let s = word_in_frame l m f a v k.0 h in
        let u = below_all l m n f fs b.0 k b.1 in
        let x = r.0 in
        let y = s.1 in
        absurd (omega (arith, u, x, y))
