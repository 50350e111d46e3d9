-- The cells of frames stay out of memory.
use Rattle.std.proofs.Common.{◌≡◌, ◌≢◌, ◌⊎◌, ◌≤◌, ◌<◌, ℕ, zero, suc, ◌+◌, ◌-◌, true, false, List, [], ◌∷◌}
use Rattle.std.proofs.Common.{length, refl, sym, ap, subst, ◌∙◌, arith, Option, Some, None, IsSome, is_some}
use Rattle.std.proofs.Common.{IsTrue, inl, inr}
use Rattle.std.proofs.lemmas.Bool.{cases_lt, cases_eq}
use Rattle.lcm_machine.specs.Cells.{cell, set_cell, put_back, all_there, without}
use Rattle.lcm_machine.proofs.Offers.{cell-set_other, there-first, cell-without_in, cell-without_out}
use Rattle.frame_region.specs.Frames.{FrameSeen, newest_head, older}
use Rattle.overlay_machine.specs.declared.words.OWord.{OWord}
use Rattle.overlay_machine.specs.State.{Cells}
use Rattle.overlay_machine.specs.declared.frames.Frame.{Frame}
use Rattle.overlay_machine.specs.Machine.{AreOut, IsUnframed}

-- the frames stay out where no cell comes in
pub out-fewer : (m m' : Cells) (fs : List (FrameSeen Frame OWord))
    → ((q : ℕ) → cell m q ≡ None → cell m' q ≡ None) → AreOut m fs → AreOut m' fs
out-fewer m m' [] h o = tt
out-fewer m m' (f ∷ fs) h o = ((λ q a b. (h q (o.0 q a b).0, (o.0 q a b).1)), out-fewer m m' fs h o.1)

is-none : (o : Option OWord) → is_some o ≡ false → o ≡ None
is-none None h = refl
is-none (Some w) h = cc

pub out-same : (m m' : Cells) (fs : List (FrameSeen Frame OWord))
    → ((q : ℕ) → is_some (cell m' q) ≡ is_some (cell m q)) → AreOut m fs → AreOut m' fs
out-same m m' fs h = out-fewer m m' fs (λ q e. is-none (cell m' q) (h q ∙ ap is_some e))

-- an address with a cell is in no frame
there-free : (m : Cells) (fs : List (FrameSeen Frame OWord)) (q : ℕ) → AreOut m fs → IsSome (cell m q)
    → IsUnframed fs q
there-free m [] q o s = tt
there-free m (f ∷ fs) q o s = (
  elim (cases_lt q f.head.base) [
    | inl lt ↦ inl lt
    | inr ge ↦ elim (cases_lt f.head.end q) [
      | inl past ↦ inr past
      | inr within ↦
          absurd (let e : is_some (cell m q) ≡ false =
          ap is_some (o.0 q ge within).0 in let k : false ≡ true = sym e ∙ s in cc)
    ]
  ],
  there-free m fs q o.1 s,
)

there-each : (m : Cells) (a n q : ℕ) → IsTrue (all_there m a n) → a ≤ q → q < a + n → IsSome (cell m q)
there-each m a zero q t lo hi = absurd (omega (arith, lo, hi))
there-each m a (suc n) q t lo hi = elim (cases_eq q a) [
  | inl e ↦ subst (λ k. IsSome (cell m k)) (sym e) (there-first m a n t).0
  | inr ne ↦ there-each m (a + 1) n q (there-first m a n t).1 (omega (arith, lo, ne)) (omega (arith, hi))
]

pub fewer-without : (m : Cells) (a e q : ℕ) → cell m q ≡ None → cell (without m a e) q ≡ None
fewer-without m a e q h = elim (cases_lt q a) [
  | inl lt ↦ cell-without_out m a e q (inl lt) ∙ h
  | inr ge ↦
      elim (cases_lt e q)
      [ inl past ↦ cell-without_out m a e q (inr past) ∙ h | inr within ↦ cell-without_in m a e q ge within ]
]

pub out-called : (m : Cells) (fs : List (FrameSeen Frame OWord)) (f : FrameSeen Frame OWord)
    → f.head.base ≤ f.head.end → IsTrue (all_there m f.head.base (f.head.end + 1 - f.head.base)) → AreOut m fs
    → AreOut (without m f.head.base f.head.end) (f ∷ fs)
out-called m fs f h t o = (
  (λ q lo hi. (
    cell-without_in m f.head.base f.head.end q lo hi,
    there-free m fs q o
        (there-each m f.head.base (f.head.end + 1 - f.head.base) q t lo (omega (arith, lo, hi, h))),
  )),
  out-fewer m (without m f.head.base f.head.end) fs (fewer-without m f.head.base f.head.end) o,
)

pub put_back-other : (m : Cells) (a : ℕ) (ws : List OWord) (q : ℕ) → (q < a) ⊎ (a + length ws ≤ q)
    → cell (put_back m a ws) q ≡ cell m q
unfolding put_back
put_back-other m a [] q h = refl
put_back-other m a (w ∷ ws) q (inl h) = put_back-other (set_cell m a w) (a + 1) ws q (inl (omega (arith, h)))
    ∙ cell-set_other m a q w (let ne : q ≢ a = omega (arith, h) in ne)
put_back-other m a (w ∷ ws) q (inr h) = put_back-other (set_cell m a w) (a + 1) ws q (inr (omega (arith, h)))
    ∙ cell-set_other m a q w (let ne : q ≢ a = omega (arith, h) in ne)

-- the others stay out where a stretch that is in none of them comes back
out-back : (m m' : Cells) (b e : ℕ) (fs : List (FrameSeen Frame OWord))
    → ((q : ℕ) → (q < b) ⊎ (e < q) → cell m' q ≡ cell m q) → ((q : ℕ) → b ≤ q → q ≤ e → IsUnframed fs q)
    → AreOut m fs → AreOut m' fs
out-back m m' b e [] same free o = tt
out-back m m' b e (g ∷ gs) same free o =
    ((λ q lo hi. (at q lo hi, (o.0 q lo hi).1)), out-back m m' b e gs same (λ q lo hi. (free q lo hi).1) o.1)
  where
    clash : (q : ℕ) → g.head.base ≤ q → q ≤ g.head.end → (q < g.head.base) ⊎ (g.head.end < q) → ⊥
    clash q lo hi (inl h) = omega (arith, lo, h)
    clash q lo hi (inr h) = omega (arith, hi, h)

    at : (q : ℕ) → g.head.base ≤ q → q ≤ g.head.end → cell m' q ≡ None
    at q lo hi = elim (cases_lt q b) [
      | inl lt ↦ same q (inl lt) ∙ (o.0 q lo hi).0
      | inr ge ↦ elim (cases_lt e q) [
        | inl past ↦ same q (inr past) ∙ (o.0 q lo hi).0
        | inr within ↦ absurd (clash q lo hi (free q ge within).0)
      ]
    ]

pub out-returned : (m : Cells) (fs : List (FrameSeen Frame OWord)) (h : Frame) (ws : List OWord)
    → newest_head fs ≡ Some h → h.base + length ws ≡ h.end + 1 → AreOut m fs
    → AreOut (put_back m h.base ws) (older fs)
out-returned m [] h ws e n o = tt
out-returned m (f ∷ fs) h ws e n o =
    let same : f.head ≡ h = cc in
    let free : (q : ℕ) → h.base ≤ q → q ≤ h.end → IsUnframed fs q =
    subst (λ x. (q : ℕ) → x.base ≤ q → q ≤ x.end → IsUnframed fs q) same (λ q lo hi. (o.0 q lo hi).1) in
    out-back m (put_back m h.base ws)
    h.base h.end fs
    (λ q a. put_back-other m h.base ws q
    (elim a [ inl lt ↦ inl lt | inr past ↦ inr (omega (arith, n, past)) ])) free o.1

-- what a return needs of the newest frame
pub newest-out : (m : Cells) (fs : List (FrameSeen Frame OWord)) (h : Frame) → newest_head fs ≡ Some h
    → AreOut m fs → (q : ℕ) → h.base ≤ q → q ≤ h.end → cell m q ≡ None
newest-out m [] h e o = cc
newest-out m (f ∷ fs) h e o = let same : f.head ≡ h =
    cc in subst (λ x. (q : ℕ) → x.base ≤ q → q ≤ x.end → cell m q ≡ None) same (λ q lo hi. (o.0 q lo hi).0)
