-- That no address is held twice in the plain state, told by a count over the overlay.
use Rattle.std.proofs.Common.{◌≡◌, ◌⊎◌, inl, inr, ℕ, zero, suc, ◌+◌, ◌<◌, ◌≤◌, true, List, [], ◌∷◌, ◌++◌}
use Rattle.std.proofs.Common.{length, Option, Some, None, refl, sym, ap, ◌∙◌, subst, arith}
use Rattle.std.specs.List.{Contains, count_by}
use Rattle.std.proofs.lemmas.Bool.{cases_eq}
use Rattle.std.proofs.lemmas.List.Elements.{Contains-append_left, Contains-append_right}
use Rattle.cap_words.specs.declared.Word.{Word}
use Rattle.lcm_machine.specs.declared.Place.{Place}
use Rattle.lcm_machine.specs.declared.Place.TheVariants.{R, Cell}
use Rattle.lcm_machine.specs.Maps.{State}
use Rattle.lcm_machine.specs.Cells.{cell}
use Rattle.lcm_machine.specs.Row.{word_at}
use Rattle.lcm_machine.specs.Mapped.{mapped_or}
use Rattle.lcm_machine.specs.Regions.{Region, IsLinearAt, memory_of, is_over, word_over, CoveredOnce}
use Rattle.lcm_machine.specs.Counts.{places, cover_count}
use Rattle.lcm_machine.proofs.Offers.{contains_cases, contains_none, count_some, counted, once_counts}
use Rattle.lcm_machine.proofs.Offers.{counts_once, has_place, covered_counts}
use Rattle.trusted_border.specs.declared.layout.Layout.{Layout}
use Rattle.overlay_machine.specs.declared.words.OWord.{OWord}
use Rattle.overlay_machine.specs.State.{OpenFrame, OState, Cells, framed}
use Rattle.overlay_machine.specs.Flat.{flat, beside, IsFlat}
use Rattle.overlay_machine.specs.Invariant.{LiesBelow, FramesLie}
use Rattle.overlay_machine.specs.Cover.{addresses, framed_addresses, cover, CoverIsOnce}
use Rattle.overlay_machine.proofs.FlatLemmas.{cell-flat}
use Rattle.overlay_machine.proofs.invariant.FrameFacts.{framed_by, word_in_frame, lies_of}

-- ---- the addresses of frames ascend

abbrev Rises : ℕ → List ℕ → Type 0
Rises n [] = Unit {0}
Rises n (x ∷ xs) = (n ≤ x) × Rises (x + 1) xs

lower : (n k : ℕ) (xs : List ℕ) → n ≤ k → Rises k xs → Rises n xs
lower n k [] le h = tt
lower n k (x ∷ xs) le h = (let a = h.0 in omega (arith, le, a), h.1)

addresses_rise : (a n : ℕ) (xs : List ℕ) → Rises (a + n) xs → Rises a (addresses a n ++ xs)
addresses_rise a zero xs h = lower a (a + 0) xs (omega arith) h
addresses_rise a (suc n) xs h =
    (omega arith, addresses_rise (a + 1) n xs (lower (a + 1 + n) (a + suc n) xs (omega arith) h))

-- frames from an address on
abbrev StartFrom : ℕ → List OpenFrame → Type 0
StartFrom b [] = Unit {0}
StartFrom b (f ∷ fs) = b ≤ f.base

frames_rise : (l : Layout) (m : Cells) (n b : ℕ) (fs : List OpenFrame) → FramesLie l m n fs → StartFrom b fs
    → Rises b (framed_addresses fs)
frames_rise l m n b [] h low = tt
frames_rise l m n b (f ∷ fs) h low =
    lower b f.base (addresses f.base (length f.words) ++ framed_addresses fs) low
    (addresses_rise f.base (length f.words) (framed_addresses fs)
    (frames_rise l m f.call (f.base + length f.words) fs h.3 (next fs h.2)))
  where
    next : (gs : List OpenFrame) → LiesBelow f gs → StartFrom (f.base + length f.words) gs
    next [] k = tt
    next (g ∷ gs) k = let w = (h.0).words in omega (arith, w, k)

in_addresses : (a n b : ℕ) → a ≤ b → b < a + n → Contains (addresses a n) b
in_addresses a zero b low high = absurd (omega (arith, low, high))
in_addresses a (suc n) b low high = elim (cases_eq b a) as (λ _. Contains (addresses a (suc n)) b) [
  | inl e ↦ (0, omega arith, sym e)
  | inr ne ↦
      (let k = in_addresses (a + 1) n b (omega (arith, low, ne)) (omega (arith, high)) in
      (suc k.0, (let lt = k.1 in omega (arith, lt)), k.2))
]

in_framed : (fs : List OpenFrame) (f : OpenFrame) (b : ℕ) → Contains fs f → f.base ≤ b
    → b < f.base + length f.words → Contains (framed_addresses fs) b
in_framed [] f b m low high = absurd (contains_none f m)
in_framed (g ∷ gs) f b m low high =
    elim (contains_cases g gs f m) as (λ _. Contains (framed_addresses (g ∷ gs)) b) [
      | inl e ↦
          Contains-append_left (addresses g.base (length g.words)) (framed_addresses gs)
          b (subst (λ h. Contains (addresses h.base (length h.words)) b) (sym e)
          (in_addresses f.base (length f.words) b low high))
      | inr k ↦ Contains-append_right (addresses g.base (length g.words)) (framed_addresses gs)
          b (in_framed gs f b k low high)
    ]

-- ---- places of the plain state

module _ (l : Layout) (o : OState) (t : State Word) (m : IsFlat l o t)
    (lies : FramesLie l o.maps.cells o.calls o.frames) (rs : List Region) where
  abbrev fs : List OpenFrame
  fs = o.frames

  -- an address of a frame
  record Framed (b : ℕ) (w : OWord) : Type 0 where
    listed : Contains (framed_addresses fs) b
    gone : cell o.maps.cells b ≡ None

  framed_is : (b : ℕ) (w : OWord) → framed fs b ≡ Some w → Framed b w
  framed_is b w e =
      let h = framed_by fs b w e in
      let s = lies_of l o.maps.cells o.calls fs h.0 lies h.1 in
      let r = word_in_frame l o.maps.cells h.0 b w s h.2 in
      let high = r.1 in
      record {
        listed = in_framed fs h.0 b h.1 r.0 (let k = s.words in omega (arith, k, high));
        gone =
            s.gone b r.0 r.1;
      }

  abbrev OverCell : Place → ℕ → Type 0
  OverCell p a = word_over (flat l fs) (word_at o.maps p) a ≡ true

  abbrev OverFrame : ℕ → ℕ → Type 0
  OverFrame b a = word_over (flat l fs) (framed fs b) a ≡ true

  abbrev Over : Place → ℕ → Type 0
  Over p a = word_over (λ w. w) (word_at t p) a ≡ true

  none_over : (a : ℕ) → word_over (flat l fs) None a ≡ true → ⊥
  none_over a h = cc

  cell_over : (p : Place) (a : ℕ) → OverCell p a → Over p a
  cell_over (R r) a h = ap (λ w. is_over (memory_of w) a) (m.regs r) ∙ h
  cell_over (Cell b) a h = by_cell (cell o.maps.cells b) refl h
    where
      by_cell : (x : Option OWord) → cell o.maps.cells b ≡ x → word_over (flat l fs) x a ≡ true
          → Over (Cell b) a
      by_cell None e h = absurd (none_over a h)
      by_cell (Some w) e h = ap (λ x. word_over (λ w. w) x a) (cell-flat l o t b w m e) ∙ h

  frame_flat : (b : ℕ) (w : OWord) → framed fs b ≡ Some w → word_at t (Cell b) ≡ Some (flat l fs w)
  unfolding beside
  frame_flat b w e = m.cells b ∙ ap (λ x. mapped_or (flat l fs) x (beside l fs b)) (framed_is b w e).gone
      ∙ ap (λ x. mapped_or (flat l fs) x None) e

  frame_over : (b a : ℕ) → OverFrame b a → Over (Cell b) a
  frame_over b a h = by_word (framed fs b) refl h
    where
      by_word : (x : Option OWord) → framed fs b ≡ x → word_over (flat l fs) x a ≡ true → Over (Cell b) a
      by_word None e h = absurd (none_over a h)
      by_word (Some w) e h = ap (λ x. word_over (λ w. w) x a) (frame_flat b w e) ∙ h

  no_cell : (b a : ℕ) → OverFrame b a → OverCell (Cell b) a → ⊥
  no_cell b a h k = by_word (framed fs b) refl h
    where
      by_word : (x : Option OWord) → framed fs b ≡ x → word_over (flat l fs) x a ≡ true → ⊥
      by_word None e h = none_over a h
      by_word (Some w) e h =
          none_over a (sym (ap (λ x. word_over (flat l fs) x a) (framed_is b w e).gone) ∙ k)

  -- a place of the plain state that is over an address is one of the overlay's, or an address of a frame
  abbrev InFrame : Place → ℕ → Type 0
  InFrame p a = (b : ℕ) × (p ≡ Cell b) × Contains (framed_addresses fs) b × OverFrame b a

  which : (p : Place) (a : ℕ) → Over p a → OverCell p a ⊎ InFrame p a
  unfolding beside
  which (R r) a h = inl (ap (λ w. is_over (memory_of w) a) (sym (m.regs r)) ∙ h)
  which (Cell b) a h =
      by_cell (cell o.maps.cells b) refl (framed fs b)
      refl (sym (ap (λ x. word_over (λ w. w) x a) (m.cells b)) ∙ h)
    where
      by_cell : (x : Option OWord) → cell o.maps.cells b ≡ x → (y : Option OWord) → framed fs b ≡ y
          → word_over (λ w. w) (mapped_or (flat l fs) x (mapped_or (flat l fs) y None)) a ≡ true
          → OverCell (Cell b) a ⊎ InFrame (Cell b) a
      by_cell (Some w) e y f k = inl (ap (λ x. word_over (flat l fs) x a) e ∙ k)
      by_cell None e (Some w) f k =
          inr (b, refl, (framed_is b w f).listed, ap (λ x. word_over (flat l fs) x a) f ∙ k)
      by_cell None e None f k = cc

  -- ---- both counts

  abbrev Cells1 : ℕ → ℕ
  Cells1 a = cover_count (flat l fs) o.maps a

  abbrev Frames1 : ℕ → ℕ
  Frames1 a = count_by (λ b. word_over (flat l fs) (framed fs b) a) (framed_addresses fs)

  rises : Rises 0 (framed_addresses fs)
  rises = frames_rise l o.maps.cells o.calls 0 fs lies (from fs)
    where
      from : (gs : List OpenFrame) → StartFrom 0 gs
      from [] = tt
      from (g ∷ gs) = omega arith

  cells_counted : (a : ℕ) → ((p : Place) × OverCell p a) ⊎ (Cells1 a ≡ 0)
  unfolding cover_count
  cells_counted a =
      elim (counted (λ p. 0) (λ p. word_over (flat l fs) (word_at o.maps p) a) (places o.maps))
      as (λ _. ((p : Place) × OverCell p a) ⊎ (Cells1 a ≡ 0)) [ inl h ↦ inl (h.0, h.2) | inr n ↦ inr n ]

  cell_counts : (p : Place) (a : ℕ) → OverCell p a → 1 ≤ Cells1 a
  unfolding cover_count
  cell_counts p a h = count_some (λ q. 0) (λ q. word_over (flat l fs) (word_at o.maps q) a) (places o.maps)
      p (has_place (flat l fs) o.maps a p h) h

  module _ (once : CoveredOnce (λ w. w) rs t) where
    cells_once : (a : ℕ) → IsLinearAt rs a → Cells1 a ≤ 1
    cells_once a h =
        (covered_counts (flat l fs) rs o.maps).0
        (λ b k p q x y. once b k p q (cell_over p b x) (cell_over q b y)) a h

    frames_once : (a : ℕ) → IsLinearAt rs a → Frames1 a ≤ 1
    frames_once a h =
        once_counts (λ x. x) (λ b. word_over (flat l fs) (framed fs b) a) 0 (framed_addresses fs)
        rises (λ b c mb mc x y. same b c (once a h (Cell b) (Cell c) (frame_over b a x) (frame_over c a y)))
      where
        same : (b c : ℕ) → Cell b ≡ Cell c → b ≡ c
        same b c e = cc

    pub cover_once : (a : ℕ) → IsLinearAt rs a → cover l o a ≤ 1
    unfolding cover
    cover_once a h =
        let x = cells_once a h in
        let y = frames_once a h in
        elim (cells_counted a) as (λ _. Cells1 a + Frames1 a ≤ 1) [
          | inr n ↦ omega (arith, n, y)
          | inl p ↦
              elim (counted (λ b. b) (λ b. word_over (flat l fs) (framed fs b) a) (framed_addresses fs))
              as (λ _. Cells1 a + Frames1 a ≤ 1) [
                | inr n ↦ omega (arith, n, x)
                | inl b ↦
                    absurd (no_cell b.0 a b.2
                    (subst (λ q. OverCell q a)
                    (once a h p.0 (Cell b.0) (cell_over p.0 a p.1) (frame_over b.0 a b.2)) p.1))
              ]
        ]

  module _ (once : (a : ℕ) → IsLinearAt rs a → cover l o a ≤ 1) where
    parts : (a : ℕ) → IsLinearAt rs a → Cells1 a + Frames1 a ≤ 1
    unfolding cover
    parts a h = once a h

    mixed : (a : ℕ) → IsLinearAt rs a → (p q : Place) → OverCell p a → InFrame q a → ⊥
    mixed a h p q x y =
        let n = parts a h in
        let k = cell_counts p a x in
        let j = count_some (λ b. b) (λ b. word_over (flat l fs) (framed fs b) a) (framed_addresses fs)
        y.0 y.2 y.3 in
        omega (arith, n, k, j)

    pub once_of_cover : CoveredOnce (λ w. w) rs t
    once_of_cover a h p q x y = elim (which p a x) as (λ _. p ≡ q) [
      | inl c ↦ elim (which q a y) as (λ _. p ≡ q) [
        | inl d ↦ (covered_counts (flat l fs) rs o.maps).1 (λ b k. (let n = parts b k in omega (arith, n)))
            a h p q c d
        | inr d ↦ absurd (mixed a h p q c d)
      ]
      | inr c ↦ elim (which q a y) as (λ _. p ≡ q) [
        | inl d ↦ absurd (mixed a h q p d c)
        | inr d ↦
            c.1 ∙ ap Cell
            (counts_once (λ x. x) (λ b. word_over (flat l fs) (framed fs b) a) (framed_addresses fs)
            (let n = parts a h in omega (arith, n)) c.0 d.0 c.2 d.2 c.3 d.3) ∙ sym d.1
      ]
    ]

pub cover_is_once : CoverIsOnce
cover_is_once rs l o t m lies = (cover_once l o t m lies rs, once_of_cover l o t m lies rs)
