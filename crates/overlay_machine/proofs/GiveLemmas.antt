-- The loop that puts cells in.
use Rattle.std.proofs.Common.{◌≡◌, ◌≢◌, ◌≤◌, ◌<◌, ℕ, zero, suc, ◌+◌, ◌-◌, List, [], ◌∷◌, ◌++◌, length, refl}
use Rattle.std.proofs.Common.{sym, ap, subst, ◌∙◌, arith, Some, None, inl, inr}
use Rattle.std.proofs.lemmas.List.{length-append}
use Rattle.std.proofs.lemmas.Bool.{cases_eq}
use Rattle.lcm_machine.specs.Maps.{State}
use Rattle.lcm_machine.specs.Cells.{cell, set_cell, put_back}
use Rattle.lcm_machine.proofs.Offers.{cell-set_other, cell-set_same, same_cells}
use Rattle.frame_region.specs.Frames.{FrameSeen, RegionSeen, with_item, HasNewestItem}
use Rattle.overlay_machine.specs.declared.words.OWord.{OWord}
use Rattle.overlay_machine.specs.State.{Cells}
use Rattle.overlay_machine.specs.Step.{first_word, rest_words}
use Rattle.overlay_machine.specs.declared.frames.Frame.{Frame}
use Rattle.overlay_machine.specs.Moves.{newest_items, set_items}

-- what is left to give gives what there was to give
pub record Giving (maps : State OWord) (region : RegionSeen Frame OWord) (base n : ℕ) (maps' : State OWord)
    (region' : RegionSeen Frame OWord) (left : ℕ) : Type 0 where
  pub count : length (newest_items region'.frames) ≡ left + 1
  pub first : first_word (newest_items region'.frames) ≡ first_word (newest_items region.frames)
  pub cells : put_back maps'.cells base (rest_words (newest_items region'.frames))
      ≡ put_back maps.cells base (rest_words (newest_items region.frames))
  pub others : record maps' { cells = maps.cells } ≡ maps
  pub frames : set_items region'.frames [] ≡ set_items region.frames []
  pub region_cells : region'.cells ≡ region.cells
  pub below : left ≤ n
  pub none : (q : ℕ) → base ≤ q → q < base + left → cell maps'.cells q ≡ None

-- two cells are set in either order
set-swap : (m : Cells) (a b : ℕ) (v w : OWord) → a ≢ b
    → set_cell (set_cell m a v) b w ≡ set_cell (set_cell m b w) a v
set-swap m a b v w ne = same_cells _ _ (λ q. elim (cases_eq q a) [
  | inl at ↦ (let nb : q ≢ b = (λ e. ne (sym at ∙ e)) in
      cell-set_other (set_cell m a v) b q w nb
      ∙ subst (λ k. cell (set_cell m a v) k ≡ Some v) (sym at) (cell-set_same m a v)
      ∙ sym (subst (λ k. cell (set_cell (set_cell m b w) a v) k ≡ Some v) (sym at)
      (cell-set_same (set_cell m b w) a v)))
  | inr na ↦ elim (cases_eq q b) [
    | inl bt ↦ subst (λ k. cell (set_cell (set_cell m a v) b w) k ≡ Some w) (sym bt)
        (cell-set_same (set_cell m a v) b w)
        ∙ sym (cell-set_other (set_cell m b w) a q v na
        ∙ subst (λ k. cell (set_cell m b w) k ≡ Some w) (sym bt) (cell-set_same m b w))
    | inr nb ↦ cell-set_other (set_cell m a v) b q w nb ∙ cell-set_other m a q v na
        ∙ sym (cell-set_other (set_cell m b w) a q v na ∙ cell-set_other m b q w nb)
  ]
])

-- the last word first
pub put_back-last : (m : Cells) (a : ℕ) (ws : List OWord) (w : OWord)
    → put_back m a (ws ++ w ∷ []) ≡ put_back (set_cell m (a + length ws) w) a ws
unfolding put_back
put_back-last m a [] w = let e : a ≡ a + 0 = omega arith in ap (λ k. set_cell m k w) e
put_back-last m a (v ∷ ws) w =
    let e : a + 1 + length ws ≡ a + suc (length ws) = omega arith in
    put_back-last (set_cell m a v) (a + 1) ws w
    ∙ ap (λ k. put_back (set_cell (set_cell m a v) k w) (a + 1) ws) e
    ∙ ap (λ c. put_back c (a + 1) ws) (set-swap m a (a + suc (length ws)) v w (omega arith))

put_back-none : (m : Cells) (a : ℕ) → put_back m a [] ≡ m
unfolding put_back
put_back-none m a = refl

pub giving-start : (maps : State OWord) (region : RegionSeen Frame OWord) (base n : ℕ)
    → length (newest_items region.frames) ≡ n + 1
    → ((q : ℕ) → base ≤ q → q < base + n → cell maps.cells q ≡ None) → Giving maps region base n maps region n
giving-start maps region base n c none =
    record {
      none = none;
      count = c;
      first = refl;
      cells = refl;
      others = refl;
      frames = refl;
      region_cells =
          refl;
      below = omega arith;
    }

some-items : (fs : List (FrameSeen Frame OWord)) (k : ℕ) → length (newest_items fs) ≡ k + 1 → HasNewestItem fs
some-items [] k c = absurd (let e : 0 ≡ k + 1 = c in omega (arith, e))
some-items (f ∷ fs) k c = omega (arith, c)

pub giving-some : (maps maps' : State OWord) (region region' : RegionSeen Frame OWord) (base n left : ℕ)
    → Giving maps region base n maps' region' left → HasNewestItem region'.frames
giving-some maps maps' region region' base n left g = some-items region'.frames left g.count

pub giving-spans : (maps maps' : State OWord) (region region' : RegionSeen Frame OWord) (base n left : ℕ)
    → Giving maps region base n maps' region' left → maps'.spans ≡ maps.spans
giving-spans maps maps' region region' base n left g = ap (λ s. s.spans) g.others

-- the pieces of a step
pub record Popped (fs fs' : List (FrameSeen Frame OWord)) (k : ℕ) (w : OWord) : Type 0 where
  pub count : length (newest_items fs') ≡ k + 1
  pub first : first_word (newest_items fs') ≡ first_word (newest_items fs)
  pub rest : rest_words (newest_items fs) ≡ rest_words (newest_items fs') ++ w ∷ []
  pub long : length (rest_words (newest_items fs')) ≡ k
  pub frames : set_items fs' [] ≡ set_items fs []

popped-items : (h : Frame) (n : ℕ) (is : List OWord) (fs : List (FrameSeen Frame OWord)) (k : ℕ) (w : OWord)
    → length (is ++ w ∷ []) ≡ suc k + 1
    → Popped (record { head = h; size = n; items = is ++ w ∷ [] } ∷ fs)
    (record { head = h; size = n; items = is } ∷ fs) k w
popped-items h n [] fs k w c = absurd (let e : 1 ≡ suc k + 1 = c in omega (arith, e))
popped-items h n (x ∷ is) fs k w c =
    let l = length-append is (w ∷ []) in
    let e : suc (length (is ++ w ∷ [])) ≡ suc k + 1 = c in
    record {
      count = omega (arith, l, e);
      first = refl;
      rest = refl;
      long = omega (arith, l, e);
      frames =
          refl;
    }

popped-frames : (fs : List (FrameSeen Frame OWord)) (k : ℕ) (w : OWord)
    → length (newest_items (with_item fs w)) ≡ suc k + 1 → Popped (with_item fs w) fs k w
popped-frames [] k w c = absurd (let e : 0 ≡ suc k + 1 = c in omega (arith, e))
popped-frames (f ∷ fs) k w c = popped-items f.head f.size f.items fs k w c

giving-suc : (maps maps' : State OWord) (region region' : RegionSeen Frame OWord) (base n k : ℕ) (w : OWord)
    → Giving maps region base n maps' (record region' { frames = with_item region'.frames w }) (suc k)
    → Giving maps region base n (record maps' { cells = set_cell maps'.cells (base + k) w }) region' k
giving-suc maps maps' region region' base n k w g =
    let p = popped-frames region'.frames k w g.count in
    let b = g.below in
    record {
      count = p.count;
      first = p.first ∙ g.first;
      cells = ap
          (λ j. put_back (set_cell maps'.cells (base + j) w) base (rest_words (newest_items region'.frames)))
          (sym p.long)
          ∙ sym (put_back-last maps'.cells base (rest_words (newest_items region'.frames)) w)
          ∙ ap (put_back maps'.cells base) (sym p.rest) ∙ g.cells;
      others = g.others;
      frames = p.frames ∙ g.frames;
      region_cells = g.region_cells;
      below = omega (arith, b);
      none = λ q lo hi. cell-set_other maps'.cells (base + k)
          q w (let ne : q ≢ base + k = omega (arith, hi) in ne) ∙ g.none q lo (omega (arith, hi));
    }

pub giving-step : (maps maps' maps'' : State OWord) (region region' region'' : RegionSeen Frame OWord)
    (base n left : ℕ) (w : OWord)
    → Giving maps region base n maps' region' left → 0 < left
    → region' ≡ record region'' { frames = with_item region''.frames w }
    → maps'' ≡ record maps' { cells = set_cell maps'.cells (base + (left - 1)) w }
    → Giving maps region base n maps'' region'' (left - 1)
giving-step maps maps' maps'' region region' region'' base n zero w g h s m = absurd (omega (arith, h))
giving-step maps maps' maps'' region region' region'' base n (suc k) w g h s m =
    let d : suc k - 1 ≡ k = omega arith in
    let g1 = subst (λ z. Giving maps region base n maps' z (suc k)) s g in
    let r = giving-suc maps maps' region region'' base n k w g1 in
    let m1 = m ∙ ap (λ j. record maps' { cells = set_cell maps'.cells (base + j) w }) d in
    subst (λ j. Giving maps region base n maps'' region'' j) (sym d)
    (subst (λ z. Giving maps region base n z region'' k) (sym m1) r)

one-item : (is : List OWord) → length is ≡ 1 → is ≡ first_word is ∷ []
one-item [] c = absurd (let e : 0 ≡ 1 = c in omega (arith, e))
one-item (x ∷ []) c = refl
one-item (x ∷ y ∷ is) c = absurd (let e : suc (suc (length is)) ≡ 1 = c in omega (arith, e))

items-back : (fs : List (FrameSeen Frame OWord)) → set_items (set_items fs []) (newest_items fs) ≡ fs
items-back [] = refl
items-back (f ∷ fs) = refl

items-over : (fs : List (FrameSeen Frame OWord)) (is : List OWord)
    → set_items (set_items fs []) is ≡ set_items fs is
items-over [] is = refl
items-over (f ∷ fs) is = refl

no-rest : (is : List OWord) → length is ≡ 1 → rest_words is ≡ []
no-rest is c = ap rest_words (one-item is c)

pub giving-end : (maps maps' : State OWord) (region region' : RegionSeen Frame OWord) (base n left : ℕ)
    → Giving maps region base n maps' region' left → left ≡ 0
    → (maps' ≡ record maps { cells = put_back maps.cells base (rest_words (newest_items region.frames)) })
    × (region'
    ≡ record region { frames = set_items region.frames (first_word (newest_items region.frames) ∷ []) })
giving-end maps maps' region region' base n left g z =
    let one : length (newest_items region'.frames) ≡ 1 = (let c = g.count in omega (arith, c, z)) in
    let c = sym (put_back-none maps'.cells base)
    ∙ ap (put_back maps'.cells base) (sym (no-rest (newest_items region'.frames) one)) ∙ g.cells in
    let fs = sym (items-back region'.frames) ∙ ap (λ x. set_items x (newest_items region'.frames)) g.frames
    ∙ items-over region.frames (newest_items region'.frames)
    ∙ ap (set_items region.frames) (one-item (newest_items region'.frames) one ∙ ap (λ w. w ∷ []) g.first) in
    let made : ℕ → RegionSeen Frame OWord =
    λ k. record
    { frames = set_items region.frames (first_word (newest_items region.frames) ∷ []); cells = k } in (
      ap (λ m. record maps' { cells = m }) c
          ∙ (let over : State OWord → State OWord =
          λ s. record s { cells = put_back maps.cells base (rest_words (newest_items region.frames)) } in
          ap over g.others),
      ap (λ x. record region' { frames = x }) fs ∙ ap made g.region_cells,
    )

pub giving-none : (maps maps' : State OWord) (region region' : RegionSeen Frame OWord) (base n left : ℕ)
    → Giving maps region base n maps' region' left → 0 < left → cell maps'.cells (base + (left - 1)) ≡ None
giving-none maps maps' region region' base n left g h =
    g.none (base + (left - 1)) (omega arith) (omega (arith, h))
