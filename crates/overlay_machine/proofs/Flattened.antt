-- Each overlay state stands for one plain state: its registers and cells are mapped, and the words of its
-- frames are cells beside.
use Rattle.std.proofs.Common.{◌≡◌, ℕ, ◌-◌, Bool, true, false, List, [], ◌∷◌, ◌++◌, map, Option, Some, None}
use Rattle.std.proofs.Common.{refl, sym, ap, ◌∙◌, ltb-true, ltb-false}
use Rattle.std.specs.Prelude.{cond, nat_lt, option_map, slice_get, if◌then◌else◌}
use Rattle.std.specs.Option.{option_or}
use Rattle.std.specs.Ordering.{nat_cmp, eq_by_cmp}
use Rattle.std.specs.Cmp.{nat_cmp_total}
use Rattle.std.specs.FinMap as finite
use Rattle.std.proofs.lemmas.Option.{slice_get-map}
use Rattle.cap_words.specs.declared.Word.{Word}
use Rattle.lcm_machine.specs.Maps.{State}
use Rattle.lcm_machine.specs.Cells.{cell, numbered_slots}
use Rattle.lcm_machine.specs.Mapped.{mapped_or}
use Rattle.lcm_machine.proofs.Offers.{held_in, find_below, find_slot, same_cells, same_regs}
use Rattle.trusted_border.specs.declared.layout.Layout.{Layout}
use Rattle.overlay_machine.specs.declared.words.OWord.{OWord}
use Rattle.overlay_machine.specs.State.{OpenFrame, OState, Cells, word_of, framed}
use Rattle.overlay_machine.specs.Copies.{mapped_regs}
use Rattle.overlay_machine.proofs.Mapping.{reg_mapped, found_mapped}
use Rattle.overlay_machine.specs.Flat.{flat, beside, IsFlat, StandsForOne}

-- one list of entries before another
found_behind : {V : Type 0} (es ds : List (ℕ × V)) (q : ℕ)
    → finite.find nat_cmp q (es ++ ds) ≡ option_or (finite.find nat_cmp q es) (finite.find nat_cmp q ds)
found_behind [] ds q = refl
found_behind {V} (e ∷ es) ds q = by_key (eq_by_cmp nat_cmp q e.0) (found_behind es ds q)
  where
    by_key : (b : Bool)
        → finite.find nat_cmp q (es ++ ds) ≡ option_or (finite.find nat_cmp q es) (finite.find nat_cmp q ds)
        → cond b (Some e.1)
        (finite.find nat_cmp q (es ++ ds)) ≡ option_or (cond b (Some e.1) (finite.find nat_cmp q es))
        (finite.find nat_cmp q ds)
    by_key true more = refl
    by_key false more = more

-- ---- the words of frames, mapped

module _ (f : OWord → Word) where
  frame_entries : OpenFrame → List (ℕ × Word)
  frame_entries x = numbered_slots x.base (map (λ w. Some (f w)) x.words)

  entries_of : List OpenFrame → List (ℕ × Word)
  entries_of [] = []
  entries_of (x ∷ xs) = frame_entries x ++ entries_of xs

  held_mapped : (o : Option OWord) → held_in (option_map (λ w. Some (f w)) o) ≡ option_map f o
  held_mapped None = refl
  held_mapped (Some w) = refl

  found_in_frame : (x : OpenFrame) (a : ℕ)
      → finite.find nat_cmp a (frame_entries x) ≡ option_map f (word_of x a)
  unfolding frame_entries word_of
  found_in_frame x a = by_side (nat_lt a x.base) refl
    where
      by_side : (b : Bool) → nat_lt a x.base ≡ b
          → finite.find nat_cmp a (numbered_slots x.base (map (λ w. Some (f w)) x.words))
          ≡ option_map f (if b then None else slice_get x.words (a - x.base))
      by_side true e = find_below x.base (map (λ w. Some (f w)) x.words) a (ltb-true a x.base e)
      by_side false e =
          find_slot x.base (map (λ w. Some (f w)) x.words) a (ltb-false a x.base e)
          ∙ ap held_in (slice_get-map (λ w. Some (f w)) x.words (a - x.base))
          ∙ held_mapped (slice_get x.words (a - x.base))

  either_mapped : (x y : Option OWord)
      → option_or (option_map f x) (option_map f y) ≡ option_map f (option_or x y)
  either_mapped None y = refl
  either_mapped (Some w) y = refl

  found_in_frames : (xs : List OpenFrame) (a : ℕ)
      → finite.find nat_cmp a (entries_of xs) ≡ option_map f (framed xs a)
  unfolding entries_of
  found_in_frames [] a = refl
  found_in_frames (x ∷ xs) a =
      found_behind (frame_entries x) (entries_of xs) a
      ∙ ap (λ o. option_or o (finite.find nat_cmp a (entries_of xs))) (found_in_frame x a)
      ∙ ap (option_or (option_map f (word_of x a))) (found_in_frames xs a)
      ∙ either_mapped (word_of x a) (framed xs a)

  -- ---- the whole state

  cells_with : Cells → List OpenFrame → finite.FinMap nat_cmp Word
  cells_with m xs = finite.from_entries (map (λ e. (e.0, f e.1)) (finite.entries m) ++ entries_of xs)

  beside_mapped : (x y : Option OWord)
      → option_or (option_map f x) (option_map f y) ≡ mapped_or f x (mapped_or f y None)
  beside_mapped None None = refl
  beside_mapped None (Some v) = refl
  beside_mapped (Some w) y = refl

  cells_are : (m : Cells) (xs : List OpenFrame) (a : ℕ)
      → cell (cells_with m xs) a ≡ mapped_or f (cell m a) (mapped_or f (framed xs a) None)
  unfolding cell cells_with
  cells_are m xs a =
      finite.get-from_entries nat_cmp_total (map (λ e. (e.0, f e.1)) (finite.entries m) ++ entries_of xs) a
      ∙ found_behind (map (λ e. (e.0, f e.1)) (finite.entries m)) (entries_of xs) a
      ∙ ap (λ o. option_or o (finite.find nat_cmp a (entries_of xs)))
      (found_mapped f (finite.entries m) a ∙ ap (option_map f) (sym (finite.get-entries m a)))
      ∙ ap (option_or (option_map f (finite.get m a))) (found_in_frames xs a)
      ∙ beside_mapped (finite.get m a) (framed xs a)

flattened : (l : Layout) (o : OState) → State Word
flattened l o = record {
  regs = mapped_regs (flat l o.frames) o.maps.regs;
  cells = cells_with (flat l o.frames) o.maps.cells o.frames;
  spans = o.maps.spans;
}

is_flat : (l : Layout) (o : OState) → IsFlat l o (flattened l o)
unfolding flattened beside
is_flat l o = record {
  regs = reg_mapped (flat l o.frames) o.maps.regs;
  cells = cells_are (flat l o.frames) o.maps.cells o.frames;
  spans = refl;
}

pub only_flat : (l : Layout) (o : OState) (t u : State Word) → IsFlat l o t → IsFlat l o u → u ≡ t
only_flat l o t u h k =
    let regs = same_regs u.regs t.regs (λ r. k.regs r ∙ sym (h.regs r)) in
    let cells = same_cells u.cells t.cells (λ a. k.cells a ∙ sym (h.cells a)) in
    let spans = k.spans ∙ sym h.spans in
    λ i. record { regs = regs i; cells = cells i; spans = spans i }

pub stands_for_one : (l : Layout) (o : OState) → StandsForOne l o
stands_for_one l o = (flattened l o, is_flat l o, λ u k. only_flat l o (flattened l o) u (is_flat l o) k)
