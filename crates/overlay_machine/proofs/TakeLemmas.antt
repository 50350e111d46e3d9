-- The loop that takes cells out.
use Rattle.std.proofs.Common.{◌≡◌, ◌<◌, ℕ, zero, suc, ◌+◌, ◌-◌, List, [], ◌∷◌, refl, sym, ap, subst, ◌∙◌}
use Rattle.std.proofs.Common.{arith, Some, IsSome, IsTrue}
use Rattle.std.proofs.lemmas.List.{append-nil, length-append, append_assoc}
use Rattle.lcm_machine.specs.Maps.{State}
use Rattle.lcm_machine.specs.Cells.{cell, drop_cell, all_there, words_from}
use Rattle.frame_region.specs.Frames.{FrameSeen, RegionSeen, with_item, IsNewestOpen}
use Rattle.overlay_machine.specs.declared.words.OWord.TheVariants.{Plain}
use Rattle.overlay_machine.specs.declared.words.OWord.{OWord}
use Rattle.overlay_machine.specs.declared.frames.Frame.{Frame}
use Rattle.overlay_machine.specs.Moves.{with_items, HasRoom, dropped}
use Rattle.overlay_machine.proofs.CellLemmas.{dropped-first, dropped-none}
use Rattle.lcm_machine.proofs.Offers.{there-first, words-first, words-none, all_there-drop, words_from-drop}

-- what is left to take gives what there was to take
pub record Taking (maps : State OWord) (region : RegionSeen Frame OWord) (from n : ℕ) (maps' : State OWord)
    (region' : RegionSeen Frame OWord) (at left : ℕ) : Type 0 where
  pub place : at + left ≡ from + n
  pub there : IsTrue (all_there maps'.cells at left)
  pub room : HasRoom region'.frames left
  pub cells : dropped maps'.cells at left ≡ dropped maps.cells from n
  pub others : record maps' { cells = maps.cells } ≡ maps
  pub words : with_items region'.frames (words_from Plain maps'.cells at left)
      ≡ with_items region.frames (words_from Plain maps.cells from n)
  pub region_cells : region'.cells ≡ region.cells

pub taking-start : (maps : State OWord) (region : RegionSeen Frame OWord) (from n : ℕ)
    → IsTrue (all_there maps.cells from n) → HasRoom region.frames n
    → Taking maps region from n maps region from n
taking-start maps region from n t r =
    record {
      place = refl;
      there = t;
      room = r;
      cells = refl;
      others = refl;
      words = refl;
      region_cells =
          refl;
    }

room-open : (fs : List (FrameSeen Frame OWord)) (n : ℕ) → HasRoom fs (suc n) → IsNewestOpen fs
room-open [] n h = h
room-open (f ∷ fs) n h = omega (arith, h)

room-item : (fs : List (FrameSeen Frame OWord)) (n : ℕ) (w : OWord) → HasRoom fs (suc n)
    → HasRoom (with_item fs w) n
room-item [] n w h = h
room-item (f ∷ fs) n w h = let l = length-append f.items (w ∷ []) in omega (arith, h, l)

items-item : (fs : List (FrameSeen Frame OWord)) (w : OWord) (ws : List OWord)
    → with_items (with_item fs w) ws ≡ with_items fs (w ∷ ws)
items-item [] w ws = refl
items-item (f ∷ fs) w ws = ap (λ is. record f { items = is } ∷ fs) (append_assoc f.items (w ∷ []) ws)

pub taking-there : (maps maps' : State OWord) (region region' : RegionSeen Frame OWord) (from n at left : ℕ)
    → Taking maps region from n maps' region' at left → 0 < left → IsSome (cell maps'.cells at)
taking-there maps maps' region region' from n at zero t h = absurd (omega (arith, h))
taking-there maps maps' region region' from n at (suc k) t h = (there-first maps'.cells at k t.there).0

pub taking-open : (maps maps' : State OWord) (region region' : RegionSeen Frame OWord) (from n at left : ℕ)
    → Taking maps region from n maps' region' at left → 0 < left → IsNewestOpen region'.frames
taking-open maps maps' region region' from n at zero t h = absurd (omega (arith, h))
taking-open maps maps' region region' from n at (suc k) t h = room-open region'.frames k t.room

taking-suc : (maps maps' : State OWord) (region region' : RegionSeen Frame OWord) (from n at k : ℕ)
    (w : OWord)
    → Taking maps region from n maps' region' at (suc k) → cell maps'.cells at ≡ Some w
    → Taking maps region from n (record maps' { cells = drop_cell maps'.cells at })
    (record region' { frames = with_item region'.frames w }) (at + 1) k
taking-suc maps maps' region region' from n at k w t e = record {
  place = (let p = t.place in omega (arith, p));
  there = subst IsTrue (sym (all_there-drop maps'.cells at (at + 1) k (omega arith)))
      (there-first maps'.cells at k t.there).1;
  room = room-item region'.frames k w t.room;
  cells = sym (dropped-first maps'.cells at k) ∙ t.cells;
  others = t.others;
  words = items-item region'.frames w (words_from Plain (drop_cell maps'.cells at) (at + 1) k)
      ∙ ap (λ ws. with_items region'.frames (w ∷ ws))
      (words_from-drop Plain maps'.cells at (at + 1) k (omega arith))
      ∙ ap (with_items region'.frames) (sym (words-first Plain maps'.cells at k w e)) ∙ t.words;
  region_cells = t.region_cells;
}

pub taking-step : (maps maps' maps'' : State OWord) (region region' region'' : RegionSeen Frame OWord)
    (from n at left : ℕ) (w : OWord)
    → Taking maps region from n maps' region' at left → 0 < left → cell maps'.cells at ≡ Some w
    → maps'' ≡ record maps' { cells = drop_cell maps'.cells at }
    → region'' ≡ record region' { frames = with_item region'.frames w }
    → Taking maps region from n maps'' region'' (at + 1) (left - 1)
taking-step maps maps' maps'' region region' region'' from n at zero w t h e m s = absurd (omega (arith, h))
taking-step maps maps' maps'' region region' region'' from n at (suc k) w t h e m s =
    let d : suc k - 1 ≡ k = omega arith in
    rw (m, s, d) (taking-suc maps maps' region region' from n at k w t e)

items-none : (fs : List (FrameSeen Frame OWord)) → with_items fs [] ≡ fs
items-none [] = refl
items-none (f ∷ fs) = ap (λ is. record f { items = is } ∷ fs) (append-nil f.items)

pub taking-end : (maps maps' : State OWord) (region region' : RegionSeen Frame OWord) (from n at left : ℕ)
    → Taking maps region from n maps' region' at left → left ≡ 0
    → (maps' ≡ record maps { cells = dropped maps.cells from n })
    × (region' ≡ record region { frames = with_items region.frames (words_from Plain maps.cells from n) })
taking-end maps maps' region region' from n at left t z =
    let t0 : Taking maps region from n maps' region' at 0 =
    subst (λ k. Taking maps region from n maps' region' at k) z t in
    let c = sym (dropped-none maps'.cells at) ∙ t0.cells in
    let o : record maps' { cells = maps.cells } ≡ maps = t0.others in
    let ws = sym (items-none region'.frames)
    ∙ ap (with_items region'.frames) (sym (words-none Plain maps'.cells at)) ∙ t0.words in (
      ap (λ m. record maps' { cells = m }) c
          ∙ (let over : State OWord → State OWord =
          λ s. record s { cells = dropped maps.cells from n } in ap over o),
      ap (λ fs. record region' { frames = fs }) ws
          ∙ (let made : ℕ → RegionSeen Frame OWord =
          λ k. record { frames = with_items region.frames (words_from Plain maps.cells from n); cells = k } in
          ap made t0.region_cells),
    )
