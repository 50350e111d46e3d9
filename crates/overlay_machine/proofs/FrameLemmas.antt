-- A frame opened and closed.
use Rattle.std.proofs.Common.{◌≡◌, ◌≤◌, ℕ, suc, ◌+◌, ◌-◌, List, [], ◌∷◌, ◌++◌, length, sym, ap, subst, ◌∙◌}
use Rattle.std.proofs.Common.{arith, IsSome, IsTrue}
use Rattle.std.proofs.lemmas.List.{length-append}
use Rattle.cap_words.specs.Linear.{zero_word}
use Rattle.lcm_machine.specs.Maps.{State}
use Rattle.lcm_machine.specs.Cells.{cell, set_cell, drop_cell, put_back, all_there, words_from, without}
use Rattle.frame_region.specs.Frames.{FrameSeen, RegionSeen, with_item}
use Rattle.overlay_machine.specs.declared.words.OWord.{OWord}
use Rattle.overlay_machine.specs.declared.words.OWord.TheVariants.{Plain}
use Rattle.overlay_machine.specs.State.{Cells}
use Rattle.overlay_machine.specs.Step.{first_word, rest_words}
use Rattle.overlay_machine.specs.declared.frames.Frame.{Frame}
use Rattle.overlay_machine.specs.Moves.{newest_items, set_items, with_items, dropped, left_by, opened, given}
use Rattle.overlay_machine.specs.Moves.{IsNewest}
use Rattle.overlay_machine.proofs.CellLemmas.{dropped-first, dropped-without}
use Rattle.lcm_machine.proofs.Offers.{there-first, all_there-drop, words_from-drop}

pub first-there : (m : Cells) (a e : ℕ) → a ≤ e → IsTrue (all_there m a (e + 1 - a)) → IsSome (cell m a)
first-there m a e h t = let k : e + 1 - a ≡ suc (e - a) =
    omega (arith, h) in (there-first m a (e - a) (subst (λ n. IsTrue (all_there m a n)) k t)).0

pub rest-there : (m : Cells) (a e : ℕ) → a ≤ e → IsTrue (all_there m a (e + 1 - a))
    → IsTrue (all_there (drop_cell m a) (a + 1) (e - a))
rest-there m a e h t =
    let k : e + 1 - a ≡ suc (e - a) = omega (arith, h) in
    subst IsTrue (sym (all_there-drop m a (a + 1) (e - a) (omega arith)))
    (there-first m a (e - a) (subst (λ n. IsTrue (all_there m a n)) k t)).1

pub opened-maps : (old sw tk new : State OWord) (f : Frame) → f.base ≤ f.end
    → sw ≡ record old { regs = record old.regs { dat = zero_word Plain } }
    → tk ≡ record sw { cells = drop_cell sw.cells f.base }
    → new ≡ record tk { cells = dropped tk.cells (f.base + 1) (f.end - f.base) }
    → new ≡ left_by old f
opened-maps old sw tk new f h s t n =
    let c : dropped (drop_cell old.cells f.base) (f.base + 1)
    (f.end - f.base) ≡ without old.cells f.base f.end
    = sym (dropped-first old.cells f.base (f.end - f.base))
    ∙ dropped-without old.cells f.base (suc (f.end - f.base)) f.end (omega (arith, h)) in
    let t1 : tk
    ≡ record old { regs = record old.regs { dat = zero_word Plain }; cells = drop_cell old.cells f.base }
    = t ∙ (let over : State OWord → State OWord =
    λ x. record x { cells = drop_cell x.cells f.base } in ap over s) in
    let n1 : new
    ≡ record old {
      regs = record old.regs { dat = zero_word Plain };
      cells =
          dropped (drop_cell old.cells f.base) (f.base + 1) (f.end - f.base);
    }
    = n ∙ (let over : State OWord → State OWord =
    λ x. record x { cells = dropped x.cells (f.base + 1) (f.end - f.base) } in ap over t1) in
    n1 ∙ (let over : Cells → State OWord =
    λ m. record old { regs = record old.regs { dat = zero_word Plain }; cells = m } in ap over c)

pub opened-frames : (old : State OWord) (sw tk : State OWord) (region f1 f2 f3 : RegionSeen Frame OWord)
    (f : Frame) (first : OWord)
    → sw ≡ record old { regs = record old.regs { dat = zero_word Plain } }
    → tk ≡ record sw { cells = drop_cell sw.cells f.base } → first ≡ old.regs.dat
    → f1 ≡ record region
    { frames = record { head = f; size = f.end + 1 - f.base; items = [] } ∷ region.frames }
    → f2 ≡ record f1 { frames = with_item f1.frames first }
    → f3 ≡ record f2
    { frames = with_items f2.frames (words_from Plain tk.cells (f.base + 1) (f.end - f.base)) }
    → f3 ≡ record region { frames = opened old f ∷ region.frames }
opened-frames old sw tk region f1 f2 f3 f first s t d a b c =
    let m : tk.cells ≡ drop_cell old.cells f.base =
    ap (λ x. x.cells) t ∙ ap (λ x. drop_cell x.cells f.base) s in
    let ws : words_from Plain tk.cells (f.base + 1) (f.end - f.base) ≡ words_from Plain old.cells (f.base + 1)
    (f.end - f.base)
    = ap (λ x. words_from Plain x (f.base + 1) (f.end - f.base)) m
    ∙ words_from-drop Plain old.cells f.base (f.base + 1) (f.end - f.base) (omega arith) in
    let b1 : f2 ≡ record region
    { frames = record { head = f; size = f.end + 1 - f.base; items = first ∷ [] } ∷ region.frames }
    = b ∙ (let over : RegionSeen Frame OWord → RegionSeen Frame OWord =
    λ x. record x { frames = with_item x.frames first } in ap over a) in
    let c1 : f3
    ≡ record region {
      frames =
          record {
            head = f;
            size = f.end + 1 - f.base;
            items =
                first ∷ words_from Plain tk.cells (f.base + 1) (f.end - f.base);
          } ∷ region.frames;
    }
    = c ∙ (let over : RegionSeen Frame OWord → RegionSeen Frame OWord =
    λ x. record x
    { frames = with_items x.frames (words_from Plain tk.cells (f.base + 1) (f.end - f.base)) } in
    ap over b1) in
    c1 ∙ (let over : OWord → List OWord → RegionSeen Frame OWord =
    λ w. λ x. record region
    { frames = record { head = f; size = f.end + 1 - f.base; items = w ∷ x } ∷ region.frames } in
    ap (λ w. over w (words_from Plain tk.cells (f.base + 1) (f.end - f.base))) d ∙ ap (over old.regs.dat) ws)

-- the word that is popped last is the first one
popped-word : (fs gs : List (FrameSeen Frame OWord)) (w v : OWord) (h : Frame) → IsNewest fs h
    → set_items fs (v ∷ []) ≡ with_item gs w → w ≡ v
popped-word [] gs w v h n e = absurd n
popped-word (f ∷ fs) [] w v h n e = absurd (let k = ap length e in omega (arith, k))
popped-word (f ∷ fs) (g ∷ gs) w v h n e = alone g.items (ap newest_items e)
  where
    alone : (is : List OWord) → v ∷ [] ≡ is ++ w ∷ [] → w ≡ v
    alone [] q = sym (ap first_word q)
    alone (x ∷ is) q =
        absurd (let k = ap length q in let l = length-append is (w ∷ []) in omega (arith, k, l))

pub closed-maps : (old put giv new : State OWord) (region region1 region2 : RegionSeen Frame OWord)
    (f : Frame) (w : OWord)
    → IsNewest region.frames f
    → put ≡ record old { cells = set_cell old.cells f.base (zero_word Plain) }
    → giv ≡ record put { cells = put_back put.cells (f.base + 1) (rest_words (newest_items region.frames)) }
    → region1
    ≡ record region { frames = set_items region.frames (first_word (newest_items region.frames) ∷ []) }
    → region1 ≡ record region2 { frames = with_item region2.frames w }
    → new ≡ record giv { regs = record giv.regs { dat = w } }
    → new ≡ given old f (newest_items region.frames)
unfolding put_back
closed-maps old put giv new region region1 region2 f w n p g s t e =
    let v = popped-word region.frames region2.frames w (first_word (newest_items region.frames))
    f n (sym (ap (λ x. x.frames) s) ∙ ap (λ x. x.frames) t) in
    let g1 : giv
    ≡ record old {
      cells = put_back (set_cell old.cells f.base (zero_word Plain)) (f.base + 1)
          (rest_words (newest_items region.frames));
    }
    = g ∙ (let over : State OWord → State OWord =
    λ x. record x { cells = put_back x.cells (f.base + 1) (rest_words (newest_items region.frames)) } in
    ap over p) in
    e ∙ (let over : State OWord → OWord → State OWord =
    λ x. λ y. record x { regs = record x.regs { dat = y } } in ap (λ x. over x w) g1
    ∙ ap (over
    (record old {
      cells = put_back (set_cell old.cells f.base (zero_word Plain)) (f.base + 1)
          (rest_words (newest_items region.frames));
    })) v)
