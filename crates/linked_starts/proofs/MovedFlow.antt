-- The rules of the flow look at no address: a moved part keeps them.
use Rattle.std.proofs.Common.{◌≡◌, ℕ, zero, suc, ℤ, List, [], ◌∷◌, length, map, Option}
use Rattle.std.proofs.Common.{Some, None, refl, sym, ap, subst, ◌∙◌}
use Rattle.std.specs.Prelude.{slice_get, option_map, ◌+◌}
use Rattle.std.proofs.lemmas.List.{length-map}
use Rattle.std.proofs.lemmas.Option.{slice_get-map}
use Rattle.cap_words.specs.declared.Word.{Word}
use Rattle.cap_words.specs.declared.Word.TheVariants.{Int, Mem, Seal, Sealed}
use Rattle.component_file.specs.declared.component.ComponentFields.{ComponentFields}
use Rattle.component_check.specs.Places.{Test, BrokenAt}
use Rattle.component_check.specs.Verdict.{NoneBroken}
use Rattle.call_sequence.specs.Standing.{is_int, difference, sequence_difference, site_difference, is_entry}
use Rattle.call_sequence.specs.Kinds.{Row}
use Rattle.call_sequence.specs.Places.{begins_entry, begins_site, in_site, declared}
use Rattle.call_sequence.specs.Lists.{k1, k2, k3, k4, lists, entry_is_bad, is_misplaced, of_entry}
use Rattle.call_sequence.specs.declared.flow.Walk.{Walk}
use Rattle.call_sequence.specs.declared.flow.Walk.TheVariants.{Before as before, Ended as ended}
use Rattle.call_sequence.specs.declared.flow.Walk.TheVariants.{Broken as broken}
use Rattle.call_sequence.specs.Walk.{instr_in, instr_at, good_target, at_row, past, at_word, next_from, next}
use Rattle.call_sequence.specs.Walk.{walk}
use Rattle.call_sequence.specs.Verdict.{IsKept}
use Rattle.linked_starts.specs.Placing.{moved, moved_word}
use Rattle.linked_starts.specs.declared.moving.Move.{Move}

-- ---- words

module _ (m : Move) where
  int_same : (w : Option Word) (z : ℤ) → is_int (option_map (moved_word m) w) z ≡ is_int w z
  int_same None z = refl
  int_same (Some (Int n)) z = refl
  int_same (Some (Mem c)) z = refl
  int_same (Some (Seal s)) z = refl
  int_same (Some (Sealed o x)) z = refl

  instr_same : (w : Option Word) → instr_in (option_map (moved_word m) w) ≡ instr_in w
  instr_same None = refl
  instr_same (Some (Int n)) = refl
  instr_same (Some (Mem c)) = refl
  instr_same (Some (Seal s)) = refl
  instr_same (Some (Sealed o x)) = refl

  difference_same : (ws : List Word) (at : ℕ) (zs : List ℤ)
      → difference (map (moved_word m) ws) at zs ≡ difference ws at zs
  difference_same ws at [] = refl
  difference_same ws at (z ∷ zs) =
      rw (slice_get-map (moved_word m) ws at, int_same (slice_get ws at) z, difference_same ws (at + 1) zs)
      refl

  module _ (c : ComponentFields) where
    size_same : length (map (moved_word m) c.code) ≡ length c.code
    size_same = length-map c.code (moved_word m)

    -- ---- the lists

    site_same : (i : ℕ) → site_difference (moved m c) i ≡ site_difference c i
    unfolding sequence_difference
    site_same i = by_offsets c.fail_at c.literal_at refl refl
      where
        by_offsets : (f l : Option ℕ) → c.fail_at ≡ f → c.literal_at ≡ l
            → site_difference (moved m c) i ≡ site_difference c i
        by_offsets (Some fail) (Some literal) e g =
            rw (e, g, difference_same c.code _ _, difference_same c.code _ _) refl
        by_offsets (Some fail) None e g = rw (e, g) refl
        by_offsets None literal e g = rw e refl

    entry_same : (o : ℕ) → is_entry (moved m c) o ≡ is_entry c o
    unfolding is_entry
    entry_same o = by_fail c.fail_at refl
      where
        by_fail : (f : Option ℕ) → c.fail_at ≡ f → is_entry (moved m c) o ≡ is_entry c o
        by_fail None e = rw e refl
        by_fail (Some fail) e = rw (e, size_same, difference_same c.code _ _) refl

    k1_same : (i : ℕ) → (k1 (moved m c)).broken i ≡ (k1 c).broken i
    unfolding k1
    k1_same i = rw size_same refl

    k2_same : (i : ℕ) → (k2 (moved m c)).broken i ≡ (k2 c).broken i
    unfolding k2
    k2_same i = rw (site_same i) refl

    k3_same : (i : ℕ) → (k3 (moved m c)).broken i ≡ (k3 c).broken i
    unfolding k3 begins_entry entry_is_bad
    k3_same i = rw (entry_same i) refl

    k4_same : (i : ℕ) → (k4 (moved m c)).broken i ≡ (k4 c).broken i
    unfolding k4 is_misplaced of_entry in_site
    k4_same i = rw size_same refl

    lists_kept : NoneBroken (lists c) → NoneBroken (lists (moved m c))
    unfolding k1 k2 k3 k4
    lists_kept h zero i t e b = cc
    lists_kept h (suc zero) i t e b = first t i (let q : k1 (moved m c) ≡ t = cc in q) b
      where
        first : (t : Test ℕ) (i : ℕ) → k1 (moved m c) ≡ t → BrokenAt t i → ⊥
        first t i is b =
            let here = subst (λ u. BrokenAt u i) (sym is) b in
            h 1 i (k1 c) refl (here.0, sym (k1_same i) ∙ here.1)
    lists_kept h (suc (suc zero)) i t e b = second t i (let q : k2 (moved m c) ≡ t = cc in q) b
      where
        second : (t : Test ℕ) (i : ℕ) → k2 (moved m c) ≡ t → BrokenAt t i → ⊥
        second t i is b =
            let here = subst (λ u. BrokenAt u i) (sym is) b in
            h 2 i (k2 c) refl (here.0, sym (k2_same i) ∙ here.1)
    lists_kept h (suc (suc (suc zero))) i t e b = third t i (let q : k3 (moved m c) ≡ t = cc in q) b
      where
        third : (t : Test ℕ) (i : ℕ) → k3 (moved m c) ≡ t → BrokenAt t i → ⊥
        third t i is b =
            let here = subst (λ u. BrokenAt u i) (sym is) b in
            h 3 i (k3 c) refl (here.0, sym (k3_same i) ∙ here.1)
    lists_kept h (suc (suc (suc (suc zero)))) i t e b = fourth t i (let q : k4 (moved m c) ≡ t = cc in q) b
      where
        fourth : (t : Test ℕ) (i : ℕ) → k4 (moved m c) ≡ t → BrokenAt t i → ⊥
        fourth t i is b =
            let here = subst (λ u. BrokenAt u i) (sym is) b in
            h 4 i (k4 c) refl (here.0, sym (k4_same i) ∙ here.1)
    lists_kept h (suc (suc (suc (suc (suc n))))) i t e b = cc

    -- ---- the walk

    instr_at_same : (o : ℕ) → instr_at (moved m c) o ≡ instr_at c o
    unfolding instr_at
    instr_at_same o = ap instr_in (slice_get-map (moved_word m) c.code o) ∙ instr_same (slice_get c.code o)

    at_row_same : (o : ℕ) (r : Row) → at_row (moved m c) o r ≡ at_row c o r
    unfolding at_row begins_site begins_entry declared good_target
    at_row_same o r = rw (instr_at_same o) refl

    at_word_same : (o : ℕ) (d current : Option Row) → at_word (moved m c) o d current ≡ at_word c o d current
    unfolding at_word past begins_site
    at_word_same o (Some d) current = rw (at_row_same o d) refl
    at_word_same o None (Some r) = at_row_same o r
    at_word_same o None None = refl

    next_same : (o : ℕ) (current : Option Row) → next_from (moved m c) o current ≡ next_from c o current
    unfolding next_from begins_entry declared
    next_same o None = rw (size_same, at_word_same o _ None) refl
    next_same o (Some r) = rw (size_same, at_word_same o _ (Some r)) refl

    walk_same : (n : ℕ) → walk (moved m c) n ≡ walk c n
    walk_same zero = refl
    walk_same (suc n) = ap (next (moved m c)) (walk_same n) ∙ by_walk (walk c n)
      where
        by_walk : (w : Walk) → next (moved m c) w ≡ next c w
        by_walk (before o current) = next_same o current
        by_walk ended = refl
        by_walk (broken rule o) = refl

    pub flow_kept : IsKept c → IsKept (moved m c)
    flow_kept h =
        record { placed = lists_kept h.placed; walked = (h.walked.0, walk_same h.walked.0 ∙ h.walked.1) }
