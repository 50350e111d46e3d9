-- A moved part is a part, where it has addresses and seals that there are, and integers of the machine.
use Rattle.std.proofs.Common.{◌≡◌, ℕ, zero, suc, ◌+◌, ◌<◌, ◌≤◌, Bool, true, false, List, [], ◌∷◌, length, map}
use Rattle.std.proofs.Common.{Option, Some, None, refl, ap, subst, ◌∙◌, arith}
use Rattle.std.specs.Prelude.{slice_get, option_map, nat_lt}
use Rattle.std.specs.List.{list_all}
use Rattle.std.proofs.lemmas.Bool.Decides.{nat_tests}
use Rattle.std.proofs.lemmas.List.{length-map}
use Rattle.std.proofs.lemmas.Bool.{and_parts, not-false, or_parts}
use Rattle.lcm_machine.proofs.Offers.{tested_fits}
use Rattle.cap_words.specs.declared.Word.{Word}
use Rattle.cap_words.specs.declared.Word.TheVariants.{Int, Mem, Seal, Sealed}
use Rattle.cap_words.specs.declared.CapFields.{CapFields}
use Rattle.cap_words.specs.declared.SealFields.{SealFields}
use Rattle.cap_words.specs.WordBytes.{WordFits, IsUnsealed}
use Rattle.component_file.specs.declared.component.ComponentFields.{ComponentFields}
use Rattle.component_file.specs.Limits.{IsComponent, Chain, StretchFits, WordsFit, last_base}
use Rattle.component_check.specs.Areas.{is_past_end}
use Rattle.component_check.specs.Rules.{words}
use Rattle.linked_starts.specs.declared.moving.Shift.{Shift}
use Rattle.linked_starts.specs.declared.moving.Move.{Move}
use Rattle.linked_starts.specs.Parts.{PartSeen, IsPart}
use Rattle.linked_starts.specs.Placing.{shifted, shifted_base, moved_word, moved, areas_end_late}
use Rattle.linked_starts.specs.Placing.{seals_end_late, points_in_range, points_too_far}
use Rattle.linked_starts.proofs.StartHeld.{get_left, get_right, word_fits}
use Rattle.linked_starts.proofs.PartKept.{is_kept, ends}
use Rattle.linked_starts.proofs.OwnWords.{OwnCap, over_code, over_data, over_linear, OwnWord, own_word}
use Rattle.linked_starts.proofs.MovedRules.{Lowest, words_moved, rules_kept}
use Rattle.linked_starts.proofs.MovedFlow.{flow_kept}

-- it has addresses and seals that there are, and integers of the machine
pub record HasRoom (m : Move) (c : ComponentFields) : Type 0 where
  pub areas : areas_end_late (moved m c) ≡ false
  pub seals : seals_end_late (moved m c) ≡ false
  pub points : points_too_far (moved m c) ≡ false

all_at : {A : Type 0} (f : A → Bool) (xs : List A) (k : ℕ) (x : A) → list_all f xs ≡ true
    → slice_get xs k ≡ Some x → f x ≡ true
all_at f [] k x h e = absurd cc
all_at f (y ∷ ys) zero x h e = let same : y ≡ x = cc in subst (λ z. f z ≡ true) same (and_parts _ _ h).0
all_at f (y ∷ ys) (suc k) x h e = all_at f ys k x (and_parts _ _ h).1 e

module _ (c : ComponentFields) (trusted : Bool) (part : IsPart (record { component = c; trusted = trusted }))
    (m : Move) (lowest : Lowest m c) (room : HasRoom m c) where
  areas_end : (is_past_end (moved m c).code_base (length (moved m c).code) ≡ false)
      × (is_past_end (moved m c).data_base (length (moved m c).data_words) ≡ false)
      × (is_past_end (moved m c).linear.base (moved m c).linear.count ≡ false)
  areas_end =
      let linear = or_parts _ _ room.areas in let others = or_parts _ _ linear.0 in
      (others.0, others.1, linear.1)

  seals_end : (nat_lt 1048575 (shifted m.seals c.closure) ≡ false)
      × (is_past_end (moved m c).seals.base (moved m c).seals.count ≡ false)
  seals_end = or_parts _ _ room.seals

  size : (ws : List Word) → length (map (moved_word m) ws) ≡ length ws
  size ws = length-map ws (moved_word m)

  code_end : shifted m.addresses c.code_base + length c.code ≤ 1048576
  code_end = ends _ _ (rw (← size c.code) areas_end.0) part.limits.code.0.0

  data_end : shifted m.addresses c.data_base + length c.data_words ≤ 1048576
  data_end = ends _ _ (rw (← size c.data_words) areas_end.1) part.limits.data_words.0.0

  stretch_fits : (s : Shift) (base count : ℕ) → StretchFits base count
      → is_past_end (shifted_base s base count) count ≡ false → StretchFits (shifted_base s base count) count
  stretch_fits s base zero h e = h
  stretch_fits s base (suc n) h e = (h.0, at_last (shifted s base) n e)
    where
      at_last : (base n : ℕ) → is_past_end base (suc n) ≡ false → base ≤ last_base (suc n)
      at_last base n e = grind (arith, nat_tests)

  -- ---- words

  cap_end : (k : CapFields) → k.base ≤ k.end → OwnCap c k → shifted m.addresses k.end ≤ 1048575
  cap_end k order (over_code lin in_range) =
      let e = code_end in let l = lowest.code in omega (arith, order, in_range.0, in_range.1, e, l)
  cap_end k order (over_data lin x in_range) =
      let e = data_end in let l = lowest.data_words in omega (arith, order, in_range.0, in_range.1, e, l)
  cap_end k order (over_linear lin x in_range) =
      by_count c.linear.base c.linear.count lowest.linear areas_end.2 in_range.0 in_range.1
    where
      by_count : (base count : ℕ) → (1 ≤ count → m.addresses.from ≤ base)
          → is_past_end (shifted_base m.addresses base count) count ≡ false → base ≤ k.base
          → k.end < base + count → shifted m.addresses k.end ≤ 1048575
      by_count base zero low e le lt = absurd (omega (arith, order, le, lt))
      by_count base (suc n) low e le lt =
          let l = low (omega arith) in
          let end = ends (shifted m.addresses base) (suc n) e (omega arith) in
          omega (arith, order, le, lt, l, end)

  seals_within : (s : SealFields) → s.base ≤ s.end → c.seals.base ≤ s.base
      → s.end < c.seals.base + c.seals.count → shifted m.seals s.end ≤ 1048575
  seals_within s order low high = by_count c.seals.base c.seals.count lowest.seals seals_end.1 low high
    where
      by_count : (base count : ℕ) → (1 ≤ count → m.seals.from ≤ base)
          → is_past_end (shifted_base m.seals base count) count ≡ false → base ≤ s.base → s.end < base + count
          → shifted m.seals s.end ≤ 1048575
      by_count base zero low e le lt = absurd (omega (arith, order, le, lt))
      by_count base (suc n) low e le lt =
          let l = low (omega arith) in
          let end = ends (shifted m.seals base) (suc n) e (omega arith) in
          omega (arith, order, le, lt, l, end)

  fits_moved : (w : Word) → OwnWord c w → WordFits w × IsUnsealed w → points_in_range (moved_word m w) ≡ true
      → WordFits (moved_word m w) × IsUnsealed (moved_word m w)
  fits_moved (Int n) own fits e = fits
  fits_moved (Mem k) own fits e =
      (((let o = own.0 in omega (arith, o), cap_end k own.0 own.1), tested_fits _ e), tt)
  fits_moved (Seal s) own fits e =
      (((let o = own.0 in omega (arith, o), seals_within s own.0 own.1.0 own.1.1), tested_fits _ e), tt)
  fits_moved (Sealed o x) own fits e = fits

  word_moved : (k : ℕ) (w : Word) → slice_get (words c) k ≡ Some w → WordFits (moved_word m w)
      × IsUnsealed (moved_word m w)
  word_moved k w e =
      let p : PartSeen = record { component = c; trusted = trusted } in
      fits_moved w (own_word p part k w e) (word_fits p k w (is_kept p part) e)
      (all_at points_in_range (words (moved m c)) k (moved_word m w) (not-false _ room.points)
      (words_moved m c k ∙ ap (option_map (moved_word m)) e))

  chain_moved : (ws : List Word) (b : Option Word)
      → ((k : ℕ) (w : Word) → slice_get ws k ≡ Some w → WordFits (moved_word m w)
      × IsUnsealed (moved_word m w))
      → Chain (λ _ x. WordFits x × IsUnsealed x) b (map (moved_word m) ws)
  chain_moved [] b h = tt
  chain_moved (x ∷ xs) b h = (h 0 x refl, chain_moved xs (Some (moved_word m x)) (λ k w e. h (suc k) w e))

  words_moved_fit : (ws : List Word) → WordsFit ws
      → ((k : ℕ) (w : Word) → slice_get ws k ≡ Some w → WordFits (moved_word m w)
      × IsUnsealed (moved_word m w)) → WordsFit (map (moved_word m) ws)
  words_moved_fit ws fits h = ((rw (size ws) fits.0.0, rw (size ws) fits.0.1), chain_moved ws None h)

  limits_kept : IsComponent (moved m c)
  limits_kept = record {
    name = part.limits.name;
    stack_base = part.limits.stack_base;
    closure = le_of _ seals_end.0;
    seals = stretch_fits m.seals c.seals.base c.seals.count part.limits.seals seals_end.1;
    linear = stretch_fits m.addresses c.linear.base c.linear.count part.limits.linear areas_end.2;
    code_base = let e = code_end in let s = part.limits.code.0.0 in omega (arith, e, s);
    code =
        words_moved_fit c.code part.limits.code
        (λ k w e. word_moved k w (get_left c.code c.data_words k w e));
    data_base = let e = data_end in let s = part.limits.data_words.0.0 in omega (arith, e, s);
    data_words =
        words_moved_fit c.data_words part.limits.data_words
        (λ k w e. word_moved (length c.code + k) w (get_right c.code c.data_words k w e));
    imports = part.limits.imports;
    exports = part.limits.exports;
    sites = part.limits.sites;
    fail_at = part.limits.fail_at;
    literal_at = part.limits.literal_at;
    rows = part.limits.rows;
  }
    where
      le_of : (n : ℕ) → nat_lt 1048575 n ≡ false → n ≤ 1048575
      le_of n e = grind (arith, nat_tests)

  pub part_kept : IsPart (record { component = moved m c; trusted = trusted })
  part_kept = record {
    limits = limits_kept;
    rules = rules_kept c trusted part m lowest room.areas room.seals;
    flow = λ t. flow_kept m c (part.flow t);
  }
