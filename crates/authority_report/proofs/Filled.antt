-- A set after places were filled.
use Rattle.std.proofs.Common.{◌≡◌, ℕ, ◌+◌, ◌<◌, ◌≤◌, Bool, true, false, ◌&&◌, List, ◌++◌, length, take}
use Rattle.std.proofs.Common.{drop, refl, sym, ◌∙◌, arith}
use Rattle.std.specs.Prelude.{nat_le, nat_lt, slice_index, if◌then◌else◌}
use Rattle.std.proofs.lemmas.Bool.Decides.{nat_tests}
use Rattle.std.proofs.lemmas.Grind.{common_steps}
use Rattle.authority_report.specs.Has.{has, IsSet}

module _ (old new : List ℕ) (base last : ℕ) (is : IsSet old) (same : length new ≡ length old)
    (some : base ≤ last) (inside : last < length old)
    (now : (b : ℕ)
    → slice_index new b ≡ (if nat_le base b && nat_le b last then last + 1 else slice_index old b)) where
  up_at : (a : ℕ) (b : Bool) → (nat_le base a && nat_le a last) ≡ b → a ≤ slice_index old a
      → a ≤ (if b then last + 1 else slice_index old a)
  up_at a true e h = grind (arith, nat_tests)
  up_at a false e h = h

  inside_at : (a : ℕ) (b : Bool) → slice_index old a ≤ length old
      → (if b then last + 1 else slice_index old a) ≤ length old
  inside_at a true h = omega (arith, inside)
  inside_at a false h = h

  has_at : (b : ℕ) (t : Bool) → (nat_le base b && nat_le b last) ≡ t → (t ≡ false → has old b ≡ true)
      → nat_lt b (if t then last + 1 else slice_index old b) ≡ true
  has_at b true e h = grind (arith, nat_tests)
  has_at b false e h = h refl

  in_part : (a b : ℕ) → (nat_le base a && nat_le a last) ≡ true → a ≤ b → b < last + 1
      → (nat_le base b && nat_le b last) ≡ true
  in_part a b e low high = grind (arith, nat_tests)

  skips_at : (a b : ℕ) (t : Bool) → (nat_le base a && nat_le a last) ≡ t → a ≤ b
      → b < (if t then last + 1 else slice_index old a) → (nat_le base b && nat_le b last) ≡ false
      → has old b ≡ true
  skips_at a b true e low high out = absurd (let k = in_part a b e low high in let f : true ≡ false = sym k
      ∙ out in cc)
  skips_at a b false e low high out = is.skips a b low high

  pub is_set : IsSet new
  is_set = record {
    size = same ∙ is.size;
    up = λ a h. rw (now a) (up_at a (nat_le base a && nat_le a last) refl
        (is.up a (let e = same in omega (arith, e, h))));
    inside = λ a. rw (now a) (rw same (inside_at a (nat_le base a && nat_le a last) (is.inside a)));
    skips = λ a b low high. rw (now b) (has_at b (nat_le base b && nat_le b last) refl
        (λ out. skips_at a b (nat_le base a && nat_le a last) refl low (rw (now a) at high) out));
  }

pub written : (old new : List ℕ) (n : ℕ) → length new ≡ length old → length old ≡ n
    → take n (new ++ drop (length new) old) ≡ new
written old new n same all = grind (arith, common_steps)
