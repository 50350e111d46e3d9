-- The first place of a rule, found by trying one after another.
use Rattle.std.proofs.Common.{◌≡◌, ℕ, Option, sym, ap}
use Rattle.std.specs.Prelude.{option_map}
use Rattle.component_check.specs.Places.{Test, first_of, first_place}
use Rattle.component_check.proofs.Offers.{IsFirstIn, first_by}

pub found_at : (t : Test ℕ) (o : Option ℕ) → IsFirstIn t.broken t.count o → o ≡ first_of t
found_at t o h = first_by (λ i b. t.broken i ≡ b) t.broken t.count o (λ i b lt e. sym e) h

pub found : (t : Test ℕ) (o : Option ℕ) → IsFirstIn t.broken t.count o → option_map t.place o ≡ first_place t
found t o h = ap (option_map t.place) (found_at t o h)
