-- Cells that leave memory one by one.
use Rattle.std.proofs.Common.{◌≡◌, ℕ, zero, suc, ◌+◌, refl, sym, ◌∙◌, arith}
use Rattle.lcm_machine.specs.Cells.{drop_cell, without}
use Rattle.lcm_machine.proofs.Offers.{without-empty, without-step}
use Rattle.overlay_machine.specs.State.{Cells}
use Rattle.overlay_machine.specs.Moves.{dropped}

pub dropped-first : (m : Cells) (a n : ℕ) → dropped m a (suc n) ≡ dropped (drop_cell m a) (a + 1) n
unfolding dropped
dropped-first m a n = refl

pub dropped-none : (m : Cells) (a : ℕ) → dropped m a 0 ≡ m
unfolding dropped
dropped-none m a = refl

pub dropped-without : (m : Cells) (a n e : ℕ) → a + n ≡ e + 1 → dropped m a n ≡ without m a e
dropped-without m a zero e h = dropped-none m a ∙ sym (without-empty m a e (omega (arith, h)))
dropped-without m a (suc n) e h = dropped-first m a n ∙ dropped-without (drop_cell m a) (a + 1)
    n e (omega (arith, h)) ∙ sym (without-step m a e (omega (arith, h)))
