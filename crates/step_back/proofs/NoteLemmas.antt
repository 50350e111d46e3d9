-- Fewer notes lead back to fewer states.
use Rattle.std.proofs.Common.{◌≡◌, ℕ, zero, suc, List, [], ◌∷◌, take, refl, ap}
use Rattle.lcm_machine.specs.declared.undo.Undo.{Undo}
use Rattle.lcm_machine.specs.Run.{Run}
use Rattle.lcm_machine.specs.Back.{back}
use Rattle.step_back.specs.Notes.{states_before, CanUndoAll}

pub states_taken : (n : ℕ) (s : Run) (us : List Undo)
    → states_before s (take n us) ≡ take n (states_before s us)
states_taken zero s us = refl
states_taken (suc n) s [] = refl
states_taken (suc n) s (u ∷ us) = ap (λ ss. back s u ∷ ss) (states_taken n (back s u) us)

pub undo_taken : (n : ℕ) (s : Run) (us : List Undo) → CanUndoAll s us → CanUndoAll s (take n us)
undo_taken zero s us h = tt
undo_taken (suc n) s [] h = tt
undo_taken (suc n) s (u ∷ us) h = (h.0, undo_taken n (back s u) us h.1)
