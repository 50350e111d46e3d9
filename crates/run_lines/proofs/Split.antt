-- The lines of a run in two parts.
use Rattle.std.proofs.Common.{◌≡◌, ℕ, zero, suc, ◌+◌, ◌++◌, sym, ap, ◌∙◌, arith}
use Rattle.std.proofs.lemmas.List.{append_assoc, append-nil}
use Rattle.trusted_border.specs.declared.layout.Layout.{Layout}
use Rattle.run_lines.specs.Runs.{Watched, watched, watched_next, line_next, lines_of}

pub watched_split : (l : Layout) (w : Watched) (m n : ℕ) → watched l w (m + n) ≡ watched l (watched l w m) n
watched_split l w m zero = (let e : m + 0 ≡ m = omega arith in ap (λ k. watched l w k) e)
watched_split l w m (suc n) =
    (let e : m + suc n ≡ suc (m + n) =
    omega arith in ap (λ k. watched l w k) e ∙ ap (watched_next l) (watched_split l w m n))

pub lines_split : (l : Layout) (w : Watched) (m n : ℕ)
    → lines_of l w (m + n) ≡ lines_of l w m ++ lines_of l (watched l w m) n
lines_split l w m zero =
    (let e : m + 0 ≡ m = omega arith in ap (λ k. lines_of l w k) e ∙ sym (append-nil (lines_of l w m)))
lines_split l w m (suc n) =
    (let e : m + suc n ≡ suc (m + n) = omega arith in ap (λ k. lines_of l w k) e)
    ∙ ap (λ x. x ++ line_next l (watched l w (m + n))) (lines_split l w m n)
    ∙ ap (λ k. (lines_of l w m ++ lines_of l (watched l w m) n) ++ line_next l k) (watched_split l w m n)
    ∙ append_assoc (lines_of l w m) (lines_of l (watched l w m) n) (line_next l (watched l (watched l w m) n))
