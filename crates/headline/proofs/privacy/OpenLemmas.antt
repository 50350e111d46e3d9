-- What is open after lines is what their brackets leave open, and each ret line closes the newest.
use Rattle.std.proofs.Common.{◌≡◌, ℕ, Bool, List, [], ◌∷◌, ◌++◌, refl}
use Rattle.cap_words.specs.declared.Word.{Word}
use Rattle.overlay_machine.specs.Brackets.{Brackets, at_end, one_opens, one_closes}
use Rattle.run_lines.specs.Lines.{Line, call, ret, enter, pass, leave}
use Rattle.headline.specs.OpenCalls.{LineTold, open_behind}
use Rattle.headline.specs.Brackets.{marks_in}

pub open_is : (before now : List LineTold) (ls : List Line) → Brackets LineTold before (marks_in ls) now
    → open_behind before ls ≡ now
open_is before _ [] (at_end _) = refl
open_is before now (call inward part site base last args words ∷ ls) (one_opens h) = open_is _ now ls h
open_is _ now (ret inward part site base last a0 words ∷ ls) (one_closes {before = older} h) =
    open_is older now ls h
open_is [] now (enter part export stk args back ∷ ls) h = open_is [] now ls h
open_is (x ∷ xs) now (enter part export stk args back ∷ ls) h = open_is (x ∷ xs) now ls h
open_is [] now (pass p0 p1 p2 ∷ ls) h = open_is [] now ls h
open_is (x ∷ xs) now (pass p0 p1 p2 ∷ ls) h = open_is (x ∷ xs) now ls h
open_is [] now (leave part a0 ∷ ls) h = open_is [] now ls h
open_is (x ∷ xs) now (leave part a0 ∷ ls) h = open_is (x ∷ xs) now ls h

module _ (inward : Bool) (part : List ℕ) (site base last : ℕ) (a0 : Word) (words : List Word)
    (more : List Line) (now : List LineTold) where
  abbrev line : Line
  line = ret inward part site base last a0 words

  abbrev told : LineTold
  told = record { part = part; site = site; base = base; last = last; words = words }

  pub closes_newest : (opened : List LineTold) (before : List Line)
      → Brackets LineTold opened (marks_in (before ++ line ∷ more)) now
      → (older : List LineTold) × (open_behind opened before ≡ told ∷ older)
  closes_newest _ [] (one_closes {before = older} h) = (older, refl)
  closes_newest opened (call i p s b l args ws ∷ ls) (one_opens h) = closes_newest _ ls h
  closes_newest _ (ret i p s b l z ws ∷ ls) (one_closes {before = older} h) = closes_newest older ls h
  closes_newest [] (enter p export stk args back ∷ ls) h = closes_newest [] ls h
  closes_newest (x ∷ xs) (enter p export stk args back ∷ ls) h = closes_newest (x ∷ xs) ls h
  closes_newest [] (pass p0 p1 p2 ∷ ls) h = closes_newest [] ls h
  closes_newest (x ∷ xs) (pass p0 p1 p2 ∷ ls) h = closes_newest (x ∷ xs) ls h
  closes_newest [] (leave p z ∷ ls) h = closes_newest [] ls h
  closes_newest (x ∷ xs) (leave p z ∷ ls) h = closes_newest (x ∷ xs) ls h
