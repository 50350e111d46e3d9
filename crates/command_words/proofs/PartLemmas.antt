-- Part words one after another.
use Rattle.std.proofs.Common.{◌≡◌, ◌∙◌, ap, refl, sym, ℕ, List, [], ◌∷◌, ◌++◌, Option, Some, None, length}
use Rattle.std.proofs.Common.{drop, ◌+◌, ◌<◌, ◌≤◌, get_or}
use Rattle.std.specs.Prelude.{option_and_then}
use Rattle.std.specs.Borrow.{Bor}
use Rattle.std.proofs.lemmas.List.{append_assoc, append-nil, at_drop_more}
use Rattle.std.proofs.Math.ListN.{drop_of_length-le}
use Rattle.command_words.specs.Texts.{Text, texts_of}
use Rattle.command_words.specs.Part.{part_in, parts_in}
use Rattle.command_words.specs.declared.part.PartWord.{PartWord}

-- some parts, and others after them
abbrev pub behind : List PartWord → Option (List PartWord) → Option (List PartWord)
behind before None = None
behind before (Some after) = Some (before ++ after)

one_more : (before : List PartWord) (p : PartWord) (word : Text) (rest : List Text) → part_in word ≡ Some p
    → behind before (parts_in (word ∷ rest)) ≡ behind (before ++ p ∷ []) (parts_in rest)
unfolding parts_in
one_more before p word rest e = rw e (tail (parts_in rest))
  where
    tail : (q : Option (List PartWord))
        → behind before (option_and_then (λ ps. Some (p ∷ ps)) q) ≡ behind (before ++ p ∷ []) q
    tail None = refl
    tail (Some ps) = ap Some (sym (append_assoc before (p ∷ []) ps))

no_part : (before : List PartWord) (word : Text) (rest : List Text) → part_in word ≡ None
    → behind before (parts_in (word ∷ rest)) ≡ None
unfolding parts_in
no_part before word rest e = rw e refl

no_more : (before : List PartWord) → behind before (parts_in []) ≡ Some before
unfolding parts_in
no_more before = ap Some (append-nil before)

-- the same at a place of the words
abbrev from : List PartWord → List (Bor Text) → Option (List PartWord)
from before words = behind before (parts_in (texts_of words))

pub one_more_at : (before : List PartWord) (p : PartWord) (words : List (Bor Text)) (i : ℕ) (d : Bor Text)
    → i < length words
    → part_in (get_or words i d).now ≡ Some p
    → from before (drop i words) ≡ from (before ++ p ∷ []) (drop (i + 1) words)
one_more_at before p words i d lt e = at_drop_more (from before) words i d lt ∙ one_more before p _ _ e

pub no_part_at : (before : List PartWord) (words : List (Bor Text)) (i : ℕ) (d : Bor Text) → i < length words
    → part_in (get_or words i d).now ≡ None → from before (drop i words) ≡ None
no_part_at before words i d lt e = at_drop_more (from before) words i d lt ∙ no_part before _ _ e

pub no_more_at : (before : List PartWord) (words : List (Bor Text)) (i : ℕ) → length words ≤ i
    → from before (drop i words) ≡ Some before
no_more_at before words i le = ap (from before) (drop_of_length-le words le) ∙ no_more before
