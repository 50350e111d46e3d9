use Rattle.std.proofs.Common.{◌≡◌, ℕ, ◌<◌, List, map, length, Some, None, subst, sym, ap, ◌∙◌}
use Rattle.std.specs.Prelude.{slice_get, option_map}
use Rattle.std.proofs.lemmas.List.{length-map}
use Rattle.std.proofs.lemmas.Option.{slice_get-get_or, slice_get-map}
use Rattle.cap_words.specs.declared.Word.{Word}
use Rattle.linked_starts.specs.Placing.{moved_word, words_at}
use Rattle.linked_starts.specs.declared.moving.Move.{Move}
use Rattle.linked_starts.proofs.Offers.{each_at}
use Rattle.component_linker.proofs.placed.Words.word.Goals as goal

moved_at : (m : Move) (ws xs : List Word) (i : ℕ) (w : Word) → xs ≡ map (moved_word m) ws → i < length xs
    → (i < length ws → slice_get ws i ≡ Some w) → slice_get xs i ≡ Some (moved_word m w)
moved_at m ws xs i w is lt there =
    let less = subst (λ n. i < n) (ap length is ∙ length-map ws (moved_word m)) lt in
    ap (λ (ys : List Word). slice_get ys i) is ∙ slice_get-map (moved_word m) ws i
    ∙ ap (option_map (moved_word m)) (there less)

pub returns-in-None : goal.returns-in-None
returns-in-None c =
    let ws = c.self.inside.words.now in
    let is : ws ≡ c.args.self.now = sym (ap (λ m. words_at m ws) c.in-None.is) ∙ c.self.view_is in
    let lt = subst (λ (xs : List Word). c.args.index < length xs) (sym is) c.requires in
    subst (λ (xs : List Word). slice_get xs c.args.index ≡ Some c.made_anew.result) is
    (slice_get-get_or ws c.args.index c.index-words-index.result lt
    ∙ ap Some (sym c.index-words-index.is ∙ sym c.made_anew.ensures))

pub moved_word-requires : goal.moved_word-requires
moved_word-requires c =
    let ws = c.self.inside.words.now in
    let lt = subst (λ (xs : List Word). c.args.index < length xs) (sym c.self.view_is) c.requires in
    let at = moved_at c.in-Some.m ws (words_at c.self.inside.movement ws) c.args.index
    c.index-words-index-in-Some.result (ap (λ o. words_at o ws) c.in-Some.is) lt
    (λ less. slice_get-get_or ws c.args.index c.index-words-index-in-Some.result less
    ∙ ap Some (sym c.index-words-index-in-Some.is)) in
    (each_at (words_at c.self.inside.movement ws) None c.args.index _ c.self.invariant at).0

pub returns-in-Some : goal.returns-in-Some
returns-in-Some c =
    let ws = c.self.inside.words.now in
    moved_at c.in-Some.m ws c.args.self.now c.args.index c.index-words-index-in-Some.result
    (sym c.self.view_is ∙ ap (λ o. words_at o ws) c.in-Some.is) c.requires
    (λ less. slice_get-get_or ws c.args.index c.index-words-index-in-Some.result less
    ∙ ap Some (sym c.index-words-index-in-Some.is)) ∙ ap Some (sym c.moved_word.ensures)
