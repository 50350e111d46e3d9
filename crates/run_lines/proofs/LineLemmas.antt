-- The pieces of a line, one after the other.
use Rattle.std.proofs.Common.{◌≡◌, ℕ, suc, ◌+◌, ◌<◌, List, [], ◌∷◌, ◌++◌, refl, sym, ap, ◌∙◌, arith, add-one}
use Rattle.std.proofs.Common.{subst, codes, Result}
use Rattle.std.specs.Prelude.{IsErr}
use Rattle.std.specs.List.{concat}
use Rattle.outside_io.specs.declared.outside.Failed.{Failed}
use Rattle.outside_io.specs.Writes.{AddsPieces, FailsAtPiece, Writes}
use Rattle.std.proofs.lemmas.List.{append_assoc, append-nil}
use Rattle.std.proofs.lemmas.List.Folds.{concat-append}
use Rattle.outside_io.specs.SinkSeen.{SinkSeen}
use Rattle.cap_words.specs.declared.Word.{Word}
use Rattle.cap_words.specs.Text.{word_text_of}
use Rattle.run_lines.specs.Views.{View}
use Rattle.run_lines.specs.Lines.{Line, call, ret, enter, pass, leave, list_of, words_seen}
use Rattle.run_lines.specs.Texts.{field, words_text, words_of, head_text, line_text, lines_text}
use Rattle.run_lines.specs.Texts.{words_pieces, head_and_words, line_pieces, lines_pieces}
use Rattle.outside_io.proofs.Offers.{pieces_then, pieces_fail, fail_more, fails_upto, writes_behind}
use Rattle.outside_io.proofs.Offers.{failed_writes}

-- ---- cells

words_pieces-append : (xs ys : List Word) → words_pieces (xs ++ ys) ≡ words_pieces xs ++ words_pieces ys
words_pieces-append [] ys = refl
words_pieces-append (x ∷ xs) ys = ap (λ ps. field (word_text_of x) ∷ ps) (words_pieces-append xs ys)

-- the pieces of the words of n cells
abbrev pub cells_pieces : View → ℕ → ℕ → List (List ℕ)
cells_pieces v a n = words_pieces (words_seen v a n)

abbrev pub cell_pieces : View → ℕ → ℕ → List (List ℕ)
cell_pieces v a n = words_pieces (list_of (v.cell (a + n)))

cells_grow : (v : View) (a n : ℕ) → cells_pieces v a (suc n) ≡ cells_pieces v a n ++ cell_pieces v a n
cells_grow v a n = words_pieces-append (words_seen v a n) (list_of (v.cell (a + n)))

pub cell_more : (v : View) (a n : ℕ) (s t u : SinkSeen) → AddsPieces s (cells_pieces v a n) t
    → AddsPieces t (cell_pieces v a n) u → AddsPieces s (cells_pieces v a (n + 1)) u
cell_more v a n s t u e f =
    rw (add-one, cells_grow v a n) (pieces_then s t u (cells_pieces v a n) (cell_pieces v a n) e f)

pub cell_fails : (v : View) (a i n : ℕ) (s t u : SinkSeen) → i < n → AddsPieces s (cells_pieces v a i) t
    → FailsAtPiece t (cell_pieces v a i) u → FailsAtPiece s (cells_pieces v a n) u
cell_fails v a i n s t u lt e f =
    fails_upto (cells_pieces v a) (cell_pieces v a) (cells_grow v a) s u (suc i) n (omega arith)
    (rw (cells_grow v a i) (pieces_fail s t u (cells_pieces v a i) (cell_pieces v a i) e f))

-- ---- a line that is written in its head, its words and the newline

-- its head failed to be written
pub head_fails : {A : Type 0} → (l : Line) (a c : SinkSeen) (h : List ℕ) (r : Result A Failed)
    → h ≡ head_text l → IsErr r → FailsAtPiece a (h ∷ []) c → Writes a (head_and_words l) r c
head_fails l a c h r e bad f =
    failed_writes a c _ r bad
    (fail_more a c (head_text l ∷ []) (words_pieces (words_of l) ++ codes "\n" ∷ [])
    (subst (λ t. FailsAtPiece a (t ∷ []) c) e f))

-- its head was written, and then its words, or not
pub line_written : {A : Type 0}
    → (l : Line) (a b c : SinkSeen) (h : List ℕ) (ws : List Word) (r : Result A Failed) → h ≡ head_text l
    → ws ≡ words_of l
    → AddsPieces a (h ∷ []) b → Writes b (words_pieces ws ++ codes "\n" ∷ []) r c
    → Writes a (head_and_words l) r c
line_written l a b c h ws r e k f w =
    writes_behind a b c (head_text l ∷ []) (words_pieces (words_of l) ++ codes "\n" ∷ [])
    r (subst (λ t. AddsPieces a (t ∷ []) b) e f)
    (subst (λ t. Writes b (words_pieces t ++ codes "\n" ∷ []) r c) k w)

-- the head and the first word of a line
with_word : (l : Line) (w : Word) (ws : List Word) → w ∷ ws ≡ words_of l
    → head_and_words l ≡ (head_text l ∷ field (word_text_of w) ∷ []) ++ (words_pieces ws ++ codes "\n" ∷ [])
with_word l w ws k = ap (λ t. head_text l ∷ (words_pieces t ++ codes "\n" ∷ [])) (sym k)

-- its head was written, and not its first word
pub word_fails : {A : Type 0}
    → (l : Line) (a b c : SinkSeen) (h t : List ℕ) (w : Word) (ws : List Word) (r : Result A Failed)
    → h ≡ head_text l → w ∷ ws ≡ words_of l → t ≡ word_text_of w
    → IsErr r → AddsPieces a (h ∷ []) b → FailsAtPiece b (field t ∷ []) c → Writes a (head_and_words l) r c
word_fails l a b c h t w ws r e k same bad f g =
    let there : FailsAtPiece a (head_text l ∷ field (word_text_of w) ∷ []) c =
    pieces_fail a b c (head_text l ∷ []) (field (word_text_of w) ∷ [])
    (subst (λ x. AddsPieces a (x ∷ []) b) e f) (subst (λ x. FailsAtPiece b (field x ∷ []) c) same g) in
    subst (λ ps. Writes a ps r c) (sym (with_word l w ws k))
    (failed_writes a c _ r bad (fail_more a c _ (words_pieces ws ++ codes "\n" ∷ []) there))

-- its head and first word were written, and then its other words, or not
pub word_written : {A : Type 0}
    → (l : Line) (a b m c : SinkSeen) (h t : List ℕ) (w : Word) (ws vs : List Word) (r : Result A Failed)
    → h ≡ head_text l → w ∷ ws ≡ words_of l → t ≡ word_text_of w → vs ≡ ws
    → AddsPieces a (h ∷ []) b → AddsPieces b (field t ∷ []) m
    → Writes m (words_pieces vs ++ codes "\n" ∷ []) r c → Writes a (head_and_words l) r c
word_written l a b m c h t w ws vs r e k same q f g rest =
    let there : AddsPieces a (head_text l ∷ field (word_text_of w) ∷ []) m =
    pieces_then a b m (head_text l ∷ []) (field (word_text_of w) ∷ [])
    (subst (λ x. AddsPieces a (x ∷ []) b) e f) (subst (λ x. AddsPieces b (field x ∷ []) m) same g) in
    subst (λ ps. Writes a ps r c) (sym (with_word l w ws k))
    (writes_behind a m c _ (words_pieces ws ++ codes "\n" ∷ [])
    r there (subst (λ x. Writes m (words_pieces x ++ codes "\n" ∷ []) r c) q rest))

-- ---- the pieces of a line are its text

words_joined : (ws : List Word) → concat (words_pieces ws) ≡ words_text ws
words_joined [] = refl
words_joined (w ∷ ws) = ap (λ t. field (word_text_of w) ++ t) (words_joined ws)

whole_joined : (l : Line) → concat (head_and_words l) ≡ line_text l
unfolding line_text
whole_joined l =
    ap (λ t. head_text l ++ t)
    (concat-append (words_pieces (words_of l)) (codes "\n" ∷ [])
    ∙ ap (λ t. t ++ codes "\n") (words_joined (words_of l)))

line_joined : (l : Line) → concat (line_pieces l) ≡ line_text l
line_joined (call inward part site base last args words) =
    whole_joined (call inward part site base last args words)
line_joined (ret inward part site base last a0 words) = whole_joined (ret inward part site base last a0 words)
line_joined (enter part export stk args back) = append-nil _
line_joined (pass p0 p1 p2) = append-nil _
line_joined (leave part a0) = append-nil _

pub lines_joined : (ls : List Line) → concat (lines_pieces ls) ≡ lines_text ls
lines_joined [] = refl
lines_joined (l ∷ ls) =
    concat-append (line_pieces l) (lines_pieces ls) ∙ ap (λ t. t ++ concat (lines_pieces ls)) (line_joined l)
    ∙ ap (λ t. line_text l ++ t) (lines_joined ls)

-- with a last line after them
pub joined_with : (ls : List Line) (last : List ℕ)
    → concat (lines_pieces ls ++ last ∷ []) ≡ lines_text ls ++ last
joined_with ls last =
    concat-append (lines_pieces ls) (last ∷ []) ∙ ap (λ t. t ++ (last ++ [])) (lines_joined ls)
    ∙ ap (λ t. lines_text ls ++ t) (append-nil last)

pub lines_pieces-append : (xs ys : List Line) → lines_pieces (xs ++ ys) ≡ lines_pieces xs ++ lines_pieces ys
lines_pieces-append [] ys = refl
lines_pieces-append (x ∷ xs) ys = ap (λ ps. line_pieces x ++ ps) (lines_pieces-append xs ys)
    ∙ sym (append_assoc (line_pieces x) (lines_pieces xs) (lines_pieces ys))
