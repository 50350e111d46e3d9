-- The text of a line.
use Rattle.std.specs.Prelude.{ℕ, ◌++◌, Bool, true, false, List, [], ◌∷◌, codes, decimal}
use Rattle.cap_words.specs.declared.Word.{Word}
use Rattle.cap_words.specs.Text.{word_text_of}
use Rattle.source_events.specs.Forms.{back_text, pair_text}
use Rattle.run_lines.specs.Lines.{Args, Line, call, ret, enter, pass, leave}

abbrev pub direction : Bool → List ℕ
direction true = codes "in "
direction false = codes "out "

-- a text after its blank
abbrev pub field : List ℕ → List ℕ
field t = codes " " ++ t

abbrev pub words_text : List Word → List ℕ
words_text [] = []
words_text (w ∷ ws) = field (word_text_of w) ++ words_text ws

unfoldable pub args_text : Args → List ℕ
args_text a =
    field (word_text_of a.a0) ++ (field (word_text_of a.a1)
    ++ (field (word_text_of a.a2) ++ field (word_text_of a.a3)))

unfoldable pub place_text : Bool → List ℕ → ℕ → ℕ → ℕ → List ℕ
place_text inward part site base last =
    direction inward ++ (part ++ (field (decimal site) ++ (field (decimal base) ++ field (decimal last))))

-- a line begins with a head, and those of calls and returns go on with words
abbrev pub head_text : Line → List ℕ
head_text (call inward part site base last args words) =
    codes "call " ++ (place_text inward part site base last ++ (args_text args ++ codes " :"))
head_text (ret inward part site base last a0 words) =
    codes "ret " ++ (place_text inward part site base last ++ (field (word_text_of a0) ++ codes " :"))
head_text (enter part export stk args back) =
    codes "enter " ++ (part ++ (field export ++ (field (word_text_of stk)
    ++ (args_text args ++ field (back_text back)))))
head_text (pass p0 p1 p2) =
    codes "pass " ++ (pair_text p0 ++ (field (pair_text p1) ++ field (pair_text p2)))
head_text (leave part a0) = codes "leave " ++ (part ++ field (word_text_of a0))

abbrev pub words_of : Line → List Word
words_of (call inward part site base last args words) = words
words_of (ret inward part site base last a0 words) = words
words_of (enter part export stk args back) = []
words_of (pass p0 p1 p2) = []
words_of (leave part a0) = []

unfoldable pub line_text : Line → List ℕ
line_text l = head_text l ++ (words_text (words_of l) ++ codes "\n")

abbrev pub lines_text : List Line → List ℕ
lines_text [] = []
lines_text (l ∷ ls) = line_text l ++ lines_text ls

-- ---- the pieces in which a line is written, each by one write

-- each word after its blank
abbrev pub words_pieces : List Word → List (List ℕ)
words_pieces [] = []
words_pieces (w ∷ ws) = field (word_text_of w) ∷ words_pieces ws

abbrev pub head_and_words : Line → List (List ℕ)
head_and_words l = head_text l ∷ (words_pieces (words_of l) ++ codes "\n" ∷ [])

-- those of calls and returns in their head, each word and the newline, and every other line in one
abbrev pub line_pieces : Line → List (List ℕ)
line_pieces (call inward part site base last args words) =
    head_and_words (call inward part site base last args words)
line_pieces (ret inward part site base last a0 words) =
    head_and_words (ret inward part site base last a0 words)
line_pieces l = line_text l ∷ []

abbrev pub lines_pieces : List Line → List (List ℕ)
lines_pieces [] = []
lines_pieces (l ∷ ls) = line_pieces l ++ lines_pieces ls
