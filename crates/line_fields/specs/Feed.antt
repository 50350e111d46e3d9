-- What a feed tells, line by line.
use Rattle.std.specs.Prelude.{ℕ, ◌+◌, Bool, true, false, List, [], ◌∷◌, Option, Some, None}
use Rattle.std.specs.Prelude.{Result, Ok, Err, option_and_then}
use Rattle.source_events.specs.declared.Item.{Item}
use Rattle.source_events.specs.declared.Item.TheVariants as item
use Rattle.source_events.specs.declared.FeedPair.{FeedPair}
use Rattle.source_events.specs.Forms.{no_pairs}
use Rattle.source_events.specs.Left.{left_in}
use Rattle.line_fields.specs.Numbers.{integer_in}
use Rattle.line_fields.specs.Words.{word_in}
use Rattle.line_fields.specs.Fields.{lines}
use Rattle.line_fields.specs.declared.fault.FeedFault.{FeedFault}
use Rattle.line_fields.specs.declared.fault.FeedFault.TheVariants.{Line}
use Rattle.line_fields.specs.declared.line.FeedLine.{FeedLine}
use Rattle.line_fields.specs.declared.line.FeedLine.TheVariants.{Enter, Ret, Pass, Other}
use Rattle.line_fields.specs.Seen.{EnterSeen, RetSeen}
use Rattle.line_fields.specs.Lines.{seen, is_enter}

-- ---- items

abbrev pub pairs_of : Option FeedLine → List FeedPair
pairs_of None = no_pairs
pairs_of (Some (Enter e)) = no_pairs
pairs_of (Some (Ret r)) = no_pairs
pairs_of (Some (Pass p)) = p.p0 ∷ p.p1 ∷ p.p2 ∷ []
pairs_of (Some Other) = no_pairs

-- the pairs of an `enter` line, by the lines after it
abbrev pub pairs_next : List (List ℕ) → List FeedPair
pairs_next [] = no_pairs
pairs_next (line ∷ rest) = pairs_of (seen true line)

-- how many words of stack are handed over by a field; none by a text that is none of a word
abbrev pub left_of : ℕ → List ℕ → Option ℕ
left_of base text = option_and_then (left_in base) (word_in text)

abbrev pub entered_item : ℕ → EnterSeen → List FeedPair → Item
entered_item base e pairs =
    item.Enter e.part e.name (left_of base e.stk)
    (integer_in e.a0 ∷ integer_in e.a1 ∷ integer_in e.a2 ∷ integer_in e.a3 ∷ []) pairs e.back

abbrev pub answer_item : RetSeen → Item
answer_item r = item.Ret r.part r.site r.base (integer_in r.a0)

-- the item of a line, by the lines after it
abbrev pub line_item : ℕ → FeedLine → List (List ℕ) → Option Item
line_item base (Enter e) rest = Some (entered_item base e (pairs_next rest))
line_item base (Ret r) rest = Some (answer_item r)
line_item base (Pass p) rest = None
line_item base Other rest = None

abbrev pub line_items : Option Item → List Item
line_items None = []
line_items (Some i) = i ∷ []

-- ---- the whole

abbrev pub with_item : Option Item → Result (List Item) FeedFault → Result (List Item) FeedFault
with_item None r = r
with_item (Some i) (Ok items) = Ok (i ∷ items)
with_item (Some i) (Err e) = Err e

abbrev pub fed_line : ℕ → ℕ → List (List ℕ) → Option FeedLine → (Bool → Result (List Item) FeedFault)
    → Result (List Item) FeedFault
fed_line base n rest None more = Err (Line n)
fed_line base n rest (Some s) more = with_item (line_item base s rest) (more (is_enter s))

-- of lines, the first of which has this number and stands right after an `enter` line or not
unfoldable pub fed_from : ℕ → Bool → ℕ → List (List ℕ) → Result (List Item) FeedFault
fed_from base entry n [] = Ok []
fed_from base entry n (line ∷ rest) = fed_line base n rest (seen entry line)
    (λ b. fed_from base b (n + 1) rest)

-- where stacks begin at this base
unfoldable pub fed : ℕ → List ℕ → Result (List Item) FeedFault
fed base text = fed_from base false 1 (lines text)
