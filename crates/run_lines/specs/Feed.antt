-- What lines tell of trusted code as a whole: what goes out of it, and what comes in, one after another.
use Rattle.std.specs.Prelude.{◌≡◌, ℕ, ◌++◌, true, false, ℤ, List, [], ◌∷◌, Option, Some, None, if◌then◌else◌}
use Rattle.cap_words.specs.declared.Word.{Word}
use Rattle.cap_words.specs.declared.Word.TheVariants.{Int}
use Rattle.lcm_isa.specs.declared.Reg.TheVariants.{Stk}
use Rattle.lcm_machine.specs.Table.{fits_64}
use Rattle.trusted_border.specs.declared.layout.Layout.{Layout}
use Rattle.trusted_border.specs.declared.events.Back.{Back}
use Rattle.trusted_border.specs.declared.events.Event.TheVariants.{Entered}
use Rattle.source_events.specs.declared.FeedPair.{FeedPair}
use Rattle.source_events.specs.declared.Item.{Item}
use Rattle.source_events.specs.declared.Item.TheVariants.{Enter, Ret}
use Rattle.source_events.specs.declared.OutArg.{OutArg}
use Rattle.source_events.specs.Forms.{no_pairs}
use Rattle.source_events.specs.Left.{left_in}
use Rattle.source_events.specs.Outs.{OutLine, call_out, leave_out, out_arg}
use Rattle.run_lines.specs.declared.pairs.Pairs.{Pairs}
use Rattle.run_lines.specs.Layout.{part_name, entry_name}
use Rattle.run_lines.specs.Views.{View}
use Rattle.run_lines.specs.Pairs.{pairs_of}
use Rattle.run_lines.specs.Lines.{Args, Line, call, ret, enter, pass, leave}
use Rattle.run_lines.specs.Lines.{args_of, feed_back, feed_pair, lines_for}
use Rattle.run_lines.specs.StepLines.{AreOfSteps}

-- ---- words as values

-- an integer has 64 bits
abbrev pub integer_in : Word → Option ℤ
integer_in (Int z) = if fits_64 z then Some z else None
integer_in _ = None

abbrev pub integers_in : Args → List (Option ℤ)
integers_in a = integer_in a.a0 ∷ integer_in a.a1 ∷ integer_in a.a2 ∷ integer_in a.a3 ∷ []

-- ---- what goes out

abbrev pub out_args : Args → List OutArg
out_args a =
    out_arg (integer_in a.a0) ∷ out_arg (integer_in a.a1)
    ∷ out_arg (integer_in a.a2) ∷ out_arg (integer_in a.a3) ∷ []

-- calls and leaves to code that isn't trusted
abbrev pub out_of : Line → List OutLine
out_of (call true part site base last args words) = []
out_of (call false part site base last args words) = call_out part site (out_args args) ∷ []
out_of (ret inward part site base last a0 words) = []
out_of (enter part export stk args back) = []
out_of (pass p0 p1 p2) = []
out_of (leave part a0) = leave_out part (out_arg (integer_in a0)) ∷ []

abbrev pub outs_of : List Line → List OutLine
outs_of [] = []
outs_of (x ∷ xs) = out_of x ++ outs_of xs

-- ---- what comes in

abbrev pub pairs_in : Line → List FeedPair
pairs_in (pass p0 p1 p2) = p0 ∷ p1 ∷ p2 ∷ []
pairs_in _ = no_pairs

-- the pairs of an enter line, by the lines after it
abbrev pub pairs_behind : List Line → List FeedPair
pairs_behind [] = no_pairs
pairs_behind (x ∷ xs) = pairs_in x

-- an enter line is an item, and so is the ret line of a call that code which isn't trusted answers
abbrev pub item_of : ℕ → Line → List Line → List Item
item_of base (call inward part site b last args words) xs = []
item_of base (ret true part site b last a0 words) xs = []
item_of base (ret false part site b last a0 words) xs = Ret part site b (integer_in a0) ∷ []
item_of base (enter part export stk args back) xs =
    Enter part export (left_in base stk) (integers_in args) (pairs_behind xs) back ∷ []
item_of base (pass p0 p1 p2) xs = []
item_of base (leave part a0) xs = []

-- where the stack begins at this base
abbrev pub items_of : ℕ → List Line → List Item
items_of base [] = []
items_of base (x ∷ xs) = item_of base x xs ++ items_of base xs

-- ---- laws

abbrev pub OutsJoin : Type 0
OutsJoin = (xs ys : List Line) → outs_of (xs ++ ys) ≡ outs_of xs ++ outs_of ys

-- an enter line and its pass line are of one step
abbrev pub ItemsJoin : Type 0
ItemsJoin =
    (base : ℕ) (xs ys : List Line) → AreOfSteps ys
    → items_of base (xs ++ ys) ≡ items_of base xs ++ items_of base ys

abbrev pub feed_pairs : Layout → Pairs → List FeedPair
feed_pairs l p = feed_pair l p.p0 ∷ feed_pair l p.p1 ∷ feed_pair l p.p2 ∷ []

-- the item of an entry has the pairs of the state, whether a pass line tells them or not
abbrev pub EntriesAreItems : Type 0
EntriesAreItems =
    (base : ℕ) (l : Layout) (v : View) (part k : ℕ) (back : Back)
    → items_of base (lines_for l v (Some (Entered part k back)))
    ≡ Enter (part_name l part) (entry_name l part k) (left_in base (v.reg Stk)) (integers_in (args_of v))
    (feed_pairs l (pairs_of l v)) (feed_back l back) ∷ []
