-- The line of an event, as a value: it knows nothing of bytes.
use Rattle.std.specs.Prelude.{ℕ, zero, suc, ◌+◌, ◌-◌, ◌++◌, Bool, List, [], ◌∷◌, Option, Some, None}
use Rattle.std.specs.Prelude.{if◌then◌else◌}
use Rattle.cap_words.specs.declared.Word.{Word}
use Rattle.lcm_isa.specs.declared.Reg.TheVariants.{Stk, Dat, A0, A1, A2, A3}
use Rattle.trusted_border.specs.declared.layout.Layout.{Layout}
use Rattle.trusted_border.specs.declared.events.Back.{Back}
use Rattle.trusted_border.specs.declared.events.Back.TheVariants.{Out, Bad, Hop, Pair}
use Rattle.trusted_border.specs.declared.events.Event.{Event}
use Rattle.trusted_border.specs.declared.events.Event.TheVariants.{Called, Returned, Entered, Left}
use Rattle.source_events.specs.declared.FeedBack.{FeedBack}
use Rattle.source_events.specs.declared.FeedBack.TheVariants as way
use Rattle.source_events.specs.declared.FeedPair.{FeedPair}
use Rattle.source_events.specs.declared.FeedPair.TheVariants as fed
use Rattle.run_lines.specs.Layout.{part_name, entry_name, site_of}
use Rattle.run_lines.specs.declared.pairs.PassedPair.{PassedPair as PairOf}
use Rattle.run_lines.specs.declared.pairs.PassedPair.TheVariants.{Nothing, Bad as BadPair, Out as OutPair}
use Rattle.run_lines.specs.declared.pairs.PassedPair.TheVariants.{Hop as HopPair}
use Rattle.run_lines.specs.declared.pairs.Pairs.{Pairs}
use Rattle.run_lines.specs.Pairs.{pairs_of, none_paired}
use Rattle.run_lines.specs.Views.{View}

-- the words of a0 to a3
pub record Args : Type 0 where
  pub a0 : Word
  pub a1 : Word
  pub a2 : Word
  pub a3 : Word

-- An enter line tells what an `xjmp rcode rdata` would do, and a pass line what an `xjmp` of an argument
-- register and the next one would do, and nothing where one of the two holds no sealed word or a linear one.
pub data Line : Type 0 where
  call : (inward : Bool) (part : List ℕ) (site base last : ℕ) (args : Args) (words : List Word) → Line
  ret : (inward : Bool) (part : List ℕ) (site base last : ℕ) (a0 : Word) (words : List Word) → Line
  enter : (part export : List ℕ) (stk : Word) (args : Args) (back : FeedBack) → Line
  pass : (p0 p1 p2 : FeedPair) → Line
  leave : (part : List ℕ) (a0 : Word) → Line

abbrev pub args_of : View → Args
args_of v = record { a0 = v.reg A0; a1 = v.reg A1; a2 = v.reg A2; a3 = v.reg A3 }

abbrev pub list_of : {A : Type 0} → Option A → List A
list_of None = []
list_of (Some x) = x ∷ []

-- the words that there are at n addresses from one on
abbrev pub words_seen : View → ℕ → ℕ → List Word
words_seen v a zero = []
words_seen v a (suc n) = words_seen v a n ++ list_of (v.cell (a + n))

-- where returns and pairs lead, by the names of the start
abbrev pub feed_back : Layout → Back → FeedBack
feed_back l Out = way.Out
feed_back l Bad = way.Bad
feed_back l (Hop part k) = way.Hop (part_name l part) (entry_name l part k)
feed_back l (Pair i base) = way.Pair (part_name l (site_of l i).part) (site_of l i).index base

abbrev pub feed_pair : Layout → PairOf → FeedPair
feed_pair l Nothing = fed.Nothing
feed_pair l BadPair = fed.Bad
feed_pair l OutPair = fed.Out
feed_pair l (HopPair part k) = fed.Hop (part_name l part) (entry_name l part k)

-- its names are those of the start, its words are read from the state after the instruction
abbrev pub line_of : Layout → View → Event → Line
line_of l v (Called inward i base last) =
    call inward (part_name l (site_of l i).part) (site_of l i).index base last (args_of v)
    (words_seen v base (last + 1 - base))
line_of l v (Returned inward i base last) =
    ret inward (part_name l (site_of l i).part) (site_of l i).index base last (v.reg A0)
    (v.reg Dat ∷ words_seen v (base + 1) (last - base))
line_of l v (Entered part k back) =
    enter (part_name l part) (entry_name l part k) (v.reg Stk) (args_of v) (feed_back l back)
line_of l v (Left part) = leave (part_name l part) (v.reg A0)

abbrev pub pass_line : Layout → Pairs → Line
pass_line l p = pass (feed_pair l p.p0) (feed_pair l p.p1) (feed_pair l p.p2)

-- the line of the pairs of an entry, where one is more than nothing
abbrev pub pass_lines : Layout → Pairs → List Line
pass_lines l p = if none_paired p then [] else pass_line l p ∷ []

-- what stands after the line of an event
abbrev pub lines_behind : Layout → View → Event → List Line
lines_behind l v (Entered part k back) = pass_lines l (pairs_of l v)
lines_behind l v _ = []

-- the lines of a step, by its event
abbrev pub lines_for : Layout → View → Option Event → List Line
lines_for l v None = []
lines_for l v (Some e) = line_of l v e ∷ lines_behind l v e
