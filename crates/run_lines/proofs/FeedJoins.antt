-- What goes out and what comes in, over the lines of steps one after the other.
use Rattle.std.proofs.Common.{◌≡◌, ℕ, Bool, true, false, List, [], ◌∷◌, ◌++◌, refl, sym, ap, ◌∙◌}
use Rattle.std.specs.Prelude.{if◌then◌else◌, ◌&&◌}
use Rattle.std.proofs.lemmas.Bool.{and_parts}
use Rattle.std.proofs.lemmas.List.{append_assoc}
use Rattle.cap_words.specs.declared.Word.{Word}
use Rattle.lcm_isa.specs.declared.Reg.TheVariants.{Stk}
use Rattle.trusted_border.specs.declared.layout.Layout.{Layout}
use Rattle.source_events.specs.declared.FeedBack.{FeedBack}
use Rattle.source_events.specs.declared.FeedPair.TheVariants.{Nothing as Untold}
use Rattle.source_events.specs.declared.Item.TheVariants.{Enter}
use Rattle.source_events.specs.Forms.{no_pairs}
use Rattle.source_events.specs.Left.{left_in}
use Rattle.run_lines.specs.declared.pairs.PassedPair.{PassedPair}
use Rattle.run_lines.specs.declared.pairs.PassedPair.TheVariants.{Nothing, Bad, Out, Hop}
use Rattle.run_lines.specs.declared.pairs.Pairs.{Pairs}
use Rattle.run_lines.specs.Layout.{part_name, entry_name}
use Rattle.run_lines.specs.Pairs.{is_nothing, none_paired as none_are, pairs_of}
use Rattle.run_lines.specs.Lines.{Args, Line, call, ret, enter, pass, leave, args_of, feed_back, feed_pair}
use Rattle.run_lines.specs.StepLines.{IsNoPass, AreOfStep, none_told, one_told, pass_told}
use Rattle.run_lines.specs.StepLines.{AreOfSteps, no_step, and_step}
use Rattle.run_lines.specs.Feed.{integers_in, out_of, outs_of, pairs_in, pairs_behind, item_of, items_of}
use Rattle.run_lines.specs.Feed.{feed_pairs, OutsJoin, ItemsJoin, EntriesAreItems}

pub outs_join : OutsJoin
outs_join [] ys = refl
outs_join (x ∷ xs) ys =
    ap (λ es. out_of x ++ es) (outs_join xs ys) ∙ sym (append_assoc (out_of x) (outs_of xs) (outs_of ys))

-- ---- lines that begin with no pass line

BeginsRight : List Line → Type 0
BeginsRight [] = Unit {0}
BeginsRight (x ∷ xs) = IsNoPass x

step_right : (ls : List Line) → AreOfStep ls → BeginsRight ls
unfolding BeginsRight
step_right _ none_told = tt
step_right _ (one_told h) = h
step_right _ pass_told = tt

right_append : (xs ys : List Line) → BeginsRight xs → BeginsRight ys → BeginsRight (xs ++ ys)
unfolding BeginsRight
right_append [] ys h k = k
right_append (x ∷ xs) ys h k = h

steps_right : (ls : List Line) → AreOfSteps ls → BeginsRight ls
unfolding BeginsRight
steps_right _ no_step = tt
steps_right _ (and_step {ls = ls} {more = more} h k) =
    right_append ls more (steps_right ls h) (step_right more k)

no_pass_in : (x : Line) → IsNoPass x → pairs_in x ≡ no_pairs
no_pass_in (call inward part site base last args words) h = refl
no_pass_in (ret inward part site base last a0 words) h = refl
no_pass_in (enter part export stk args back) h = refl
no_pass_in (pass p0 p1 p2) h = absurd h
no_pass_in (leave part a0) h = refl

none_behind : (ys : List Line) → BeginsRight ys → pairs_behind ys ≡ no_pairs
unfolding BeginsRight
none_behind [] h = refl
none_behind (y ∷ ys) h = no_pass_in y h

-- ---- items

same_pairs : (xs ys : List Line) → BeginsRight ys → pairs_behind (xs ++ ys) ≡ pairs_behind xs
same_pairs [] ys h = none_behind ys h
same_pairs (x ∷ xs) ys h = refl

same_item : (base : ℕ) (x : Line) (xs ys : List Line) → BeginsRight ys
    → item_of base x (xs ++ ys) ≡ item_of base x xs
same_item base (call inward part site b last args words) xs ys h = refl
same_item base (ret true part site b last a0 words) xs ys h = refl
same_item base (ret false part site b last a0 words) xs ys h = refl
same_item base (enter part export stk args back) xs ys h =
    ap (λ ps. Enter part export (left_in base stk) (integers_in args) ps back ∷ []) (same_pairs xs ys h)
same_item base (pass p0 p1 p2) xs ys h = refl
same_item base (leave part a0) xs ys h = refl

join : (base : ℕ) (xs ys : List Line) → BeginsRight ys
    → items_of base (xs ++ ys) ≡ items_of base xs ++ items_of base ys
join base [] ys h = refl
join base (x ∷ xs) ys h =
    ap (λ is. is ++ items_of base (xs ++ ys)) (same_item base x xs ys h)
    ∙ ap (λ is. item_of base x xs ++ is) (join base xs ys h)
    ∙ sym (append_assoc (item_of base x xs) (items_of base xs) (items_of base ys))

pub items_join : ItemsJoin
items_join base xs ys h = join base xs ys (steps_right ys h)

-- ---- the item of an entry

untold : (l : Layout) (p : PassedPair) → is_nothing p ≡ true → feed_pair l p ≡ Untold
untold l Nothing e = refl
untold l Bad e = absurd cc
untold l Out e = absurd cc
untold l (Hop part k) e = absurd cc

all_untold : (l : Layout) (p : Pairs) → none_are p ≡ true → feed_pairs l p ≡ no_pairs
all_untold l p e =
    let first = and_parts (is_nothing p.p0) (is_nothing p.p1 && is_nothing p.p2) e in
    let rest = and_parts (is_nothing p.p1) (is_nothing p.p2) first.1 in
    let a : feed_pair l p.p0 ≡ Untold = untold l p.p0 first.0 in
    let b : feed_pair l p.p1 ≡ Untold = untold l p.p1 rest.0 in
    let c : feed_pair l p.p2 ≡ Untold = untold l p.p2 rest.1 in
    rw (a, b, c) refl

told_or_not : (b : Bool) (base : ℕ) (l : Layout) (p : Pairs) (part export : List ℕ) (stk : Word) (args : Args)
    (back : FeedBack) → none_are p ≡ b
    → items_of base (enter part export stk args back
    ∷ (if b then [] else pass (feed_pair l p.p0) (feed_pair l p.p1) (feed_pair l p.p2) ∷ []))
    ≡ Enter part export (left_in base stk) (integers_in args) (feed_pairs l p) back ∷ []
told_or_not true base l p part export stk args back e =
    ap (λ ps. Enter part export (left_in base stk) (integers_in args) ps back ∷ []) (sym (all_untold l p e))
told_or_not false base l p part export stk args back e = refl

pub entries_are_items : EntriesAreItems
entries_are_items base l v part k back =
    let p = pairs_of l v in
    told_or_not (none_are p) base l p (part_name l part) (entry_name l part k) (v.reg Stk) (args_of v)
    (feed_back l back) refl
