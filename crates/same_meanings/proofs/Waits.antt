-- Where the feed is asked, two meanings tell the same if their procedures do.
use Rattle.std.proofs.Common.{◌≡◌, ℕ, zero, suc, ◌+◌, ℤ, List, [], ◌∷◌, length, Option, Some, None, sym, ap}
use Rattle.std.proofs.Common.{◌∙◌, subst, arith}
use Rattle.source_events.specs.declared.Item.{Item}
use Rattle.source_events.specs.declared.Item.TheVariants.{Enter, Ret}
use Rattle.source_events.specs.declared.FeedPair.{FeedPair}
use Rattle.source_events.specs.declared.FeedBack.{FeedBack}
use Rattle.source_events.specs.declared.FeedBack.TheVariants as way
use Rattle.proc_semantics.specs.declared.value.Target.{Target}
use Rattle.proc_semantics.specs.Values.{Store, found, main_target}
use Rattle.proc_semantics.specs.Rules.{Level, level, start, part_name_of, hopped, left_by, entered, on_item}
use Rattle.proc_semantics.specs.Marked.{numbered_items}
use Rattle.same_meanings.specs.Same.{tracing, Waiter, wait_at, FeedOf, Sides, numbered, first_store}
use Rattle.same_meanings.specs.Same.{SameBehaviour, SameContinuation, SameWaiting, SameWaits, BothFound}
use Rattle.same_meanings.specs.Same.{SameProcedures, SameRefined, ProceduresDecide}
use Rattle.same_meanings.proofs.Steps.{of_none, same_as, both_deeper, both_fail, both_leave, both_take, later}
use Rattle.same_meanings.proofs.Steps.{later_at, later_same, fewer_wait, both_resume, both_return}

module _ (S : Sides) (size : ℕ) (P : SameProcedures S size) where
  abbrev At : ℕ → Level tracing
  At d = level tracing S.one d

  abbrev At' : ℕ → Level tracing
  At' d = level tracing S.other d

  module _ (n : ℕ) (waits : SameWaits S n) where
    hopped_same : (c c' : Option Waiter) (left : Option ℕ) (o o' : Option Target) (v : ℤ) (st st' : Store)
        → BothFound S P.Targets o o' → SameWaiting S n c c' → S.Stores st st'
        → SameBehaviour S n (λ d. hopped tracing S.one (At d) (wait_at c d) left o v st)
        (λ d. hopped tracing S.other (At' d) (wait_at c' d) left o' v st')
    hopped_same c c' left None None v st st' t h e = both_fail S n
    hopped_same c c' left (Some t) (Some t') v st st' b h e = P.hops n waits t t' b c c' h left v st st' e
    hopped_same c c' left None (Some t') v st st' b h e = absurd b
    hopped_same c c' left (Some t) None v st st' b h e = absurd b

    -- an entered procedure ends with a value
    left_same : (part : List ℕ) (c c' : Option Waiter) (k : ℕ) (left : Option ℕ) (back : FeedBack)
        → SameWaiting S n c c'
        → SameContinuation S n (λ d. left_by tracing S.one (At d) part (wait_at c d) k left back)
        (λ d. left_by tracing S.other (At' d) part (wait_at c' d) k left back)
    left_same part c c' k left way.Out h v st st' e =
        both_leave S n part k v (λ d. (At d).wait (wait_at c d) st) (λ d. (At' d).wait (wait_at c' d) st')
        (waits c c' st st' h e)
    left_same part c c' k left way.Bad h v st st' e = both_fail S n
    left_same part c c' k left (way.Hop p m) h v st st' e =
        hopped_same c c' left (found S.one p m) (found S.other p m) v st st' (P.found p m) h e
    left_same part c c' k left (way.Pair p site base) h v st st' e =
        both_return S n c c' left p site base v st st' h e

    entered_same : (c c' : Option Waiter) (o o' : Option Target) (k : ℕ) (part name : List ℕ)
        (left : Option ℕ) (ints : List (Option ℤ)) (pairs : List FeedPair) (back : FeedBack) (st st' : Store)
        → S.Fits (Enter part name left ints pairs back) → BothFound S P.Targets o o' → SameWaiting S n c c'
        → S.Stores st st'
        → SameBehaviour S n (λ d. entered tracing S.one (At d) (wait_at c d) o k left
        (tracing.fed S.one (numbered k (Enter part name left ints pairs back)) ints pairs) back st)
        (λ d. entered tracing S.other (At' d) (wait_at c' d) o' k left
        (tracing.fed S.other (numbered k (Enter part name left ints pairs back)) ints pairs) back st')
    entered_same c c' None None k part name left ints pairs back st st' fits b h e = both_fail S n
    entered_same c c' (Some t) (Some t') k part name left ints pairs back st st' fits b h e =
        P.enters n waits t t' b part name left ints pairs back fits k _ _
        (subst (λ p. SameContinuation S n (λ d. left_by tracing S.one (At d) (part_name_of S.one t.home)
        (wait_at c d)
        k left back) (λ d. left_by tracing S.other (At' d) p (wait_at c' d) k left back)) (P.parts t t' b)
        (left_same (part_name_of S.one t.home) c c' k left back h)) st st' e
    entered_same c c' None (Some t') k part name left ints pairs back st st' fits b h e = absurd b
    entered_same c c' (Some t) None k part name left ints pairs back st st' fits b h e = absurd b

    item_same : (c c' : Option Waiter) (k : ℕ) (i : Item) (st st' : Store) → S.Fits i → SameWaiting S n c c'
        → S.Stores st st'
        → SameBehaviour S n (λ d. on_item tracing S.one (At d) (wait_at c d) st (numbered k i))
        (λ d. on_item tracing S.other (At' d) (wait_at c' d) st' (numbered k i))
    item_same c c' k (Enter part name left ints pairs back) st st' fits h e =
        entered_same c c' (found S.one part name) (found S.other part name) k part name left ints pairs back
        st st' fits (P.found part name) h e
    item_same c c' k (Ret part site base v) st st' fits h e =
        both_resume S n c c' part site base None v st st' h e

    -- one item more
    waits_more : SameWaits S (suc n)
    waits_more c c' st st' h e =
        both_deeper S (suc n) (λ d. (At d).wait (wait_at c d) st) (λ d. (At' d).wait (wait_at c' d) st')
        (both_take S n (λ d. on_item tracing S.one (At d) (wait_at c (suc d)) st)
        (λ d. on_item tracing S.other (At' d) (wait_at c' (suc d)) st')
        (λ k i fits.
        same_as S n _ (λ d. on_item tracing S.one (At d) (wait_at (later S c) d) st (numbered k i)) _
        (λ d. on_item tracing S.other (At' d) (wait_at (later S c') d) st' (numbered k i))
        (λ d. ap (λ x. on_item tracing S.one (At d) x st (numbered k i)) (later_at S c d))
        (λ d. ap (λ x. on_item tracing S.other (At' d) x st' (numbered k i)) (later_at S c' d))
        (item_same (later S c) (later S c') k i st st' fits
        (later_same S n c c' (fewer_wait S n (suc n) c c' (omega arith) h)) e)))

  pub all_waits : (n : ℕ) → SameWaits S n
  all_waits zero c c' st st' h e = of_none S _ _
  all_waits (suc n) c c' st st' h e = waits_more n (all_waits n) c c' st st' h e

  pub refined_same : SameRefined S size
  refined_same feed fits =
      let s = P.starts (suc (length feed)) (all_waits (suc (length feed))) in
      let r = s.is None 0 feed (omega arith) fits in (
        r.1.enough + r.2.enough,
        λ f le.
            let d = f + length (numbered_items 0 feed) + 1 in
            let one = r.1.is d f (omega (arith, le)) (omega (arith, le)) in
            let other = r.2.is d f (omega (arith, le)) (omega (arith, le)) in
            (ap (λ u. u.events) (one ∙ sym other), ap (λ u. u.end) (one ∙ sym other)),
      )

-- a meaning without main begins where the feed is asked
pub starts_without : (S : Sides) (size n : ℕ) → main_target S.one ≡ None → main_target S.other ≡ None
    → S.Stores (first_store S.one) (first_store S.other) → SameWaits S n
    → SameBehaviour S n (λ d. start tracing S.one (level tracing S.one d) size (main_target S.one)
    (first_store S.one))
    (λ d. start tracing S.other (level tracing S.other d) size (main_target S.other) (first_store S.other))
starts_without S size n e e' st waits =
    same_as S n _ _ _ _
    (λ d. ap (λ o. start tracing S.one (level tracing S.one d) size o (first_store S.one)) e)
    (λ d. ap (λ o. start tracing S.other (level tracing S.other d) size o (first_store S.other)) e')
    (waits None None (first_store S.one) (first_store S.other) tt st)

pub procedures_decide : ProceduresDecide
procedures_decide S size P = refined_same S size P

-- of feeds of which nothing is asked
pub any_feed : (feed : List Item) → FeedOf (λ i. Unit {0}) feed
any_feed [] = tt
any_feed (i ∷ feed) = (tt, any_feed feed)
