-- The integers of items that come in to a run have 64 bits.
use Rattle.std.proofs.Common.{◌≡◌, ℤ, pos, negsuc, List, [], ◌∷◌, ◌++◌, map, Option, Some, None, Bool, true}
use Rattle.std.proofs.Common.{false, refl, sym, ap, ◌∙◌, subst}
use Rattle.std.specs.Prelude.{if◌then◌else◌}
use Rattle.cap_words.specs.declared.Word.{Word}
use Rattle.cap_words.specs.declared.Word.TheVariants.{Int, Mem, Seal, Sealed}
use Rattle.lcm_isa.specs.declared.Reg.TheVariants.{A0}
use Rattle.lcm_machine.specs.Table as machine
use Rattle.trusted_border.specs.declared.layout.Layout.{Layout}
use Rattle.trusted_border.specs.declared.events.Event.{Event}
use Rattle.trusted_border.specs.declared.events.Event.TheVariants.{Called, Returned, Entered, Left}
use Rattle.overlay_machine.specs.declared.words.OWord.{OWord}
use Rattle.overlay_machine.specs.State.{OState}
use Rattle.overlay_machine.specs.Events.{step_event}
use Rattle.run_lines.specs.Views.{View, flat_view}
use Rattle.run_lines.specs.Lines.{args_of}
use Rattle.run_lines.specs.Feed.{integer_in}
use Rattle.source_events.specs.declared.Item.{Item}
use Rattle.source_events.specs.declared.Item.TheVariants.{Enter, Ret}
use Rattle.proc_semantics.specs.Values.{fits_64}
use Rattle.proc_semantics.specs.Marked.{Thing}
use Rattle.source_laws.specs.Seen.{Shown, Back}
use Rattle.source_laws.specs.Seen as seen
use Rattle.source_laws.specs.Trace.{event_items}
use Rattle.source_laws.specs.Wiped.{TellsSince, none_yet, and_then}
use Rattle.source_laws.proofs.Offers.{things_item, map-both}
use Rattle.same_meanings.specs.Observed.{NumberFits, FeedFits}

same_fits : (z : ℤ) → fits_64 z ≡ machine.fits_64 z
same_fits (pos n) = refl
same_fits (negsuc n) = refl

number_fits : (w : Word) → NumberFits (integer_in w)
number_fits (Int z) = by (machine.fits_64 z) refl
  where
    by : (b : Bool) → machine.fits_64 z ≡ b → NumberFits (if b then Some z else None)
    by true e = same_fits z ∙ e
    by false e = tt
number_fits (Mem c) = tt
number_fits (Seal c) = tt
number_fits (Sealed n x) = tt

event_fits : (l : Layout) (v : View) (e : Option Event) → FeedFits (event_items l v e)
event_fits l v None = tt
event_fits l v (Some (Called inward i base last)) = tt
event_fits l v (Some (Returned true i base last)) = tt
event_fits l v (Some (Returned false i base last)) = (number_fits (v.reg A0), tt)
event_fits l v (Some (Entered part k back)) =
    let a = args_of v in
    ((number_fits a.a0, (number_fits a.a1, (number_fits a.a2, (number_fits a.a3, tt)))), tt)
event_fits l v (Some (Left part)) = tt

both_fit : (xs ys : List Item) → FeedFits xs → FeedFits ys → FeedFits (xs ++ ys)
both_fit [] ys f g = g
both_fit (Enter part name left ints pairs back ∷ xs) ys f g = (f.0, both_fit xs ys f.1 g)
both_fit (Ret part site base v ∷ xs) ys f g = (f.0, both_fit xs ys f.1 g)

pub feed_fits : (l : Layout) (o : OState) (es : List Shown) (is : List (Thing OWord Back)) (b p : OState)
    → TellsSince l o es is b p → FeedFits (map (λ x. x.item) is)
feed_fits l o _ _ _ _ none_yet = tt
feed_fits l o _ _ _ q (and_then {es = es} {is = is} {b = b} {p = p} t e) =
    subst FeedFits
    (sym (map-both (λ x. x.item) is (seen.event_items l q (step_event l p q))
    ∙ ap (λ z. map (λ x. x.item) is ++ z)
    (things_item l q (event_items l (flat_view l q) (step_event l p q)))))
    (both_fit _ _ (feed_fits l o es is b p t) (event_fits l (flat_view l q) (step_event l p q)))
