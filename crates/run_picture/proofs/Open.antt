-- What is handed over, and what is called, while a call is open.
use Rattle.std.proofs.Common.{◌+◌, ◌≤◌, [], ◌∷◌, ◌++◌, refl, subst, arith}
use Rattle.run_picture.specs.Events.{closing, events}
use Rattle.run_picture.specs.Held.{nothing_held}
use Rattle.run_picture.specs.OpenLaws.{AreasAreFree, BoxesNest, BoxesFollow}
use Rattle.run_picture.proofs.Closing.{closed_still}
use Rattle.run_picture.proofs.Fits.{Fits, at_open, shown_low, call_low, call_inside}
use Rattle.run_picture.proofs.Passes.{passes_fit}
use Rattle.run_picture.proofs.Stands.{heights_fall}

pub areas_are_free : AreasAreFree
unfolding closing
areas_are_free text front inner back c side span top p are is none shows =
    let f : Fits [] (front ++ c ∷ (inner ++ back)) = subst (Fits []) are (passes_fit text p) in
    let d = at_open nothing_held front inner back c side span refl f is none in
    heights_fall (events text) top span.base (shown_low nothing_held front inner back c span top d shows)

pub boxes_nest : BoxesNest
unfolding closing
boxes_nest text front inner back c d side1 side2 outer span p are is1 is2 none =
    let f : Fits [] (front ++ c ∷ (inner ++ d ∷ back)) = subst (Fits []) are (passes_fit text p) in
    let at = at_open nothing_held front inner (d ∷ back) c side1 outer refl f is1 none in
    let lt = call_low nothing_held front inner back c d outer span side2 at is2 in
    let low : span.last + 1 ≤ outer.base = omega arith in (
      heights_fall (events text) (span.last + 1) outer.base low,
      call_inside nothing_held front inner back c d outer span side2 at is2,
    )

pub boxes_follow : BoxesFollow
boxes_follow inner back d k h = closed_still inner (d ∷ back) k h
