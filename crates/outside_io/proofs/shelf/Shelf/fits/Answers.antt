use Rattle.outside_io.proofs.Named.{is_left, fits_there, fits_new, fits_nowhere}
use Rattle.outside_io.proofs.shelf.Shelf.fits.Goals as goal

pub returns-in-Some : goal.returns-in-Some
returns-in-Some c =
    let left = is_left _ _ _ c.places_left-places.ensures c.room_left-room.ensures in
    fits_there _ _ _ _ _ _ _ left c.in-Some.ensures c.saturating_sub.ensures

pub returns-then-places-gt0 : goal.returns-then-places-gt0
returns-then-places-gt0 c =
    let left = is_left _ _ _ c.places_left-places.ensures c.room_left-room.ensures in
    fits_new _ _ _ _ _ left c.in-None.ensures c.if-places-gt0.true

pub returns-else-places-gt0 : goal.returns-else-places-gt0
returns-else-places-gt0 c =
    let left = is_left _ _ _ c.places_left-places.ensures c.room_left-room.ensures in
    fits_nowhere _ _ _ _ _ left c.in-None.ensures c.if-places-gt0.false
