-- A sink of a fixed room: a text that is not written whole fills it.
use Rattle.std.proofs.Common.{◌≡◌, ℕ, ◌+◌, ◌≤◌, List, ◌++◌, length, take, ap, arith}
use Rattle.std.proofs.Common.{length-append, length-take}
use Rattle.outside_io.specs.Counts.{Rose}
use Rattle.outside_io.specs.SinkSeen.{FailsToWrite}
use Rattle.outside_io.specs.SafeSink.{SafeBytes, seen_of_safe_sink}

-- where the faults rose, the sink is full
pub full_of_rose : {room : ℕ} → (old new : SafeBytes room)
    → Rose (seen_of_safe_sink old).faults (seen_of_safe_sink new).faults → length new.taken.bytes ≡ room
full_of_rose old new rose = new.kept.full (let risen = rose.risen in omega arith)

-- a text of which a write failed is as long as the room that was left, or longer
pub failed_text_fills : {room : ℕ} → (old new : SafeBytes room) (text : List ℕ)
    → FailsToWrite (seen_of_safe_sink old) text (seen_of_safe_sink new)
    → room ≤ length old.taken.bytes + length text
failed_text_fills old new text fails =
    let part : List ℕ = take fails.front.0 text in
    let front : new.taken.bytes ≡ old.taken.bytes ++ part = let some = fails.front.2 in cc in
    let full = full_of_rose old new fails.rose in
    let size = length-append old.taken.bytes part in
    let all = ap length front in
    let cut = length-take fails.front.0 text in
    omega arith
