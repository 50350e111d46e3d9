-- Computations that tell something of a feed under a fuel, and the pieces that meanings are made of.
use Rattle.std.specs.Prelude.{ℕ, zero, suc, ◌+◌, List, [], ◌∷◌}
use Rattle.source_events.specs.declared.Item.{Item}
use Rattle.source_events.specs.declared.OutEvent.{OutEvent}
use Rattle.source_events.specs.declared.End.{End}
use Rattle.source_events.specs.declared.End.TheVariants.{Fail, Waiting, OutOfFuel}
use Rattle.source_events.specs.declared.Told.{Told}

-- a computation: what is told from the fuel that is left and the feed that is left
abbrev pub Comp : Type 0
Comp = ℕ → List Item → Told

abbrev pub ends : End → Comp
ends e fuel feed = record { events = []; end = e; ticks = 0 }

abbrev pub fails : Comp
fails = ends Fail

-- ---- ticks, each before the work

abbrev pub counted : Told → Told
counted t = record { events = t.events; end = t.end; ticks = t.ticks + 1 }

abbrev pub tick : Comp → Comp
tick m zero feed = record { events = []; end = OutOfFuel; ticks = 0 }
tick m (suc fuel) feed = counted (m fuel feed)

-- so many times
abbrev pub repeated : {C : Type 0} → (C → C) → ℕ → C → C
repeated f zero m = m
repeated f (suc n) m = f (repeated f n m)

abbrev pub ticks : ℕ → Comp → Comp
ticks n m = repeated tick n m

-- ---- events

abbrev pub said : OutEvent → Told → Told
said e t = record { events = e ∷ t.events; end = t.end; ticks = t.ticks }

abbrev pub emit : OutEvent → Comp → Comp
emit e m fuel feed = said e (m fuel feed)

-- ---- the next item of the feed; without one the end is Waiting

abbrev pub take_item : (Item → Comp) → Comp
take_item next fuel [] = record { events = []; end = Waiting; ticks = 0 }
take_item next fuel (i ∷ feed) = next i fuel feed
