-- What holds of the calls that are open in a picture.
use Rattle.std.specs.Prelude.{◌≡◌, ℕ, ◌+◌, ◌<◌, ◌≤◌, List, [], ◌∷◌, ◌++◌, length, Option, Some, None, Ok}
use Rattle.run_audit.specs.Audit.{audited}
use Rattle.run_picture.specs.declared.turn.Side.{Side}
use Rattle.run_picture.specs.declared.turn.Extent.{Extent}
use Rattle.run_picture.specs.declared.turn.Turn.TheVariants.{Call}
use Rattle.run_picture.specs.Events.{EventSeen, closing, events}
use Rattle.run_picture.specs.Held.{HeldSeen, nothing_held, held_after, shown}
use Rattle.run_picture.specs.Page.{y}
use Rattle.run_picture.specs.Picture.{page_for}

-- a text passes the audit
abbrev pub Passes : List ℕ → Type 0
Passes text = audited text ≡ Ok tt

-- what is handed over after lines
abbrev pub held_by : HeldSeen → List EventSeen → HeldSeen
held_by h [] = h
held_by h (e ∷ es) = held_by (held_after h e.turn) es

-- what is handed over after a line lies below the frame of each call that is open there
abbrev pub AreasAreFree : Type 0
AreasAreFree = (text : List ℕ) (front inner back : List EventSeen) (c : EventSeen) (side : Side)
    (span : Extent) (top : ℕ) → Passes text → events text ≡ front ++ c ∷ (inner ++ back)
    → c.turn ≡ Call side span
    → closing inner ≡ None → shown (held_by nothing_held (front ++ c ∷ inner)) ≡ Some top
    → y (page_for (events text)) span.base ≤ y (page_for (events text)) top

-- a call that is made j lines after another returns before it
abbrev pub EndsBefore : ℕ → Option ℕ → Option ℕ → Type 0
EndsBefore j inner None = Unit {0}
EndsBefore j None (Some k) = ⊥
EndsBefore j (Some i) (Some k) = j + i < k

-- a call that is made while another is open: its box lies below the other's, and ends before it
abbrev pub BoxesNest : Type 0
BoxesNest = (text : List ℕ) (front inner back : List EventSeen) (c d : EventSeen) (side1 side2 : Side)
    (outer span : Extent) → Passes text → events text ≡ front ++ c ∷ (inner ++ d ∷ back)
    → c.turn ≡ Call side1 outer → d.turn ≡ Call side2 span → closing inner ≡ None
    → (y (page_for (events text)) outer.base ≤ y (page_for (events text)) (span.last + 1))
    × EndsBefore (length inner + 1) (closing back) (closing (inner ++ d ∷ back))

-- and one that is made when it has returned: its box begins after the other's end
abbrev pub BoxesFollow : Type 0
BoxesFollow = (inner back : List EventSeen) (d : EventSeen) (k : ℕ) → closing inner ≡ Some k
    → (closing (inner ++ d ∷ back) ≡ Some k) × (k < length inner + 1)
