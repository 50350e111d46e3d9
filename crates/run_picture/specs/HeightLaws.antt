-- Where lines and addresses stand in a picture.
use Rattle.std.specs.Prelude.{◌≡◌, ◌⊎◌, ℕ, ◌+◌, ◌<◌, ◌≤◌, List, [], ◌∷◌, ◌++◌}
use Rattle.run_picture.specs.declared.turn.Side.{Side}
use Rattle.run_picture.specs.declared.turn.Extent.{Extent}
use Rattle.run_picture.specs.declared.turn.Turn.TheVariants.{Call}
use Rattle.run_picture.specs.Events.{EventSeen}
use Rattle.run_picture.specs.Page.{x, y}
use Rattle.run_picture.specs.Picture.{page_for}

abbrev pub IsCut : ℕ → List ℕ → Type 0
IsCut a [] = ⊥
IsCut a (c ∷ cs) = (a ≡ c) ⊎ IsCut a cs

-- a line stands to the right of those before it
abbrev pub ColumnsRise : Type 0
ColumnsRise = (es : List EventSeen) (m n : ℕ) → m < n → x (page_for es) m < x (page_for es) n

-- a higher address is drawn no lower
abbrev pub HeightsFall : Type 0
HeightsFall = (es : List EventSeen) (a b : ℕ) → a ≤ b → y (page_for es) b ≤ y (page_for es) a

-- and higher, where frames begin or end
abbrev pub CutsFall : Type 0
CutsFall = (es : List EventSeen) (a b : ℕ) → a < b → IsCut a (page_for es).cuts
    → IsCut b (page_for es).cuts → y (page_for es) b < y (page_for es) a

-- a frame begins and ends there
abbrev pub FramesEndAtCuts : Type 0
FramesEndAtCuts = (es front back : List EventSeen) (e : EventSeen) (side : Side) (span : Extent)
    → es ≡ front ++ e ∷ back → e.turn ≡ Call side span
    → IsCut span.base (page_for es).cuts × IsCut (span.last + 1) (page_for es).cuts
