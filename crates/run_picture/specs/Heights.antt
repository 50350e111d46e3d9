-- Where addresses are drawn: the higher an address, the higher it stands.
use Rattle.std.specs.Prelude.{ℕ, ◌+◌, ◌-◌, ◌*◌, ◌==◌, nat_lt, nat_le, min, List, [], ◌∷◌, Option, Some, None}
use Rattle.std.specs.Prelude.{Bool, if◌then◌else◌}
use Rattle.run_picture.specs.declared.turn.Turn.{Turn}
use Rattle.run_picture.specs.declared.turn.Turn.TheVariants.{Call, Ret, Enter, Leave, Other}
use Rattle.run_picture.specs.declared.heights.Scale.{Scale}
use Rattle.run_picture.specs.Events.{EventSeen}

-- a cut isn't above an address
abbrev pub reaches : ℕ → ℕ → Bool
reaches a c = nat_le c a

-- an address put into a list that falls, where it isn't in it
abbrev pub with_cut : ℕ → List ℕ → List ℕ
with_cut a [] = a ∷ []
with_cut a (c ∷ cs) =
    if reaches a c then (if c == a then c ∷ cs else a ∷ c ∷ cs) else c ∷ with_cut a cs

-- a frame begins and ends there, or a stack ends there that is handed over
abbrev pub with_turn : Turn → List ℕ → List ℕ
with_turn (Call side span) cs = with_cut span.base (with_cut (span.last + 1) cs)
with_turn (Ret side span) cs = cs
with_turn (Enter None) cs = cs
with_turn (Enter (Some end)) cs = with_cut (end + 1) cs
with_turn Leave cs = cs
with_turn Other cs = cs

-- the cuts of lines, the highest first, beside those that are known
abbrev pub cuts_from : List ℕ → List EventSeen → List ℕ
cuts_from cs [] = cs
cuts_from cs (e ∷ es) = cuts_from (with_turn e.turn cs) es

-- how many words an address is drawn below the highest cut: between two cuts at most so many
abbrev pub below : ℕ → List ℕ → ℕ → ℕ
below most [] a = 0
below most (c ∷ []) a = 0
below most (c ∷ d ∷ cs) a = if nat_lt a c then min (c - d) most + below most (d ∷ cs) a else 0

-- such a scale fits the page
abbrev pub fits : List ℕ → Scale → Bool
fits cs s = nat_le (s.px * below s.most cs 0) 560

-- the first that fits
unfoldable pub scale_of : List ℕ → Scale
scale_of cs =
    let near : Scale = record { most = 16; px = 16 } in
    let half : Scale = record { most = 16; px = 8 } in
    let less : Scale = record { most = 8; px = 4 } in
    let far : Scale = record { most = 4; px = 2 } in
    if fits cs near then near else if fits cs half then half else if fits cs less then less
    else if fits cs far then far else record { most = 1; px = 1 }
