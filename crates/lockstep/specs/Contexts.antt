-- Trusted parts that show the same on every feed can't be told apart by any code outside.
use Rattle.std.specs.Prelude.{◌≡◌, ℕ, true, false, List, [], ◌∷◌, map, Option, Some}
use Rattle.trusted_border.specs.declared.layout.Layout.{Layout}
use Rattle.overlay_machine.specs.State.{OState}
use Rattle.overlay_machine.specs.Step.{goes, overlay_step}
use Rattle.overlay_machine.specs.Link.{Link}
use Rattle.overlay_machine.specs.Linked.{IsLink}
use Rattle.overlay_machine.specs.Runs.{Reached}
use Rattle.template_runs.specs.Runs.{is_inside}
use Rattle.lockstep.specs.Related.{SameNames, Calls, Alike, ComesAlike}
use Rattle.lockstep.specs.Lockstep.{Round, IsRound, Path, SameCrossing, SameWiped, InStep, HoldsAlong, Tidies}
use Rattle.lockstep.specs.Lockstep.{AreBelow}

-- Items, by which code outside comes in, and observations, by which trusted code lets go; and how a state
-- before and after a step shows the one, and a round the other. Calls that went out are named by their
-- places in the list of their numbers, newest first, which a round may make longer.
pub record Observer (I O : Type 0) : Type 0 where
  pub item : OState → OState → I
  pub shown : List ℕ → Round → O
  pub calls : List ℕ → Round → List ℕ

abbrev pub RoundShows : {I O : Type 0} → Observer I O → List ℕ → Round → O → List ℕ → Type 0
RoundShows t ks r x ms = (t.shown ks r ≡ x) × (t.calls ks r ≡ ms)

-- the numbers of calls that stand for each other, of the one and of the other run
abbrev pub firsts : Calls → List ℕ
firsts cs = map (λ c. c.0) cs

abbrev pub seconds : Calls → List ℕ
seconds cs = map (λ c. c.1) cs

-- Of two runs: items tell no more than code outside has alike, and observations all that it may see.
pub record TellAlike {I O : Type 0} (g h : Link) (names : SameNames g h) (o o' : OState) (t u : Observer I O)
    : Type 0 where
  pub items : (cs : Calls) (i j : ℕ) (p q p' q' : OState) → Reached g.layout o i p → Reached h.layout o' j p'
      → overlay_step g.layout p ≡ goes q → overlay_step h.layout p' ≡ goes q'
      → ComesAlike g h names cs p q p' q' → t.item p q ≡ u.item p' q'
  pub shown : (cs : Calls) (i j : ℕ) (a b : Round) (x : O) (ks ms : List ℕ) → Reached g.layout o i a.before
      → Reached h.layout o' j b.before → IsRound g.layout a → IsRound h.layout b
      → Alike g h names cs a.before b.before → AreBelow cs a.before b.before
      → RoundShows t (firsts cs) a x ks → RoundShows u (seconds cs) b x ms
      → (ds : Calls) × SameCrossing g h names cs a b ds × SameWiped g a b
      × (firsts ds ≡ ks) × (seconds ds ≡ ms)

-- what rounds show after each other, by what is observed on each feed: and what is observed on feeds from
-- then on, and the calls that went out by then
pub data RoundsShow {I O : Type 0} (t : Observer I O) : (List I → Option O) → List ℕ → List Round
    → (List I → Option O) → List ℕ → Type 0 where
  none_yet : {observed : List I → Option O} {ks : List ℕ} → RoundsShow t observed ks [] observed ks
  one_more : {observed later : List I → Option O} {ks ms ns : List ℕ} {rs : List Round} (r : Round) (x : O)
      → observed (t.item r.before r.entered ∷ []) ≡ Some x → RoundShows t ks r x ms
      → RoundsShow t (λ xs. observed (t.item r.before r.entered ∷ xs)) ms rs later ns
      → RoundsShow t observed ks (r ∷ rs) later ns

-- What trusted parts show from a state on is told by the feed alone: where code outside comes in and
-- something is observed on the feed by then, they let go of control, and wherever they do, that is what they
-- show.
pub record Matches {I O : Type 0} (l : Layout) (t : Observer I O) (observed : List I → Option O) (ks : List ℕ)
    (p : OState) : Type 0 where
  pub comes : (n : ℕ) (rs : List Round) (z m : OState) (later : List I → Option O) (ms : List ℕ) (x : O)
      → Path l n p rs z → RoundsShow t observed ks rs later ms → is_inside l z ≡ false
      → overlay_step l z ≡ goes m
      → is_inside l m ≡ true → later (t.item z m ∷ []) ≡ Some x → (r : Round) × IsRound l r × (r.before ≡ z)
  pub shows : (n : ℕ) (rs : List Round) (r : Round) (later : List I → Option O) (ms : List ℕ)
      → Path l n p rs r.before → RoundsShow t observed ks rs later ms → IsRound l r
      → (x : O) × (ns : List ℕ) × (later (t.item r.before r.entered ∷ []) ≡ Some x) × RoundShows t ms r x ns

-- Parts by which the same is observed on each feed: whatever code outside does beside the one, it does beside
-- the other, step by step, and it comes in and ends alike.
abbrev pub AreNotToldApart : Type 0 → Type 0 → (g h : Link) → SameNames g h → OState → OState → Type 0
AreNotToldApart I O g h names o o' =
    (t u : Observer I O) → TellAlike g h names o o' t u
    → (observed : List I → Option O) (i j : ℕ) (cs : Calls) (p p' : OState) → Reached g.layout o i p
    → Reached h.layout o' j p' → is_inside g.layout p ≡ false → is_inside h.layout p' ≡ false
    → Alike g h names cs p p' → AreBelow cs p p'
    → Matches g.layout t observed (firsts cs) p → Matches h.layout u observed (seconds cs) p'
    → (n : ℕ) (q : OState) (as_ : List Round) → Path g.layout n p as_ q
    → (q' : OState) × (bs : List Round) × Path h.layout n p' bs q' × InStep g h names cs as_ bs q q'

-- so it is of linked parts that tidy
abbrev pub NoContextTells : Type 0 → Type 0 → Type 0
NoContextTells I O =
    (g h : Link) (names : SameNames g h) → IsLink g → IsLink h → (o o' : OState) → HoldsAlong g o
    → HoldsAlong h o' → Tidies g o → Tidies h o' → AreNotToldApart I O g h names o o'
