-- Full abstraction: two lists of parts that no context tells apart on the one machine can't be told apart on
-- the other.
use Rattle.std.specs.Prelude.{◌≡◌, ◌↔◌, ℕ, Bool, true, not, List, [], ◌∷◌, ◌++◌}
use Rattle.std.specs.List.{list_all}
use Rattle.linked_starts.specs.Parts.{PartSeen}
use Rattle.linked_starts.specs.Started.{StartSeen}
use Rattle.linked_starts.specs.LinkedStarts.{IsStartOf}
use Rattle.full_abstraction.specs.Contexts.{Context, PlugsTo, Observation, halting, failing, OnPlain}
use Rattle.full_abstraction.specs.Contexts.{OnOverlay}

-- ---- contextual equivalence

-- each context of a kind that links with both shows it with the ones if and only if with the others
abbrev pub Equivalent : (StartSeen → Observation → Type 0) → (Context → Bool) → Observation → List PartSeen
    → List PartSeen → Type 0
Equivalent On kind seen ts us =
    (c : Context) → kind c ≡ true → (s t : StartSeen) → PlugsTo c ts s → PlugsTo c us t
    → On s seen ↔ On t seen

-- a context links with parts, and shows it
abbrev pub CanShow : (StartSeen → Observation → Type 0) → Context → Observation → List PartSeen → Type 0
CanShow On c seen parts = (s : StartSeen) × PlugsTo c parts s × On s seen

-- the same of all contexts of the kind: one that doesn't link shows nothing
abbrev pub EquivalentInAll : (StartSeen → Observation → Type 0) → (Context → Bool) → Observation
    → List PartSeen → List PartSeen → Type 0
EquivalentInAll On kind seen ts us =
    (c : Context) → kind c ≡ true → CanShow On c seen ts ↔ CanShow On c seen us

-- ---- kinds of contexts

-- no part of them is trusted
abbrev pub untrusted : Context → Bool
untrusted c = list_all (λ p. not p.trusted) (c.before ++ c.after)

-- ---- the laws

-- the plain run from the start of any link shows what the overlay's does
abbrev pub RunsShowTheSame : Type 0
RunsShowTheSame =
    (parts : List PartSeen) (size : ℕ) (s : StartSeen) → IsStartOf parts size s → (seen : Observation)
    → OnPlain s seen ↔ OnOverlay s seen

-- the published statement: contexts of untrusted parts observe whether the whole halts
abbrev pub OverlayIsFullyAbstract : Type 0
OverlayIsFullyAbstract =
    (ts us : List PartSeen)
    → Equivalent OnPlain untrusted halting ts us ↔ Equivalent OnOverlay untrusted halting ts us

-- and so for contexts of any kind, whatever they observe
abbrev pub IsFullyAbstractForAny : Type 0
IsFullyAbstractForAny =
    (kind : Context → Bool) (seen : Observation) (ts us : List PartSeen)
    → Equivalent OnPlain kind seen ts us ↔ Equivalent OnOverlay kind seen ts us

-- also if one that doesn't link counts
abbrev pub IsFullyAbstractInAll : Type 0
IsFullyAbstractInAll =
    (kind : Context → Bool) (seen : Observation) (ts us : List PartSeen)
    → EquivalentInAll OnPlain kind seen ts us ↔ EquivalentInAll OnOverlay kind seen ts us

-- ---- that it speaks of something

-- a context of an untrusted part links with either of two trusted parts, halts with the one and fails with
-- the other: so they are equivalent on neither machine
pub record ToldApart : Type 0 where
  pub context : Context
  pub no_trusted : untrusted context ≡ true
  pub one : PartSeen
  pub other : PartSeen
  pub one_trusted : one.trusted ≡ true
  pub other_trusted : other.trusted ≡ true
  pub one_start : StartSeen
  pub other_start : StartSeen
  pub one_links : PlugsTo context (one ∷ []) one_start
  pub other_links : PlugsTo context (other ∷ []) other_start
  pub halts : OnPlain one_start halting
  pub fails : OnPlain other_start failing
  pub on_plain : Equivalent OnPlain untrusted halting (one ∷ []) (other ∷ []) → ⊥
  pub on_overlay : Equivalent OnOverlay untrusted halting (one ∷ []) (other ∷ []) → ⊥
