-- Sources that mean the same and end alike, and that whole runs of their links end alike.
use Rattle.std.specs.Prelude.{◌≡◌, ◌⊎◌, ◌↔◌, ℕ, ℤ, Some, None}
use Rattle.cap_words.specs.declared.Word.{Word}
use Rattle.cap_words.specs.declared.Word.TheVariants.{Int, Sealed}
use Rattle.lcm_isa.specs.declared.Reg.TheVariants.{A0}
use Rattle.lcm_machine.specs.declared.FailCause.{FailCause}
use Rattle.lcm_machine.specs.declared.End.TheVariants.{Halted, Failed}
use Rattle.lcm_machine.specs.Places.{reg}
use Rattle.lcm_machine.specs.Run.{plain}
use Rattle.linked_starts.specs.Started.{StartSeen}
use Rattle.same_meanings.specs.Observed.{CallNames, AreOneToOne, MeanTheSame, EndTheSame}
use Rattle.source_starts.specs.Sources.{LinkedSources, world_of}
use Rattle.context_laws.specs.Sources.{Beside}

-- ---- plain runs

-- after some instructions it has halted, with this word in a0
pub record PlainHalts (s : StartSeen) (w : Word) : Type 0 where
  pub after : ℕ
  pub halted : (plain after s.state).end ≡ Some Halted
  pub value : reg (plain after s.state).maps.regs A0 ≡ w

-- it has failed
pub record PlainFails (s : StartSeen) : Type 0 where
  pub after : ℕ
  pub cause : FailCause
  pub at : ℤ
  pub failed : (plain after s.state).end ≡ Some (Failed cause at)

-- after any number of instructions it hasn't ended
abbrev pub RunsForever : StartSeen → Type 0
RunsForever s = (n : ℕ) → (plain n s.state).end ≡ None

-- a word under a seal
abbrev pub IsSealed : Word → Type 0
IsSealed (Sealed n x) = Unit {0}
IsSealed _ = ⊥

-- the same word, or a sealed one in both
abbrev pub SameResult : Word → Word → Type 0
SameResult w v = (w ≡ v) ⊎ (IsSealed w × IsSealed v)

-- as the one run ends, so does the other
pub record EndsToo (s s' : StartSeen) : Type 0 where
  pub halts : (w : Word) → PlainHalts s w → (v : Word) × PlainHalts s' v × SameResult w v
  pub fails : PlainFails s → PlainFails s'

-- the one halts if and only if the other does, with the same result; it fails if and only if the other fails,
-- and runs forever if and only if the other does
pub record RunsEndAlike (s s' : StartSeen) : Type 0 where
  pub there : EndsToo s s'
  pub back : EndsToo s' s
  pub integers : (z : ℤ) → PlainHalts s (Int z) ↔ PlainHalts s' (Int z)
  pub forever : RunsForever s ↔ RunsForever s'

-- ---- the law

-- Two lists of sources that mean the same and end the same way, linked beside each other: the plain runs of
-- both links end alike, whichever part has main.
abbrev pub SameMeaningsEndAlike : Type 0
SameMeaningsEndAlike =
    (calls : CallNames) → AreOneToOne calls → (a b : LinkedSources) → Beside a.link b.link
    → MeanTheSame calls (world_of a) (world_of b) a.size
    → EndTheSame calls (world_of a) (world_of b) a.size → RunsEndAlike a.start b.start
