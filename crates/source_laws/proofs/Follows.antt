-- When the refined meaning agrees with a run, whatever was wiped before.
use Rattle.std.proofs.Common.{◌≡◌, ℕ, ◌+◌, ◌*◌, ◌<◌, ◌≤◌, ℤ, List, ◌++◌, Option}
use Rattle.cap_words.specs.declared.Word.TheVariants.{Int}
use Rattle.source_events.specs.declared.End.TheVariants.{Halt as Halted, Fail as Fails, Waiting}
use Rattle.source_events.specs.declared.End.TheVariants.{OutOfFuel}
use Rattle.source_laws.specs.Trace.{Final, Running, Outside, HaltedWith, Failed}
use Rattle.source_laws.specs.Seen.{Shown, Trace, events_of}
use Rattle.source_laws.proofs.Refined.{Comp, Report}

abbrev pub Prefix : List Shown → List Shown → Type 0
Prefix xs ys = (rest : List Shown) × (ys ≡ xs ++ rest)

abbrev pub Fits : Final → List Shown → Report → Type 0
Fits Outside out t = (t.end ≡ Waiting) × (events_of t ≡ out)
Fits (HaltedWith w) out t = (v : ℤ) × (w ≡ Int v) × (t.end ≡ Halted v) × (events_of t ≡ out)
Fits Failed out t = (t.end ≡ Fails) × (events_of t ≡ out)
Fits Running out t = Prefix out (events_of t)

pub record Agrees (credit : ℕ) (t : Trace) (m : Comp) : Type 0 where
  pub enough : ℕ
  pub fits : (low : Option ℕ) (f : ℕ) → enough ≤ f → Fits t.final t.out (m low f t.items)
  pub slow : (low : Option ℕ) (f : ℕ) → f * 200 + credit < t.weight → ((m low f t.items).end ≡ OutOfFuel)
      × Prefix (events_of (m low f t.items)) t.out
