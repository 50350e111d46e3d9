-- What a run shows is what the meaning tells of the run's feed.
use Rattle.std.specs.Prelude.{◌≡◌, ℕ, ◌+◌, ◌*◌, ◌<◌, ◌≤◌, ℤ, List}
use Rattle.cap_words.specs.declared.Word.TheVariants.{Int}
use Rattle.source_events.specs.declared.End.TheVariants.{Halt as Halted, Fail as Fails, Waiting}
use Rattle.source_events.specs.declared.End.TheVariants.{OutOfFuel}
use Rattle.source_events.specs.declared.Told.{Told}
use Rattle.source_events.specs.Outs.{OutLine, out_lines}
use Rattle.proc_semantics.specs.Told.{Comp}
use Rattle.proc_semantics.specs.Fuel.{Prefix}
use Rattle.source_laws.specs.Trace.{Final, Running, Outside, HaltedWith, Failed, Trace}

-- where the run stands outside, halts, fails, or goes on inside
abbrev pub TellsFinal : Final → List OutLine → Told → Type 0
TellsFinal Outside out t = (t.end ≡ Waiting) × (out_lines t.events ≡ out)
TellsFinal (HaltedWith w) out t = (v : ℤ) × (w ≡ Int v) × (t.end ≡ Halted v) × (out_lines t.events ≡ out)
TellsFinal Failed out t = (t.end ≡ Fails) × (out_lines t.events ≡ out)
TellsFinal Running out t = Prefix out (out_lines t.events)

-- a meaning fits the run for every large enough fuel, and is out of fuel for every fuel that is too small for
-- the instructions, less the credit: a tick pays for 200
pub record MeaningAgrees (credit : ℕ) (t : Trace) (m : Comp) : Type 0 where
  pub enough : ℕ
  pub fits : (f : ℕ) → enough ≤ f → TellsFinal t.final t.out (m f t.items)
  pub slow : (f : ℕ) → f * 200 + credit < t.weight → ((m f t.items).end ≡ OutOfFuel)
      × Prefix (out_lines (m f t.items).events) t.out
