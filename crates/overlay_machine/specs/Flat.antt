-- The plain state that an overlay state stands for.
use Rattle.std.specs.Prelude.{◌≡◌, ℕ, ◌+◌, pos, List, Option, Some, None}
use Rattle.cap_words.specs.declared.Word.{Word}
use Rattle.cap_words.specs.declared.Word.TheVariants.{Int, Sealed}
use Rattle.cap_words.specs.declared.Sealable.TheVariants.{Mem}
use Rattle.lcm_machine.specs.Maps.{State}
use Rattle.lcm_machine.specs.Runs.{code_cap}
use Rattle.lcm_machine.specs.Mapped.{mapped_or, IsMapped}
use Rattle.call_sequence.specs.SequenceRuns.{stack_cap}
use Rattle.call_sequence.specs.declared.TheConstants.{CALL_WORDS}
use Rattle.trusted_border.specs.declared.layout.Layout.{Layout}
use Rattle.trusted_border.specs.declared.layout.SiteCode.{SiteCode}
use Rattle.trusted_border.specs.Layout.{site_code}
use Rattle.overlay_machine.specs.declared.words.OWord.{OWord}
use Rattle.overlay_machine.specs.declared.words.OWord.TheVariants.{Plain, RetCode, RetData}
use Rattle.overlay_machine.specs.State.{OpenFrame, OState, framed, frame_of}

-- under the seal of a site, its part's code at the word after the call's
abbrev pub flat_code : Option SiteCode → Word
flat_code None = Int (pos 0)
flat_code (Some s) = Sealed s.seal (Mem (code_cap s.base s.end (s.at + CALL_WORDS)))

-- under the seal of a frame's site, the frame's stretch of the stack
abbrev pub flat_range : OpenFrame → Option SiteCode → Word
flat_range f None = Int (pos 0)
flat_range f (Some s) = Sealed s.seal (Mem (stack_cap f.base f.end f.base))

abbrev pub flat_data : Layout → Option OpenFrame → Word
flat_data l None = Int (pos 0)
flat_data l (Some f) = flat_range f (site_code l f.site)

-- The plain word that an overlay word stands for. A RetCode of no site and a RetData of a call that isn't
-- open stand for integer 0.
unfoldable pub flat : Layout → List OpenFrame → OWord → Word
flat l fs (Plain w) = w
flat l fs (RetCode i) = flat_code (site_code l i)
flat l fs (RetData k) = flat_data l (frame_of fs k)

-- the frames' words back at their addresses
unfoldable pub beside : Layout → List OpenFrame → ℕ → Option Word
beside l fs a = mapped_or (flat l fs) (framed fs a) None

-- the plain state has the registers and cells flattened, and the frames' words at their addresses
abbrev pub IsFlat : Layout → OState → State Word → Type 0
IsFlat l o t = IsMapped (flat l o.frames) (beside l o.frames) o.maps t

-- there is such a plain state, and only one
abbrev pub StandsForOne : Layout → OState → Type 0
StandsForOne l o = (t : State Word) × IsFlat l o t × ((u : State Word) → IsFlat l o u → u ≡ t)
