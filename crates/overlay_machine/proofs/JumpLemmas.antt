-- A call's `xjmp`.
use Rattle.std.proofs.Common.{◌≡◌, ℕ, ◌+◌, Bool, true, false, ◌∷◌, refl, ap, ◌∙◌}
use Rattle.std.specs.Prelude.{if◌then◌else◌}
use Rattle.cap_words.specs.declared.CapFields.{CapFields}
use Rattle.cap_words.specs.declared.Word.{Word}
use Rattle.cap_words.specs.Linear.{zero_word, is_linear}
use Rattle.lcm_isa.specs.declared.Reg.TheVariants.{C2}
use Rattle.lcm_machine.specs.declared.Place.TheVariants.{R}
use Rattle.lcm_machine.specs.declared.plan.Effect.{Effect}
use Rattle.lcm_machine.specs.Plan.{IsJump, is_jump}
use Rattle.lcm_machine.specs.Maps.{State}
use Rattle.lcm_machine.specs.Row.{perform, clear, put}
use Rattle.trusted_border.specs.declared.layout.SiteCode.{SiteCode}
use Rattle.frame_region.specs.Frames.{RegionSeen}
use Rattle.overlay_machine.specs.declared.words.OWord.{OWord}
use Rattle.overlay_machine.specs.declared.words.OWord.TheVariants.{Plain}
use Rattle.overlay_machine.specs.Words.{look}
use Rattle.overlay_machine.specs.declared.frames.Frame.{Frame}
use Rattle.overlay_machine.specs.declared.machine.Machine.{Machine}
use Rattle.overlay_machine.specs.Moves.{left_by, opened}
use Rattle.overlay_machine.specs.Machine.{at_jump, jumping, called}

-- the effect doesn't read data
jump-dat : (s : State OWord) (x : OWord) (e : Effect) → IsJump C2 e
    → perform look Plain (record s { regs = record s.regs { dat = x } }) e ≡ perform look Plain s e
unfolding perform clear
jump-dat s x e (is_jump v w) =
    elim (is_linear (look s.regs.c2))
    as (λ b. perform_with b v w (record s { regs = record s.regs { dat = x } }) ≡ perform_with b v w s)
    [ true ↦ refl | false ↦ refl ]
  where
    perform_with : Bool → Word → Word → State OWord → State OWord
    perform_with b v w t =
        let taken : State OWord = if b then put t (R C2) (zero_word Plain) else t in
        record taken { regs = record taken.regs { pc = Plain v; dat = Plain w } }

pub made-call : (m : Machine) (i : ℕ) (s : SiteCode) (c : CapFields) (at : ℕ) (e : Effect)
    (maps1 maps2 maps3 : State OWord) (region : RegionSeen Frame OWord)
    → IsJump C2 e
    → maps1 ≡ left_by m.maps (record { call = m.calls; site = i; base = at; end = c.end })
    → maps2 ≡ record maps1 { regs = at_jump maps1.regs i m.calls s c at }
    → maps3 ≡ perform look Plain maps2 e
    → region ≡ record m.frames {
      frames =
          opened m.maps (record { call = m.calls; site = i; base = at; end = c.end }) ∷ m.frames.frames;
    }
    → (let new : Machine = record { maps = maps3; frames = region; calls = m.calls + 1 } in new)
    ≡ called m i s c at e
made-call m i s c at e maps1 maps2 maps3 region j a b d f =
    let over : State OWord → State OWord = λ x. record x { regs = at_jump x.regs i m.calls s c at } in
    let b1 : maps2 ≡ over (left_by m.maps (record { call = m.calls; site = i; base = at; end = c.end })) =
    b ∙ ap over a in
    let d1 : maps3 ≡ perform look Plain (jumping m i s c at) e =
    d ∙ ap (λ x. perform look Plain x e) b1 ∙ jump-dat (jumping m i s c at) (zero_word Plain) e j in
    let whole : State OWord → RegionSeen Frame OWord → Machine =
    λ x. λ y. record { maps = x; frames = y; calls = m.calls + 1 } in
    ap (λ x. whole x region) d1 ∙ ap (whole (perform look Plain (jumping m i s c at) e)) f
