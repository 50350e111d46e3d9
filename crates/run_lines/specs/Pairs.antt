-- What an `xjmp` of an argument register and the next one would do.
use Rattle.std.specs.Prelude.{◌≡◌, ℕ, Bool, true, false, ◌&&◌, Option, Some, None, if◌then◌else◌}
use Rattle.cap_words.specs.declared.Content.{Content}
use Rattle.cap_words.specs.declared.Content.TheVariants.{Mem, Seal}
use Rattle.cap_words.specs.declared.Opened.{Opened}
use Rattle.cap_words.specs.declared.Word.{Word}
use Rattle.cap_words.specs.Face.{opened_of}
use Rattle.cap_words.specs.Linear.{lin_is}
use Rattle.lcm_isa.specs.declared.Reg.TheVariants.{Rdata, A0, A1, A2, A3}
use Rattle.lcm_machine.specs.Maps.{State}
use Rattle.lcm_machine.specs.Places.{reg}
use Rattle.trusted_border.specs.declared.layout.Layout.{Layout}
use Rattle.trusted_border.specs.declared.events.Back.{Back}
use Rattle.trusted_border.specs.declared.events.Back.TheVariants.{Hop as HopBack}
use Rattle.trusted_border.specs.declared.events.Event.TheVariants.{Entered}
use Rattle.trusted_border.specs.Reaches.{closure_owner, hop_in, jump_plan, plan_goes}
use Rattle.overlay_machine.specs.declared.words.OWord.{OWord}
use Rattle.overlay_machine.specs.declared.words.OWord.TheVariants.{Plain}
use Rattle.overlay_machine.specs.Words.{look}
use Rattle.overlay_machine.specs.State.{OState}
use Rattle.overlay_machine.specs.Step.{Ending, goes, halts, fails, return_by}
use Rattle.overlay_machine.specs.Flat.{flat}
use Rattle.overlay_machine.specs.Link.{Link}
use Rattle.overlay_machine.specs.Linked.{IsLink}
use Rattle.overlay_machine.specs.Safe.{IsSafe}
use Rattle.overlay_machine.specs.Invariant.{Invariant}
use Rattle.overlay_machine.specs.Events.{step_event}
use Rattle.run_lines.specs.declared.pairs.PassedPair.{PassedPair}
use Rattle.run_lines.specs.declared.pairs.PassedPair.TheVariants.{Nothing, Bad, Out, Hop}
use Rattle.run_lines.specs.declared.pairs.Pairs.{Pairs}
use Rattle.run_lines.specs.Views.{View, flat_view}

-- a sealed word is linear where its content is
abbrev pub content_linear : Content → Bool
content_linear (Mem c) = lin_is c.lin
content_linear (Seal s) = false

-- of a sealed word that isn't linear
abbrev pub if_normal : Option Opened → Option Opened
if_normal None = None
if_normal (Some k) = if content_linear k.content then None else Some k

abbrev pub pair_to : Back → PassedPair
pair_to (HopBack part k) = Hop part k
pair_to _ = Out

-- under the closure seal of a trusted part, or under any other
abbrev pub pair_under : Layout → Opened → PassedPair
pair_under l code = pair_to (hop_in (closure_owner l code.seal) code.content)

abbrev pub pair_if : Bool → Layout → Option Opened → Option Opened → PassedPair
pair_if b l (Some code) (Some half) = if b then pair_under l code else Bad
pair_if b l _ _ = Nothing

-- what an `xjmp` of two words would do, where both are sealed words that aren't linear
abbrev pub pair_of : Layout → Word → Word → PassedPair
pair_of l w v = pair_if (plan_goes (jump_plan w v)) l (if_normal (opened_of w)) (if_normal (opened_of v))

-- of each argument register and the next one
abbrev pub pairs_of : Layout → View → Pairs
pairs_of l v = record {
  p0 = pair_of l (v.reg A0) (v.reg A1);
  p1 = pair_of l (v.reg A1) (v.reg A2);
  p2 = pair_of l (v.reg A2) (v.reg A3);
}

abbrev pub is_nothing : PassedPair → Bool
is_nothing Nothing = true
is_nothing _ = false

abbrev pub none_paired : Pairs → Bool
none_paired p = is_nothing p.p0 && (is_nothing p.p1 && is_nothing p.p2)

-- ---- as the overlay itself has them

abbrev pub has_gone : Ending → Bool
has_gone (goes q) = true
has_gone halts = false
has_gone fails = false

-- whether its own `xjmp` of two words would go: by the table where both are plain, and else as a return
abbrev pub own_goes : Layout → OState → OWord → OWord → Bool
own_goes l o (Plain w) (Plain v) = plan_goes (jump_plan w v)
own_goes l o w v = has_gone (return_by l w v Rdata o.frames o)

-- a RetCode counts as a sealed word with normal content, and a RetData as one with linear content
abbrev pub own_pair : Layout → OState → OWord → OWord → PassedPair
own_pair l o w v =
    pair_if (own_goes l o w v) l (if_normal (opened_of (look w))) (if_normal (opened_of (look v)))

-- of two words that untrusted code may hold, the plain words that they stand for are told as they are
abbrev pub PairsAreOwn : Type 0
PairsAreOwn =
    (g : Link) (o : OState) (w v : OWord) → IsLink g → IsSafe g o.frames w → IsSafe g o.frames v
    → pair_of g.layout (flat g.layout o.frames w) (flat g.layout o.frames v) ≡ own_pair g.layout o w v

abbrev pub own_pairs_of : Layout → OState → Pairs
own_pairs_of l o = record {
  p0 = own_pair l o (reg o.maps.regs A0) (reg o.maps.regs A1);
  p1 = own_pair l o (reg o.maps.regs A1) (reg o.maps.regs A2);
  p2 = own_pair l o (reg o.maps.regs A2) (reg o.maps.regs A3);
}

-- where a step of the overlay has an `enter` line, so are its pairs told
abbrev pub PassesAreOwn : Type 0
PassesAreOwn =
    (g : Link) (o q : OState) (t : State Word) (part k : ℕ) (back : Back) → IsLink g → Invariant g q t
    → step_event g.layout o q ≡ Some (Entered part k back)
    → pairs_of g.layout (flat_view g.layout q) ≡ own_pairs_of g.layout q
