-- What an `xjmp` reaches, and what an `xjmp rcode rdata` of two words would do.
use Rattle.std.specs.Prelude.{ℕ, ◌==◌, ◌&&◌, Bool, true, false, pos, Option, Some, None}
use Rattle.std.specs.Prelude.{if◌then◌else◌, find, option_and_then}
use Rattle.cap_words.specs.declared.Word.{Word}
use Rattle.cap_words.specs.declared.Word.TheVariants.{Int}
use Rattle.cap_words.specs.declared.Content.{Content}
use Rattle.cap_words.specs.declared.Content.TheVariants.{Mem, Seal}
use Rattle.cap_words.specs.declared.Opened.{Opened}
use Rattle.cap_words.specs.declared.Face.{Face}
use Rattle.cap_words.specs.declared.Face.TheVariants.{Memory}
use Rattle.cap_words.specs.Face.{face_of, opened_of}
use Rattle.cap_words.specs.Faces.{target_of}
use Rattle.lcm_isa.specs.declared.Reg.{Reg}
use Rattle.lcm_isa.specs.declared.Reg.TheVariants.{Rcode, Rdata}
use Rattle.lcm_isa.specs.declared.Instr.TheVariants.{Xjmp}
use Rattle.lcm_machine.specs.Plan.{Plan, Goes}
use Rattle.lcm_machine.specs.Table.{plan}
use Rattle.linked_starts.specs.declared.owners.Owner.{Owner}
use Rattle.trusted_border.specs.declared.layout.Layout.{Layout}
use Rattle.trusted_border.specs.declared.events.Back.{Back}
use Rattle.trusted_border.specs.declared.events.Back.TheVariants.{Out, Bad, Hop, Pair}
use Rattle.trusted_border.specs.Layout.{number_of}

-- ---- what an `xjmp` reaches

-- the first entry of a part, by name, at which pc stands
abbrev pub entry_number : Owner → Face → Option ℕ
entry_number o pc = option_and_then (λ a. number_of (λ e. e.at == a) o.entries) (target_of pc)

-- the trusted part of a closure seal
abbrev pub closure_owner : Layout → ℕ → Option Owner
closure_owner l seal = find (λ o. o.trusted && (o.closure == seal)) l.owners

-- the site of a return seal
abbrev pub site_of_seal : Layout → ℕ → Option ℕ
site_of_seal l seal = number_of (λ s. s.seal == seal) l.sites

-- ---- what an `xjmp rcode rdata` of two words would do

abbrev pub content_base : Content → ℕ
content_base (Mem c) = c.base
content_base (Seal s) = s.base

abbrev pub hop_to : Owner → Option ℕ → Back
hop_to o None = Out
hop_to o (Some k) = Hop o.part k

abbrev pub hop_by : Owner → Content → Back
hop_by o (Mem c) = hop_to o (entry_number o (Memory c))
hop_by o (Seal s) = Out

abbrev pub hop_in : Option Owner → Content → Back
hop_in None code = Out
hop_in (Some o) code = hop_by o code

-- under a site's return seal, under the closure seal of a trusted part, or under any other
abbrev pub back_under : Layout → Option ℕ → Opened → Opened → Back
back_under l (Some i) code half = Pair i (content_base half.content)
back_under l None code half = hop_in (closure_owner l code.seal) code.content

-- the two words, as those of rcode and of any other register
abbrev pub of_two : Word → Word → Reg → Word
of_two w v Rcode = w
of_two w v _ = v

-- what the table says of it
abbrev pub jump_plan : Word → Word → Plan
jump_plan w v =
    plan (Xjmp Rcode Rdata) (λ r. face_of (of_two w v r)) (λ r. opened_of (of_two w v r)) None (Int (pos 0))

abbrev pub plan_goes : Plan → Bool
plan_goes (Goes e) = true
plan_goes _ = false

abbrev pub back_if : Bool → Layout → Option Opened → Option Opened → Back
back_if b l (Some code) (Some half) = if b then back_under l (site_of_seal l code.seal) code half else Bad
back_if b l _ _ = Bad

abbrev pub back_of : Layout → Word → Word → Back
back_of l w v = back_if (plan_goes (jump_plan w v)) l (opened_of w) (opened_of v)
