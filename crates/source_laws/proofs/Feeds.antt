-- The registers of an entry, as the feed has them, given what two words of them are as a pair.
use Rattle.source_laws.specs.Seen.{words_of}
use Rattle.std.proofs.Common.{◌≢◌, ℕ}
use Rattle.std.proofs.Math.Bool.{and-false}
use Rattle.lcm_isa.specs.declared.Reg.{Reg}
use Rattle.lcm_isa.specs.declared.Reg.TheVariants.{Pc, Dat, A0, A1, A2, A3}
use Rattle.lcm_machine.specs.Places.{reg}
use Rattle.linked_starts.specs.Parts.{PartSeen}
use Rattle.overlay_machine.specs.declared.words.OWord.{OWord}
use Rattle.overlay_machine.specs.Words.{look}
use Rattle.overlay_machine.specs.State.{OState}
use Rattle.overlay_machine.specs.Flat.{flat}
use Rattle.overlay_machine.specs.Link.{Link}
use Rattle.overlay_machine.specs.Linked.{IsLink}
use Rattle.run_lines.specs.Feed.{integers_in, feed_pairs}
use Rattle.run_lines.specs.Lines.{args_of, feed_pair}
use Rattle.run_lines.specs.Pairs.{pair_of, pairs_of}
use Rattle.run_lines.specs.Views.{flat_view}
use Rattle.proc_semantics.specs.declared.value.Target.{Target}
use Rattle.source_laws.proofs.Refined.{World, registers_fed}
use Rattle.proc_semantics.specs.Values.{pair_fed}
use Rattle.template_runs.specs.Public.{IsShown}
use Rattle.template_runs.proofs.Offers.{is_half, Valid}
use Rattle.source_laws.proofs.Callings.{flat_reg}
use Rattle.source_laws.proofs.Parameters.{PairIs, fed_none, fed, all_fed, RegsAre}

module _ (world : World) (g : Link) (linked : IsLink g) (Begins : Target → PartSeen → ℕ → Type 0) where
  -- two words that code outside may hold are the pair that is told of them
  abbrev pub FedWords : Type 0
  FedWords =
      (q : OState) (w v : OWord) → Valid g linked q → IsShown g q.frames w → IsShown g q.frames v
      → PairIs g linked Begins
      (pair_fed world.parts (feed_pair g.layout
      (pair_of g.layout (flat g.layout q.frames w) (flat g.layout q.frames v)))) w v

  pub registers_are : FedWords → (q : OState) → Valid g linked q
      → ((d : Reg) → d ≢ Pc → d ≢ Dat → IsShown g q.frames (reg q.maps.regs d))
      → RegsAre g linked Begins (registers_fed world (words_of q)
      (integers_in (args_of (flat_view g.layout q)))
      (feed_pairs g.layout (pairs_of g.layout (flat_view g.layout q)))) q
  registers_are words q v safe =
      let s0 = safe A0 (λ e. cc) (λ e. cc) in
      let s1 = safe A1 (λ e. cc) (λ e. cc) in
      let s2 = safe A2 (λ e. cc) (λ e. cc) in
      let s3 = safe A3 (λ e. cc) (λ e. cc) in
      let r = q.maps.regs in
      all_fed (fed _ q.maps.regs.a0 (flat_reg g linked Begins q v A0) (words q r.a0 r.a1 v s0 s1)
      (fed _ q.maps.regs.a1 (flat_reg g linked Begins q v A1) (words q r.a1 r.a2 v s1 s2)
      (fed _ q.maps.regs.a2 (flat_reg g linked Begins q v A2) (words q r.a2 r.a3 v s2 s3)
      (fed _ q.maps.regs.a3 (flat_reg g linked Begins q v A3) (and-false (is_half (look q.maps.regs.a3)))
      fed_none))))
