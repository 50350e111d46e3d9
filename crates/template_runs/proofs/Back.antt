-- What is told of a pair of words in rcode and rdata is what an `xjmp` of them does.
use Rattle.std.proofs.Common.{◌≡◌, ◌≢◌, ℕ, pos, Option, Some, None, Bool, true, false, refl, sym, ap, ◌∙◌}
use Rattle.std.proofs.Common.{subst, eqb-true}
use Rattle.std.specs.Prelude.{position, ◌==◌}
use Rattle.cap_words.specs.declared.Word.{Word}
use Rattle.cap_words.specs.declared.Word.TheVariants.{Mem}
use Rattle.cap_words.specs.declared.CapFields.{CapFields}
use Rattle.cap_words.specs.declared.Content.{Content}
use Rattle.cap_words.specs.declared.Content.TheVariants.{Mem as MemC, Seal as SealC}
use Rattle.cap_words.specs.declared.Opened.{Opened}
use Rattle.cap_words.specs.declared.Face.TheVariants.{Memory}
use Rattle.cap_words.specs.Face.{opened_of}
use Rattle.lcm_isa.specs.declared.Reg.{Reg}
use Rattle.lcm_isa.specs.declared.Reg.TheVariants.{Pc, Dat, Rcode, Rdata, A0}
use Rattle.lcm_isa.specs.declared.Instr.TheVariants.{Xjmp}
use Rattle.lcm_machine.specs.declared.FailCause.{FailCause}
use Rattle.lcm_machine.specs.declared.FailCause.TheVariants.{F6}
use Rattle.lcm_machine.specs.Places.{reg}
use Rattle.lcm_machine.specs.Plan.{Plan, Fails, Halts, Goes}
use Rattle.lcm_machine.specs.declared.plan.Effect.{Effect}
use Rattle.lcm_machine.specs.Table.{ask, need, memory_content}
use Rattle.lcm_machine.specs.Row.{faces, opens, perform, plan_in, outcome, row}
use Rattle.linked_starts.specs.Parts.{PartSeen}
use Rattle.linked_starts.specs.declared.owners.Owner.{Owner}
use Rattle.linked_starts.specs.declared.owners.Site.{Site}
use Rattle.trusted_border.specs.declared.events.Event.TheVariants.{Left}
use Rattle.trusted_border.specs.declared.events.Back.TheVariants.{Out, Bad, Hop}
use Rattle.trusted_border.specs.Reaches.{jump_plan, plan_goes, back_if, back_under, back_of, hop_in, hop_by}
use Rattle.trusted_border.specs.Reaches.{hop_to, closure_owner, entry_number, site_of_seal}
use Rattle.overlay_machine.specs.declared.words.OWord.TheVariants.{Plain}
use Rattle.overlay_machine.specs.Words.{look, is_plain}
use Rattle.overlay_machine.specs.State.{OState}
use Rattle.overlay_machine.specs.Step.{fails, with_frames, overlay_step}
use Rattle.overlay_machine.specs.Events.{owner_now}
use Rattle.overlay_machine.specs.Link.{Link, IsTrusted, ranges_of}
use Rattle.overlay_machine.specs.Safe.{IsSafe}
use Rattle.overlay_machine.specs.Linked.{IsLink}
use Rattle.overlay_machine.specs.Agree.{IsForeign}
use Rattle.overlay_machine.proofs.Offers.{found_at, numbered_is, foreign, Crossed}
use Rattle.call_sequence.specs.Holds.{code_at, data_cap, PcAt}
use Rattle.call_sequence.specs.Places.{begins_entry}
use Rattle.template_runs.specs.Public.{IsShown, IsSharedAt}
use Rattle.template_runs.specs.Runs.{Makes}
use Rattle.template_runs.proofs.Valid.{Valid}
use Rattle.template_runs.proofs.Named.{Named}
use Rattle.template_runs.proofs.Steps.{At, Placed, next_pc}
use Rattle.template_runs.proofs.Outside.{Out as OutState, open_no_owner}
use Rattle.template_runs.proofs.Ends.{Keeps, Jumps, leaves, hops, jumps, steps_plain, jumped_to}

-- an `xjmp` never halts
if_halts : (b : Bool) (f : FailCause) (q : Plan) → (q ≡ Halts → ⊥) → ask f b q ≡ Halts → ⊥
unfolding ask
if_halts true f q h e = h e
if_halts false f q h e = cc

pub need_halts : {A : Type 0} (f : FailCause) (a : Option A) (k : A → Plan) → ((x : A) → k x ≡ Halts → ⊥)
    → need f a k ≡ Halts → ⊥
unfolding need
need_halts f None k h e = cc
need_halts f (Some x) k h e = h x e

module _ (g : Link) (linked : IsLink g) (named : Named g) (p : PartSeen) (k : ℕ) (o : OState)
    (v : Valid g linked o) (at : At g linked p k o) (h : Placed g linked p k (Xjmp Rcode Rdata))
    (x y : Word) (ex : o.maps.regs.rcode ≡ Plain x) (ey : o.maps.regs.rdata ≡ Plain y)
    (safe : (d : Reg) → d ≢ Pc → d ≢ Dat → IsShown g o.frames (reg o.maps.regs d)) where
  p1 : is_plain o.maps.regs.rcode ≡ true
  p1 = ap is_plain ex

  p2 : is_plain o.maps.regs.rdata ≡ true
  p2 = ap is_plain ey

  -- the plan of the instruction is the one that is told
  same_plan : plan_in look o.maps (Xjmp Rcode Rdata) (next_pc g linked p k) ≡ jump_plan x y
  unfolding plan_in opens
  same_plan = rw (ex, ey) refl

  row_is : (q : Plan) → jump_plan x y ≡ q
      → row look Plain (Xjmp Rcode Rdata) (next_pc g linked p k) o.maps ≡ outcome look Plain o.maps q
  unfolding row
  row_is q e = ap (outcome look Plain o.maps) (same_plan ∙ e)

  -- the step leaves to untrusted code
  pub record TrustedOut (q : OState) : Type 0 where
    pub out : OutState g linked q
    pub frames : q.frames ≡ o.frames
    pub cells : q.maps.cells ≡ o.maps.cells
    pub a0 : reg q.maps.regs A0 ≡ reg o.maps.regs A0
    pub owner : Owner
    pub owner_is : owner_now g.layout o ≡ Some owner
    pub makes : Makes g.layout 1 (Some (Left owner.part)) o q
    pub crossed : Crossed Rcode Rdata o.maps q.maps
    pub keeps : Keeps o.maps q.maps

  -- the step hops to an entry
  pub record TrustedIn (r : PartSeen) (e : ℕ) (q : OState) : Type 0 where
    pub valid : Valid g linked q
    pub shared : IsSharedAt r.component e
    pub pc : PcAt look (ranges_of r) e q.maps.regs
    pub dat : look q.maps.regs.dat ≡ Mem (data_cap (ranges_of r) (pos r.component.data_base))
    pub keeps : Keeps o.maps q.maps
    pub half : q.maps.regs.rdata ≡ o.maps.regs.rdata
    pub frames : q.frames ≡ o.frames
    pub cells : q.maps.cells ≡ o.maps.cells
    pub makes : Makes g.layout 1 None o q

  -- what is told, and what the step does
  pub data Tells : Type 0 where
    fails_bad : back_of g.layout x y ≡ Bad → overlay_step g.layout o ≡ fails → Tells
    goes_out : (q : OState) → back_of g.layout x y ≡ Out → TrustedOut q → Tells
    goes_in : (q : OState) (r : PartSeen) (ir : IsTrusted g r) (e : ℕ) (b : begins_entry r.component e ≡ true)
        → back_of g.layout x y ≡ Hop (named.owner r ir).part (named.entry r ir e b) → TrustedIn r e q → Tells

  bad_back : (a b : Option Opened) → opened_of x ≡ a → opened_of y ≡ b → plan_goes (jump_plan x y) ≡ false
      → back_of g.layout x y ≡ Bad
  bad_back a b ea eb e = ap (λ t. back_if t g.layout (opened_of x) (opened_of y)) e
      ∙ ap (λ t. back_if false g.layout t (opened_of y)) ea ∙ ap (λ t. back_if false g.layout a t) eb ∙ by a b
    where
      by : (a b : Option Opened) → back_if false g.layout a b ≡ Bad
      by None b = refl
      by (Some a) None = refl
      by (Some a) (Some b) = refl

  -- a safe word is under no site's seal
  no_site : (code : Opened) → opened_of x ≡ Some code → site_of_seal g.layout code.seal ≡ None
  no_site code e = by (site_of_seal g.layout code.seal) refl
    where
      f : IsForeign g.layout x
      f = foreign g linked o.frames x (subst (IsSafe g o.frames) ex (safe Rcode (λ q. cc) (λ q. cc)).0)

      by : (t : Option ℕ) → site_of_seal g.layout code.seal ≡ t → t ≡ None
      by None h = refl
      by (Some j) h =
          let q = found_at (λ (s : Site). s.seal == code.seal) g.layout.sites j
          (numbered_is (position (λ (s : Site). s.seal == code.seal) g.layout.sites) j h) in
          let u = linked.listed j q.0 q.1 in
          absurd (f code j u.0 e u.1 (sym (eqb-true (q.0).seal code.seal q.2) ∙ sym u.2))

  good_back : (code half : Opened) → opened_of x ≡ Some code → opened_of y ≡ Some half
      → plan_goes (jump_plan x y) ≡ true
      → back_of g.layout x y ≡ hop_in (closure_owner g.layout code.seal) code.content
  good_back code half ea eb e =
      ap (λ t. back_if t g.layout (opened_of x) (opened_of y)) e
      ∙ ap (λ t. back_if true g.layout t (opened_of y)) ea
      ∙ ap (λ t. back_if true g.layout (Some code) t) eb
      ∙ ap (λ t. back_under g.layout t code half) (no_site code ea)

  content_is : (c : Content) (cap : CapFields) → memory_content c ≡ Some cap → c ≡ MemC cap
  content_is (MemC c) cap e = let s : c ≡ cap = cc in ap MemC s
  content_is (SealC s) cap e = cc

  half_there : (e : Effect) → jump_plan x y ≡ Goes e → (half : Opened) × (opened_of y ≡ Some half)
  unfolding need
  half_there e j = by (opened_of x) (opened_of y) refl refl
    where
      by : (a b : Option Opened) → opened_of x ≡ a → opened_of y ≡ b → (half : Opened)
          × (opened_of y ≡ Some half)
      by a (Some half) ea eb = (half, eb)
      by None None ea eb = absurd (let bad : Fails F6 ≡ Goes e = sym (rw ea refl) ∙ j in cc)
      by (Some a) None ea eb = absurd (let bad : Fails F6 ≡ Goes e = sym (rw (ea, eb) refl) ∙ j in cc)

  by_jumps : (e : Effect) (q : OState) → jump_plan x y ≡ Goes e → Jumps g linked p k o v at h q → Tells
  unfolding faces
  by_jumps e q j (leaves code oc op out fs cells a0 w ow mk cr kp) =
      let ox : opened_of x ≡ Some code = sym (ap (λ w. opened_of (look w)) ex) ∙ oc in
      let hf = half_there e j in
      goes_out q (good_back code hf.0 ox hf.1 (ap plan_goes j)
      ∙ ap (λ t. hop_in t code.content) (open_no_owner g linked code.seal op))
      (record {
        out = out;
        frames = fs;
        cells = cells;
        a0 = a0;
        owner = w;
        owner_is = ow;
        makes = mk;
        crossed = cr;
        keeps = kp;
      })
  by_jumps e q j (hops code oc r n seal content v2 ir en sh pc dat kp hf2 fs cells mk) =
      let ox : opened_of x ≡ Some code = sym (ap (λ w. opened_of (look w)) ex) ∙ oc in
      let hf = half_there e j in
      let c : code.content ≡ MemC (code_at (ranges_of r) n) =
      content_is code.content (code_at (ranges_of r) n) content in
      let entry : entry_number (named.owner r ir) (Memory (code_at (ranges_of r) n)) ≡ Some
      (named.entry r ir n en) = named.entry_is r ir n en in
      goes_in q r ir n en (good_back code hf.0 ox hf.1 (ap plan_goes j)
      ∙ ap (λ t. hop_in (closure_owner g.layout t) code.content) seal
      ∙ ap (λ t. hop_in t code.content) (named.owner_is r ir)
      ∙ ap (hop_by (named.owner r ir)) c ∙ ap (hop_to (named.owner r ir)) entry)
      (record {
        valid = v2;
        shared = sh;
        pc = pc;
        dat = dat;
        keeps = kp;
        half = hf2;
        frames = fs;
        cells = cells;
        makes = mk;
      })

  halts_not : jump_plan x y ≡ Halts → ⊥
  halts_not e = need_halts _ _ _
      (λ code. need_halts _ _ _
      (λ half. if_halts _ _ _
      (need_halts _ _ _ (λ c. if_halts _ _ _ (if_halts _ _ _ (if_halts _ _ _ (λ z. cc))))))) e

  pub tells : Tells
  tells = by (jump_plan x y) refl
    where
      by : (q : Plan) → jump_plan x y ≡ q → Tells
      by (Fails c) e = fails_bad (bad_back (opened_of x) (opened_of y) refl refl (ap plan_goes e))
          (steps_plain g linked p k o v at h p1 p2 ∙ ap (with_frames o.frames o.calls) (row_is (Fails c) e))
      by Halts e = absurd (halts_not e)
      by (Goes e) j = by_jumps e
          (jumped_to g linked p k o v at h p1 p2 (perform look Plain o.maps e) safe (row_is (Goes e) j)) j
          (jumps g linked p k o v at h p1 p2 (perform look Plain o.maps e) safe (row_is (Goes e) j))
