-- The `xjmp` that ends a procedure: it returns to the newest frame, leaves to untrusted code, hops to a
-- procedure, or fails.
use Rattle.std.proofs.Common.{◌≡◌, ◌≢◌, inl, inr, ℕ, ◌+◌, ◌<◌, ◌≤◌, pos, List, ◌∷◌, length, Option, Some}
use Rattle.std.proofs.Common.{None, Bool, true, false, refl, sym, ap, ◌∙◌, subst, arith}
use Rattle.std.specs.Prelude.{is_some, option_map, ◌&&◌, if◌then◌else◌}
use Rattle.std.proofs.lemmas.Bool.{eq-eqb}
use Rattle.cap_words.specs.declared.Word.{Word}
use Rattle.cap_words.specs.declared.Word.TheVariants.{Int, Mem, Seal, Sealed}
use Rattle.cap_words.specs.declared.CapFields.{CapFields}
use Rattle.cap_words.specs.declared.Opened.{Opened}
use Rattle.cap_words.specs.declared.Sealable.TheVariants.{Mem as MemIn, Seal as SealIn}
use Rattle.cap_words.specs.declared.SealFields.{SealFields}
use Rattle.cap_words.specs.Linear.{zero_word, is_linear, lin_is, left_of}
use Rattle.cap_words.specs.Face.{opened_of}
use Rattle.lcm_isa.specs.declared.Reg.{Reg}
use Rattle.lcm_isa.specs.declared.Reg.TheVariants.{Pc, Dat, Rcode, Rdata, A0}
use Rattle.lcm_isa.specs.declared.Instr.TheVariants.{Xjmp}
use Rattle.lcm_machine.specs.declared.Place.TheVariants.{R}
use Rattle.lcm_machine.specs.Maps.{State}
use Rattle.lcm_machine.specs.Places.{reg}
use Rattle.lcm_machine.specs.Table.{unsealed, memory_content, no_effect, made}
use Rattle.lcm_machine.specs.Plan.{Plan, Fails, Halts, Goes}
use Rattle.lcm_machine.proofs.Offers.{Gives, gives_goes, Gives-effect, Gives-need, Gives-ask, cases_reg}
use Rattle.lcm_machine.proofs.Offers.{step_at}
use Rattle.lcm_machine.specs.Row.{went, put, clear, perform, outcome, plan_in, faces, opens, cell_faces}
use Rattle.lcm_machine.specs.Row.{fetch, some, row}
use Rattle.call_sequence.specs.Holds.{data_cap, code_at, PcAt}
use Rattle.call_sequence.specs.Places.{begins_entry}
use Rattle.linked_starts.specs.Parts.{PartSeen}
use Rattle.linked_starts.specs.declared.owners.Owner.{Owner}
use Rattle.trusted_border.specs.declared.layout.SiteCode.{SiteCode}
use Rattle.trusted_border.specs.declared.events.Event.TheVariants.{Returned as ReturnedTo, Left}
use Rattle.trusted_border.specs.Layout.{site_code}
use Rattle.overlay_machine.specs.declared.words.OWord.{OWord}
use Rattle.overlay_machine.specs.declared.words.OWord.TheVariants.{Plain, RetCode, RetData}
use Rattle.overlay_machine.specs.declared.cases.Case.{Case}
use Rattle.overlay_machine.specs.declared.cases.Case.TheVariants.{Back, Other}
use Rattle.overlay_machine.specs.Words.{look, is_plain, is_ret_code}
use Rattle.overlay_machine.specs.State.{OpenFrame, OState}
use Rattle.overlay_machine.specs.Step.{goes, ask, need, case_of, case_fetched, step_by, other_step}
use Rattle.overlay_machine.specs.Step.{return_step, return_by, state_resumed, own_stack, with_frames}
use Rattle.overlay_machine.specs.Step.{overlay_step, weight_of, weight_by}
use Rattle.overlay_machine.specs.Events.{step_event, note_by, note_return, note_jump, event_after, owner_now}
use Rattle.overlay_machine.specs.Events.{jump_seal, jumped}
use Rattle.overlay_machine.specs.Link.{Link, IsTrusted, ranges_of}
use Rattle.overlay_machine.specs.Safe.{IsOpenSeal}
use Rattle.overlay_machine.specs.Linked.{IsLink}
use Rattle.overlay_machine.proofs.Offers.{Crossed, xjmp_crossed, Leads_to, to_safe, to_entry, leads_to}
use Rattle.overlay_machine.proofs.Offers.{plain_is, Returned, returned}
use Rattle.std.proofs.lemmas.Option.{slice_get_within}
use Rattle.template_runs.specs.Public.{IsShown, IsSharedAt}
use Rattle.template_runs.specs.Runs.{Makes}
use Rattle.template_runs.proofs.Valid.{Valid, valid_same, valid_back, zero_public}
use Rattle.template_runs.proofs.Steps.{At, Placed, next_pc, inside_here, case_here, fetched}
use Rattle.template_runs.proofs.Outside.{Out, outside_here, unsealed_public, half_at}

-- what such a jump keeps: rdata is spent, and a word that isn't linear stays there too
pub record Keeps (s s' : State OWord) : Type 0 where
  pub rcode : s'.regs.rcode ≡ s.regs.rcode
  pub rdata : s'.regs.rdata ≡ left_of look Plain s.regs.rdata
  pub stk : s'.regs.stk ≡ s.regs.stk
  pub a0 : s'.regs.a0 ≡ s.regs.a0
  pub a1 : s'.regs.a1 ≡ s.regs.a1
  pub a2 : s'.regs.a2 ≡ s.regs.a2
  pub a3 : s'.regs.a3 ≡ s.regs.a3

keeps_if : (s : State OWord) (c : CapFields) (d : Word) (b : Bool) → is_linear (look s.regs.rdata) ≡ b
    → Keeps s (put (put (if b then put s (R Rdata) (zero_word Plain) else s) (R Pc) (Plain (Mem c))) (R Dat)
    (Plain d))
keeps_if s c d true e =
    record { rcode = refl; rdata = rw e refl; stk = refl; a0 = refl; a1 = refl; a2 = refl; a3 = refl }
keeps_if s c d false e =
    record { rcode = refl; rdata = rw e refl; stk = refl; a0 = refl; a1 = refl; a2 = refl; a3 = refl }

keeps_perform : (s : State OWord) (c : CapFields) (d : Word)
    → Keeps s (perform look Plain s
    (record no_effect { spent = Some Rdata; first = made Pc (Mem c); second = made Dat d }))
unfolding perform clear
keeps_perform s c d = keeps_if s c d (is_linear (look s.regs.rdata)) refl

keeps_plan : (s s' : State OWord) (p : Plan) → Gives (λ e. Keeps s (perform look Plain s e)) p
    → outcome look Plain s p ≡ went s' → Keeps s s'
keeps_plan s s' (Fails f) g e = cc
keeps_plan s s' Halts g e = cc
keeps_plan s s' (Goes x) g e = let m : perform look Plain s x ≡ s' = cc in subst (Keeps s) m (Gives-effect g)

jump_keeps : (s s' : State OWord) (next : Word) → row look Plain (Xjmp Rcode Rdata) next s ≡ went s'
    → Keeps s s'
unfolding row plan_in opens
jump_keeps s s' next e = keeps_plan s s' _
    (Gives-need _ _ _ (λ code e1. Gives-need _ _ _
    (λ half e2. Gives-ask _ _ _
    (λ q. Gives-need _ _ _
    (λ c m. Gives-ask _ _ _ (λ _. Gives-ask _ _ _ (λ run. Gives-ask _ _ _ (λ nc.
    gives_goes (keeps_perform s c (unsealed half.content))))))))))
    e

-- a word whose content is a capability is linear where that is
content_linear : (w : Word) (o : Opened) (d : CapFields) → opened_of w ≡ Some o → unsealed o.content ≡ Mem d
    → is_linear w ≡ lin_is d.lin
content_linear (Int z) o d e u = cc
content_linear (Mem z) o d e u = cc
content_linear (Seal z) o d e u = cc
content_linear (Sealed n (MemIn m)) o d e u = let k : Mem m ≡ Mem d = in_content m o e ∙ u in
    let s : m ≡ d = cc in ap (λ y. lin_is y.lin) s
  where
    in_content : (m : CapFields) (o : Opened) → opened_of (Sealed n (MemIn m)) ≡ Some o
        → Mem m ≡ unsealed o.content
    in_content m o e = ap (λ (x : Option Opened). content_of m x) e
      where
        content_of : CapFields → Option Opened → Word
        content_of m None = Mem m
        content_of m (Some o) = unsealed o.content
content_linear (Sealed n (SealIn m)) o d e u = absurd (let k : Seal m ≡ Mem d = in_content m o e ∙ u in cc)
  where
    in_content : (m : SealFields) (o : Opened) → opened_of (Sealed n (SealIn m)) ≡ Some o
        → Seal m ≡ unsealed o.content
    in_content m o e = ap (λ (x : Option Opened). content_of m x) e
      where
        content_of : SealFields → Option Opened → Word
        content_of m None = Seal m
        content_of m (Some o) = unsealed o.content

module _ (g : Link) (linked : IsLink g) (p : PartSeen) (k : ℕ) (o : OState) (v : Valid g linked o)
    (at : At g linked p k o) (h : Placed g linked p k (Xjmp Rcode Rdata)) where
  within : k < length p.component.code
  within = slice_get_within p.component.code k _ h.has

  got : fetch (faces look o.maps Pc) (cell_faces look o.maps) ≡ some (Xjmp Rcode Rdata) (next_pc g linked p k)
  got = fetched g linked p k (Xjmp Rcode Rdata) o v at h

  pub case_is : case_of g.layout o.maps ≡ case_fetched o.maps (some (Xjmp Rcode Rdata) (next_pc g linked p k))
  case_is = case_here g linked p k o at within h.site h.entry ∙ ap (case_fetched o.maps) got

  some_owner : (x : Option Owner) → is_some x ≡ true → (w : Owner) × (x ≡ Some w)
  some_owner None e = cc
  some_owner (Some w) e = (w, refl)

  owner_here : (w : Owner) × (owner_now g.layout o ≡ Some w)
  owner_here = some_owner (owner_now g.layout o) (inside_here g linked p k o at)

  -- ---- it weighs 11 at most

  weight_by_small : (c : Case) → c ≡ case_fetched o.maps (some (Xjmp Rcode Rdata) (next_pc g linked p k))
      → weight_by o.maps c ≤ 11
  weight_by_small c e =
      rw e (by (is_plain o.maps.regs.rcode && is_plain o.maps.regs.rdata) (is_ret_code o.maps.regs.rcode))
    where
      by : (a b : Bool) → weight_by o.maps (if a then Other else Back Rcode Rdata) ≤ 11
      by true b = omega arith
      by false b = elim (is_ret_code o.maps.regs.rcode) as (λ x. (if x then 11 else 1) ≤ 11)
          [ true ↦ omega arith | false ↦ omega arith ]

  pub weight_small : weight_of g.layout o ≤ 11
  unfolding weight_of
  weight_small = weight_by_small (case_of g.layout o.maps) case_is

  -- ---- a return

  module _ (f : OpenFrame) (fs : List OpenFrame) (u : SiteCode) (cap : CapFields)
      (code : o.maps.regs.rcode ≡ RetCode f.site) (half : o.maps.regs.rdata ≡ RetData f.call)
      (frames : o.frames ≡ f ∷ fs)
      (site : site_code g.layout f.site ≡ Some u) (own : own_stack g.layout o.maps ≡ Some cap)
      (joins : cap.end + 1 ≡ f.base) where
    case_back : case_of g.layout o.maps ≡ Back Rcode Rdata
    case_back = case_is ∙ ap (λ x. if is_plain x && is_plain o.maps.regs.rdata then Other else Back Rcode
        Rdata) code

    abbrev pub resumed_to : OState
    resumed_to = state_resumed u cap f fs (put o.maps (R Rdata) (zero_word Plain)) o

    back_goes : return_step g.layout Rcode Rdata o ≡ goes resumed_to
    unfolding return_step ask need
    back_goes =
        ap (λ x. return_by g.layout x o.maps.regs.rdata Rdata o.frames o) code
        ∙ ap (λ x. return_by g.layout (RetCode f.site) x Rdata o.frames o) half
        ∙ ap (λ x. return_by g.layout (RetCode f.site) (RetData f.call) Rdata x o) frames
        ∙ rw (
          eq-eqb f.call f.call refl,
          eq-eqb f.site f.site refl,
          site,
          own,
          eq-eqb (cap.end + 1) f.base joins,
        ) refl

    event_back : step_event g.layout o resumed_to ≡ Some (ReturnedTo true f.site f.base f.end)
    unfolding step_event
    event_back = ap (λ x. event_after g.layout (note_by g.layout o x) resumed_to) case_back
        ∙ ap (λ b. event_after g.layout (note_return b o.frames) resumed_to) (inside_here g linked p k o at)
        ∙ ap (λ x. event_after g.layout (note_return true x) resumed_to) frames

    weight_back : weight_of g.layout o ≡ 11
    unfolding weight_of
    weight_back = ap (weight_by o.maps) case_back ∙ ap (λ x. if is_ret_code x then 11 else 1) code

    pub back_makes : Makes g.layout 11 (Some (ReturnedTo true f.site f.base f.end)) o resumed_to
    unfolding overlay_step
    back_makes = record {
      inside = inside_here g linked p k o at;
      goes_on = ap (λ x. step_by g.layout x o) case_back ∙ back_goes;
      weight = weight_back;
      event = event_back;
    }

    pub back_valid : Valid g linked resumed_to
    back_valid = valid_back g linked o resumed_to v back_makes.goes_on f fs frames refl refl

    pub back_returned : Returned g.layout Rcode Rdata o resumed_to
    back_returned = returned g.layout Rcode Rdata o resumed_to back_goes

  -- ---- a jump by plain words

  pub data Jumps (q : OState) : Type 0 where
    leaves : (code : Opened) → opened_of (look o.maps.regs.rcode) ≡ Some code → IsOpenSeal g code.seal
        → Out g linked q → q.frames ≡ o.frames → q.maps.cells ≡ o.maps.cells
        → reg q.maps.regs A0 ≡ reg o.maps.regs A0 → (w : Owner) → owner_now g.layout o ≡ Some w
        → Makes g.layout 1 (Some (Left w.part)) o q → Crossed Rcode Rdata o.maps q.maps → Keeps o.maps q.maps
        → Jumps q
    hops : (code : Opened) → opened_of (look o.maps.regs.rcode) ≡ Some code → (r : PartSeen) (e : ℕ)
        → code.seal ≡ r.component.closure → memory_content code.content ≡ Some (code_at (ranges_of r) e)
        → Valid g linked q → IsTrusted g r → begins_entry r.component e ≡ true → IsSharedAt r.component e
        → PcAt look (ranges_of r) e q.maps.regs
        → look q.maps.regs.dat ≡ Mem (data_cap (ranges_of r) (pos r.component.data_base))
        → Keeps o.maps q.maps → q.maps.regs.rdata ≡ o.maps.regs.rdata → q.frames ≡ o.frames
        → q.maps.cells ≡ o.maps.cells → Makes g.layout 1 None o q → Jumps q

  module _ (p1 : is_plain o.maps.regs.rcode ≡ true) (p2 : is_plain o.maps.regs.rdata ≡ true) where
    case_plain : case_of g.layout o.maps ≡ Other
    case_plain = case_is ∙ (rw (p1, p2) refl)

    weight_plain : weight_of g.layout o ≡ 1
    unfolding weight_of
    weight_plain = ap (weight_by o.maps) case_plain

    pub steps_plain : overlay_step g.layout o ≡ with_frames o.frames o.calls
        (row look Plain (Xjmp Rcode Rdata) (next_pc g linked p k) o.maps)
    unfolding overlay_step other_step
    steps_plain = ap (λ c. step_by g.layout c o) case_plain
        ∙ ap (with_frames o.frames o.calls)
        (step_at look Plain o.maps (Xjmp Rcode Rdata) (next_pc g linked p k) got)

    module _ (s' : State OWord) (safe : (d : Reg) → d ≢ Pc → d ≢ Dat → IsShown g o.frames (reg o.maps.regs d))
        (e : row look Plain (Xjmp Rcode Rdata) (next_pc g linked p k) o.maps ≡ went s') where
      abbrev pub jumped_to : OState
      jumped_to = record { maps = s'; frames = o.frames; calls = o.calls }

      goes_there : overlay_step g.layout o ≡ goes jumped_to
      goes_there = steps_plain ∙ ap (with_frames o.frames o.calls) e

      event_by : (seal : ℕ) → jump_seal o.maps (some (Xjmp Rcode Rdata) (next_pc g linked p k)) ≡ Some seal
          → step_event g.layout o jumped_to ≡ jumped g.layout jumped_to (Some owner_here.0.part) seal
      unfolding step_event
      event_by seal s =
          ap (λ x. event_after g.layout (note_by g.layout o x) jumped_to) case_plain
          ∙ ap (λ x. event_after g.layout
          (note_jump (option_map (λ p. p.part) x)
          (jump_seal o.maps (fetch (faces look o.maps Pc) (cell_faces look o.maps)))) jumped_to)
          owner_here.1
          ∙ ap (λ x. event_after g.layout (note_jump (Some owner_here.0.part) (jump_seal o.maps x)) jumped_to)
          got
          ∙ ap (λ x. event_after g.layout (note_jump (Some owner_here.0.part) x) jumped_to) s

      kept : Keeps o.maps s'
      kept = jump_keeps o.maps s' (next_pc g linked p k) e

      pub jumps : Jumps jumped_to
      unfolding opens
      jumps =
          let x = xjmp_crossed o.maps s' Rcode Rdata (next_pc g linked p k) e in
          let a = plain_is o.maps.regs.rcode p1 in
          let b = plain_is o.maps.regs.rdata p2 in
          let s1 = subst (λ w. IsShown g o.frames w) a.1 (safe Rcode (λ q. cc) (λ q. cc)) in
          let s2 = subst (λ w. IsShown g o.frames w) b.1 (safe Rdata (λ q. cc) (λ q. cc)) in
          let o1 : opened_of a.0 ≡ Some x.code = sym (ap (λ w. opened_of (look w)) a.1) ∙ x.opens_code in
          let o2 : opened_of b.0 ≡ Some x.half = sym (ap (λ w. opened_of (look w)) b.1) ∙ x.opens_half in
          by_lead x a.0 s1 o1 (event_by x.code.seal (ap (option_map (λ k. k.seal)) x.opens_code))
          (leads_to g linked o.frames a.0 b.0 x.code x.half x.cap s1.0 s2.0 o1 o2 x.one_seal x.memory
          x.runs x.no_code)
        where
          by_lead : (x : Crossed Rcode Rdata o.maps s') (w : Word) → IsShown g o.frames (Plain w)
              → opened_of w ≡ Some x.code
              → step_event g.layout o jumped_to ≡ jumped g.layout jumped_to (Some owner_here.0.part)
              x.code.seal → Leads_to g linked o.frames x.code.seal x.cap (unsealed x.half.content)
              → Jumps jumped_to
          by_lead x w s1 o1 ev (to_safe under a b) =
              let out : Out g linked jumped_to = record {
                valid = valid_same g linked o jumped_to v goes_there x.cells refl;
                safe = λ r. elim (cases_reg r Pc) as (λ _. IsShown g o.frames (reg s'.regs r)) [
                  | inl e ↦ subst (λ y. IsShown g o.frames y) (sym (ap (reg s'.regs) e ∙ x.pc))
                      (a, λ p k ip e. cc)
                  | inr np ↦ elim (cases_reg r Dat) as (λ _. IsShown g o.frames (reg s'.regs r)) [
                    | inl e ↦ subst (λ y. IsShown g o.frames y) (sym (ap (reg s'.regs) e ∙ x.dat))
                        (b, unsealed_public g x.half.content)
                    | inr nd ↦ elim (x.others r np nd) as (λ _. IsShown g o.frames (reg s'.regs r)) [
                      | inl y ↦ subst (λ w. IsShown g o.frames w) (sym y) (safe r np nd)
                      | inr y ↦ subst (λ w. IsShown g o.frames w) (sym y) (tt, zero_public g)
                    ]
                  ]
                ];
              } in
              leaves x.code x.opens_code under out refl x.cells kept.a0 owner_here.0 owner_here.1 (record {
                inside = inside_here g linked p k o at;
                goes_on = goes_there;
                weight = weight_plain;
                event = ev ∙ ap (λ b. if b then None else Some (Left owner_here.0.part))
                    (outside_here g linked jumped_to out);
              }) x kept
          by_lead x w s1 o1 ev (to_entry r e ip en under ec hd) =
              let pc : PcAt look (ranges_of r) e s'.regs = ap look x.pc ∙ ap Mem ec in
              let v2 = valid_same g linked o jumped_to v goes_there x.cells refl in
              let at2 : At g linked r e jumped_to = record { trusted = ip; pc = pc } in
              hops x.code x.opens_code r e under (x.memory ∙ ap Some ec) v2 ip en
              (s1.1 r e ip (half_at w x.code x.cap r e o1 x.memory under ec)) pc (ap look x.dat ∙ hd) kept
              (kept.rdata ∙ ap (λ b. if b then zero_word Plain else o.maps.regs.rdata)
              (content_linear (look o.maps.regs.rdata) x.half
              (data_cap (ranges_of r) (pos r.component.data_base)) x.opens_half hd)) refl x.cells
              (record {
                inside = inside_here g linked p k o at;
                goes_on = goes_there;
                weight = weight_plain;
                event = ev ∙ ap (λ b. if b then None else Some (Left owner_here.0.part))
                    (inside_here g linked r e jumped_to at2);
              })
