-- A call of any pair, from its site on, once the arguments stand in their registers.
use Rattle.call_sequence.specs.declared.TheConstants.{CALL_WORDS, SITE_WORDS}
use Rattle.source_laws.proofs.Scenes.{Scene}
use Rattle.source_laws.proofs.Refined.{Way, Event, Entry, handed, World, Comp, ends, Registers, Then, Wait}
use Rattle.source_laws.proofs.Refined.{with_place, call, call_by, part_of, stack_of, Frame, whole}
use Rattle.source_laws.specs.Seen.{Shown, shown_of, arg_shown, args_shown, call_shown}
use Rattle.proc_semantics.specs.Marked.{Arg, Number, OfPair, Calls, arg_at, marked_args, call_event}
use Rattle.std.proofs.Common.{Option, ◌≡◌, ℕ, zero, suc, ◌+◌, ◌-◌, ◌<◌, ◌≤◌, ℤ, pos, negsuc, ◌+ℤ◌, List, []}
use Rattle.std.proofs.Common.{◌∷◌, ◌++◌, length, replicate, Some, None, Bool, true, false, refl, sym, ap, ◌∙◌}
use Rattle.std.proofs.Common.{subst, arith, le-ltb, length-append}
use Rattle.std.specs.Prelude.{slice_index_or, slice_get, int_lt, nat_lt, ◌&&◌, if◌then◌else◌}
use Rattle.std.specs.Str.{bytes_eq}
use Rattle.std.proofs.lemmas.Slice.Eq.{bytes_eq-Decides}
use Rattle.std.proofs.lemmas.Int.{ints}
use Rattle.std.proofs.lemmas.List.{length-replicate}
use Rattle.std.proofs.lemmas.Bool.{ltb-false, ltb-true}
use Rattle.cap_words.specs.declared.CapFields.{CapFields}
use Rattle.cap_words.specs.declared.Word.TheVariants.{Int, Mem, Sealed}
use Rattle.cap_words.specs.declared.Sealable.TheVariants.{Mem as MemIn}
use Rattle.cap_words.specs.Linear.{lin_is, is_linear}
use Rattle.cap_words.specs.Face.{face_of}
use Rattle.cap_words.specs.Faces.{may_run}
use Rattle.lcm_isa.specs.declared.Reg.{Reg}
use Rattle.lcm_isa.specs.declared.Reg.TheVariants.{Pc, Rcode, Rdata, Stk, Dat, T1, T2, C1, C2, A0, A1, A2, A3}
use Rattle.lcm_isa.specs.declared.Reg.TheVariants.{G0, G1, G2}
use Rattle.lcm_isa.specs.declared.Operand.TheVariants.{Imm}
use Rattle.lcm_isa.specs.declared.Instr.TheVariants.{Plus, Xjmp}
use Rattle.lcm_machine.specs.declared.FailCause.{FailCause}
use Rattle.lcm_machine.specs.declared.Place.TheVariants.{R}
use Rattle.lcm_machine.specs.Maps.{State}
use Rattle.lcm_machine.specs.Places.{reg}
use Rattle.lcm_machine.specs.Table.{fits_64, runs_in}
use Rattle.lcm_machine.specs.Row.{row, failed, faces}
use Rattle.call_sequence.specs.Holds.{code_at, data_cap, part_stack_cap}
use Rattle.linked_starts.specs.Parts.{PartSeen}
use Rattle.trusted_border.specs.declared.layout.SiteCode.{SiteCode}
use Rattle.trusted_border.specs.Reaches.{site_of_seal}
use Rattle.overlay_machine.specs.declared.words.OWord.{OWord}
use Rattle.overlay_machine.specs.declared.words.OWord.TheVariants.{Plain, RetCode, RetData}
use Rattle.overlay_machine.specs.Words.{look, is_plain, is_ret_code}
use Rattle.overlay_machine.specs.State.{OpenFrame, OState}
use Rattle.overlay_machine.specs.Flat.{flat}
use Rattle.overlay_machine.specs.Step.{fails as failing_step, overlay_step, call_step, step_by, weight_of}
use Rattle.overlay_machine.specs.Step.{weight_by, own_stack, at_call, new_frame, with_frames, ask, need}
use Rattle.overlay_machine.specs.Link.{Link, IsTrusted, ranges_of}
use Rattle.overlay_machine.specs.Linked.{IsLink}
use Rattle.overlay_machine.proofs.Offers.{own_from, frame_in}
use Rattle.overlay_machine.specs.Safe.{IsMet}
use Rattle.run_lines.specs.Layout.{is_trusted, part_name, site_of}
use Rattle.proc_semantics.specs.Values.{Store}
use Rattle.proc_semantics.specs.declared.value.Target.{Target}
use Rattle.proc_semantics.specs.declared.value.Pair.{Pair}
use Rattle.proc_semantics.specs.declared.value.Pair.TheVariants.{Runs, Bad, Outside}
use Rattle.source_events.specs.declared.End.TheVariants.{Fail as Fails}
use Rattle.proc_semantics.specs.declared.value.Value.{Value}
use Rattle.proc_semantics.specs.declared.value.Value.TheVariants.{Num, Closure, Other}
use Rattle.proc_templates.specs.Templates.{argument}
use Rattle.template_runs.specs.Runs.{is_inside}
use Rattle.template_runs.proofs.Offers.{quiet_fewer, Owing, used, Valid, At, Placed, inside_here, Here}
use Rattle.template_runs.proofs.Offers.{called_valid, SiteHere, Pair as PairHere, case_call, called_to, own}
use Rattle.template_runs.proofs.Offers.{all, above, within_stack, unsealed_public, took, take_law, Called}
use Rattle.template_runs.specs.Border.{Shows, GivesBack, content_of}
use Rattle.source_laws.proofs.Upto.{UpTo, go_fail, fewer, upto, none_inside}
use Rattle.source_laws.proofs.CallsIn.{int_public, ProcLaw, call_in_law}
use Rattle.source_laws.proofs.CallsOut.{call_out_law}
use Rattle.template_runs.specs.Public.{ArePublic, IsPublic}
use Rattle.source_laws.proofs.Waiting.{WaitLaw, IsFor}
use Rattle.source_laws.proofs.AtWork.{Half}
use Rattle.source_laws.proofs.Arguments.{Holding}
use Rattle.run_lines.specs.Feed.{integer_in}
use Rattle.cap_words.specs.declared.Sealable.{Sealable}

four_are : (xs : List OWord) (q : OState) → length xs ≡ 4 → Holding xs q
    → xs ≡ q.maps.regs.a0 ∷ q.maps.regs.a1 ∷ q.maps.regs.a2 ∷ q.maps.regs.a3 ∷ []
four_are [] q len hd = absurd (omega (arith, len))
four_are (x0 ∷ []) q len hd = absurd (omega (arith, len))
four_are (x0 ∷ x1 ∷ []) q len hd = absurd (omega (arith, len))
four_are (x0 ∷ x1 ∷ x2 ∷ []) q len hd = absurd (omega (arith, len))
four_are (x0 ∷ x1 ∷ x2 ∷ x3 ∷ []) q len hd =
    sym (ap (λ z. z ∷ q.maps.regs.a1 ∷ q.maps.regs.a2 ∷ q.maps.regs.a3 ∷ []) (hd 0 x0 refl)
    ∙ ap (λ z. x0 ∷ z ∷ q.maps.regs.a2 ∷ q.maps.regs.a3 ∷ []) (hd 1 x1 refl)
    ∙ ap (λ z. x0 ∷ x1 ∷ z ∷ q.maps.regs.a3 ∷ []) (hd 2 x2 refl)
    ∙ ap (λ z. x0 ∷ x1 ∷ x2 ∷ z ∷ []) (hd 3 x3 refl))
four_are (x0 ∷ x1 ∷ x2 ∷ x3 ∷ x4 ∷ xs) q len hd = absurd (omega (arith, len))

abbrev zeros_of : ℕ → List OWord
zeros_of n = replicate n (Plain (Int (pos 0)))

module _ (g : Link) (linked : IsLink g) (Begins : Target → PartSeen → ℕ → Type 0) where
  -- two words that are a pair under one seal
  pub record Sealing (c : CapFields) (d : Sealable) (seal : ℕ) (x y : OWord) : Type 0 where
    pub code : x ≡ Plain (Sealed seal (MemIn c))
    pub half : y ≡ Plain (Sealed seal d)
    pub normal : lin_is c.lin ≡ false
    pub runs : may_run c.perm ≡ true
    pub half_normal : is_linear (Sealed seal d) ≡ false
    pub half_rests : runs_in (content_of d) ≡ false
    pub foreign : site_of_seal g.layout seal ≡ None

  -- a call of which fails
  abbrev pub FailsBy : OWord → OWord → Type 0
  FailsBy x y = (s : State OWord) → s.regs.c1 ≡ x → s.regs.c2 ≡ y → (is_plain x && is_plain y) ≡ true
      → (cause : FailCause) × (z : ℤ) × (row look Plain (Xjmp C1 C2) (Int (pos 0)) s ≡ failed cause z)

  -- what a pair of words does, if it is called
  abbrev pub MeantBy : Pair → OWord → OWord → Type 0
  MeantBy (Runs t) x y = (r : PartSeen) × (e : ℕ) × (seal : ℕ) × Begins t r e × IsTrusted g r
      × Sealing (code_at (ranges_of r) e) (MemIn (data_cap (ranges_of r) (pos r.component.data_base))) seal x
      y
  MeantBy Outside x y = (c : CapFields) × (d : Sealable) × (seal : ℕ) × Sealing c d seal x y
      × (is_trusted g.layout (face_of (Mem c)) ≡ false)
  MeantBy Bad x y = FailsBy x y

  -- two words that are called as a pair
  pub record IsCalled (r : Pair) (x y : OWord) : Type 0 where
    pub first : Half x
    pub second : Half y
    pub means : MeantBy r x y

  -- and two that may be passed on
  pub record IsPair (r : Pair) (x y : OWord) : Type 0 where
    pub called : IsCalled r x y
    pub shown : IsPublic g x
    pub shown_too : IsPublic g y

  -- the words of a pair that leads outside are public
  outside_public : (c : CapFields) (d : Sealable) (seal : ℕ) (x y : OWord) → Sealing c d seal x y
      → is_trusted g.layout (face_of (Mem c)) ≡ false → IsPublic g x × IsPublic g y
  outside_public c d seal x y z gone =
      (subst (IsPublic g) (sym z.code) code_public, subst (IsPublic g) (sym z.half) half_public)
    where
      code_public : IsPublic g (Plain (Sealed seal (MemIn c)))
      code_public p k ip e =
          let s : c ≡ code_at (ranges_of p) k = cc in
          let t : is_trusted g.layout (face_of (Mem c)) ≡ true =
          ap (λ x. is_trusted g.layout (face_of (Mem x))) s
          ∙ linked.owned p (pos (p.component.code_base + k)) ip in
          absurd (let bad : true ≡ false = sym t ∙ gone in cc)

      half_public : IsPublic g (Plain (Sealed seal d))
      half_public p k ip e =
          let s : d ≡ MemIn (code_at (ranges_of p) k) = cc in
          let t : runs_in (content_of d) ≡ true = ap (λ x. runs_in (content_of x)) s in
          absurd (let bad : true ≡ false = sym t ∙ z.half_rests in cc)

  -- values of arguments, the marks of their words, and the words
  pub data Passed : List Value → List (Option OWord) → List OWord → Type 0 where
    no_more : Passed [] [] []
    one_more : (v : ℤ) {vs : List Value} {ms : List (Option OWord)} {ws : List OWord} → fits_64 v ≡ true
        → Passed vs ms ws → Passed (Num v ∷ vs) (None ∷ ms) (Plain (Int v) ∷ ws)
    two_more : (r : Pair) (x y : OWord) {vs : List Value} {ms : List (Option OWord)} {ws : List OWord}
        → IsPair r x y → Passed vs ms ws
        → Passed (Closure r ∷ Other ∷ vs) (Some x ∷ Some y ∷ ms) (x ∷ y ∷ ws)

  -- ---- what the outside is shown

  abbrev word_shown : OWord → Arg OWord
  word_shown w = arg_shown (integer_in (look w)) w

  zeros_at : (k i : ℕ) → slice_index_or (zeros_of k) i (Plain (Int (pos 0))) ≡ Plain (Int (pos 0))
  zeros_at zero i = refl
  zeros_at (suc k) zero = refl
  zeros_at (suc k) (suc i) = zeros_at k i

  number_shown : (v : ℤ) → fits_64 v ≡ true → word_shown (Plain (Int v)) ≡ Number v
  number_shown v e = rw e refl

  half_shown : (x : OWord) → Half x → word_shown x ≡ OfPair (Some x)
  half_shown x h = ap (λ z. arg_shown z x) h.no_number

  shown_at : (vs : List Value) (ms : List (Option OWord)) (ws : List OWord) (k i : ℕ) → Passed vs ms ws
      → word_shown (slice_index_or (ws ++ zeros_of k) i (Plain (Int (pos 0)))) ≡ arg_at OWord Entry vs ms i
  shown_at _ _ _ k i no_more = ap word_shown (zeros_at k i)
  shown_at _ _ _ k zero (one_more v {vs} {ms} {ws} f p) = number_shown v f
  shown_at _ _ _ k (suc i) (one_more v {vs} {ms} {ws} f p) = shown_at vs ms ws k i p
  shown_at _ _ _ k zero (two_more r x y {vs} {ms} {ws} h p) = half_shown x h.called.first
  shown_at _ _ _ k (suc zero) (two_more r x y {vs} {ms} {ws} h p) = half_shown y h.called.second
  shown_at _ _ _ k (suc (suc i)) (two_more r x y {vs} {ms} {ws} h p) = shown_at vs ms ws k i p

  -- what the flat word of a register shows is what its word shows
  pub flat_reg : (q : OState) → Valid g linked q → (d : Reg)
      → integer_in (flat g.layout q.frames (reg q.maps.regs d)) ≡ integer_in (look (reg q.maps.regs d))
  unfolding flat
  flat_reg q v d = by (reg q.maps.regs d) refl (v.holds.met (R d) (reg q.maps.regs d) refl)
    where
      by : (w : OWord) → reg q.maps.regs d ≡ w → IsMet g q.frames (reg q.maps.regs d)
          → integer_in (flat g.layout q.frames (reg q.maps.regs d)) ≡ integer_in (look (reg q.maps.regs d))
      by (Plain x) is m = rw is refl
      by (RetCode i) is m = let m2 = subst (IsMet g q.frames) is m in rw (is, m2.1) refl
      by (RetData k) is m =
          let m2 = subst (IsMet g q.frames) is m in
          let f = frame_in q.frames k m2.0 m2.1 in
          let fit = v.holds.frames_fit m2.0 f.0 in
          rw (is, m2.1, fit.code_is) refl

  -- ---- the call

  -- the words of arguments are public, and so are those of registers that are left
  zeros_public : (k : ℕ) → ArePublic g (replicate k (Plain (Int (pos 0))))
  zeros_public zero = tt
  zeros_public (suc k) = (int_public g (pos 0), zeros_public k)

  words_shown : (vs : List Value) (ms : List (Option OWord)) (ws : List OWord) (k : ℕ) → Passed vs ms ws
      → ArePublic g (ws ++ replicate k (Plain (Int (pos 0))))
  words_shown _ _ _ k no_more = zeros_public k
  words_shown _ _ _ k (one_more v {vs} {ms} {ws} f h) = (int_public g v, words_shown vs ms ws k h)
  words_shown _ _ _ k (two_more r x y {vs} {ms} {ws} i h) =
      (i.shown, (i.shown_too, words_shown vs ms ws k h))

  pub passed_public : (vs : List Value) (ms : List (Option OWord)) (ws : List OWord)
      → Passed vs ms ws → (j : ℕ)
      (x : OWord) → slice_get ws j ≡ Some x → IsPublic g x
  passed_public _ _ _ no_more j x e = cc
  passed_public _ _ _ (one_more v {vs} {ms} {ws} f h) zero x e = let s : Plain (Int v) ≡ x = cc in
      subst (IsPublic g) s (int_public g v)
  passed_public _ _ _ (one_more v {vs} {ms} {ws} f h) (suc j) x e = passed_public vs ms ws h j x e
  passed_public _ _ _ (two_more r y z {vs} {ms} {ws} i h) zero x e = let s : y ≡ x = cc in
      subst (IsPublic g) s i.shown
  passed_public _ _ _ (two_more r y z {vs} {ms} {ws} i h) (suc zero) x e = let s : z ≡ x = cc in
      subst (IsPublic g) s i.shown_too
  passed_public _ _ _ (two_more r y z {vs} {ms} {ws} i h) (suc (suc j)) x e = passed_public vs ms ws h j x e

  -- registers that are cleared before a call
  pub record Cleared (o : OState) : Type 0 where
    pub g0 : o.maps.regs.g0 ≡ Plain (Int (pos 0))
    pub g1 : o.maps.regs.g1 ≡ Plain (Int (pos 0))
    pub g2 : o.maps.regs.g2 ≡ Plain (Int (pos 0))

  -- the words of arguments, and 0 in the registers that are left
  abbrev pub filled : List OWord → List OWord
  filled ws = ws ++ replicate (4 - length ws) (Plain (Int (pos 0)))

  -- they are the four registers
  pub filled_is : (ws : List OWord) (q : OState) → length ws ≤ 4 → Holding (filled ws) q
      → filled ws ≡ q.maps.regs.a0 ∷ q.maps.regs.a1 ∷ q.maps.regs.a2 ∷ q.maps.regs.a3 ∷ []
  filled_is ws q few holds =
      let l = length-append ws (replicate (4 - length ws) (Plain (Int (pos 0)))) in
      let r = length-replicate (4 - length ws) (Plain (Int (pos 0))) in
      four_are (filled ws) q (omega (arith, l, r, few)) holds

  module _ (world : World) (StoreIs : Store → (ℕ → OWord) → Type 0)
      (RegsAre : Registers → OState → Type 0) (p : PartSeen) (w top : ℕ) (fs : List OpenFrame)
      (ow : Owing fs) (f : Frame)
      (need_is : f.need ≡ w) (left_is : f.left ≡ top + 1 - g.layout.stack.base)
      (stack_is : stack_of world f.home ≡ g.layout.stack.base)
      -- the sites of the part have its name
      (site_part : (k i : ℕ) (u : SiteCode) → SiteHere g linked p k i u
      → part_name g.layout (site_of g.layout i).part ≡ part_of world f.home)
      -- registers that hold arguments
      (passes : (wy : Way) (vs : List Value) (ws : List OWord) (q : OState) → Passed vs wy.words ws
      → length ws ≤ 4
      → Holding (filled ws) q → RegsAre (handed world wy vs) q) where
    abbrev scene : Scene
    scene = record {
      world = world;
      g = g;
      linked = linked;
      Begins = Begins;
      StoreIs = StoreIs;
      RegsAre = RegsAre;
    }

    module _ (n b site : ℕ) (kk : Then) (st : Store) (words : List OWord) (mem : ℕ → OWord) (o : OState)
        (h : Here g linked p w top words mem fs o)
        (k : ℕ) (end : ℕ) (at : At g linked p k o) (there : Called g linked p end k site)
        (store : StoreIs st mem) where
      abbrev I : ℕ
      I = there.number

      abbrev U : SiteCode
      U = there.code

      inside : is_inside g.layout o ≡ true
      inside = inside_here g linked p k o at

      -- ---- where it fails

      light : weight_of g.layout o ≤ CALL_WORDS + 1
      unfolding weight_of
      light = subst (λ x. weight_by o.maps x ≤ CALL_WORDS + 1)
          (sym (case_call g linked p w top words mem fs o h k I U at there.here))
          (by (is_ret_code o.maps.regs.c1))
        where
          by : (r : Bool) → (if r then CALL_WORDS + 1 else CALL_WORDS) ≤ CALL_WORDS + 1
          by true = omega arith
          by false = omega arith

      fails_by : call_step g.layout I o ≡ failing_step → (CALL_WORDS + 1) ≤ b
          → UpTo g ow.owes (used w top) n b o (ends Fails)
      unfolding overlay_step
      fails_by e le = go_fail g n b o inside
          (ap (λ x. step_by g.layout x o) (case_call g linked p w top words mem fs o h k I U at there.here)
          ∙ e) (let l = light in omega (arith, l, le))

      below : top + 1 < g.layout.stack.base + w + 2 → (z : ℤ) → z +ℤ pos w ≡ pos top
          → int_lt (pos g.layout.stack.base) z ≡ false
      below short (pos z) e = le-ltb g.layout.stack.base z (omega (arith, ints, e, short))
      below short (negsuc z) e = refl

      short_fails : top + 1 < g.layout.stack.base + w + 2 → call_step g.layout I o ≡ failing_step
      unfolding call_step ask need
      short_fails short =
          let own1 : own_stack g.layout o.maps ≡ Some (part_stack_cap (ranges_of p) top h.at) =
          own_from g.layout o.maps _ h.stk refl refl (linked.stack_bases p at.trusted) in
          rw (there.here.code_is) (rw own1 (rw (below short h.at h.cursor) refl))

      module _ (room : g.layout.stack.base + w + 2 ≤ top + 1) where
        bad_fails : (x y : OWord) → o.maps.regs.c1 ≡ x → o.maps.regs.c2 ≡ y → FailsBy x y
            → call_step g.layout I o ≡ failing_step
        unfolding call_step ask need
        bad_fails x y ex ey bad =
            rw (there.here.code_is)
            (rw (own g linked p w top words mem fs o h k I U at there.here room)
            (rw (above g linked p w top words mem fs o h k I U at there.here room)
            (rw (
              all g linked p w top words mem fs o h k I U at there.here room,
              within_stack g linked p w top words mem fs o h k I U at there.here room,
            )
            (by (is_plain o.maps.regs.c1 && is_plain o.maps.regs.c2) refl))))
          where
            S : State OWord
            S = at_call I U (part_stack_cap (ranges_of p) top (pos (top - w))) o

            by : (t : Bool) → (is_plain o.maps.regs.c1 && is_plain o.maps.regs.c2) ≡ t
                → (if t then with_frames (new_frame I (top - w) top o ∷ o.frames) (o.calls + 1)
                (row look Plain (Xjmp C1 C2) (Int (pos 0)) S) else failing_step) ≡ failing_step
            by false e = refl
            by true e = let r = bad S ex ey
                (ap (λ z. is_plain z && is_plain y) (sym ex)
                ∙ ap (λ z. is_plain o.maps.regs.c1 && is_plain z) (sym ey) ∙ e) in
                ap (with_frames (new_frame I (top - w) top o ∷ o.frames) (o.calls + 1)) r.2

        -- ---- where it goes

        module _ (c : ℕ) (x y : OWord) (ex : o.maps.regs.c1 ≡ x) (ey : o.maps.regs.c2 ≡ y) (vs : List Value)
            (ws : List OWord) (wy : Way) (ef : wy.first ≡ Some x) (es : wy.second ≡ Some y)
            (passed : Passed vs wy.words ws) (few : length ws ≤ 4) (holds : Holding (filled ws) o)
            (cleared : Cleared o) (behind : Placed g linked p (k + SITE_WORDS) (Plus G0 A0 (Imm (pos 0))))
          where
            abbrev Cont : ℕ → Type 0
            Cont n = (v : ℤ) (st' : Store) (mem' : ℕ → OWord) (q : OState)
                → Here g linked p w top words mem' fs q → At g linked p (k + SITE_WORDS + 1) q
                → q.maps.regs.g0 ≡ Plain (Int v) → fits_64 v ≡ true → StoreIs st' mem'
                → UpTo g ow.owes (used w top) n c q (kk v st')

            pair_here : (c : CapFields) (d : Sealable) (seal : ℕ) → Sealing c d seal x y
                → PairHere g linked c d seal o
            pair_here c d seal z =
                record {
                  code = ex ∙ z.code;
                  half = ey ∙ z.half;
                  normal = z.normal;
                  runs = z.runs;
                  half_normal = z.half_normal;
                  half_rests = z.half_rests;
                  foreign = z.foreign;
                }

            given_is : top - w - g.layout.stack.base ≡ f.left - f.need - 1
            given_is = omega (arith, need_is, left_is, room)

            args_public : ArePublic g (o.maps.regs.a0 ∷ o.maps.regs.a1 ∷ o.maps.regs.a2 ∷ o.maps.regs.a3 ∷ [])
            args_public = subst (ArePublic g) (filled_is ws o few holds)
                (words_shown vs wy.words ws (4 - length ws) passed)

            pub runs_law : (n : ℕ) (t : Target) → MeantBy (Runs t) x y
                → ProcLaw scene n → Cont (suc n) → 18 + c ≤ b
                → UpTo g ow.owes (used w top) (suc n) b o
                (call_by world (whole world) f.home (f.left - f.need - 1) site wy (Runs t) vs kk st)
            runs_law n t m law cont le =
                let r = m.0 in
                let e = m.1 in
                let pr = pair_here _ _ m.2 m.5 in
                subst (λ l. UpTo g ow.owes (used w top) (suc n) b o
                ((whole world).proc t (Some l) (handed world wy vs) kk st)) given_is
                (call_in_law scene p w top words mem fs o h k I U at there.here
                room t m.0 m.1 (code_at (ranges_of m.0) m.1)
                (MemIn (data_cap (ranges_of m.0) (pos m.0.component.data_base))) m.2 pr m.4 m.3 refl refl
                ow n (1 + c) b kk (handed world wy vs) st law
                (record {
                  code = tt;
                  half = tt;
                  a0 = args_public.0;
                  a1 = args_public.1.0;
                  a2 = args_public.1.1.0;
                  a3 = args_public.1.1.1.0;
                }) store
                (passes wy vs ws _ passed few (λ j z g1. held j z g1))
                (λ v st' mem' q h2 at2 e2 f2 store2. fewer g n (1 + c) q (kk v st')
                (take_law g linked p (k + SITE_WORDS) q h2.valid at2 behind
                (upto g ow.owes (used w top) (suc n) (kk v st')) v (1 + c)
                c (ap look e2) f2
                (λ v3 at3. cont v st' mem' (took g linked p (k + SITE_WORDS) q h2.valid at2 behind v)
                (record {
                  valid = v3;
                  at = h2.at;
                  stk = h2.stk;
                  cursor = h2.cursor;
                  dat = h2.dat;
                  slots = h2.slots;
                  fit = h2.fit;
                  globs = h2.globs;
                  frames = h2.frames;
                  low = h2.low;
                  high = h2.high;
                  free = h2.free;
                }) at3 refl f2 store2) (omega arith))) (omega (arith, le)))
              where
                held : (j : ℕ) (z : OWord) → slice_get (filled ws) j ≡ Some z
                    → reg (called_to g linked p w top words mem fs o h k I U at there.here room
                    (code_at (ranges_of m.0) m.1)
                    (MemIn (data_cap (ranges_of m.0) (pos m.0.component.data_base))) m.2
                    (pair_here _ _ m.2 m.5)).maps.regs (argument j) ≡ z
                held zero z g1 = holds zero z g1
                held (suc zero) z g1 = holds (suc zero) z g1
                held (suc (suc zero)) z g1 = holds (suc (suc zero)) z g1
                held (suc (suc (suc zero))) z g1 = holds (suc (suc (suc zero))) z g1
                held (suc (suc (suc (suc j)))) z g1 = holds (suc (suc (suc (suc j)))) z g1

            pub outside_call_law : (n : ℕ) → MeantBy Outside x y
                → WaitLaw scene n → Cont (suc n) → 18 + c ≤ b
                → UpTo g ow.owes (used w top) (suc n) b o
                (call_by world (whole world) f.home (f.left - f.need - 1) site wy Outside vs kk st)
            unfolding faces
            outside_call_law n m law cont le =
                call_out_law scene p w top words mem fs o h k I U at there.here
                room m.0 m.1 m.2 pr behind cleared.g0 cleared.g1 cleared.g2 ow n c b wt st told_call
                (call_shown g.layout Q I (top - w)) law m.4
                all_public store for alike (λ low. refl) refl
                (λ j lj v st' mem' q h2 at2 e2 f2 store2. fewest n j c q (kk v st') lj
                (cont v st' mem' q h2 at2 e2 f2 store2)) (omega (arith, le))
              where
                pr : PairHere g linked m.0 m.1 m.2 o
                pr = pair_here m.0 m.1 m.2 m.3

                Q : OState
                Q = called_to g linked p w top words mem fs o h k I U at there.here room m.0 m.1 m.2 pr

                all_public : (r : Reg) → IsPublic g (reg Q.maps.regs r)
                all_public Pc = λ a b e0 e1. cc
                all_public Rcode = tt
                all_public Rdata = tt
                all_public Stk = λ a b e0 e1. cc
                all_public Dat = unsealed_public g (content_of m.1)
                all_public T1 = λ a b e0 e1. cc
                all_public T2 = λ a b e0 e1. cc
                all_public C1 = subst (IsPublic g) (sym ex) (outside_public m.0 m.1 m.2 x y m.3 m.4).0
                all_public C2 = subst (IsPublic g) (sym ey) (outside_public m.0 m.1 m.2 x y m.3 m.4).1
                all_public A0 = args_public.0
                all_public A1 = args_public.1.0
                all_public A2 = args_public.1.1.0
                all_public A3 = args_public.1.1.1.0
                all_public G0 = subst (IsPublic g) (sym cleared.g0) (int_public g (pos 0))
                all_public G1 = subst (IsPublic g) (sym cleared.g1) (int_public g (pos 0))
                all_public G2 = subst (IsPublic g) (sym cleared.g2) (int_public g (pos 0))

                wt : Wait world
                wt = record {
                  part = part_of world f.home;
                  site = site;
                  base = stack_of world f.home + (f.left - f.need - 1);
                  given = f.left - f.need - 1;
                  resume = kk;
                }

                frame_base : (new_frame I (top - w) top o).base
                    ≡ stack_of world f.home + (f.left - f.need - 1)
                frame_base = (let z : top - w ≡ stack_of world f.home + (f.left - f.need - 1) =
                    omega (arith, need_is, left_is, stack_is, room) in z)

                for : IsFor scene wt (new_frame I (top - w) top o)
                for = record {
                  part = subst (λ z. bytes_eq z (part_of world f.home) ≡ true)
                      (sym (site_part k I U there.here))
                      ((bytes_eq-Decides (part_of world f.home) (part_of world f.home)).1 refl);
                  site = there.index_is;
                  base = frame_base;
                  given = given_is;
                }

                told_call : Option ℕ → Event
                told_call low = call_event OWord Entry (part_of world f.home) site
                    (stack_of world f.home + (f.left - f.need - 1)) wy vs low

                fewest : (n j c : ℕ) (q : OState) (m : Comp) → j ≤ n
                    → UpTo g ow.owes (used w top) (suc n) c q m
                    → UpTo g ow.owes (used w top) j c q m
                fewest n j c q m lj u = record {
                  by = λ i li. u.by i (omega (arith, lj, li));
                  quiet = quiet_fewer g (Shows g.layout) (GivesBack g.layout) q ow.owes j (suc n)
                      (omega (arith, lj)) u.quiet;
                  wiped = λ x low s i li. u.wiped x low s i (omega (arith, lj, li));
                }

                valid_q : Valid g linked Q
                valid_q = called_valid g linked p w top words mem fs o h k I U at there.here room m.0 m.1 m.2
                    pr

                a_is : (d : Reg) → integer_in (flat g.layout Q.frames (reg Q.maps.regs d)) ≡ integer_in
                    (look (reg Q.maps.regs d))
                a_is d = flat_reg Q valid_q d

                word_is : (d : Reg) (i : ℕ) → slice_index_or (o.maps.regs.a0 ∷ o.maps.regs.a1 ∷ o.maps.regs.a2
                    ∷ o.maps.regs.a3 ∷ []) i (Plain (Int (pos 0))) ≡ reg Q.maps.regs d
                    → arg_at OWord Entry vs wy.words i ≡ arg_shown
                    (integer_in (flat g.layout Q.frames (reg Q.maps.regs d))) (reg Q.maps.regs d)
                word_is d i e =
                    sym (shown_at vs wy.words ws (4 - length ws) i passed)
                    ∙ ap (λ z. word_shown (slice_index_or z i (Plain (Int (pos 0)))))
                    (filled_is ws o few holds)
                    ∙ ap word_shown e
                    ∙ ap (λ z. arg_shown z (reg Q.maps.regs d)) (sym (a_is d))

                args_are : marked_args OWord Entry vs wy.words ≡ args_shown g.layout Q
                args_are =
                    ap (λ z. z ∷ arg_at OWord Entry vs wy.words 1 ∷ arg_at OWord Entry vs wy.words 2
                    ∷ arg_at OWord Entry vs wy.words 3 ∷ []) (word_is A0 0 refl)
                    ∙ ap (λ z. arg_shown (integer_in (flat g.layout Q.frames Q.maps.regs.a0)) Q.maps.regs.a0 ∷
                    z
                    ∷ arg_at OWord Entry vs wy.words 2
                    ∷ arg_at OWord Entry vs wy.words 3 ∷ []) (word_is A1 1 refl)
                    ∙ ap (λ z. arg_shown (integer_in (flat g.layout Q.frames Q.maps.regs.a0)) Q.maps.regs.a0
                    ∷ arg_shown (integer_in (flat g.layout Q.frames Q.maps.regs.a1)) Q.maps.regs.a1 ∷ z
                    ∷ arg_at OWord Entry vs wy.words 3 ∷ []) (word_is A2 2 refl)
                    ∙ ap (λ z. arg_shown (integer_in (flat g.layout Q.frames Q.maps.regs.a0)) Q.maps.regs.a0
                    ∷ arg_shown (integer_in (flat g.layout Q.frames Q.maps.regs.a1)) Q.maps.regs.a1
                    ∷ arg_shown (integer_in (flat g.layout Q.frames Q.maps.regs.a2)) Q.maps.regs.a2 ∷ z ∷ [])
                    (word_is A3 3 refl)

                call_line : List ℕ → ℕ → ℕ → Option OWord → Option OWord → List (Arg OWord) → Shown
                call_line part i base x y xs = shown_of (Calls part i base None x y xs)

                alike : (low : Option ℕ) → shown_of (told_call low) ≡ call_shown g.layout Q I (top - w)
                alike low =
                    let args = marked_args OWord Entry vs wy.words in
                    let part = part_of world f.home in
                    let at = stack_of world f.home + (f.left - f.need - 1) in
                    let J = site_of g.layout I in
                    ap (λ z. call_line z site at wy.first wy.second args) (sym (site_part k I U there.here))
                    ∙ ap (λ z. call_line (part_name g.layout J.part) z at wy.first wy.second args)
                    (sym there.index_is)
                    ∙ ap (λ z. call_line (part_name g.layout J.part) J.index z wy.first wy.second args)
                    (sym frame_base)
                    ∙ ap (λ z. call_line (part_name g.layout J.part) J.index (top - w) z wy.second args)
                    (ef ∙ ap Some (sym ex))
                    ∙ ap (λ z. call_line (part_name g.layout J.part) J.index (top - w)
                    (Some Q.maps.regs.c1) z args)
                    (es ∙ ap Some (sym ey))
                    ∙ ap (call_line (part_name g.layout J.part) J.index (top - w) (Some Q.maps.regs.c1)
                    (Some Q.maps.regs.c2)) args_are

    -- a call of any pair
    pub call_law : (n b c site : ℕ) (kk : Then) (st : Store) (words : List OWord) (mem : ℕ → OWord)
        (o : OState) (h : Here g linked p w top words mem fs o) (k end : ℕ) (at : At g linked p k o)
        → Called g linked p end k site → StoreIs st mem
        → ((m : ℕ) → m < n → ProcLaw scene m)
        → ((m : ℕ) → m < n → WaitLaw scene m)
        → (r : Pair) (x y : OWord) → o.maps.regs.c1 ≡ x → o.maps.regs.c2 ≡ y → IsCalled r x y
        → (vs : List Value) (ws : List OWord) (wy : Way) → wy.first ≡ Some x → wy.second ≡ Some y
        → Passed vs wy.words ws → length ws ≤ 4 → Holding (filled ws) o
        → Cleared o → Placed g linked p (k + SITE_WORDS) (Plus G0 A0 (Imm (pos 0)))
        → ((v : ℤ) (st' : Store) (mem' : ℕ → OWord) (q : OState) → Here g linked p w top words mem' fs q
        → At g linked p (k + SITE_WORDS + 1) q → q.maps.regs.g0 ≡ Plain (Int v) → fits_64 v ≡ true
        → StoreIs st' mem' → UpTo g ow.owes (used w top) n c q (kk v st'))
        → 18 + c ≤ b → UpTo g ow.owes (used w top) n b o (call world (whole world) f site wy r vs kk st)
    call_law zero b c site kk st words mem o h k end at there store procs waits r x y ex ey pair vs ws
        wy ef es passed
        few holds cleared behind cont le = none_inside g b o _ (inside_here g linked p k o at)
    call_law (suc n) b c site kk st words mem o h k end at there store procs waits r x y ex ey pair
        vs ws wy ef es
        passed few holds cleared behind cont le = by (nat_lt f.left (f.need + 2)) refl
      where
        lt : n < suc n
        lt = omega arith

        by_pair : (room : g.layout.stack.base + w + 2 ≤ top + 1) (r : Pair) → MeantBy r x y
            → UpTo g ow.owes (used w top) (suc n) b o
            (call_by world (whole world) f.home (f.left - f.need - 1) site wy r vs kk st)
        by_pair room (Runs t) m =
            runs_law (suc n) b site kk st words mem o h k end at there store room c x y ex ey vs ws wy
            ef es passed few
            holds cleared behind n t m (procs n lt) cont le
        by_pair room Outside m =
            outside_call_law (suc n) b site kk st words mem o h k end at there store room c x y ex ey
            vs ws wy ef es
            passed few holds cleared behind n m (waits n lt) cont le
        by_pair room Bad m =
            fails_by (suc n) b site kk st words mem o h k end at there store
            (bad_fails (suc n) b site kk st words mem o h k end at there store room x y ex ey m)
            (omega (arith, le))

        by : (t : Bool) → nat_lt f.left (f.need + 2) ≡ t
            → UpTo g ow.owes (used w top) (suc n) b o
            (with_place world (if nat_lt f.left (f.need + 2) then None else Some (f.left - f.need - 1))
            (λ given. call_by world (whole world) f.home given site wy r vs kk st))
        by true e =
            let sh = ltb-true f.left (f.need + 2) e in
            let lo = h.low in
            rw e (fails_by (suc n) b site kk st words mem o h k end at there store
            (short_fails (suc n) b site kk st words mem o h k end at there store
            (omega (arith, sh, lo, need_is, left_is))) (omega (arith, le)))
        by false e = let ro = ltb-false f.left (f.need + 2) e in
            rw e (by_pair (omega (arith, ro, need_is, left_is)) r pair.means)
