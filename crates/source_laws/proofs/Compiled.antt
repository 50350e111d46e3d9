-- A procedure of the modules does what it means, given where its compiled code stands and what its names lead
-- to.
use Rattle.call_sequence.specs.declared.TheConstants.{ENTRY_WORDS}
use Rattle.source_laws.proofs.Scenes.{Scene}
use Rattle.source_laws.proofs.Refined.{Registers, taken_marks, World, proc_at, Comp, ends, Then, block}
use Rattle.source_laws.proofs.Refined.{part_of, stack_of, Frame, whole}
use Rattle.source_laws.proofs.Variables.{AtPlace, EnvIn}
use Rattle.std.proofs.Common.{Option, ◌≡◌, ℕ, zero, suc, ◌+◌, ◌-◌, ◌*◌, ◌<◌, ◌≤◌, ℤ, pos, List, [], ◌∷◌, ◌++◌}
use Rattle.std.proofs.Common.{length, replicate, Some, None, true, refl, sym, ap, ◌∙◌, subst, arith}
use Rattle.std.proofs.Common.{length-append}
use Rattle.trusted_border.specs.declared.layout.SiteCode.{SiteCode}
use Rattle.template_runs.proofs.Offers.{Owing, used, At, Placed, Code, Here, SiteHere, prologue, Reads}
use Rattle.template_runs.proofs.Offers.{epilogue, set_law, Called, Stand, stand_front, stand_back, stand_at}
use Rattle.template_runs.proofs.Offers.{words_in, free_a0}
use Rattle.source_laws.proofs.Upto.{upto, UpTo, spend}
use Rattle.std.specs.Prelude.{slice_get}
use Rattle.std.proofs.lemmas.List.{length-replicate}
use Rattle.std.proofs.lemmas.Option.{slice_get_within}
use Rattle.cap_words.specs.declared.Word.TheVariants.{Int}
use Rattle.lcm_isa.specs.declared.Reg.{Reg}
use Rattle.lcm_isa.specs.declared.Reg.TheVariants.{Rcode, Rdata, T1, A0}
use Rattle.lcm_isa.specs.declared.Instr.TheVariants.{Fail}
use Rattle.lcm_machine.specs.Places.{reg}
use Rattle.lcm_machine.specs.Table.{fits_64}
use Rattle.lcm_machine.proofs.Offers.{set_goes}
use Rattle.call_sequence.specs.Places.{begins_site}
use Rattle.linked_starts.specs.Parts.{PartSeen}
use Rattle.overlay_machine.specs.declared.words.OWord.{OWord}
use Rattle.overlay_machine.specs.declared.words.OWord.TheVariants.{Plain}
use Rattle.overlay_machine.specs.Words.{look}
use Rattle.overlay_machine.specs.State.{OpenFrame, OState}
use Rattle.overlay_machine.specs.Link.{Link, IsTrusted}
use Rattle.overlay_machine.specs.Linked.{IsLink}
use Rattle.run_lines.specs.Layout.{part_name, site_of}
use Rattle.proc_program.specs.StepView.{block_of}
use Rattle.proc_semantics.specs.Values.{Store, taken}
use Rattle.proc_semantics.specs.declared.value.Target.{Target}
use Rattle.proc_program.specs.declared.program.Procedure.{Procedure}
use Rattle.source_events.specs.declared.End.TheVariants.{Fail as Fails}
use Rattle.proc_semantics.specs.declared.value.Value.{Value}
use Rattle.proc_semantics.specs.declared.value.Value.TheVariants.{Num}
use Rattle.proc_templates.specs.declared.FrameShape.{FrameShape as Shape}
use Rattle.proc_templates.specs.Items.{Item, does, label, zero_of}
use Rattle.proc_templates.specs.Templates as templates
use Rattle.proc_templates.specs.Templates.{block_code, argument, check_params, push, pushed, before_epilogue}
use Rattle.proc_templates.specs.Templates.{proc_code}
use Rattle.proc_templates.specs.Compiled.{first_temporary}
use Rattle.proc_program.specs.Limits.{registers_of}
use Rattle.proc_program.specs.Program.{Block}
use Rattle.source_laws.proofs.Handed.{taken_handed, places, places_are}
use Rattle.source_laws.specs.Fits.{Kind, kinds_from, BlockFits}
use Rattle.source_laws.specs.Sites.{SiteIs, SitesAt, BlockNumbered}
use Rattle.source_laws.proofs.CallSites.{BlockCallsAt, sites_front, sites_back, block_calls_at, checks_count}
use Rattle.source_laws.proofs.CallSites.{push_count}
use Rattle.source_laws.proofs.PieceSizes.{block_size}
use Rattle.source_laws.proofs.Placings.{called_of}
use Rattle.source_laws.proofs.Procedures.{checks_size, checks_few, push_size, pushed_are, prologue_of}
use Rattle.source_laws.proofs.Procedures.{epilogue_of}
use Rattle.source_laws.proofs.AtWork.{Globals, Pairs}
use Rattle.source_laws.proofs.Callings.{IsPair, IsCalled, passed_public}
use Rattle.source_laws.proofs.CallsIn.{EntryPublic}
use Rattle.source_laws.proofs.Language.{Enacting, Below, does_block}
use Rattle.source_laws.proofs.Parameters.{RegsAre, passes, checks_fail, checks_go}
use Rattle.source_laws.proofs.Procs.{Proc, ArgsKept}
use Rattle.source_laws.proofs.Bodies.{argument_regs, reads_all, kinds_length, rests, matches, env_in}

length_regs : (i n : ℕ) → length (argument_regs i n) ≡ n
length_regs i zero = refl
length_regs i (suc n) = ap suc (length_regs (i + 1) n)

two_front : (ws : List OWord) (a b : OWord) → slice_get ws 0 ≡ Some a → slice_get ws 1 ≡ Some b
    → (rest : List OWord) × (ws ≡ a ∷ b ∷ rest)
two_front [] a b e f = absurd cc
two_front (x ∷ []) a b e f = absurd cc
two_front (x ∷ y ∷ ws) a b e f =
    let s : x ≡ a = cc in
    let t : y ≡ b = cc in
    (ws, ap (λ z. z ∷ y ∷ ws) s ∙ ap (λ z. a ∷ z ∷ ws) t)

module _ (world : World) (g : Link) (linked : IsLink g) (Begins : Target → PartSeen → ℕ → Type 0)
    (StoreIs : Store → (ℕ → OWord) → Type 0) where
  abbrev pub Regs : Registers → OState → Type 0
  Regs = RegsAre g linked Begins

  abbrev pub InScene : Scene
  InScene = record {
    world = world;
    g = g;
    linked = linked;
    Begins = Begins;
    StoreIs = StoreIs;
    RegsAre = Regs;
  }

  -- the values of a procedure's places stand in the slots after the first two
  abbrev pub EnvIs : Procedure → List (Option OWord) → List Value → List OWord → Type 0
  EnvIs what ms env ws = (rc rd : OWord)
      → EnvIn (kinds_from what.callbacks what.locals) (AtPlace ms (IsPair g linked Begins)) env (rc ∷ rd ∷ ws)

  abbrev pub frame_of : Target → Procedure → ℕ → List (Option OWord) → Frame
  frame_of t what top ms =
      record { home = t.home; left = top + 1 - g.layout.stack.base; need = what.need; words = ms }

  -- the frame of a procedure of a part with so many words of pairs and so many imports
  abbrev pub shape_of : Procedure → ℕ → ℕ → Shape
  shape_of what pairs imports =
      record { words = what.need; temps = first_temporary what; imports = imports; pairs = pairs }

  -- what is said of a part for all procedures of a module: where its `fail` stands, what the layout says of
  -- its sites, how the globals and the pairs of imports and own procedures stand in its data
  pub record PartIn (home : ℕ) (p : PartSeen) : Type 0 where
    pub trusted : IsTrusted g p
    pub failing : Placed g linked p 0 Fail
    pub stack_is : stack_of world home ≡ g.layout.stack.base
    pub site_part : (k i : ℕ) (u : SiteCode) → SiteHere g linked p k i u
        → part_name g.layout (site_of g.layout i).part ≡ part_of world home
    pub counted : (k i : ℕ) (u : SiteCode) (s : SiteHere g linked p k i u)
        → (site_of g.layout i).index ≡ s.index
    pub sites_in : (k : ℕ) → begins_site p.component k ≡ true → k < length p.component.code
    pub apart : (i j k : ℕ) → slice_get p.component.sites i ≡ Some k → slice_get p.component.sites j ≡ Some k
        → i ≡ j
    pub pair_words : ℕ
    pub imports : ℕ
    pub globals : Globals StoreIs p home pair_words
    pub pairs : Pairs world StoreIs p home imports (IsCalled g linked Begins) (IsPair g linked Begins)

  -- the code of a procedure stands in its part, from its entry on
  pub record Stands (t : Target) (p : PartSeen) (e : ℕ) : Type 0 where
    pub part : PartIn t.home p
    pub what : Procedure
    pub what_is : proc_at world t ≡ Some what
    pub few : registers_of what.callbacks ≤ 4
    pub room : first_temporary what ≤ what.need
    pub fits : BlockFits (kinds_from what.callbacks what.locals) what.need (first_temporary what)
        part.globals.count
        part.pairs.imported part.pairs.owned part.pairs.shared (block_of what.body)
    pub stands : Stand g linked p
        (e + before_epilogue (shape_of what part.pair_words part.imports) what.callbacks (block_of what.body))
        e
        (proc_code (shape_of what part.pair_words part.imports) what.callbacks (block_of what.body))
    pub first : ℕ
    pub sites : SitesAt p.component first e
        (proc_code (shape_of what part.pair_words part.imports) what.callbacks (block_of what.body))
    pub numbered : BlockNumbered first (block_of what.body)

  module _ (n : ℕ) (t : Target) (p : PartSeen) (e : ℕ) (c : Stands t p e) where
    abbrev What : Procedure
    What = c.what

    abbrev Body : Block
    Body = block_of c.what.body

    abbrev Fr : Shape
    Fr = shape_of c.what c.part.pair_words c.part.imports

    abbrev Kinds : List Kind
    Kinds = kinds_from c.what.callbacks c.what.locals

    abbrev Checked : List Item
    Checked = check_params 0 c.what.callbacks

    abbrev Pushed : List Reg
    Pushed = pushed (registers_of c.what.callbacks) c.what.need

    abbrev End : ℕ
    End = e + before_epilogue Fr c.what.callbacks Body

    -- where the prologue begins, and the body
    abbrev Push : ℕ
    Push = e + ENTRY_WORDS + words_in Checked

    abbrev Begin : ℕ
    Begin = e + ENTRY_WORDS + words_in Checked + 2 * c.what.need

    few : places c.what.callbacks ≤ 4
    few = subst (λ n. n ≤ 4) (places_are c.what.callbacks) c.few

    room : 2 + places c.what.callbacks + c.what.locals ≤ c.what.need
    room = subst (λ n. 2 + n + c.what.locals ≤ c.what.need) (places_are c.what.callbacks) c.room

    pub temps_in : 2 + length Kinds ≤ Fr.temps
    temps_in = let l = kinds_length c.what.callbacks c.what.locals in let q = places_are c.what.callbacks in
        omega (arith, l, q)

    pub slots_in : Fr.temps ≤ Fr.words
    slots_in = c.room

    abbrev Saved : List Reg
    Saved = argument_regs 0 (places c.what.callbacks) ++ replicate (c.what.need - 2 - places c.what.callbacks)
        T1

    saved_length : length Saved + 2 ≡ c.what.need
    saved_length =
        let l1 = length-append (argument_regs 0 (places c.what.callbacks))
        (replicate (c.what.need - 2 - places c.what.callbacks) T1) in
        let l2 = length_regs 0 (places c.what.callbacks) in
        let l3 = length-replicate (c.what.need - 2 - places c.what.callbacks) T1 in
        let en = room in
        omega (arith, l1, l2, l3, en)

    pushed_is : Pushed ≡ Rcode ∷ Rdata ∷ Saved
    pushed_is = ap (λ n. pushed n c.what.need) (places_are c.what.callbacks)
        ∙ pushed_are (places c.what.callbacks) c.what.need few

    pushed_words : words_in (push Pushed) ≡ 2 * c.what.need
    pushed_words =
        let l = ap length pushed_is in
        let sl = saved_length in
        push_size Pushed ∙ omega (arith, l, sl)

    checks_stand : Stand g linked p End (e + ENTRY_WORDS) Checked
    checks_stand = stand_front g linked p End (e + ENTRY_WORDS) Checked _ c.stands.1

    from_push : Stand g linked p End Push
        (push Pushed ++ (block_code Fr Body ++ (does (zero_of A0) ∷ label ∷ templates.epilogue c.what.need)))
    from_push = stand_back g linked p End (e + ENTRY_WORDS) Checked _ c.stands.1

    prologue_stands : (ip : IsTrusted g p) (top : ℕ) (mem : ℕ → OWord) (fs : List OpenFrame)
        → Code g linked p Push (prologue g linked p ip top mem fs (Rcode ∷ Rdata ∷ Saved))
    prologue_stands ip top mem fs =
        subst (λ x. Code g linked p Push (prologue g linked p ip top mem fs x)) pushed_is
        (prologue_of g linked p ip End top mem fs Pushed Push
        (stand_front g linked p End Push (push Pushed) _ from_push))

    from_body : Stand g linked p End Begin
        (block_code Fr Body ++ (does (zero_of A0) ∷ label ∷ templates.epilogue c.what.need))
    from_body =
        let z : Push + words_in (push Pushed) ≡ Begin = ap (λ x. Push + x) pushed_words in
        stand_at g linked p End (Push + words_in (push Pushed)) Begin
        (block_code Fr Body ++ (does (zero_of A0) ∷ label ∷ templates.epilogue c.what.need)) z
        (stand_back g linked p End Push (push Pushed) _ from_push)

    behind_body : Stand g linked p End (Begin + words_in (block_code Fr Body))
        (does (zero_of A0) ∷ label ∷ templates.epilogue c.what.need)
    behind_body = stand_back g linked p End Begin (block_code Fr Body) _ from_body

    end_is : Begin + words_in (block_code Fr Body) + 1 ≡ End
    unfolding before_epilogue
    end_is =
        let s1 = checks_size c.what.callbacks 0 in
        let s2 = block_size Fr Body in
        omega (arith, s1, s2)

    epilogue_there : Stand g linked p End End (templates.epilogue c.what.need)
    epilogue_there =
        let e1 = end_is in
        let z : Begin + words_in (block_code Fr Body) + 1 + 0 ≡ End = omega (arith, e1) in
        stand_at g linked p End (Begin + words_in (block_code Fr Body) + 1 + 0) End
        (templates.epilogue c.what.need) z behind_body.1.1

    epilogue_stands : (ip : IsTrusted g p) (top : ℕ) (mem : ℕ → OWord) (fs : List OpenFrame)
        → Code g linked p End (epilogue g linked p ip top mem fs (length Saved))
    epilogue_stands ip top mem fs =
        let sl = saved_length in
        let z : c.what.need - 2 ≡ length Saved = omega (arith, sl) in
        subst (λ j. Code g linked p End (epilogue g linked p ip top mem fs j)) z
        (epilogue_of g linked p ip End top mem fs (c.what.need - 2) End epilogue_there)

    pub end_in : End < length p.component.code
    end_in = slice_get_within p.component.code End _ epilogue_there.0.has

    calls_there : BlockCallsAt p.component Fr Begin Body
    calls_there =
        let s1 = sites_back p.component Fr c.first c.first (e + ENTRY_WORDS) Checked
        _ (checks_count c.what.callbacks 0 c.first) c.sites.1 in
        let s2 = sites_back p.component Fr c.first c.first Push (push Pushed) _ (push_count Pushed c.first)
        s1 in
        let z : Push + words_in (push Pushed) ≡ Begin = ap (λ x. Push + x) pushed_words in
        block_calls_at p.component Fr Body c.first Begin c.numbered
        (sites_front p.component Fr c.first Begin (block_code Fr Body)
        _ (subst (λ k. SitesAt p.component c.first k
        (block_code Fr Body ++ (does (zero_of A0) ∷ label ∷ templates.epilogue c.what.need))) z s2))

    pub called_there : (k i : ℕ) → SiteIs p.component i k → Called g linked p End k i
    called_there k i s =
        called_of g linked p End c.part.trusted c.part.apart c.part.counted c.part.sites_in k i s.begins
        s.listed

    small : words_in Checked ≤ 100 + c.what.need * 50
    small =
        let s1 = checks_size c.what.callbacks 0 in
        let s2 = checks_few c.what.callbacks in
        let fw = few in
        omega (arith, s1, s2, fw)

    held_args : (o q : OState) → ArgsKept InScene EnvIs o q → (j : ℕ) (x : OWord)
        → slice_get (o.maps.regs.a0 ∷ o.maps.regs.a1 ∷ o.maps.regs.a2 ∷ o.maps.regs.a3 ∷ []) j ≡ Some x
        → reg q.maps.regs (argument (0 + j)) ≡ x
    held_args o q k zero x is = let s : o.maps.regs.a0 ≡ x = cc in k.a0 ∙ s
    held_args o q k (suc zero) x is = let s : o.maps.regs.a1 ≡ x = cc in k.a1 ∙ s
    held_args o q k (suc (suc zero)) x is = let s : o.maps.regs.a2 ≡ x = cc in k.a2 ∙ s
    held_args o q k (suc (suc (suc zero))) x is = let s : o.maps.regs.a3 ≡ x = cc in k.a3 ∙ s
    held_args o q k (suc (suc (suc (suc j)))) x is = cc

    -- 0 in a0, where a body ends without a `return`; the step is paid by its block
    one_more_step : (top : ℕ) (fs : List OpenFrame) (ow : Owing fs) (d k : ℕ) (words : List OWord)
        (mem : ℕ → OWord)
        (r : OState) (m : Comp) → Placed g linked p k (zero_of A0) → At g linked p k r
        → Here g linked p c.what.need top words mem fs r
        → ((q : OState) → Here g linked p c.what.need top words mem fs q → At g linked p (k + 1) q
        → q.maps.regs.a0 ≡ Plain (Int (pos 0)) → UpTo g ow.owes (used c.what.need top) n d q m)
        → UpTo g ow.owes (used c.what.need top) n (1 + d) r m
    one_more_step top fs ow d k words mem r m code at h u =
        set_law g linked p c.part.trusted c.what.need top fs k (upto g ow.owes (used c.what.need top) n m)
        (1 + d) d words mem r
        (pos p.component.data_base) (zero_of A0) A0 (Plain (Int (pos 0))) (free_a0 g linked) refl code at
        h
        (set_goes look Plain A0 (pos 0) _ r.maps refl) (λ h1 at1.
        u _ h1 at1 refl) (omega arith)

    -- the procedure at work, from a top of the stack on
    abbrev pub Enacts : ℕ → List (Option OWord) → (fs : List OpenFrame) → Owing fs → Enacting
    Enacts top ms fs ow = record {
      scene = InScene;
      work = record {
        p = p;
        ip = c.part.trusted;
        failing = c.part.failing;
        top = top;
        fs = fs;
        ow = ow;
        f = frame_of t c.what top ms;
        s = Fr;
        end = End;
        end_in = end_in;
        kinds = Kinds;
        rests = rests c.what.callbacks c.what.locals;
        temps = temps_in;
        slots = slots_in;
        globals = c.part.globals;
      };
      pairs = c.part.pairs;
      need_is = refl;
      left_is = refl;
      stack_is = c.part.stack_is;
      site_part = c.part.site_part;
      passes = passes g linked Begins world;
      called = called_there;
    }

    module _ (laws : (top : ℕ) (ms : List (Option OWord)) (fs : List OpenFrame) (ow : Owing fs)
        → Below (Enacts top ms fs ow) n) where
      checks_done : (top d b : ℕ) (mem : ℕ → OWord) (rs : Registers) (o q : OState) (ow : Owing o.frames)
          (m : Comp)
          → IsTrusted g p → Regs rs o → EntryPublic InScene o
          → Here g linked p 0 top [] mem o.frames q → At g linked p (e + ENTRY_WORDS) q
          → q.maps.regs.rcode ≡ o.maps.regs.rcode → q.maps.regs.rdata ≡ o.maps.regs.rdata
          → ArgsKept InScene EnvIs o q → q.maps.regs.t1 ≡ Plain (Int (pos 0))
          → (taken [] c.what.callbacks rs.registers ≡ None → words_in Checked ≤ d
          → UpTo g ow.owes (used c.what.need top) n d q (ends Fails))
          × ((env : List Value) → taken [] c.what.callbacks rs.registers ≡ Some env → words_in Checked + b ≤ d
          → ((ws : List OWord) (r : OState) (ip : IsTrusted g p) → length ws ≡ length Saved
          → EnvIs c.what (taken_marks c.what.callbacks rs.words)
          (env ++ replicate c.what.locals (Num (pos 0))) ws
          → Here g linked p 0 top [] mem o.frames r → At g linked p (e + ENTRY_WORDS + words_in Checked) r
          → Reads g linked p ip top mem o.frames r.maps.regs (Rcode ∷ Rdata ∷ Saved)
          (o.maps.regs.rcode ∷ o.maps.regs.rdata ∷ ws) → UpTo g ow.owes (used c.what.need top) n b r m)
          → UpTo g ow.owes (used c.what.need top) n d q m)
      checks_done top d b mem rs o q ow m ip regs public h at rce rde same t1 =
          let size = refl in (
            (λ e1 le. checks_fail g linked Begins p c.part.trusted c.part.failing top o.frames End n mem
                ow.owes (used c.what.need top)
                c.what.callbacks 0 (e + ENTRY_WORDS) d rs.registers rs.words _ q regs refl
                (omega (arith, few))
                (held_args o q same)
                (checks_stand) h at t1 (sym (taken_handed c.what.callbacks rs.registers) ∙ e1)
                (omega (arith, size, le))),
            (λ env e1 le u. checks_go g linked Begins p c.part.trusted c.part.failing top o.frames End n mem
                ow.owes (used c.what.need top) m
                c.what.callbacks 0 (e + ENTRY_WORDS) d b rs.registers rs.words _ env q regs refl
                (omega (arith, few))
                (held_args o q same)
                (checks_stand) h at t1 (sym (taken_handed c.what.callbacks rs.registers) ∙ e1)
                (omega (arith, size, le))
                (λ xs r ps lx held h2 at2 kept.
                let en = room in
                let l1 = length-append xs
                (replicate (c.what.need - 2 - places c.what.callbacks) (Plain (Int (pos 0)))) in
                let l3 = length-replicate (c.what.need - 2 - places c.what.callbacks) (Plain (Int (pos 0))) in
                let sl = saved_length in
                let e2 = ap (λ y. e + ENTRY_WORDS + y) size in
                u (xs ++ replicate (c.what.need - 2 - places c.what.callbacks) (Plain (Int (pos 0)))) r
                c.part.trusted (omega (arith, l1, l3, lx, sl, en))
                (λ rc rd. env_in g linked Begins c.what.callbacks c.what.locals
                (c.what.need - 2 - places c.what.callbacks) env
                (taken_marks c.what.callbacks rs.words) xs rc rd
                (matches c.what.callbacks rs.registers env
                (sym (taken_handed c.what.callbacks rs.registers) ∙ e1)) ps
                (omega (arith, en)))
                h2 (subst (λ y. At g linked p y r) e2 at2)
                (reads_all g linked p c.part.trusted top mem o.frames r.maps.regs o.maps.regs.rcode
                o.maps.regs.rdata (places c.what.callbacks) (c.what.need - 2 - places c.what.callbacks) xs few
                lx (kept.code ∙ rce) (kept.half ∙ rde) held public.code public.half
                (passed_public g linked Begins env (taken_marks c.what.callbacks rs.words) xs ps) kept.t1))),
          )

      body_done : (top d : ℕ) (mem : ℕ → OWord) (fs : List OpenFrame) (ow : Owing fs) (rc rd : OWord)
          (ws : List OWord)
          (env : List Value) (ms : List (Option OWord)) (st : Store) (o q : OState) (back : Then)
          → o.frames ≡ fs
          → Here g linked p c.what.need top (rc ∷ rd ∷ ws) mem fs q → length ws ≡ length Saved
          → At g linked p (e + ENTRY_WORDS + words_in Checked + 2 * c.what.need) q → EnvIs c.what ms env ws
          → StoreIs st mem
          → ((v : ℤ) (st' : Store) (mem' : ℕ → OWord) (ws' : List OWord) (r : OState)
          → Here g linked p c.what.need top (rc ∷ rd ∷ ws') mem' fs r → length ws' ≡ length Saved
          → At g linked p End r → r.maps.regs.a0 ≡ Plain (Int v) → fits_64 v ≡ true → StoreIs st' mem'
          → UpTo g ow.owes (used c.what.need top) n d r (back v st'))
          → UpTo g ow.owes (used c.what.need top) n (1 + d) q
          (block world (whole world) (frame_of t c.what top ms) Body back (λ x. back (pos 0)) env st)
      body_done top d mem fs ow rc rd ws env ms st o q back fr h len at env_is store u =
          let sl = saved_length in
          let ei = end_is in
          does_block (Enacts top ms fs ow) Body c.fits n (laws top ms fs ow)
          (e + ENTRY_WORDS + words_in Checked + 2 * c.what.need) (1 + d)
          (rc ∷ rd ∷ ws) env
          st mem back (λ x. back (pos 0)) q (omega (arith, ei))
          (stand_front g linked p End (e + ENTRY_WORDS + words_in Checked + 2 * c.what.need)
          (block_code Fr Body)
          _ from_body) calls_there (omega (arith, len, sl)) at h (env_is rc rd) store
          (λ v st' mem' words' r at1 h1 same a0 fit store'.
          let s = two_front words' rc rd (same.each 0 (omega arith)) (same.each 1 (omega arith)) in
          let l1 = ap length s.1 in
          let l2 = same.count in
          spend g n d (1 + d) r (back v st') (omega arith)
          (u v st' mem' s.0 r (subst (λ y. Here g linked p c.what.need top y mem' fs r) s.1 h1)
          (omega (arith, l1, l2, len)) at1 a0 fit store'))
          (λ env' st' mem' words' r at1 h1 same en store'.
          let s = two_front words' rc rd (same.each 0 (omega arith)) (same.each 1 (omega arith)) in
          let l1 = ap length s.1 in
          let l2 = same.count in
          let k1 = e + ENTRY_WORDS + words_in Checked + 2 * c.what.need + words_in (block_code Fr Body) in
          let last = stand_back g linked p End (e + ENTRY_WORDS + words_in Checked + 2 * c.what.need)
          (block_code Fr Body) _ from_body in
          one_more_step top fs ow d k1 words' mem' r (back (pos 0) st') last.0 at1 h1 (λ q2 h2 at2 a2.
          u (pos 0) st' mem' s.0 q2 (subst (λ y. Here g linked p c.what.need top y mem' fs q2) s.1 h2)
          (omega (arith, l1, l2, len)) (subst (λ y. At g linked p y q2) ei at2) a2 refl store'))

      -- the whole procedure
      pub compiled : Proc InScene EnvIs n t p e
      compiled = record {
        what = c.what;
        what_is = c.what_is;
        entry = c.stands.0;
        checks = words_in Checked;
        regs = Saved;
        body = e + ENTRY_WORDS + words_in Checked + 2 * c.what.need;
        end = End;
        small = small;
        slots = saved_length;
        checked = checks_done;
        begins = prologue_stands;
        body_at = refl;
        does = body_done;
        ends_by = epilogue_stands;
      }
