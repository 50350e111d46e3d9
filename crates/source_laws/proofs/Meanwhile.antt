-- Untrusted code runs, and procedures that it entered end, whatever is open beneath: no call, or one that
-- waits.
use Rattle.std.proofs.Common.{◌≡◌, ◌≢◌, ℕ, suc, ◌+◌, ◌-◌, ◌≤◌, ℤ, pos, List, ◌∷◌, Option, Some, None, Bool}
use Rattle.std.proofs.Common.{true, false, refl, sym, ap, ◌∙◌, subst, arith, inl, inr, length, ◌⊎◌, ◌<◌, zero}
use Rattle.std.specs.Prelude.{option_map, ◌&&◌}
use Rattle.cap_words.specs.declared.Word.TheVariants.{Int, Mem, Seal, Sealed}
use Rattle.cap_words.specs.declared.Sealable.TheVariants.{Mem as MemIn, Seal as SealIn}
use Rattle.cap_words.specs.declared.CapFields.{CapFields}
use Rattle.lcm_isa.specs.declared.Reg.{Reg}
use Rattle.lcm_isa.specs.declared.Reg.TheVariants.{Pc, Dat, Stk, Rcode, Rdata, A0}
use Rattle.lcm_machine.specs.Places.{reg}
use Rattle.lcm_machine.specs.Cells.{cell}
use Rattle.lcm_machine.specs.Row.{faces}
use Rattle.lcm_machine.specs.Table.{fits_64}
use Rattle.call_sequence.specs.Holds.{data_cap, PcAt, part_stack_cap as stack_at}
use Rattle.call_sequence.specs.Places.{begins_entry}
use Rattle.linked_starts.specs.Parts.{PartSeen}
use Rattle.trusted_border.specs.declared.layout.SiteCode.{SiteCode}
use Rattle.trusted_border.specs.Layout.{site_code}
use Rattle.trusted_border.specs.Reaches.{back_of}
use Rattle.overlay_machine.specs.declared.words.OWord.{OWord}
use Rattle.overlay_machine.specs.declared.words.OWord.TheVariants.{Plain, RetCode, RetData}
use Rattle.linked_starts.specs.declared.owners.Owner.{Owner}
use Rattle.overlay_machine.specs.Words.{look, is_plain}
use Rattle.overlay_machine.specs.State.{OpenFrame, OState, frame_of}
use Rattle.cap_words.specs.Stacks.{is_stack_from}
use Rattle.overlay_machine.specs.Step.{own_stack, fails, overlay_step}
use Rattle.overlay_machine.specs.Flat.{flat, flat_code, flat_range, flat_data}
use Rattle.overlay_machine.specs.Events.{owner_now}
use Rattle.overlay_machine.specs.Link.{IsTrusted, ranges_of}
use Rattle.overlay_machine.proofs.Offers.{Returned, own_from}
use Rattle.run_lines.specs.Layout.{part_name, entry_name}
use Rattle.run_lines.specs.Views.{flat_view}
use Rattle.source_laws.specs.Seen.{words_of, back_here, left_shown, left_with, standing, trace}
use Rattle.source_laws.proofs.Scenes.{Scene}
use Rattle.source_laws.proofs.Refined.{single, found, registers_fed, Then, Wait, on_item, entered, left_by}
use Rattle.source_laws.proofs.Refined.{part_of, whole, recursive, Comp, ends, hopped}
use Rattle.proc_semantics.specs.Values.{Store}
use Rattle.proc_semantics.specs.declared.value.Target.{Target}
use Rattle.template_runs.proofs.Offers.{none, untold, ended, Owing, Among, depth, Valid, At, DataIs, Out}
use Rattle.template_runs.proofs.Offers.{SameData, Named, shows_leave, pair_left, half_is, outside_here, Tells}
use Rattle.template_runs.proofs.Offers.{fails_bad, goes_out, tells, goes_in, inside_here, weight_small, mixed}
use Rattle.template_runs.proofs.Offers.{quiet_none}
use Rattle.source_laws.proofs.Upto.{UpTo, in_frame, stack_top, go_on, go_out, go_fail, spend, end_of}
use Rattle.source_laws.proofs.Upto.{none_inside, Since, nothing_yet}
use Rattle.source_laws.proofs.Waits.{enter_item, ret_item, outside_law}
use Rattle.source_laws.proofs.CallsIn.{SameEntry, shown_public, AtEnd, ProcLaw, left_now, given_back}
use Rattle.source_laws.proofs.CallsIn.{left_same as gives_same, hopped_entry, kept_public, hops, leaves_wiped}
use Rattle.source_events.specs.Left.{left_in}
use Rattle.run_lines.specs.Feed.{integer_in, integers_in, feed_pairs}
use Rattle.run_lines.specs.Pairs.{pairs_of}
use Rattle.run_lines.specs.Lines.{args_of, feed_back}
use Rattle.template_runs.specs.Public.{IsShown, IsSharedAt}
use Rattle.cap_words.specs.declared.Word.{Word}
use Rattle.trusted_border.specs.declared.events.Event.TheVariants.{Left}
use Rattle.trusted_border.specs.declared.events.Back.{Back}
use Rattle.trusted_border.specs.declared.events.Back.TheVariants.{Out as OutBack, Bad, Hop}
use Rattle.overlay_machine.specs.Safe.{IsSafe}
use Rattle.proc_semantics.specs.Marked.{Leaves}
use Rattle.source_events.specs.declared.End.TheVariants.{Fail as Fails}
use Rattle.template_runs.specs.Border.{GivesBack, Shows, by_leave}
use Rattle.source_events.specs.declared.OutArg.TheVariants as arg
use Rattle.source_events.specs.Outs.{leave_out, out_arg}
use Rattle.template_runs.specs.Runs.{is_inside}
use Rattle.source_laws.proofs.Follows.{Agrees}
use Rattle.source_laws.proofs.Agreeing.{waits}
use Rattle.source_laws.proofs.Wipes.{Wipes, crossings}

code_left : (base : ℕ) (o : Option SiteCode) → left_in base (flat_code o) ≡ None
code_left base None = refl
code_left base (Some s) = refl

range_left : (base : ℕ) (f : OpenFrame) (o : Option SiteCode) → left_in base (flat_range f o) ≡ None
range_left base f None = refl
range_left base f (Some s) = refl

module _ (scene : Scene) where
  open scene use {world, g, linked, Begins, StoreIs, RegsAre}

  data_left : (f : Option OpenFrame) → left_in g.layout.stack.base (flat_data g.layout f) ≡ None
  data_left None = refl
  data_left (Some f) = range_left g.layout.stack.base f (site_code g.layout f.site)

  -- the words of an entry are those of its line
  pub left_same : (q : OState)
      → left_in g.layout.stack.base ((flat_view g.layout q).reg Stk) ≡ left_now scene q
  unfolding flat own_stack faces
  left_same q = by q.maps.regs.stk refl
    where
      by_cap : (c : CapFields) (b : Bool) → is_stack_from g.layout.stack.base c ≡ b
          → q.maps.regs.stk ≡ Plain (Mem c)
          → left_in g.layout.stack.base (flat g.layout q.frames q.maps.regs.stk) ≡ option_map
          (λ (c : CapFields). c.end + 1 - c.base) (own_stack g.layout q.maps)
      by_cap c true e is = rw (is, e) refl
      by_cap c false e is = rw (is, e) refl

      by : (w : OWord) → q.maps.regs.stk ≡ w
          → left_in g.layout.stack.base (flat g.layout q.frames q.maps.regs.stk) ≡ option_map
          (λ (c : CapFields). c.end + 1 - c.base) (own_stack g.layout q.maps)
      by (Plain (Int z)) is = rw is refl
      by (Plain (Mem c)) is = by_cap c (is_stack_from g.layout.stack.base c) refl is
      by (Plain (Seal c)) is = rw is refl
      by (Plain (Sealed s (MemIn x))) is = rw is refl
      by (Plain (Sealed s (SealIn x))) is = rw is refl
      by (RetCode i) is = rw is (code_left g.layout.stack.base (site_code g.layout i))
      by (RetData k) is = rw is (data_left (frame_of q.frames k))

  -- what the layout's names say to the meaning: an entry's item runs the procedure that stands there
  pub record Meets (named : Named g) : Type 0 where
    pub target : (p : PartSeen) (k : ℕ) (ip : IsTrusted g p) (b : begins_entry p.component k ≡ true)
        → IsSharedAt p.component k → (t : Target)
        × (found world (part_name g.layout (named.owner p ip).part)
        (entry_name g.layout (named.owner p ip).part (named.entry p ip k b)) ≡ Some t) × Begins t p k
    pub told : (t : Target) (p : PartSeen) (e : ℕ) (o q : OState) (v : ℤ) (mem : ℕ → OWord) → Begins t p e
        → AtEnd scene p o q v mem → (w : Owner)
        → owner_now g.layout q ≡ Some w → part_name g.layout w.part ≡ part_of world t.home
    pub single : (v : ℤ) (q : OState) → q.maps.regs.a0 ≡ Plain (Int v) → fits_64 v ≡ true
        → q.maps.regs.a1 ≡ Plain (Int (pos 0)) → q.maps.regs.a2 ≡ Plain (Int (pos 0))
        → q.maps.regs.a3 ≡ Plain (Int (pos 0)) → RegsAre (single world v) q
    pub registers : (q : OState) → Valid g linked q
        → ((d : Reg) → d ≢ Pc → d ≢ Dat → IsShown g q.frames (reg q.maps.regs d))
        → RegsAre (registers_fed world (words_of q) (integers_in (args_of (flat_view g.layout q)))
        (feed_pairs g.layout (pairs_of g.layout (flat_view g.layout q)))) q

  -- what is open beneath untrusted code: the call that waits, if one does, the frames of all open calls, and
  -- the entries that owe an end, each made while fewer calls were open
  pub record Beneath : Type 0 where
    pub wait : Option (Wait world)
    pub frames : List OpenFrame
    pub owes : List OState
    pub deep : (x : OState) → Among owes x → depth x < length frames

  -- a procedure that untrusted code entered over it, in en; which began in o, maybe by hops, and is at its
  -- end in q
  pub record AtLeave (under : Beneath) : Type 0 where
    pub t : Target
    pub p : PartSeen
    pub en : OState
    pub o : OState
    pub q : OState
    pub v : ℤ
    pub st : Store
    pub mem : ℕ → OWord
    pub entry : SameEntry scene en o
    pub fr : o.frames ≡ under.frames
    pub a : AtEnd scene p o q v mem
    pub store : StoreIs st mem
    pub names : (w : Owner) → owner_now g.layout q ≡ Some w → part_name g.layout w.part ≡ part_of world t.home

  -- what two words are told as, where they are returned to
  abbrev pub return_told : List OpenFrame → OWord → OWord → Back
  return_told fs code half = back_of g.layout (flat g.layout fs code) (flat g.layout fs half)

  abbrev return_now : OState → Back
  return_now o = return_told o.frames o.maps.regs.rcode o.maps.regs.rdata

  same_return : (o q : OState) → q.frames ≡ o.frames → q.maps.regs.rcode ≡ o.maps.regs.rcode
      → q.maps.regs.rdata ≡ o.maps.regs.rdata → return_now q ≡ return_now o
  same_return o q frames code half =
      ap (λ x. return_told x q.maps.regs.rcode q.maps.regs.rdata) frames
      ∙ ap (λ x. return_told o.frames x q.maps.regs.rdata) code
      ∙ ap (return_told o.frames o.maps.regs.rcode) half

  -- what is told of an end that returns so
  abbrev pub left_told : (under : Beneath) → AtLeave under → Back → Comp
  left_told under e k = left_by world (whole world) (part_of world e.t.home) under.wait
      (back_here g.layout e.en) (left_now scene e.o) (feed_back g.layout k) e.v e.st

  abbrev pub EndsAs : ℕ → ℕ → (under : Beneath) → AtLeave under → Back → Type 0
  EndsAs n c under e k = UpTo g (e.en ∷ under.owes) (ended e.a.top) n (c + 100) e.q (left_told under e k)

  abbrev pub EndsLaw : ℕ → ℕ → Beneath → Type 0
  EndsLaw n c under = (e : AtLeave under) → EndsAs n c under e (return_now e.o)

  -- where it returns by the pair of a call
  abbrev pub PairsLaw : ℕ → ℕ → Beneath → Type 0
  PairsLaw n c under =
      (e : AtLeave under) (i j : ℕ) → e.q.maps.regs.rcode ≡ RetCode i → e.q.maps.regs.rdata ≡ RetData j
      → EndsAs n c under e (return_told e.q.frames (RetCode i) (RetData j))

  -- untrusted code runs over it
  abbrev pub RunsLaw : ℕ → ℕ → Beneath → Type 0
  RunsLaw n c under =
      (st : Store) (mem : ℕ → OWord) (o : OState) → Out g linked o → o.frames ≡ under.frames
      → DataIs g linked mem o.maps.cells → StoreIs st mem
      → UpTo g under.owes none n c o ((whole world).wait under.wait st)

  -- where it returns from the newest call
  abbrev pub ReturnsLaw : ℕ → ℕ → Beneath → Type 0
  ReturnsLaw n c under =
      (st : Store) (mem : ℕ → OWord) (o : OState) → o.frames ≡ under.frames
      → DataIs g linked mem o.maps.cells → StoreIs st mem
      → (r1 r2 : Reg) (q : OState) → Valid g linked q → (r : Returned g.layout r1 r2 o q)
      → UpTo g under.owes (in_frame r.frame) n c q
      (on_item world (whole world) under.wait st (ret_item g linked q r.frame.site r.frame.base))

  -- ---- before the first step

  trace_zero : (o : OState) → trace g.layout zero o ≡ standing g.layout (is_inside g.layout o)
  unfolding trace
  trace_zero o = refl

  pub runs_none : (c : ℕ) (under : Beneath) → RunsLaw zero c under
  runs_none c under st mem o h fr globs store = record {
    by = by;
    quiet = quiet_none g (Shows g.layout) (GivesBack g.layout) o under.owes;
    wiped = wiped;
  }
    where
      waiting : Comp
      waiting = (whole world).wait under.wait st

      wiped : (b : OState) (low : Option ℕ) → Since g b low none o → (k : ℕ) → k ≤ zero
          → Wipes g (crossings g.layout k b o) (trace g.layout k o).items (waiting low)
      wiped b low s zero le = nothing_yet g b o (waiting low)
      wiped b low s (suc k) le = absurd (omega (arith, le))

      by : (k : ℕ) → k ≤ zero → Agrees c (trace g.layout k o) waiting
      by zero le = subst (λ t. Agrees c t waiting)
          (sym (trace_zero o ∙ ap (standing g.layout) (outside_here g linked o h)))
          (waits c waiting (on_item world (whole world) under.wait st)
          ((recursive world).waits under.wait st))
      by (suc k) le = absurd (omega (arith, le))

  pub ends_none : (c : ℕ) (under : Beneath) → EndsLaw zero c under
  ends_none c under e = none_inside g (c + 100) e.q _ (inside_here g linked e.a.part e.a.offset e.q e.a.at)

  -- a step that fails, where what is told is that
  pub told_fails : (n c : ℕ) (under : Beneath) (e : AtLeave under) (k : Back)
      → left_told under e k ≡ ends Fails → overlay_step g.layout e.q ≡ fails → EndsAs n c under e k
  told_fails n c under e k is s =
      let a = e.a in
      let small = weight_small g linked a.part a.offset e.q a.valid a.at a.jump in
      subst (UpTo g (e.en ∷ under.owes) (ended a.top) n (c + 100) e.q) (sym is)
      (go_fail g n (c + 100) e.q (inside_here g linked a.part a.offset e.q a.at) s (omega (arith, small)))

  -- ---- one step more

  module _ (named : Named g) (meets : Meets named) (n c : ℕ) (under : Beneath) (procs : ProcLaw scene n)
      (leave : EndsLaw n c under) (runs : RunsLaw n c under) where
    -- an entry made now owes an end too
    abbrev owing_now : (en q : OState) → depth en ≡ length under.frames → q.frames ≡ under.frames
        → Owing q.frames
    owing_now en q at e = record { owes = en ∷ under.owes; deep = deep }
      where
        deep : (x : OState) → Among (en ∷ under.owes) x → depth x ≤ length q.frames
        deep x (inl s) = let a = ap depth s in let b = ap length e in omega (arith, a, b, at)
        deep x (inr m) = let d = under.deep x m in let b = ap length e in omega (arith, d, b)

    pub runs_law : ReturnsLaw n c under → RunsLaw (suc n) c under
    runs_law returns st mem o h fr globs store =
        outside_law g linked named under.owes o h n c ((whole world).wait under.wait st)
        (on_item world (whole world) under.wait st) ((recursive world).waits under.wait st) on_stay on_enter
        (returns st mem o fr globs store)
      where
        on_stay : (q : OState) → Out g linked q → q.frames ≡ o.frames
            → SameData g linked o.maps.cells q.maps.cells
            → UpTo g under.owes none n c q ((whole world).wait under.wait st)
        on_stay q out same kept =
            runs st mem q out (same ∙ fr) (λ p d ip lt. kept p d ip lt ∙ globs p d ip lt) store

        on_enter : (p : PartSeen) (k : ℕ) (ip : IsTrusted g p) (b : begins_entry p.component k ≡ true)
            (q : OState) → Valid g linked q → PcAt look (ranges_of p) k q.maps.regs
            → look q.maps.regs.dat ≡ Mem (data_cap (ranges_of p) (pos p.component.data_base))
            → ((d : Reg) → d ≢ Pc → d ≢ Dat → IsShown g q.frames (reg q.maps.regs d))
            → IsSharedAt p.component k → q.frames ≡ o.frames → q.maps.cells ≡ o.maps.cells
            → UpTo g (q ∷ under.owes) (untold 0 (stack_top g q)) n c q
            (on_item world (whole world) under.wait st
            (enter_item g linked q (named.owner p ip) (named.entry p ip k b)))
        on_enter p k ip b q v pc dat safe share same cells =
            let x = meets.target p k ip b share in
            let vw = flat_view g.layout q in
            let rs = registers_fed world (words_of q) (integers_in (args_of vw))
            (feed_pairs g.layout (pairs_of g.layout vw)) in
            let bk = feed_back g.layout (back_of g.layout (vw.reg Rcode) (vw.reg Rdata)) in
            let kk : Then = left_by world (whole world) (part_of world x.0.home) under.wait
            (back_here g.layout q)
            (left_now scene q) bk in
            let at : At g linked p k q = record { trusted = ip; pc = pc } in
            let kept : DataIs g linked mem q.maps.cells =
            λ r d ir lt. ap (λ m. cell m (r.component.data_base + d)) cells ∙ globs r d ir lt in
            let fr' = same ∙ fr in
            let done = procs x.0 p k c kk rs st mem q (owing_now q q (ap length fr') fr') x.2 v at dat
            (safe Stk (λ e. cc) (λ e. cc)).0
            (shown_public scene q safe) kept store
            (meets.registers q v safe)
            (λ val st' mem' r a store'. leave (record {
              t = x.0;
              p = p;
              en = q;
              o = q;
              q = r;
              v = val;
              st = st';
              mem = mem';
              entry = record {
                code = refl;
                half = refl;
                stack = λ c e. (c, e, refl);
                owned = λ d e. (d, e);
                frames = refl;
              };
              fr = fr';
              a = a;
              store = store';
              names = meets.told x.0 p k q r val mem' x.2 a;
            })) in
            subst (λ y. UpTo g (q ∷ under.owes) (untold 0 (stack_top g q)) n c q
            (entered world (whole world) under.wait y (back_here g.layout q)
            (left_in g.layout.stack.base (vw.reg Stk)) rs bk st))
            (sym x.1)
            (subst (λ l. UpTo g (q ∷ under.owes) (untold 0 (stack_top g q)) n c q
            ((whole world).proc x.0 l rs
            (left_by world (whole world) (part_of world x.0.home) under.wait (back_here g.layout q) l bk) st))
            (sym (left_same q)) done)

    module _ (pairs : PairsLaw (suc n) c under) (it : AtLeave under) where
      open it use {t, p, en, o, q, v, st, mem, entry, fr, a, store, names}

      abbrev Told : Back → Type 0
      Told = EndsAs (suc n) c under it

      pub ends_law : Told (return_now o)
      unfolding flat
      ends_law =
          subst Told (same_return o q a.frames a.code a.half)
          (by_words q.maps.regs.rcode q.maps.regs.rdata refl refl)
        where
          frames : q.frames ≡ under.frames
          frames = a.frames ∙ fr

          deep_entry : depth en ≡ length under.frames
          deep_entry = ap length (sym entry.frames ∙ fr)

          -- where it leaves, it no longer owes an end
          still_owed : (q' : OState) → q'.frames ≡ under.frames → (x : OState) → Among (en ∷ under.owes) x
              → Among under.owes x ⊎ (depth q' ≤ depth x)
          still_owed q' e x (inl s) =
              inr (let a = ap depth s in let b = ap length e in omega (arith, a, b, deep_entry))
          still_owed q' e x (inr m) = inl m

          paid : (q' : OState) → q'.frames ≡ under.frames → GivesBack g.layout en q'
              → (z : OState) → Among (en ∷ under.owes) z → depth q' ≡ depth z → GivesBack g.layout z q'
          paid q' e gives z (inl s) d = subst (λ y. GivesBack g.layout y q') (sym s) gives
          paid q' e gives z (inr m) d =
              absurd (let a = under.deep z m in let b = ap length e in omega (arith, a, b, d))

          by_tells : (x y : Word) (ex : q.maps.regs.rcode ≡ Plain x) (ey : q.maps.regs.rdata ≡ Plain y)
              → return_now q ≡ back_of g.layout x y
              → Tells g linked named a.part a.offset q a.valid a.at a.jump x y ex ey a.safe
              → Told (return_now q)
          by_tells x y ex ey eb (fails_bad b s) =
              subst Told (sym (eb ∙ b)) (told_fails (suc n) c under it Bad refl s)
          by_tells x y ex ey eb (goes_in q' r ir e bg b l) =
              let t' = (meets.target r e ir bg l.shared).0 in
              let fd = (meets.target r e ir bg l.shared).1 in
              let bs = (meets.target r e ir bg l.shared).2 in
              let left = left_now scene o in
              let kk : Then = (whole world).hop under.wait left t' in
              let hopped_is : left_told under it (Hop (named.owner r ir).part (named.entry r ir e bg))
              ≡ (whole world).hop under.wait left t' v st =
              ap (λ z. hopped world (whole world) under.wait left z v st) fd in
              let as_proc : (whole world).hop under.wait left t' v st ≡ (whole world).proc t' left
              (single world v) kk st = (recursive world).hops under.wait left t' v st
              ∙ sym ((recursive world).procs t' left (single world v) kk st) in
              let cap = stack_at (ranges_of a.part) a.top (pos a.top) in
              let own' : own_stack g.layout q'.maps ≡ Some cap =
              own_from g.layout q'.maps cap (ap look l.keeps.stk ∙ a.stk) refl refl
              (linked.stack_bases a.part a.at.trusted) in
              let left' : left_now scene q' ≡ left =
              ap (option_map (λ (c : CapFields). c.end + 1 - c.base)) own'
              ∙ ap (λ z. Some (a.top + 1 - z)) (linked.stack_bases a.part a.at.trusted) ∙ sym a.left in
              let at' : At g linked r e q' = record { trusted = ir; pc = l.pc } in
              let fr' : q'.frames ≡ under.frames = l.frames ∙ frames in
              let kept : DataIs g linked mem q'.maps.cells =
              λ p d ip lt. ap (λ m. cell m (p.component.data_base + d)) l.cells ∙ a.globs p d ip lt in
              let safe' : IsSafe g q'.frames q'.maps.regs.stk =
              subst (λ z. IsSafe g z q'.maps.regs.stk) (sym l.frames)
              (subst (IsSafe g q.frames) (sym l.keeps.stk) (a.safe Stk (λ z. cc) (λ z. cc)).0) in
              let again : return_now q' ≡ Hop (named.owner r ir).part (named.entry r ir e bg) =
              same_return q q' l.frames l.keeps.rcode l.half ∙ eb ∙ b in
              let regs = meets.single v q' (l.keeps.a0 ∙ a.value) a.fits (l.keeps.a1 ∙ a.a1)
              (l.keeps.a2 ∙ a.a2) (l.keeps.a3 ∙ a.a3) in
              let done : UpTo g (en ∷ under.owes) (untold 0 (stack_top g q')) n c q'
              ((whole world).proc t' (left_now scene q') (single world v) kk st) =
              procs t' r e c kk (single world v) st mem q' (owing_now en q' deep_entry fr') bs l.valid
              at' l.dat safe'
              (kept_public scene q q' l.keeps.rcode l.half l.keeps.a0 l.keeps.a1 l.keeps.a2 l.keeps.a3
              (shown_public scene q a.safe)) kept store regs
              (λ v2 st2 mem2 q2 a2 store2.
              let next : AtLeave under = record {
                t = t';
                p = r;
                en = en;
                o = q';
                q = q2;
                v = v2;
                st = st2;
                mem = mem2;
                entry = hopped_entry scene p en o q q' v mem a entry l.keeps.rcode l.half l.frames cap own'
                    refl;
                fr = fr';
                a = a2;
                store = store2;
                names = meets.told t' r e q' q2 v2 mem2 bs a2;
              } in
              subst (UpTo g (en ∷ under.owes) (ended a2.top) n (c + 100) q2)
              (ap (left_told under next) again
              ∙ ap (λ z. hopped world (whole world) under.wait (left_now scene q') z v2 st2) fd
              ∙ ap (λ z. (whole world).hop under.wait z t' v2 st2) left') (leave next)) in
              let less : 1 + c ≤ c + 100 = omega arith in
              subst Told (sym (eb ∙ b))
              (subst (UpTo g (en ∷ under.owes) (ended a.top) (suc n) (c + 100) q) (sym (hopped_is ∙ as_proc))
              (spend g (suc n) (1 + c) (c + 100) q _ less
              (go_on g n 1 c q q' ((whole world).proc t' left (single world v) kk st) l.makes
              (inside_here g linked r e q' at') (hops scene q q' a.top l.cells (ap end_of own'))
              (subst (λ z. UpTo g (en ∷ under.owes) (untold 0 (stack_top g q')) n c q'
              ((whole world).proc t' z (single world v) kk st)) left' done))))
          by_tells x y ex ey eb (goes_out q' b l) =
              let opened = pair_left g linked a.part a.at.trusted a.top q q' x y ex ey a.stk a.clean
              l.crossed l.keeps in
              let sl = shows_leave g linked a.part a.at.trusted a.top q q' x y ex ey a.stk a.clean l.crossed
              l.keeps in
              let half = half_is g linked a.part a.at.trusted a.top q q' x y ex ey a.stk a.clean l.crossed
              l.keeps in
              let a0 : (flat_view g.layout q').reg A0 ≡ Int v =
              ap (flat g.layout q'.frames) (l.a0 ∙ a.value) in
              let value : out_arg (integer_in ((flat_view g.layout q').reg A0)) ≡ arg.Int v =
              ap (λ z. out_arg (integer_in z)) a0 ∙ rw (a.fits) refl in
              let shows = ap (λ z. left_shown (leave_out z
              (out_arg (integer_in ((flat_view g.layout q').reg A0)))) (left_with q'))
              (names l.owner l.owner_is)
              ∙ ap (λ z. left_shown (leave_out (part_of world t.home) z) (left_with q')) value
              ∙ ap (left_shown (leave_out (part_of world t.home) (arg.Int v)))
              (gives_same scene p en o q q' v mem a entry l.keeps opened sl half l.frames) in
              let less : 1 + c ≤ c + 100 = omega arith in
              let fr' : q'.frames ≡ under.frames = l.frames ∙ frames in
              let kept : DataIs g linked mem q'.maps.cells =
              λ r d ir lt. ap (λ m. cell m (r.component.data_base + d)) l.cells ∙ a.globs r d ir lt in
              subst Told (sym (eb ∙ b))
              (spend g (suc n) (1 + c) (c + 100) q (left_told under it OutBack) less
              (go_out g n 1 c (Some (Left l.owner.part))
              (λ low. Leaves (part_of world t.home) v low (back_here g.layout en))
              (record {
                event = leave_out (part_of world t.home) (arg.Int v);
                went = None;
                back = Some (back_here g.layout en);
              }) q q'
              ((whole world).wait under.wait st) l.makes (λ low. refl) (λ low. refl) shows refl
              (outside_here g linked q' l.out)
              (Left l.owner.part, l.makes.event, by_leave l.owner.part opened a.top sl)
              (leaves_wiped scene p o q q' v mem a l.cells sl.stk l.out)
              (λ z m part ev d. paid q' fr' (given_back scene p en o q q' v mem a entry l.keeps sl.stk) z m d)
              (still_owed q' fr') (runs st mem q' l.out fr' kept store)))

          mixed_case : (is_plain q.maps.regs.rcode && is_plain q.maps.regs.rdata) ≡ false
              → ((i j : ℕ) → q.maps.regs.rcode ≡ RetCode i → q.maps.regs.rdata ≡ RetData j → ⊥)
              → Told (return_now q)
          mixed_case np no_pair =
              let m = mixed g linked a.part a.offset q a.valid a.at a.jump
              (λ d np nd. (a.safe d np nd).0) np no_pair in
              subst Told (sym m.0) (told_fails (suc n) c under it Bad refl m.1)

          words_are : (cw dw : OWord) → q.maps.regs.rcode ≡ cw → q.maps.regs.rdata ≡ dw
              → return_now q ≡ return_told q.frames cw dw
          words_are cw dw ec ed =
              ap (λ z. return_told q.frames z q.maps.regs.rdata) ec ∙ ap (return_told q.frames cw) ed

          by_words : (cw dw : OWord) → q.maps.regs.rcode ≡ cw → q.maps.regs.rdata ≡ dw
              → Told (return_now q)
          by_words (Plain x) (Plain y) ec ed =
              by_tells x y ec ed (words_are (Plain x) (Plain y) ec ed)
              (tells g linked named a.part a.offset q a.valid a.at a.jump x y ec ed a.safe)
          by_words (RetCode i) (RetData j) ec ed =
              subst Told (sym (words_are (RetCode i) (RetData j) ec ed)) (pairs it i j ec ed)
          by_words (Plain x) (RetCode j) ec ed = mixed_case (rw (ec, ed) refl)
              (λ i j e1 e2. (let z : Plain x ≡ RetCode i = sym ec ∙ e1 in cc))
          by_words (Plain x) (RetData j) ec ed = mixed_case (rw (ec, ed) refl)
              (λ i j e1 e2. (let z : Plain x ≡ RetCode i = sym ec ∙ e1 in cc))
          by_words (RetCode x) (Plain y) ec ed = mixed_case (rw ec refl)
              (λ i j e1 e2. (let z : Plain y ≡ RetData j = sym ed ∙ e2 in cc))
          by_words (RetCode x) (RetCode y) ec ed = mixed_case (rw ec refl)
              (λ i j e1 e2. (let z : RetCode y ≡ RetData j = sym ed ∙ e2 in cc))
          by_words (RetData x) dw ec ed = mixed_case (rw ec refl)
              (λ i j e1 e2. (let z : RetData x ≡ RetCode i = sym ec ∙ e1 in cc))
