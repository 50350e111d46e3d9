-- A call of a procedure of the modules, from its site to the word after it.
use Rattle.std.proofs.Common.{None, ◌≡◌, ◌≢◌, ℕ, suc, ◌+◌, ◌-◌, ◌≤◌, ℤ, pos, List, ◌∷◌, Option, Some, true}
use Rattle.std.proofs.Common.{refl, sym, ap, ◌∙◌, subst, arith, inl, length}
use Rattle.source_laws.specs.Seen.{Back, handed, left_with, back_here}
use Rattle.std.specs.Prelude.{option_map}
use Rattle.cap_words.specs.declared.Word.TheVariants.{Int, Mem, Sealed}
use Rattle.cap_words.specs.declared.CapFields.{CapFields}
use Rattle.lcm_isa.specs.declared.Reg.{Reg}
use Rattle.lcm_isa.specs.declared.Reg.TheVariants.{Pc, Dat, Stk, Rcode, Rdata, A0, A1, A2, A3}
use Rattle.lcm_isa.specs.declared.Instr.TheVariants.{Xjmp}
use Rattle.lcm_machine.specs.Places.{reg}
use Rattle.lcm_machine.specs.Table.{fits_64, unsealed}
use Rattle.call_sequence.specs.Holds.{data_cap, part_stack_cap, code_at}
use Rattle.linked_starts.specs.Parts.{PartSeen}
use Rattle.trusted_border.specs.declared.layout.SiteCode.{SiteCode}
use Rattle.trusted_border.specs.declared.events.Event.TheVariants.{Called, Returned as ReturnedTo}
use Rattle.overlay_machine.specs.declared.words.OWord.{OWord}
use Rattle.overlay_machine.specs.declared.words.OWord.TheVariants.{Plain}
use Rattle.overlay_machine.specs.Words.{look}
use Rattle.overlay_machine.specs.State.{OpenFrame, OState}
use Rattle.overlay_machine.specs.Step.{own_stack, new_frame}
use Rattle.overlay_machine.specs.Link.{Link, IsTrusted, ranges_of}
use Rattle.overlay_machine.specs.Safe.{IsSafe}
use Rattle.overlay_machine.proofs.Offers.{own_from, length-words_from}
use Rattle.source_laws.proofs.Scenes.{Scene}
use Rattle.source_laws.proofs.Refined.{Registers, Then, whole}
use Rattle.proc_semantics.specs.Values.{Store}
use Rattle.proc_semantics.specs.declared.value.Target.{Target}
use Rattle.template_runs.specs.Runs.{is_inside, Makes}
use Rattle.cap_words.specs.Linear.{zero_word, left_of}
use Rattle.lcm_machine.specs.Cells.{put_back, words_from}
use Rattle.template_runs.proofs.Offers.{Clean, untold, ended, clean_same, clean_anew, clean_call, clean_back}
use Rattle.template_runs.proofs.Offers.{clean_wiped, used, Keeps, back_valid, resumed_to, back_makes}
use Rattle.template_runs.proofs.Offers.{back_returned, given_there, Out, Owing, Valid, At, Placed}
use Rattle.template_runs.proofs.Offers.{inside_here, Here, DataIs, called_valid, called_stk, called_data}
use Rattle.template_runs.proofs.Offers.{called_own, SiteHere, Pair, called_to, call_makes, here_back, at_back}
use Rattle.call_sequence.specs.declared.TheConstants.{CALL_WORDS, SITE_WORDS}
use Rattle.call_sequence.specs.SequenceRuns.{stack_cap as stack_part}
use Rattle.template_runs.specs.Border.{Opened, code_word, half_word, content_of as content_in, ShowsLeave}
use Rattle.template_runs.specs.Border.{GivesBack, Wiped, content_of}
use Rattle.source_laws.proofs.Upto.{UpTo, go_silent, spend, fewer, Carries, stack_top, end_of}
use Rattle.template_runs.specs.Public.{IsShown, IsPublic}
use Rattle.cap_words.specs.declared.Sealable.{Sealable}
use Rattle.cap_words.specs.declared.Sealable.TheVariants.{Mem as MemIn, Seal as SealIn}

pub int_public : (g : Link) (v : ℤ) → IsPublic g (Plain (Int v))
int_public g v p k ip e = cc

pub first_frame : (f h : OpenFrame) (fs gs : List OpenFrame) → f ∷ fs ≡ h ∷ gs → f ≡ h
first_frame f h fs gs e = cc

pub older_frames : (f h : OpenFrame) (fs gs : List OpenFrame) → f ∷ fs ≡ h ∷ gs → fs ≡ gs
older_frames f h fs gs e = cc

module _ (scene : Scene) where
  open scene use {world, g, linked, Begins, StoreIs, RegsAre}

  -- at the jump that ends a procedure of a part that was entered in o, with its value and the words of all
  -- trusted data
  pub record AtEnd (p : PartSeen) (o q : OState) (v : ℤ) (mem : ℕ → OWord) : Type 0 where
    pub part : PartSeen
    pub same_part : part ≡ p
    pub offset : ℕ
    pub at : At g linked part offset q
    pub jump : Placed g linked part offset (Xjmp Rcode Rdata)
    pub valid : Valid g linked q
    pub code : q.maps.regs.rcode ≡ o.maps.regs.rcode
    pub half : q.maps.regs.rdata ≡ o.maps.regs.rdata
    pub value : q.maps.regs.a0 ≡ Plain (Int v)
    pub fits : fits_64 v ≡ true
    pub a1 : q.maps.regs.a1 ≡ Plain (Int (pos 0))
    pub a2 : q.maps.regs.a2 ≡ Plain (Int (pos 0))
    pub a3 : q.maps.regs.a3 ≡ Plain (Int (pos 0))
    pub clean : (d : Reg) → d ≢ Pc → d ≢ Dat → d ≢ Stk → d ≢ Rcode → d ≢ Rdata → d ≢ A0
        → reg q.maps.regs d ≡ Plain (Int (pos 0))
    pub top : ℕ
    pub within : top ≤ g.layout.stack.end
    pub stk : look q.maps.regs.stk ≡ Mem (part_stack_cap (ranges_of part) top (pos top))
    pub own : (cap : CapFields) → own_stack g.layout o.maps ≡ Some cap → cap.end ≡ top
    pub left : option_map
        (λ (c : CapFields). c.end + 1 - c.base) (own_stack g.layout o.maps) ≡ Some
        (top + 1 - g.layout.stack.base)
    pub frames : q.frames ≡ o.frames
    pub globs : DataIs g linked mem q.maps.cells
    pub safe : (d : Reg) → d ≢ Pc → d ≢ Dat → IsShown g q.frames (reg q.maps.regs d)

  -- the same return, the same stack and the same calls as where code outside entered: a hop keeps them
  pub record SameEntry (en o : OState) : Type 0 where
    pub code : o.maps.regs.rcode ≡ en.maps.regs.rcode
    pub half : o.maps.regs.rdata ≡ en.maps.regs.rdata
    pub stack : (c : CapFields) → own_stack g.layout en.maps ≡ Some c
        → (d : CapFields) × (own_stack g.layout o.maps ≡ Some d) × (d.end ≡ c.end)
    pub owned : (d : CapFields) → own_stack g.layout o.maps ≡ Some d
        → (c : CapFields) × (own_stack g.layout en.maps ≡ Some c)
    pub frames : o.frames ≡ en.frames

  -- where it leaves, it gives back what it was entered with
  pub given_back : (p : PartSeen) (en o q q' : OState) (v : ℤ) (mem : ℕ → OWord) (a : AtEnd p o q v mem)
      → SameEntry en o → Keeps q.maps q'.maps
      → q'.maps.regs.stk ≡ Plain (Mem (stack_part g.layout.stack.base a.top a.top)) → GivesBack g.layout en q'
  given_back p en o q q' v mem a s k stk = record {
    rcode = k.rcode ∙ a.code ∙ s.code;
    rdata = k.rdata ∙ ap (left_of look Plain) (a.half ∙ s.half);
    stk = λ c e. (let d = s.stack c e in
        stk ∙ ap (λ z. Plain (Mem (stack_part g.layout.stack.base z z))) (sym (a.own d.0 d.1) ∙ d.2));
  }

  -- there was a stack at the entry
  had_stack : (p : PartSeen) (o q : OState) (v : ℤ) (mem : ℕ → OWord) → AtEnd p o q v mem
      → (d : CapFields) × (own_stack g.layout o.maps ≡ Some d)
  had_stack p o q v mem a = by (own_stack g.layout o.maps) refl
    where
      by : (x : Option CapFields) → own_stack g.layout o.maps ≡ x
          → (d : CapFields) × (own_stack g.layout o.maps ≡ Some d)
      by None e = absurd (let z : None ≡ Some (a.top + 1 - g.layout.stack.base) =
          sym (ap (option_map (λ (c : CapFields). c.end + 1 - c.base)) e) ∙ a.left in cc)
      by (Some d) e = (d, e)

  handed_is : (d : Opened) → handed (code_word d) (Plain (unsealed (content_in d.half))) ≡ half_word d
  handed_is d = by d.half
    where
      by : (x : Sealable) → handed (code_word d) (Plain (unsealed (content_in x))) ≡ Plain (Sealed d.seal x)
      by (MemIn c) = refl
      by (SealIn c) = refl

  -- and so what it leaves with is what its entry says
  pub left_same : (p : PartSeen) (en o q q' : OState) (v : ℤ) (mem : ℕ → OWord) (a : AtEnd p o q v mem)
      → SameEntry en o → Keeps q.maps q'.maps
      → (d : Opened) → ShowsLeave g.layout d a.top q' → q.maps.regs.rdata ≡ half_word d → q'.frames ≡ q.frames
      → left_with q' ≡ back_here g.layout en
  left_same p en o q q' v mem a s k d sh eh ef =
      let b = given_back p en o q q' v mem a s k sh.stk in
      let x = had_stack p o q v mem a in
      let c = s.owned x.0 x.1 in
      let whole : handed q'.maps.regs.rcode q'.maps.regs.dat ≡ en.maps.regs.rdata =
      ap (λ z. handed z q'.maps.regs.dat) sh.rcode ∙ ap (handed (code_word d)) sh.dat ∙ handed_is d ∙ sym eh
      ∙ a.half ∙ s.half in
      let stk = ap Some (b.stk c.0 c.1) ∙ ap (option_map
      (λ (c : CapFields). Plain (Mem (stack_part g.layout.stack.base c.end c.end)))) (sym c.1) in
      same (left_with q') (back_here g.layout en) b.rcode whole b.rdata stk (ef ∙ a.frames ∙ s.frames)
    where
      same : (x y : Back) → x.code ≡ y.code → x.whole ≡ y.whole → x.half ≡ y.half → x.stk ≡ y.stk
          → x.open_calls ≡ y.open_calls → x ≡ y
      same x y e1 e2 e3 e4 e5 =
          ap (λ z. record x { code = z }) e1 ∙ ap (λ z. record x { code = y.code; whole = z }) e2
          ∙ ap (λ z. record x { code = y.code; whole = y.whole; half = z }) e3
          ∙ ap (λ z. record x { code = y.code; whole = y.whole; half = y.half; stk = z }) e4
          ∙ ap (λ z. record y { open_calls = z }) e5

  -- a hop from its end keeps it
  pub hopped_entry : (p : PartSeen) (en o q q' : OState) (v : ℤ) (mem : ℕ → OWord) (a : AtEnd p o q v mem)
      → SameEntry en o → q'.maps.regs.rcode ≡ q.maps.regs.rcode → q'.maps.regs.rdata ≡ q.maps.regs.rdata
      → q'.frames ≡ q.frames → (cap : CapFields) → own_stack g.layout q'.maps ≡ Some cap → cap.end ≡ a.top
      → SameEntry en q'
  hopped_entry p en o q q' v mem a s ec ed ef cap own end = record {
    code = ec ∙ a.code ∙ s.code;
    half = ed ∙ a.half ∙ s.half;
    stack = λ c e. (let d = s.stack c e in (cap, own, end ∙ sym (a.own d.0 d.1) ∙ d.2));
    owned = λ d e. (let x = had_stack p o q v mem a in s.owned x.0 x.1);
    frames = ef ∙ a.frames ∙ s.frames;
  }

  -- a hop keeps the cells, and begins with the same stack
  pub hops : (q q' : OState) (top : ℕ) → q'.maps.cells ≡ q.maps.cells → stack_top g q' ≡ top
      → Carries g (ended top) q (untold 0 (stack_top g q')) q'
  hops q q' top same is b low h =
      subst (λ z. Clean g b low (untold 0 z) q') (sym is)
      (clean_same g b low (untold 0 top) q q' same (clean_anew g b low top q h))

  -- where it leaves, it gives the whole stack away, in which is wiped what was told of
  pub leaves_wiped : (p : PartSeen) (o q q' : OState) (v : ℤ) (mem : ℕ → OWord) (a : AtEnd p o q v mem)
      → q'.maps.cells ≡ q.maps.cells
      → q'.maps.regs.stk ≡ Plain (Mem (stack_part g.layout.stack.base a.top a.top))
      → Out g linked q' → (b : OState) (low : Option ℕ) → Clean g b low (ended a.top) q → Wiped g low b q'
  leaves_wiped p o q q' v mem a same stk out b low h = record {
    end = a.top;
    stk = stk;
    within = a.within;
    there = given_there g linked q' out.valid a.top a.within stk (out.safe Stk).0;
    cells = clean_wiped g linked b q' low a.top 1 a.within (clean_same g b low (ended a.top) q q' same h);
  }

  abbrev pub left_now : OState → Option ℕ
  left_now o = option_map (λ (c : CapFields). c.end + 1 - c.base) (own_stack g.layout o.maps)

  -- the words that an entry takes: those of its return, and the registers of arguments
  pub record EntryPublic (o : OState) : Type 0 where
    pub code : IsPublic g o.maps.regs.rcode
    pub half : IsPublic g o.maps.regs.rdata
    pub a0 : IsPublic g o.maps.regs.a0
    pub a1 : IsPublic g o.maps.regs.a1
    pub a2 : IsPublic g o.maps.regs.a2
    pub a3 : IsPublic g o.maps.regs.a3

  pub shown_public : (q : OState) → ((d : Reg) → d ≢ Pc → d ≢ Dat → IsShown g q.frames (reg q.maps.regs d))
      → EntryPublic q
  shown_public q safe = record {
    code = (safe Rcode (λ e. cc) (λ e. cc)).1;
    half = (safe Rdata (λ e. cc) (λ e. cc)).1;
    a0 = (safe A0 (λ e. cc) (λ e. cc)).1;
    a1 = (safe A1 (λ e. cc) (λ e. cc)).1;
    a2 = (safe A2 (λ e. cc) (λ e. cc)).1;
    a3 = (safe A3 (λ e. cc) (λ e. cc)).1;
  }

  pub kept_public : (o q : OState) → q.maps.regs.rcode ≡ o.maps.regs.rcode
      → q.maps.regs.rdata ≡ o.maps.regs.rdata
      → q.maps.regs.a0 ≡ o.maps.regs.a0 → q.maps.regs.a1 ≡ o.maps.regs.a1 → q.maps.regs.a2 ≡ o.maps.regs.a2
      → q.maps.regs.a3 ≡ o.maps.regs.a3 → EntryPublic o → EntryPublic q
  kept_public o q ec ed e0 e1 e2 e3 h = record {
    code = subst (IsPublic g) (sym ec) h.code;
    half = subst (IsPublic g) (sym ed) h.half;
    a0 = subst (IsPublic g) (sym e0) h.a0;
    a1 = subst (IsPublic g) (sym e1) h.a1;
    a2 = subst (IsPublic g) (sym e2) h.a2;
    a3 = subst (IsPublic g) (sym e3) h.a3;
  }

  -- a procedure, from its entry
  abbrev pub ProcLaw : ℕ → Type 0
  ProcLaw n =
      (t : Target) (p : PartSeen) (e c : ℕ) (k : Then) (rs : Registers) (st : Store) (mem : ℕ → OWord)
      (o : OState) (ow : Owing o.frames)
      → Begins t p e → Valid g linked o → At g linked p e o
      → look o.maps.regs.dat ≡ Mem (data_cap (ranges_of p) (pos p.component.data_base))
      → IsSafe g o.frames o.maps.regs.stk → EntryPublic o
      → DataIs g linked mem o.maps.cells → StoreIs st mem → RegsAre rs o
      → ((v : ℤ) (st' : Store) (mem' : ℕ → OWord) (q : OState) (a : AtEnd p o q v mem') → StoreIs st' mem'
      → UpTo g ow.owes (ended a.top) n (c + 100) q (k v st'))
      → UpTo g ow.owes (untold 0 (stack_top g o)) n c o ((whole world).proc t (left_now o) rs k st)

  -- ---- a call

  module _ (p : PartSeen) (w top : ℕ) (words : List OWord) (mem : ℕ → OWord) (fs : List OpenFrame)
      (o : OState) (h : Here g linked p w top words mem fs o)
      (k i : ℕ) (u : SiteCode) (at : At g linked p k o) (s : SiteHere g linked p k i u)
      (room : g.layout.stack.base + w + 2 ≤ top + 1)
      (t : Target) (r : PartSeen) (e : ℕ) (c : CapFields) (d : Sealable) (seal : ℕ)
      (pair : Pair g linked c d seal o) (to_r : IsTrusted g r) (begins : Begins t r e)
      (code_is : c ≡ code_at (ranges_of r) e)
      (data_is : d ≡ MemIn (data_cap (ranges_of r) (pos r.component.data_base))) where
    abbrev Q : OState
    Q = called_to g linked p w top words mem fs o h k i u at s room c d seal pair

    abbrev F : OpenFrame
    F = new_frame i (top - w) top o

    makes : Makes g.layout CALL_WORDS (Some (Called (is_inside g.layout Q) i (top - w) top)) o Q
    makes = call_makes g linked p w top words mem fs o h k i u at s room c d seal pair

    q_at : At g linked r e Q
    q_at = record { trusted = to_r; pc = ap Mem code_is }

    q_own : own_stack g.layout Q.maps ≡ Some (part_stack_cap (ranges_of p) (top - w - 1) (pos (top - w - 1)))
    q_own = called_own g linked p w top words mem fs o h k i u at s room c d seal pair

    q_left : left_now Q ≡ Some (top - w - g.layout.stack.base)
    q_left =
        let sb = linked.stack_bases p at.trusted in
        let z : top - w - 1 + 1 - (ranges_of p).stack_base ≡ top - w - g.layout.stack.base =
        omega (arith, room, sb) in
        ap (option_map (λ (c : CapFields). c.end + 1 - c.base)) q_own ∙ ap Some z

    -- back from it: what was in the frame, and the value in a0
    pub call_in_law : (ow : Owing fs) (n b cr : ℕ) (kk : Then) (rs : Registers) (st : Store) → ProcLaw n
        → EntryPublic Q
        → StoreIs st mem → RegsAre rs Q
        → ((v : ℤ) (st' : Store) (mem' : ℕ → OWord) (q : OState) → Here g linked p w top words mem' fs q
        → At g linked p (k + SITE_WORDS) q → q.maps.regs.a0 ≡ Plain (Int v) → fits_64 v ≡ true
        → StoreIs st' mem'
        → UpTo g ow.owes (used w top) n b q (kk v st'))
        → CALL_WORDS + b ≤ cr → UpTo g ow.owes (used w top) (suc n) cr o
        ((whole world).proc t (Some (top - w - g.layout.stack.base)) rs kk st)
    call_in_law ow n b cr kk rs st law public store regs cont le =
        spend g (suc n) (CALL_WORDS + b) cr o _ le
        (subst (λ l. UpTo g ow.owes (used w top) (suc n) (CALL_WORDS + b) o ((whole world).proc t l rs kk st))
        q_left
        (go_silent g n CALL_WORDS b (Some (Called true i (top - w) top)) o Q
        ((whole world).proc t (left_now Q) rs kk st) silent_call refl refl (inside_here g linked r e Q q_at)
        begins_below (λ a m. inl m)
        (law t r e b kk rs st mem Q inner begins
        (called_valid g linked p w top words mem fs o h k i u at s room c d seal pair) q_at
        (ap (λ x. unsealed (content_of x)) data_is)
        (called_stk g linked p w top words mem fs o h k i u at s room c d seal pair).0 public
        (called_data g linked p w top words mem fs o h k i u at s room c d seal pair) store regs after)))
      where
        silent_call : Makes g.layout CALL_WORDS (Some (Called true i (top - w) top)) o Q
        silent_call = subst (λ x. Makes g.layout CALL_WORDS (Some (Called x i (top - w) top)) o Q)
            (inside_here g linked r e Q q_at) makes

        -- the stack of the procedure is what lies below the frame
        begins_below : Carries g (used w top) o (untold 0 (stack_top g Q)) Q
        begins_below x low h =
            subst (λ z. Clean g x low (untold 0 z) Q) (sym (ap end_of q_own))
            (clean_call g x low o Q w top (omega (arith, room)) refl h)

        inner : Owing Q.frames
        inner = record {
          owes = ow.owes;
          deep = λ a m. (let d = ow.deep a m in let e = ap length h.frames in omega (arith, d, e));
        }

        -- the frame's cells come back, those of the slots above its first one
        brings : (q q3 : OState) (below : ℕ) → below + 1 ≡ top - w
            → q3.maps.cells ≡ put_back q.maps.cells (top - w)
            (zero_word Plain ∷ words_from Plain o.maps.cells (top - w + 1) (top - (top - w)))
            → Carries g (ended below) q (used w top) q3
        brings q q3 below joins cells x low c =
            let len = length-words_from o.maps.cells (top - w + 1) (top - (top - w)) in
            clean_back g x q q3 w top (words_from Plain o.maps.cells (top - w + 1) (top - (top - w)))
            (omega (arith, room)) cells (omega (arith, len, room)) low below joins
            (omega (arith, joins, room)) c

        after : (v : ℤ) (st' : Store) (mem' : ℕ → OWord) (q : OState) (a : AtEnd r Q q v mem')
            → StoreIs st' mem'
            → UpTo g ow.owes (ended a.top) n (b + 100) q (kk v st')
        after v st' mem' q a store' =
            let cap = part_stack_cap (ranges_of a.part) a.top (pos a.top) in
            let own : own_stack g.layout q.maps ≡ Some cap =
            own_from g.layout q.maps cap a.stk refl refl (linked.stack_bases a.part a.at.trusted) in
            let end : top - w - 1 ≡ a.top =
            a.own (part_stack_cap (ranges_of p) (top - w - 1) (pos (top - w - 1))) q_own in
            let joins : a.top + 1 ≡ top - w = omega (arith, end, room) in
            let frames : q.frames ≡ F ∷ fs = a.frames ∙ ap (λ x. F ∷ x) h.frames in
            let back = back_makes g linked a.part a.offset q a.valid a.at a.jump F fs u cap a.code a.half
            frames s.code_is own joins in
            let q3 = resumed_to g linked a.part a.offset q a.valid a.at a.jump F fs u cap a.code a.half frames
            s.code_is own joins in
            let ret = back_returned g linked a.part a.offset q a.valid a.at a.jump F fs u cap a.code a.half
            frames s.code_is own joins in
            let v3 = back_valid g linked a.part a.offset q a.valid a.at a.jump F fs u cap a.code a.half frames
            s.code_is own joins in
            let same : ret.frame ≡ F = first_frame ret.frame F ret.older fs (sym ret.frames_are ∙ frames) in
            let older : ret.older ≡ fs =
            older_frames ret.frame F ret.older fs (sym ret.frames_are ∙ frames) in
            let here = here_back g linked p w top words mem fs o h k i u at s mem' Rcode Rdata q q3 room ret
            same older a.globs v3 in
            let at3 = at_back g linked p w top words mem fs o h k i u at s mem' Rcode Rdata q q3 room ret same
            older a.globs v3 in
            let less : 11 + b ≤ b + 100 = omega arith in
            spend g n (11 + b) (b + 100) q (kk v st') less
            (fewer g n (11 + b) q (kk v st')
            (go_silent g n 11 b (Some (ReturnedTo true i (top - w) top)) q q3 (kk v st') back refl
            refl (inside_here g linked p (k + SITE_WORDS) q3 at3) (brings q q3 a.top joins refl)
            (λ a m. inl m)
            (cont v st' mem' q3 here at3 a.value a.fits store')))
