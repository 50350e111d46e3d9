-- A procedure, from its entry to the `xjmp` that ends it, given its checks and its body.
use Rattle.call_sequence.specs.declared.TheConstants.{ENTRY_WORDS}
use Rattle.source_laws.proofs.Registers.{other}
use Rattle.source_laws.proofs.Scenes.{Scene}
use Rattle.source_laws.proofs.Refined.{Frame, taken_marks, wipes, proc_at, Comp, ends, ticks, Registers, Then}
use Rattle.source_laws.proofs.Refined.{with_place, block, begin, body_of, finish, proc_of, whole, recursive}
use Rattle.source_laws.proofs.Upto.{wipes_up, upto, failing, UpTo, ticks_up, as_live, MaySet, stack_top}
use Rattle.source_laws.proofs.Upto.{end_of as stack_end, is_lower}
use Rattle.std.proofs.Common.{◌≡◌, ◌≢◌, ℕ, ◌+◌, ◌-◌, ◌*◌, ◌<◌, ◌≤◌, ℤ, pos, List, [], ◌∷◌, ◌++◌, length}
use Rattle.std.proofs.Common.{replicate, Option, Some, None, Bool, true, false, refl, sym, ap, ◌∙◌, subst}
use Rattle.std.proofs.Common.{arith}
use Rattle.std.specs.Prelude.{option_map, nat_lt, if◌then◌else◌}
use Rattle.std.proofs.lemmas.Int.{ints}
use Rattle.std.proofs.lemmas.Bool.{ltb-true, ltb-false}
use Rattle.cap_words.specs.declared.Word.TheVariants.{Int, Mem}
use Rattle.cap_words.specs.declared.CapFields.{CapFields}
use Rattle.cap_words.specs.Linear.{zero_word}
use Rattle.lcm_isa.specs.declared.Reg.{Reg}
use Rattle.lcm_isa.specs.declared.Reg.TheVariants.{Pc, Rcode, Rdata, Stk, Dat, A0, A1, A2, A3}
use Rattle.lcm_machine.specs.Places.{reg}
use Rattle.lcm_machine.specs.Table.{fits_64}
use Rattle.call_sequence.specs.Holds.{part_stack_cap}
use Rattle.call_sequence.specs.Places.{begins_entry}
use Rattle.linked_starts.specs.Parts.{PartSeen}
use Rattle.overlay_machine.specs.declared.words.OWord.{OWord}
use Rattle.overlay_machine.specs.declared.words.OWord.TheVariants.{Plain}
use Rattle.overlay_machine.specs.State.{OpenFrame, OState}
use Rattle.overlay_machine.specs.Step.{own_stack}
use Rattle.overlay_machine.specs.Link.{IsTrusted, ranges_of}
use Rattle.overlay_machine.specs.Safe.{IsSafe}
use Rattle.overlay_machine.proofs.Offers.{own_is, safe_stk, mem_safe}
use Rattle.proc_program.specs.StepView.{block_of}
use Rattle.proc_semantics.specs.Values.{Store, taken}
use Rattle.proc_semantics.specs.declared.value.Target.{Target}
use Rattle.proc_program.specs.declared.program.Procedure.{Procedure}
use Rattle.source_events.specs.declared.End.TheVariants.{Fail as Fails}
use Rattle.proc_semantics.specs.declared.value.Value.{Value}
use Rattle.proc_semantics.specs.declared.value.Value.TheVariants.{Num}
use Rattle.lcm_machine.specs.Cells.{cell}
use Rattle.template_runs.proofs.Offers.{untold, ended, clean_begins, clean_ends, used, Owing, At, Code}
use Rattle.template_runs.proofs.Offers.{inside_here, Here, entry_safe, prologue_fails, zero_public}
use Rattle.template_runs.proofs.Offers.{mem_public, entered, entry_law, entry_fails, prologue, Reads}
use Rattle.template_runs.proofs.Offers.{prologue_law, epilogue, epilogue_law, Left}
use Rattle.proc_semantics.specs.Marked.{lower}
use Rattle.source_laws.specs.Seen.{Back}
use Rattle.source_laws.proofs.CallsIn.{EntryPublic, int_public, AtEnd, ProcLaw, left_now}
use Rattle.template_runs.specs.Public.{IsShown}

module _ (scene : Scene)
    (EnvIs : Procedure → List (Option OWord) → List Value → List OWord → Type 0) where
  open scene use {world, g, linked, Begins, StoreIs, RegsAre}

  -- the same words in the registers of arguments
  pub record ArgsKept (o q : OState) : Type 0 where
    pub a0 : q.maps.regs.a0 ≡ o.maps.regs.a0
    pub a1 : q.maps.regs.a1 ≡ o.maps.regs.a1
    pub a2 : q.maps.regs.a2 ≡ o.maps.regs.a2
    pub a3 : q.maps.regs.a3 ≡ o.maps.regs.a3

  -- where the words of a procedure stand, and that its checks and its body do what is meant
  pub record Proc (n : ℕ) (t : Target) (p : PartSeen) (e : ℕ) : Type 0 where
    pub what : Procedure
    pub what_is : proc_at world t ≡ Some what
    pub entry : begins_entry p.component e ≡ true
    pub checks : ℕ
    pub regs : List Reg
    pub body : ℕ
    pub end : ℕ
    pub small : checks ≤ 100 + what.need * 50
    pub slots : length regs + 2 ≡ what.need
    -- the checks fail, or go on to the prologue with the parameters' words in the registers, and 0 in t1
    pub checked : (top c b : ℕ) (mem : ℕ → OWord) (rs : Registers) (o q : OState) (ow : Owing o.frames)
        (m : Comp)
        → IsTrusted g p → RegsAre rs o → EntryPublic scene o
        → Here g linked p 0 top [] mem o.frames q → At g linked p (e + ENTRY_WORDS) q
        → q.maps.regs.rcode ≡ o.maps.regs.rcode → q.maps.regs.rdata ≡ o.maps.regs.rdata
        → ArgsKept o q → q.maps.regs.t1 ≡ zero_word Plain
        → (taken [] what.callbacks rs.registers ≡ None → checks ≤ c
        → UpTo g ow.owes (used what.need top) n c q (ends Fails))
        × ((env : List Value) → taken [] what.callbacks rs.registers ≡ Some env → checks + b ≤ c
        → ((ws : List OWord) (r : OState) (ip : IsTrusted g p) → length ws ≡ length regs
        → EnvIs what (taken_marks what.callbacks rs.words) (env ++ replicate what.locals (Num (pos 0))) ws
        → Here g linked p 0 top [] mem o.frames r → At g linked p (e + ENTRY_WORDS + checks) r
        → Reads g linked p ip top mem o.frames r.maps.regs (Rcode ∷ Rdata ∷ regs)
        (o.maps.regs.rcode ∷ o.maps.regs.rdata ∷ ws) → UpTo g ow.owes (used what.need top) n b r m)
        → UpTo g ow.owes (used what.need top) n c q m)
    pub begins : (ip : IsTrusted g p) (top : ℕ) (mem : ℕ → OWord) (fs : List OpenFrame)
        → Code g linked p (e + ENTRY_WORDS + checks)
        (prologue g linked p ip top mem fs (Rcode ∷ Rdata ∷ regs))
    pub body_at : e + ENTRY_WORDS + checks + 2 * what.need ≡ body
    -- the body, with its return and with its end, comes to the epilogue
    pub does : (top c : ℕ) (mem : ℕ → OWord) (fs : List OpenFrame) (ow : Owing fs) (rc rd : OWord)
        (ws : List OWord)
        (env : List Value) (ms : List (Option OWord)) (st : Store) (o q : OState) (back : Then)
        → o.frames ≡ fs
        → Here g linked p what.need top (rc ∷ rd ∷ ws) mem fs q → length ws ≡ length regs
        → At g linked p body q → EnvIs what ms env ws → StoreIs st mem
        → ((v : ℤ) (st' : Store) (mem' : ℕ → OWord) (ws' : List OWord) (r : OState)
        → Here g linked p what.need top (rc ∷ rd ∷ ws') mem' fs r → length ws' ≡ length regs
        → At g linked p end r → r.maps.regs.a0 ≡ Plain (Int v) → fits_64 v ≡ true → StoreIs st' mem'
        → UpTo g ow.owes (used what.need top) n c r (back v st'))
        → UpTo g ow.owes (used what.need top) n (1 + c) q
        (block world (whole world)
        (record { home = t.home; left = top + 1 - g.layout.stack.base; need = what.need; words = ms })
        (block_of what.body) back (λ x. back (pos 0)) env st)
    pub ends_by : (ip : IsTrusted g p) (top : ℕ) (mem : ℕ → OWord) (fs : List OpenFrame)
        → Code g linked p end (epilogue g linked p ip top mem fs (length regs))

  pub proc_law : (n : ℕ) → ((t : Target) (p : PartSeen) (e : ℕ) → Begins t p e → Proc n t p e)
      → ProcLaw scene n
  proc_law n all t p e c k rs st mem o ow begins v at dat safe public globs store regs cont =
      subst (UpTo g ow.owes (untold 0 (stack_top g o)) n c o) (sym first)
      (ticks_up g (1 + x.what.need) n c o _ (by_own (own_stack g.layout o.maps) refl))
    where
      x : Proc n t p e
      x = all t p e begins

      ip : IsTrusted g p
      ip = at.trusted

      first : (whole world).proc t (left_now scene o) rs k st ≡ ticks
          (1 + x.what.need) (begin world (whole world) t.home x.what
          (left_now scene o) rs k st)
      first = (recursive world).procs t _ rs k st
          ∙ ap (λ y. proc_of world (whole world) t.home y (left_now scene o)
          rs k st) x.what_is

      credit : ℕ
      credit = c + (1 + x.what.need) * 200

      some_safe : (d : Reg) → d ≢ Pc → d ≢ Dat → IsSafe g o.frames (reg o.maps.regs d)
      some_safe = entry_safe g linked p e o v at x.entry

      -- a slot's cell may be set
      may_set : (cap : CapFields) (j : ℕ) → j < x.what.need
          → MaySet g (used x.what.need cap.end) (cap.end - j)
      may_set cap j lt free = (omega (arith, lt), omega arith)

      -- at the epilogue
      at_epilogue : (cap : CapFields) → own_stack g.layout o.maps ≡ Some cap
          → (b : ℕ) (val : ℤ) (st' : Store) (mem' : ℕ → OWord) (ws' : List OWord) (r : OState)
          → Here g linked p x.what.need cap.end (o.maps.regs.rcode ∷ o.maps.regs.rdata ∷ ws') mem' o.frames r
          → length ws' ≡ length x.regs
          → At g linked p x.end r → r.maps.regs.a0 ≡ Plain (Int val) → fits_64 val ≡ true → StoreIs st' mem'
          → UpTo g ow.owes (used x.what.need cap.end) n (c + (1 + x.what.need) * 200) r (k val st')
      at_epilogue cap own b val st' mem' ws' r h len atr a0 fit store' =
          let sl = x.slots in
          let two : x.what.need ≡ 2 + length ws' = omega (arith, sl, len) in
          let code = subst (λ j. Code g linked p x.end (epilogue g linked p ip cap.end mem' o.frames j))
          (sym len) (x.ends_by ip cap.end mem' o.frames) in
          epilogue_law g linked p ip cap.end mem' o.frames o.maps.regs.rcode o.maps.regs.rdata ws' x.end
          (upto g ow.owes (used x.what.need cap.end) n (k val st')) (c + (1 + x.what.need) * 200)
          (c + 100) r code atr
          (subst (λ w. Here g linked p w cap.end (o.maps.regs.rcode ∷ o.maps.regs.rdata ∷ ws') mem'
          o.frames r) two h)
          (λ i lt. may_set cap i (omega (arith, sl, len, lt)))
          (λ q kx l.
          let a = at_end cap own val mem' r q kx l a0 fit in
          let room = h.low in
          as_live g (used x.what.need cap.end) (ended cap.end) n (c + 100) q (k val st')
          (λ b low z. clean_ends g b low x.what.need cap.end q (omega (arith, sl)) room
          (λ a w lo hi there. wipes a w q (λ j lt. l.wiped j (omega (arith, sl, len, lt))) lo hi there) z)
          (subst (λ z. UpTo g ow.owes (ended z) n (c + 100) q (k val st')) (sym (a.own cap own))
          (cont val st' mem' q a store')))
          (omega (arith, sl, len))
        where
          wipes : (a : ℕ) (w : OWord) (q : OState)
              → ((j : ℕ) → j < x.what.need → cell q.maps.cells (cap.end - j) ≡ Some (Plain (Int (pos 0))))
              → cap.end < a + x.what.need → a ≤ cap.end → cell q.maps.cells a ≡ Some w → w
              ≡ Plain (Int (pos 0))
          wipes a w q z lo hi there =
              let at : cap.end - (cap.end - a) ≡ a = omega (arith, hi) in
              let e : Some (Plain (Int (pos 0))) ≡ Some w =
              sym (z (cap.end - a) (omega (arith, lo, hi))) ∙ ap (cell q.maps.cells) at ∙ there in
              let k : w ≡ Plain (Int (pos 0)) = cc in
              k

          at_end : (cap : CapFields) → own_stack g.layout o.maps ≡ Some cap
              → (val : ℤ) (mem' : ℕ → OWord) (r q : OState) (kx : ℕ)
              → Left g linked p ip cap.end mem' o.frames r q kx (2 + length ws') o.maps.regs.rcode
              o.maps.regs.rdata
              → r.maps.regs.a0 ≡ Plain (Int val) → fits_64 val ≡ true
              → AtEnd scene p o q val mem'
          at_end cap own val mem' r q kx l a0 fit =
              let h = l.here in
              let cu = h.cursor in
              let z : h.at ≡ pos cap.end = omega (arith, ints, cu) in
              record {
                part = p;
                same_part = refl;
                offset = kx;
                at = l.at;
                jump = l.jump;
                valid = h.valid;
                code = l.code;
                half = l.half;
                value = l.value ∙ a0;
                fits = fit;
                a1 = l.clean A1 (other A1 Pc refl) (other A1 Dat refl) (other A1 Stk refl)
                    (other A1 Rcode refl) (other A1 Rdata refl) (other A1 A0 refl);
                a2 = l.clean A2 (other A2 Pc refl) (other A2 Dat refl) (other A2 Stk refl)
                    (other A2 Rcode refl) (other A2 Rdata refl) (other A2 A0 refl);
                a3 = l.clean A3 (other A3 Pc refl) (other A3 Dat refl) (other A3 Stk refl)
                    (other A3 Rcode refl) (other A3 Rdata refl) (other A3 A0 refl);
                clean = l.clean;
                top = cap.end;
                within = h.high;
                stk = h.stk ∙ ap (λ y. Mem (part_stack_cap (ranges_of p) cap.end y)) z;
                own = λ y e. (let s : Some y ≡ Some cap = sym e ∙ own in
                    ap (λ (o : Option CapFields). end_of cap o) s);
                left = ap (option_map (λ (c : CapFields). c.end + 1 - c.base)) own
                    ∙ ap (λ b. Some (cap.end + 1 - b)) (ap (λ x. x.base) (own_is g.layout o.maps cap own).1);
                frames = h.frames;
                globs = h.globs;
                safe = λ d np nd. subst (λ fs. IsShown g fs (reg q.maps.regs d)) (sym h.frames)
                    (safe_reg d np nd);
              }
            where
              end_of : CapFields → Option CapFields → ℕ
              end_of y None = y.end
              end_of y (Some c) = c.end

              -- a register that the epilogue wiped
              zeroed : (d : Reg) → d ≢ Pc → d ≢ Dat → d ≢ Stk → d ≢ Rcode → d ≢ Rdata → d ≢ A0
                  → IsShown g o.frames (reg q.maps.regs d)
              zeroed d np nd s c h v =
                  subst (IsShown g o.frames) (sym (l.clean d np nd s c h v)) (tt, zero_public g)

              safe_reg : (d : Reg) → d ≢ Pc → d ≢ Dat → IsShown g o.frames (reg q.maps.regs d)
              safe_reg Rcode np nd =
                  subst (IsShown g o.frames) (sym l.code) (some_safe Rcode np nd, public.code)
              safe_reg Rdata np nd =
                  subst (IsShown g o.frames) (sym l.half) (some_safe Rdata np nd, public.half)
              safe_reg A0 np nd = subst (IsShown g o.frames) (sym (l.value ∙ a0)) (tt, int_public g val)
              safe_reg Stk np nd =
                  let sb = linked.stack_bases p ip in
                  let hi = l.here.high in
                  let is = own_is g.layout o.maps cap own in
                  let s = mem_safe g o.frames o.maps.regs.stk cap is.0 (some_safe Stk np nd) in
                  let ord = s.order in
                  let bb : cap.base ≡ g.layout.stack.base = ap (λ x. x.base) is.1 in (
                    safe_stk g linked o.frames p ip q.maps.regs.stk cap.end l.here.at l.here.stk (
                      omega (arith, ord, bb, sb),
                      λ a lo hi2. (
                        omega (arith, lo, sb),
                        omega (arith, hi2, hi),
                        l.here.free a (omega (arith, lo, sb)) hi2,
                      ),
                    ),
                    mem_public g q.maps.regs.stk (Mem (part_stack_cap (ranges_of p) cap.end l.here.at))
                        l.here.stk (λ r kk ir e. cc),
                  )
              safe_reg Pc np nd = absurd (np refl)
              safe_reg Dat np nd = absurd (nd refl)
              safe_reg d np nd =
                  zeroed d np nd (other d Stk refl) (other d Rcode refl) (other d Rdata refl)
                  (other d A0 refl)

      -- the frame of a body
      frame_with : ℕ → Frame
      frame_with left = record {
        home = t.home;
        left = left;
        need = x.what.need;
        words = taken_marks x.what.callbacks rs.words;
      }

      -- after the entry
      after_entry : (cap : CapFields) → own_stack g.layout o.maps ≡ Some cap → (q : OState)
          → Here g linked p 0 cap.end [] mem o.frames q → At g linked p (e + ENTRY_WORDS) q
          → q.maps.regs.rcode ≡ o.maps.regs.rcode → q.maps.regs.rdata ≡ o.maps.regs.rdata → ArgsKept o q
          → q.maps.regs.t1 ≡ zero_word Plain
          → UpTo g ow.owes (untold 0 cap.end) n (c + x.what.need * 200 + 180) q
          (begin world (whole world) t.home x.what (Some (cap.end + 1 - g.layout.stack.base)) rs k st)
      after_entry cap own q h20 at20 rce rde same t1 =
          by_taken (taken [] x.what.callbacks rs.registers) refl
          (nat_lt (cap.end + 1 - g.layout.stack.base) x.what.need) refl
        where
          sl : length x.regs + 2 ≡ x.what.need
          sl = x.slots

          sm : x.checks ≤ 100 + x.what.need * 50
          sm = x.small

          J : ℕ
          J = cap.end + 1 - g.layout.stack.base - x.what.need

          -- its slots are live from here on
          begun : (m : Comp) → UpTo g ow.owes (used x.what.need cap.end) n (c + x.what.need * 200 + 180) q m
              → UpTo g ow.owes (untold 0 cap.end) n (c + x.what.need * 200 + 180) q (wipes J m)
          begun m u =
              wipes_up g J n (c + x.what.need * 200 + 180) q m
              (inside_here g linked p (e + ENTRY_WORDS) q at20)
              (λ b low h. clean_begins g b low x.what.need cap.end J (lower OWord Back low J) q
              (is_lower low J) refl h)
              u

          no_values : taken [] x.what.callbacks rs.registers ≡ None
              → UpTo g ow.owes (untold 0 cap.end) n (c + x.what.need * 200 + 180) q (wipes J (ends Fails))
          no_values ea =
              begun (ends Fails) ((x.checked cap.end (c + x.what.need * 200 + 180) 0 mem rs o q ow
              (ends Fails) ip regs public h20 at20 rce rde same t1).0 ea (omega (arith, sm)))

          by_taken : (a : Option (List Value)) → taken [] x.what.callbacks rs.registers ≡ a → (short : Bool)
              → nat_lt (cap.end + 1 - g.layout.stack.base) x.what.need ≡ short
              → UpTo g ow.owes (untold 0 cap.end) n (c + x.what.need * 200 + 180) q
              (with_place world (if short then None else Some (cap.end + 1 - g.layout.stack.base))
              (λ left. wipes (left - x.what.need) (body_of world (whole world) (frame_with left)
              x.what a k st)))
          by_taken None ea true es = no_values ea
          by_taken None ea false es = no_values ea
          by_taken (Some env) ea true es =
              begun (ends Fails) ((x.checked cap.end (c + x.what.need * 200 + 180) (2 * x.what.need + 1) mem
              rs o q ow (ends Fails)
              ip regs public h20 at20 rce rde same t1).1 env ea (omega (arith, sm))
              (λ ws r ip' len env_is hr atr reads.
              let lt = ltb-true (cap.end + 1 - g.layout.stack.base) x.what.need es in
              let lo = hr.low in
              let short2 : cap.end + 1 < g.layout.stack.base
              + (0 + length (o.maps.regs.rcode ∷ o.maps.regs.rdata ∷ ws)) =
              omega (arith, lt, sl, len, lo) in
              let le2 : 2 * length (Rcode ∷ Rdata ∷ x.regs) + 1 ≤ 2 * x.what.need + 1 = omega (arith, sl) in
              prologue_fails g linked p ip' cap.end mem o.frames (Rcode ∷ Rdata ∷ x.regs)
              (o.maps.regs.rcode ∷ o.maps.regs.rdata ∷ ws) [] (e + ENTRY_WORDS + x.checks)
              (failing g ow.owes (used x.what.need cap.end) n)
              (2 * x.what.need + 1) r (x.begins ip' cap.end mem o.frames) reads atr hr short2
              (λ j lt. may_set cap j (omega (arith, lt, sl, len))) le2))
          by_taken (Some env) ea false es =
              let m : Comp = body_of world (whole world)
              (frame_with (cap.end + 1 - g.layout.stack.base)) x.what
              (Some env) k st in
              begun m
              ((x.checked cap.end (c + x.what.need * 200 + 180) (2 * x.what.need + (1 + c)) mem rs o q ow m ip
              regs public h20 at20 rce rde same t1).1 env ea (omega (arith, sm))
              (λ ws r ip' len env_is hr atr reads.
              let ge = ltb-false (cap.end + 1 - g.layout.stack.base) x.what.need es in
              let room : g.layout.stack.base + (0 + length (o.maps.regs.rcode ∷ o.maps.regs.rdata ∷ ws))
              ≤ cap.end + 1 = omega (arith, ge, sl, len) in
              let le2 : 2 * length (Rcode ∷ Rdata ∷ x.regs) + (1 + c) ≤ 2 * x.what.need + (1 + c) =
              omega (arith, sl) in
              prologue_law g linked p ip' cap.end mem o.frames (Rcode ∷ Rdata ∷ x.regs)
              (o.maps.regs.rcode ∷ o.maps.regs.rdata ∷ ws) [] (e + ENTRY_WORDS + x.checks)
              (upto g ow.owes (used x.what.need cap.end) n m)
              (2 * x.what.need + (1 + c)) (1 + c) r (x.begins ip' cap.end mem o.frames) reads atr hr room
              (λ j lt. may_set cap j (omega (arith, lt, sl, len)))
              (λ q2 h2 at2.
              let two : length (o.maps.regs.rcode ∷ o.maps.regs.rdata ∷ ws) ≡ x.what.need =
              omega (arith, sl, len) in
              let ba = x.body_at in
              let be : e + ENTRY_WORDS + x.checks + 2 * length (Rcode ∷ Rdata ∷ x.regs) ≡ x.body =
              omega (arith, sl, ba) in
              x.does cap.end c mem o.frames ow o.maps.regs.rcode o.maps.regs.rdata ws
              (env ++ replicate x.what.locals (Num (pos 0))) (taken_marks x.what.callbacks rs.words) st o q2
              (finish world x.what.need k) refl
              (subst (λ w. Here g linked p w cap.end (o.maps.regs.rcode ∷ o.maps.regs.rdata ∷ ws) mem o.frames
              q2) two h2) len (subst (λ y. At g linked p y q2) be at2) env_is store
              (λ val st' mem' ws' r2 hr2 len2 atr2 a0 fit store'. ticks_up g (1 + x.what.need) n c r2
              (k val st') (at_epilogue cap own 0 val st' mem' ws' r2 hr2 len2 atr2 a0 fit store')))
              le2))

      by_own : (y : Option CapFields) → own_stack g.layout o.maps ≡ y
          → UpTo g ow.owes (untold 0 (stack_top g o)) n (c + (1 + x.what.need) * 200) o
          (begin world (whole world) t.home x.what (left_now scene o) rs k st)
      by_own None own =
          subst (λ l. UpTo g ow.owes (untold 0 (stack_top g o)) n (c + (1 + x.what.need) * 200) o
          (begin world (whole world) t.home x.what l rs k st))
          (sym (ap (option_map (λ (c : CapFields). c.end + 1 - c.base)) own))
          (entry_fails g linked p e o v at x.entry (failing g ow.owes (untold 0 (stack_top g o)) n)
          (c + (1 + x.what.need) * 200) own
          (omega arith))
      by_own (Some cap) own =
          let is = own_is g.layout o.maps cap own in
          let base : cap.base ≡ g.layout.stack.base = ap (λ x. x.base) is.1 in
          let left : left_now scene o ≡ Some
          (cap.end + 1 - g.layout.stack.base) =
          ap (option_map (λ (c : CapFields). c.end + 1 - c.base)) own
          ∙ ap (λ b. Some (cap.end + 1 - b)) base in
          subst (λ l. UpTo g ow.owes (untold 0 (stack_top g o)) n (c + (1 + x.what.need) * 200) o
          (begin world (whole world) t.home x.what l rs k st)) (sym left)
          (subst (λ z. UpTo g ow.owes (untold 0 z) n (c + (1 + x.what.need) * 200) o
          (begin world (whole world) t.home x.what (Some (cap.end + 1 - g.layout.stack.base)) rs k st))
          (sym (ap stack_end own))
          (entry_law g linked p e o v at x.entry cap own
          (upto g ow.owes (untold 0 cap.end) n (begin world (whole world) t.home x.what
          (Some (cap.end + 1 - g.layout.stack.base)) rs k st)) mem (c + (1 + x.what.need) * 200)
          (c + x.what.need * 200 + 180) safe dat globs
          (λ h20 at20. after_entry cap own (entered g linked p e o v at x.entry cap own) h20 at20 refl refl
          (record { a0 = refl; a1 = refl; a2 = refl; a3 = refl }) refl) (omega arith)))
