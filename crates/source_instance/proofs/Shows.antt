-- What the laws say of the run, where its procedure calls out and where it leaves.
use Rattle.std.proofs.Common.{◌≡◌, ℕ, zero as nil, suc, ◌≤◌, true, false, List, [], ◌∷◌, map, Option, Some}
use Rattle.std.proofs.Common.{None, refl, sym, ap, ◌∙◌, subst, arith, IsSome}
use Rattle.std.specs.Prelude.{slice_get, option_map}
use Rattle.cap_words.specs.declared.Word.TheVariants.{Mem}
use Rattle.cap_words.specs.declared.Sealable.TheVariants.{Mem as MemIn}
use Rattle.lcm_machine.specs.Cells.{cell}
use Rattle.call_sequence.specs.SequenceRuns.{stack_cap}
use Rattle.overlay_machine.specs.declared.words.OWord.{OWord}
use Rattle.overlay_machine.specs.declared.words.OWord.TheVariants.{Plain}
use Rattle.overlay_machine.specs.State.{OState}
use Rattle.overlay_machine.specs.Step.{goes, overlay_step}
use Rattle.overlay_machine.specs.Link.{Link}
use Rattle.run_lines.specs.Cuts.{Matched}
use Rattle.proc_semantics.specs.Marked.{Thing, Event, Whence, refined, event_to}
use Rattle.template_runs.specs.Runs.{is_inside}
use Rattle.template_runs.specs.Border.{zero, Wiped, low_at}
use Rattle.source_laws.specs.Seen.{Back, Shown}
use Rattle.source_laws.specs.Secrets.{EachLetsGo}
use Rattle.source_laws.specs.Words.{word_from, back_at}
use Rattle.source_laws.specs.Wiped.{TellsSince, WipedTold, low_of}
use Rattle.source_laws.proofs.Offers.{meaning, whence_same, tells_of, low_same}
use Rattle.source_starts.specs.Links.{overlay_link}
use Rattle.source_starts.specs.Sources.{SourcesLeaveNothing}
use Rattle.source_starts.specs.PlainWiped.{PlainRunsWipe}
use Rattle.source_instance.specs.Shows.{LetsGoThere, SourceShows}
use Rattle.source_instance.proofs.Module.{behind}
use Rattle.source_instance.proofs.Start.{start, sources}
use Rattle.source_instance.proofs.Machine.{L, its_code, its_data}
use Rattle.source_instance.proofs.Enters.{o0, o7}
use Rattle.source_instance.proofs.Calls.{o25, o26, frame, call_made}
use Rattle.source_instance.proofs.Leaves.{o48, o49, step48}
use Rattle.source_instance.proofs.Run as run
use Rattle.source_instance.proofs.Held as held
use Rattle.source_instance.proofs.Held.{entry, answer, call_told, inside, outside}
use Rattle.source_instance.proofs.Lows.{W, much, first, second}

abbrev G : Link
G = overlay_link sources.link

-- ---- the low ends

low_mapped : (w : Whence → OWord) (k : ℕ → Back) (es : List (Event Whence ℕ)) (n : ℕ) (e : Event Whence ℕ)
    → slice_get es n ≡ Some e → option_map low_of (slice_get (map (event_to w k) es) n) ≡ Some (low_of e)
low_mapped w k [] n e h = absurd (let z : None ≡ Some e = h in cc)
low_mapped w k (x ∷ es) nil e h = low_here x ∙ ap (λ y. Some (low_of y)) (let z : x ≡ e = cc in z)
  where
    low_here : (x : Event Whence ℕ) → Some (low_of (event_to w k x)) ≡ Some (low_of x)
    low_here x = ap Some (sym (low_same w k x))
low_mapped w k (x ∷ es) (suc n) e h = low_mapped w k es n e h

low_is : (es : List Shown) (is : List (Thing OWord Back)) (b p q : OState) (n : ℕ) → TellsSince L o0 es is b p
    → (t : WipedTold G W.parts 8 (map (λ x. x.item) is) n b q) (low : Option ℕ)
    → ((k : ℕ) → option_map low_of (slice_get (meaning W 8 is (much k)).events n) ≡ Some low) → t.low ≡ low
low_is es is b p q n since t low computed =
    let f = much t.enough in
    let x = t.told f (omega arith) in
    let w = word_from W.marks is in
    let k = back_at is in
    let m : Some (low_of x.0) ≡ Some low =
    sym (low_mapped w k (refined W.parts 8 (map (λ (x : Thing OWord Back). x.item) is) f).events n x.0 x.1)
    ∙ ap (λ r. option_map low_of (slice_get r.events n))
    (whence_same W.marks W.parts 8 L o0 es is p (tells_of L o0 es is b p since) f) ∙ computed t.enough in
    let same : low_of x.0 ≡ low = cc in
    sym x.2 ∙ same

-- ---- what the laws say

module _ (each : EachLetsGo) (law : SourcesLeaveNothing) (wipe : PlainRunsWipe) where
  there : (j : ℕ) (es : List Shown) (is : List (Thing OWord Back)) (b p q : OState) → Matched start j p
      → TellsSince L o0 es is b p → is_inside L p ≡ true → overlay_step L p ≡ goes q → is_inside L q ≡ false
      → LetsGoThere sources es is b p q
  there j es is b p q r since i e gone =
      let o = each start j p q r i e gone in
      record {
        since = since;
        inside = i;
        steps = e;
        gone = gone;
        come = o.0;
        lets_go = o.1;
        shows = (law sources).shows o.0 p q o.1;
        told = wipe sources es is b p q since i e gone;
      }

  calls : LetsGoThere sources [] (entry ∷ []) o7 o25 o26
  calls = there 44 [] (entry ∷ []) o7 o25 o26 run.to_call.reached held.to_call (inside o25 39 refl)
      call_made.goes_on
      (outside o26 104 refl)

  leaves : LetsGoThere sources (call_told ∷ []) (entry ∷ answer ∷ []) o26 o48 o49
  leaves = there run.leaving_at (call_told ∷ []) (entry ∷ answer ∷ []) o26 o48 o49 run.to_leave.reached
      held.to_leave
      (inside o48 (behind 22) refl) step48.goes_on (outside o49 104 refl)

  -- the end of the stack that is given away, by stk
  end_is : (b q : OState) (low : Option ℕ) (w : Wiped G low b q) (end : ℕ)
      → q.maps.regs.stk ≡ Plain (Mem (stack_cap 111 end end)) → w.end ≡ end
  end_is b q low w end e =
      let s : Plain (Mem (stack_cap 111 w.end w.end)) ≡ Plain (Mem (stack_cap 111 end end)) = sym w.stk ∙ e in
      ap end_in s
    where
      end_in : OWord → ℕ
      end_in (Plain (Mem c)) = c.end
      end_in _ = 0

  leave_low : leaves.told.overlay.low ≡ Some 5
  leave_low =
      low_is (call_told ∷ []) (entry ∷ answer ∷ []) o26 o48 o49 1 held.to_leave leaves.told.overlay
      (Some 5) second

  given_back : leaves.told.overlay.wiped.end ≡ 118
  given_back = end_is o26 o49 leaves.told.overlay.low leaves.told.overlay.wiped 118 refl

  wiped : (a : ℕ) → 116 ≤ a → a ≤ 118 → cell o49.maps.cells a ≡ Some zero
  wiped a lo hi = by (cell o49.maps.cells a) refl
    where
      w : Wiped G leaves.told.overlay.low o26 o49
      w = leaves.told.overlay.wiped

      from : low_at 111 w.end leaves.told.overlay.low ≤ a
      from = subst (λ x. low_at 111 w.end x ≤ a) (sym leave_low) (omega (arith, lo))

      to : a ≤ w.end
      to = let e = given_back in omega (arith, hi, e)

      no_some : IsSome {T = OWord} None → ⊥
      no_some h = cc

      by : (c : Option OWord) → cell o49.maps.cells a ≡ c → c ≡ Some zero
      by None e = absurd (no_some (subst IsSome e (w.there a (omega (arith, lo)) to)))
      by (Some x) e = ap Some (w.cells.wiped a x from to e)

  pub source_shows : SourceShows
  source_shows = record {
    sources = sources;
    base = refl;
    end = refl;
    outside = o7;
    calling = o25;
    called = o26;
    entry = entry;
    calls = calls;
    pair = record { seal = 30; code = its_code 104; half = MemIn (its_data 106) };
    frame = frame;
    frame_base = refl;
    frame_end = refl;
    call_shown = record {
      older = [];
      newest = refl;
      pc = refl;
      dat = refl;
      c1 = refl;
      c2 = refl;
      rcode = refl;
      rdata = refl;
      stk = refl;
      t1 = refl;
      t2 = refl;
      g0 = refl;
      g1 = refl;
      g2 = refl;
    };
    a0 = refl;
    a1 = refl;
    a2 = refl;
    a3 = refl;
    given = end_is o7 o26 calls.told.overlay.low calls.told.overlay.wiped 115 refl;
    call_low = low_is [] (entry ∷ []) o7 o25 o26 0 held.to_call calls.told.overlay (Some 6) first;
    leaving = o48;
    left = o49;
    call = call_told;
    answer = answer;
    leaves = leaves;
    leave_shown = record {
      pc = refl;
      dat = refl;
      rcode = refl;
      rdata = refl;
      stk = refl;
      t1 = refl;
      t2 = refl;
      c1 = refl;
      c2 = refl;
      a1 = refl;
      a2 = refl;
      a3 = refl;
      g0 = refl;
      g1 = refl;
      g2 = refl;
    };
    value = refl;
    given_back = given_back;
    leave_low = leave_low;
    wiped = wiped;
  }
