-- A call of the outside, from its site to the word after `plus g0 a0 0`.
use Rattle.call_sequence.specs.declared.TheConstants.{CALL_WORDS, SITE_WORDS}
use Rattle.trusted_border.specs.declared.layout.SiteCode.{SiteCode}
use Rattle.trusted_border.specs.declared.events.Event.TheVariants.{Called, Left}
use Rattle.template_runs.specs.Border.{zero, by_call, Wiped}
use Rattle.template_runs.proofs.Offers.{Clean, untold, clean_call, clean_answered, clean_wiped, first_back}
use Rattle.template_runs.proofs.Offers.{used, shows_call, given_there, Owing, int_back, out_of, took}
use Rattle.template_runs.proofs.Offers.{take_law, take_fails, flat_int, called_valid, called_stk, called_data}
use Rattle.template_runs.proofs.Offers.{SiteHere, Pair, called_to, call_makes, here_back, at_back, At, Placed}
use Rattle.template_runs.proofs.Offers.{inside_here, Here}
use Rattle.std.proofs.Common.{inl, ◌≡◌, ℕ, suc, ◌+◌, ◌-◌, ◌≤◌, ℤ, pos, List, [], ◌∷◌, Option, Some, None}
use Rattle.std.proofs.Common.{true, false, refl, sym, ap, ◌∙◌, subst, arith}
use Rattle.source_laws.proofs.Scenes.{Scene}
use Rattle.source_laws.proofs.Upto.{upto, failing, UpTo, go_out, spend, wipes_up, is_lower}
use Rattle.std.proofs.lemmas.Bool.{eq-eqb}
use Rattle.cap_words.specs.declared.Word.TheVariants.{Int}
use Rattle.cap_words.specs.declared.CapFields.{CapFields}
use Rattle.lcm_isa.specs.declared.Reg.{Reg}
use Rattle.lcm_isa.specs.declared.Reg.TheVariants.{A0, G0}
use Rattle.lcm_isa.specs.declared.Operand.TheVariants.{Imm}
use Rattle.lcm_isa.specs.declared.Instr.TheVariants.{Plus}
use Rattle.lcm_machine.specs.Places.{reg}
use Rattle.lcm_machine.specs.Table.{fits_64}
use Rattle.linked_starts.specs.Parts.{PartSeen}
use Rattle.overlay_machine.specs.declared.words.OWord.{OWord}
use Rattle.overlay_machine.specs.declared.words.OWord.TheVariants.{Plain}
use Rattle.overlay_machine.specs.Words.{look}
use Rattle.overlay_machine.specs.State.{OpenFrame, OState}
use Rattle.overlay_machine.specs.Step.{new_frame, rest_words}
use Rattle.run_lines.specs.Layout.{part_name, site_of}
use Rattle.source_laws.proofs.Refined.{emit, Event, wipes, Wait, resumed, whole}
use Rattle.proc_semantics.specs.Values.{Store}
use Rattle.source_laws.specs.Seen.{Shown, Back, shown_of, event_outs}
use Rattle.source_laws.specs.Wiped.{low_of}
use Rattle.proc_semantics.specs.Marked.{lower}
use Rattle.lcm_machine.specs.Cells.{cell, put_back}
use Rattle.template_runs.specs.Runs.{is_inside, Makes}
use Rattle.source_laws.proofs.Waiting.{IsFor, Resumes, WaitLaw}
use Rattle.run_lines.specs.Feed.{integer_in}
use Rattle.template_runs.specs.Public.{IsPublic}
use Rattle.cap_words.specs.declared.Sealable.{Sealable}

module _ (scene : Scene)
    (p : PartSeen) (w top : ℕ) (words : List OWord) (mem : ℕ → OWord) (fs : List OpenFrame) (o : OState)
    (h : Here scene.g scene.linked p w top words mem fs o)
    (k i : ℕ) (u : SiteCode) (at : At scene.g scene.linked p k o) (s : SiteHere scene.g scene.linked p k i u)
    (room : scene.g.layout.stack.base + w + 2 ≤ top + 1)
    (c : CapFields) (d : Sealable) (seal : ℕ) (pair : Pair scene.g scene.linked c d seal o)
    (code : Placed scene.g scene.linked p (k + SITE_WORDS) (Plus G0 A0 (Imm (pos 0))))
    (g0 : o.maps.regs.g0 ≡ zero) (g1 : o.maps.regs.g1 ≡ zero) (g2 : o.maps.regs.g2 ≡ zero) where
  open scene use {world, g, linked, Begins, StoreIs, RegsAre}

  abbrev Q : OState
  Q = called_to g linked p w top words mem fs o h k i u at s room c d seal pair

  abbrev F : OpenFrame
  F = new_frame i (top - w) top o

  makes : Makes g.layout CALL_WORDS (Some (Called (is_inside g.layout Q) i (top - w) top)) o Q
  makes = call_makes g linked p w top words mem fs o h k i u at s room c d seal pair

  -- the wait of this call, as the meaning has it
  pub call_out_law : (ow : Owing fs) (n b cr : ℕ) (wt : Wait world) (st : Store)
      (out : Option ℕ → Event) (xs : Shown)
      → WaitLaw scene n → is_inside g.layout Q ≡ false
      → ((r : Reg) → IsPublic g (reg Q.maps.regs r)) → StoreIs st mem
      → IsFor scene wt F
      → ((low : Option ℕ) → shown_of (out low) ≡ xs) → ((low : Option ℕ) → low_of (out low) ≡ low)
      → event_outs g.layout Q (Some (Called false i (top - w) top)) ≡ xs ∷ []
      → ((m : ℕ) → m ≤ n → (v : ℤ) (st' : Store) (mem' : ℕ → OWord) (q : OState)
      → Here g linked p w top words mem' fs q → At g linked p (k + SITE_WORDS + 1) q
      → q.maps.regs.g0 ≡ Plain (Int v) → fits_64 v ≡ true → StoreIs st' mem'
      → UpTo g ow.owes (used w top) m b q (wt.resume v st'))
      → CALL_WORDS + 1 + b ≤ cr
      → UpTo g ow.owes (used w top) (suc n) cr o (emit out ((whole world).wait (Some wt) st))
  call_out_law ow n b cr wt st out xs law gone public store for alike tells eo cont le =
      let silent : Makes g.layout CALL_WORDS (Some (Called false i (top - w) top)) o Q =
      subst (λ x. Makes g.layout CALL_WORDS (Some (Called x i (top - w) top)) o Q) gone makes in
      let less : CALL_WORDS + (1 + b) ≤ cr = omega (arith, le) in
      spend g (suc n) (CALL_WORDS + (1 + b)) cr o _ less
      (go_out g n CALL_WORDS (1 + b) (Some (Called false i (top - w) top)) out xs o Q
      ((whole world).wait (Some wt) st) silent alike tells eo refl gone (
        Called false i (top - w) top,
        silent.event,
        by_call (record { seal = seal; code = c; half = d }) F
            (shows_call g linked p w top words mem fs o h k i u at s room c d seal pair g0 g1 g2),
      )
      wiped_below
      (λ a m part e d. absurd
      (let z : Some (Called false i (top - w) top) ≡ Some (Left part) = sym silent.event ∙ e in cc))
      (λ a m. inl m)
      (law (1 + b) wt F fs ow for resumes st mem Q
      (out_of g linked Q (called_valid g linked p w top words mem fs o h k i u at s room c d seal pair)
      gone public) (ap (λ x. F ∷ x) h.frames)
      (called_data g linked p w top words mem fs o h k i u at s room c d seal pair) store))
    where
      -- what lies below the frame is given away
      wiped_below : (x : OState) (low : Option ℕ) → Clean g x low (used w top) o → Wiped g low x Q
      wiped_below x low z =
          let high = h.high in
          let within : top - w - 1 ≤ g.layout.stack.end = omega (arith, high) in
          record {
            end = top - w - 1;
            stk = (shows_call g linked p w top words mem fs o h k i u at s room c d seal pair g0 g1 g2).stk;
            within = within;
            there = given_there g linked Q
                (called_valid g linked p w top words mem fs o h k i u at s room c d seal pair)
                (top - w - 1) within
                (shows_call g linked p w top words mem fs o h k i u at s room c d seal pair g0 g1 g2).stk
                (called_stk g linked p w top words mem fs o h k i u at s room c d seal pair).0;
            cells = clean_wiped g linked x Q low (top - w - 1) 0 within
                (clean_call g x low o Q w top (omega (arith, room)) refl z);
          }

      resumes : (m : ℕ) → m ≤ n → Resumes scene m (1 + b) wt F fs ow
      resumes m lm r1 r2 t q st' mem' v r same older globs store' x ex =
          subst (λ z. UpTo g ow.owes (untold (z + 1) top) m (1 + b) q
          (resumed world (Some wt) (part_name g.layout (site_of g.layout i).part) (site_of g.layout i).index
          (top - w) None x st')) same_words (by x (sym (flat_int g linked q v) ∙ ex))
        where
          same_words : w ≡ top - (top - w)
          same_words = omega (arith, room)

          here : Here g linked p w top words mem' fs q
          here = here_back g linked p w top words mem fs o h k i u at s mem' r1 r2 t q room r same older
              globs v

          back_at : At g linked p (k + SITE_WORDS) q
          back_at = at_back g linked p w top words mem fs o h k i u at s mem' r1 r2 t q room r same older
              globs v

          -- the frame's first cell holds 0
          first : cell q.maps.cells (top - w) ≡ Some zero
          first =
              ap (λ (x : OState). cell x.maps.cells (top - w)) r.result
              ∙ ap (λ (x : OpenFrame). cell (put_back t.maps.cells x.base
              (zero ∷ rest_words x.words)) (top - w))
              same
              ∙ first_back t.maps.cells (top - w) (rest_words F.words)

          answered : (x : OState) (low : Option ℕ) → Clean g x low (untold (w + 1) top) q
              → Clean g x (Some (lower OWord Back low wt.given)) (used w top) q
          answered x low z =
              let gv = for.given in
              clean_answered g x low w top wt.given (lower OWord Back low wt.given) q
              (is_lower low wt.given) (omega (arith, gv, room)) first z

          by : (x : Option ℤ) → integer_in (look q.maps.regs.a0) ≡ x
              → UpTo g ow.owes (untold (w + 1) top) m (1 + b) q
              (resumed world (Some wt) (part_name g.layout (site_of g.layout i).part)
              (site_of g.layout i).index
              (top - w) None x st')
          by None e = take_fails g linked p (k + SITE_WORDS) q v back_at code
              (failing g ow.owes (untold (w + 1) top) m) (1 + b) e
              (omega arith)
          by (Some z) e =
              let iz = int_back (look q.maps.regs.a0) z e in
              let is : resumed world (Some wt) (part_name g.layout (site_of g.layout i).part)
              (site_of g.layout i).index (top - w) None (Some z) st' ≡ wipes wt.given (wt.resume z st') =
              rw (
                for.part,
                eq-eqb (site_of g.layout i).index wt.site for.site,
                eq-eqb (top - w) wt.base for.base,
              ) refl in
              subst (UpTo g ow.owes (untold (w + 1) top) m (1 + b) q) (sym is)
              (wipes_up g wt.given m (1 + b) q (wt.resume z st')
              (inside_here g linked p (k + SITE_WORDS) q back_at) answered
              (take_law g linked p (k + SITE_WORDS) q v back_at code
              (upto g ow.owes (used w top) m (wt.resume z st')) z (1 + b) b
              iz.0 iz.1
              (λ v2 at2. cont m lm z st' mem' (took g linked p (k + SITE_WORDS) q v back_at code z)
              (record {
                valid = v2;
                at = here.at;
                stk = here.stk;
                cursor = here.cursor;
                dat = here.dat;
                slots = here.slots;
                fit = here.fit;
                globs = here.globs;
                frames = here.frames;
                low = here.low;
                high = here.high;
                free = here.free;
              }) at2 refl iz.1 store') (omega arith)))
