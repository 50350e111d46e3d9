-- The same run, and with it in which state code outside ran last.
use Rattle.std.proofs.Common.{◌≡◌, ℕ, true, false, Bool, List, [], ◌∷◌, ◌++◌, Option, Some, None, refl, ap}
use Rattle.std.proofs.Common.{◌∙◌, subst, append-nil, map}
use Rattle.cap_words.specs.declared.Word.TheVariants.{Mem}
use Rattle.cap_words.specs.Face.{face_of}
use Rattle.lcm_machine.specs.Row.{faces}
use Rattle.call_sequence.specs.Sequences.{call_code, return_code, entry_code}
use Rattle.linked_starts.specs.Owners.{owner_of}
use Rattle.linked_starts.specs.Start.{start_regs, part_word}
use Rattle.trusted_border.specs.declared.events.Event.{Event}
use Rattle.overlay_machine.specs.declared.words.OWord.{OWord}
use Rattle.overlay_machine.specs.declared.words.OWord.TheVariants.{Plain}
use Rattle.overlay_machine.specs.State.{OState}
use Rattle.overlay_machine.specs.Words.{look}
use Rattle.overlay_machine.specs.Events.{step_event}
use Rattle.run_lines.specs.Layout.{is_trusted}
use Rattle.proc_semantics.specs.Marked.{Thing}
use Rattle.template_runs.specs.Runs.{is_inside}
use Rattle.source_laws.specs.Seen.{Back, Shown, event_outs, event_items, call_shown, thing_of}
use Rattle.source_laws.specs.Wiped.{TellsSince, none_yet, and_then, last_outside}
use Rattle.source_instance.proofs.Module.{behind}
use Rattle.source_instance.proofs.Machine.{L, Makes, own_code, its_code}
use Rattle.source_instance.proofs.Enters as enters
use Rattle.source_instance.proofs.Calls as calls
use Rattle.source_instance.proofs.Leaves as leaves
use Rattle.source_instance.proofs.Run.{enter_told, ret_told, enter_item, ret_item}

-- where pc stands

own_trusted : (n : ℕ) → is_trusted L (face_of (Mem (own_code n))) ≡ true
unfolding owner_of entry_code call_code return_code
own_trusted n = refl

its_free : (n : ℕ) → is_trusted L (face_of (Mem (its_code n))) ≡ false
unfolding owner_of entry_code call_code return_code
its_free n = refl

pub inside : (o : OState) (n : ℕ) → o.maps.regs.pc ≡ Plain (Mem (own_code n)) → is_inside L o ≡ true
unfolding faces
inside o n e = ap (λ w. is_trusted L (face_of (look w))) e ∙ own_trusted n

pub outside : (o : OState) (n : ℕ) → o.maps.regs.pc ≡ Plain (Mem (its_code n)) → is_inside L o ≡ false
unfolding faces
outside o n e = ap (λ w. is_trusted L (face_of (look w))) e ∙ its_free n

-- ---- steps

abbrev Since : List Shown → List (Thing OWord Back) → OState → OState → Type 0
Since = TellsSince L enters.o0

-- one more step, whatever it tells
more : {es : List Shown} {is : List (Thing OWord Back)} {b p q : OState} {n : ℕ} {v : Option Event}
    → Since es is b p
    → Makes p q n v → (going : List Shown) (coming : List (Thing OWord Back)) → event_outs L q v ≡ going
    → event_items L q v ≡ coming → (i : Bool) → is_inside L p ≡ i
    → Since (es ++ going) (is ++ coming) (last_outside i b p) q
more {es} {is} {b} {p} {q} t m going coming eo ei i e =
    subst (λ x. Since (es ++ going) (is ++ coming) (last_outside x b p) q) e
    (subst (λ x. Since (es ++ going) (is ++ x) (last_outside (is_inside L p) b p) q)
    (ap (event_items L q) m.event ∙ ei)
    (subst (λ x. Since (es ++ x) (is ++ event_items L q (step_event L p q))
    (last_outside (is_inside L p) b p) q)
    (ap (event_outs L q) m.event ∙ eo) (and_then t m.goes_on)))

silent : {es : List Shown} {is : List (Thing OWord Back)} {b p q : OState} {n : ℕ} → Since es is b p
    → Makes p q n None → (i : Bool) → is_inside L p ≡ i → Since es is (last_outside i b p) q
silent {es} {is} {b} {p} {q} t m i e =
    subst (λ x. Since x is (last_outside i b p) q) (append-nil es)
    (subst (λ x. Since (es ++ []) x (last_outside i b p) q) (append-nil is) (more t m [] [] refl refl i e))

within : {es : List Shown} {is : List (Thing OWord Back)} {b p q : OState} {n : ℕ} → Since es is b p
    → Makes p q n None → (a : ℕ) → p.maps.regs.pc ≡ Plain (Mem (own_code a)) → Since es is b q
within {p = p} t m a e = silent t m true (inside p a e)

beyond : {es : List Shown} {is : List (Thing OWord Back)} {b p q : OState} {n : ℕ} → Since es is b p
    → Makes p q n None → (a : ℕ) → p.maps.regs.pc ≡ Plain (Mem (its_code a)) → Since es is p q
beyond {p = p} t m a e = silent t m false (outside p a e)

-- ---- what comes in, and what goes out

abbrev pub entry : Thing OWord Back
entry = thing_of L enters.o8 enter_item

abbrev pub answer : Thing OWord Back
answer = thing_of L calls.o27 ret_item

abbrev pub call_told : Shown
call_told = call_shown L calls.o26 0 116

entered_by : event_items L enters.o8 (Some enters.entry_event) ≡ entry ∷ []
entered_by =
    ap (map (thing_of L enters.o8)) enter_told.items

answered_by : event_items L calls.o27 (Some calls.return_event) ≡ answer ∷ []
answered_by =
    ap (map (thing_of L calls.o27)) ret_told.items

-- ---- all steps

at_first : is_inside L enters.o0 ≡ false
unfolding faces owner_of start_regs part_word entry_code call_code return_code
at_first = refl

to_enter : Since [] [] enters.o6 enters.o7
to_enter =
    let r0 = silent none_yet enters.step0 false at_first in
    let r1 = beyond r0 enters.step1 97 refl in
    let r2 = beyond r1 enters.step2 98 refl in
    let r3 = beyond r2 enters.step3 99 refl in
    let r4 = beyond r3 enters.step4 100 refl in
    let r5 = beyond r4 enters.step5 101 refl in
    beyond r5 enters.step6 102 refl

-- before its call out
pub to_call : Since [] (entry ∷ []) enters.o7 calls.o25
to_call =
    let e = more to_enter enters.step7 [] (entry ∷ []) refl entered_by false (outside enters.o7 103 refl) in
    let r8 = within e calls.entry_made 3 refl in
    let r9 = within r8 calls.step9 23 refl in
    let r10 = within r9 calls.step10 24 refl in
    let r11 = within r10 calls.step11 25 refl in
    let r12 = within r11 calls.step12 26 refl in
    let r13 = within r12 calls.step13 27 refl in
    let r14 = within r13 calls.step14 28 refl in
    let r15 = within r14 calls.step15 29 refl in
    let r16 = within r15 calls.step16 30 refl in
    let r17 = within r16 calls.step17 31 refl in
    let r18 = within r17 calls.step18 32 refl in
    let r19 = within r18 calls.step19 33 refl in
    let r20 = within r19 calls.step20 34 refl in
    let r21 = within r20 calls.step21 35 refl in
    let r22 = within r21 calls.step22 36 refl in
    let r23 = within r22 calls.step23 37 refl in
    within r23 calls.step24 38 refl

-- and before it leaves
pub to_leave : Since (call_told ∷ []) (entry ∷ answer ∷ []) calls.o26 leaves.o48
to_leave =
    let c = more to_call calls.call_made (call_told ∷ []) [] refl refl true (inside calls.o25 39 refl) in
    let a = more c calls.return_made [] (answer ∷ []) refl answered_by false (outside calls.o26 104 refl) in
    let r27 = within a leaves.step27 (behind 0) refl in
    let r28 = within r27 leaves.step28 (behind 1) refl in
    let r29 = within r28 leaves.step29 (behind 2) refl in
    let r30 = within r29 leaves.step30 (behind 3) refl in
    let r31 = within r30 leaves.step31 (behind 4) refl in
    let r32 = within r31 leaves.step32 (behind 6) refl in
    let r33 = within r32 leaves.step33 (behind 7) refl in
    let r34 = within r33 leaves.step34 (behind 8) refl in
    let r35 = within r34 leaves.step35 (behind 9) refl in
    let r36 = within r35 leaves.step36 (behind 10) refl in
    let r37 = within r36 leaves.step37 (behind 11) refl in
    let r38 = within r37 leaves.step38 (behind 12) refl in
    let r39 = within r38 leaves.step39 (behind 13) refl in
    let r40 = within r39 leaves.step40 (behind 14) refl in
    let r41 = within r40 leaves.step41 (behind 15) refl in
    let r42 = within r41 leaves.step42 (behind 16) refl in
    let r43 = within r42 leaves.step43 (behind 17) refl in
    let r44 = within r43 leaves.step44 (behind 18) refl in
    let r45 = within r44 leaves.step45 (behind 19) refl in
    let r46 = within r45 leaves.step46 (behind 20) refl in
    within r46 leaves.step47 (behind 21) refl
