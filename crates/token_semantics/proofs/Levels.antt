-- Procedures, the feed and all levels do what they do without tokens.
use Rattle.std.proofs.Common.{◌≡◌, refl, sym, subst, ℕ, zero, suc, ◌+◌, ◌-◌, ◌≤◌, false, ap, ◌∙◌, arith, pos}
use Rattle.std.proofs.Common.{List, [], ◌∷◌, ◌++◌, length, replicate, Option}
use Rattle.std.proofs.Common.{Some, None, slice_get, ◌⊎◌, inl, inr}
use Rattle.std.proofs.lemmas.List.{length-append}
use Rattle.std.specs.Prelude.{All}
use Rattle.source_events.specs.declared.Item.{Item}
use Rattle.source_events.specs.declared.Item.TheVariants.{Enter, Ret}
use Rattle.source_events.specs.declared.FeedBack.{FeedBack}
use Rattle.source_events.specs.declared.FeedBack.TheVariants as way
use Rattle.source_events.specs.declared.End.TheVariants.{Fail, OutOfFuel}
use Rattle.proc_language.proofs.Offers.{each_at}
use Rattle.proc_language.specs.Tree as tree
use Rattle.proc_program.specs.Lower.{procedure_of}
use Rattle.proc_semantics.specs.declared.value.Target.{Target}
use Rattle.proc_semantics.specs.declared.value.Value.{Value}
use Rattle.proc_semantics.specs.declared.value.Value.TheVariants.{Num}
use Rattle.proc_semantics.specs.declared.value.Register.{Register}
use Rattle.proc_semantics.specs.declared.value.Activation.{Activation}
use Rattle.proc_semantics.specs.Values.{Store, register_of, taken, proc_at, found, registers_fed, World}
use Rattle.proc_semantics.specs.Meaning as plain
use Rattle.proc_semantics.specs.Meaning.{enough}
use Rattle.proc_language.specs.declared.TheConstants.{MOST_TOKENS}
use Rattle.token_language.specs.declared.module.TokenProc.{TokenProc}
use Rattle.token_language.specs.declared.module.TokenModuleFields.{TokenModuleFields}
use Rattle.token_language.specs.StmtView.{block_of}
use Rattle.token_language.specs.Tokens.{tokens_of, param_tokens, local_tokens}
use Rattle.token_language.specs.Limits.{TokensFit}
use Rattle.token_language.specs.Erased.{erased_block, erased_proc, erased}
use Rattle.token_language.proofs.Offers.{block_of-stmts_in}
use Rattle.token_check.specs.Tokens.{params_full}
use Rattle.token_check.specs.Walk.{FullAfter, at_first}
use Rattle.token_check.specs.Typing.{IsClear, ProcTyped, IsTyped}
use Rattle.token_semantics.specs.Hands.{begun}
use Rattle.token_semantics.specs.Told.{Comp, or_fail}
use Rattle.token_semantics.specs.Meaning.{Then, Wait, scope_of, Level, first_call, world, steps, finish}
use Rattle.token_semantics.specs.Meaning.{proc_of_index, proc_at as begun_at, left_by, on_item, level}
use Rattle.token_semantics.proofs.Fits.{tokens_taken, ProcFits}
use Rattle.token_semantics.specs.Law.{HasNoTokens, IsAccepted}
use Rattle.token_semantics.proofs.Resolved.{calls_fit, names_fit}
use Rattle.token_semantics.proofs.Reached.{ProcGoes, checked_goes, tokenless_goes}
use Rattle.token_language.specs.TokenFaults.{IsTokenResolved}
use Rattle.token_semantics.proofs.HandLemmas.{handed_length, empty_length, handed_held, handed_full}
use Rattle.token_semantics.proofs.Same.{Running, Same, same_more, ended_same, ticks_same, emitted, item_taken}
use Rattle.token_semantics.proofs.Same.{place_same, HandsAre, plus, with_numbers, calling, leave_same}
use Rattle.token_semantics.proofs.Same.{numbers_more}
use Rattle.token_semantics.proofs.Places.{all_get, each_append, each_replicate, lowered_in, lowered_at}
use Rattle.token_semantics.proofs.Places.{lookup, Takes, ValueTakesNone, RegistersTakeNone, taken_take}
use Rattle.token_semantics.proofs.Places.{found_takes, fed_take}
use Rattle.token_semantics.proofs.Going.{RThen, RBack, RWait, RStore, RPlaces, RNext, RLevel, resumed_same}
use Rattle.token_semantics.proofs.Going.{lowered}
use Rattle.token_semantics.proofs.Statements.{block_same, turn_same}

-- ---- how a procedure begins

-- there is a token for each number that is handed over
few_numbers : (p : TokenProc) (ns : List ℕ) → tokens_taken p ≡ length ns → length ns ≤ length (tokens_of p)
few_numbers p ns e =
    let l = length-append (param_tokens p.params) (local_tokens p.locals) in omega (arith, l, e)

begun_are : (p : TokenProc) (ns : List ℕ) → tokens_taken p ≡ length ns → TokensFit p
    → HandsAre (length (tokens_of p)) (at_first p) (begun (length (tokens_of p)) ns)
begun_are p ns e few =
    let size = length (tokens_of p) in
    let all : size + (MOST_TOKENS - size) ≡ MOST_TOKENS = omega (arith, few) in
    record {
      rest = replicate (MOST_TOKENS - size) false;
      full = handed_full p.params ns size (MOST_TOKENS - size) (sym e) (few_numbers p ns e)
          ∙ ap (λ n. params_full p.params 0 (replicate n false)) all;
      long = handed_length ns (replicate size None) ∙ empty_length size;
      had = λ n. let c = handed_held n ns size (few_numbers p ns e) in omega (arith, c);
    }

-- what the simulation asks of a procedure of a module
record IsReady (m : TokenModuleFields) (p : TokenProc) : Type 0 where
  goes : ProcGoes p
  fits : ProcFits m p
  few : TokensFit p

goes_of : (m : TokenModuleFields) → IsTokenResolved m → IsTyped m ⊎ HasNoTokens m → (j : ℕ) (p : TokenProc)
    → slice_get m.procs j ≡ Some p → ProcGoes p
goes_of m resolved (inl typed) j p g = checked_goes p (each_at ProcTyped m.procs j p typed g)
goes_of m resolved (inr none) j p g =
    tokenless_goes m p (each_at (λ p. tokens_of p ≡ []) m.procs j p none g) (names_fit m resolved j p g).1

module _ (modules : List TokenModuleFields) (accepted : All IsAccepted modules) where
  abbrev w : World
  w = world modules

  ready : (home : ℕ) (m : TokenModuleFields) → slice_get modules home ≡ Some m → (j : ℕ) (p : TokenProc)
      → slice_get m.procs j ≡ Some p → IsReady m p
  ready home m e j p g =
      let ok = all_get IsAccepted modules home m accepted e in
      record {
        goes = goes_of m ok.resolved ok.checked j p g;
        fits = each_at (ProcFits m) m.procs j p (calls_fit m ok.resolved) g;
        few = each_at TokensFit m.procs j p ok.limits.tokens g;
      }

  -- ---- how it ends

  finish_same : (size need : ℕ) (r : Running) (k : Then) (k' : plain.Then) → RThen r k k'
      → RBack size (calling r) (finish need k) (plain.finish w need k')
  finish_same size need r k k' h s clear hands are v st =
      leave_same size s hands are r clear _ _ (ticks_same r (1 + need) (k v st) (k' v st) (h v st))

  end_same : (size need : ℕ) (r : Running) (after : FullAfter) (k : Then) (k' : plain.Then) → RThen r k k'
      → IsClear after → RNext modules size (calling r) after (λ hands env. finish need k hands (pos 0))
      (λ env. plain.finish w need k' (pos 0))
  end_same size need r None k k' h clear = tt
  end_same size need r (Some s) k k' h clear =
      λ hands are env none. finish_same size need r k k' h s clear hands are (pos 0)

  module _ (l : Level) (l' : plain.Level) (lev : RLevel modules l l') where
    -- ---- procedures

    abbrev body : TokenModuleFields → TokenProc → Activation → ℕ → List ℕ → Then → List Value → Store → Comp
    body m p f n ns k env =
        steps modules l (scope_of m p f) n (block_of p.body) (finish f.need k)
        (λ hands env. finish f.need k hands (pos 0)) (begun (length (tokens_of p)) ns) env

    abbrev plain_body : TokenModuleFields → TokenProc → Activation → ℕ → tree.Block → plain.Then → plain.Next
    plain_body m p f n b k env =
        plain.block w l' f (lowered m p n b) (plain.finish w f.need k)
        (λ env. plain.finish w f.need k (pos 0)) env

    body_same : (m : TokenModuleFields) (p : TokenProc) (f : Activation) → slice_get modules f.home ≡ Some m
        → IsReady m p → (r : Running) (n : ℕ) (ns : List ℕ) → tokens_taken p ≡ length ns
        → (k : Then) (k' : plain.Then) → RThen r k k'
        → RPlaces modules (with_numbers r ns) (body m p f n ns k)
        (plain_body m p f n (erased_block (block_of p.body)) k')
    body_same m p f placed is r n ns e k k' h env none st =
        let size = length (tokens_of p) in
        let goes = is.goes in
        same_more (with_numbers r ns) (plus (calling r) (begun size ns)) (record {
          there = λ n. let c = handed_held n ns size (few_numbers p ns e) in omega (arith, c);
          spent = λ n. omega arith;
          most = λ n. omega arith;
        }) _ _
        (block_same modules accepted l l' lev m p f placed (block_of p.body)
        (Some (at_first p)) goes.0 goes.1
        is.fits.body (calling r) n (finish f.need k) (plain.finish w f.need k')
        (finish_same size f.need r k k' h)
        (λ hands env. finish f.need k hands (pos 0)) (λ env. plain.finish w f.need k' (pos 0))
        (end_same size f.need r goes.0 k k' h goes.2) (begun size ns) (begun_are p ns e is.few) env none st)

    proc_same : (home : ℕ) (m : TokenModuleFields) (p : TokenProc) → slice_get modules home ≡ Some m
        → IsReady m p → (r : Running) (n : ℕ) (left : Option ℕ) (ns : List ℕ) → tokens_taken p ≡ length ns
        → (rs : List Register) → RegistersTakeNone modules rs → (k : Then) (k' : plain.Then) → RThen r k k'
        → RStore (with_numbers r ns) (proc_of_index modules l home m n p left ns rs k)
        (plain.proc_of w l' home (Some (procedure_of (erased m) n (erased_proc p))) left rs k')
    proc_same home m p placed is r n left ns e rs low k k' h st =
        let q = procedure_of (erased m) n (erased_proc p) in
        ticks_same (with_numbers r ns) (1 + q.need) _ _
        (place_same (with_numbers r ns) (enough q.need left) _ _
        (λ left. by left (taken [] q.callbacks rs) refl))
      where
        by : (left : ℕ) → (o : Option (List Value))
            → taken [] (procedure_of (erased m) n (erased_proc p)).callbacks rs ≡ o
            → let q = procedure_of (erased m) n (erased_proc p) in
            let f : Activation = record { home = home; left = left; need = q.need } in
            Same (with_numbers r ns)
            (or_fail o (λ env. body m p f n ns k (env ++ replicate q.locals (Num (pos 0))) st))
            (plain.body_of w l' home left q o k' st)
        by left None g = ended_same (with_numbers r ns) Fail
        by left (Some env) g =
            let q = procedure_of (erased m) n (erased_proc p) in
            let f : Activation = record { home = home; left = left; need = q.need } in
            let zeros = replicate q.locals (Num (pos 0)) in
            subst (λ b. Same (with_numbers r ns) (body m p f n ns k (env ++ zeros) st)
            (plain_body m p f n b k' (env ++ zeros) st))
            (sym (block_of-stmts_in (erased_block (block_of p.body))))
            (body_same m p f placed is r n ns e k k' h (env ++ zeros)
            (each_append (ValueTakesNone modules) env zeros
            (taken_take modules q.callbacks [] tt rs low env g)
            (each_replicate (ValueTakesNone modules) q.locals (Num (pos 0)) tt)) st)

    at_same : (r : Running) (t : Target) (left : Option ℕ) (ns : List ℕ) (rs : List Register)
        → Takes modules t (length ns) → RegistersTakeNone modules rs → (k : Then) (k' : plain.Then)
        → RThen r k k' → RStore (with_numbers r ns) (begun_at modules l t left ns rs k)
        (plain.proc_of w l' t.home (proc_at w t) left rs k')
    at_same r t left ns rs takes low k k' h st =
        subst (λ o. Same (with_numbers r ns) (begun_at modules l t left ns rs k st)
        (plain.proc_of w l' t.home o left rs k' st))
        (sym (lookup modules t)) (in_module (slice_get modules t.home) refl)
      where
        in_proc : (m : TokenModuleFields) → slice_get modules t.home ≡ Some m → (o : Option TokenProc)
            → slice_get m.procs t.proc ≡ o
            → let n = first_call 0 (erased m).procs t.proc in
            Same (with_numbers r ns) (or_fail o (λ p. proc_of_index modules l t.home m n p left ns rs k st))
            (plain.proc_of w l' t.home (lowered_at m t.proc o) left rs k' st)
        in_proc m e None g = ended_same (with_numbers r ns) Fail
        in_proc m e (Some p) g =
            proc_same t.home m p e (ready t.home m e t.proc p g) r
            (first_call 0 (erased m).procs t.proc) left ns
            (takes m e p g) rs low k k' h st

        in_module : (o : Option TokenModuleFields) → slice_get modules t.home ≡ o
            → Same (with_numbers r ns)
            (or_fail o (λ m. or_fail (slice_get m.procs t.proc) (λ p.
            proc_of_index modules l t.home m (first_call 0 (erased m).procs t.proc) p left ns rs k st)))
            (plain.proc_of w l' t.home (lowered_in o t.proc) left rs k' st)
        in_module None e = ended_same (with_numbers r ns) Fail
        in_module (Some m) e = in_proc m e (slice_get m.procs t.proc) refl

    -- ---- the feed

    left_same : (r : Running) (part : List ℕ) (c : Option Wait) (c' : Option plain.Wait) → RWait r c c'
        → (left : Option ℕ) (b : FeedBack)
        → RThen r (left_by modules l part c left b) (plain.left_by w l' part c' left b)
    left_same r part c c' h left way.Out v st = emitted r _ _ _ (lev.waits r c c' h st)
    left_same r part c c' h left way.Bad v st = ended_same r Fail
    left_same r part c c' h left (way.Hop q x) v st = by (found w q x) refl
      where
        by : (o : Option Target) → found w q x ≡ o
            → Same r (or_fail o (λ t. l.hop c left t v st)) (plain.hopped w l' c' left o v st)
        by None e = ended_same r Fail
        by (Some t) e = lev.hops r c c' h left t (found_takes modules accepted q x t e) v st
    left_same r part c c' h None (way.Pair q site base) v st = ended_same r Fail
    left_same r part c c' h (Some left) (way.Pair q site base) v st =
        resumed_same r c c' h q site base (Some left) (Some v) st

    item_same : (r : Running) (c : Option Wait) (c' : Option plain.Wait) → RWait r c c'
        → (i : Item) (st : Store)
        → Same r (on_item modules l c st i) (plain.on_item w l' c' st i)
    item_same r c c' h (Ret part site base v) st = resumed_same r c c' h part site base None v st
    item_same r c c' h (Enter part name left ints pairs b) st = by (found w part name) refl
      where
        by : (o : Option Target) → found w part name ≡ o
            → Same r (or_fail o (λ t. l.proc t left [] (registers_fed w ints pairs)
            (left_by modules l (plain.part_name_of w t.home) c left b) st))
            (plain.entered w l' c' o left (registers_fed w ints pairs) b st)
        by None e = ended_same r Fail
        by (Some t) e =
            let part_of = plain.part_name_of w t.home in
            numbers_more r _ _ (lev.run r t left [] (registers_fed w ints pairs)
            (found_takes modules accepted part name t e) (fed_take modules accepted ints pairs)
            (left_by modules l part_of c left b) (plain.left_by w l' part_of c' left b)
            (left_same r part_of c c' h left b) st)

  -- ---- all levels

  pub level_same : (d : ℕ) → RLevel modules (level modules d) (plain.level w d)
  level_same zero = record {
    run = λ r t left ns rs takes low k k' h st. ended_same (with_numbers r ns) OutOfFuel;
    waits = λ r c c' h st. ended_same r OutOfFuel;
    turns = λ m p f placed r n c a s t u typed_c typed_a comes fits_c fits_a back back' rb k k' h
        hands are env none st. ended_same (plus r hands) OutOfFuel;
    hops = λ r c c' h left t takes v st. ended_same r OutOfFuel;
  }
  level_same (suc d) = record {
    run = at_same (level modules d) (plain.level w d) (level_same d);
    waits = λ r c c' h st. item_taken r _ _
        (λ i. item_same (level modules d) (plain.level w d) (level_same d) r c c' h i st);
    turns = turn_same modules accepted (level modules d) (plain.level w d) (level_same d);
    hops = λ r c c' h left t takes v st. numbers_more r _ _
        (at_same (level modules d) (plain.level w d) (level_same d) r t left []
        (register_of (Num v) ∷ []) takes
        (tt, tt) ((level modules d).hop c left t) ((plain.level w d).hop c' left t)
        ((level_same d).hops r c c' h left t takes) st);
  }
