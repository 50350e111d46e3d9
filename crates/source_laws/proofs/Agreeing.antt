-- How the agreement of a run and a meaning goes over one step, one tick, one event and one item.
use Rattle.std.proofs.Common.{◌≡◌, ℕ, zero, suc, ◌+◌, ◌*◌, ◌<◌, ◌≤◌, ℤ, List, [], ◌∷◌, refl, sym, ap, subst}
use Rattle.std.proofs.Common.{arith, Option, None, ◌∙◌, ◌++◌}
use Rattle.cap_words.specs.declared.Word.{Word}
use Rattle.cap_words.specs.declared.Word.TheVariants.{Int}
use Rattle.source_events.specs.declared.End.TheVariants.{Halt as Halted, Fail as Fails, OutOfFuel}
use Rattle.source_laws.specs.Trace.{Final, Running, Outside, HaltedWith, Failed}
use Rattle.source_laws.specs.Seen.{Shown, Trace, shown, rests, shown_of, events_of}
use Rattle.source_laws.proofs.Refined.{Comp, Thing, Event, Report, ends, tick, ticks, emit, take_item}
use Rattle.source_laws.proofs.Refined.{counted, said, wipes}
use Rattle.source_laws.proofs.Follows.{Fits, Agrees, Prefix}

pub weaker : (b c : ℕ) (t : Trace) (m : Comp) → b ≤ c → Agrees b t m → Agrees c t m
weaker b c t m le a = record {
  enough = a.enough;
  fits = a.fits;
  slow = λ low f s. a.slow low f (omega (arith, s, le));
}

fits_counted : (x : Final) (out : List Shown) (t : Report) → Fits x out t → Fits x out (counted t)
fits_counted Running out t h = h
fits_counted Outside out t h = h
fits_counted (HaltedWith v) out t h = h
fits_counted Failed out t h = h

-- a tick gives a credit of 200 instructions
pub ticked : (c : ℕ) (t : Trace) (m : Comp) → Agrees (c + 200) t m → Agrees c t (tick m)
ticked c t m a = record { enough = suc a.enough; fits = fits; slow = slow }
  where
    fits : (low : Option ℕ) (f : ℕ) → suc a.enough ≤ f → Fits t.final t.out (tick m low f t.items)
    fits low zero e = absurd (omega (arith, e))
    fits low (suc f) e = fits_counted t.final t.out (m low f t.items) (a.fits low f (omega (arith, e)))

    slow : (low : Option ℕ) (f : ℕ) → f * 200 + c < t.weight → ((tick m low f t.items).end ≡ OutOfFuel)
        × Prefix (events_of (tick m low f t.items)) t.out
    slow low zero s = (refl, (t.out, refl))
    slow low (suc f) s = a.slow low f (omega (arith, s))

pub ticked_many : (n c : ℕ) (t : Trace) (m : Comp) → Agrees (c + n * 200) t m → Agrees c t (ticks n m)
ticked_many zero c t m a = subst (λ x. Agrees x t m) (let e : c + 0 * 200 ≡ c = omega arith in e) a
ticked_many (suc n) c t m a =
    ticked c t (ticks n m)
    (ticked_many n (c + 200) t m
    (subst (λ x. Agrees x t m) (let e : c + suc n * 200 ≡ c + 200 + n * 200 = omega arith in e) a))

-- whatever was wiped
pub wiped : (n c : ℕ) (t : Trace) (m : Comp) → Agrees c t m → Agrees c t (wipes n m)
wiped n c t m a = record { enough = a.enough; fits = λ low f e. a.fits _ f e; slow = λ low f s. a.slow _ f s }

-- an instruction that isn't seen
pub unseen : (n c : ℕ) (t : Trace) (m : Comp) → Agrees c t m → Agrees (n + c) (shown [] [] n t) m
unseen n c t m a =
    record { enough = a.enough; fits = a.fits; slow = λ low f s. a.slow low f (omega (arith, s)) }

fits_said : (x : Final) (out : List Shown) (e : Event) (t : Report) → Fits x out t
    → Fits x (shown_of e ∷ out) (said e t)
fits_said Running out e t h = (h.0, ap (λ es. shown_of e ∷ es) h.1)
fits_said Outside out e t h = (h.0, ap (λ es. shown_of e ∷ es) h.1)
fits_said (HaltedWith v) out e t h = (h.0, h.1, h.2, ap (λ es. shown_of e ∷ es) h.3)
fits_said Failed out e t h = (h.0, ap (λ es. shown_of e ∷ es) h.1)

-- one that is an outgoing event, which shows the same whatever was wiped
pub seen : (n c : ℕ) (e : Option ℕ → Event) (x : Shown) (t : Trace) (m : Comp)
    → ((low : Option ℕ) → shown_of (e low) ≡ x) → Agrees c t m
    → Agrees (n + c) (shown (x ∷ []) [] n t) (emit e m)
seen n c e x t m same a = record {
  enough = a.enough;
  fits = λ low f h. subst (λ z. Fits t.final (z ∷ t.out) (emit e m low f t.items)) (same low)
      (fits_said t.final t.out (e low) (m None f t.items) (a.fits None f h));
  slow = λ low f s. let r = a.slow None f (omega (arith, s)) in (r.0, (r.1.0, go low f r.1.0 r.1.1));
}
  where
    go : (low : Option ℕ) (f : ℕ) (rest : List Shown) → t.out ≡ events_of (m None f t.items) ++ rest
        → x ∷ t.out ≡ events_of (emit e m low f t.items) ++ rest
    go low f rest h = ap (λ es. x ∷ es) h ∙ ap (λ z. z ∷ (events_of (m None f t.items) ++ rest))
        (sym (same low))

-- one that takes an item of the feed
pub taken : (c : ℕ) (i : Thing) (t : Trace) (m : Comp) (k : Thing → Comp) → m ≡ take_item k
    → Agrees c t (k i) → Agrees c (shown [] (i ∷ []) 0 t) m
taken c i t m k e a = subst (Agrees c (shown [] (i ∷ []) 0 t)) (sym e) (record {
  enough = a.enough;
  fits = a.fits;
  slow = λ low f s. a.slow low f (omega (arith, s));
})

-- nothing left to run, inside trusted code
pub stopped : (c : ℕ) (m : Comp) → Agrees c (rests 0 Running) m
stopped c m = record {
  enough = 0;
  fits = λ low f h. (events_of (m low f []), refl);
  slow = λ low f s. absurd (omega (arith, s));
}

-- the run ends outside, or waits there
pub waits : (c : ℕ) (m : Comp) (k : Thing → Comp) → m ≡ take_item k → Agrees c (rests 0 Outside) m
waits c m k e = subst (Agrees c (rests 0 Outside)) (sym e) (record {
  enough = 0;
  fits = λ low f h. (refl, refl);
  slow = λ low f s. absurd (omega (arith, s));
})

pub fails : (c n : ℕ) → n ≤ c → Agrees c (rests n Failed) (ends Fails)
fails c n le =
    record { enough = 0; fits = λ low f h. (refl, refl); slow = λ low f s. absurd (omega (arith, s, le)) }

pub halts : (c n : ℕ) (w : Word) (v : ℤ) → w ≡ Int v → n ≤ c
    → Agrees c (rests n (HaltedWith w)) (ends (Halted v))
halts c n w v e le = record {
  enough = 0;
  fits = λ low f h. (v, e, refl, refl);
  slow = λ low f s. absurd (omega (arith, s, le));
}
