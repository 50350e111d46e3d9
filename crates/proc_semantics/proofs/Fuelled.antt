-- The meaning with more fuel.
use Rattle.std.proofs.Common.{◌≡◌, ℕ, zero, suc, ◌+◌, ◌<◌, ◌≤◌, inl, inr, ⊎_elim, List, [], ◌∷◌}
use Rattle.std.proofs.Common.{length, map, refl, sym, ap, ◌∙◌, subst, arith}
use Rattle.source_events.specs.declared.Item.{Item}
use Rattle.source_events.specs.declared.End.{End}
use Rattle.source_events.specs.declared.End.TheVariants.{Halt as Halted, Fail, Waiting, OutOfFuel}
use Rattle.source_events.specs.declared.Told.{Told}
use Rattle.proc_semantics.specs.Told.{Comp, tick, counted, said, take_item}
use Rattle.proc_semantics.specs.Values.{World, main_target}
use Rattle.proc_semantics.specs.Meaning.{meaning, plain_domain}
use Rattle.proc_semantics.specs.Fuel.{Later, Within, EndsWith, FuelLaws}
use Rattle.proc_semantics.proofs.Congruence.{IsKept, kin_by}
use Rattle.proc_semantics.proofs.Kin.{starts_kept}
use Rattle.proc_semantics.proofs.Recursive.{enough}

-- ---- more fuel

record Fuller (b : ℕ) (m m' : Comp) : Type 0 where
  is : (f e : ℕ) (feed : List Item) → f + e + length feed < b → Later f (m f feed) (m' (f + e) feed)

later_counted : (f : ℕ) (t t' : Told) → Later f t t' → Later (suc f) (counted t) (counted t')
later_counted f t t' h =
    ⊎_elim (λ h. inl (ap counted h))
    (λ h.
    let e : t.ticks + 1 ≡ suc f = omega (arith, h.1) in
    let more : suc f < t'.ticks + 1 = omega (arith, h.2) in
    inr (h.0, e, more, h.3)) h

fuller_tick : (b : ℕ) (m m' : Comp) → Fuller b m m' → Fuller (suc b) (tick m) (tick m')
fuller_tick b m m' s = record { is = is }
  where
    is : (f e : ℕ) (feed : List Item) → f + e + length feed < suc b
        → Later f (tick m f feed) (tick m' (f + e) feed)
    is zero zero feed lt =
        let n : zero + zero ≡ zero = omega arith in
        subst (λ x. Later zero (tick m zero feed) (tick m' x feed)) (sym n) (inl refl)
    is zero (suc e) feed lt =
        let n : zero + suc e ≡ suc e = omega arith in
        let more : zero < (m' e feed).ticks + 1 = omega arith in
        subst (λ x. Later zero (tick m zero feed) (tick m' x feed)) (sym n)
        (inr (refl, refl, more, (_, refl)))
    is (suc f) e feed lt =
        let n : suc f + e ≡ suc (f + e) = omega arith in
        subst (λ x. Later (suc f) (counted (m f feed)) (tick m' x feed)) (sym n)
        (later_counted f (m f feed) (m' (f + e) feed) (s.is f e feed (omega (arith, lt))))

fuller_take : (b : ℕ) (k k' : Item → Comp) → ((i : Item) → Fuller b (k i) (k' i))
    → Fuller (suc b) (take_item k) (take_item k')
fuller_take b k k' s = record { is = is }
  where
    is : (f e : ℕ) (feed : List Item) → f + e + length feed < suc b
        → Later f (take_item k f feed) (take_item k' (f + e) feed)
    is f e [] lt = inl refl
    is f e (i ∷ feed) lt = (s i).is f e feed (omega (arith, lt))

fuller_kept : IsKept Fuller
fuller_kept = record {
  failing = λ b. record { is = λ f e feed lt. inl refl };
  halting = λ b v. record { is = λ f e feed lt. inl refl };
  ticking = fuller_tick;
  emitting = λ b x m m' s. record {
    is = λ f e feed lt. ⊎_elim (λ h. inl (ap (said x) h))
        (λ h. inr (h.0, h.1, h.2, (h.3.0, ap (λ xs. x ∷ xs) h.3.1))) (s.is f e feed lt);
  };
  taking = fuller_take;
  less = λ b c m m' le s. record { is = λ f e feed lt. s.is f e feed (omega (arith, lt, le)) };
  none = λ m m'. record { is = λ f e feed lt. absurd (omega (arith, lt)) };
}

later : (world : World) (stack : ℕ) (feed : List Item) (f e : ℕ)
    → Later f (meaning world stack feed f) (meaning world stack feed (f + e))
later world stack feed f e =
    let n = f + e + length feed + 1 in
    subst (λ t. Later f t (meaning world stack feed (f + e))) (enough world stack feed f n (omega arith))
    ((starts_kept plain_domain plain_domain (kin_by Fuller fuller_kept) world n stack n n (main_target world)
    (map (λ u. u.globals) world) (omega arith) (omega arith)).is f e feed (omega arith))

-- ---- no more ticks than the fuel

record Fits (b : ℕ) (m m' : Comp) : Type 0 where
  is : (f : ℕ) (feed : List Item) → f + length feed < b → Within f (m f feed)

fits_tick : (b : ℕ) (m m' : Comp) → Fits b m m' → Fits (suc b) (tick m) (tick m')
fits_tick b m m' s = record { is = is }
  where
    is : (f : ℕ) (feed : List Item) → f + length feed < suc b → Within f (tick m f feed)
    is zero feed lt = (omega arith, λ e. refl)
    is (suc f) feed lt =
        let h = s.is f feed (omega (arith, lt)) in
        (omega (arith, h.0), λ e. omega (arith, h.1 e))

abbrev IsOut : End → Type 0
IsOut (Halted v) = ⊥
IsOut Fail = ⊥
IsOut Waiting = ⊥
IsOut OutOfFuel = Unit {0}

not_out : (e : End) → (IsOut e → ⊥) → e ≡ OutOfFuel → ⊥
not_out e never is = never (subst IsOut (sym is) tt)

fits_take : (b : ℕ) (k k' : Item → Comp) → ((i : Item) → Fits b (k i) (k' i))
    → Fits (suc b) (take_item k) (take_item k')
fits_take b k k' s = record { is = is }
  where
    is : (f : ℕ) (feed : List Item) → f + length feed < suc b → Within f (take_item k f feed)
    is f [] lt = (omega arith, λ e. absurd (not_out Waiting (λ x. x) e))
    is f (i ∷ feed) lt = (s i).is f feed (omega (arith, lt))

fits_kept : IsKept Fits
fits_kept = record {
  failing = λ b. record { is = λ f feed lt. (omega arith, λ e. absurd (not_out Fail (λ x. x) e)) };
  halting = λ b v. record { is = λ f feed lt. (omega arith, λ e. absurd (not_out (Halted v) (λ x. x) e)) };
  ticking = fits_tick;
  emitting = λ b x m m' s. record { is = λ f feed lt. s.is f feed lt };
  taking = fits_take;
  less = λ b c m m' le s. record { is = λ f feed lt. s.is f feed (omega (arith, lt, le)) };
  none = λ m m'. record { is = λ f feed lt. absurd (omega (arith, lt)) };
}

within : (world : World) (stack : ℕ) (feed : List Item) (f : ℕ) → Within f (meaning world stack feed f)
within world stack feed f =
    let n = f + length feed + 1 in
    (starts_kept plain_domain plain_domain (kin_by Fits fits_kept) world n stack n n (main_target world)
    (map (λ u. u.globals) world) (omega arith) (omega arith)).is f feed (omega arith)

-- ---- the end

lasting : (world : World) (stack : ℕ) (feed : List Item) (t : Told) (x : EndsWith world stack feed t) (e : ℕ)
    → meaning world stack feed (x.fuel + e) ≡ t
lasting world stack feed t x e =
    ⊎_elim (λ same. sym same ∙ x.told) (λ out. absurd (x.ended (sym (ap (λ t. t.end) x.told) ∙ out.0)))
    (later world stack feed x.fuel e)

one : (world : World) (stack : ℕ) (feed : List Item) (t u : Told) → EndsWith world stack feed t
    → EndsWith world stack feed u → t ≡ u
one world stack feed t u x y =
    let c : x.fuel + y.fuel ≡ y.fuel + x.fuel = omega arith in
    sym (lasting world stack feed t x y.fuel) ∙ ap (meaning world stack feed) c
    ∙ lasting world stack feed u y x.fuel

exact : (world : World) (stack : ℕ) (feed : List Item) (t : Told) → EndsWith world stack feed t → (f : ℕ)
    → (t.ticks ≤ f → meaning world stack feed f ≡ t)
    × (f < t.ticks → (meaning world stack feed f).end ≡ OutOfFuel)
exact world stack feed t x f =
    let c : f + x.fuel ≡ x.fuel + f = omega arith in
    let told : meaning world stack feed (f + x.fuel) ≡ t =
    ap (meaning world stack feed) c ∙ lasting world stack feed t x f in
    let more : Later f (meaning world stack feed f) t =
    subst (Later f (meaning world stack feed f)) told (later world stack feed f x.fuel) in
    let few = (within world stack feed f).0 in (
      λ le. ⊎_elim (λ same. same) (λ out. absurd (omega (arith, out.2, le))) more,
      λ lt. ⊎_elim (λ same. absurd (omega (arith, lt, few, ap (λ t. t.ticks) same))) (λ out. out.0) more,
    )

pub fuel_laws : FuelLaws
fuel_laws = record { within = within; later = later; lasting = lasting; one = one; exact = exact }
