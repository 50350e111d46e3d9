-- Many ticks at once, and what was told before.
use Rattle.std.proofs.Common.{◌≡◌, ℕ, zero, suc, ◌+◌, ◌-◌, ◌<◌, ◌≤◌, List, [], ◌∷◌, ◌++◌, refl}
use Rattle.std.proofs.Common.{sym, ap, ap₂, ◌∙◌, arith}
use Rattle.std.proofs.lemmas.List.{append_assoc}
use Rattle.source_events.specs.declared.Item.{Item}
use Rattle.source_events.specs.declared.OutEvent.{OutEvent}
use Rattle.source_events.specs.declared.End.{End}
use Rattle.source_events.specs.declared.End.TheVariants.{OutOfFuel, Waiting}
use Rattle.source_events.specs.declared.Told.{Told}
use Rattle.proc_semantics.specs.Told.{Comp, ends, ticks, counted, emit, take_item}
use Rattle.proc_meaning.specs.Rest.{more}

no_more : (xs : List OutEvent) → xs ≡ xs ++ []
no_more [] = refl
no_more (x ∷ xs) = ap (λ l. x ∷ l) (no_more xs)

abbrev at_once : ℕ → Told → Told
at_once k t = record { events = t.events; end = t.end; ticks = t.ticks + k }

pub too_many : (k f : ℕ) (m : Comp) (feed : List Item) → f < k → ticks k m f feed
    ≡ record { events = []; end = OutOfFuel; ticks = f }
too_many zero f m feed lt = absurd (omega (arith, lt))
too_many (suc k) zero m feed lt = refl
too_many (suc k) (suc f) m feed lt =
    ap counted (too_many k f m feed (omega (arith, lt)))
    ∙ (let e : f + 1 ≡ suc f = omega arith in
    ap (λ n. let t : Told = record { events = []; end = OutOfFuel; ticks = n } in t) e)

pub enough_for : (k f : ℕ) (m : Comp) (feed : List Item) → k ≤ f → ticks k m f feed
    ≡ at_once k (m (f - k) feed)
enough_for zero f m feed le =
    let e : f ≡ f - 0 = omega arith in
    let z : (m (f - 0) feed).ticks ≡ (m (f - 0) feed).ticks + 0 = omega arith in
    ap (λ n. m n feed) e
    ∙ ap (λ n. let t : Told = record {
      events = (m (f - 0) feed).events;
      end = (m (f - 0) feed).end;
      ticks = n;
    } in t) z
enough_for (suc k) zero m feed le = absurd (omega (arith, le))
enough_for (suc k) (suc f) m feed le =
    let s : f - k ≡ suc f - suc k = omega arith in
    let n : (m (suc f - suc k) feed).ticks + k + 1 ≡ (m (suc f - suc k) feed).ticks + suc k = omega arith in
    ap counted (enough_for k f m feed (omega (arith, le)))
    ∙ ap (λ x. counted (at_once k (m x feed))) s
    ∙ ap (λ n. let t : Told = record {
      events = (m (suc f - suc k) feed).events;
      end = (m (suc f - suc k) feed).end;
      ticks = n;
    } in t) n

module _ (fuel : ℕ) (total : Told) where
  pub went : (m m' : Comp) (xs : List OutEvent) (left : ℕ) (feed : List Item) → m ≡ m'
      → more xs (fuel - left) (m left feed) ≡ total → more xs (fuel - left) (m' left feed) ≡ total
  went m m' xs left feed e h = ap (λ (x : Comp). more xs (fuel - left) (x left feed)) (sym e) ∙ h

  pub went_ticks : (k : ℕ) (m m' : Comp) (xs : List OutEvent) (left : ℕ) (feed : List Item) → k ≤ left
      → left ≤ fuel → m ≡ ticks k m' → more xs (fuel - left) (m left feed) ≡ total
      → more xs (fuel - (left - k)) (m' (left - k) feed) ≡ total
  went_ticks k m m' xs left feed le lf e h =
      let t = m' (left - k) feed in
      let n : t.ticks + (fuel - (left - k)) ≡ t.ticks + k + (fuel - left) = omega (arith, le, lf) in
      ap (λ n. let u : Told = record { events = xs ++ t.events; end = t.end; ticks = n } in u) n
      ∙ ap (more xs (fuel - left)) (sym (enough_for k left m' feed le))
      ∙ ap (λ (x : Comp). more xs (fuel - left) (x left feed)) (sym e) ∙ h

  pub ran_out : (k : ℕ) (m m' : Comp) (xs : List OutEvent) (left : ℕ) (feed : List Item) → left < k
      → left ≤ fuel → m ≡ ticks k m' → more xs (fuel - left) (m left feed) ≡ total
      → record { events = xs; end = OutOfFuel; ticks = fuel } ≡ total
  ran_out k m m' xs left feed lt lf e h =
      let n : fuel ≡ left + (fuel - left) = omega (arith, lf) in
      ap₂ (λ l n. let u : Told = record { events = l; end = OutOfFuel; ticks = n } in u) (no_more xs) n
      ∙ ap (more xs (fuel - left)) (sym (too_many k left m' feed lt))
      ∙ ap (λ (x : Comp). more xs (fuel - left) (x left feed)) (sym e) ∙ h

  pub went_said : (x : OutEvent) (m m' : Comp) (xs ys : List OutEvent) (left : ℕ) (feed : List Item)
      → ys ≡ xs ++ x ∷ [] → m ≡ emit x m' → more xs (fuel - left) (m left feed) ≡ total
      → more ys (fuel - left) (m' left feed) ≡ total
  went_said x m m' xs ys left feed is e h =
      let t = m' left feed in
      ap (λ l. let u : Told = record { events = l; end = t.end; ticks = t.ticks + (fuel - left) } in u)
      (ap (λ l. l ++ t.events) is ∙ append_assoc xs (x ∷ []) t.events)
      ∙ ap (λ (y : Comp). more xs (fuel - left) (y left feed)) (sym e) ∙ h

  pub stopped : (m : Comp) (x : End) (xs : List OutEvent) (left : ℕ) (feed : List Item) → m ≡ ends x
      → more xs (fuel - left) (m left feed) ≡ total → record { events = xs; end = x; ticks = fuel - left }
      ≡ total
  stopped m x xs left feed e h =
      let n : fuel - left ≡ 0 + (fuel - left) = omega arith in
      ap₂ (λ l n. let u : Told = record { events = l; end = x; ticks = n } in u) (no_more xs) n
      ∙ ap (λ (y : Comp). more xs (fuel - left) (y left feed)) (sym e) ∙ h

  pub none_left : (k : Item → Comp) (m : Comp) (xs : List OutEvent) (left : ℕ) (feed : List Item) → feed ≡ []
      → m ≡ take_item k → more xs (fuel - left) (m left feed) ≡ total
      → record { events = xs; end = Waiting; ticks = fuel - left } ≡ total
  none_left k m xs left feed z e h =
      let n : fuel - left ≡ 0 + (fuel - left) = omega arith in
      ap₂ (λ l n. let u : Told = record { events = l; end = Waiting; ticks = n } in u) (no_more xs) n
      ∙ ap (λ l. more xs (fuel - left) (take_item k left l)) (sym z)
      ∙ ap (λ (y : Comp). more xs (fuel - left) (y left feed)) (sym e) ∙ h

  pub took : (k : Item → Comp) (m m' : Comp) (i : Item) (xs : List OutEvent) (left : ℕ)
      (feed rest : List Item) → feed ≡ i ∷ rest → m ≡ take_item k → m' ≡ k i
      → more xs (fuel - left) (m left feed) ≡ total → more xs (fuel - left) (m' left rest) ≡ total
  took k m m' i xs left feed rest is e d h =
      ap (λ (y : Comp). more xs (fuel - left) (y left rest)) d
      ∙ ap (λ l. more xs (fuel - left) (take_item k left l)) (sym is)
      ∙ ap (λ (y : Comp). more xs (fuel - left) (y left feed)) (sym e) ∙ h

pub at_first : (xs : List OutEvent) (fuel : ℕ) (t : Told) → more xs (fuel - fuel) t ≡ more xs 0 t
at_first xs fuel t = let n : fuel - fuel ≡ 0 = omega arith in ap (λ n. more xs n t) n

pub none_more : (xs : List OutEvent) (t : Told) → xs ≡ [] → more xs 0 t ≡ t
none_more xs t e =
    let n : t.ticks + 0 ≡ t.ticks = omega arith in
    ap₂ (λ l n. let u : Told = record { events = l ++ t.events; end = t.end; ticks = n } in u) e n
