-- The first of faults, part by part.
use Rattle.std.proofs.Common.{◌≡◌, ℕ, ◌==◌, nat_lt, nat_le, Bool, true, false, ◌&&◌, ◌||◌}
use Rattle.std.proofs.Common.{if◌then◌else◌, refl, sym, ◌∙◌, ap, List, [], ◌∷◌, ◌++◌, Option, Some, None}
use Rattle.std.proofs.Common.{arith, get_or, suc, IsTrue, subst, ap₂}
use Rattle.std.proofs.lemmas.List.Elements.{All-cons}
use Rattle.std.specs.Prelude.{All, Contains}
use Rattle.std.proofs.lemmas.Bool.Decides.{nat_tests}
use Rattle.proc_names.specs.declared.fault.NameFault.{NameFault}
use Rattle.proc_names.specs.Faults.{comes_first, earlier, first, fault_place, fault_number, IsFirstFault}

abbrev before : ℕ → ℕ → ℕ → ℕ → Bool
before a b c d = nat_lt a c || ((a == c) && nat_le b d)

before_trans : (a b c d e f : ℕ) → before a b c d ≡ true → before c d e f ≡ true → before a b e f ≡ true
before_trans a b c d e f h k = grind (arith, nat_tests)

after_trans : (a b c d e f : ℕ) → before a b c d ≡ false → before c d e f ≡ false → before a b e f ≡ false
after_trans a b c d e f h k = grind (arith, nat_tests)

first_trans : (f g h : NameFault) → comes_first f g ≡ true → comes_first g h ≡ true → comes_first f h ≡ true
unfolding comes_first
first_trans f g h p q = before_trans _ _ (fault_place g) (fault_number g) _ _ p q

last_trans : (f g h : NameFault) → comes_first f g ≡ false → comes_first g h ≡ false → comes_first f h ≡ false
unfolding comes_first
last_trans f g h p q = after_trans _ _ (fault_place g) (fault_number g) _ _ p q

abbrev two : NameFault → NameFault → NameFault
two f g = if comes_first f g then f else g

two_assoc : (f g h : NameFault) → two (two f g) h ≡ two f (two g h)
two_assoc f g h = by (comes_first f g) refl (comes_first g h) refl (comes_first f h) refl
  where
    by : (a : Bool) → comes_first f g ≡ a → (b : Bool) → comes_first g h ≡ b
        → (c : Bool) → comes_first f h ≡ c → two (two f g) h ≡ two f (two g h)
    by true p true q true r = grind arith
    by true p true q false r = grind (arith, first_trans f g h p q)
    by true p false q c r = grind arith
    by false p true q c r = grind arith
    by false p false q true r = grind (arith, last_trans f g h p q)
    by false p false q false r = grind arith

some_two : (f g : NameFault) → earlier (Some f) (Some g) ≡ Some (two f g)
some_two f g = by (comes_first f g)
  where
    by : (b : Bool) → (if b then Some f else Some g) ≡ Some (if b then f else g)
    by true = refl
    by false = refl

pub earlier_assoc : (a b c : Option NameFault) → earlier (earlier a b) c ≡ earlier a (earlier b c)
earlier_assoc None b c = refl
earlier_assoc (Some f) None c = refl
earlier_assoc (Some f) (Some g) None = rw (some_two f g) refl
earlier_assoc (Some f) (Some g) (Some h) =
    ap (λ a. earlier a (Some h)) (some_two f g) ∙ some_two (two f g) h ∙ ap Some (two_assoc f g h)
    ∙ sym (ap (earlier (Some f)) (some_two g h) ∙ some_two f (two g h))

-- of two parts, the first of the whole is the earlier of the two
pub first-append : (fs gs : List NameFault) → first (fs ++ gs) ≡ earlier (first fs) (first gs)
first-append [] gs = refl
first-append (f ∷ fs) gs =
    ap (earlier (Some f)) (first-append fs gs) ∙ sym (earlier_assoc (Some f) (first fs) (first gs))

pub earlier_none : (a : Option NameFault) → earlier a None ≡ a
earlier_none None = refl
earlier_none (Some f) = refl

-- what was found in two parts
pub found_both : {found here there : Option NameFault} (fs gs : List NameFault) → found ≡ earlier here there
    → here ≡ first fs → there ≡ first gs → found ≡ first (fs ++ gs)
found_both fs gs is one other = is ∙ ap₂ earlier one other ∙ sym (first-append fs gs)

-- the same faults by another name
pub found_as : {found : Option NameFault} {fs gs : List NameFault} → found ≡ first fs → fs ≡ gs
    → found ≡ first gs
found_as one same = one ∙ ap first same

-- one part more
pub first_step : (found : Option NameFault) (fs gs : List NameFault)
    → earlier (earlier found (first fs)) (first gs) ≡ earlier found (first (fs ++ gs))
first_step found fs gs =
    earlier_assoc found (first fs) (first gs) ∙ ap (earlier found) (sym (first-append fs gs))

pub ruleset firsts = (first-append, earlier_none, first_step)

-- ---- what it is that a fault is the first

before_self : (a b : ℕ) → before a b a b ≡ true
before_self a b = grind (arith, nat_tests)

before_else : (a b c d : ℕ) → before a b c d ≡ false → before c d a b ≡ true
before_else a b c d h = grind (arith, nat_tests)

first_self : (f : NameFault) → comes_first f f ≡ true
unfolding comes_first
first_self f = before_self (fault_place f) (fault_number f)

first_else : (f g : NameFault) → comes_first f g ≡ false → comes_first g f ≡ true
unfolding comes_first
first_else f g h = before_else (fault_place f) (fault_number f) (fault_place g) (fault_number g) h

-- ---- the first of all

Contains-here : {A : Type 0} (x : A) (xs : List A) → Contains (x ∷ xs) x
Contains-here x xs = (0, omega arith, refl)

Contains-behind : {A : Type 0} (y : A) (xs : List A) (x : A) → Contains xs x → Contains (y ∷ xs) x
Contains-behind y xs x (k, within, is) = (suc k, omega (arith, within), is)

-- what comes before the first comes before all
all_behind : (f g : NameFault) (fs : List NameFault) → comes_first f g ≡ true
    → All (λ h. IsTrue (comes_first g h)) fs → All (λ h. IsTrue (comes_first f h)) fs
all_behind f g fs e each = λ k d h. first_trans f g (get_or fs k d) e (each k d h)

-- there is no first of none alone
pub first_none : (fs : List NameFault) → first fs ≡ None → fs ≡ []
first_none [] h = refl
first_none (f ∷ fs) h = absurd (no (first fs) h)
  where
    no : (found : Option NameFault) → earlier (Some f) found ≡ None → ⊥
    no None e = cc
    no (Some g) e = let k : Some (two f g) ≡ None = sym (some_two f g) ∙ e in cc

module _ (g : NameFault) (fs : List NameFault) (f : NameFault) where
  chosen : (k : NameFault) → IsFirstFault fs k → (b : Bool) → comes_first g k ≡ b → (if b then g else k) ≡ f
      → IsFirstFault (g ∷ fs) f
  chosen k before true c is =
      subst (IsFirstFault (g ∷ fs)) is (record {
        one = Contains-here g fs;
        least = All-cons (λ h. IsTrue (comes_first g h)) g fs (first_self g)
            (all_behind g k fs c before.least);
      })
  chosen k before false c is =
      subst (IsFirstFault (g ∷ fs)) is (record {
        one = Contains-behind g fs k before.one;
        least = All-cons (λ h. IsTrue (comes_first k h)) g fs (first_else g k c) before.least;
      })

  among : (found : Option NameFault) → first fs ≡ found
      → ((k : NameFault) → first fs ≡ Some k → IsFirstFault fs k)
      → earlier (Some g) found ≡ Some f → IsFirstFault (g ∷ fs) f
  among None e behind is =
      let same : g ≡ f = cc in
      let none : fs ≡ [] = first_none fs e in
      let before_none : All (λ h. IsTrue (comes_first g h)) fs =
      subst (All (λ h. IsTrue (comes_first g h))) (sym none) (λ k d h. absurd (omega (arith, h))) in
      subst (IsFirstFault (g ∷ fs)) same (record {
        one = Contains-here g fs;
        least = All-cons (λ h. IsTrue (comes_first g h)) g fs (first_self g) before_none;
      })
  among (Some k) e behind is =
      let same : Some (two g k) ≡ Some f = sym (some_two g k) ∙ is in
      let same_too : two g k ≡ f = cc in
      chosen k (behind k e) (comes_first g k) refl same_too

-- what is answered is the first
pub is_first : (fs : List NameFault) (f : NameFault) → first fs ≡ Some f → IsFirstFault fs f
is_first [] f h = absurd (let k : None ≡ Some f = h in cc)
is_first (g ∷ fs) f h = among g fs f (first fs) refl (λ k e. is_first fs k e) h
