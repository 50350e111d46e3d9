-- Spans, and stretches, are known by what they allow.
use Rattle.std.proofs.Common.{◌≡◌, ℕ, zero, suc, Bool, true, false, ◌&&◌, ◌||◌, List, [], ◌∷◌, refl, sym}
use Rattle.std.proofs.Common.{ap, ◌∙◌, arith}
use Rattle.std.specs.Prelude.{nat_le, Option, Some, None, is_some, if◌then◌else◌}
use Rattle.std.proofs.lemmas.Bool.{and_parts, leb-true}
use Rattle.std.proofs.Math.Bool.{and-false}
use Rattle.authority_report.specs.declared.spans.Rights.{Rights}
use Rattle.authority_report.specs.declared.spans.ReachSpan.{ReachSpan}
use Rattle.authority_report.specs.declared.set.Stretch.{Stretch}
use Rattle.authority_report.specs.Spans.{rights_of, allows, span_has, any_right, AreTidy}
use Rattle.authority_report.specs.Takes.{is_left}
use Rattle.authority_report.specs.Stretches.{AreStretches}
use Rattle.authority_report.proofs.OneList.{said, Next, InOrder, one_list, before_next}

-- ---- spans

abbrev span_said : List ReachSpan → ℕ → Option Rights
span_said rs a = said (λ r. r.base) (λ r. r.end) rights_of rs a

abbrev SpansInOrder : List ReachSpan → Type 0
SpansInOrder rs = InOrder (λ r. r.base) (λ r. r.end) rights_of rs

tidy_rest : (r : ReachSpan) (rs : List ReachSpan) → AreTidy (r ∷ rs) → AreTidy rs
tidy_rest r rs t = record {
  each = λ k d l. t.each (suc k) d (omega (arith, l));
  apart = λ i j d lt l. t.apart (suc i) (suc j) d (omega (arith, lt)) (omega (arith, l));
}

tidy_next : (r : ReachSpan) (rs : List ReachSpan) → AreTidy (r ∷ rs)
    → Next (λ r. r.base) (λ r. r.end) rights_of r rs
tidy_next r [] t = tt
tidy_next r (q ∷ qs) t = let b = t.apart zero (suc zero) r (omega arith) (omega arith) in (b.below, b.maximal)

tidy_in_order : (rs : List ReachSpan) → AreTidy rs → SpansInOrder rs
tidy_in_order [] t = tt
tidy_in_order (r ∷ rs) t = (
  (t.each zero r (omega arith)).some,
  tidy_next r rs t,
  tidy_in_order rs (tidy_rest r rs t),
)

right_in : (Rights → Bool) → Option Rights → Bool
right_in right None = false
right_in right (Some f) = right f

alone : (b : Bool) → ((b && true) || false) ≡ b
alone true = refl
alone false = refl

head_says : (right : Rights → Bool) (f : Rights) (b others : Bool) (o : Option Rights)
    → others ≡ right_in right o → (b ≡ true → o ≡ None)
    → ((right f && b) || others) ≡ right_in right (if b then Some f else o)
unfolding right_in
head_says right f true others o h none = ap (λ x. (right f && true) || x) (h
    ∙ ap (right_in right) (none refl)) ∙ alone (right f)
head_says right f false others o h none = ap (λ x. x || others) (and-false (right f)) ∙ h

allows_said : (right : Rights → Bool) (rs : List ReachSpan) (a : ℕ) → SpansInOrder rs
    → allows right rs a ≡ right_in right (span_said rs a)
unfolding right_in
allows_said right [] a o = refl
allows_said right (r ∷ rs) a o = head_says right (rights_of r) (span_has r a) (allows right rs a)
    (span_said rs a) (allows_said right rs a o.2)
    (λ e. before_next (λ r. r.base) (λ r. r.end) rights_of r rs a o
    (leb-true a r.end (and_parts (nat_le r.base a) (nat_le a r.end) e).1))

-- what is said has a right
AnyIn : Option Rights → Type 0
AnyIn None = Unit {0}
AnyIn (Some f) = any_right f ≡ true

said_any : (rs : List ReachSpan) (a : ℕ) → AreTidy rs → AnyIn (span_said rs a)
unfolding AnyIn
said_any [] a t = tt
said_any (r ∷ rs) a t = by_test (span_has r a) (said_any rs a (tidy_rest r rs t))
    ((t.each zero r (omega arith)).right)
  where
    by_test : (b : Bool) → AnyIn (span_said rs a) → any_right (rights_of r) ≡ true
        → AnyIn (if b then Some (rights_of r) else span_said rs a)
    by_test true h e = e
    by_test false h e = h

none_any : (r w x : Bool) → false ≡ r → false ≡ w → false ≡ x → (r || (w || x)) ≡ true → ⊥
none_any true w x a b c e = cc
none_any false true x a b c e = cc
none_any false false true a b c e = cc
none_any false false false a b c e = cc

same_rights : (f g : Rights) → f.read ≡ g.read → f.write ≡ g.write → f.run ≡ g.run → f ≡ g
same_rights f g a b c = ap (λ (x : Bool). record { read = x; write = f.write; run = f.run }) a
    ∙ ap (λ (x : Bool). record { read = g.read; write = x; run = f.run }) b
    ∙ ap (λ (x : Bool). record { read = g.read; write = g.write; run = x }) c

one_said : (o p : Option Rights) → AnyIn o → AnyIn p → right_in (λ f. f.read) o ≡ right_in (λ f. f.read) p
    → right_in (λ f. f.write) o ≡ right_in (λ f. f.write) p
    → right_in (λ f. f.run) o ≡ right_in (λ f. f.run) p → o ≡ p
unfolding right_in AnyIn
one_said None None x y a b c = refl
one_said None (Some g) x y a b c = absurd (none_any g.read g.write g.run a b c y)
one_said (Some f) None x y a b c = absurd (none_any f.read f.write f.run (sym a) (sym b) (sym c) x)
one_said (Some f) (Some g) x y a b c = ap Some (same_rights f g a b c)

same_span : (x y : ReachSpan) → x.base ≡ y.base → x.end ≡ y.end → rights_of x ≡ rights_of y → x ≡ y
same_span x y a b c =
    ap (λ n. record x { base = n }) a ∙ ap (λ n. record x { base = y.base; end = n }) b
    ∙ ap (λ (r : Rights). record { base = y.base; end = y.end; read = r.read; write = r.write; run = r.run })
    c

pub one_spans : (rs qs : List ReachSpan) → AreTidy rs → AreTidy qs
    → ((a : ℕ) → allows (λ f. f.read) rs a ≡ allows (λ f. f.read) qs a)
    → ((a : ℕ) → allows (λ f. f.write) rs a ≡ allows (λ f. f.write) qs a)
    → ((a : ℕ) → allows (λ f. f.run) rs a ≡ allows (λ f. f.run) qs a)
    → rs ≡ qs
one_spans rs qs t u read write run =
    let o = tidy_in_order rs t in
    let p = tidy_in_order qs u in
    one_list (λ r. r.base) (λ r. r.end) rights_of same_span rs qs o p (λ a.
    one_said (span_said rs a) (span_said qs a) (said_any rs a t) (said_any qs a u)
    (sym (allows_said (λ f. f.read) rs a o) ∙ read a ∙ allows_said (λ f. f.read) qs a p)
    (sym (allows_said (λ f. f.write) rs a o) ∙ write a ∙ allows_said (λ f. f.write) qs a p)
    (sym (allows_said (λ f. f.run) rs a o) ∙ run a ∙ allows_said (λ f. f.run) qs a p))

-- ---- stretches

abbrev left_said : List Stretch → ℕ → Option Bool
left_said ss a = said (λ s. s.base) (λ s. s.end) (λ s. true) ss a

apart_rest : (s : Stretch) (ss : List Stretch) → AreStretches (s ∷ ss) → AreStretches ss
apart_rest s ss t = record {
  each = λ k d l. t.each (suc k) d (omega (arith, l));
  apart = λ i j d lt l. t.apart (suc i) (suc j) d (omega (arith, lt)) (omega (arith, l));
}

apart_next : (s : Stretch) (ss : List Stretch) → AreStretches (s ∷ ss)
    → Next (λ s. s.base) (λ s. s.end) (λ s. true) s ss
apart_next s [] t = tt
apart_next s (q ∷ qs) t = let b = t.apart zero (suc zero) s (omega arith) (omega arith) in
    (omega (arith, b), λ j l. omega (arith, b, j))

apart_in_order : (ss : List Stretch) → AreStretches ss → InOrder (λ s. s.base) (λ s. s.end) (λ s. true) ss
apart_in_order [] t = tt
apart_in_order (s ∷ ss) t = (
  (t.each zero s (omega arith)).some,
  apart_next s ss t,
  apart_in_order ss (apart_rest s ss t),
)

is_left_said : (ss : List Stretch) (a : ℕ) → is_left ss a ≡ is_some (left_said ss a)
is_left_said [] a = refl
is_left_said (s ∷ ss) a = by_test (nat_le s.base a && nat_le a s.end) (is_left_said ss a)
  where
    by_test : (b : Bool) → is_left ss a ≡ is_some (left_said ss a)
        → (b || is_left ss a) ≡ is_some (if b then Some true else left_said ss a)
    by_test true h = refl
    by_test false h = h

said_true : (ss : List Stretch) (a : ℕ) (b : Bool) → left_said ss a ≡ Some b → b ≡ true
said_true [] a b e = absurd cc
said_true (s ∷ ss) a b e = by_test (nat_le s.base a && nat_le a s.end) (said_true ss a b) e
  where
    by_test : (c : Bool) → (left_said ss a ≡ Some b → b ≡ true)
        → (if c then Some true else left_said ss a) ≡ Some b → b ≡ true
    by_test true h e = cc
    by_test false h e = h e

one_left : (o p : Option Bool) → ((b : Bool) → o ≡ Some b → b ≡ true) → ((b : Bool) → p ≡ Some b → b ≡ true)
    → is_some o ≡ is_some p → o ≡ p
one_left None None x y e = refl
one_left None (Some b) x y e = absurd cc
one_left (Some b) None x y e = absurd cc
one_left (Some b) (Some c) x y e = ap Some (x b refl ∙ sym (y c refl))

same_stretch : (x y : Stretch) → x.base ≡ y.base → x.end ≡ y.end → true ≡ true → x ≡ y
same_stretch x y a b c = ap (λ (n : ℕ). record { base = n; end = x.end }) a
    ∙ ap (λ (n : ℕ). record { base = y.base; end = n }) b

pub one_stretches : (rs qs : List Stretch) → AreStretches rs → AreStretches qs
    → ((a : ℕ) → is_left rs a ≡ is_left qs a) → rs ≡ qs
one_stretches rs qs t u h = one_list (λ s. s.base) (λ s. s.end) (λ s. true) same_stretch rs qs
    (apart_in_order rs t) (apart_in_order qs u) (λ a.
    one_left (left_said rs a) (left_said qs a) (said_true rs a) (said_true qs a) (sym (is_left_said rs a)
    ∙ h a ∙ is_left_said qs a))
