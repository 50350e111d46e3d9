-- What is found stays right while words are added, and is all once nothing is left.
use Rattle.std.proofs.Common.{Vec, Global, ◌≡◌, ◌⊎◌, ℕ, ◌+◌, ◌<◌, ◌≤◌, ℤ, Bool, true, false, ◌&&◌, ◌||◌, []}
use Rattle.std.proofs.Common.{◌∷◌, ◌++◌, refl, sym, ap, subst, ◌∙◌, arith, inl, inr, leb-true}
use Rattle.std.specs.Prelude.{nat_le, Some, None, if◌then◌else◌, pos}
use Rattle.std.proofs.lemmas.Bool.{cases_Bool, cases_eq, and_parts, le-leb, or_cases}
use Rattle.std.proofs.Math.Bool.{or-true}
use Rattle.std.proofs.lemmas.Bool.Decides.{nat_tests}
use Rattle.std.proofs.lemmas.List.Folds.{list_any-append}
use Rattle.cap_words.specs.declared.Word.{Word}
use Rattle.cap_words.specs.declared.Word.TheVariants.{Int, Mem, Seal, Sealed}
use Rattle.cap_words.specs.declared.Sealable.TheVariants.{Mem as MemIn, Seal as SealIn}
use Rattle.cap_words.specs.declared.CapFields.{CapFields}
use Rattle.cap_words.specs.declared.SealFields.{SealFields}
use Rattle.cap_words.specs.declared.Perm.{Perm}
use Rattle.cap_words.specs.Faces.{may_read, may_write, may_run}
use Rattle.lcm_isa.specs.declared.Reg.TheVariants.{Stk}
use Rattle.lcm_machine.specs.Maps.{State}
use Rattle.lcm_machine.specs.Places.{reg}
use Rattle.lcm_machine.specs.Cells.{cell}
use Rattle.linked_starts.specs.declared.owners.Owner.{Owner}
use Rattle.authority_report.specs.declared.set.Stretch.{Stretch}
use Rattle.authority_report.specs.Has.{has}
use Rattle.authority_report.specs.Takes.{is_left}
use Rattle.authority_report.proofs.TakesLemmas.{kept, fresh, only}
use Rattle.authority_report.specs.declared.found.Found.{Found}
use Rattle.authority_report.specs.Reaches.{is_seal_of, whole_code, whole_data, bare, Reaches, its_code}
use Rattle.authority_report.specs.Reaches.{its_data, the_stack, in_cell, opened, Allows, SealsWith}
use Rattle.authority_report.specs.Within.{CapWithin, SealsWithin, IsWithin}
use Rattle.authority_report.specs.declared.reach.Reach.{Reach}
use Rattle.authority_report.specs.Spans.{allows}
use Rattle.authority_report.specs.Report.{told_authority, IsJust}
use Rattle.authority_report.specs.SealRanges.{is_in}
use Rattle.authority_report.specs.Found.{bared, gives, gives_seal, IsEmpty, AddsWord, authority_of, IsSound}
use Rattle.authority_report.specs.Found.{IsClosedBut}
use Rattle.authority_report.proofs.ReachedWithin.{reached_within}

or_right : (x y z : Bool) → z ≡ (x || y) → y ≡ true → z ≡ true
or_right x y z e h = e ∙ ap (λ b. x || b) h ∙ or-true x

or_left : (x y z : Bool) → z ≡ (x || y) → x ≡ true → z ≡ true
or_left x y z e h = e ∙ ap (λ b. b || y) h

no : {X : Type 0} → {b : Bool} → b ≡ true → b ≡ false → X
no t f = absurd (let e : true ≡ false = sym t ∙ f in cc)

-- ---- what a word gives

module _ (m : State Word) (o : Owner) where
  gives_allows : (may : Perm → Bool) (w : Word) (a : ℕ) → Reaches m o w → gives may w a ≡ true
      → Allows m o may a
  gives_allows may (Int z) a r e = absurd cc
  gives_allows may (Seal q) a r e = absurd cc
  gives_allows may (Sealed n x) a r e = absurd cc
  gives_allows may (Mem c) a r e =
      let k = and_parts (may c.perm) (nat_le c.base a && nat_le a c.end) e in
      let l = and_parts (nat_le c.base a) (nat_le a c.end) k.1 in
      record { cap = c; reached = r; allowed = k.0; low = leb-true c.base a l.0; high = leb-true a c.end l.1 }

  gives_seals : (w : Word) (n : ℕ) → Reaches m o w → gives_seal w n ≡ true → SealsWith m o n
  gives_seals (Int z) n r e = absurd cc
  gives_seals (Mem c) n r e = absurd cc
  gives_seals (Sealed s x) n r e = absurd cc
  gives_seals (Seal q) n r e =
      let l = and_parts (nat_le q.base n) (nat_le n q.end) e in
      record { cap = q; reached = r; low = leb-true q.base n l.0; high = leb-true n q.end l.1 }

  -- a word without its own seal is reached with it, or gives nothing
  bared_reached : (w : Word) → Reaches m o w → Reaches m o (bared o w) ⊎ (bared o w ≡ Int (pos 0))
  bared_reached (Int z) r = inl r
  bared_reached (Mem c) r = inl r
  bared_reached (Seal q) r = inl r
  bared_reached (Sealed n x) r = by (is_seal_of o n) refl
    where
      by : (b : Bool) → is_seal_of o n ≡ b → Reaches m o (if b then bare x else Int (pos 0))
          ⊎ ((if b then bare x else Int (pos 0)) ≡ Int (pos 0))
      by true e = inl (opened n x r e)
      by false e = inr refl

  bared_allows : (may : Perm → Bool) (w : Word) (a : ℕ) → Reaches m o w → gives may (bared o w) a ≡ true
      → Allows m o may a
  bared_allows may w a r e = elim (bared_reached w r) as (λ _. Allows m o may a) [
    | inl k ↦ gives_allows may (bared o w) a k e
    | inr z ↦ (let f : false ≡ true = sym (ap (λ v. gives may v a) z) ∙ e in absurd cc)
  ]

  bared_seals : (w : Word) (n : ℕ) → Reaches m o w → gives_seal (bared o w) n ≡ true → SealsWith m o n
  bared_seals w n r e = elim (bared_reached w r) as (λ _. SealsWith m o n) [
    | inl k ↦ gives_seals (bared o w) n k e
    | inr z ↦ (let f : false ≡ true = sym (ap (λ v. gives_seal v n) z) ∙ e in absurd cc)
  ]

-- ---- more is found

module _ (o : Owner) (f g : Found) (w : Word) (adds : AddsWord f w g) where
  more_read : (a : ℕ) → has f.read a ≡ true → has g.read a ≡ true
  more_read a h = or_right _ _ _ (adds.read.taken a) h

  cap_grows : (c : CapFields) → CapWithin (authority_of o f) c → CapWithin (authority_of o g) c
  cap_grows c h = record {
    read = λ may a low high. more_read a (h.read may a low high);
    write = λ may a low high. or_right _ _ _ (adds.write a) (h.write may a low high);
    run = λ may a low high. or_right _ _ _ (adds.run a) (h.run may a low high);
  }

  seals_grow : (q : SealFields) → SealsWithin (authority_of o f) q → SealsWithin (authority_of o g) q
  seals_grow q h n low high = or_right _ _ _ (adds.seals n) (h n low high)

  grows : (v : Word) → IsWithin (authority_of o f) v → IsWithin (authority_of o g) v
  grows (Int z) h = tt
  grows (Mem c) h = cap_grows c h
  grows (Seal q) h = seals_grow q h
  grows (Sealed n (MemIn c)) h = λ e. cap_grows c (h e)
  grows (Sealed n (SealIn q)) h = λ e. seals_grow q (h e)

given : (may : Bool) (base end a : ℕ) → may ≡ true → base ≤ a → a ≤ end
    → (may && (nat_le base a && nat_le a end)) ≡ true
given may base end a m low high = rw (m, le-leb base a low, le-leb a end high) refl

module _ (o : Owner) (f g : Found) where
  cap_added : (c : CapFields) → AddsWord f (Mem c) g → CapWithin (authority_of o g) c
  cap_added c adds = record {
    read = λ m a low high. or_left _ _ _ (adds.read.taken a)
        (given (may_read c.perm) c.base c.end a m low high);
    write = λ m a low high. or_left _ _ _ (adds.write a) (given (may_write c.perm) c.base c.end a m low high);
    run = λ m a low high. or_left _ _ _ (adds.run a) (given (may_run c.perm) c.base c.end a m low high);
  }

  seals_added : (q : SealFields) → AddsWord f (Seal q) g → SealsWithin (authority_of o g) q
  seals_added q adds n low high = or_left (gives_seal (Seal q) n) (has f.seals n) (has g.seals n)
      (adds.seals n) (rw (le-leb q.base n low, le-leb n q.end high) refl)

  -- a word that was added is found
  pub word_added : (w : Word) → AddsWord f (bared o w) g → IsWithin (authority_of o g) w
  word_added (Int z) adds = tt
  word_added (Mem c) adds = cap_added c adds
  word_added (Seal q) adds = seals_added q adds
  word_added (Sealed n (MemIn c)) adds = λ e. cap_added c
      (subst (λ b. AddsWord f (if b then Mem c else Int (pos 0)) g) e adds)
  word_added (Sealed n (SealIn q)) adds = λ e. seals_added q
      (subst (λ b. AddsWord f (if b then Seal q else Int (pos 0)) g) e adds)

module _ (m : State Word) (o : Owner) (f g : Found) (w : Word) (r : Reaches m o w)
    (adds : AddsWord f (bared o w) g) where
  pub stays_sound : IsSound m o f → IsSound m o g
  stays_sound h = record {
    read = λ a e. elim (or_cases (gives may_read (bared o w) a) (has f.read a) (sym (adds.read.taken a)
        ∙ e)) as (λ _. Allows m o may_read a) [
          | inl n ↦ bared_allows m o may_read w a r n
          | inr n ↦
              h.read a n
        ];
    write = λ a e. elim (or_cases (gives may_write (bared o w) a) (has f.write a) (sym (adds.write a)
        ∙ e)) as (λ _. Allows m o may_write a) [
          | inl n ↦ bared_allows m o may_write w a r n
          | inr n ↦
              h.write a n
        ];
    run = λ a e. elim (or_cases (gives may_run (bared o w) a) (has f.run a) (sym (adds.run a) ∙ e)) as (λ _.
        Allows m o may_run a) [ inl n ↦ bared_allows m o may_run w a r n | inr n ↦ h.run a n ];
    seals = λ n e. elim (or_cases (gives_seal (bared o w) n) (has f.seals n) (sym (adds.seals n)
        ∙ e)) as (λ _. SealsWith m o n) [ inl k ↦ bared_seals m o w n r k | inr k ↦ h.seals n k ];
    left = λ a e. elim (only _ f.read f.left.items g.read g.left.items adds.read a e) as (λ _. has g.read a
        ≡ true) [
          | inl k ↦
              more_read o f g (bared o w) adds a (h.left a k)
          | inr k ↦ k
        ];
  }

  pub stays_closed : (some : ℕ → Bool) → IsClosedBut some m o f → IsClosedBut some m o g
  stays_closed some h = record {
    sound = stays_sound h.sound;
    begun = record {
      its_code = λ z. cap_grows o f g (bared o w) adds (whole_code o z) (h.begun.its_code z);
      its_data = cap_grows o f g (bared o w) adds (whole_data o) h.begun.its_data;
      its_stack = grows o f g (bared o w) adds (reg m.regs Stk) h.begun.its_stack;
    };
    looked = λ a e. more_read o f g (bared o w) adds a (h.looked a e);
    cells = λ a v reads out rest there. elim (cases_Bool (has f.read a)) as (λ _. IsWithin (authority_of o g)
        v) [
          | inl before ↦ grows o f g (bared o w) adds v (h.cells a v before (was_out a out) rest there)
          | inr new ↦ no (fresh _ f.read f.left.items g.read g.left.items adds.read a new reads) out
        ];
  }
    where
      was_out : (a : ℕ) → is_left g.left.items a ≡ false → is_left f.left.items a ≡ false
      was_out a out = elim (cases_Bool (is_left f.left.items a)) as (λ _. is_left f.left.items a ≡ false) [
        | inl e ↦ no (kept _ f.read f.left.items g.read g.left.items adds.read a e) out
        | inr e ↦ e
      ]

-- ---- the beginning

-- nothing was looked at yet
abbrev pub AllLeft : Found → Type 0
AllLeft f = (a : ℕ) → has f.read a ≡ true → is_left f.left.items a ≡ true

all_left : (f g : Found) (w : Word) → AddsWord f w g → AllLeft f → AllLeft g
all_left f g w adds h a e = elim (cases_Bool (has f.read a)) as (λ _. is_left g.left.items a ≡ true) [
  | inl before ↦ kept _ f.read f.left.items g.read g.left.items adds.read a (h a before)
  | inr new ↦ fresh _ f.read f.left.items g.read g.left.items adds.read a new e
]

sound_none : (m : State Word) (o : Owner) (f : Found) → IsEmpty f → IsSound m o f
sound_none m o f none = record {
  read = λ a e. no e (none.read a);
  write = λ a e. no e (none.write a);
  run = λ a e. no e (none.run a);
  seals = λ a e. no e (none.seals a);
  left = λ a e. (let z : false ≡ true = sym (ap (λ ss. is_left ss a) none.left) ∙ e in absurd cc);
}

-- the code, the data and the stack are added to nothing
pub closed_begun : (m : State Word) (o : Owner) (z : ℤ) (f0 f1 f2 f3 : Found) → IsEmpty f0
    → AddsWord f0 (Mem (whole_code o z)) f1 → AddsWord f1 (Mem (whole_data o)) f2 → AddsWord f2
    (bared o (reg m.regs Stk)) f3
    → IsClosedBut (λ a. false) m o f3
closed_begun m o z f0 f1 f2 f3 none first second third = record {
  sound = stays_sound m o f2 f3 (reg m.regs Stk) the_stack third
      (stays_sound m o f1 f2 (Mem (whole_data o)) its_data second
      (stays_sound m o f0 f1 (Mem (whole_code o z)) (its_code z) first (sound_none m o f0 none)));
  begun = record {
    its_code = λ y. (
        let k = cap_added o f0 f1 (whole_code o z) first in
        let n = cap_grows o f2 f3 (bared o (reg m.regs Stk)) third (whole_code o z)
        (cap_grows o f1 f2 (Mem (whole_data o)) second (whole_code o z) k) in
        record { read = n.read; write = n.write; run = n.run }
        );
    its_data = cap_grows o f2 f3 (bared o (reg m.regs Stk)) third (whole_data o)
        (cap_added o f1 f2 (whole_data o) second);
    its_stack = word_added o f2 f3 (reg m.regs Stk) third;
  };
  looked = λ a e. absurd (let f : false ≡ true = e in cc);
  cells = λ a v reads out rest there. no (all_left f2 f3 _ third
      (all_left f1 f2 _ second (all_left f0 f1 _ first (λ a e. no e (none.read a)))) a reads) out;
}

-- ---- looking at cells

from_next : (at end a : ℕ) → (nat_le (at + 1) a && nat_le a end) ≡ true → (nat_le at a && nat_le a end) ≡ true
from_next at end a e = grind (arith, nat_tests)

not_next : (at end a : ℕ) → (nat_le (at + 1) a && nat_le a end) ≡ false
    → (a ≡ at) ⊎ ((nat_le at a && nat_le a end) ≡ false)
not_next at end a e = elim (cases_eq a at) as (λ _. (a ≡ at) ⊎ ((nat_le at a && nat_le a end) ≡ false)) [
  | inl
      same ↦ inl same
  | inr ne ↦ inr (apart ne)
]
  where
    apart : (a ≡ at → ⊥) → (nat_le at a && nat_le a end) ≡ false
    apart ne = grind (arith, nat_tests)

module _ (m : State Word) (o : Owner) (f : Found) (at end : ℕ) (low : at ≤ end)
    (h : IsClosedBut (λ a. nat_le at a && nat_le a end) m o f) where
  -- a cell that isn't there
  pub look_none : cell m.cells at ≡ None → IsClosedBut (λ a. nat_le (at + 1) a && nat_le a end) m o f
  look_none none = record {
    sound = h.sound;
    begun = h.begun;
    looked = λ a e. h.looked a (from_next at end a e);
    cells = λ a v reads out rest there. elim (not_next at end a rest) as (λ _. IsWithin (authority_of o f)
        v) [
          | inl same ↦ absurd (let k : Some v ≡ None = sym there ∙ ap (cell m.cells) same ∙ none in cc)
          | inr skip ↦ h.cells a v reads out skip there
        ];
  }

  -- the cell's word is reached
  at_reached : (w : Word) → cell m.cells at ≡ Some w → Reaches m o w
  at_reached w there =
      let k = h.sound.read at (h.looked at (rw (le-leb at at (omega arith), le-leb at end low) refl)) in
      in_cell k.cap at w k.reached k.allowed k.low k.high there

  -- one that is, whose word was added
  pub look_one : (g : Found) (w : Word) → cell m.cells at ≡ Some w → AddsWord f (bared o w) g
      → IsClosedBut (λ a. nat_le (at + 1) a && nat_le a end) m o g
  look_one g w there adds =
      let k = stays_closed m o f g w (at_reached w there) adds (λ a. nat_le at a && nat_le a end) h in
      record {
        sound = k.sound;
        begun = k.begun;
        looked = λ a e. k.looked a (from_next at end a e);
        cells = λ a v reads out rest its. elim (not_next at end a rest) as (λ _. IsWithin (authority_of o g)
            v) [
              | inl same ↦ (let s : Some w ≡ Some v = sym there ∙ ap (cell m.cells) (sym same) ∙ its in
                  let e : w ≡ v = cc in subst (IsWithin (authority_of o g)) e (word_added o f g w adds))
              | inr skip ↦ k.cells a v reads out skip its
            ];
      }

-- where other cells are being looked at
closed_as : (m : State Word) (o : Owner) (f : Found) (some other : ℕ → Bool) → ((a : ℕ) → some a ≡ other a)
    → IsClosedBut some m o f → IsClosedBut other m o f
closed_as m o f some other same h = record {
  sound = h.sound;
  begun = h.begun;
  looked = λ a e. h.looked a (same a ∙ e);
  cells = λ a v reads out rest there. h.cells a v reads out (same a ∙ rest) there;
}

pub look_end : (m : State Word) (o : Owner) (f : Found) (at end : ℕ) → end < at
    → IsClosedBut (λ a. nat_le at a && nat_le a end) m o f → IsClosedBut (λ a. false) m o f
look_end m o f at end past h = closed_as m o f (λ a. nat_le at a && nat_le a end) (λ a. false) (λ a. none a) h
  where
    none : (a : ℕ) → (nat_le at a && nat_le a end) ≡ false
    none a = grind (arith, nat_tests)

-- a stretch is taken off to be looked at
module _ (m : State Word) (o : Owner) (f : Found) (v : Vec Stretch Global) (s : Stretch)
    (l : f.left.items ≡ v.items ++ s ∷ []) where
  left_is : (a : ℕ)
      → is_left f.left.items a ≡ (is_left v.items a || ((nat_le s.base a && nat_le a s.end) || false))
  left_is a = ap (λ ss. is_left ss a) l ∙ list_any-append (λ s. nat_le s.base a && nat_le a s.end) v.items
      (s ∷ [])

  pub look_at : IsClosedBut (λ a. false) m o f
      → IsClosedBut (λ a. nat_le s.base a && nat_le a s.end) m o (record f { left = v })
  look_at h = record {
    sound = record {
      read = h.sound.read;
      write = h.sound.write;
      run = h.sound.run;
      seals = h.sound.seals;
      left = λ a e. h.sound.left a (or_left _ _ _ (left_is a) e);
    };
    begun = record {
      its_code = h.begun.its_code;
      its_data = h.begun.its_data;
      its_stack = h.begun.its_stack;
    };
    looked = λ a e. h.sound.left a (or_right _ _ _ (left_is a) (ap (λ b. b || false) e));
    cells = λ a w reads out rest there. h.cells a w reads (left_is a ∙ rw (out, rest) refl) refl there;
  }

-- ---- the end

pub found_all : (m : State Word) (o : Owner) (f : Found) → f.left.items ≡ [] → IsClosedBut (λ a. false) m o f
    → IsJust m o (authority_of o f)
found_all m o f none h =
    let all : (w : Word) → Reaches m o w → IsWithin (authority_of o f) w =
    reached_within m o (authority_of o f) (λ n. refl) h.begun.its_code h.begun.its_data h.begun.its_stack
    (λ a w reads there. h.cells a w reads (ap (λ ss. is_left ss a) none) refl there) in
    record {
      read = λ a. (h.sound.read a, λ k. (all (Mem k.cap) k.reached).read k.allowed a k.low k.high);
      write = λ a. (h.sound.write a, λ k. (all (Mem k.cap) k.reached).write k.allowed a k.low k.high);
      run = λ a. (h.sound.run a, λ k. (all (Mem k.cap) k.reached).run k.allowed a k.low k.high);
      seal = λ n. (h.sound.seals n, λ k. all (Seal k.cap) k.reached n k.low k.high);
    }

-- a report that tells what was found
pub found_told : (m : State Word) (o : Owner) (f : Found) (r : Reach)
    → ((a : ℕ) → allows (λ f. f.read) r.spans a ≡ has f.read a)
    → ((a : ℕ) → allows (λ f. f.write) r.spans a ≡ has f.write a)
    → ((a : ℕ) → allows (λ f. f.run) r.spans a ≡ has f.run a)
    → ((n : ℕ) → is_in r.seals n ≡ has f.seals n)
    → IsJust m o (authority_of o f) → IsJust m o (told_authority o r)
found_told m o f r read write run seals h = record {
  read = λ a. (λ e. (h.read a).0 (sym (read a) ∙ e), λ k. read a ∙ (h.read a).1 k);
  write = λ a. (λ e. (h.write a).0 (sym (write a) ∙ e), λ k. write a ∙ (h.write a).1 k);
  run = λ a. (λ e. (h.run a).0 (sym (run a) ∙ e), λ k. run a ∙ (h.run a).1 k);
  seal = λ n. (λ e. (h.seal n).0 (sym (seals n) ∙ e), λ k. seals n ∙ (h.seal n).1 k);
}
