-- What the teller can reach: its code, its data and the stack, and nothing by the words in these.
use Rattle.std.proofs.Common.{◌≡◌, ℕ, zero, suc, ◌+◌, ◌-◌, ◌≤◌, ◌<◌, inl, inr, Bool, true, false, [], ◌∷◌}
use Rattle.std.proofs.Common.{Option, Some, None, pos, refl, sym, ap, ◌∙◌, arith, le-leb}
use Rattle.std.specs.Prelude.{◌&&◌, not}
use Rattle.std.specs.List.{list_any, Contains}
use Rattle.std.proofs.lemmas.Bool.{cases_eq, and_parts, leb-true}
use Rattle.std.proofs.lemmas.List.Elements.{All-contains, All-from_recursion}
use Rattle.std.proofs.lemmas.List.Kept.{AllPairs-cons}
use Rattle.cap_words.specs.declared.Perm.{Perm}
use Rattle.cap_words.specs.declared.Word.{Word}
use Rattle.cap_words.specs.declared.Word.TheVariants.{Int, Mem, Seal, Sealed}
use Rattle.cap_words.specs.declared.Sealable.TheVariants.{Mem as MemIn, Seal as SealIn}
use Rattle.cap_words.specs.declared.CapFields.{CapFields}
use Rattle.cap_words.specs.Faces.{may_read, may_write, may_run}
use Rattle.lcm_machine.specs.Maps.{State}
use Rattle.lcm_machine.specs.Cells.{cell}
use Rattle.call_sequence.specs.Sequences.{call_code, return_code, entry_code}
use Rattle.linked_starts.specs.Regions.{regions_of}
use Rattle.linked_starts.specs.Start.{start_cell, start_regs, part_word, stack_of}
use Rattle.authority_report.specs.declared.spans.ReachSpan.{ReachSpan}
use Rattle.authority_report.specs.Spans.{span_has, IsSpan, Before, AreTidy}
use Rattle.overlay_machine.proofs.Offers.{any_is, any_of}
use Rattle.authority_report.specs.declared.reach.Reach.{Reach}
use Rattle.authority_report.specs.Reaches.{is_seal_of, whole_code, whole_data, Reaches, its_code, its_data}
use Rattle.authority_report.specs.Reaches.{the_stack, in_cell, opened, Allows}
use Rattle.authority_report.specs.Within.{Authority, CapWithin, IsWithin}
use Rattle.authority_report.specs.Report.{told_authority, IsJust, Reports}
use Rattle.authority_report.specs.Influence.{Unread}
use Rattle.law_instances.specs.Blind.{InData}
use Rattle.law_instances.proofs.Teller.{parts}
use Rattle.law_instances.proofs.Start.{start, owner, secret, cells_are}

-- ---- the report

abbrev of_data : ReachSpan
of_data = record { base = 54; end = 56; read = true; write = true; run = false }

abbrev of_code : ReachSpan
of_code = record { base = 77; end = 84; read = true; write = true; run = true }

abbrev of_stack : ReachSpan
of_stack = record { base = 87; end = 90; read = true; write = true; run = false }

abbrev pub report : Reach
report = record { spans = of_data ∷ of_code ∷ of_stack ∷ []; seals = [] }

abbrev M : State Word
M = start.state.maps

abbrev g : Authority
g = told_authority owner report

each_span : (P : ReachSpan → Type 0) → P of_data → P of_code → P of_stack → (s : ReachSpan)
    → Contains report.spans s → P s
each_span P first second third s m =
    All-contains P report.spans s (All-from_recursion P report.spans (first, (second, (third, tt)))) m

told : (test : ReachSpan → Bool) (s : ReachSpan) (a : ℕ) → Contains report.spans s → test s ≡ true
    → s.base ≤ a → a ≤ s.end → list_any (λ x. test x && span_has x a) report.spans ≡ true
told test s a m given low high =
    any_is (λ x. test x && span_has x a) report.spans s m
    (rw (given, le-leb s.base a low, le-leb a s.end high) refl)

in_span : (test : ReachSpan → Bool) (a : ℕ) → list_any (λ x. test x && span_has x a) report.spans ≡ true
    → (s : ReachSpan) × Contains report.spans s × (test s ≡ true) × (s.base ≤ a) × (a ≤ s.end)
in_span test a e =
    let k = any_of (λ x. test x && span_has x a) report.spans e in
    let p = and_parts (test k.0) (span_has k.0 a) k.2 in
    let q = and_parts _ _ p.1 in
    (k.0, k.1, p.0, leb-true k.0.base a q.0, leb-true a k.0.end q.1)

-- ---- words that give nothing

abbrev gives_nothing : Option Word → Bool
gives_nothing None = true
gives_nothing (Some (Int z)) = true
gives_nothing (Some (Sealed n x)) = not (is_seal_of owner n)
gives_nothing _ = false

not_both : (b : Bool) → not b ≡ true → b ≡ true → ⊥
not_both true e f = cc
not_both false e f = cc

nothing_within : (w : Word) → gives_nothing (Some w) ≡ true → IsWithin g w
nothing_within (Int z) e = tt
nothing_within (Mem c) e = absurd cc
nothing_within (Seal q) e = absurd cc
nothing_within (Sealed n (MemIn c)) e = λ own. absurd (not_both (is_seal_of owner n) e own)
nothing_within (Sealed n (SealIn q)) e = λ own. absurd (not_both (is_seal_of owner n) e own)

-- so it is of so many cells of the start from an address on
unfoldable blank : ℕ → ℕ → Bool
blank a zero = true
blank a (suc n) = gives_nothing (start_cell parts 4 a) && blank (a + 1) n

blank_at : (b n a : ℕ) → blank b n ≡ true → b ≤ a → a < b + n → gives_nothing (start_cell parts 4 a) ≡ true
unfolding blank
blank_at b zero a e low high = absurd (omega (arith, low, high))
blank_at b (suc n) a e low high =
    let both = and_parts (gives_nothing (start_cell parts 4 b)) (blank (b + 1) n) e in
    elim (cases_eq a b) as (λ _. gives_nothing (start_cell parts 4 a) ≡ true) [
      | inl is ↦ ap (λ x. gives_nothing (start_cell parts 4 x)) is ∙ both.0
      | inr no_ ↦ blank_at (b + 1) n a both.1 (omega (arith, low, no_)) (omega (arith, high))
    ]

-- ---- a span of the report is that of a capability that is reached, over such cells

record IsOf (c : CapFields) (s : ReachSpan) : Type 0 where
  pub base : c.base ≡ s.base
  pub end : c.end ≡ s.end
  pub read : may_read c.perm ≡ s.read
  pub write : may_write c.perm ≡ s.write
  pub run : may_run c.perm ≡ s.run

record Has (s : ReachSpan) : Type 0 where
  pub cap : CapFields
  pub reached : Reaches M owner (Mem cap)
  pub is : IsOf cap s
  pub nothing : blank s.base (s.end + 1 - s.base) ≡ true

has : (s : ReachSpan) → Contains report.spans s → Has s
unfolding blank start_cell start_regs part_word regions_of entry_code call_code return_code
has = each_span Has
    (record {
      cap = whole_data owner;
      reached = its_data;
      is = record { base = refl; end = refl; read = refl; write = refl; run = refl };
      nothing = refl;
    })
    (record {
      cap = whole_code owner (pos 77);
      reached = its_code (pos 77);
      is = record { base = refl; end = refl; read = refl; write = refl; run = refl };
      nothing = refl;
    })
    (record {
      cap = stack_of 87 4;
      reached = the_stack;
      is = record { base = refl; end = refl; read = refl; write = refl; run = refl };
      nothing = refl;
    })

allowed : (test : ReachSpan → Bool) (may : Perm → Bool)
    → ((s : ReachSpan) (c : CapFields) → IsOf c s → may c.perm ≡ test s)
    → (a : ℕ) → list_any (λ x. test x && span_has x a) report.spans ≡ true → Allows M owner may a
allowed test may same a e =
    let k = in_span test a e in
    let h = has k.0 k.1 in
    let base = h.is.base in
    let end = h.is.end in
    let low = k.3 in
    let high = k.4 in
    record {
      cap = h.cap;
      reached = h.reached;
      allowed = same k.0 h.cap h.is ∙ k.2;
      low = omega (arith, base, low);
      high = omega (arith, end, high);
    }

-- ---- and nothing else is reached

span_within : (c : CapFields) (s : ReachSpan) → Contains report.spans s → IsOf c s → CapWithin g c
span_within c s m is =
    let base = is.base in
    let end = is.end in
    record {
      read = λ may a low high. told (λ x. x.read) s a m (sym is.read ∙ may) (omega (arith, base, low))
          (omega (arith, end, high));
      write = λ may a low high. told (λ x. x.write) s a m (sym is.write ∙ may) (omega (arith, base, low))
          (omega (arith, end, high));
      run = λ may a low high. told (λ x. x.run) s a m (sym is.run ∙ may) (omega (arith, base, low))
          (omega (arith, end, high));
    }

cell_within : (a : ℕ) (w : Word) → g.read a ≡ true → cell M.cells a ≡ Some w → IsWithin g w
cell_within a w reads there =
    let k = in_span (λ x. x.read) a reads in
    let low = k.3 in
    let high = k.4 in
    nothing_within w
    (sym (ap gives_nothing (sym (cells_are a) ∙ there))
    ∙ blank_at k.0.base (k.0.end + 1 - k.0.base) a (has k.0 k.1).nothing low (omega (arith, low, high)))

within : (w : Word) → Reaches M owner w → IsWithin g w
unfolding start_regs
within _ (its_code z) =
    span_within (whole_code owner z) of_code (1, omega arith, refl)
    (record { base = refl; end = refl; read = refl; write = refl; run = refl })
within _ its_data =
    span_within (whole_data owner) of_data (0, omega arith, refl)
    (record { base = refl; end = refl; read = refl; write = refl; run = refl })
within _ the_stack =
    span_within (stack_of 87 4) of_stack (2, omega arith, refl)
    (record { base = refl; end = refl; read = refl; write = refl; run = refl })
within _ (in_cell c a w r may low high there) =
    cell_within a w ((within (Mem c) r).read may a low high) there
within _ (opened n (MemIn c) r own) = within (Sealed n (MemIn c)) r own
within _ (opened n (SealIn q) r own) = within (Sealed n (SealIn q)) r own

just : IsJust M owner g
just = record {
  read = λ a. (
    allowed (λ x. x.read) may_read (λ s c is. is.read) a,
    λ k. (within (Mem k.cap) k.reached).read k.allowed a k.low k.high,
  );
  write = λ a. (
    allowed (λ x. x.write) may_write (λ s c is. is.write) a,
    λ k. (within (Mem k.cap) k.reached).write k.allowed a k.low k.high,
  );
  run = λ a. (
    allowed (λ x. x.run) may_run (λ s c is. is.run) a,
    λ k. (within (Mem k.cap) k.reached).run k.allowed a k.low k.high,
  );
  seal = λ n. (
    λ e. absurd (let bad : false ≡ true = e in cc),
    λ k. within (Seal k.cap) k.reached n k.low k.high,
  );
}

tidy : AreTidy report.spans
tidy = record {
  each = All-from_recursion IsSpan report.spans (
    record { some = omega arith; inside = omega arith; right = refl },
    (
      record { some = omega arith; inside = omega arith; right = refl },
      (record { some = omega arith; inside = omega arith; right = refl }, tt),
    ),
  );
  apart = AllPairs-cons Before of_data (of_code ∷ of_stack ∷ [])
      (All-from_recursion (Before of_data) (of_code ∷ of_stack ∷ []) (
        record { below = omega arith; maximal = λ e. absurd (omega (arith, e)) },
        (record { below = omega arith; maximal = λ e. absurd (omega (arith, e)) }, tt),
      ))
      (AllPairs-cons Before of_code (of_stack ∷ [])
      (All-from_recursion (Before of_code) (of_stack ∷ [])
      (record { below = omega arith; maximal = λ e. absurd (omega (arith, e)) }, tt))
      (λ i j d lt le. absurd (omega (arith, lt, le))));
}

pub reported : Reports start 1 report
reported = (
  owner,
  refl,
  record {
    just = just;
    spans = tidy;
    seals = record {
      each = λ k d lt. absurd (omega (arith, lt));
      apart = λ i j d lt le. absurd (omega (arith, le));
    };
  },
)

-- the trusted part's data is in none of the spans
pub unread : (a : ℕ) → InData secret a → Unread g a
unread a (low, high) = by (g.read a) refl
  where
    outside : (s : ReachSpan) → Contains report.spans s → s.base ≤ a → a ≤ s.end → ⊥
    outside = each_span (λ s. s.base ≤ a → a ≤ s.end → ⊥) (λ under over. omega (arith, low, over))
        (λ under over. omega (arith, high, under)) (λ under over. omega (arith, high, under))

    by : (b : Bool) → g.read a ≡ b → g.read a ≡ false
    by false e = e
    by true e = let k = in_span (λ x. x.read) a e in absurd (outside k.0 k.1 k.3 k.4)
