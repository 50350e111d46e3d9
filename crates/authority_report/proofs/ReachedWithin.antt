-- What a part reaches is within an authority that has what it begins with and what cells and seals lead to.
use Rattle.std.proofs.Common.{◌≡◌, ℕ, ℤ, true, sym, ◌∙◌}
use Rattle.std.specs.Prelude.{Some}
use Rattle.cap_words.specs.declared.Word.{Word}
use Rattle.cap_words.specs.declared.Word.TheVariants.{Int, Mem, Seal, Sealed}
use Rattle.cap_words.specs.declared.Sealable.{Sealable}
use Rattle.cap_words.specs.declared.CapFields.{CapFields}
use Rattle.cap_words.specs.declared.SealFields.{SealFields}
use Rattle.cap_words.specs.declared.Sealable.TheVariants.{Mem as MemIn, Seal as SealIn}
use Rattle.lcm_isa.specs.declared.Reg.TheVariants.{Stk}
use Rattle.lcm_machine.specs.Maps.{State}
use Rattle.lcm_machine.specs.Places.{reg}
use Rattle.lcm_machine.specs.Cells.{cell}
use Rattle.linked_starts.specs.declared.owners.Owner.{Owner}
use Rattle.authority_report.specs.Reaches.{is_seal_of, whole_code, whole_data, bare, Reaches, its_code}
use Rattle.authority_report.specs.Reaches.{its_data, the_stack, in_cell, opened}
use Rattle.authority_report.specs.Within.{Authority, CapWithin, SealsWithin, IsWithin}
use Rattle.authority_report.specs.Report.{IsJust}

module _ (m : State Word) (o : Owner) (g : Authority) (own : (n : ℕ) → g.own n ≡ is_seal_of o n) where
  -- of an authority that is just what the part reaches
  module _ (just : IsJust m o g) where
    cap_just : (c : CapFields) → Reaches m o (Mem c) → CapWithin g c
    cap_just c r = record {
      read = λ may a low high. (just.read a).1
          (record { cap = c; reached = r; allowed = may; low = low; high = high });
      write = λ may a low high. (just.write a).1
          (record { cap = c; reached = r; allowed = may; low = low; high = high });
      run = λ may a low high. (just.run a).1 (record {
        cap = c;
        reached = r;
        allowed = may;
        low = low;
        high = high;
      });
    }

    seals_just : (q : SealFields) → Reaches m o (Seal q) → SealsWithin g q
    seals_just q r = λ n low high. (just.seal n).1 (record { cap = q; reached = r; low = low; high = high })

    pub word_just : (w : Word) → Reaches m o w → IsWithin g w
    word_just (Int z) r = tt
    word_just (Mem c) r = cap_just c r
    word_just (Seal q) r = seals_just q r
    word_just (Sealed n (MemIn c)) r = λ e. cap_just c (opened n (MemIn c) r (sym (own n) ∙ e))
    word_just (Sealed n (SealIn q)) r = λ e. seals_just q (opened n (SealIn q) r (sym (own n) ∙ e))

    pub cell_just : (a : ℕ) (w : Word) → g.read a ≡ true → cell m.cells a ≡ Some w → IsWithin g w
    cell_just a w reads there = let k = (just.read a).0 reads in
        word_just w (in_cell k.cap a w k.reached k.allowed k.low k.high there)

  -- of an authority that has what the part begins with, and the words of the cells that may be read
  module _ (code : (z : ℤ) → CapWithin g (whole_code o z)) (its_words : CapWithin g (whole_data o))
      (stack : IsWithin g (reg m.regs Stk))
      (cells : (a : ℕ) (w : Word) → g.read a ≡ true → cell m.cells a ≡ Some w → IsWithin g w) where
    bare_within : (n : ℕ) (x : Sealable) → IsWithin g (Sealed n x) → g.own n ≡ true → IsWithin g (bare x)
    bare_within n (MemIn c) h e = h e
    bare_within n (SealIn q) h e = h e

    pub reached_within : (w : Word) → Reaches m o w → IsWithin g w
    reached_within _ (its_code z) = code z
    reached_within _ its_data = its_words
    reached_within _ the_stack = stack
    reached_within _ (in_cell c a w r may low high there) =
        cells a w ((reached_within (Mem c) r).read may a low high) there
    reached_within _ (opened n x r e) = bare_within n x (reached_within (Sealed n x) r) (own n ∙ e)
