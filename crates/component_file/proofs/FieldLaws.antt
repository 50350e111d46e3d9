-- The readers of a component's fields.
use Rattle.std.proofs.Common.{◌≡◌, ℕ, zero, suc, ◌+◌, ◌^◌, ◌<◌, ◌≤◌, Bool, true, false, cond, eqb, List, []}
use Rattle.std.proofs.Common.{◌∷◌, length, Option, Some, None, Result, Ok, Err, refl, sym, ap, subst, ◌∙◌}
use Rattle.std.proofs.Common.{arith}
use Rattle.std.specs.Prelude.{IsTrue, IfSome}
use Rattle.std.proofs.lemmas.Bool.{eqb-true, eqb-false, ne_eqb}
use Rattle.std.proofs.lemmas.Option.{cond_some}
use Rattle.cap_words.specs.declared.TheConstants.{LAST_PLACE, LONGEST_STRETCH}
use Rattle.cap_words.specs.declared.bytes.cursor.FieldFault.{FieldFault}
use Rattle.cap_words.specs.declared.bytes.cursor.FieldFault.TheVariants as field_faults
use Rattle.cap_words.specs.Stretch.{Stretch}
use Rattle.readers.specs.Readers.{Reader, ◌>>=◌, done, unless_none}
use Rattle.cap_words.specs.Reading.{Input, next_bytes, meant, next_byte, next_number, within}
use Rattle.readers.proofs.Offers.{took_nothing, some_ok, reads_telling, All, reads_then, reads_last}
use Rattle.readers.proofs.Offers.{reads_done, reads_as, reads_text, reads_placed, reads_known, reads_learned}
use Rattle.readers.proofs.Offers.{reads_case, reads_if}
use Rattle.cap_words.proofs.Offers.{Took, Reads, bytes_take, bytes_again, bytes_cut, byte_reads, meant_reads}
use Rattle.cap_words.proofs.Offers.{within_reads}
use Rattle.component_file.specs.declared.TheConstants.{LAST_OFFSET}
use Rattle.component_file.specs.declared.fault.FileFault.TheVariants.{Short}
use Rattle.component_file.specs.declared.component.Kind.{Kind}
use Rattle.component_file.specs.declared.component.Kind.TheVariants.{Any, Int, DataCap, Stk, Pc, Top}
use Rattle.cap_words.specs.Names.{is_name}
use Rattle.component_file.specs.Fault.{in_file}
use Rattle.component_file.specs.Limits.{KindFits, last_base, StretchFits}
use Rattle.component_file.specs.Spelling.{u32_bytes, name_bytes, stretch_bytes, flag_byte, optional_bytes}
use Rattle.component_file.specs.Spelling.{kind_tag, kind_bytes}
use Rattle.component_file.proofs.CanWrite.{name_is_short}
use Rattle.component_file.specs.Reading.{field, short_at, next_text, name_meant, next_name, next_address}
use Rattle.component_file.specs.Reading.{next_offset, next_stretch, flag_meant, next_flag, next_optional}
use Rattle.component_file.specs.Reading.{plain_kind, next_kind}

-- ---- fields of the file

pub reads_field : {A : Type 0} {K P : A → Type 0} {t : A → List ℕ} {r : Reader Input FieldFault A}
    → Reads field_faults.Short K P t r → Reads Short K P t (field r)
reads_field {r = r} h = reads_telling in_file r (λ n. refl) h

-- ---- names

short_at_ok : {A : Type 0} (at : ℕ) (r : Result A FieldFault) (x : A) → short_at at r ≡ Ok x → r ≡ Ok x
short_at_ok at (Ok y) x e = let is : y ≡ x = cc in ap Ok is
short_at_ok at (Err e) x h = absurd cc

pub bytes_read : (n : ℕ) → Reads field_faults.Short (λ text. All text × (length text ≡ n)) All (λ text. text)
    (next_bytes n)
bytes_read n = record {
  takes = λ i text j bytes e. let g = bytes_take n i text j bytes e in ((tt, g.0), tt, g.2);
  again = λ text at rest k p. bytes_again n text at rest k.1;
  cut = λ text at m k p lt. bytes_cut text at m k.1 (omega (arith, k.1));
}

pub four_read : Reads field_faults.Short All (λ text. length text ≡ 4) (λ text. text) (next_bytes 4)
four_read = reads_as (next_bytes 4) (reads_learned (bytes_read 4)) (λ text k p. p.0) (λ text k p. (p, tt))

text_reads : Reads field_faults.Short All (λ text. length text < 256) name_bytes next_text
unfolding next_text
text_reads =
    let both = reads_then {K = All} {P = All} length next_byte next_bytes byte_reads (λ n p. bytes_read n) in
    record {
      takes = λ i text j bytes e. let g = both.takes i text j bytes
          (short_at_ok i.at ((next_byte >>= next_bytes) i) (text, j) e) in (tt, g.1.0, g.2);
      again = λ text at rest k p. ap (short_at at) (both.again text at rest tt (p, tt));
      cut = λ text at n k p lt. let c = both.cut text at n tt (p, tt) lt in
          record {
            inside = 0;
            within = omega arith;
            is = ap (short_at at) c.is
                ∙ ap (λ m. Err (field_faults.Short m)) (omega arith);
          };
    }

pub name_reads : Reads field_faults.Short All (λ text. IsTrue (is_name text)) name_bytes next_name
name_reads = meant_reads name_meant (λ name. name) next_text text_reads
    (λ text name p e. let g = cond_some (is_name text) text name e in (rw (sym g.1) g.0, sym g.1))
    (λ name q. (name_is_short name q, rw q refl))

-- ---- numbers

pub address_reads : Reads field_faults.Short All (λ n. n ≤ LAST_PLACE) u32_bytes next_address
address_reads = reads_as next_address (within_reads 4 0 LAST_PLACE (omega arith)) (λ n k p. p.1)
    (λ n k p. (omega arith, p))

pub offset_reads : Reads field_faults.Short All (λ n. n ≤ LAST_OFFSET) u32_bytes next_offset
offset_reads = reads_as next_offset (within_reads 4 0 LAST_OFFSET (omega arith)) (λ n k p. p.1)
    (λ n k p. (omega arith, p))

last_base_fits : (count : ℕ) → last_base count < 256 ^ 4
last_base_fits count = go (eqb count 0)
  where
    go : (b : Bool) → cond b 0 LAST_PLACE < 256 ^ 4
    go true = omega arith
    go false = omega arith

pub stretch_reads : Reads field_faults.Short All (λ s. StretchFits s.base s.count)
    (λ s. stretch_bytes s.base s.count) next_stretch
unfolding next_stretch stretch_bytes
stretch_reads = reads_as next_stretch
    (reads_then {P = λ s. s.base ≤ last_base s.count} (λ (s : Stretch). s.count)
    (meant (within 0 LONGEST_STRETCH) (next_number 4)) _ (within_reads 4 0 LONGEST_STRETCH (omega arith))
    (λ count p.
    reads_as _
    (reads_last (λ (s : Stretch). s.base) (meant (within 0 (last_base count)) (next_number 4))
    (λ base. record { base = base; count = count })
    (within_reads 4 0 (last_base count) (last_base_fits count)) (λ s k. rw (← k.1) refl)
    (λ base q. ((tt, refl), refl)))
    (λ s k q. subst (λ n. s.base ≤ last_base n) (sym k.1) q.1)
    (λ s k q. (omega arith, subst (λ n. s.base ≤ last_base n) k.1 q))))
    (λ s k p. (p.0.1, p.1))
    (λ s k p. ((omega arith, p.0), p.1))

-- ---- flags

flag_there : (n : ℕ) (b : Bool) → flag_meant n ≡ Some b → flag_byte b ≡ n
flag_there zero b e = let is : false ≡ b = cc in ap flag_byte (sym is)
flag_there (suc zero) b e = let is : true ≡ b = cc in ap flag_byte (sym is)
flag_there (suc (suc n)) b e = absurd cc

flag_back : (b : Bool) → (flag_byte b < 256) × (flag_meant (flag_byte b) ≡ Some b)
flag_back false = (omega arith, refl)
flag_back true = (omega arith, refl)

pub flag_reads : Reads field_faults.Short All (All {A = Bool}) (λ b. flag_byte b ∷ []) next_flag
flag_reads = meant_reads flag_meant flag_byte next_byte byte_reads (λ n b p e. (tt, flag_there n b e))
    (λ b q. flag_back b)

given : Option ℕ → Bool
given None = false
given (Some n) = true

optional_tail : Option ℕ → List ℕ
optional_tail None = []
optional_tail (Some n) = u32_bytes n

optional_is : (o : Option ℕ) → flag_byte (given o) ∷ optional_tail o ≡ optional_bytes o
unfolding given optional_tail
optional_is None = refl
optional_is (Some n) = refl

as_given : (o : Option ℕ) → given o ≡ true → IfSome o (λ n. n ≤ LAST_OFFSET) → (n : ℕ) × (Some n ≡ o) × All n
    × (n ≤ LAST_OFFSET)
unfolding given
as_given None e p = absurd cc
as_given (Some n) e p = (n, refl, tt, p)

is_none : (o : Option ℕ) → given o ≡ false → o ≡ None
unfolding given
is_none None e = refl
is_none (Some n) e = absurd cc

pub optional_reads : Reads field_faults.Short All (λ o. IfSome o (λ n. n ≤ LAST_OFFSET)) optional_bytes
    next_optional
unfolding next_optional given optional_tail
optional_reads = reads_as next_optional
    (reads_text _ (λ o k. optional_is o)
    (reads_then given next_flag _ flag_reads (λ b p. reads_known (choice b))))
    (λ o k p. p.1)
    (λ o k p. (tt, p))
  where
    choice : (b : Bool) → Reads field_faults.Short (λ o. given o ≡ b)
        (λ o. IfSome o (λ n. n ≤ LAST_OFFSET)) optional_tail
        (cond b (next_offset >>= λ n. done (Some n)) (done None))
    choice true = reads_case next_offset Some offset_reads (λ n j p. (refl, p, refl))
        (λ o k q. as_given o k q)
    choice false =
        reads_as _
        (reads_text _ (λ o k. ap optional_tail (sym (is_none o k)))
        (reads_done None (λ o k. is_none o k) refl))
        (λ o k p. subst (λ x. IfSome x (λ n. n ≤ LAST_OFFSET)) (sym (is_none o k)) tt) (λ o k p. tt)

-- ---- kinds

kind_tail : Kind → List ℕ
kind_tail (Pc offset) = u32_bytes offset
kind_tail _ = []

kind_is : (k : Kind) → kind_tag k ∷ kind_tail k ≡ kind_bytes k
unfolding kind_tail
kind_is Any = refl
kind_is Int = refl
kind_is DataCap = refl
kind_is Stk = refl
kind_is (Pc offset) = refl
kind_is Top = refl

kind_tag_in_byte : (k : Kind) → kind_tag k < 256
unfolding kind_tag
kind_tag_in_byte Any = omega arith
kind_tag_in_byte Int = omega arith
kind_tag_in_byte DataCap = omega arith
kind_tag_in_byte Stk = omega arith
kind_tag_in_byte (Pc offset) = omega arith
kind_tag_in_byte Top = omega arith

as_pc : (k : Kind) → kind_tag k ≡ 4 → KindFits k → (n : ℕ) × (Pc n ≡ k) × All n × (n ≤ LAST_OFFSET)
unfolding kind_tag
as_pc Any e p = absurd cc
as_pc Int e p = absurd cc
as_pc DataCap e p = absurd cc
as_pc Stk e p = absurd cc
as_pc (Pc offset) e p = (offset, refl, tt, p)
as_pc Top e p = absurd cc

-- a kind that is its tag
IsPlain : ℕ → Kind → Type 0
IsPlain tag k = (kind_tag k ≡ tag) × KindFits k × (kind_tail k ≡ [])

none_is_not : (k : Kind) → None ≡ Some k → ⊥
none_is_not k e = absurd cc

plain_past : (tag : ℕ) → 6 ≤ tag → plain_kind tag ≡ None
plain_past tag h = rw (
  ne_eqb tag 0 (λ e. omega (arith, e)),
  ne_eqb tag 1 (λ e. omega (arith, e)),
  ne_eqb tag 2 (λ e. omega (arith, e)),
  ne_eqb tag 3 (λ e. omega (arith, e)),
  ne_eqb tag 5 (λ e. omega (arith, e)),
) refl

plain_there : (tag : ℕ) (k : Kind) → plain_kind tag ≡ Some k → IsPlain tag k
unfolding IsPlain kind_tag kind_tail
plain_there zero k e = let is : Any ≡ k = cc in subst (IsPlain 0) is (refl, tt, refl)
plain_there (suc zero) k e = let is : Int ≡ k = cc in subst (IsPlain 1) is (refl, tt, refl)
plain_there (suc (suc zero)) k e = let is : DataCap ≡ k = cc in subst (IsPlain 2) is (refl, tt, refl)
plain_there (suc (suc (suc zero))) k e = let is : Stk ≡ k = cc in subst (IsPlain 3) is (refl, tt, refl)
plain_there (suc (suc (suc (suc zero)))) k e = absurd cc
plain_there (suc (suc (suc (suc (suc zero))))) k e = let is : Top ≡ k = cc in
    subst (IsPlain 5) is (refl, tt, refl)
plain_there (suc (suc (suc (suc (suc (suc tag)))))) k e = let past =
    plain_past (suc (suc (suc (suc (suc (suc tag)))))) (omega arith) in absurd (none_is_not k (sym past ∙ e))

plain_back : (tag : ℕ) (k : Kind) → kind_tag k ≡ tag → eqb tag 4 ≡ false → (plain_kind tag ≡ Some k)
    × (kind_tail k ≡ [])
unfolding kind_tag kind_tail
plain_back tag Any e not = (subst (λ n. plain_kind n ≡ Some Any) e refl, refl)
plain_back tag Int e not = (subst (λ n. plain_kind n ≡ Some Int) e refl, refl)
plain_back tag DataCap e not = (subst (λ n. plain_kind n ≡ Some DataCap) e refl, refl)
plain_back tag Stk e not = (subst (λ n. plain_kind n ≡ Some Stk) e refl, refl)
plain_back tag (Pc offset) e not = absurd (eqb-false _ _ not (sym e))
plain_back tag Top e not = (subst (λ n. plain_kind n ≡ Some Top) e refl, refl)

plain_reads : (at tag : ℕ) → eqb tag 4 ≡ false
    → Reads field_faults.Short (λ k. kind_tag k ≡ tag) KindFits kind_tail
    (unless_none (field_faults.BadField at) (plain_kind tag))
unfolding IsPlain
plain_reads at tag not = record {
  takes = λ i k j bytes e.
      let g = some_ok (field_faults.BadField at) (plain_kind tag) i k j e in
      let is = plain_there tag k g.0 in
      (is.0, is.1, subst (λ l. Took i l j) (sym is.2) (subst (λ n. Took i [] n) g.1 (took_nothing i bytes)));
  again = λ k start rest known p.
      let g = plain_back tag k known not in
      rw (g.0, g.1)
      (ap (λ n. Ok (k, record { at = n; rest = rest })) (let same : start ≡ start + 0 = omega arith in
      same));
  cut = λ k start n known p lt. absurd (omega (arith, ap length (plain_back tag k known not).1));
}

pub kind_reads : Reads field_faults.Short All KindFits kind_bytes next_kind
unfolding next_kind kind_tag kind_tail
kind_reads =
    reads_placed (λ at. next_byte >>= λ tag. cond (eqb tag 4) (next_offset >>= λ offset. done (Pc offset))
    (unless_none (field_faults.BadField at) (plain_kind tag))) (λ at.
    reads_as _
    (reads_text _ (λ k known. kind_is k)
    (reads_then kind_tag next_byte _ byte_reads (λ tag p. reads_known (reads_if (eqb tag 4) _ _
    (λ is. reads_case next_offset Pc offset_reads (λ n j q. (sym (eqb-true _ _ is), q, refl))
    (λ k known q. as_pc k (known ∙ eqb-true _ _ is) q))
    (λ not. plain_reads at tag not)))))
    (λ k known p. p.1)
    (λ k known p. (kind_tag_in_byte k, p)))
