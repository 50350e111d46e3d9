-- A part of an image is read where it is spelled, and spelled where it was read; and so are parts, one after
-- another.
use Rattle.std.proofs.Common.{◌≡◌, ℕ, ◌+◌, ◌≤◌, take, drop, Bool, true, false, cond, ltb, List, length}
use Rattle.std.proofs.Common.{Result, Ok, Err, refl, sym, ap, subst, ◌∙◌, arith, length-take}
use Rattle.std.specs.List.{flat_map, AllByRecursion}
use Rattle.readers.specs.Readers.{Reader, goes_on, ◌>>=◌, given, told_by, telling}
use Rattle.readers.proofs.Offers.{told_ok, after, cut_goes_on, All, goes_on_ok, ok_value, given_ok}
use Rattle.readers.proofs.Offers.{reads_then, reads_as, reads_telling, items_read}
use Rattle.cap_words.specs.declared.bytes.cursor.FieldFault.{FieldFault}
use Rattle.cap_words.specs.declared.bytes.cursor.FieldFault.TheVariants as field_faults
use Rattle.cap_words.specs.Reading.{Input, next_bytes, next_number}
use Rattle.cap_words.proofs.Offers.{IsBytes, Took, Reads, bytes_take, bytes_again, bytes_cut, number_reads}
use Rattle.component_file.specs.declared.component.ComponentFields.{ComponentFields}
use Rattle.component_file.specs.Spelling.{spelling}
use Rattle.component_file.specs.Reading.{next_flag, decoded}
use Rattle.component_file.proofs.Offers.{flag_reads, found_whole, read_whole, spelling_length}
use Rattle.linked_starts.specs.Parts.{PartSeen, IsPart, Accepts}
use Rattle.linked_starts.specs.Accepted.{accepted}
use Rattle.linked_starts.proofs.Offers.{accepts_is, accepted_is}
use Rattle.image_loader.specs.declared.fault.ImageFault.{ImageFault}
use Rattle.image_loader.specs.declared.fault.ImageFault.TheVariants.{Short}
use Rattle.image_loader.specs.Fault.{in_image, in_part, broken_in}
use Rattle.image_loader.specs.Image.{part_bytes}
use Rattle.image_loader.specs.Reading.{field, kept_by, part_in_bytes, next_part, next_parts}

-- ---- fields of the image

pub reads_field : {A : Type 0} {K P : A → Type 0} {t : A → List ℕ} {r : Reader Input FieldFault A}
    → Reads field_faults.Short K P t r → Reads Short K P t (field r)
reads_field {r = r} h = reads_telling in_image r (λ n. refl) h

-- ---- a part's bytes

-- what keeps the limits and was accepted is a part
accepted_ok : (q p : PartSeen) → accepted q ≡ Ok p → Accepts q (Ok p)
accepted_ok q p e = subst (Accepts q) e (accepted_is q)

part_of_ok : (index : ℕ) (trusted : Bool) (bytes : List ℕ) (p : PartSeen) → IsBytes bytes
    → part_in_bytes index trusted bytes ≡ Ok p → IsPart p × (p.trusted ≡ trusted) ×
    (bytes ≡ spelling p.component)
unfolding part_in_bytes
part_of_ok index trusted bytes p fits e = by_form (told_by (in_part index) (decoded bytes)) refl e
  where
    by_form : (r : Result ComponentFields ImageFault) → told_by (in_part index) (decoded bytes) ≡ r
        → kept_by index trusted r ≡ Ok p → IsPart p × (p.trusted ≡ trusted) × (bytes ≡ spelling p.component)
    by_form (Err d) is h = absurd cc
    by_form (Ok c) is h =
        let q : PartSeen = record { component = c; trusted = trusted } in
        let f = found_whole bytes c fits (told_ok (in_part index) (decoded bytes) c is) in
        let a = accepted_ok q p (told_ok (broken_in index) (accepted q) p h) in
        let part : IsPart q = record { limits = f.0; rules = a.1; flow = a.2 } in
        subst (λ (p : PartSeen). IsPart p × (p.trusted ≡ trusted) × (bytes ≡ spelling p.component)) (sym a.0)
        (part, refl, f.1)

is_part_of : (index : ℕ) (p : PartSeen) → IsPart p → part_in_bytes index p.trusted (spelling p.component)
    ≡ Ok p
unfolding part_in_bytes
is_part_of index p part =
    ap (λ r. kept_by index p.trusted (told_by (in_part index) r)) (read_whole p.component part.limits)
    ∙ ap (told_by (broken_in index)) (sym (accepts_is p (Ok p) (refl, part.rules, part.flow)))

-- ---- a part

component_reads : (index : ℕ) (trusted : Bool) (len : ℕ)
    → Reads Short (λ (p : PartSeen). (All p × (p.trusted ≡ trusted)) × (length (spelling p.component) ≡ len))
    IsPart (λ p. spelling p.component)
    (field (next_bytes len) >>= λ bytes. given (part_in_bytes index trusted bytes))
unfolding telling
component_reads index trusted len = record {
  takes = λ i p j bytes e.
      let x = goes_on_ok (field (next_bytes len) i) (λ text. given (part_in_bytes index trusted text))
      (p, j) e in
      let t = bytes_take len i x.0.0 x.0.1 bytes (told_ok in_image (next_bytes len i) x.0 x.1) in
      let v = given_ok (part_in_bytes index trusted x.0.0) x.0.1 j p x.2 in
      let g = part_of_ok index trusted x.0.0 p t.1 v.0 in (
        ((tt, g.1), ap length (sym g.2) ∙ t.0),
        g.0,
        subst (λ text. Took i text j) g.2
            (subst (λ k. Took i x.0.0 k) v.1 t.2),
      );
  again = λ p at rest k part.
      let read : part_in_bytes index trusted (spelling p.component) ≡ Ok p =
      subst (λ t. part_in_bytes index t (spelling p.component) ≡ Ok p) k.0.1 (is_part_of index p part) in
      ap (λ r. goes_on (told_by in_image r) (λ text. given (part_in_bytes index trusted text)))
      (bytes_again len (spelling p.component) at rest k.1)
      ∙ ap (λ r. given r (after at (spelling p.component) rest)) read;
  cut = λ p at n k part lt.
      let c = bytes_cut (spelling p.component) at n k.1 (omega (arith, lt, k.1)) in
      cut_goes_on (λ text. given (part_in_bytes index trusted text))
      (record { inside = c.inside; within = c.within; is = ap (told_by in_image) c.is });
}

pub part_reads : (index : ℕ) → Reads Short All IsPart part_bytes (next_part index)
unfolding next_part part_bytes
part_reads index = reads_as _
    (reads_then (λ (p : PartSeen). p.trusted) (field next_flag) _ (reads_field flag_reads) (λ trusted p0.
    reads_then (λ (p : PartSeen). length (spelling p.component)) (field (next_number 4)) _
    (reads_field (number_reads 4)) (λ len p1.
    component_reads index trusted len)))
    (λ p k h. h.1.1)
    (λ p k h. (tt, (spelling_length p.component h.limits, h)))

-- ---- parts

pub parts_read : (index n : ℕ)
    → Reads Short (λ ps. All ps × (length ps ≡ n)) (AllByRecursion IsPart) (flat_map part_bytes)
    (next_parts index n)
parts_read index n =
    items_read (λ i _. i + 1) next_part part_reads (λ i ps. AllByRecursion IsPart ps) (λ i. tt)
    (λ i p ps h. h)
    (λ i p ps h. h) n index

-- ---- the bytes of a part

took_all : (b : Bool) (fault : FieldFault) (x : List ℕ × Input) (text : List ℕ) (j : Input)
    → cond b (Err fault) (Ok x) ≡ Ok (text, j) → x.0 ≡ text
took_all true fault x text j e = absurd cc
took_all false fault x text j e = (ok_value x.0 text x.1 j e).0

-- there are no more than were asked for
pub taken_length : (n : ℕ) (i : Input) (text : List ℕ) (j : Input) → next_bytes n i ≡ Ok (text, j)
    → length text ≤ n
unfolding next_bytes
taken_length n i text j e =
    let more : List ℕ × Input = (take n i.rest, record { at = i.at + n; rest = drop n i.rest }) in
    let is = took_all (ltb (length i.rest) n) (field_faults.Short i.at) more text j e in
    omega (arith, ap length is, length-take n i.rest)
