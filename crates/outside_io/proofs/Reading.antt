-- Reading a whole file piece by piece: what holds after each piece, and at each end.
use Rattle.std.proofs.Common.{◌≡◌, ℕ, ◌+◌, ◌<◌, ◌≤◌, List, ◌++◌, length, take, drop, Option, Some, None}
use Rattle.std.proofs.Common.{MatchOption, IsSomeAnd, Result, Ok, Err, refl, sym, ap, subst, ◌∙◌, arith}
use Rattle.std.proofs.Common.{length-append}
use Rattle.std.specs.Prelude.{⊤, IfErr, IsErrAnd}
use Rattle.std.proofs.lemmas.List.{length-take-le, take_all}
use Rattle.std.proofs.Math.Seq.{take-add}
use Rattle.outside_io.specs.Counts.{raised, Rose}
use Rattle.outside_io.proofs.Writing.{raised-raised}
use Rattle.outside_io.specs.FilesSeen.{FilesSeen, IsPieceAt, GivesPart, FailsToRead}
use Rattle.outside_io.specs.Whole.{Came, Took, OnlyGave, GivesWhole, IsTooLong, Faults, RunsOut}

-- these bytes came so far, one or more of each read, and nothing else changed
pub record SoFar (old : FilesSeen) (name : List ℕ) (limit : ℕ) (bytes : List ℕ) (now : FilesSeen) : Type
    0 where
  pub fits : length bytes ≤ limit
  pub quiet : OnlyGave old now
  pub given : now.given ≡ raised old.given (length bytes)
  pub calls : ℕ
  pub few : calls ≤ length bytes
  pub counted : now.reads ≡ raised old.reads calls
  pub front : (bytes_of : List ℕ → Option (List ℕ)) → old.contents ≡ Some bytes_of → (file : List ℕ)
      → bytes_of name ≡ Some file → bytes ≡ take (length bytes) file

-- a count that rises twice
raised_again : (a b c n m : ℕ) → b ≡ raised a n → c ≡ raised b m → c ≡ raised a (n + m)
raised_again a b c n m e f = f ∙ ap (λ (k : ℕ). raised k m) e ∙ raised-raised a n m

-- what reads alone changed, and then one more of them
OnlyGave-again : (old now new : FilesSeen) (reads total : ℕ) → OnlyGave old now
    → new ≡ record now { reads = reads; given = total } → OnlyGave old new
OnlyGave-again old now new reads total quiet stays =
    stays
    ∙ ap (λ (k : ℕ). record now { reads = k; given = total }) (sym (ap (λ (s : FilesSeen). s.reads) stays))
    ∙ ap (λ (k : ℕ). record now { reads = new.reads; given = k })
    (sym (ap (λ (s : FilesSeen). s.given) stays))
    ∙ ap (λ (s : FilesSeen). record s { reads = new.reads; given = new.given }) quiet

-- what reads alone changed, and then one that failed
Faults-after : (old now new : FilesSeen) (name : List ℕ) (reads : ℕ) → OnlyGave old now
    → new ≡ record now { reads = reads; failed_reads = new.failed_reads; last_failed_read = name }
    → new ≡ record old {
      reads = new.reads;
      given = new.given;
      failed_reads = new.failed_reads;
      last_failed_read = name;
    }
Faults-after old now new name reads quiet stays =
    stays
    ∙ ap (λ (s : FilesSeen). record s {
      reads = reads;
      failed_reads = new.failed_reads;
      last_failed_read = name;
    }) quiet
    ∙ ap (λ (k : ℕ). record old {
      reads = k;
      given = now.given;
      failed_reads = new.failed_reads;
      last_failed_read = name;
    }) (sym (ap (λ (s : FilesSeen). s.reads) stays))
    ∙ ap (λ (k : ℕ). record old {
      reads = new.reads;
      given = k;
      failed_reads = new.failed_reads;
      last_failed_read = name;
    }) (sym (ap (λ (s : FilesSeen). s.given) stays))

there_is : (P : List ℕ → Type 0) (o : Option (List ℕ)) → IsSomeAnd o P
    → (file : List ℕ) × (o ≡ Some file) × P file
there_is P None h = absurd h
there_is P (Some file) h = (file, refl, h)

-- where the contents are told, the file is there
file_of : (P : List ℕ → Type 0) (contents : Option (List ℕ → Option (List ℕ))) (name : List ℕ)
    (bytes_of : List ℕ → Option (List ℕ))
    → MatchOption contents ⊤ (λ h. IsSomeAnd (h name) P) → contents ≡ Some bytes_of
    → (file : List ℕ) × (bytes_of name ≡ Some file) × P file
file_of P contents name bytes_of told is =
    there_is P (bytes_of name) (subst (λ (o : Option (List ℕ → Option (List ℕ))). MatchOption o ⊤
    (λ h. IsSomeAnd (h name) P)) is told)

same_file : (x y : List ℕ) (o : Option (List ℕ)) → o ≡ Some x → o ≡ Some y → x ≡ y
same_file x y o a b = cc

-- a whole list where its end was reached, and a longer front where it was not
all_of : (bytes file : List ℕ) → bytes ≡ take (length bytes) file → length file ≤ length bytes → bytes ≡ file
all_of bytes file front end = front ∙ take_all (length bytes) file end

next_part : (bytes buffer file : List ℕ) (n : ℕ) → n ≤ length buffer → bytes ≡ take (length bytes) file
    → take n buffer ≡ take n (drop (length bytes) file)
    → bytes ++ take n buffer ≡ take (length (bytes ++ take n buffer)) file
next_part bytes buffer file n fits front same =
    let more : length (bytes ++ take n buffer) ≡ length bytes + n =
    length-append bytes (take n buffer) ∙ ap (λ (k : ℕ). length bytes + k)
    (length-take-le n buffer fits) in
    ap (λ (xs : List ℕ). xs ++ take n buffer) front
    ∙ ap (λ (ys : List ℕ). take (length bytes) file ++ ys) same ∙ sym (take-add (length bytes) n file)
    ∙ ap (λ (k : ℕ). take k file) (sym more)

-- `Came`, by cases
came_by : (old new : FilesSeen) (name bytes : List ℕ) → new.given ≡ raised old.given (length bytes)
    → ((bytes_of : List ℕ → Option (List ℕ)) → old.contents ≡ Some bytes_of → bytes_of name ≡ Some bytes)
    → Came old name bytes new
came_by old new name bytes count told =
    elim old.contents as (λ o. ((bytes_of : List ℕ → Option (List ℕ)) → o ≡ Some bytes_of
    → bytes_of name ≡ Some bytes) → MatchOption o (new.given ≡ raised old.given (length bytes))
    (λ bytes_of. bytes_of name ≡ Some bytes)) [
      | None ↦ λ h. count
      | Some bytes_of ↦ λ h. h bytes_of refl
    ] told

-- more than the limit came of a file
longer_by : (old new : FilesSeen) (name bytes : List ℕ) (limit : ℕ) → limit < length bytes
    → new.given ≡ raised old.given (length bytes)
    → ((bytes_of : List ℕ → Option (List ℕ)) → old.contents ≡ Some bytes_of
    → (file : List ℕ) × (bytes_of name ≡ Some file) × (limit < length file))
    → (whole : List ℕ) × Came old name whole new × (limit < length whole)
longer_by old new name bytes limit over count told =
    elim old.contents as (λ o. ((bytes_of : List ℕ → Option (List ℕ)) → o ≡ Some bytes_of
    → (file : List ℕ) × (bytes_of name ≡ Some file) × (limit < length file))
    → (whole : List ℕ) × MatchOption o (new.given ≡ raised old.given (length whole))
    (λ bytes_of. bytes_of name ≡ Some whole) × (limit < length whole)) [
      | None ↦ λ h. (bytes, count, over)
      | Some bytes_of ↦ λ h. h bytes_of refl
    ] told

-- what holds of the one error that a result can be
pub if_this : {T E : Type 0} (P : E → Type 0) (r : Result T E) (e : E) → IsErrAnd r (λ x. x ≡ e) → P e
    → IfErr r P
if_this P (Ok x) e is p = absurd is
if_this P (Err x) e is p = subst P (sym is) p

-- a place that is the length of what came
pub at_length : (now new : FilesSeen) (name bytes buffer : List ℕ) (at n : ℕ) → at ≡ length bytes
    → GivesPart now new name at n buffer → GivesPart now new name (length bytes) n buffer
at_length now new name bytes buffer at n e gives =
    subst (λ (k : ℕ). GivesPart now new name k n buffer) e gives

module _ (old now new : FilesSeen) (name : List ℕ) (limit : ℕ) (bytes buffer : List ℕ) (n : ℕ)
    (sofar : SoFar old name limit bytes now) where
  still : now.contents ≡ old.contents
  still = ap (λ (s : FilesSeen). s.contents) sofar.quiet

  count_after : GivesPart now new name (length bytes) n buffer
      → new.given ≡ raised old.given (length bytes + n)
  count_after gives = raised_again old.given now.given new.given (length bytes) n sofar.given
      (ap (λ (s : FilesSeen). s.given) gives.stays)

  -- one more read than before
  more_calls : new.reads ≡ raised now.reads 1 → new.reads ≡ raised old.reads (sofar.calls + 1)
  more_calls one = raised_again old.reads now.reads new.reads sofar.calls 1 sofar.counted one

  took : (total most : ℕ) → new.reads ≡ raised now.reads 1 → new.given ≡ raised old.given total
      → length bytes + 1 ≤ most → Took old total most new
  took total most one given enough =
      let few = sofar.few in
      record {
        given = given;
        calls = sofar.calls + 1;
        some = omega arith;
        few = omega arith;
        counted = more_calls one;
      }

  one_more : GivesPart now new name (length bytes) n buffer → new.reads ≡ raised now.reads 1
  one_more gives = ap (λ (s : FilesSeen). s.reads) gives.stays

  length_after : GivesPart now new name (length bytes) n buffer
      → length (bytes ++ take n buffer) ≡ length bytes + n
  length_after gives = length-append bytes (take n buffer)
      ∙ ap (λ (k : ℕ). length bytes + k) (length-take-le n buffer gives.fits)

  -- the file that the piece came of
  told_file : GivesPart now new name (length bytes) n buffer → (bytes_of : List ℕ → Option (List ℕ))
      → old.contents ≡ Some bytes_of
      → (file : List ℕ) × (bytes_of name ≡ Some file) × IsPieceAt file (length bytes) n buffer
  told_file gives bytes_of is = file_of (λ file. IsPieceAt file (length bytes) n buffer) now.contents name
      bytes_of gives.told (still ∙ is)

  pub grown : 1 ≤ n → GivesPart now new name (length bytes) n buffer → length bytes + n ≤ limit
      → SoFar old name limit (bytes ++ take n buffer) new
  grown some gives within = record {
    fits = omega (arith, length_after gives);
    quiet = OnlyGave-again old now new _ _ sofar.quiet gives.stays;
    given = count_after gives ∙ ap (λ (m : ℕ). raised old.given m) (sym (length_after gives));
    calls = sofar.calls + 1;
    few = (let few = sofar.few in omega (arith, length_after gives));
    counted = more_calls (one_more gives);
    front = λ bytes_of is file there.
        let t = told_file gives bytes_of is in
        let part : IsPieceAt file (length bytes) n buffer =
        subst (λ (f : List ℕ). IsPieceAt f (length bytes) n buffer)
        (same_file t.0 file (bytes_of name) t.1 there) t.2 in
        next_part bytes buffer file n gives.fits (sofar.front bytes_of is file there) part.same;
  }

  pub ended : n ≡ 0 → GivesPart now new name (length bytes) n buffer → GivesWhole old name limit bytes new
  ended none gives =
      let total : new.given ≡ raised old.given (length bytes) =
      count_after gives ∙ ap (λ (m : ℕ). raised old.given m) (omega arith) in
      record {
        came = came_by old new name bytes total (λ bytes_of is.
            let t = told_file gives bytes_of is in
            t.1 ∙ ap (λ (f : List ℕ). Some f)
            (sym (all_of bytes t.0 (sofar.front bytes_of is t.0 t.1) (t.2.ended none))));
        fits = sofar.fits;
        took = took (length bytes) (length bytes + 1) (one_more gives) total (omega arith);
        quiet = OnlyGave-again old now new _ _ sofar.quiet gives.stays;
      }

  pub passed : GivesPart now new name (length bytes) n buffer → limit < length bytes + n
      → IsTooLong old name limit new
  passed gives over = record {
    came = longer_by old new name (bytes ++ take n buffer) limit (omega (arith, length_after gives))
        (count_after gives ∙ ap (λ (m : ℕ). raised old.given m) (sym (length_after gives))) (λ bytes_of is.
        let t = told_file gives bytes_of is in
        let within = t.2.within in
        let fits = sofar.fits in
        (t.0, t.1, omega arith));
    took = (
      length bytes + n,
      over,
      took (length bytes + n) (limit + 1) (one_more gives) (count_after gives)
          (let fits = sofar.fits in omega arith),
    );
    quiet = OnlyGave-again old now new _ _ sofar.quiet gives.stays;
  }

  pub failed : FailsToRead now new name → Faults old name limit new
  failed fails =
      let given : new.given ≡ now.given = ap (λ (s : FilesSeen). s.given) fails.stays in
      let reads : new.reads ≡ raised now.reads 1 = ap (λ (s : FilesSeen). s.reads) fails.stays in
      let before : now.failed_reads ≡ old.failed_reads = ap (λ (s : FilesSeen). s.failed_reads) sofar.quiet in
      record {
        rose = subst (λ (k : ℕ). Rose k new.failed_reads) before fails.rose;
        took = (
          length bytes,
          sofar.fits,
          took (length bytes) (length bytes + 1) reads (given ∙ sofar.given)
              (omega arith),
        );
        stays = Faults-after old now new name _ sofar.quiet fails.stays;
      }

  pub ran_out : 1 ≤ n → GivesPart now new name (length bytes) n buffer → length bytes + n ≤ limit
      → RunsOut old limit new
  ran_out some gives within = record {
    took = (
      length bytes + n,
      within,
      took (length bytes + n) (length bytes + n) (one_more gives)
          (count_after gives) (omega arith),
    );
    quiet = OnlyGave-again old now new _ _ sofar.quiet gives.stays;
  }
