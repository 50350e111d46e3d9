-- Texts written one after the other: that all was written, and that a front stands, compose; and so with
-- texts in pieces.
use Rattle.std.proofs.Common.{◌≡◌, ℕ, zero, suc, ◌+◌, ◌≤◌, inl, inr, List, [], ◌∷◌, ◌++◌, length, take}
use Rattle.std.proofs.Common.{Option, Some, None, Result, Ok, Err, refl, sym, ap, ◌∙◌, arith, subst}
use Rattle.std.specs.Prelude.{option_map, IsErr, OnOk, OnErr}
use Rattle.std.specs.List.{concat}
use Rattle.std.proofs.lemmas.Bool.{cases_lt}
use Rattle.std.proofs.lemmas.List.{append_assoc, append-nil, length-append, take-append-le}
use Rattle.std.proofs.lemmas.List.Folds.{concat-append}
use Rattle.std.proofs.Math.Seq.{take-append-add}
use Rattle.outside_io.specs.Counts.{raised}
use Rattle.outside_io.specs.SinkSeen.{SinkSeen, written_after, Adds, FailsToWrite, IsOneWrite}
use Rattle.outside_io.specs.declared.outside.Failed.{Failed}
use Rattle.outside_io.specs.Writes.{AddsPieces, FailsAtPiece, Writes}

after_by : (o : Option (List ℕ)) (x y : List ℕ)
    → option_map (λ w. w ++ y) (option_map (λ w. w ++ x) o) ≡ option_map (λ w. w ++ (x ++ y)) o
after_by None x y = refl
after_by (Some w) x y = ap Some (append_assoc w x y)

none_by : (o : Option (List ℕ)) → o ≡ option_map (λ w. w ++ []) o
none_by None = refl
none_by (Some w) = ap Some (sym (append-nil w))

-- ---- texts

-- a sink with other bytes told, and another count of writes
abbrev told_as : SinkSeen → Option (List ℕ) → ℕ → SinkSeen
told_as s o n = record s { written = o; writes = n }

-- nothing written
pub adds_none : (a : SinkSeen) → Adds a [] a
adds_none a = ap (λ (o : Option (List ℕ)). told_as a o a.writes) (none_by a.written)

pub adds_then : (a b c : SinkSeen) (x y : List ℕ) → Adds a x b → Adds b y c → Adds a (x ++ y) c
adds_then a b c x y e f =
    f ∙ ap (λ (s : SinkSeen). told_as s (written_after s y) c.writes) e
    ∙ ap (λ (o : Option (List ℕ)). told_as a o c.writes) (after_by a.written x y)

fails_behind : (a c : SinkSeen) (n : ℕ) (x y : List ℕ) → FailsToWrite (told_as a (written_after a x) n) y c
    → FailsToWrite a (x ++ y) c
fails_behind a c n x y f = record {
  rose = f.rose;
  front = (
    length x + f.front.0,
    (let le : f.front.0 ≤ length y = f.front.1 in
        let more : length (x ++ y) ≡ length x + length y = length-append x y in omega arith),
    f.front.2 ∙ after_by a.written x (take f.front.0 y)
        ∙ ap (λ (t : List ℕ). written_after a t) (sym (take-append-add x y f.front.0)),
  );
}

pub adds_fails : (a b c : SinkSeen) (x y : List ℕ) → Adds a x b → FailsToWrite b y c
    → FailsToWrite a (x ++ y) c
adds_fails a b c x y e f = fails_behind a c b.writes x y (subst (λ (s : SinkSeen). FailsToWrite s y c) e f)

pub fails_more : (a c : SinkSeen) (x y : List ℕ) → FailsToWrite a x c → FailsToWrite a (x ++ y) c
fails_more a c x y f = record {
  rose = f.rose;
  front = (
    f.front.0,
    (let le : f.front.0 ≤ length x = f.front.1 in
        let more : length (x ++ y) ≡ length x + length y = length-append x y in omega arith),
    f.front.2 ∙ ap (λ (t : List ℕ). written_after a t) (sym (take-append-le f.front.0 x y f.front.1)),
  );
}

-- ---- texts in pieces

raised_none : (n : ℕ) → raised n 0 ≡ n
raised_none n = omega arith

pub raised-raised : (a n m : ℕ) → raised (raised a n) m ≡ raised a (n + m)
raised-raised a n m = omega arith

pub pieces_none : (a : SinkSeen) → AddsPieces a [] a
pieces_none a = record { text = adds_none a; counted = sym (raised_none a.writes) }

pub pieces_then : (a b c : SinkSeen) (xs ys : List (List ℕ)) → AddsPieces a xs b → AddsPieces b ys c
    → AddsPieces a (xs ++ ys) c
pieces_then a b c xs ys e f = record {
  text = subst (λ t. Adds a t c) (sym (concat-append xs ys))
      (adds_then a b c (concat xs) (concat ys) e.text f.text);
  counted = f.counted ∙ ap (λ n. raised n (length ys)) e.counted
      ∙ raised-raised a.writes (length xs) (length ys) ∙ ap (raised a.writes) (sym (length-append xs ys));
}

pub pieces_fail : (a b c : SinkSeen) (xs ys : List (List ℕ)) → AddsPieces a xs b → FailsAtPiece b ys c
    → FailsAtPiece a (xs ++ ys) c
pieces_fail a b c xs ys e f = record {
  before = xs ++ f.before;
  piece = f.piece;
  behind = f.behind;
  are = ap (λ zs. xs ++ zs) f.are ∙ sym (append_assoc xs f.before (f.piece ∷ f.behind));
  mid = f.mid;
  written = pieces_then a b f.mid xs f.before e f.written;
  fails = f.fails;
  counted = f.counted;
}

pub fail_more : (a c : SinkSeen) (xs ys : List (List ℕ)) → FailsAtPiece a xs c → FailsAtPiece a (xs ++ ys) c
fail_more a c xs ys f = record {
  before = f.before;
  piece = f.piece;
  behind = f.behind ++ ys;
  are = ap (λ zs. zs ++ ys) f.are ∙ append_assoc f.before (f.piece ∷ f.behind) ys;
  mid = f.mid;
  written = f.written;
  fails = f.fails;
  counted = f.counted;
}

-- pieces that grow: where one of a front of them failed to be written, so did the whole
pub fails_upto : (T x : ℕ → List (List ℕ)) → ((n : ℕ) → T (suc n) ≡ T n ++ x n) → (a c : SinkSeen) (i n : ℕ)
    → i ≤ n → FailsAtPiece a (T i) c → FailsAtPiece a (T n) c
fails_upto T x grows a c zero zero le f = f
fails_upto T x grows a c (suc i) zero le f = absurd (omega arith)
fails_upto T x grows a c i (suc n) le f = elim (cases_lt n i) as (λ _. FailsAtPiece a (T (suc n)) c) [
  | inl above ↦ (let same : i ≡ suc n = omega arith in subst (λ k. FailsAtPiece a (T k) c) same f)
  | inr below ↦ subst (λ t. FailsAtPiece a t c) (sym (grows n))
      (fail_more a c (T n) (x n) (fails_upto T x grows a c i n below f))
]

-- a text in pieces written after another, whether it came or not
pub writes_behind : {A : Type 0} → (a b c : SinkSeen) (xs ys : List (List ℕ)) (r : Result A Failed)
    → AddsPieces a xs b → Writes b ys r c → Writes a (xs ++ ys) r c
writes_behind a b c xs ys (Ok v) e w = pieces_then a b c xs ys e w
writes_behind a b c xs ys (Err f) e w = pieces_fail a b c xs ys e w

-- one of some pieces failed to be written, and so did the text
pub failed_writes : {A : Type 0} → (a c : SinkSeen) (xs : List (List ℕ)) (r : Result A Failed) → IsErr r
    → FailsAtPiece a xs c → Writes a xs r c
failed_writes a c xs (Ok v) bad f = absurd (let no : ⊥ = cc in no)
failed_writes a c xs (Err e) bad f = f

-- one piece, by one write
pub one_piece : (a c : SinkSeen) (x : List ℕ) → Adds a x c → IsOneWrite a c → AddsPieces a (x ∷ []) c
one_piece a c x e one = record { text = subst (λ t. Adds a t c) (sym (append-nil x)) e; counted = one }

pub one_write : {A : Type 0} → (a c : SinkSeen) (x : List ℕ) (r : Result A Failed) → OnOk r (Adds a x c)
    → OnErr r (FailsToWrite a x c) → IsOneWrite a c → Writes a (x ∷ []) r c
one_write a c x (Ok v) well badly one = one_piece a c x well one
one_write a c x (Err e) well badly one = record {
  before = [];
  piece = x;
  behind = [];
  are = refl;
  mid = a;
  written = pieces_none a;
  fails = badly;
  counted = one;
}

-- where one of the pieces failed to be written, so did their text
pub text_failed : (a c : SinkSeen) (xs : List (List ℕ)) → FailsAtPiece a xs c → FailsToWrite a (concat xs) c
text_failed a c xs f =
    let joined : concat xs ≡ concat f.before ++ (f.piece ++ concat f.behind) =
    ap concat f.are ∙ concat-append f.before (f.piece ∷ f.behind) in
    subst (λ t. FailsToWrite a t c) (sym joined)
    (adds_fails a f.mid c (concat f.before) (f.piece ++ concat f.behind) f.written.text
    (fails_more f.mid c f.piece (concat f.behind) f.fails))
