-- The table of labels as a list.
use Rattle.std.proofs.Common.{◌≡◌, ℕ, Bool, true, false, cond, List, [], ◌∷◌, ◌++◌, map, Option, Some, None}
use Rattle.std.proofs.Common.{Result, Ok, Err, refl, ap, sym, subst}
use Rattle.std.specs.Prelude.{◌<◌, IfSome, OnOk, OnErr}
use Rattle.std.specs.Borrow.{Bor}
use Rattle.std.specs.Str.{bytes_eq}
use Rattle.std.specs.Map.{lookup}
use Rattle.cap_words.specs.declared.TheConstants.{LONGEST_STRETCH}
use Rattle.indexmap.specs.IndexMap.{insert_entry}
use Rattle.assembler.specs.declared.labels.Label.{Label}
use Rattle.assembler.specs.Labels.{label_of, AreWithin}

abbrev pub Entries : Type 0
Entries = List (Bor (List ℕ) × Label)

abbrev pub seen : Entries → List (List ℕ × Label)
seen es = map (λ e. (e.0.now, e.1)) es

pub found : (name : List ℕ) (es : Entries) → lookup (λ k. bytes_eq name k.now) es ≡ label_of name (seen es)
found name [] = refl
found name (e ∷ es) = ap (cond (bytes_eq name e.0.now) (Some e.1)) (found name es)

other : (b : Bool) (l : Label) (r : Option Label) → cond b (Some l) r ≡ None → (b ≡ false) × (r ≡ None)
other true l r h = absurd cc
other false l r h = (refl, h)

pub added : (k : Bor (List ℕ)) (l : Label) (es : Entries) → label_of k.now (seen es) ≡ None
    → seen (insert_entry (λ a b. bytes_eq a.now b.now) es k l) ≡ seen es ++ (k.now, l) ∷ []
added k l [] h = refl
added k l (e ∷ es) h =
    let p = other (bytes_eq k.now e.0.now) e.1 (label_of k.now (seen es)) h in
    let new : bytes_eq k.now e.0.now ≡ false = p.0 in
    let r = added k l es p.1 in
    rw new (ap (λ t. (e.0.now, e.1) ∷ t) r)

pub one_more : (name : List ℕ) (l : Label) (labels : List (List ℕ × Label)) → AreWithin labels
    → l.offset < LONGEST_STRETCH
    → AreWithin (labels ++ (name, l) ∷ [])
one_more name l [] h lt = (lt, tt)
one_more name l (m ∷ labels) h lt = (h.0, one_more name l labels h.1 lt)

first : (b : Bool) (m : Label) (r : Option Label) → m.offset < LONGEST_STRETCH
    → IfSome r (λ l. l.offset < LONGEST_STRETCH)
    → IfSome (cond b (Some m) r) (λ l. l.offset < LONGEST_STRETCH)
first true m r h k = h
first false m r h k = k

pub within : (name : List ℕ) (labels : List (List ℕ × Label)) → AreWithin labels
    → IfSome (label_of name labels) (λ l. l.offset < LONGEST_STRETCH)
within name [] h = tt
within name (m ∷ labels) h = first (bytes_eq name m.0) m.1 (label_of name labels) h.0 (within name labels h.1)

pub kept : {A E : Type 0} (r : Result A E) (old new inserted : Entries) → OnOk r (new ≡ inserted)
    → OnErr r (new ≡ old)
    → AreWithin (seen inserted) → AreWithin (seen old) → AreWithin (seen new)
kept (Ok x) old new inserted is same h k = let P : Entries → Type 0 =
    λ es. AreWithin (seen es) in subst P (sym is) h
kept (Err e) old new inserted is same h k = let P : Entries → Type 0 =
    λ es. AreWithin (seen es) in subst P (sym same) k
