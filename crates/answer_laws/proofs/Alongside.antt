-- Two plans over two sets of files that come to the same.
use Rattle.std.proofs.Common.{◌≡◌, ◌⊎◌, ℕ, ◌<◌, ◌≤◌, List, [], ◌∷◌, length, Option, Some, None, Bool, true}
use Rattle.std.proofs.Common.{false, suc, refl, sym, ap, arith, inl, inr, le-leb}
use Rattle.std.specs.Prelude.{◌+◌, nat_le, Result, Ok, Err}
use Rattle.std.proofs.lemmas.Bool.{leb-true}
use Rattle.std.proofs.lemmas.Bool.Decides.{nat_tests}
use Rattle.command_words.specs.declared.part.PartWord.{PartWord}
use Rattle.file_plans.specs.declared.TheConstants.{LONGEST_FILE}
use Rattle.file_plans.specs.declared.refusal.Refusal.{Refusal}
use Rattle.file_plans.specs.declared.refusal.Refusal.TheVariants.{TooLong}
use Rattle.file_plans.specs.Plans.{Plan, Reads, Ends, Made, ◌>>=◌, unless, each_at}
use Rattle.command_words.specs.Plans.{Settles}
use Rattle.answer_laws.specs.Roads.{Held, Pairwise}

-- ---- what is due, as a value; none where a file isn't there

abbrev pub Due : Type 0 → Type 0
Due A = Option (Result A Refusal)

-- the bytes of a file, with what is due to them
abbrev pub by_length : {A : Type 0} → ℕ → List ℕ → Bool → Due A → Due A
by_length index bytes true due = due
by_length index bytes false due = Some (Err (TooLong index))

abbrev pub by_bytes : {A : Type 0} → ℕ → (List ℕ → Due A) → Option (List ℕ) → Due A
by_bytes index next None = None
by_bytes index next (Some bytes) = by_length index bytes (nat_le (length bytes) LONGEST_FILE) (next bytes)

abbrev pub settled : {A : Type 0} → Held → Plan A → Due A
settled held (Made x) = Some (Ok x)
settled held (Ends why) = Some (Err why)
settled held (Reads name index next) = by_bytes index (λ bytes. settled held (next bytes)) (held name)

longer : (n m : ℕ) → m < n → nat_le n m ≡ false
longer n m h = grind (arith, nat_tests)

shorter : (n m : ℕ) → nat_le n m ≡ false → m < n
shorter n m h = grind (arith, nat_tests)

same_some : {A : Type 0} (x y : Result A Refusal) → (let o : Due A = Some x in o) ≡ Some y → y ≡ x
same_some x y e = cc

module _ {A : Type 0} (held : Held) where
  pub settled_by : (plan : Plan A) (due : Result A Refusal) → Settles held plan due
      → settled held plan ≡ Some due
  settled_by (Made x) due h = ap (λ d. Some d) (sym h)
  settled_by (Ends why) due h = ap (λ d. Some d) (sym h)
  settled_by (Reads name index next) due (bytes, e, inl h) =
      rw (e, le-leb (length bytes) LONGEST_FILE h.0) (settled_by (next bytes) due h.1)
  settled_by (Reads name index next) due (bytes, e, inr h) =
      rw (e, longer (length bytes) LONGEST_FILE h.0) (ap (λ d. Some d) (sym h.1))

  due_at : (index : ℕ) (bytes : List ℕ) (b : Bool) (next : Plan A) (due : Result A Refusal)
      → nat_le (length bytes) LONGEST_FILE ≡ b → (settled held next ≡ Some due → Settles held next due)
      → by_length index bytes b (settled held next) ≡ Some due
      → ((length bytes ≤ LONGEST_FILE) × Settles held next due)
      ⊎ ((LONGEST_FILE < length bytes) × (due ≡ Err (TooLong index)))
  due_at index bytes true next due l k e = inl (leb-true (length bytes) LONGEST_FILE l, k e)
  due_at index bytes false next due l k e =
      inr (shorter (length bytes) LONGEST_FILE l, same_some (Err (TooLong index)) due e)

  due_of : (name : List ℕ) (index : ℕ) (next : List ℕ → Plan A) (due : Result A Refusal) (o : Option (List ℕ))
      → held name ≡ o
      → ((bytes : List ℕ) → settled held (next bytes) ≡ Some due → Settles held (next bytes) due)
      → by_bytes index (λ bytes. settled held (next bytes)) o ≡ Some due
      → Settles held (let p : Plan A = Reads name index next in p) due
  due_of name index next due None h k e = absurd (cc)
  due_of name index next due (Some bytes) h k e =
      (bytes, h, due_at index bytes (nat_le (length bytes) LONGEST_FILE) (next bytes) due refl (k bytes) e)

  pub settles : (plan : Plan A) (due : Result A Refusal) → settled held plan ≡ Some due
      → Settles held plan due
  settles (Made x) due e = same_some (Ok x) due e
  settles (Ends why) due e = same_some (Err why) due e
  settles (Reads name index next) due e =
      due_of name index next due (held name) refl (λ bytes. settles (next bytes) due) e

-- ---- what is due is the same, but for what was made

abbrev pub Match : {A B : Type 0} → (A → B → Type 0) → Due A → Due B → Type 0
Match R None None = Unit {0}
Match R (Some (Ok x)) (Some (Ok y)) = R x y
Match R (Some (Err why)) (Some (Err other)) = why ≡ other
Match R _ _ = ⊥

-- plans over their files that come to the same
abbrev pub Agree : {A B : Type 0} → Held → Held → (A → B → Type 0) → Plan A → Plan B → Type 0
Agree held there R p q = Match R (settled held p) (settled there q)

-- what goes on with what was made
abbrev pub on : {A B : Type 0} → Due A → (A → Due B) → Due B
on None f = None
on (Some (Ok x)) f = f x
on (Some (Err why)) f = Some (Err why)

pub settled_bind : {A B : Type 0} (held : Held) (p : Plan A) (f : A → Plan B)
    → settled held (p >>= f) ≡ on (settled held p) (λ x. settled held (f x))
settled_bind held (Made x) f = refl
settled_bind held (Ends why) f = refl
settled_bind held (Reads name index next) f = by_read (λ bytes. settled_bind held (next bytes) f) (held name)
  where
    by_size : (b : Bool) (bytes : List ℕ)
        → settled held (next bytes >>= f) ≡ on (settled held (next bytes)) (λ x. settled held (f x))
        → by_length index bytes b (settled held (next bytes >>= f))
        ≡ on (by_length index bytes b (settled held (next bytes))) (λ x. settled held (f x))
    by_size true bytes e = e
    by_size false bytes e = refl

    by_read : ((bytes : List ℕ)
        → settled held (next bytes >>= f) ≡ on (settled held (next bytes)) (λ x. settled held (f x)))
        → (o : Option (List ℕ)) → by_bytes index (λ bytes. settled held (next bytes >>= f)) o
        ≡ on (by_bytes index (λ bytes. settled held (next bytes)) o) (λ x. settled held (f x))
    by_read k None = refl
    by_read k (Some bytes) = by_size (nat_le (length bytes) LONGEST_FILE) bytes (k bytes)

-- ---- lists

pub as_many : {A B : Type 0} (R : A → B → Type 0) (xs : List A) (ys : List B) → Pairwise R xs ys
    → length ys ≡ length xs
as_many R [] [] h = refl
as_many R [] (y ∷ ys) h = absurd h
as_many R (x ∷ xs) [] h = absurd h
as_many R (x ∷ xs) (y ∷ ys) h = ap suc (as_many R xs ys h.1)

pub all_equal : {A : Type 0} (xs ys : List A) → Pairwise (λ x y. x ≡ y) xs ys → xs ≡ ys
all_equal [] [] h = refl
all_equal [] (y ∷ ys) h = absurd h
all_equal (x ∷ xs) [] h = absurd h
all_equal (x ∷ xs) (y ∷ ys) h = let e = h.0 in let f = all_equal xs ys h.1 in cc

-- ---- plans that come to the same

module _ (held there : Held) where
  match_on : {A B C D : Type 0} (R : A → B → Type 0) (S : C → D → Type 0) (x : Due A) (y : Due B)
      (f : A → Due C) (g : B → Due D)
      → Match R x y → ((a : A) (b : B) → R a b → Match S (f a) (g b)) → Match S (on x f) (on y g)
  match_on R S None None f g m k = tt
  match_on R S None (Some (Ok b)) f g m k = absurd m
  match_on R S None (Some (Err why)) f g m k = absurd m
  match_on R S (Some (Ok a)) None f g m k = absurd m
  match_on R S (Some (Ok a)) (Some (Ok b)) f g m k = k a b m
  match_on R S (Some (Ok a)) (Some (Err why)) f g m k = absurd m
  match_on R S (Some (Err why)) None f g m k = absurd m
  match_on R S (Some (Err why)) (Some (Ok b)) f g m k = absurd m
  match_on R S (Some (Err why)) (Some (Err other)) f g m k = m

  pub agree_bind : {A B C D : Type 0} (R : A → B → Type 0) (S : C → D → Type 0) (p : Plan A) (q : Plan B)
      (f : A → Plan C) (g : B → Plan D)
      → Agree held there R p q → ((a : A) (b : B) → R a b → Agree held there S (f a) (g b))
      → Agree held there S (p >>= f) (q >>= g)
  agree_bind R S p q f g m k =
      rw (settled_bind held p f, settled_bind there q g)
      (match_on R S (settled held p) (settled there q) _ _ m k)

  -- words of which each is so to each of others
  pub each_agree : {A : Type 0} (B : PartWord → PartWord → Type 0) (R : A → A → Type 0)
      (item : ℕ → PartWord → Plan A)
      → ((index : ℕ) (w v : PartWord) → B w v → Agree held there R (item index w) (item index v))
      → (index : ℕ) (ws vs : List PartWord) → Pairwise B ws vs
      → Agree held there (Pairwise R) (each_at item index ws) (each_at item index vs)
  each_agree B R item k index [] [] h = tt
  each_agree B R item k index [] (v ∷ vs) h = absurd h
  each_agree B R item k index (w ∷ ws) [] h = absurd h
  each_agree B R item k index (w ∷ ws) (v ∷ vs) h =
      agree_bind R (Pairwise R) (item index w) (item index v) _ _ (k index w v h.0) (λ a b r.
      agree_bind (Pairwise R) (Pairwise R) (each_at item (index + 1) ws) (each_at item (index + 1) vs) _ _
      (each_agree B R item k (index + 1) ws vs h.1) (λ xs ys rs. (r, rs)))

-- ---- a file that is read, and what a layer below gives of it

abbrev pub told : {A F : Type 0} → (F → Refusal) → Result A F → Result A Refusal
told why (Ok x) = Ok x
told why (Err f) = Err (why f)

pub settled_unless : {A F : Type 0} (held : Held) (why : F → Refusal) (r : Result A F)
    → settled held (unless why r) ≡ Some (told why r)
settled_unless held why (Ok x) = refl
settled_unless held why (Err f) = refl

pub match_same : {A : Type 0} (r : Due A) → Match (λ x y. x ≡ y) r r
match_same None = tt
match_same (Some (Ok x)) = refl
match_same (Some (Err why)) = refl
