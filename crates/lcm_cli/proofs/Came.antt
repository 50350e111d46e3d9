-- What comes of plans, by the bytes of their files.
use Rattle.std.proofs.Common.{◌≡◌, ◌⊎◌, ℕ, List, [], ◌∷◌, ◌++◌, refl, sym, ap, subst, ◌∙◌, inl, inr}
use Rattle.std.proofs.Common.{append-nil}
use Rattle.std.specs.Prelude.{Result, Ok, Err}
use Rattle.outside_io.specs.FilesSeen.{FilesSeen}
use Rattle.outside_io.specs.Whole.{GivesWhole}
use Rattle.file_plans.specs.declared.TheConstants.{LONGEST_FILE}
use Rattle.file_plans.specs.declared.refusal.Refusal.{Refusal}
use Rattle.file_plans.specs.declared.refusal.Refusal.TheVariants as refusal
use Rattle.file_plans.specs.Plans.{Plan, Reads, Ends, Made, ◌>>=◌, unless, whole, too_long, unread, Comes}
use Rattle.lcm_cli.specs.Bytes.{bytes_of, ComesOf}

-- ---- plans that are joined

-- the first made something and the next went on, each with some of the bytes; or the first ended the call
abbrev pub SplitOf : {A B : Type 0} → Plan A → (A → Plan B) → List (List ℕ) → FilesSeen → Result B Refusal
    → FilesSeen → Type 0
SplitOf {A} p f read old due new =
    ((x : A) × (mid : FilesSeen) × (front : List (List ℕ)) × (back : List (List ℕ))
    × ComesOf p front old (Ok x) mid × ComesOf (f x) back mid due new × (read ≡ front ++ back))
    ⊎ ((why : Refusal) × ComesOf p read old (Err why) new × (due ≡ Err why))

pub split_of : {A B : Type 0} (p : Plan A) (f : A → Plan B) (read : List (List ℕ)) (old new : FilesSeen)
    (due : Result B Refusal) → ComesOf (p >>= f) read old due new → SplitOf p f read old due new
split_of (Made x) f read old new due h = inl (x, old, [], read, ((refl, refl), refl), h, refl)
split_of (Ends why) f read old new due (h, e) = inr (why, ((refl, h.1), e), h.0)
split_of (Reads name index next) f read old new due (whole bytes mid w h, e) =
    elim (split_of (next bytes) f (bytes_of (next bytes >>= f) mid due new h) mid new due (h, refl))
    as (λ _. SplitOf (Reads name index next) f read old due new) [
      | inl s ↦ inl (
        s.0,
        s.1,
        bytes ∷ s.2,
        s.3,
        (whole bytes mid w s.4.0, ap (λ r. bytes ∷ r) s.4.1),
        s.5,
        sym e ∙ ap (λ r. bytes ∷ r) s.6,
      )
      | inr s ↦ inr (s.0, (whole bytes mid w s.1.0, ap (λ r. bytes ∷ r) s.1.1 ∙ e), s.2)
    ]
split_of (Reads name index next) f read old new due (too_long t d, e) =
    inr (refusal.TooLong index, (too_long t refl, e), d)
split_of (Reads name index next) f read old new due (unread t d, e) =
    inr (refusal.ReadFault, (unread t refl, e), d)

-- ---- plans that read nothing

abbrev pub IsSettled : {A : Type 0} → Plan A → Type 0
IsSettled {A} p = ((x : A) × (p ≡ Made x)) ⊎ ((why : Refusal) × (p ≡ Ends why))

pub settled_unless : {A F : Type 0} (told : F → Refusal) (r : Result A F) → IsSettled (unless told r)
settled_unless told (Ok x) = inl (x, refl)
settled_unless told (Err f) = inr (told f, refl)

pub settled_bind : {A B : Type 0} (p : Plan A) (f : A → Plan B) → IsSettled p → ((x : A) → IsSettled (f x))
    → IsSettled (p >>= f)
settled_bind p f (inl m) k = rw m.1 (k m.0)
settled_bind p f (inr e) k = rw e.1 (inr (e.0, refl))

pub none_read : {A : Type 0} (p : Plan A) → IsSettled p → (read : List (List ℕ)) (old new : FilesSeen)
    (due : Result A Refusal) → ComesOf p read old due new → (read ≡ []) × (new ≡ old)
none_read p (inl m) read old new due h =
    let c : ComesOf (Made m.0) read old due new = subst (λ q. ComesOf q read old due new) m.1 h in
    (sym c.1, c.0.1)
none_read {A} p (inr e) read old new due h =
    let c : ComesOf (let q : Plan A = Ends e.0 in q) read old due new =
    subst (λ q. ComesOf q read old due new) e.1 h in
    (sym c.1, c.0.1)

-- what comes of a plan, if what goes on with it reads nothing
abbrev pub FirstOf : {A B : Type 0} → Plan A → (A → Plan B) → List (List ℕ) → FilesSeen → Result B Refusal
    → FilesSeen → Type 0
FirstOf {A} p f read old due new =
    ((x : A) × ComesOf p read old (Ok x) new × Comes (f x) new due new)
    ⊎ ((why : Refusal) × ComesOf p read old (Err why) new × (due ≡ Err why))

pub came_first : {A B : Type 0} (p : Plan A) (f : A → Plan B) → ((x : A) → IsSettled (f x))
    → (read : List (List ℕ)) (old new : FilesSeen) (due : Result B Refusal)
    → ComesOf (p >>= f) read old due new → FirstOf p f read old due new
came_first p f still read old new due h =
    elim (split_of p f read old new due h) as (λ _. FirstOf p f read old due new) [
      | inl s ↦ (
          let n = none_read (f s.0) (still s.0) s.3 s.1 new due s.5 in
          let e : read ≡ s.2 = s.6 ∙ ap (λ b. s.2 ++ b) n.0 ∙ append-nil s.2 in
          let c : ComesOf p read old (Ok s.0) s.1 = subst (λ r. ComesOf p r old (Ok s.0) s.1) (sym e) s.4 in
          inl (
            s.0,
            subst (λ z. ComesOf p read old (Ok s.0) z) (sym n.1) c,
            subst (λ z. Comes (f s.0) z due new) (sym n.1) s.5.0,
          )
          )
      | inr s ↦ inr s
    ]

-- a file came whole, it alone, and its bytes say what is due
abbrev pub WholeRead : {A : Type 0} → List ℕ → (List ℕ → Plan A) → List (List ℕ) → FilesSeen
    → Result A Refusal → FilesSeen → Type 0
WholeRead name next read old due new =
    (bytes : List ℕ) × (read ≡ bytes ∷ []) × GivesWhole old name LONGEST_FILE bytes new
    × Comes (next bytes) new due new

-- or it didn't
abbrev pub OneRead : {A : Type 0} → List ℕ → ℕ → (List ℕ → Plan A) → List (List ℕ) → FilesSeen
    → Result A Refusal → FilesSeen → Type 0
OneRead name index next read old due new =
    WholeRead name next read old due new
    ⊎ ((due ≡ Err (refusal.TooLong index)) ⊎ (due ≡ Err refusal.ReadFault))

pub one_read : {A : Type 0} (name : List ℕ) (index : ℕ) (next : List ℕ → Plan A)
    → ((bytes : List ℕ) → IsSettled (next bytes)) → (read : List (List ℕ)) (old new : FilesSeen)
    (due : Result A Refusal) → ComesOf (let p : Plan A = Reads name index next in p) read old due new
    → OneRead name index next read old due new
one_read name index next still read old new due (whole bytes mid w h, e) =
    let n = none_read (next bytes) (still bytes) (bytes_of (next bytes) mid due new h) mid new due (h, refl)
    in
    inl (
      bytes,
      sym e ∙ ap (λ r. bytes ∷ r) n.0,
      subst (λ z. GivesWhole old name LONGEST_FILE bytes z) (sym n.1) w,
      subst (λ z. Comes (next bytes) z due new) (sym n.1) h,
    )
one_read name index next still read old new due (too_long t d, e) = inr (inl d)
one_read name index next still read old new due (unread t d, e) = inr (inr d)

pub read_made : {A : Type 0} (name : List ℕ) (index : ℕ) (next : List ℕ → Plan A)
    → ((bytes : List ℕ) → IsSettled (next bytes)) → (read : List (List ℕ)) (old new : FilesSeen) (x : A)
    → ComesOf (let p : Plan A = Reads name index next in p) read old (Ok x) new
    → WholeRead name next read old (Ok x) new
read_made name index next still read old new x h =
    elim (one_read name index next still read old new (Ok x) h)
    as (λ _. WholeRead name next read old (Ok x) new) [
      | inl s ↦ s
      | inr s ↦ absurd (elim s as (λ _. ⊥) [ inl e ↦ cc | inr e ↦ cc ])
    ]
