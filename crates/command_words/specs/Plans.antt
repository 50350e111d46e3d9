-- The order in which a call reads its files. A plan reads a file and goes on with its bytes, ends the call,
-- or has made something.
use Rattle.std.specs.Prelude.{◌≡◌, ◌⊎◌, ℕ, ◌<◌, ◌≤◌, List, length, Option, Some, None, Result, Ok, Err, ⊤}
use Rattle.outside_io.specs.FilesSeen.{FilesSeen}
use Rattle.outside_io.specs.Whole.{GivesWhole, IsTooLong, Faults, OnlyGave}

-- how a program reads: what it refuses, and why its bodies stop; the most bytes of a file; the refusal of a
-- longer one, by its index, and of one of which a read failed; and what a stop tells, where memory wasn't
-- refused
pub record Reading : Type 1 where
  pub Refusal : Type 0
  pub Stop : Type 0
  pub longest : ℕ
  pub longer : ℕ → Refusal
  pub unreadable : Refusal
  pub told : Stop → Option Refusal

-- `index` is that of the file, which a refusal tells
pub data PlanOf (k : Reading) (A : Type 0) : Type 0 where
  Reads : (name : List ℕ) (index : ℕ) (next : List ℕ → PlanOf k A) → PlanOf k A
  Ends : (why : k.Refusal) → PlanOf k A
  Made : (made : A) → PlanOf k A

infixl 10 ◌>>=◌
abbrev pub ◌>>=◌ : {k : Reading} {A B : Type 0} → PlanOf k A → (A → PlanOf k B) → PlanOf k B
(Reads name index next) >>= f = Reads name index (λ bytes. next bytes >>= f)
(Ends why) >>= f = Ends why
(Made x) >>= f = f x

-- ---- what comes of a plan

-- a file came whole, and the plan goes on; or the call ends, since it is too long or a read failed
pub data ReadCame (k : Reading) (old : FilesSeen) (name : List ℕ) (index : ℕ)
    (goes : List ℕ → FilesSeen → Type 0) (ends : k.Refusal → Type 0) (new : FilesSeen) : Type 0 where
  whole : (bytes : List ℕ) (mid : FilesSeen) → GivesWhole old name k.longest bytes mid → goes bytes mid
      → ReadCame k old name index goes ends new
  too_long : IsTooLong old name k.longest new → ends (k.longer index)
      → ReadCame k old name index goes ends new
  unread : Faults old name k.longest new → ends k.unreadable → ReadCame k old name index goes ends new

-- what comes of a plan, from files that tell `old` to files that tell `new`: what it made, or why it ends
abbrev pub Comes : {k : Reading} {A : Type 0} → PlanOf k A → FilesSeen → Result A k.Refusal → FilesSeen
    → Type 0
Comes (Made x) old due new = (due ≡ Ok x) × (new ≡ old)
Comes (Ends why) old due new = (due ≡ Err why) × (new ≡ old)
Comes {k} (Reads name index next) old due new =
    ReadCame k old name index (λ bytes mid. Comes (next bytes) mid due new) (λ why. due ≡ Err why) new

-- ---- bodies

-- the plan ends with what a stop tells; or memory was refused, and nothing changed but what reads gave
abbrev pub Stops : {k : Reading} {A : Type 0} → PlanOf k A → FilesSeen → Option k.Refusal → FilesSeen → Type 0
Stops plan old (Some why) new = Comes plan old (Err why) new
Stops plan old None new = OnlyGave old new

-- a body's answer is what came of the plan, or the body stops
abbrev pub Follows : {k : Reading} {A : Type 0} → PlanOf k A → FilesSeen → Result A k.Stop → FilesSeen
    → Type 0
Follows plan old (Ok x) new = Comes plan old (Ok x) new
Follows {k} plan old (Err stop) new = Stops plan old (k.told stop) new

-- the same of a plan that reads nothing
abbrev pub MeetsStop : {k : Reading} {A : Type 0} → PlanOf k A → Option k.Refusal → Type 0
MeetsStop plan (Some why) = plan ≡ Ends why
MeetsStop plan None = ⊤

abbrev pub Meets : {k : Reading} {A : Type 0} → PlanOf k A → Result A k.Stop → Type 0
Meets plan (Ok x) = plan ≡ Made x
Meets {k} plan (Err stop) = MeetsStop plan (k.told stop)

-- a body's answer is made of what came of the plan: `P` says how
abbrev pub FollowsAs : {k : Reading} {A B : Type 0}
    → (A → B → Type 0) → PlanOf k A → FilesSeen → Result B k.Stop → FilesSeen → Type 0
FollowsAs {A} P plan old (Ok y) new = (x : A) × Comes plan old (Ok x) new × P x y
FollowsAs {k} P plan old (Err stop) new = Stops plan old (k.told stop) new

-- ---- where the files tell what they hold

-- what comes of a plan over files of these bytes
abbrev pub Settles : {k : Reading} {A : Type 0} → (List ℕ → Option (List ℕ)) → PlanOf k A
    → Result A k.Refusal → Type 0
Settles held (Made x) due = due ≡ Ok x
Settles held (Ends why) due = due ≡ Err why
Settles {k} held (Reads name index next) due =
    (bytes : List ℕ) × (held name ≡ Some bytes)
    × (((length bytes ≤ k.longest) × Settles held (next bytes) due)
    ⊎ ((k.longest < length bytes) × (due ≡ Err (k.longer index))))
