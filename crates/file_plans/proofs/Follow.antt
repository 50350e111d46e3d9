-- What comes of the program's plans.
use Rattle.std.proofs.Common.{◌≡◌, ℕ, List, refl, ap}
use Rattle.std.specs.Prelude.{Result, Ok, Err}
use Rattle.outside_io.specs.FilesSeen.{FilesSeen}
use Rattle.outside_io.specs.Whole.{GivesWhole}
use Rattle.file_plans.specs.declared.TheConstants.{LONGEST_FILE}
use Rattle.file_plans.specs.declared.refusal.Refusal.{Refusal}
use Rattle.file_plans.specs.declared.refusal.Stop.{Stop}
use Rattle.file_plans.specs.Plans.{Plan, Ends, Made, ◌>>=◌, file, unless, whole, Comes, Follows}
use Rattle.command_words.proofs.Offers.{follows_end as any_follows_end}

-- a plan that stopped stops what goes on with it
pub follows_end : {A B : Type 0} (p : Plan A) (f : A → Plan B) (old new : FilesSeen) (s : Stop)
    → Follows p old (Err s) new → Follows (p >>= f) old (Err s) new
follows_end p f old new s h = any_follows_end p f old new s h

-- the file whose turn it was came
pub read_came : (old new : FilesSeen) (name bytes x : List ℕ) (index : ℕ)
    → GivesWhole old name LONGEST_FILE bytes new → x ≡ bytes → Comes (file name index) old (Ok x) new
read_came old new name bytes x index w e = whole bytes new w (let r : the_ok x ≡ Ok bytes = ap the_ok e in
    (r, refl))
  where
    the_ok : List ℕ → Result (List ℕ) Refusal
    the_ok y = Ok y

-- a layer below gave this, or this fault
pub unless_made : {A F : Type 0} (told : F → Refusal) (r : Result A F) (x : A) → Ok x ≡ r → unless told r
    ≡ Made x
unless_made told (Ok y) x e = made_same y x (cc)
  where
    made_same : {A : Type 0} (y x : A) → y ≡ x → (let p : Plan A = Made y in p) ≡ Made x
    made_same y x e = rw e refl
unless_made told (Err f) x e = absurd (cc)

-- what a layer gave, where the plan has made it
pub unless_gave : {A F : Type 0} (told : F → Refusal) (r : Result A F) (x : A) → unless told r ≡ Made x → r
    ≡ Ok x
unless_gave told (Ok y) x e = let same : y ≡ x = cc in ap (λ z. Ok z) same
unless_gave told (Err f) x e = absurd (cc)

pub unless_ended : {A F : Type 0} (told : F → Refusal) (r : Result A F) (f : F) → Err f ≡ r → unless told r
    ≡ Ends (told f)
unless_ended told (Ok y) f e = absurd (cc)
unless_ended told (Err h) f e = ends_same told h f (cc)
  where
    ends_same : {A F : Type 0} (told : F → Refusal) (y x : F) → y ≡ x → (let q : Plan A = Ends (told y) in q)
        ≡ Ends (told x)
    ends_same told y x e = rw e refl
