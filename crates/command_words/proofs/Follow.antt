-- What comes of plans that are joined.
use Rattle.std.proofs.Common.{◌≡◌, ℕ, List, refl, sym, ap, ◌∙◌}
use Rattle.std.specs.Prelude.{Option, Some, None, Result, Ok, Err}
use Rattle.outside_io.specs.FilesSeen.{FilesSeen}
use Rattle.outside_io.specs.Whole.{GivesWhole, OnlyGave}
use Rattle.command_words.specs.Plans.{Reading, PlanOf, Reads, Ends, Made, ◌>>=◌, whole, too_long, unread}
use Rattle.command_words.specs.Plans.{Comes, Stops, Follows, MeetsStop, Meets}

same_ok : {A R : Type 0} (x y : A) (r : Result A R) → r ≡ Ok x → r ≡ Ok y → x ≡ y
same_ok x y r e h = cc

goes_on : {k : Reading} {A B : Type 0} (f : A → PlanOf k B) (x y : A) (old mid new : FilesSeen)
    (due : Result B k.Refusal) → x ≡ y → mid ≡ old → Comes (f x) mid due new → Comes (f y) old due new
goes_on f x y old mid new due e h g = rw (← e, ← h) g

-- ---- nothing changed but what reads gave

pub only_same : (old new : FilesSeen) → new ≡ old → OnlyGave old new
only_same old new e = e ∙ ap (λ (s : FilesSeen). record old { reads = s.reads; given = s.given }) (sym e)

pub only_again : (old mid new : FilesSeen) → OnlyGave old mid → OnlyGave mid new → OnlyGave old new
only_again old mid new h g = g ∙ ap (λ (s : FilesSeen). record s { reads = new.reads; given = new.given }) h

-- ---- joining

-- the plan made something, and the next goes on from there
pub comes_bind : {k : Reading} {A B : Type 0} (p : PlanOf k A) (f : A → PlanOf k B) (old mid new : FilesSeen)
    (x : A) (due : Result B k.Refusal)
    → Comes p old (Ok x) mid → Comes (f x) mid due new → Comes (p >>= f) old due new
comes_bind (Made y) f old mid new x due h g =
    goes_on f x y old mid new due (same_ok x y (Ok x) refl h.0) h.1 g
comes_bind (Ends why) f old mid new x due h g = absurd (let e = h.0 in cc)
comes_bind (Reads name index next) f old mid new x due (whole bytes m w h) g =
    whole bytes m w (comes_bind (next bytes) f m mid new x due h g)
comes_bind (Reads name index next) f old mid new x due (too_long t e) g = absurd (cc)
comes_bind (Reads name index next) f old mid new x due (unread t e) g = absurd (cc)

err_as : {R A B : Type 0} (w why : R) → (let r : Result A R = Err why in r) ≡ Err w
    → (let r : Result B R = Err why in r) ≡ Err w
err_as w why e = cc

-- the plan ended the call
pub comes_end : {k : Reading} {A B : Type 0} (p : PlanOf k A) (f : A → PlanOf k B) (old new : FilesSeen)
    (why : k.Refusal) → Comes p old (Err why) new → Comes (p >>= f) old (Err why) new
comes_end (Made y) f old new why h = absurd (let e = h.0 in cc)
comes_end (Ends w) f old new why h = (err_as w why h.0, h.1)
comes_end (Reads name index next) f old new why (whole bytes m w h) =
    whole bytes m w (comes_end (next bytes) f m new why h)
comes_end (Reads name index next) f old new why (too_long t e) = too_long t (err_as _ why e)
comes_end (Reads name index next) f old new why (unread t e) = unread t (err_as _ why e)

stops_end : {k : Reading} {A B : Type 0} (p : PlanOf k A) (f : A → PlanOf k B) (old new : FilesSeen)
    (told : Option k.Refusal) → Stops p old told new → Stops (p >>= f) old told new
stops_end p f old new (Some why) h = comes_end p f old new why h
stops_end p f old new None h = h

pub follows_end : {k : Reading} {A B : Type 0} (p : PlanOf k A) (f : A → PlanOf k B) (old new : FilesSeen)
    (s : k.Stop) → Follows p old (Err s) new → Follows (p >>= f) old (Err s) new
follows_end {k} p f old new s h = stops_end p f old new (k.told s) h

pub comes_same : {k : Reading} {A : Type 0} (p q : PlanOf k A) (old new : FilesSeen)
    (due : Result A k.Refusal) → p ≡ q → Comes q old due new → Comes p old due new
comes_same p q old new due e h = rw e h

pub comes_quiet : {k : Reading} {A : Type 0} (p : PlanOf k A) (old new : FilesSeen) (x : A)
    → Comes p old (Ok x) new → OnlyGave old new
comes_quiet (Made y) old new x h = only_same old new h.1
comes_quiet (Ends why) old new x h = absurd (let e = h.0 in cc)
comes_quiet (Reads name index next) old new x (whole bytes m w h) =
    only_again old m new w.quiet (comes_quiet (next bytes) m new x h)
comes_quiet (Reads name index next) old new x (too_long t e) = absurd (cc)
comes_quiet (Reads name index next) old new x (unread t e) = absurd (cc)

stops_bind : {k : Reading} {A B : Type 0} (p : PlanOf k A) (f : A → PlanOf k B) (old mid new : FilesSeen)
    (x : A) (told : Option k.Refusal) → Comes p old (Ok x) mid → Stops (f x) mid told new
    → Stops (p >>= f) old told new
stops_bind p f old mid new x (Some why) h g = comes_bind p f old mid new x (Err why) h g
stops_bind p f old mid new x None h g = only_again old mid new (comes_quiet p old mid x h) g

-- a plan was followed, and then the next one
pub follows_bind : {k : Reading} {A B : Type 0} (p : PlanOf k A) (f : A → PlanOf k B)
    (old mid new : FilesSeen) (x : A) (r : Result B k.Stop) → Comes p old (Ok x) mid
    → Follows (f x) mid r new → Follows (p >>= f) old r new
follows_bind p f old mid new x (Ok y) h g = comes_bind p f old mid new x (Ok y) h g
follows_bind {k} p f old mid new x (Err s) h g = stops_bind p f old mid new x (k.told s) h g

-- the same of plans that read nothing
pub meets_bind : {k : Reading} {A B : Type 0} (p : PlanOf k A) (f : A → PlanOf k B) (x : A)
    (r : Result B k.Stop) → p ≡ Made x → Meets (f x) r → Meets (p >>= f) r
meets_bind p f x r e m = rw e m

meets_stop : {k : Reading} {A B : Type 0} (p : PlanOf k A) (f : A → PlanOf k B) (told : Option k.Refusal)
    → MeetsStop p told → MeetsStop (p >>= f) told
meets_stop p f (Some why) m = rw m refl
meets_stop p f None m = tt

pub meets_end : {k : Reading} {A B : Type 0} (p : PlanOf k A) (f : A → PlanOf k B) (s : k.Stop)
    → Meets p (Err s) → Meets (p >>= f) (Err s)
meets_end {k} p f s m = meets_stop p f (k.told s) m

stop_follows : {k : Reading} {A : Type 0} (p : PlanOf k A) (told : Option k.Refusal) → MeetsStop p told
    → (seen : FilesSeen) → Stops p seen told seen
stop_follows p (Some why) m seen = comes_same p (Ends why) seen seen (Err why) m (refl, refl)
stop_follows p None m seen = only_same seen seen refl

-- a body that reads nothing follows its plan where it stands
pub meets_follows : {k : Reading} {A : Type 0} (p : PlanOf k A) (r : Result A k.Stop) → Meets p r
    → (seen : FilesSeen) → Follows p seen r seen
meets_follows p (Ok x) m seen = comes_same p (Made x) seen seen (Ok x) m (refl, refl)
meets_follows {k} p (Err s) m seen = stop_follows p (k.told s) m seen

pub follows_meets : {k : Reading} {A B : Type 0} (p : PlanOf k A) (f : A → PlanOf k B) (old new : FilesSeen)
    (x : A) (r : Result B k.Stop) → Comes p old (Ok x) new → Meets (f x) r → Follows (p >>= f) old r new
follows_meets p f old new x r h m = follows_bind p f old new new x r h (meets_follows (f x) r m new)

-- the file whose turn it was came, and what follows reads nothing
pub read_meets : {k : Reading} {A : Type 0} (name : List ℕ) (index : ℕ) (next : List ℕ → PlanOf k A)
    (old new : FilesSeen) (bytes : List ℕ) (r : Result A k.Stop) → GivesWhole old name k.longest bytes new
    → Meets (next bytes) r → Follows (let p : PlanOf k A = Reads name index next in p) old r new
read_meets {k} name index next old new bytes r w m =
    follows_meets (let p : PlanOf k (List ℕ) = Reads name index Made in p) next old new bytes r
    (whole bytes new w (refl, refl)) m

-- and then the call's task was made
pub comes_made : {k : Reading} {A B : Type 0} (p : PlanOf k A) (f : A → B) (old new : FilesSeen) (x : A)
    → Comes p old (Ok x) new → Comes (p >>= (λ y. Made (f y))) old (Ok (f x)) new
comes_made p f old new x h = comes_bind p _ old new new x (Ok (f x)) h (refl, refl)

-- ---- laws of joining

-- what comes of one plan comes of another that begins alike and goes on so that the same comes
pub comes_map : {k : Reading} {A B C : Type 0} (p : PlanOf k A) (f : A → PlanOf k B) (g : A → PlanOf k C)
    (old new : FilesSeen) (due : Result B k.Refusal) (next : Result C k.Refusal)
    → ((x : A) (s : FilesSeen) → Comes (f x) s due new → Comes (g x) s next new)
    → ((why : k.Refusal) → due ≡ Err why → next ≡ Err why)
    → Comes (p >>= f) old due new → Comes (p >>= g) old next new
comes_map (Made x) f g old new due next t e h = t x old h
comes_map (Ends why) f g old new due next t e h = (e why h.0, h.1)
comes_map (Reads name index after) f g old new due next t e (whole bytes m w h) =
    whole bytes m w (comes_map (after bytes) f g m new due next t e h)
comes_map (Reads name index after) f g old new due next t e (too_long l h) = too_long l (e _ h)
comes_map (Reads name index after) f g old new due next t e (unread l h) = unread l (e _ h)

-- joined from the left
pub comes_left : {k : Reading} {A B C : Type 0} (p : PlanOf k A) (f : A → PlanOf k B) (g : B → PlanOf k C)
    (old new : FilesSeen) (due : Result C k.Refusal)
    → Comes (p >>= (λ x. f x >>= g)) old due new → Comes ((p >>= f) >>= g) old due new
comes_left (Made x) f g old new due h = h
comes_left (Ends why) f g old new due h = h
comes_left (Reads name index after) f g old new due (whole bytes m w h) =
    whole bytes m w (comes_left (after bytes) f g m new due h)
comes_left (Reads name index after) f g old new due (too_long t h) = too_long t h
comes_left (Reads name index after) f g old new due (unread t h) = unread t h

pub comes_as : {k : Reading} {A : Type 0} (p : PlanOf k A) (f : A → A) (old new : FilesSeen)
    (due : Result A k.Refusal)
    → ((x : A) → f x ≡ x) → Comes (p >>= (λ x. Made (f x))) old due new → Comes p old due new
comes_as (Made x) f old new due e h = (h.0 ∙ ap (λ y. Ok y) (e x), h.1)
comes_as (Ends why) f old new due e h = h
comes_as (Reads name index after) f old new due e (whole bytes m w h) =
    whole bytes m w (comes_as (after bytes) f m new due e h)
comes_as (Reads name index after) f old new due e (too_long t h) = too_long t h
comes_as (Reads name index after) f old new due e (unread t h) = unread t h
