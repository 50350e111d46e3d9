-- What came of the plan of a meaning, joined.
use Rattle.std.proofs.Common.{◌≡◌, ℕ, List, length, refl, subst}
use Rattle.std.specs.Prelude.{Result, Ok, Err, IfOk, IfErr}
use Rattle.outside_io.specs.FilesSeen.{FilesSeen}
use Rattle.command_words.specs.declared.part.PartWord.{PartWord}
use Rattle.proc_language.specs.declared.module.ModuleFields.{ModuleFields}
use Rattle.source_events.specs.declared.Item.{Item}
use Rattle.module_rules.specs.Rules.{stack_base_of, ruled}
use Rattle.file_plans.specs.declared.refusal.Refusal.TheVariants.{Rule}
use Rattle.file_plans.specs.declared.refusal.Stop.{Stop}
use Rattle.file_plans.specs.declared.refusal.Stop.TheVariants.{NoMemory}
use Rattle.file_plans.specs.Plans.{Plan, Made, ◌>>=◌, unless, each_at, Comes, Follows, Meets, FollowsAs}
use Rattle.file_plans.proofs.Offers.{comes_bind, comes_quiet, comes_same, follows_end, follows_bind}
use Rattle.file_plans.proofs.Offers.{meets_follows}
use Rattle.meaning_tool.specs.Subjects.{Subject, IsMeant, module_at, feed_at, subject_of, subject_in}
use Rattle.meaning_tool.specs.declared.telling.Meaning.{Meaning}

-- ---- answers that are made of what came

-- one plan came, and what goes on from it is followed
as_bind : {A B C : Type 0} (P : B → C → Type 0) (p : Plan A) (f : A → Plan B) (old mid new : FilesSeen)
    (x : A) (r : Result C Stop) → Comes p old (Ok x) mid → FollowsAs P (f x) mid r new
    → FollowsAs P (p >>= f) old r new
as_bind P p f old mid new x (Ok y) c (b, h, q) = (b, comes_bind p f old mid new x (Ok b) c h, q)
as_bind P p f old mid new x (Err stop) c h = follows_bind p f old mid new x (Err stop) c h

-- what was made is told, or memory is refused
as_made : {A C : Type 0} (P : A → C → Type 0) (x : A) (seen : FilesSeen) (r : Result C Stop)
    → IfOk r (P x) → IfErr r (λ s. s ≡ NoMemory) → (let p : Plan A = Made x in FollowsAs P p seen r seen)
as_made P x seen (Ok y) h n = (x, (refl, refl), h)
as_made P x seen (Err s) h n = rw n refl

-- one plan came, and of it alone something was made; or memory is refused
pub as_came : {A C : Type 0} (P : A → C → Type 0) (p : Plan A) (old new : FilesSeen) (x : A)
    (r : Result C Stop) → Comes p old (Ok x) new → IfOk r (P x) → IfErr r (λ s. s ≡ NoMemory)
    → FollowsAs P p old r new
as_came P p old new x (Ok y) c h n = (x, c, h)
as_came P p old new x (Err s) c h n = rw n (comes_quiet p old new x c)

-- ---- after the modules: their rules, and the feed

module _ (fuel count size : ℕ) (feed : List ℕ) (modules : List ModuleFields) where
  abbrev subject_by : List Item → Subject
  subject_by items = record { modules = modules; size = size; feed = items }

  abbrev rules : Plan (Unit {0})
  rules = unless Rule (ruled modules size)

  abbrev feed_plan : Plan (List Item)
  feed_plan = feed_at feed count (stack_base_of modules)

  abbrev IsTold : FilesSeen → Result Meaning Stop → FilesSeen → Type 0
  IsTold old r new = FollowsAs (IsMeant fuel) (subject_of count size feed modules) old r new

  pub rules_stop : (seen : FilesSeen) (s : Stop)
      → (let r : Result (Unit {0}) Stop = Err s in Meets rules r) → IsTold seen (Err s) seen
  unfolding subject_of
  rules_stop seen s m =
      follows_end rules (λ _. feed_plan >>= (λ items. Made (subject_by items))) seen seen s
      (meets_follows rules (Err s) m seen)

  came : (seen : FilesSeen) → rules ≡ Made tt → Comes rules seen (Ok tt) seen
  came seen e = comes_same rules (Made tt) seen seen (Ok tt) e (refl, refl)

  -- where stacks begin at this base
  pub feed_stops : (old new : FilesSeen) (base : ℕ) (s : Stop) → base ≡ stack_base_of modules
      → rules ≡ Made tt
      → (let r : Result (List Item) Stop = Err s in Follows (feed_at feed count base) old r new)
      → IsTold old (Err s) new
  unfolding subject_of
  feed_stops old new base s is e h =
      as_bind (IsMeant fuel) rules (λ _. feed_plan >>= (λ items. Made (subject_by items)))
      old old new tt (Err s)
      (came old e) (follows_end feed_plan (λ items. Made (subject_by items)) old new s
      (subst (λ b. let r : Result (List Item) Stop = Err s in Follows (feed_at feed count b) old r new) is h))

  pub feed_told : (old new : FilesSeen) (base : ℕ) (items : List Item) (r : Result Meaning Stop)
      → base ≡ stack_base_of modules → rules ≡ Made tt
      → Comes (feed_at feed count base) old (Ok items) new → IfOk r (IsMeant fuel (subject_by items))
      → IfErr r (λ s. s ≡ NoMemory) → IsTold old r new
  unfolding subject_of
  feed_told old new base items r is e c h n =
      as_bind (IsMeant fuel) rules (λ _. feed_plan >>= (λ xs. Made (subject_by xs))) old old new tt r
      (came old e) (as_bind (IsMeant fuel) feed_plan (λ xs. Made (subject_by xs)) old new new items r
      (subst (λ b. Comes (feed_at feed count b) old (Ok items) new) is c)
      (as_made (IsMeant fuel) (subject_by items) new r h n))

-- ---- the modules of words, and what is after them

module _ (fuel size : ℕ) (words : List PartWord) (feed : List ℕ) where
  abbrev IsToldOf : FilesSeen → Result Meaning Stop → FilesSeen → Type 0
  IsToldOf old r new = FollowsAs (IsMeant fuel) (subject_in words size feed) old r new

  pub modules_stop : (old new : FilesSeen) (s : Stop)
      → (let r : Result (List ModuleFields) Stop = Err s in Follows (each_at module_at 0 words) old r new)
      → IsToldOf old (Err s) new
  unfolding subject_in
  modules_stop old new s h =
      follows_end (each_at module_at 0 words) (subject_of (length words) size feed) old new s h

  pub modules_told : (old mid new : FilesSeen) (modules slice : List ModuleFields) (r : Result Meaning Stop)
      → slice ≡ modules → length modules ≡ length words
      → Comes (each_at module_at 0 words) old (Ok modules) mid
      → IsTold fuel (length slice) size feed slice mid r new → IsToldOf old r new
  unfolding subject_in
  modules_told old mid new modules slice r e n c h =
      as_bind (IsMeant fuel) (each_at module_at 0 words) (subject_of (length words) size feed) old mid new
      modules r c
      (subst (λ k. IsTold fuel k size feed modules mid r new) n
      (subst (λ ms. IsTold fuel (length ms) size feed ms mid r new) e h))
