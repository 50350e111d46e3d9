-- What plans and answers leave of the files, and what came over files that tell what they hold.
use Rattle.std.proofs.Common.{◌≡◌, ◌≢◌, ◌⊎◌, ℕ, List, Option, Some, None, sym, ap, subst, ◌∙◌, inl, inr}
use Rattle.std.specs.Prelude.{Result, IsNone, IsSomeAnd, MatchOption}
use Rattle.outside_io.specs.Counts.{Rose}
use Rattle.outside_io.specs.FilesSeen.{FilesSeen, KeepsOthers}
use Rattle.outside_io.specs.Whole.{OnlyGave}
use Rattle.command_words.specs.Plans.{Reading, PlanOf, Reads, Ends, Made, whole as came_whole, too_long}
use Rattle.command_words.specs.Plans.{unread, Comes, Settles}
use Rattle.command_words.specs.Answers.{NewFile, AnswerWith, Program, OutsideWith, with_files, IsPut}
use Rattle.command_words.specs.Answers.{GivesAnswer}
use Rattle.command_words.specs.Answers.{whole, unput, unwritten, Answers, answer, nothing, IsComplete, Stay}
use Rattle.command_words.specs.Answers.{StayBut}
use Rattle.command_words.proofs.Follow.{only_same, only_again}

-- ---- files that tell what they hold

told_in : (A : Type 0) (o : Option (List ℕ → Option (List ℕ))) (held : List ℕ → Option (List ℕ))
    (name bytes : List ℕ) → o ≡ Some held → MatchOption o A (λ h. h name ≡ Some bytes) → held name
    ≡ Some bytes
told_in A None held name bytes e h = absurd (cc)
told_in A (Some f) held name bytes e h = let same : f ≡ held = cc in rw (← same) h

quiet_contents : (old new : FilesSeen) (o : Option (List ℕ → Option (List ℕ))) → OnlyGave old new
    → old.contents ≡ o → new.contents ≡ o
quiet_contents old new o q e = ap (λ (s : FilesSeen). s.contents) q ∙ e

quiet_reads : (old mid : FilesSeen) (last : ℕ) → OnlyGave old mid → ¬ (Rose old.failed_reads last)
    → ¬ (Rose mid.failed_reads last)
quiet_reads old mid last q n r = n (let e : mid.failed_reads
    ≡ old.failed_reads = ap (λ (s : FilesSeen). s.failed_reads) q in rw (← e) r)

-- what came is what the files settle, and nothing changed but what reads gave
told_settled : {k : Reading} {A : Type 0} (held : List ℕ → Option (List ℕ)) (plan : PlanOf k A)
    (old new : FilesSeen) (due : Result A k.Refusal) → old.contents ≡ Some held
    → ¬ (Rose old.failed_reads new.failed_reads)
    → Comes plan old due new → Settles held plan due × OnlyGave old new
told_settled held (Made x) old new due e n c = (c.0, only_same old new c.1)
told_settled held (Ends why) old new due e n c = (c.0, only_same old new c.1)
told_settled held (Reads name index next) old new due e n (came_whole bytes mid w c) =
    let s = told_settled held (next bytes) mid new due (quiet_contents old mid _ w.quiet e)
    (quiet_reads old mid _ w.quiet n) c in
    ((bytes, told_in _ _ held name bytes e w.came, inl (w.fits, s.0)), only_again old mid new w.quiet s.1)
told_settled held (Reads name index next) old new due e n (too_long t d) =
    ((t.came.0, told_in _ _ held name t.came.0 e t.came.1, inr (t.came.2, d)), t.quiet)
told_settled held (Reads name index next) old new due e n (unread f d) = absurd (n f.rose)

-- ---- what a call leaves of the counts

put_reads : (file : Option NewFile) (old new : FilesSeen) → IsPut old file new → new.failed_reads
    ≡ old.failed_reads
put_reads None old new h = ap (λ (s : FilesSeen). s.failed_reads) h
put_reads (Some f) old new h = ap (λ (s : FilesSeen). s.failed_reads) h.stays

comes_puts : {k : Reading} {A : Type 0} (p : PlanOf k A) (old new : FilesSeen) (due : Result A k.Refusal)
    → Comes p old due new → new.failed_puts ≡ old.failed_puts
comes_puts (Made x) old new due h = ap (λ (s : FilesSeen). s.failed_puts) h.1
comes_puts (Ends why) old new due h = ap (λ (s : FilesSeen). s.failed_puts) h.1
comes_puts (Reads name index next) old new due (came_whole bytes mid w h) =
    comes_puts (next bytes) mid new due h ∙ ap (λ (s : FilesSeen). s.failed_puts) w.quiet
comes_puts (Reads name index next) old new due (too_long t e) = ap (λ (s : FilesSeen). s.failed_puts) t.quiet
comes_puts (Reads name index next) old new due (unread f e) = ap (λ (s : FilesSeen). s.failed_puts) f.stays

-- puts that failed after the reads failed in the call
pub puts_rose : {k : Reading} {A : Type 0} (p : PlanOf k A) (old seen : FilesSeen)
    (due : Result A k.Refusal) (count : ℕ)
    → Comes p old due seen → Rose seen.failed_puts count → Rose old.failed_puts count
puts_rose p old seen due count c r = subst (λ n. Rose n count) (comes_puts p old seen due c) r

pub complete : (p : Program) (plan : PlanOf p.reading p.Task) (old : OutsideWith p.Kept) (status : p.Status)
    (new : OutsideWith p.Kept) → Answers p plan old status new → IsComplete p plan old status new
complete p plan old status new (nothing n) held e q = inl n.status_is
complete p plan old status new (answer due a seen c x (whole g)) held e q =
    let s = told_settled held plan old.files seen due e
    (subst (λ n. ¬ (Rose old.files.failed_reads n)) (put_reads a.file seen new.files g.put) q.reads) c in
    inr (a, seen, (due, s.0, x), s.1, g)
complete p plan old status new (answer due a seen c x (unput f i w u l s)) held e q =
    absurd (q.puts (puts_rose plan old.files seen due new.files.failed_puts c w.rose))
complete p plan old status new (answer due a seen c x (unwritten h f l s)) held e q = absurd (q.writes f.rose)

-- ---- files that stay

pub comes_contents : {k : Reading} {A : Type 0} (p : PlanOf k A) (old new : FilesSeen)
    (due : Result A k.Refusal) → Comes p old due new → Stay old new
comes_contents (Made x) old new due h = ap (λ (s : FilesSeen). s.contents) h.1
comes_contents (Ends why) old new due h = ap (λ (s : FilesSeen). s.contents) h.1
comes_contents (Reads name index next) old new due (came_whole bytes mid w h) =
    comes_contents (next bytes) mid new due h ∙ ap (λ (s : FilesSeen). s.contents) w.quiet
comes_contents (Reads name index next) old new due (too_long t e) = ap (λ (s : FilesSeen). s.contents) t.quiet
comes_contents (Reads name index next) old new due (unread f e) = ap (λ (s : FilesSeen). s.contents) f.stays

pub keeps_from : (old seen new : FilesSeen) (out : List ℕ) → Stay old seen → KeepsOthers seen new out
    → KeepsOthers old new out
keeps_from old seen new out e h =
    let P : _ → Type 0 = λ o. MatchOption o (IsNone new.contents)
    (λ held. IsSomeAnd new.contents (λ now. (q : List ℕ) → q ≢ out → now q ≡ held q)) in subst P e h

put_stays : (file : Option NewFile) (old seen new : FilesSeen) → Stay old seen → IsPut seen file new
    → StayBut file old new
put_stays None old seen new e h = ap (λ (s : FilesSeen). s.contents) h ∙ e
put_stays (Some f) old seen new e h = keeps_from old seen new f.name e h.others

-- an answer leaves all files but the one that it puts
pub stay_but : (p : Program) (old : OutsideWith p.Kept) (seen : FilesSeen) (a : AnswerWith p.Status p.Kept)
    (status : p.Status) (new : OutsideWith p.Kept) → Stay old.files seen
    → GivesAnswer p (with_files old seen) a status new → StayBut a.file old.files new.files
stay_but p old seen a status new e (whole g) = put_stays a.file old.files seen new.files e g.put
stay_but p old seen a status new e (unput f i w u l s) =
    subst (λ o. StayBut o old.files new.files) (sym i) (keeps_from old.files seen new.files f.name e w.others)
stay_but p old seen a status new e (unwritten h w l s) = put_stays a.file old.files seen new.files e h

-- its status is the answer's, or tells that a write or a put failed
pub ends_as : (p : Program) (old : OutsideWith p.Kept) (a : AnswerWith p.Status p.Kept) (status : p.Status)
    (new : OutsideWith p.Kept) → GivesAnswer p old a status new → (status ≡ a.status)
    ⊎ (status ≡ p.write_fault)
ends_as p old a status new (whole g) = inl g.status_is
ends_as p old a status new (unput f i w u l s) = inr s
ends_as p old a status new (unwritten h w l s) = inr s
