-- A loop over the words of parts.
use Rattle.std.proofs.Common.{◌≡◌, ℕ, ◌+◌, ◌<◌, List, [], ◌∷◌, ◌++◌, length, get_or, refl, sym, ap, ◌∙◌, drop}
use Rattle.std.proofs.Common.{append_assoc, drop-cons, add-one, arith, append-nil}
use Rattle.std.specs.Prelude.{Result, Ok, Err}
use Rattle.std.proofs.lemmas.List.{drop_all}
use Rattle.outside_io.specs.FilesSeen.{FilesSeen}
use Rattle.outside_io.specs.Whole.{OnlyGave}
use Rattle.file_plans.specs.declared.refusal.Refusal.{Refusal}
use Rattle.file_plans.specs.declared.refusal.Stop.{Stop}
use Rattle.file_plans.specs.declared.refusal.Stop.TheVariants.{Refused, NoMemory}
use Rattle.command_words.specs.declared.part.PartWord.{PartWord}
use Rattle.file_plans.specs.Plans.{Plan, Made, ◌>>=◌, each_at, Comes, Follows}
use Rattle.command_words.proofs.Offers.{comes_bind, comes_end, comes_left, comes_as, comes_map, comes_quiet}
use Rattle.command_words.proofs.Offers.{only_same, only_again}

-- the words before the k-th made these, and what comes of the others comes of all
pub record SoFar {A : Type 0} (item : ℕ → PartWord → Plan A) (words : List PartWord) (old : FilesSeen) (k : ℕ)
    (made : List A) (now : FilesSeen) : Type 0 where
  pub quiet : OnlyGave old now
  pub rest : (due : Result (List A) Refusal) (new : FilesSeen)
      → Comes (each_at item k (drop k words) >>= (λ others. Made (made ++ others))) now due new
      → Comes (each_at item 0 words) old due new

drop_at : (words : List PartWord) (k : ℕ) (w : PartWord) → k < length words → w ≡ get_or words k w
    → drop k words ≡ w ∷ drop (k + 1) words
drop_at words k w h e = drop-cons words k w h ∙ rw (add-one, ← e) refl

module _ {A : Type 0} (item : ℕ → PartWord → Plan A) (words : List PartWord) (old : FilesSeen) where
  pub so_first : SoFar item words old 0 [] old
  so_first = record {
    quiet = only_same old old refl;
    rest = λ due new h. comes_as (each_at item 0 words) (λ others. [] ++ others) old new due (λ x. refl) h;
  }

  at_word : (k : ℕ) (made : List A) (now : FilesSeen) (w : PartWord) (due : Result (List A) Refusal)
      (new : FilesSeen) → SoFar item words old k made now → k < length words → w ≡ get_or words k w
      → Comes (item k w >>= (λ x. (each_at item (k + 1) (drop (k + 1) words) >>=
      (λ others. Made (x ∷ others))) >>= (λ others. Made (made ++ others)))) now due new
      → Comes (each_at item 0 words) old due new
  at_word k made now w due new s h e c =
      let d = drop_at words k w h e in
      s.rest due new (let all : Comes (each_at item k (w ∷ drop (k + 1) words) >>=
      (λ others. Made (made ++ others))) now due new = comes_left (item k w) _ _ now new due c in
      rw d all)

  pub so_more : (k p : ℕ) (made : List A) (now mid : FilesSeen) (w : PartWord) (x : A)
      → SoFar item words old k made now → p ≡ k → k < length words → w ≡ get_or words k w
      → Comes (item p w) now (Ok x) mid
      → SoFar item words old (k + 1) (made ++ x ∷ []) mid
  so_more k p made now mid w x s same h e d = let c : Comes (item k w) now (Ok x) mid = rw (← same) d in
      record {
        quiet = only_again old now mid s.quiet (comes_quiet (item k w) now mid x c);
        rest = λ due new g. at_word k made now w due new s h e (comes_bind (item k w) _ now mid new x due c
            (comes_left (each_at item (k + 1) (drop (k + 1) words)) _ _ mid new due
            (comes_map (each_at item (k + 1) (drop (k + 1) words))
            (λ others. Made ((made ++ x ∷ []) ++ others))
            (λ others. Made (made ++ (x ∷ others))) mid new due due
            (λ others t q. rw (← append_assoc made (x ∷ []) others) q) (λ why r. r) g)));
      }

  pub so_end : (k p : ℕ) (made : List A) (now new : FilesSeen) (w : PartWord) (s : Stop)
      → SoFar item words old k made now → p ≡ k → k < length words → w ≡ get_or words k w
      → Follows (item p w) now (Err s) new
      → Follows (each_at item 0 words) old (Err s) new
  so_end k p made now new w (Refused why) s same h e d = let c : Comes (item k w) now (Err why) new =
      rw (← same) d in at_word k made now w (Err why) new s h e (comes_end (item k w) _ now new why c)
  so_end k p made now new w NoMemory s same h e c = only_again old now new s.quiet c

  -- memory was refused after a word
  pub so_none : (k p : ℕ) (made : List A) (now mid : FilesSeen) (w : PartWord) (x : A)
      → SoFar item words old k made now → Comes (item p w) now (Ok x) mid → OnlyGave old mid
  so_none k p made now mid w x s c = only_again old now mid s.quiet (comes_quiet (item p w) now mid x c)

  pub so_all : (k : ℕ) (made : List A) (now : FilesSeen) → SoFar item words old k made now → k ≡ length words
      → Comes (each_at item 0 words) old (Ok made) now
  so_all k made now s e =
      let d : drop k words ≡ [] = drop_all k words (omega (arith, e)) in
      s.rest (Ok made) now (let all : Comes (each_at item k [] >>= (λ others. Made (made ++ others))) now
      (Ok made) now = (ap the_ok (sym (append-nil made)), refl) in rw d all)
    where
      the_ok : List A → Result (List A) Refusal
      the_ok y = Ok y
