-- The grammar of brackets and the list of open calls say the same.
use Rattle.std.proofs.Common.{List, [], ◌∷◌, ◌++◌, subst, append_assoc}
use Rattle.run_audit.specs.declared.line.Line.{Line}
use Rattle.run_audit.specs.declared.line.Line.TheVariants.{Call, Ret}
use Rattle.run_audit.specs.Told.{ToldSeen}
use Rattle.run_audit.specs.Brackets.{IsOther, IsBalanced, Bracketed, LeavesOpen, SaysTheSame}
use Rattle.run_audit.specs.Brackets.IsBalanced.{none as closed_none, other as closed_other}
use Rattle.run_audit.specs.Brackets.IsBalanced.{pair as closed_pair}
use Rattle.run_audit.specs.Brackets.Bracketed.{none, other, stays, pair}
use Rattle.run_audit.specs.Brackets.LeavesOpen.{at_end, passes, opens, closes}

-- ---- from the grammar

pub then_leads : {a b c : List ToldSeen} (xs : List Line) {ys : List Line} → LeavesOpen a xs b
    → LeavesOpen b ys c
    → LeavesOpen a (xs ++ ys) c
then_leads [] at_end h = h
then_leads (x ∷ xs) (passes o r) h = passes o (then_leads xs r h)
then_leads (x ∷ xs) (opens r) h = opens (then_leads xs r h)
then_leads (x ∷ xs) (closes r) h = closes (then_leads xs r h)

closed_leads : (before : List ToldSeen) (ls : List Line) → IsBalanced ls → LeavesOpen before ls before
closed_leads before _ closed_none = at_end
closed_leads before _ (closed_other {ls = ls} o c) = passes o (closed_leads before ls c)
closed_leads before _ (closed_pair {t = t} {inner = inner} {ls = ls} c d) =
    opens (then_leads inner (closed_leads (t ∷ before) inner c) (closes (closed_leads before ls d)))

bracketed_leads : (before : List ToldSeen) (ls : List Line) → Bracketed ls
    → (now : List ToldSeen) × LeavesOpen before ls now
bracketed_leads before _ none = (before, at_end)
bracketed_leads before _ (other {ls = ls} o b) = let r = bracketed_leads before ls b in (r.0, passes o r.1)
bracketed_leads before _ (stays {t = t} {ls = ls} b) = let r = bracketed_leads (t ∷ before) ls b in
    (r.0, opens r.1)
bracketed_leads before _ (pair {t = t} {inner = inner} {ls = ls} c b) =
    let r = bracketed_leads before ls b in
    (r.0, opens (then_leads inner (closed_leads (t ∷ before) inner c) (closes r.1)))

-- ---- and back

-- lines that close some of the calls that were open before, the newest first, with closed lists between
data Splits : List ToldSeen → List Line → Type 0 where
  rests : {before : List ToldSeen} {ls : List Line} → Bracketed ls → Splits before ls
  closing : {t : ToldSeen} {before : List ToldSeen} {inner ls : List Line} → IsBalanced inner
      → Splits before ls
      → Splits (t ∷ before) (inner ++ Ret t ∷ ls)

behind_other : {l : Line} {before : List ToldSeen} {ls : List Line} → IsOther l → Splits before ls
    → Splits before (l ∷ ls)
behind_other o (rests b) = rests (other o b)
behind_other o (closing c s) = closing (closed_other o c) s

behind_pair : (t : ToldSeen) {before : List ToldSeen} (inner : List Line) {ls : List Line} → IsBalanced inner
    → Splits before ls → Splits before (Call t ∷ (inner ++ Ret t ∷ ls))
behind_pair t inner c (rests b) = rests (pair c b)
behind_pair t inner c (closing {t = u} {before = before} {inner = more} {ls = ls} d s) =
    subst (λ l. Splits (u ∷ before) (Call t ∷ l)) (append_assoc inner (Ret t ∷ more) (Ret u ∷ ls))
    (closing (closed_pair c d) s)

behind_call : (t : ToldSeen) {before : List ToldSeen} {ls : List Line} → Splits (t ∷ before) ls
    → Splits before (Call t ∷ ls)
behind_call t (rests b) = rests (stays b)
behind_call t (closing {inner = inner} c s) = behind_pair t inner c s

splits : {before now : List ToldSeen} (ls : List Line) → LeavesOpen before ls now → Splits before ls
splits [] at_end = rests none
splits (l ∷ ls) (passes o r) = behind_other o (splits ls r)
splits (l ∷ ls) (opens {t = t} r) = behind_call t (splits ls r)
splits (l ∷ ls) (closes r) = closing closed_none (splits ls r)

nothing_before : (ls : List Line) → Splits [] ls → Bracketed ls
nothing_before _ (rests b) = b

pub says_the_same : SaysTheSame
says_the_same = (λ ls b. bracketed_leads [] ls b, λ ls now r. nothing_before ls (splits ls r))
