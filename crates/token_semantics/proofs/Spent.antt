-- Accepted modules: what is told of them, and what becomes of their numbers.
use Rattle.std.proofs.Common.{◌≡◌, refl, ap, ℕ, zero, suc, ◌+◌, ◌<◌, ◌≤◌, arith, List, [], ◌∷◌, length, map}
use Rattle.std.proofs.Common.{Option, Some, None, slice_index_or}
use Rattle.std.proofs.lemmas.Bool.Decides.{nat_tests}
use Rattle.std.specs.Prelude.{All}
use Rattle.source_events.specs.declared.End.TheVariants.{Fail}
use Rattle.source_events.specs.declared.Told.{Told}
use Rattle.proc_language.specs.Limits.{Each}
use Rattle.proc_semantics.specs.declared.value.Target.{Target}
use Rattle.proc_semantics.specs.Values.{Store, main_target}
use Rattle.proc_semantics.specs.Told as tells
use Rattle.proc_semantics.specs.Meaning as plain
use Rattle.token_language.specs.declared.module.TokenModuleFields.{TokenModuleFields}
use Rattle.token_semantics.specs.Hands.{Hands, Ledger, no_numbers, one, count}
use Rattle.token_semantics.specs.Told.{TokensTold, fails}
use Rattle.token_semantics.specs.Meaning.{world, level, start}
use Rattle.token_semantics.specs.Law.{IsAccepted, IsSettled, AreSpent, TokensAreSpent}
use Rattle.token_semantics.proofs.HandLemmas.{below}
use Rattle.token_semantics.proofs.Same.{Paid, IsPaid, IsFine, Running, Same, numbers_more, ended_same}
use Rattle.token_semantics.proofs.Places.{main_takes}
use Rattle.token_semantics.proofs.Levels.{level_same}

-- ---- counts, and what is among some

one_same : (n : ℕ) → one n n ≡ 1
one_same n = grind (arith, nat_tests)

counted : (xs : List ℕ) (n k : ℕ) → k < length xs → slice_index_or xs k n ≡ n → 1 ≤ count n xs
counted [] n k h e = absurd (omega (arith, h))
counted (m ∷ xs) n zero h e = let o = ap (one n) e in let s = one_same n in omega (arith, o, s)
counted (m ∷ xs) n (suc k) h e = let c = counted xs n k (omega (arith, h)) e in omega (arith, c)

-- a procedure that ended got no more than those that ended spent, and those no more than was spent, once
settled : (book : Ledger) → IsPaid book → (hands : Hands) → Paid book.ended hands → IsSettled book hands
settled book all hands paid = record {
  once = λ n.
      let a = paid.all n in
      let b = all.spent n in
      let c = all.once n in
      omega (arith, a, b, c);
  used = paid.used;
  spent = λ n c.
      let g = counted hands.got n c.0 c.1 c.2 in
      let a = paid.all n in
      let b = all.spent n in
      let o = all.once n in
      (omega (arith, g, a, b, o), omega (arith, g, a, b, o));
}

all_settled : (book : Ledger) → IsPaid book → (ended : List Hands) → Each (Paid book.ended) ended
    → All (IsSettled book) ended
all_settled book paid [] h k d low = absurd (omega (arith, low))
all_settled book paid (hands ∷ ended) h zero d low = settled book paid hands h.0
all_settled book paid (hands ∷ ended) h (suc k) d low =
    all_settled book paid ended h.1 k d (omega (arith, low))

pub spent_of : (t : TokensTold) (p : Told) → IsFine t p → AreSpent t p
spent_of t p f = record {
  goes = f.goes;
  told = f.told;
  once = f.paid.once;
  settled = all_settled t.ledger f.paid t.ledger.ended f.paid.ended;
}

-- ---- the whole

abbrev no_one : Running
no_one = record { held = λ n. 0; moving = λ n. 0; spent = λ n. 0; most = λ n. 0 }

below_none : (n : ℕ) → below n 0 ≡ 0
below_none n = grind (arith, nat_tests)

start_same : (modules : List TokenModuleFields) → All IsAccepted modules → (d stack : ℕ) (o : Option Target)
    → main_target (world modules) ≡ o → (st : Store)
    → Same no_one (start modules (level modules d) stack o st)
    (plain.start (world modules) (plain.level (world modules) d) stack o st)
start_same modules accepted d stack None e st = (level_same modules accepted d).waits no_one None None tt st
start_same modules accepted d stack (Some t) e st =
    numbers_more no_one _ _
    ((level_same modules accepted d).run no_one t (Some stack) [] [] (main_takes modules accepted t e) tt
    (λ v st. fails) (λ v st. tells.fails) (λ v st. ended_same no_one Fail) st)

pub tokens_are_spent : TokensAreSpent
tokens_are_spent modules accepted stack feed fuel =
    spent_of _ _ (start_same modules accepted (fuel + length feed + 1) stack
    (main_target (world modules)) refl
    (map (λ u. u.globals) (world modules)) no_numbers (record {
      sum = λ n. let e = below_none n in omega (arith, e);
      paid = λ n. refl;
      most = λ n. omega arith;
      ended = tt;
    }) fuel feed)
