-- What a call answers that reads from an input and changes it to what is left.
use Rattle.std.specs.Prelude.{◌≡◌, Bool, true, false, Result, Ok, Err}

-- the answer, seen by view, and what is left; after a fault nothing is said of what is left
abbrev pub GivesAs : {I F X A : Type 0} → (X → A) → Result X F → I → Result (A × I) F → Type 0
GivesAs view (Ok x) left read = read ≡ Ok (view x, left)
GivesAs view (Err e) left read = read ≡ Err e

-- the answer as it is, and what is left
abbrev pub Gives : {I F A : Type 0} → Result A F → I → Result (A × I) F → Type 0
Gives answer left read = GivesAs (λ x. x) answer left read

-- ---- where memory may be refused, which some faults say

abbrev pub Unless : Bool → Type 0 → Type 0
Unless true P = Unit {0}
Unless false P = P

-- the fault is what reading gives, unless it says that memory was refused
abbrev pub Fails : {F A : Type 0} → (F → Bool) → F → Result A F → Type 0
Fails is_refusal e read = Unless (is_refusal e) (read ≡ Err e)

-- the answer, seen by view, is what reading gives, unless memory was refused
abbrev pub AnswersAs : {F A B : Type 0} → (F → Bool) → (A → B) → Result A F → Result B F → Type 0
AnswersAs is_refusal view (Ok x) read = read ≡ Ok (view x)
AnswersAs is_refusal view (Err e) read = Fails is_refusal e read

abbrev pub AnswersUnlessRefused : {F A : Type 0} → (F → Bool) → Result A F → Result A F → Type 0
AnswersUnlessRefused is_refusal answer read = AnswersAs is_refusal (λ x. x) answer read

-- the answer and what is left are what reading gives, unless memory was refused
abbrev pub GivesUnlessRefused : {I F A : Type 0} → (F → Bool) → Result A F → I → Result (A × I) F → Type 0
GivesUnlessRefused is_refusal answer left read = AnswersAs is_refusal (λ x. (x, left)) answer read
