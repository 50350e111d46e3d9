-- Meanings of some modules with tokens, computed; and one that the law speaks of.
use Rattle.std.proofs.Common.{refl, ◌≡◌, subst, ℕ, pos, true, false, List, [], ◌∷◌, map, Some, None, arith}
use Rattle.std.proofs.Common.{inl, slice_set}
use Rattle.std.proofs.lemmas.List.Elements.{All-nil, All-cons}
use Rattle.std.specs.Prelude.{codes}
use Rattle.source_events.specs.declared.End.TheVariants.{Halt as Halted, Fail, OutOfFuel}
use Rattle.cap_words.specs.Names as names
use Rattle.proc_language.specs.declared.tree.Name.{Name}
use Rattle.proc_language.specs.Words.{is_source_name, is_reserved}
use Rattle.proc_names.specs.Names.{variable_named, callee_named, passed_named}
use Rattle.proc_program.specs.Lower.{part_of}
use Rattle.proc_semantics.specs.Values.{found, main_target, linked}
use Rattle.proc_semantics.specs.Meaning.{meaning}
use Rattle.proc_language.specs.declared.TheConstants.{MOST_TOKENS}
use Rattle.token_language.specs.declared.module.TokenParam.TheVariants as param
use Rattle.token_language.specs.declared.module.TokenLocal.TheVariants as local
use Rattle.token_language.specs.declared.module.TokenProc.{TokenProc}
use Rattle.token_language.specs.declared.module.TokenModuleFields.{TokenModuleFields}
use Rattle.token_language.specs.Limits.{IsTokenModule}
use Rattle.token_language.specs.Tree.{number, var, call, no_args, value, token, return, halt, make, spend}
use Rattle.token_language.specs.Tree.{Expr, Stmt}
use Rattle.token_language.specs.Erased.{erased}
use Rattle.token_language.specs.TokenFaults.{IsTokenResolved}
use Rattle.token_check.specs.Tokens.{Full, none_full}
use Rattle.token_check.specs.Typing.{IsTyped}
use Rattle.token_semantics.specs.Hands.{Hands, Ledger}
use Rattle.token_semantics.specs.Told.{TokensTold}
use Rattle.token_semantics.specs.Meaning.{token_meaning}
use Rattle.token_semantics.specs.Law.{IsAccepted, IsSpent, IsSettled, AreSpent}
use Rattle.token_semantics.proofs.Spent.{tokens_are_spent}

named : List ℕ → Name
named text = record { text = text; at = 0 }

t : Name
t = named (codes "t")

-- proc use(token t, n) { spend t; return n; }
use_one : TokenProc
use_one = record {
  at = 0;
  end = 0;
  shared = false;
  name = named (codes "use");
  params = param.Token t ∷ param.Plain (record { name = named (codes "n"); arity = None }) ∷ [];
  locals = [];
  body = spend 0 0 t ∷ return 0 0 (var 0 (named (codes "n"))) ∷ [];
}

-- export proc main() { token t; .. }
main : List Stmt → TokenProc
main body = record {
  at = 0;
  end = 0;
  shared = true;
  name = named (codes "main");
  params = [];
  locals = local.Token t ∷ [];
  body = body;
}

k : List Stmt → TokenModuleFields
k body = record {
  at = 0;
  name = named (codes "k");
  code = 4096;
  data_base = 8192;
  closure = 10;
  returns = 11;
  return_count = 1;
  stack = 65536;
  movable = false;
  imports = [];
  globals = [];
  procs = use_one ∷ main body ∷ [];
}

-- use(token t, 5)
used : Expr
used = call 0 (named (codes "use")) (token t (value (number 0 5) no_args))

abbrev use_had : Hands
use_had = record { holds = None ∷ []; got = 0 ∷ []; spent = 0 ∷ []; gave = [] }

-- make t; halt use(token t, 5); main is not among those that ended
handed_over : token_meaning (k (make 0 0 t ∷ halt 0 0 used ∷ []) ∷ []) 64 [] 1000 ≡ record {
  stuck = false;
  told = record { events = []; end = Halted (pos 5); ticks = 17 };
  ledger = record { next = 1; spent = 0 ∷ []; ended = use_had ∷ [] };
}
unfolding k main use_one used t named found main_target linked variable_named callee_named
handed_over = refl

-- make t; return use(token t, 5); main ended too, and fails after that since nothing called it
spent : List Stmt
spent = make 0 0 t ∷ return 0 0 used ∷ []

abbrev main_had : Hands
main_had = record { holds = None ∷ []; got = 0 ∷ []; spent = []; gave = 0 ∷ [] }

abbrev both : Ledger
both = record { next = 1; spent = 0 ∷ []; ended = main_had ∷ use_had ∷ [] }

abbrev returned : TokensTold
returned = record { stuck = false; told = record { events = []; end = Fail; ticks = 21 }; ledger = both }

handed_on : token_meaning (k spent ∷ []) 64 [] 1000 ≡ returned
unfolding k main use_one spent used t named found main_target linked variable_named callee_named
handed_on = refl

-- with less fuel none ends, and the right that was made isn't spent
stopped : token_meaning (k spent ∷ []) 64 [] 7 ≡ record {
  stuck = false;
  told = record { events = []; end = OutOfFuel; ticks = 7 };
  ledger = record { next = 1; spent = []; ended = [] };
}
unfolding k main use_one spent used t named found main_target linked variable_named callee_named
stopped = refl

-- the module of that is accepted, so that the law speaks of it
names_lead : IsTokenResolved (k spent)
unfolding k main use_one spent used t named variable_named callee_named passed_named
names_lead = refl

limits : IsTokenModule (k spent)
unfolding k main use_one spent used t named is_source_name is_reserved names.is_name
limits = record {
  plain = record {
    name = refl;
    code = omega arith;
    data_base = omega arith;
    closure = omega arith;
    returns = (omega arith, omega arith, omega arith);
    stack = omega arith;
    imports = (omega arith, tt);
    globals = (omega arith, tt);
    some = omega arith;
    procs = (
      omega arith,
      (
        record {
          name = refl;
          params = ((refl, tt), tt);
          registers = omega arith;
          locals = (omega arith, tt);
          body = (refl, tt);
        },
        (
          record {
            name = refl;
            params = tt;
            registers = omega arith;
            locals = (omega arith, tt);
            body = (((refl, omega arith), (omega arith, tt)), tt);
          },
          tt,
        ),
      ),
    );
  };
  tokens = (omega arith, (omega arith, tt));
}

typed : IsTyped (k spent)
unfolding k main use_one spent used t named
typed =
    let u : Full = none_full MOST_TOKENS in
    let f : Full = slice_set u 0 true in (
      (None, (Some u, (u, (refl, refl), refl), (None, (u, refl, refl, refl), refl)), tt),
      (
        (
          None,
          (
            Some f,
            (f, (refl, refl), refl),
            (None, (u, (u, (refl, refl), (u, refl, refl)), refl, refl), refl),
          ),
          tt,
        ),
        tt,
      ),
    )

is_accepted : IsAccepted (k spent)
is_accepted = record { limits = limits; resolved = names_lead; checked = inl typed }

-- so what main handed on is spent, once, by a procedure that ended
settled : IsSettled both main_had
settled =
    let law = tokens_are_spent (k spent ∷ [])
    (All-cons IsAccepted (k spent) [] is_accepted (All-nil IsAccepted)) 64 [] 1000 in
    let plain = meaning (map part_of (map erased (k spent ∷ []))) 64 [] 1000 in
    let these : AreSpent returned plain = subst (λ t. AreSpent t plain) handed_on law in
    these.settled 0 main_had (omega arith)

right_is_spent : IsSpent both 0
right_is_spent = settled.spent 0 (0, omega arith, refl)

-- what is handed on and spent by none is not settled
lost : IsSettled (record { next = 1; spent = []; ended = main_had ∷ [] }) main_had → ⊥
lost h = let e = (h.spent 0 (0, omega arith, refl)).0 in absurd (omega (arith, e))

-- nor is what is handed on twice
doubled : (book : Ledger) → IsSettled book (record main_had { gave = 0 ∷ 0 ∷ [] }) → ⊥
doubled book h = let e = h.used 0 in absurd (omega (arith, e))

-- make t; return 0; of one that isn't accepted: what main had was neither spent nor handed on
kept : token_meaning (k (make 0 0 t ∷ return 0 0 (number 0 0) ∷ []) ∷ []) 64 [] 1000 ≡ record {
  stuck = false;
  told = record { events = []; end = Fail; ticks = 8 };
  ledger = record {
    next = 1;
    spent = [];
    ended = record { holds = Some 0 ∷ []; got = 0 ∷ []; spent = []; gave = [] } ∷ [];
  };
}
unfolding k main use_one t named found main_target linked variable_named callee_named
kept = refl

-- spend t; of an empty token is stuck
empty : token_meaning (k (spend 0 0 t ∷ []) ∷ []) 64 [] 1000 ≡ record {
  stuck = true;
  told = record { events = []; end = Fail; ticks = 3 };
  ledger = record { next = 0; spent = []; ended = [] };
}
unfolding k main use_one t named found main_target linked variable_named callee_named
empty = refl
