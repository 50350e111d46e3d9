-- A context that tells two trusted parts apart.
use Rattle.std.proofs.Common.{◌≡◌, inl, inr, ℕ, ◌+◌, ℤ, true, false, [], ◌∷◌, Some, refl, sym, ap, ◌∙◌, arith}
use Rattle.std.proofs.lemmas.Bool.{cases_lt}
use Rattle.lcm_machine.specs.declared.FailCause.{FailCause}
use Rattle.lcm_machine.specs.declared.End.TheVariants.{Halted, Failed}
use Rattle.lcm_machine.specs.Run.{Run}
use Rattle.lcm_machine.proofs.Offers.{plain_ended}
use Rattle.call_sequence.specs.declared.TheConstants.{ENTRY_WORDS}
use Rattle.linked_starts.specs.Started.{StartSeen}
use Rattle.headline.specs.Headline.{PlainEnds}
use Rattle.full_abstraction.specs.Contexts.{Context, halting, failing, OnPlain}
use Rattle.full_abstraction.specs.Abstraction.{untrusted, Equivalent, RunsShowTheSame, OverlayIsFullyAbstract}
use Rattle.full_abstraction.specs.Abstraction.{ToldApart}
use Rattle.full_abstraction.proofs.TwoParts.{trusted_one, adversary, both}
use Rattle.full_abstraction.proofs.TwoStarts.{start, is_linked}
use Rattle.full_abstraction.proofs.TwoRuns.{inside, matched, halts_there, fails_there}

-- a run that halts doesn't fail
one_end : (s : StartSeen) (n m : ℕ) (c : FailCause) (at : ℤ) → PlainEnds s n Halted
    → PlainEnds s m (Failed c at) → ⊥
one_end s n m c at h f = elim (cases_lt n m) as (λ _. ⊥) [
  | inl lt ↦ (let e = plain_ended (m + 1) (n + 1) s.state Halted (omega (arith, lt)) h.ends in
      let z : Some Halted ≡ Some (Failed c at) = sym h.ends ∙ ap (λ (r : Run). r.end) (sym e) ∙ f.ends in cc)
  | inr ge ↦ (let e = plain_ended (n + 1) (m + 1) s.state (Failed c at) (omega (arith, ge)) f.ends in
      let z : Some Halted ≡ Some (Failed c at) = sym h.ends ∙ ap (λ (r : Run). r.end) e ∙ f.ends in cc)
]

abbrev beside : Context
beside = record { before = []; after = adversary ∷ []; size = 4 }

module _ (same : RunsShowTheSame) (law : OverlayIsFullyAbstract) where
  halts : OnPlain (start true) halting
  halts = (same (both true) 4 (start true) (is_linked true) halting).1
      (ENTRY_WORDS, inside true, matched true, halts_there)

  fails : OnPlain (start false) failing
  fails = (same (both false) 4 (start false) (is_linked false) failing).1
      (ENTRY_WORDS, inside false, matched false, fails_there)

  apart : Equivalent OnPlain untrusted halting (trusted_one true ∷ []) (trusted_one false ∷ []) → ⊥
  apart e =
      let h = (e beside refl (start true) (start false) (is_linked true) (is_linked false)).0 halts in
      one_end (start false) h.0 fails.0 fails.1 fails.2 h.1 fails.3

  pub told_apart : ToldApart
  told_apart = record {
    context = beside;
    no_trusted = refl;
    one = trusted_one true;
    other = trusted_one false;
    one_trusted = refl;
    other_trusted = refl;
    one_start = start true;
    other_start = start false;
    one_links = is_linked true;
    other_links = is_linked false;
    halts = halts;
    fails = fails;
    on_plain = apart;
    on_overlay = λ e. apart ((law (trusted_one true ∷ []) (trusted_one false ∷ [])).1 e);
  }
