-- The law of noninterference, of the teller and what the trusted part has in its data.
use Rattle.std.proofs.Common.{refl, subst, arith}
use Rattle.cap_words.specs.declared.Word.{Word}
use Rattle.lcm_machine.specs.Maps.{State}
use Rattle.lcm_machine.specs.Row.{Outcome}
use Rattle.lcm_machine.specs.Blind.{EndsAlike}
use Rattle.authority_report.specs.Reaches.{is_seal_of}
use Rattle.authority_report.specs.Report.{told_authority}
use Rattle.authority_report.specs.Within.{Authority}
use Rattle.authority_report.specs.Bounds.{plain_run}
use Rattle.authority_report.specs.Entered.{entered_at}
use Rattle.authority_report.specs.Influence.{Unread, ReportsBoundInfluence}
use Rattle.law_instances.specs.Blind.{InData, BlindThere}
use Rattle.law_instances.proofs.Start.{start, owner, secret, entry, is_linked, data_there}
use Rattle.law_instances.proofs.Straight.{fewer, narrowed}
use Rattle.law_instances.proofs.Counting.{before, after, goes, stays_in, arrives, changed, jumps}
use Rattle.law_instances.proofs.Reported.{report, reported, unread}

abbrev g : Authority
g = told_authority owner report

abbrev E : State Word
E = entered_at start owner entry

pub blind_there : ReportsBoundInfluence → BlindThere
blind_there law = record {
  start = start;
  linked = is_linked;
  part = 1;
  owner = owner;
  owner_is = refl;
  untrusted = refl;
  report = report;
  reports = reported;
  secret = secret;
  secret_in = (0, omega arith, refl);
  trusted = refl;
  some_data = omega arith;
  there = data_there;
  unread = unread;
  entry = entry;
  entry_in = (0, omega arith, refl);
  n = 7;
  some = omega arith;
  before = before;
  goes = goes;
  stays = stays_in (is_seal_of owner);
  count = 54;
  changed = changed;
  after = after;
  arrives = arrives;
  seal = 10;
  jumps = jumps;
  foreign = refl;
  same = λ t is.
      (let alike =
      law start 1 report is_linked reported owner entry refl (0, omega arith, refl) t
      (fewer g (InData secret) unread E t is) 7 in
      narrowed g (InData secret) unread E t after (plain_run 8 t) is
      (subst (λ (o : Outcome Word). EndsAlike (Unread g) E t o (plain_run 8 t)) arrives
      (alike.ends (stays_in (is_seal_of owner)))));
}
