use Rattle.call_sequence.proofs.Placed.{site_within, entry_within, site_stands, entry_stands}
use Rattle.call_sequence.proofs.laws.sequences_stand.Goals as goal

pub returns-clause-sites_within : goal.returns-clause-sites_within
returns-clause-sites_within c = λ d kept. site_within d kept.placed

pub returns-clause-entries_within : goal.returns-clause-entries_within
returns-clause-entries_within c = λ d fits kept. entry_within d kept.placed fits

pub returns-clause-sites : goal.returns-clause-sites
returns-clause-sites c = λ d fits kept. site_stands d kept.placed

pub returns-clause-entries : goal.returns-clause-entries
returns-clause-entries c = λ d fits kept. entry_stands d kept.placed fits
