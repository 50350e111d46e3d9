-- Fields that tell where a jump leads.
use Rattle.std.specs.Prelude.{ℕ, List, codes, Option, Some, None, option_map, if◌then◌else◌}
use Rattle.std.specs.Str.{bytes_eq}
use Rattle.cap_words.specs.Names.{is_name}
use Rattle.source_events.specs.declared.FeedBack.{FeedBack}
use Rattle.source_events.specs.declared.FeedBack.TheVariants as feed_back
use Rattle.source_events.specs.declared.FeedPair.{FeedPair}
use Rattle.source_events.specs.declared.FeedPair.TheVariants as feed_pair
use Rattle.line_fields.specs.declared.forms.WayBack.{WayBack}
use Rattle.line_fields.specs.declared.forms.WayBack.TheVariants as back
use Rattle.line_fields.specs.declared.forms.Handed.{Handed}
use Rattle.line_fields.specs.declared.forms.Handed.TheVariants as handed
use Rattle.line_fields.specs.Options.{◌>>=◌, where_true}
use Rattle.line_fields.specs.Cuts.{cut, behind}
use Rattle.line_fields.specs.Numbers.{natural_in}
use Rattle.line_fields.specs.Entries.{EntrySeen, CallSeen}

abbrev pub name_in : List ℕ → Option (List ℕ)
name_in text = where_true (is_name text) text

-- PART:EXPORT
unfoldable pub entry_in : List ℕ → Option EntrySeen
entry_in text = do
  names ← cut 58 text
  part ← name_in names.0
  name ← name_in names.1
  Some (record { part = part; name = name })

-- PART:SITE:BASE
unfoldable pub call_in : List ℕ → Option CallSeen
call_in text = do
  call ← cut 58 text
  part ← name_in call.0
  place ← cut 58 call.1
  site ← natural_in place.0
  base ← natural_in place.1
  Some (record { part = part; site = site; base = base })

-- what the jumps that were read tell
abbrev pub hop_back : EntrySeen → FeedBack
hop_back entry = feed_back.Hop entry.part entry.name

abbrev pub pair_back : CallSeen → FeedBack
pair_back call = feed_back.Pair call.part call.site call.base

abbrev pub back_seen : WayBack → FeedBack
back_seen back.Out = feed_back.Out
back_seen back.Bad = feed_back.Bad
back_seen (back.Hop entry) = hop_back entry
back_seen (back.Pair call) = pair_back call

abbrev pub hop_pair : EntrySeen → FeedPair
hop_pair entry = feed_pair.Hop entry.part entry.name

abbrev pub handed_seen : Handed → FeedPair
handed_seen handed.Nothing = feed_pair.Nothing
handed_seen handed.Bad = feed_pair.Bad
handed_seen handed.Out = feed_pair.Out
handed_seen (handed.Hop entry) = hop_pair entry

abbrev pub pair_behind : Option (List ℕ) → Option FeedBack
pair_behind None = None
pair_behind (Some call) = option_map pair_back (call_in call)

abbrev pub back_behind : List ℕ → Option (List ℕ) → Option FeedBack
back_behind text None = pair_behind (behind (codes "pair:") text)
back_behind text (Some entry) = option_map hop_back (entry_in entry)

-- out, bad, hop:PART:EXPORT or pair:PART:SITE:BASE
unfoldable pub back_in : List ℕ → Option FeedBack
back_in text =
    if bytes_eq (codes "out") text then Some feed_back.Out
    else if bytes_eq (codes "bad") text then Some feed_back.Bad
    else back_behind text (behind (codes "hop:") text)

abbrev pub handed_behind : Option (List ℕ) → Option FeedPair
handed_behind None = None
handed_behind (Some entry) = option_map hop_pair (entry_in entry)

-- none, bad, out or hop:PART:EXPORT
unfoldable pub handed_in : List ℕ → Option FeedPair
handed_in text =
    if bytes_eq (codes "none") text then Some feed_pair.Nothing
    else if bytes_eq (codes "bad") text then Some feed_pair.Bad
    else if bytes_eq (codes "out") text then Some feed_pair.Out
    else handed_behind (behind (codes "hop:") text)
