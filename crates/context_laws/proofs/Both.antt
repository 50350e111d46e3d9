-- Two lists of linked sources, with what is cited of the crates below; and what both links have.
use Rattle.std.proofs.Common.{◌≡◌, ℕ, List, ◌++◌, map, sym, subst}
use Rattle.overlay_machine.specs.declared.words.OWord.{OWord}
use Rattle.overlay_machine.specs.State.{OState}
use Rattle.overlay_machine.specs.Link.{Link}
use Rattle.overlay_machine.specs.Linked.{IsLink}
use Rattle.overlay_machine.specs.Names.{NamesTold}
use Rattle.overlay_machine.specs.Starting.{StartsBegin}
use Rattle.overlay_machine.proofs.Offers.{starts_tell_names}
use Rattle.trusted_border.specs.declared.layout.Layout.{Layout}
use Rattle.run_lines.specs.Layout.{layout}
use Rattle.source_events.specs.declared.Item.{Item}
use Rattle.source_events.specs.declared.End.TheVariants.{OutOfFuel}
use Rattle.proc_semantics.specs.Values.{World}
use Rattle.proc_semantics.specs.Marked.{Thing, Event, refined}
use Rattle.same_meanings.specs.Observed.{Name, CallNames, SameFeed, FeedFits, events_named, observed}
use Rattle.same_meanings.specs.Observed.{TellsAsMuch, EndsAsWell}
use Rattle.source_laws.specs.Seen.{Back}
use Rattle.source_starts.specs.Links.{overlay_link, first_state}
use Rattle.source_starts.specs.Sources.{LinkedSources, world_of, SourcesLeaveNothing, SourcesDoWhatTheyMean}
use Rattle.source_starts.specs.Words.{SourcesTellWords}
use Rattle.source_starts.specs.Wiped.{WipedCellsAreTold}
use Rattle.lockstep.specs.Lockstep.{HoldsAlong, Tidies}
use Rattle.context_laws.proofs.Sources.{StartsAgree, linked_is, holds_is, tidies_is}

-- what came in, and its items
abbrev pub Things : Type 0
Things = List (Thing OWord Back)

abbrev pub feed : Things → List Item
feed xs = map (λ (x : Thing OWord Back). x.item) xs

pub record TwoLinks : Type 0 where
  pub begin : StartsBegin
  pub agree : StartsAgree
  pub leaves : SourcesLeaveNothing
  pub words : SourcesTellWords
  pub wipes : WipedCellsAreTold
  pub means : SourcesDoWhatTheyMean
  pub one : LinkedSources
  pub other : LinkedSources
  pub one_size : one.size ≡ other.size

module _ (begin : StartsBegin) (agree : StartsAgree) (leaves : SourcesLeaveNothing) (words : SourcesTellWords)
    (wipes : WipedCellsAreTold) (means : SourcesDoWhatTheyMean) where
  abbrev pub two_links : (a b : LinkedSources) → a.size ≡ b.size → TwoLinks
  two_links a b one_size = record {
    begin = begin;
    agree = agree;
    leaves = leaves;
    words = words;
    wipes = wipes;
    means = means;
    one = a;
    other = b;
    one_size = one_size;
  }

abbrev pub turned : TwoLinks → TwoLinks
turned it = record it { one = it.other; other = it.one; one_size = sym it.one_size }

module _ (it : TwoLinks) where
  abbrev pub G : Link
  G = overlay_link it.one.link

  abbrev pub H : Link
  H = overlay_link it.other.link

  abbrev pub L : Layout
  L = layout it.one.start

  abbrev pub L' : Layout
  L' = layout it.other.start

  abbrev pub O : OState
  O = first_state it.one.link

  abbrev pub O' : OState
  O' = first_state it.other.link

  abbrev pub W : World
  W = world_of it.one

  abbrev pub W' : World
  W' = world_of it.other

  pub lg : IsLink G
  lg = linked_is it.begin it.one.linked

  pub lh : IsLink H
  lh = linked_is it.begin it.other.linked

  pub hg : HoldsAlong G O
  hg = holds_is it.agree it.one.linked

  pub hh : HoldsAlong H O'
  hh = holds_is it.agree it.other.linked

  pub tg : Tidies G O
  tg = tidies_is it.leaves it.one

  pub th : Tidies H O'
  th = tidies_is it.leaves it.other

  pub ng : NamesTold G.parts L
  ng = starts_tell_names G.parts it.one.size it.one.start it.one.is_start

  pub nh : NamesTold H.parts L'
  nh = starts_tell_names H.parts it.other.size it.other.start it.other.is_start

  -- ---- the one tells as much as the other, and ends as it does, each with the stack of its own link

  module _ (calls : CallNames) where
    abbrev ToldWith : ℕ → Type 0
    ToldWith size =
        (feed feed' : List Item) → SameFeed calls feed feed' → FeedFits feed → (fuel : ℕ) → (enough : ℕ)
        × (rest : List (Event Name ℕ))
        × (events_named calls.other (observed W' size feed' enough)
        ≡ events_named calls.one (observed W it.one.size feed fuel) ++ rest)

    abbrev EndsWith : ℕ → Type 0
    EndsWith size =
        (feed feed' : List Item) → SameFeed calls feed feed' → FeedFits feed → (fuel : ℕ)
        → ((refined W it.one.size feed fuel).end ≡ OutOfFuel → ⊥) → (enough : ℕ)
        × ((refined W' size feed' enough).end ≡ (refined W it.one.size feed fuel).end)

    abbrev pub Tells : Type 0
    Tells = ToldWith it.other.size

    abbrev pub EndsLike : Type 0
    EndsLike = EndsWith it.other.size

    pub tells_so : TellsAsMuch calls W W' it.one.size → Tells
    tells_so same = subst ToldWith it.one_size same

    pub ends_so : EndsAsWell calls W W' it.one.size → EndsLike
    ends_so ends = subst EndsWith it.one_size ends
