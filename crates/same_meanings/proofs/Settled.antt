-- Where a fuel is enough on each feed for the same to be told, or for the same end, that is what it is to
-- mean the same, and to end the same way, with calls by their numbers.
use Rattle.std.proofs.Common.{◌≡◌, ℕ, ◌+◌, ◌≤◌, List, [], ◌∷◌, ◌++◌, map, refl, sym, ap, ◌∙◌, arith}
use Rattle.std.proofs.lemmas.List.{map-append}
use Rattle.source_events.specs.declared.Item.{Item}
use Rattle.source_events.specs.declared.Item.TheVariants.{Enter, Ret}
use Rattle.source_events.specs.declared.FeedBack.{FeedBack}
use Rattle.source_events.specs.declared.FeedBack.TheVariants as way
use Rattle.proc_semantics.specs.Values.{World}
use Rattle.proc_semantics.specs.Marked.{Event, Calls, Leaves, refined, event_to}
use Rattle.same_meanings.specs.Observed.{Name, by_number, AreOneToOne, back_named, item_named, feed_named}
use Rattle.same_meanings.specs.Observed.{event_named, events_named, name_of, observed, FeedFits, SameFeed}
use Rattle.same_meanings.specs.Observed.{TellsAsMuch, MeanTheSame, EndsAsWell, EndTheSame}
use Rattle.same_meanings.proofs.Fuels.{told_later, end_later}

-- ---- calls by their numbers

pub numbers_apart : AreOneToOne by_number
numbers_apart = (
  λ part part' i j e. (ap (λ z. z.0) e, ap (λ z. z.1) e),
  λ part part' i j e. (ap (λ z. z.0) e, ap (λ z. z.1) e),
)

item_same : (i : Item) → item_named by_number.one i ≡ i
item_same (Ret part site base v) = refl
item_same (Enter part name left ints pairs back) = ap (Enter part name left ints pairs) (by back)
  where
    by : (b : FeedBack) → back_named by_number.one b ≡ b
    by way.Out = refl
    by way.Bad = refl
    by (way.Hop p m) = refl
    by (way.Pair p site base) = refl

feed_same : (feed : List Item) → feed_named by_number.one feed ≡ feed
feed_same [] = refl
feed_same (i ∷ feed) =
    ap (λ z. z ∷ feed_named by_number.one feed) (item_same i) ∙ ap (λ z. i ∷ z) (feed_same feed)

pub one_feed : (feed feed' : List Item) → SameFeed by_number feed feed' → feed ≡ feed'
one_feed feed feed' same = sym (feed_same feed) ∙ same ∙ feed_same feed'

event_same : (e : Event Name ℕ) → event_named by_number.one e ≡ e
event_same (Calls part site base low x y xs) = refl
event_same (Leaves part v low k) = refl

events_same : (es : List (Event Name ℕ)) → events_named by_number.one es ≡ es
events_same [] = refl
events_same (e ∷ es) =
    ap (λ z. z ∷ events_named by_number.one es) (event_same e) ∙ ap (λ z. e ∷ z) (events_same es)

-- ---- from some fuel on

-- both tell the same
abbrev pub SettledTold : World → World → ℕ → Type 0
SettledTold w v size =
    (feed : List Item) → FeedFits feed → (enough : ℕ)
    × ((f : ℕ) → enough ≤ f → observed w size feed f ≡ observed v size feed f)

-- both end the same way, if only by running out of fuel
abbrev pub SettledEnds : World → World → ℕ → Type 0
SettledEnds w v size =
    (feed : List Item) → FeedFits feed → (enough : ℕ)
    × ((f : ℕ) → enough ≤ f → (refined w size feed f).end ≡ (refined v size feed f).end)

tells_settled : (w v : World) (size : ℕ) → SettledTold w v size → TellsAsMuch by_number w v size
tells_settled w v size same feed feed' fed fits f =
    let k = same feed fits in
    let m = told_later w size feed f k.0 in (
      f + k.0,
      map (event_to (name_of w) (λ k. k)) m.0,
      events_same (observed v size feed' (f + k.0))
          ∙ ap (λ z. observed v size z (f + k.0)) (sym (one_feed feed feed' fed))
          ∙ sym (k.1 (f + k.0) (omega arith)) ∙ ap (map (event_to (name_of w) (λ k. k))) m.1
          ∙ map-append (event_to (name_of w) (λ k. k)) (refined w size feed f).events m.0
          ∙ ap (λ z. z ++ map (event_to (name_of w) (λ k. k)) m.0)
          (sym (events_same (observed w size feed f))),
    )

pub settled_mean : (w v : World) (size : ℕ) → SettledTold w v size → MeanTheSame by_number w v size
settled_mean w v size same = (
  tells_settled w v size same,
  tells_settled v w size (λ feed fits. ((same feed fits).0, λ f le. sym ((same feed fits).1 f le))),
)

ends_settled : (w v : World) (size : ℕ) → SettledEnds w v size → EndsAsWell by_number w v size
ends_settled w v size same feed feed' fed fits f ended =
    let k = same feed fits in (
      f + k.0,
      ap (λ z. (refined v size z (f + k.0)).end) (sym (one_feed feed feed' fed))
          ∙ sym (k.1 (f + k.0) (omega arith)) ∙ end_later w size feed f k.0 _ refl ended,
    )

pub settled_ends : (w v : World) (size : ℕ) → SettledEnds w v size → EndTheSame by_number w v size
settled_ends w v size same = (
  ends_settled w v size same,
  ends_settled v w size (λ feed fits. ((same feed fits).0, λ f le. sym ((same feed fits).1 f le))),
)
