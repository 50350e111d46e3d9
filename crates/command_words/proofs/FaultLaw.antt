-- The line takes the words exactly where its parse has no fault.
use Rattle.std.proofs.Common.{◌≡◌, ◌∙◌, ap₂, refl, ℕ, Bool, true, false, not, List, [], ◌∷◌, Option, Some}
use Rattle.std.proofs.Common.{None, length, arith}
use Rattle.std.specs.Prelude.{◌&&◌, ◌||◌, nat_le, if◌then◌else◌, is_some, zero, suc, slice_get, codes}
use Rattle.std.specs.List.{list_all}
use Rattle.std.specs.Option.{option_map_or}
use Rattle.std.specs.Str.{bytes_eq, chars}
use Rattle.std.proofs.lemmas.Bool.{and_parts}
use Rattle.clap.specs.Values.{refused_kind}
use Rattle.clap.specs.ValueTests.{accepts}
use Rattle.clap.specs.Lexer.{long_of, short_of}
use Rattle.clap.specs.Facts.{unwrap_or_range}
use Rattle.clap.specs.Kinds.{Kinds, check_kinds, or_else, range_kinds, values_kinds}
use Rattle.clap.specs.Walk.{Held, Names, Row, Rule, Step, Text, Waiting, Walk, action_of, arg_by_id}
use Rattle.clap.specs.Walk.{arg_by_index, arg_by_long, arg_by_short, attached_value, has_row, is_empty}
use Rattle.clap.specs.Walk.{is_pending, most_values, nothing_held, reacted, settled, subcommand_met}
use Rattle.clap.specs.Walk.{takes_several, takes_values, values_or_missing, walk, walk_from, walked}
use Rattle.clap.specs.Walk.{with_default, finished, word_met, next, trailing, subcommand, value}
use Rattle.clap.specs.Simple.{Shape, entered, argument_words, built}
use Rattle.clap.specs.Takes.{entered_passes, level_passes, action_passes, bundle_passes, bundle_step_passes}
use Rattle.clap.specs.Takes.{count_passes, flag_word_passes, flags_pass, long_passes, option_passes}
use Rattle.clap.specs.Takes.{other_passes, positional_passes, react_passes, set_passes, settle_passes}
use Rattle.clap.specs.Takes.{short_passes, step_passes, takes, turn_passes, use_passes, walk_passes}
use Rattle.clap.specs.Takes.{word_passes, is_given}
use Rattle.clap.specs.Faults.{entered_fault, level_fault, action_fault, bundle_fault, bundle_step_fault}
use Rattle.clap.specs.Faults.{count_fault, default_fault, defaults_fault, fault_of, flag_word_fault}
use Rattle.clap.specs.Faults.{flags_fault, given_default_fault, long_fault, option_fault, other_fault}
use Rattle.clap.specs.Faults.{positional_fault, react_fault, set_fault, settle_fault, short_fault}
use Rattle.clap.specs.Faults.{step_fault, stray_fault, turn_fault, use_fault, walk_fault, word_fault}
use Rattle.clap.specs.declared.builder.action.ArgAction.{ArgAction}
use Rattle.clap.specs.declared.builder.action.ArgAction.TheVariants.{Set, Append, SetTrue, SetFalse, Count}
use Rattle.clap.specs.declared.builder.action.ArgAction.TheVariants.{Help, HelpShort, HelpLong, Version}
use Rattle.clap.specs.declared.builder.value_parser.ValueParser.{ValueParser}
use Rattle.clap.specs.declared.error.kind.ErrorKind.{ErrorKind}
use Rattle.command_words.specs.Line.{line}

abbrev pub clear : Kinds → Bool
clear [] = true
clear (k ∷ ks) = false

both : (x y : Kinds) → clear (or_else x y) ≡ (clear x && clear y)
both [] y = refl
both (k ∷ ks) y = refl

two : (x y : Kinds) (a b : Bool) → clear x ≡ a → clear y ≡ b → clear (or_else x y) ≡ (a && b)
two x y a b e f = both x y ∙ ap₂ (λ p q. p && q) e f

where_not : (k : ErrorKind) (b : Bool) → clear (if b then [] else k ∷ []) ≡ b
where_not k true = refl
where_not k false = refl

chosen : (b : Bool) (x y : Kinds) (p q : Bool) → clear x ≡ p → clear y ≡ q
    → clear (if b then x else y) ≡ (if b then p else q)
chosen true x y p q e f = e
chosen false x y p q e f = f

clear_values : (i : Bool) (p : ValueParser) (vs : List Text) → clear (values_kinds i p vs) ≡ list_all
    (accepts i p) vs
clear_values i p [] = refl
clear_values i p (v ∷ vs) = two _ _ _ _ (where_not (refused_kind p) (accepts i p v)) (clear_values i p vs)

clear_repeat : (h again : Bool) (k : ErrorKind) → clear (if h && not again then k ∷ [] else [])
    ≡ (not h || again)
clear_repeat true true k = refl
clear_repeat true false k = refl
clear_repeat false true k = refl
clear_repeat false false k = refl

clear_set : (again : Bool) (a : Rule) (vs : List Text) (rows : List Row)
    → clear (set_fault again a vs rows) ≡ set_passes again a vs rows
clear_set again a vs rows = two _ _ _ _ (clear_repeat (has_row a.id rows) again _) (clear_values _ _ vs)

clear_count : (a : Rule) (vs : List Text) (rows : List Row)
    → clear (count_fault a vs rows) ≡ count_passes a vs rows
clear_count a [] rows = where_not _ _
clear_count a (v ∷ vs) rows = clear_values _ _ (v ∷ vs)

clear_action : (x : ArgAction) (again : Bool) (a : Rule) (vs : List Text) (rows : List Row)
    → clear (action_fault x again a vs rows) ≡ action_passes x again a vs rows
clear_action Set again a vs rows = clear_set again a vs rows
clear_action SetTrue again a vs rows = clear_set again a vs rows
clear_action SetFalse again a vs rows = clear_set again a vs rows
clear_action Append again a vs rows = clear_values _ _ vs
clear_action Count again a vs rows = clear_count a vs rows
clear_action Help again a vs rows = refl
clear_action HelpShort again a vs rows = refl
clear_action HelpLong again a vs rows = refl
clear_action Version again a vs rows = refl

clear_range : (least most n : ℕ) → clear (range_kinds least most n) ≡ (nat_le least n && nat_le n most)
clear_range least most n = grind arith

assoc : (a b c : Bool) → ((a && b) && c) ≡ (a && (b && c))
assoc true b c = refl
assoc false b c = refl

clear_use : (again : Bool) (a : Rule) (vs : List Text) (rows : List Row)
    → clear (use_fault again a vs rows) ≡ use_passes again a vs rows
clear_use again a vs rows =
    two _ _ _ _ (clear_range (unwrap_or_range a.range).start_inclusive (most_values a) (length vs))
    (clear_action (action_of a) again a (values_or_missing a vs) rows)
    ∙ assoc (nat_le (unwrap_or_range a.range).start_inclusive (length vs))
    (nat_le (length vs) (most_values a))
    (action_passes (action_of a) again a (values_or_missing a vs) rows)

clear_settle : (c : List Rule) (again : Bool) (h : Held)
    → clear (settle_fault c again h) ≡ settle_passes c again h
clear_settle c again h = at h.pending
  where
    by : (vs : List Text) (a : Option Rule) → clear (option_map_or (λ a. use_fault again a vs h.rows) a [])
        ≡ option_map_or (λ a. use_passes again a vs h.rows) a true
    by vs None = refl
    by vs (Some a) = clear_use again a vs h.rows

    at : (p : Option (Text × List Text))
        → clear
        (option_map_or (λ p. option_map_or (λ a. use_fault again a p.1 h.rows) (arg_by_id c p.0) []) p [])
        ≡ option_map_or (λ p. option_map_or (λ a. use_passes again a p.1 h.rows) (arg_by_id c p.0) true) p
        true
    at None = refl
    at (Some p) = by p.1 (arg_by_id c p.0)

clear_react : (c : List Rule) (again : Bool) (a : Rule) (vs : List Text) (h : Held)
    → clear (react_fault c again a vs h) ≡ react_passes c again a vs h
clear_react c again a vs h = two _ _ _ _ (clear_settle c again h) (clear_use again a vs (settled c h).rows)

clear_option : (c : List Rule) (again : Bool) (a : Rule) (v : Option Text) (h : Held)
    → clear (option_fault c again a v h) ≡ option_passes c again a v h
clear_option c again a (Some v) h = clear_react c again a (v ∷ []) h
clear_option c again a None h = clear_settle c again h

clear_long : (c : List Rule) (again : Bool) (a : Option Rule) (v : Option Text) (h : Held)
    → clear (long_fault c again a v h) ≡ long_passes c again a v h
clear_long c again None v h = refl
clear_long c again (Some a) None h = chosen (takes_values a) _ _ _ _ (clear_option c again a None h)
    (clear_react c again a [] h)
clear_long c again (Some a) (Some v) h = chosen (takes_values a) _ _ _ _
    (clear_option c again a (Some v) h) refl

clear_short : (c : List Rule) (again : Bool) (a : Option Rule) (rest : Text) (h : Held) (f : Held → Kinds)
    (g : Held → Bool) → ((h : Held) → clear (f h) ≡ g h)
    → clear (short_fault c again a rest h f) ≡ short_passes c again a rest h g
clear_short c again None rest h f g e = refl
clear_short c again (Some a) rest h f g e = chosen (takes_values a) _ _ _ _
    (clear_option c again a (attached_value rest) h)
    (two _ _ _ _ (clear_react c again a [] h) (e (reacted c a [] h)))

clear_bundle_step : (c : List Rule) (again : Bool) (x : Option ℕ) (flags : Text) (skip : ℕ) (h : Held)
    (f : Text → ℕ → Held → Kinds) (g : Text → ℕ → Held → Bool)
    → ((t : Text) (k : ℕ) (h : Held) → clear (f t k h) ≡ g t k h)
    → clear (bundle_step_fault c again x flags skip h f) ≡ bundle_step_passes c again x flags skip h g
clear_bundle_step c again None flags skip h f g e = refl
clear_bundle_step c again (Some x) flags zero h f g e = clear_short c again (arg_by_short c x) _ h _ _
    (e _ 0)
clear_bundle_step c again (Some x) flags (suc skip) h f g e = e _ skip h

clear_flags : (c : List Rule) (again : Bool) (k : ℕ) (flags : Text) (skip : ℕ) (h : Held)
    → clear (flags_fault c again k flags skip h) ≡ flags_pass c again k flags skip h
unfolding flags_fault flags_pass
clear_flags c again zero flags skip h = refl
clear_flags c again (suc k) flags skip h = clear_bundle_step c again
    (slice_get (chars flags) 0) flags skip h (flags_fault c again k) (flags_pass c again k)
    (clear_flags c again k)

clear_flag_word : (c : List Rule) (again : Bool) (p : Option (Text × Option Text)) (word : Text) (h : Held)
    → clear (flag_word_fault c again p word h) ≡ flag_word_passes c again p word h
clear_flag_word c again (Some p) word h = clear_long c again (arg_by_long c p.0) p.1 h
clear_flag_word c again None word h = short (short_of word)
  where
    short : (flags : Option Text) → clear (option_map_or (λ flags. bundle_fault c again flags h) flags [])
        ≡ option_map_or (λ flags. bundle_passes c again flags h) flags true
    short None = refl
    short (Some flags) = clear_flags c again (length flags) flags h.skip (record h { skip = 0 })

help_asked : (b d : Bool) (x y : ErrorKind) → clear (if b && not d then x ∷ y ∷ [] else []) ≡ (not b || d)
help_asked true true x y = refl
help_asked true false x y = refl
help_asked false d x y = refl

clear_other : (s : Shape) (name : Option Text) (word : Text) (h : Held)
    → clear (other_fault s name word h) ≡ other_passes s name word h
clear_other s (Some name) word h = help_asked (bytes_eq name (codes "help")) s.disable_help_subcommand _ _
clear_other s None word h = ends (bytes_eq word (45 ∷ 45 ∷ []))
  where
    ends : (b : Bool)
        → clear (if b then [] else flag_word_fault s.rules s.args_override_self (long_of word) word h)
        ≡ (b || flag_word_passes s.rules s.args_override_self (long_of word) word h)
    ends true = refl
    ends false = clear_flag_word s.rules s.args_override_self (long_of word) word h

clear_word : (s : Shape) (names : Names) (is_trailing : Bool) (waiting : Waiting) (word : Text) (h : Held)
    → clear (word_fault s names is_trailing waiting word h) ≡ word_passes s names is_trailing waiting word h
clear_word s names true waiting word h = refl
clear_word s names false waiting word h = clear_other s (subcommand_met names waiting word) word h

clear_positional : (c : List Rule) (again : Bool) (a : Rule) (h : Held)
    → clear (positional_fault c again a h) ≡ positional_passes c again a h
clear_positional c again a h = by (is_pending a h.pending && takes_several a)
  where
    by : (b : Bool) → clear (if b then [] else settle_fault c again h) ≡ (b || settle_passes c again h)
    by true = refl
    by false = clear_settle c again h

clear_step : (s : Shape) (position : ℕ) (h : Held) (x : Step)
    → clear (step_fault s position h x) ≡ step_passes s position h x
clear_step s position h (next w) = refl
clear_step s position h (trailing p) = refl
clear_step s position h (subcommand t) = refl
clear_step s position h value = by (arg_by_index s.rules position)
  where
    stray : (b : Bool) (x y : ErrorKind) (z : ErrorKind) → clear (if b then x ∷ [] else y ∷ z ∷ []) ≡ false
    stray true x y z = refl
    stray false x y z = refl

    by : (a : Option Rule)
        → clear (option_map_or (λ a. positional_fault s.rules s.args_override_self a h) a (stray_fault s))
        ≡ option_map_or (λ a. positional_passes s.rules s.args_override_self a h) a false
    by None = stray s.is_leaf _ _ _
    by (Some a) = clear_positional s.rules s.args_override_self a h

clear_turn : (s : Shape) (names : Names) (w : Walk) (word : Text)
    → clear (turn_fault s names w word) ≡ turn_passes s names w word
clear_turn s names w word = by (is_some w.stopped)
  where
    met : Held × Step
    met = word_met s.rules names w.is_trailing w.waiting w.position word w.held

    by : (b : Bool)
        → clear (if b then [] else or_else (word_fault s names w.is_trailing w.waiting word w.held)
        (step_fault s w.position met.0 met.1))
        ≡ (b ||
        (word_passes s names w.is_trailing w.waiting word w.held && step_passes s w.position met.0
        met.1))
    by true = refl
    by false = two _ _ _ _ (clear_word s names w.is_trailing w.waiting word w.held)
        (clear_step s w.position met.0 met.1)

clear_walk : (s : Shape) (names : Names) (w : Walk) (words : List Text)
    → clear (walk_fault s names w words) ≡ walk_passes s names w words
unfolding walk_fault walk_passes
clear_walk s names w [] = refl
clear_walk s names w (word ∷ rest) = two _ _ _ _ (clear_turn s names w word)
    (clear_walk s names (walked s.rules names w word) rest)

none_if : (b c : Bool) (x : Kinds) → c ≡ true → clear (if b || c then [] else x) ≡ true
none_if true c x e = refl
none_if false c x e = rw e refl

clear_default : (rows : List Row) (a : Rule) → is_empty a.defaults ≡ true
    → clear (default_fault rows a) ≡ true
clear_default rows a e = none_if (has_row a.id rows) (is_empty a.defaults)
    (given_default_fault a a.defaults) e

clear_defaults : (rows : List Row) (rules : List Rule) → list_all (λ a. is_empty a.defaults) rules ≡ true
    → clear (defaults_fault rows rules) ≡ true
unfolding defaults_fault
clear_defaults rows [] e = refl
clear_defaults rows (a ∷ rest) e =
    let p = and_parts (is_empty a.defaults) (list_all (λ a. is_empty a.defaults) rest) e in
    two _ _ true true (clear_default rows a p.0) (clear_defaults (with_default rows a) rest p.1)

missing : (g : Bool) → clear (check_kinds false false (not g || false)) ≡ (g && true)
missing true = refl
missing false = refl

abbrev top : Shape
top = (built line).top

level : (words : List Text) → clear (level_fault top [] nothing_held words false [])
    ≡ level_passes top [] nothing_held words false
level words =
    let end = (walk top.rules [] nothing_held words).held in
    two _ _ _ _ (clear_walk top [] (walk_from nothing_held) words)
    (two _ _ _ _ (clear_settle top.rules false end)
    (two _ _ _ _ (clear_defaults (settled top.rules end).rows top.rules refl)
    (missing (is_given (codes "ACTION") (finished top.rules end)))))

pub fault_law : (words : List Text) → clear (fault_of line words) ≡ takes line words
fault_law words = by (walk top.rules [] nothing_held (argument_words line words)).stopped
  where
    by : (stop : Option (Text × List Text))
        → clear
        (level_fault top [] nothing_held (argument_words line words) (is_some (entered (built line) stop))
        (entered_fault (built line) stop))
        ≡ (entered_passes (built line) stop && level_passes top [] nothing_held (argument_words line words)
        (is_some (entered (built line) stop)))
    by None = level (argument_words line words)
    by (Some p) = level (argument_words line words)
